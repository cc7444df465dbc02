-- What `device` may answer.
use Rattle.std.specs.Prelude.{ℕ, ◌≡◌, ◌≤◌, ◌<◌, length, List, Some, None, Result, Ok, Err, IsUtf8, ⊤}
use Rattle.toml.specs.Data.{Members}
use Rattle.toml.specs.Parse.{parse_document}
use Rattle.cn_tables.specs.Table.{most_bytes}
use Rattle.nv_memory.specs.declared.device.Device.{Device}
use Rattle.device_profile.specs.Profile.{Profile, profile_of}
use Rattle.device_profile.specs.Told.{profile_told}
use Rattle.device_profile.specs.declared.fault.KeyFault.{KeyFault}
use Rattle.device_profile.specs.declared.fault.KeyFault.TheVariants as wrong
use Rattle.device_profile.specs.declared.fault.DeviceFault.{DeviceFault}
use Rattle.device_profile.specs.declared.fault.DeviceFault.TheVariants as fault

-- the answer that a table's device or fault is
abbrev pub answered : Result Device KeyFault → Result Device DeviceFault
answered (Ok d) = Ok d
answered (Err (wrong.Missing k)) = Err (fault.DeviceKey k)
answered (Err wrong.Extra) = Err fault.DeviceExtra
answered (Err (wrong.Range k)) = Err (fault.DeviceRange k)

-- the bytes are a text of at most the greatest length, which TOML reads as a table that comes to this
abbrev pub ComesTo : List ℕ → Result Profile KeyFault → Type 0
ComesTo bytes r = (length bytes ≤ most_bytes) × IsUtf8 bytes × ((m : Members) × (parse_document bytes ≡ Some m) × (profile_of m ≡ r))

abbrev pub IsAnswer : List ℕ → Result Device DeviceFault → Type 0
IsAnswer bytes (Ok d) = ComesTo bytes (Ok (profile_told d))
IsAnswer bytes (Err fault.DeviceLong) = most_bytes < length bytes
IsAnswer bytes (Err fault.DeviceSyntax) = (length bytes ≤ most_bytes) × (IsUtf8 bytes → parse_document bytes ≡ None)
IsAnswer bytes (Err (fault.DeviceKey k)) = ComesTo bytes (Err (wrong.Missing k))
IsAnswer bytes (Err fault.DeviceExtra) = ComesTo bytes (Err wrong.Extra)
IsAnswer bytes (Err (fault.DeviceRange k)) = ComesTo bytes (Err (wrong.Range k))
IsAnswer bytes (Err fault.NoMemory) = ⊤
