-- The answer that a table's device or fault is.
use Rattle.std.proofs.Common.{ℕ, List, Result, Ok, Err}
use Rattle.nv_memory.specs.declared.device.Device.{Device}
use Rattle.device_profile.specs.Answer.{ComesTo, IsAnswer, answered}
use Rattle.device_profile.specs.Told.{told}
use Rattle.device_profile.specs.declared.fault.KeyFault.{KeyFault}
use Rattle.device_profile.specs.declared.fault.KeyFault.TheVariants as wrong

pub answered-is : (bytes : List ℕ) (r : Result Device KeyFault) → ComesTo bytes (told r) → IsAnswer bytes (answered r)
answered-is bytes (Ok d) h = h
answered-is bytes (Err (wrong.Missing k)) h = h
answered-is bytes (Err wrong.Extra) h = h
answered-is bytes (Err (wrong.Range k)) h = h
