-- What a profile's table spells, or its first fault.
use Rattle.std.specs.Prelude.{ℕ, ◌&&◌, ◌||◌, not, nat_eq, if◌then◌else◌, is_none, Bool, true, false, List, [], ◌∷◌, Option, Some, None, option_and_then, Result, Ok, Err}
use Rattle.std.specs.Cmp.Lexicographic.{pointwise}
use Rattle.cn_tables.specs.FillText.{fill_of}
use Rattle.cn_tables.specs.Ranges.{within}
use Rattle.toml.specs.Data.{Data, Members, no_members, member, as_table, as_integer, as_str, get_member}
pub use Rattle.device_profile.specs.Keys.{all_keys, name_of, section_of, top_names, part_names, section_names}
use Rattle.device_profile.specs.declared.keys.Key.{Key}
use Rattle.device_profile.specs.declared.keys.Key.TheVariants as key
use Rattle.device_profile.specs.declared.parts.Store.{Store}
use Rattle.device_profile.specs.declared.parts.Supply.{Supply}
use Rattle.device_profile.specs.declared.fault.KeyFault.{KeyFault}
use Rattle.device_profile.specs.declared.fault.KeyFault.TheVariants as fault

-- the value at a name in a table; none where there is no such table
abbrev pub in_section : List ℕ → List ℕ → Members → Option Data
in_section section name members = option_and_then (get_member name) (option_and_then as_table (get_member section members))

abbrev pub at_path : Option (List ℕ) → List ℕ → Members → Option Data
at_path None name members = get_member name members
at_path (Some section) name members = in_section section name members

-- the value at a key
abbrev pub value_at : Key → Members → Option Data
value_at k members = at_path (section_of k) (name_of k) members

-- the first of these keys that is missing
unfoldable pub first_missing : List Key → Members → Option Key
first_missing [] m = None
first_missing (k ∷ ks) m = if is_none (value_at k m) then Some k else first_missing ks m

-- a name is one of these
unfoldable pub is_among : List ℕ → List (List ℕ) → Bool
is_among name [] = false
is_among name (x ∷ xs) = pointwise nat_eq name x || is_among name xs

-- every key of the table is one of these
unfoldable pub has_only : List (List ℕ) → Members → Bool
has_only names no_members = true
has_only names (member name value rest) = is_among name names && has_only names rest

-- a table, if it is one, has these keys alone
abbrev pub is_plain : Option Members → Bool
is_plain None = true
is_plain (Some inner) = has_only part_names inner

abbrev pub are_plain : List (List ℕ) → Members → Bool
are_plain [] m = true
are_plain (s ∷ ss) m = is_plain (option_and_then as_table (get_member s m)) && are_plain ss m

-- a further key stands somewhere
abbrev pub has_extra : Members → Bool
has_extra m = not (has_only top_names m && are_plain section_names m)

-- the number that a value is, from `least` to `most`
abbrev pub number_in : ℕ → ℕ → Option Data → Option ℕ
number_in least most d = option_and_then (within least most) (option_and_then as_integer d)

-- the bytes that a text spells in 2 to 128 hexadecimal digits
abbrev pub fill_in : Option Data → Option (List ℕ)
fill_in d = option_and_then fill_of (option_and_then as_str d)

-- what a key's value comes to, or that it is out of range
abbrev pub or_range : {A B : Type 0} → Key → (A → Result B KeyFault) → Option A → Result B KeyFault
or_range k next None = Err (fault.Range k)
or_range k next (Some x) = next x

abbrev pub with_number : {B : Type 0} → Key → ℕ → ℕ → Members → (ℕ → Result B KeyFault) → Result B KeyFault
with_number k least most m next = or_range k next (number_in least most (value_at k m))

abbrev pub then_ok : {A B : Type 0} → (A → Result B KeyFault) → Result A KeyFault → Result B KeyFault
then_ok next (Ok x) = next x
then_ok next (Err e) = Err e

-- what a profile spells for a class of operations
pub record CostNumbers : Type 0 where
  pub ticks : ℕ
  pub bound : ℕ
  pub actual : ℕ

-- what a profile spells
pub record Profile : Type 0 where
  pub cap : ℕ
  pub start : ℕ
  pub resume : ℕ
  pub log : ℕ
  pub p : ℕ
  pub q : ℕ
  pub fill : List ℕ
  pub basic : CostNumbers
  pub memory : CostNumbers
  pub out : CostNumbers
  pub write : CostNumbers
  pub wake : CostNumbers

abbrev pub cost_at : Key → Key → Key → Members → Result CostNumbers KeyFault
cost_at t b a m =
    with_number t 1 1000 m
    (λ ticks. with_number b 0 1000000 m (λ bound. with_number a 0 1000000 m (λ actual. Ok (record { ticks = ticks; bound = bound; actual = actual }))))

abbrev pub store_at : Members → Result Store KeyFault
store_at m =
    with_number key.Cap 1 1000000 m
    (λ cap. with_number key.Start 0 cap m (λ start. with_number key.Resume 0 cap m (λ resume. Ok (record { cap = cap; start = start; resume = resume }))))

abbrev pub supply_at : Members → Result Supply KeyFault
supply_at m =
    with_number key.Log 1 1000000 m
    (λ log. with_number key.P 1 1000000 m (λ p. with_number key.Q 0 1000000 m (λ q. Ok (record { log = log; p = p; q = q }))))

abbrev pub device_at : Members → Result Profile KeyFault
device_at m =
    then_ok (λ store. then_ok (λ supply. or_range key.Fill (λ fill.
    then_ok (λ basic. then_ok (λ memory. then_ok (λ out. then_ok (λ write. then_ok (λ wake.
    Ok (record { cap = store.cap; start = store.start; resume = store.resume; log = supply.log; p = supply.p; q = supply.q; fill = fill; basic = basic; memory = memory; out = out; write = write; wake = wake }))
    (cost_at key.WakeTicks key.WakeBound key.WakeActual m))
    (cost_at key.WriteTicks key.WriteBound key.WriteActual m))
    (cost_at key.OutTicks key.OutBound key.OutActual m))
    (cost_at key.MemoryTicks key.MemoryBound key.MemoryActual m))
    (cost_at key.BasicTicks key.BasicBound key.BasicActual m))
    (fill_in (value_at key.Fill m))) (supply_at m)) (store_at m)

-- the first key that is missing, then further keys, then ranges
abbrev pub keyed : Members → Option Key → Result Profile KeyFault
keyed m (Some k) = Err (fault.Missing k)
keyed m None = if has_extra m then Err fault.Extra else device_at m

abbrev pub profile_of : Members → Result Profile KeyFault
profile_of m = keyed m (first_missing all_keys m)
