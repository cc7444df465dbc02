-- The greatest sum over the paths of a version, and the instructions of a part of one.
use Rattle.std.proofs.Common.{◌≡◌, ℕ, zero, suc, ◌+◌, ◌≤◌, inl, List, [], ◌∷◌, length, refl, ap, arith}
use Rattle.std.specs.Prelude.{Some, slice_get}
use Rattle.cat_machine.specs.CodeValue.{CodeValue}
use Rattle.cat_machine.specs.Costs.{instr_cost, place_cost, path_cost}
use Rattle.cost_bounds.specs.Pass.{Worth, AtEnd, TurnsBack, Leaves, Tests, Repeats, GoesOn as Straight}
use Rattle.cn_object.specs.Regions.{version_entries}
use Rattle.cn_object.specs.Lengths.{each_one}
use Rattle.cn_object.specs.Verified.{IsVerified}
use Rattle.cn_object.specs.Sums.{PartFrom, Stops, LeadsOn, HandlerSums}
use Rattle.cn_object.proofs.Spanning.{targets_exist, version_is_entry, version_entry_in}
use Rattle.cn_object.proofs.Around.{Looped, InVersions, entry_none}
use Rattle.cn_object.proofs.Ways.{Outmost, Within, Plain, AtTurn, worth_exists, entry_most, entry_reached, entry_no_turn, leads_within}
use Rattle.cn_object.proofs.Counting.{length_is_cost}

-- each instruction counts, so a place is worth one at least
worth_some : (code : CodeValue) (pc c : ℕ) → Worth each_one code pc c → 1 ≤ c
worth_some code _ _ (AtEnd is) = omega arith
worth_some code _ _ (TurnsBack to is low) = omega arith
worth_some code _ _ (Leaves to is ahead w) = omega arith
worth_some code _ _ (Tests to is ahead wa wb) = omega arith
worth_some code _ _ (Repeats n before to is place pushed ahead wa wb) = omega arith
worth_some code _ _ (Straight x is straight w) = omega arith

within_some : (code : CodeValue) (l : Looped code) (pc : ℕ) (left : List ℕ) (m : ℕ) → Within each_one code l pc left m → 1 ≤ m
within_some code l pc _ _ (Plain {c = c} never w around) = let some = worth_some code pc c w in omega (arith, some)
within_some code l pc _ _ (AtTurn end at wa wb around) = omega arith

-- a place as often as this: a sum that is a given number
abbrev copies : ℕ → ℕ → List ℕ
copies zero pc = []
copies (suc n) pc = pc ∷ copies n pc

copies_sum : (code : CodeValue) (n pc : ℕ) → place_cost each_one code pc ≡ 1 → path_cost (place_cost each_one code) (copies n pc) ≡ n
copies_sum code zero pc one = refl
copies_sum code (suc n) pc one = let rest = copies_sum code n pc one in omega (arith, one, rest)

-- a part of a path is shorter than what may still come
part_within : (code : CodeValue) (l : Looped code) {pc : ℕ} {left path : List ℕ} → PartFrom code pc left path → (m : ℕ) → InVersions code pc → Within each_one code l pc left m → length path + 1 ≤ m
part_within code l (Stops {pc} {left}) m v w = let some = within_some code l pc left m w in omega (arith, some)
part_within code l (LeadsOn {pc} {next} {left} {later} {path} x is leads rest) m v w =
    let one : place_cost each_one code pc ≡ 1 = ap (instr_cost each_one) is in
    let n = length path + 1 in
    let sum = copies_sum code n pc one in
    let low = leads_within each_one code l pc next left later (copies n pc) x m v is leads (λ q in_it within. let more = part_within code l rest q in_it within in omega (arith, more, sum)) w in
    omega (arith, low, sum, one)

pub handler_sums : (words tasks : ℕ) (code : CodeValue) (k entry : ℕ) → IsVerified words tasks code → slice_get (version_entries code) k ≡ Some entry → HandlerSums code entry
handler_sums words tasks code k entry v at =
    let l : Looped code = record { targets = targets_exist words tasks code v.operands; entries = v.entries; regions = v.regions; loops = v.loops } in
    let is_entry = version_is_entry code k entry at in
    let within : InVersions code entry = version_entry_in code k entry v.entries at in
    record {
      greatest = λ u. (
        (worth_exists u code l entry within).0,
        (worth_exists u code l entry within).1,
        record {
          upper = entry_most u code l entry (worth_exists u code l entry within).0 is_entry within (worth_exists u code l entry within).1;
          reached = inl (entry_reached u code l entry (worth_exists u code l entry within).0 is_entry within (worth_exists u code l entry within).1);
        },
      );
      few = λ path part.
          let w = worth_exists each_one code l entry within in
          let longest = entry_reached each_one code l entry w.0 is_entry within w.1 in
          let short = v.short entry within.1 k at longest.0 longest.1 in
          let more = part_within code l part (w.0 + 0) within (Plain (entry_no_turn each_one code l entry is_entry within) w.1 (Outmost (entry_none code entry l is_entry))) in
          omega (arith, short, more, longest.2, length_is_cost code longest.1);
    }
