-- An outlook holds from later ticks too, and says what becomes of what lies within it.
use Rattle.std.proofs.Common.{◌≡◌, ◌≢◌, ℕ, zero, suc, ◌+◌, ◌≤◌, ◌<◌, ◌&&◌, nat_le, nat_lt, Bool, true, false, List, [], ◌∷◌, Option, Some, None, replicate, refl, ◌∙◌, ap, arith}
use Rattle.std.specs.Prelude.{if◌then◌else◌, option_map, unwrap_or}
use Rattle.std.proofs.lemmas.Bool.Decides.{nat_tests}
use Rattle.harvest_trace.specs.declared.failures.Failure.{Failure}
use Rattle.harvest_trace.specs.declared.row.TraceRow.{TraceRow}
use Rattle.harvest_trace.specs.Failures.{first_in}
use Rattle.harvest_trace.specs.Timeline.{extra_at, harvest_at, row_at}
use Rattle.nv_memory.specs.declared.entry.Op.{Op}
use Rattle.nv_memory.specs.declared.entry.Op.TheVariants.{Instr, Emit, Write, Wake, Sleep}
use Rattle.nv_memory.specs.Board.{filled, ticks_of}
use Rattle.nv_memory.specs.AnyBoard.{actual_of}
use Rattle.board_core.specs.declared.origin.ModelOrigin.{ModelOrigin}
use Rattle.board_core.specs.declared.outlook.Outlook.{Outlook}
use Rattle.board_core.specs.Outlook.{IsOutlook}
use Rattle.board_core.specs.Rules.{class_ticks, cost_at, failure_in, fate_of, harvests, unless_failing}

inside : (from upto tick : ℕ) → (nat_le from tick && nat_lt tick upto) ≡ true → (from ≤ tick) × (tick < upto)
inside from upto tick h = (grind (arith, nat_tests), grind (arith, nat_tests))

out : (from upto tick : ℕ) → (nat_le from tick && nat_lt tick upto) ≡ false → (low high : ℕ) → from ≤ low → high ≤ upto → (nat_le low tick && nat_lt tick high) ≡ false
out from upto tick h low high le ge = grind (arith, nat_tests)

narrower_by : (from upto low high : ℕ) (f : Failure) (later later' : Option Failure) → from ≤ low → high ≤ upto → (later ≡ None → later' ≡ None) → (b : Bool) → (nat_le from f.tick && nat_lt f.tick upto) ≡ b
    → (if b then Some f else later) ≡ None → (if nat_le low f.tick && nat_lt f.tick high then Some f else later') ≡ None
narrower_by from upto low high f later later' le ge more true test is = absurd (cc)
narrower_by from upto low high f later later' le ge more false test is = rw (out from upto f.tick test low high le ge) (more is)

-- where a stretch has no failure, no part of it has one
pub first_in-narrower : (from upto low high : ℕ) (fs : List Failure) → from ≤ low → high ≤ upto → first_in from upto fs ≡ None → first_in low high fs ≡ None
unfolding first_in
first_in-narrower from upto low high [] le ge is = refl
first_in-narrower from upto low high (f ∷ fs) le ge is = narrower_by from upto low high f (first_in from upto fs) (first_in low high fs) le ge (first_in-narrower from upto low high fs le ge) (nat_le from f.tick && nat_lt f.tick upto) refl is

nothing : (from tick : ℕ) → (nat_le from tick && nat_lt tick from) ≡ false
nothing from tick = grind (arith, nat_tests)

-- a stretch of no ticks has none
pub first_in-nowhere : (from : ℕ) (fs : List Failure) → first_in from from fs ≡ None
unfolding first_in
first_in-nowhere from [] = refl
first_in-nowhere from (f ∷ fs) = rw (nothing from f.tick) (first_in-nowhere from fs)

pub later : (o : ModelOrigin) (tick tick' : ℕ) (outlook : Outlook) → tick ≤ tick' → IsOutlook o tick outlook → IsOutlook o tick' outlook
later o tick tick' outlook le h =
    record {
      harvest = λ t from until. h.harvest t (omega arith) until;
      extra = λ t from until. h.extra t (omega arith) until;
      calm = first_in-narrower tick outlook.failure tick' outlook.failure o.fails le (omega arith) h.calm;
      in_life = h.in_life;
      harvest_in_range = h.harvest_in_range;
      extra_in_range = h.extra_in_range;
    }

-- ticks of one harvest
pub harvests-alike : (trace : List TraceRow) (tick n h : ℕ) → ((t : ℕ) → tick ≤ t → t < tick + n → harvest_at trace t ≡ h) → harvests trace tick n ≡ replicate n h
harvests-alike trace tick zero h alike = refl
harvests-alike trace tick (suc n) h alike =
    ap (λ (x : ℕ). x ∷ harvests trace (tick + 1) n) (alike tick (omega arith) (omega arith))
    ∙ ap (λ (l : List ℕ). h ∷ l) (harvests-alike trace (tick + 1) n h (λ t from until. alike t (omega arith) (omega arith)))

pub cost_awake : (o : ModelOrigin) (tick : ℕ) (op : Op) → op ≢ Sleep → cost_at o tick op ≡ actual_of o.device op + extra_at o.trace tick
cost_awake o tick (Instr kind pc) awake = refl
cost_awake o tick (Emit pc at left) awake = refl
cost_awake o tick (Write at left) awake = refl
cost_awake o tick Wake awake = refl
cost_awake o tick Sleep awake = absurd (awake refl)

pub failure_awake : (o : ModelOrigin) (tick : ℕ) (op : Op) → op ≢ Sleep → failure_in o tick op ≡ first_in tick (tick + ticks_of (class_ticks o.device) op) o.fails
failure_awake o tick (Instr kind pc) awake = refl
failure_awake o tick (Emit pc at left) awake = refl
failure_awake o tick (Write at left) awake = refl
failure_awake o tick Wake awake = refl
failure_awake o tick Sleep awake = absurd (awake refl)

enough : (a b : ℕ) → b ≤ a → nat_lt a b ≡ false
enough a b le = grind (arith, nat_tests)

-- what becomes of an operation within the outlook
pub fate_foreseen : (o : ModelOrigin) (tick stored : ℕ) (op : Op) (outlook : Outlook) → IsOutlook o tick outlook → op ≢ Sleep → let ticks = ticks_of (class_ticks o.device) op in let cost = actual_of o.device op + outlook.extra in
    1 ≤ ticks → tick + ticks ≤ outlook.until → tick + ticks ≤ outlook.failure → cost ≤ stored → fate_of o tick stored op ≡ record { drawn = cost; ticks = ticks; torn = None }
fate_foreseen o tick stored op outlook h awake some until failure affordable =
    let ticks = ticks_of (class_ticks o.device) op in
    let cost = actual_of o.device op + outlook.extra in
    let cost_is : cost_at o tick op ≡ cost = cost_awake o tick op awake ∙ ap (λ (x : ℕ). actual_of o.device op + x) (h.extra tick (omega arith) (omega arith)) in
    let calm : failure_in o tick op ≡ None = failure_awake o tick op awake ∙ first_in-narrower tick outlook.failure tick (tick + ticks) o.fails (omega arith) failure h.calm in
    ap (λ (x : ℕ). if nat_lt stored x then record { drawn = stored; ticks = 1; torn = Some o.device.fill } else unless_failing tick x ticks (failure_in o tick op)) cost_is
    ∙ ap (λ (b : Bool). if b then record { drawn = stored; ticks = 1; torn = Some o.device.fill } else unless_failing tick cost ticks (failure_in o tick op)) (enough stored cost affordable)
    ∙ ap (λ (found : Option Failure). unless_failing tick cost ticks found) calm

-- what is stored after ticks of one harvest
pub filled-alike : (trace : List TraceRow) (cap stored tick n h : ℕ) → ((t : ℕ) → tick ≤ t → t < tick + n → harvest_at trace t ≡ h) → filled cap stored (harvests trace tick n) ≡ filled cap stored (replicate n h)
filled-alike trace cap stored tick n h alike = ap (filled cap stored) (harvests-alike trace tick n h alike)

pub harvest_at-alike : (trace : List TraceRow) (s t : ℕ) → row_at trace s ≡ row_at trace t → harvest_at trace s ≡ harvest_at trace t
harvest_at-alike trace s t same = ap (λ (row : Option TraceRow). unwrap_or (option_map (λ (row : TraceRow). row.harvest) row) 0) same

-- and what is stored after an operation within the outlook
pub stored_foreseen : (o : ModelOrigin) (tick stored n : ℕ) (outlook : Outlook) → IsOutlook o tick outlook → tick + n ≤ outlook.until
    → filled o.device.cap stored (harvests o.trace tick n) ≡ filled o.device.cap stored (replicate n outlook.harvest)
stored_foreseen o tick stored n outlook h until = filled-alike o.trace o.device.cap stored tick n outlook.harvest (λ t from below. h.harvest t from (omega arith))

pub none_outlook : (o : ModelOrigin) (tick : ℕ) → IsOutlook o tick (record { until = 0; failure = tick; harvest = 0; extra = 0 })
none_outlook o tick =
    record {
      harvest = λ t from until. absurd (omega arith);
      extra = λ t from until. absurd (omega arith);
      calm = first_in-nowhere tick o.fails;
      in_life = omega arith;
      harvest_in_range = omega arith;
      extra_in_range = omega arith;
    }
