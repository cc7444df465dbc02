-- What asked operations leave in the timeline, and what they take of their bounds.
use Rattle.std.proofs.Common.{◌≡◌, ◌≢◌, ℕ, ◌+◌, ◌-◌, ◌≤◌, inl, inr, List, [], ◌∷◌, ◌++◌, length, map, refl, sym, ap, subst, ◌∙◌, arith, Bool, true, false, if◌then◌else◌, append_assoc, append-nil}
use Rattle.nv_memory.specs.declared.device.Class.{Class}
use Rattle.nv_memory.specs.declared.device.Class.TheVariants as class
use Rattle.nv_memory.specs.declared.device.Device.{Device}
use Rattle.nv_memory.specs.declared.entry.Op.{Op}
use Rattle.nv_memory.specs.declared.entry.Op.TheVariants.{Instr, Emit, Write, Wake, Sleep}
use Rattle.nv_memory.specs.declared.entry.Entry.{Entry}
use Rattle.nv_memory.specs.Board.{State, ticks_of, leaving, after, filled, IsDone, IsLost}
use Rattle.cn_scheduler.specs.declared.engine.Chunk.{Chunk}
use Rattle.cn_scheduler.specs.declared.engine.Chunk.TheVariants.{Ended, Dropped, Lost, Over, Full}
use Rattle.cn_scheduler.specs.Asked.{Ask, Limits, Stops, Asked}
use Rattle.cn_scheduler.specs.Chunks.{is_last}
use Rattle.calm_stretch.specs.Operations.{Operation, ticks_of_all, bounds_of_all, AllTake, NoOperationLost}
use Rattle.calm_timeline.specs.Calm.{bound_of}

-- an entry as an operation within its bound
abbrev pub operation_of : Device → Entry → Operation
operation_of device entry = record { bound = bound_of device entry.op; ticks = entry.ticks; drawn = entry.drawn; lost = entry.lost }

abbrev pub operations_of : Device → List Entry → List Operation
operations_of device entries = map (operation_of device) entries

-- the bounds of what is asked for
abbrev pub units_asked : Device → List Ask → ℕ
units_asked device [] = 0
units_asked device (a ∷ asks) = bound_of device a.op + units_asked device asks

abbrev pub ticks_asked : (Class → ℕ) → List Ask → ℕ
ticks_asked ticks [] = 0
ticks_asked ticks (a ∷ asks) = ticks_of ticks a.op + ticks_asked ticks asks

-- the board passes an entry
pub record Passes (old : State) (entry : Entry) (new : State) : Type 0 where
  pub tick_is : entry.tick ≡ old.tick
  pub stored_is : entry.stored ≡ old.stored
  pub passed : List ℕ
  pub some : 1 ≤ entry.ticks
  pub ticks_are : entry.ticks ≡ length passed
  pub tick : new.tick ≡ old.tick + length passed
  pub stored : new.stored ≡ filled old.cap (old.stored - entry.drawn) passed
  pub cap : new.cap ≡ old.cap
  pub ticks : new.ticks ≡ old.ticks
  pub harvest : new.harvest ≡ old.harvest ++ passed

-- and several, one after the other
abbrev pub PassesAll : State → List Entry → State → Type 0
PassesAll old [] new = new ≡ old
PassesAll old (entry ∷ entries) new = (mid : State) × Passes old entry mid × PassesAll mid entries new

-- one tick is left of what is asked for where the timeline ends
abbrev pub left_over : Chunk → ℕ
left_over outcome = if is_last outcome then 1 else 0

-- what came of asked operations
pub record Came (device : Device) (old new : State) (units ticks : ℕ) (outcome : Chunk) : Type 0 where
  pub entries : List Entry
  pub timeline : new.timeline ≡ old.timeline ++ entries
  pub passes : PassesAll old entries new
  pub units_in : bounds_of_all (operations_of device entries) ≤ units
  pub ticks_in : ticks_of_all (operations_of device entries) + left_over outcome ≤ ticks
  pub loses : outcome ≡ Lost → NoOperationLost (operations_of device entries) → ⊥

bound_of-leaving : (device : Device) (op : Op) (left : List ℕ) → bound_of device (leaving op left) ≡ bound_of device op
bound_of-leaving device (Instr kind pc) left = refl
bound_of-leaving device (Emit pc at bytes) left = refl
bound_of-leaving device (Write at bytes) left = refl
bound_of-leaving device Wake left = refl
bound_of-leaving device Sleep left = refl

pub some_ticks_of : (ticks : Class → ℕ) (op : Op) → ((kind : Class) → 1 ≤ ticks kind) → 1 ≤ ticks_of ticks op
some_ticks_of ticks (Instr kind pc) some = some kind
some_ticks_of ticks (Emit pc at left) some = some class.Out
some_ticks_of ticks (Write at left) some = some class.Write
some_ticks_of ticks Wake some = some class.Wake
some_ticks_of ticks Sleep some = omega arith

-- the entry of an operation
abbrev pub entry_of : State → Op → Bool → ℕ → List ℕ → Entry
entry_of s op lost drawn passed = record { tick = s.tick; stored = s.stored; drawn = drawn; ticks = length passed; op = op; lost = lost }

passes_after : (old new : State) (op : Op) (lost : Bool) (drawn : ℕ) (passed : List ℕ) → 1 ≤ length passed → new ≡ after old op lost drawn passed →
    Passes old (entry_of old op lost drawn passed) new
passes_after old new op lost drawn passed some is =
    record {
      tick_is = refl;
      stored_is = refl;
      passed = passed;
      some = some;
      ticks_are = refl;
      tick = ap (λ (s : State). s.tick) is;
      stored = ap (λ (s : State). s.stored) is;
      cap = ap (λ (s : State). s.cap) is;
      ticks = ap (λ (s : State). s.ticks) is;
      harvest = ap (λ (s : State). s.harvest) is;
    }

timeline_after : (old new : State) (op : Op) (lost : Bool) (drawn : ℕ) (passed : List ℕ) → new ≡ after old op lost drawn passed →
    new.timeline ≡ old.timeline ++ entry_of old op lost drawn passed ∷ []
timeline_after old new op lost drawn passed is = ap (λ (s : State). s.timeline) is

-- nothing came of it
nothing : (device : Device) (old new : State) (units ticks : ℕ) (outcome : Chunk) → new ≡ old → left_over outcome ≤ ticks → outcome ≢ Lost →
    Came device old new units ticks outcome
nothing device old new units ticks outcome same some other =
    record {
      entries = [];
      timeline = ap (λ (s : State). s.timeline) same ∙ sym (append-nil old.timeline);
      passes = same;
      units_in = omega arith;
      ticks_in = omega arith;
      loses = λ is none. other is;
    }

lost_here : (device : Device) (old new : State) (a : Ask) (asks : List Ask) → IsLost old a.op new →
    Came device old new (units_asked device (a ∷ asks)) (ticks_asked old.ticks (a ∷ asks)) Lost
lost_here device old new a asks lost =
    let few = lost.no_more_ticks in
    let bound = bound_of-leaving device a.op lost.left in
    record {
      entries = entry_of old (leaving a.op lost.left) true lost.drawn lost.passed ∷ [];
      timeline = timeline_after old new (leaving a.op lost.left) true lost.drawn lost.passed lost.becomes;
      passes = (new, passes_after old new (leaving a.op lost.left) true lost.drawn lost.passed lost.some_ticks lost.becomes, refl);
      units_in = omega arith;
      ticks_in = omega arith;
      loses = λ is none. absurd (let kept : true ≡ false = none.0 in cc);
    }

stops_here : (device : Device) (l : Limits) (old new : State) (a : Ask) (asks : List Ask) (outcome : Chunk) → ((kind : Class) → 1 ≤ old.ticks kind) → Stops l old a outcome new →
    Came device old new (units_asked device (a ∷ asks)) (ticks_asked old.ticks (a ∷ asks)) outcome
stops_here device l old new a asks Ended some stops = absurd stops
stops_here device l old new a asks Dropped some stops =
    nothing device old new (units_asked device (a ∷ asks)) (ticks_asked old.ticks (a ∷ asks)) Dropped stops.1 (omega arith) (λ e. cc)
stops_here device l old new a asks Full some stops =
    nothing device old new (units_asked device (a ∷ asks)) (ticks_asked old.ticks (a ∷ asks)) Full stops.2
    (let one = some_ticks_of old.ticks a.op some in omega arith) (λ e. cc)
stops_here device l old new a asks Lost some stops = lost_here device old new a asks stops.2
stops_here device l old new a asks Over some stops =
    nothing device old new (units_asked device (a ∷ asks)) (ticks_asked old.ticks (a ∷ asks)) Over stops.2.same
    (let one = some_ticks_of old.ticks a.op some in omega arith) (λ e. cc)

-- one operation was done before the others
done_first : (device : Device) (old mid new : State) (a : Ask) (asks : List Ask) (outcome : Chunk) → ((kind : Class) → 1 ≤ old.ticks kind) → IsDone old a.op mid →
    Came device mid new (units_asked device asks) (ticks_asked mid.ticks asks) outcome →
    Came device old new (units_asked device (a ∷ asks)) (ticks_asked old.ticks (a ∷ asks)) outcome
done_first device old mid new a asks outcome some done rest =
    let one = some_ticks_of old.ticks a.op some in
    let all : length done.passed ≡ ticks_of old.ticks a.op = done.all_ticks in
    let same : mid.ticks ≡ old.ticks = ap (λ (s : State). s.ticks) done.becomes in
    let ticks = ap (λ (t : Class → ℕ). ticks_asked t asks) same in
    let units_in = rest.units_in in
    let ticks_in = rest.ticks_in in
    let e : Entry = entry_of old a.op false done.drawn done.passed in
    record {
      entries = entry_of old a.op false done.drawn done.passed ∷ rest.entries;
      timeline = rest.timeline ∙ ap (λ (es : List Entry). es ++ rest.entries) (timeline_after old mid a.op false done.drawn done.passed done.becomes)
          ∙ append_assoc old.timeline (entry_of old a.op false done.drawn done.passed ∷ []) rest.entries;
      passes = (mid, passes_after old mid a.op false done.drawn done.passed (omega arith) done.becomes, rest.passes);
      units_in = omega arith;
      ticks_in = omega arith;
      loses = λ is none. rest.loses is none.1;
    }

pub came : (device : Device) (l : Limits) (asks : List Ask) (old new : State) (outcome : Chunk) → ((kind : Class) → 1 ≤ old.ticks kind) → Asked l old asks outcome new →
    Came device old new (units_asked device asks) (ticks_asked old.ticks asks) outcome
came device l [] old new Ended some asked = nothing device old new 0 0 Ended asked (omega arith) (λ e. cc)
came device l [] old new Dropped some asked = absurd asked
came device l [] old new Lost some asked = absurd asked
came device l [] old new Over some asked = absurd asked
came device l [] old new Full some asked = absurd asked
came device l (a ∷ asks) old new outcome some asked =
    elim asked [
      | inl stops ↦ stops_here device l old new a asks outcome some stops
      | inr goes ↦
          let same : goes.0.ticks ≡ old.ticks = ap (λ (s : State). s.ticks) goes.1.done.becomes in
          done_first device old goes.0 new a asks outcome some goes.1.done
          (came device l asks goes.0 new outcome (λ kind. subst (λ (t : Class → ℕ). 1 ≤ t kind) (sym same) (some kind)) goes.2)
    ]

-- more room changes nothing
pub came_within : (device : Device) (old new : State) (units ticks more later : ℕ) (outcome : Chunk) → units ≤ more → ticks ≤ later →
    Came device old new units ticks outcome → Came device old new more later outcome
came_within device old new units ticks more later outcome le le' c =
    let units_in = c.units_in in
    let ticks_in = c.ticks_in in
    record { entries = c.entries; timeline = c.timeline; passes = c.passes; units_in = omega arith; ticks_in = omega arith; loses = c.loses }

-- ---- one run after another

passes_on : (es fs : List Entry) (old mid new : State) → PassesAll old es mid → PassesAll mid fs new → PassesAll old (es ++ fs) new
passes_on [] fs old mid new first second = subst (λ (s : State). PassesAll s fs new) first second
passes_on (e ∷ es) fs old mid new first second = (first.0, first.1, passes_on es fs first.0 mid new first.2 second)

bounds_on : (device : Device) (es fs : List Entry) → bounds_of_all (operations_of device (es ++ fs)) ≡ bounds_of_all (operations_of device es) + bounds_of_all (operations_of device fs)
bounds_on device [] fs = omega arith
bounds_on device (e ∷ es) fs = let rest = bounds_on device es fs in omega arith

ticks_on : (device : Device) (es fs : List Entry) → ticks_of_all (operations_of device (es ++ fs)) ≡ ticks_of_all (operations_of device es) + ticks_of_all (operations_of device fs)
ticks_on device [] fs = omega arith
ticks_on device (e ∷ es) fs = let rest = ticks_on device es fs in omega arith

none_lost_on : (device : Device) (es fs : List Entry) → NoOperationLost (operations_of device (es ++ fs)) → NoOperationLost (operations_of device fs)
none_lost_on device [] fs none = none
none_lost_on device (e ∷ es) fs none = none_lost_on device es fs none.1

pub came_on : (device : Device) (old mid new : State) (units ticks more later : ℕ) (outcome : Chunk) → Came device old mid units ticks Ended → Came device mid new more later outcome →
    Came device old new (units + more) (ticks + later) outcome
came_on device old mid new units ticks more later outcome first second =
    let a = first.units_in in
    let b = second.units_in in
    let c = first.ticks_in in
    let d = second.ticks_in in
    record {
      entries = first.entries ++ second.entries;
      timeline = second.timeline ∙ ap (λ (es : List Entry). es ++ second.entries) first.timeline ∙ append_assoc old.timeline first.entries second.entries;
      passes = passes_on first.entries second.entries old mid new first.passes second.passes;
      units_in = omega (arith, bounds_on device first.entries second.entries);
      ticks_in = omega (arith, ticks_on device first.entries second.entries);
      loses = λ is none. second.loses is (none_lost_on device first.entries second.entries none);
    }

-- ---- each takes time

pub all_take : (device : Device) (entries : List Entry) (old new : State) → PassesAll old entries new → AllTake (operations_of device entries)
all_take device [] old new passes = tt
all_take device (e ∷ entries) old new passes = (passes.1.some, all_take device entries passes.0 new passes.2)

pub ticks_passed : (device : Device) (entries : List Entry) (old new : State) → PassesAll old entries new → new.tick ≡ old.tick + ticks_of_all (operations_of device entries)
ticks_passed device [] old new same = ap (λ (s : State). s.tick) same ∙ omega arith
ticks_passed device (e ∷ entries) old new passes =
    let first = passes.1 in
    let tick = first.tick in
    let ticks = first.ticks_are in
    let rest = ticks_passed device entries passes.0 new passes.2 in
    omega arith
