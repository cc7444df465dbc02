-- The entries that a run of operations leaves, one for each that was done and for the one that was lost.
use Rattle.std.proofs.Common.{◌≡◌, ◌≢◌, inl, inr, ℕ, zero, suc, ◌+◌, ◌≤◌, ◌<◌, true, false, List, [], ◌∷◌, ◌++◌, length, take, refl, sym, ◌∙◌, ap, arith, append-nil, append_assoc}
use Rattle.nv_memory.specs.declared.device.Class.{Class}
use Rattle.nv_memory.specs.declared.board.Answer.{Answer}
use Rattle.nv_memory.specs.declared.board.Answer.TheVariants.{Done, Lost, Over}
use Rattle.nv_memory.specs.declared.entry.Entry.{Entry}
use Rattle.nv_memory.specs.declared.entry.Op.{Op}
use Rattle.nv_memory.specs.Board.{State, IsDone, Runs, image_after, image_by, leaving, ticks_of}
use Rattle.nv_memory.specs.Laws.{OperationsAreBounded}

-- the image after each of some entries has a property
abbrev pub EachImage : (List ℕ → Type 0) → List ℕ → List Entry → Type 0
EachImage P image entries = (n : ℕ) → n ≤ length entries → P (image_by (take n entries) image)

pub join_by : (entries later : List Entry) (image : List ℕ) → image_by (entries ++ later) image ≡ image_by later (image_by entries image)
join_by [] later image = refl
join_by (entry ∷ entries) later image = join_by entries later (image_after entry.op image)

pub join_each : (P : List ℕ → Type 0) (entries later : List Entry) (image : List ℕ) → EachImage P image entries → EachImage P (image_by entries image) later → EachImage P image (entries ++ later)
join_each P [] later image first second n le = second n le
join_each P (entry ∷ entries) later image first second zero le = first zero (omega arith)
join_each P (entry ∷ entries) later image first second (suc n) le =
    join_each P entries later (image_after entry.op image) (λ m few. first (suc m) (omega (arith, few))) second n (omega (arith, le))

-- A run's entries; and the image after each of them is what a run of the first of its operations leaves.
pub record Tells (old : State) (ops : List Op) (new : State) : Type 0 where
  pub entries : List Entry
  pub timeline : new.timeline ≡ old.timeline ++ entries
  pub image : new.image ≡ image_by entries old.image
  pub each : (n : ℕ) → n ≤ length entries → (k : ℕ) × (answer : Answer) × (mid : State) × Runs old (take k ops) answer mid × (mid.image ≡ image_by (take n entries) old.image)

none : (old : State) (ops : List Op) (new : State) → new ≡ old → Tells old ops new
none old ops new same = record {
  entries = [];
  timeline = ap (λ (s : State). s.timeline) same ∙ sym (append-nil old.timeline);
  image = ap (λ (s : State). s.image) same;
  each = λ n le. (0, Done, old, refl, (let is : n ≡ 0 = omega (arith, le) in ap (λ (m : ℕ). image_by (take m []) old.image) (sym is)));
}

pub tells : (ops : List Op) (old new : State) (answer : Answer) → Runs old ops answer new → Tells old ops new
tells [] old new Done run = none old [] new run
tells [] old new Lost run = absurd run
tells [] old new Over run = absurd run
tells (op ∷ ops) old new Done (inl stops) = absurd stops
tells (op ∷ ops) old new Over (inl stops) = none old (op ∷ ops) new stops.same
tells (op ∷ ops) old new Lost (inl stops) = record {
  entries = record { tick = old.tick; stored = old.stored; drawn = stops.drawn; ticks = length stops.passed; op = leaving op stops.left; lost = true } ∷ [];
  timeline = ap (λ (s : State). s.timeline) stops.becomes;
  image = ap (λ (s : State). s.image) stops.becomes;
  each = each;
}
  where
    each : (n : ℕ) → n ≤ 1 → (k : ℕ) × (answer : Answer) × (mid : State) × Runs old (take k (op ∷ ops)) answer mid
        × (mid.image ≡ image_by (take n (record { tick = old.tick; stored = old.stored; drawn = stops.drawn; ticks = length stops.passed; op = leaving op stops.left; lost = true } ∷ [])) old.image)
    each zero le = (0, Done, old, refl, refl)
    each (suc zero) le = (1, Lost, new, inl stops, ap (λ (s : State). s.image) stops.becomes)
    each (suc (suc n)) le = absurd (omega (arith, le))
tells (op ∷ ops) old new answer (inr (mid, done, run)) =
    let rest = tells ops mid new answer run in
    let entry : Entry = record { tick = old.tick; stored = old.stored; drawn = done.drawn; ticks = length done.passed; op = op; lost = false } in
    let image : mid.image ≡ image_after op old.image = ap (λ (s : State). s.image) done.becomes in
    record {
      entries = entry ∷ rest.entries;
      timeline = rest.timeline ∙ ap (λ (l : List Entry). l ++ rest.entries) (ap (λ (s : State). s.timeline) done.becomes) ∙ append_assoc old.timeline (entry ∷ []) rest.entries;
      image = rest.image ∙ ap (image_by rest.entries) image;
      each = each entry rest image;
    }
  where
    each : (entry : Entry) (rest : Tells mid ops new) → mid.image ≡ image_after entry.op old.image → (n : ℕ) → n ≤ length (entry ∷ rest.entries)
        → (k : ℕ) × (answer : Answer) × (late : State) × Runs old (take k (op ∷ ops)) answer late × (late.image ≡ image_by (take n (entry ∷ rest.entries)) old.image)
    each entry rest image zero le = (0, Done, old, refl, refl)
    each entry rest image (suc n) le =
        let (k, stop, late, part, is) = rest.each n (omega (arith, le)) in
        (suc k, stop, late, inr (mid, done, part), is ∙ ap (image_by (take n rest.entries)) image)

-- ---- time

-- no run goes back in time
pub not_sooner : (ops : List Op) (old new : State) (answer : Answer) → Runs old ops answer new → old.tick ≤ new.tick
not_sooner [] old new Done run = (let same : new.tick ≡ old.tick = ap (λ (s : State). s.tick) run in omega (arith, same))
not_sooner [] old new Lost run = absurd run
not_sooner [] old new Over run = absurd run
not_sooner (op ∷ ops) old new Done (inl stops) = absurd stops
not_sooner (op ∷ ops) old new Over (inl stops) = (let same : new.tick ≡ old.tick = ap (λ (s : State). s.tick) stops.same in omega (arith, same))
not_sooner (op ∷ ops) old new Lost (inl stops) = (let now : new.tick ≡ old.tick + length stops.passed = ap (λ (s : State). s.tick) stops.becomes in omega (arith, now))
not_sooner (op ∷ ops) old new answer (inr (mid, done, run)) =
    (let now : mid.tick ≡ old.tick + length done.passed = ap (λ (s : State). s.tick) done.becomes in omega (arith, now, not_sooner ops mid new answer run))

-- an operation of each class takes a tick at least
abbrev pub TakesTime : State → Type 0
TakesTime s = (kind : Class) → 1 ≤ s.ticks kind

module _ (bounded : OperationsAreBounded) where
  module _ (op : Op) (old mid : State) (time : TakesTime old) (done : IsDone old op mid) where
    later_done : old.tick < mid.tick
    later_done =
        let now : mid.tick ≡ old.tick + length done.passed = ap (λ (s : State). s.tick) done.becomes in
        let some : 1 ≤ ticks_of old.ticks op = bounded.ticks old.ticks op time in
        omega (arith, now, some, done.all_ticks)

  -- a run of some operations that found room takes time
  pub later_run : (ops : List Op) (op : Op) (old new : State) (answer : Answer) → TakesTime old → answer ≢ Over → Runs old (ops ++ op ∷ []) answer new → old.tick < new.tick
  later_run [] op old new answer time room run = later_first op [] old new answer time room run
    where
      later_first : (op : Op) (ops : List Op) (old new : State) (answer : Answer) → TakesTime old → answer ≢ Over → Runs old (op ∷ ops) answer new → old.tick < new.tick
      later_first op ops old new Done time room (inl stops) = absurd stops
      later_first op ops old new Over time room (inl stops) = absurd (room refl)
      later_first op ops old new Lost time room (inl stops) = (let now : new.tick ≡ old.tick + length stops.passed = ap (λ (s : State). s.tick) stops.becomes in omega (arith, now, stops.some_ticks))
      later_first op ops old new answer time room (inr (mid, done, run)) = omega (arith, later_done op old mid time done, not_sooner ops mid new answer run)
  later_run (first ∷ ops) op old new Done time room (inl stops) = absurd stops
  later_run (first ∷ ops) op old new Over time room (inl stops) = absurd (room refl)
  later_run (first ∷ ops) op old new Lost time room (inl stops) = (let now : new.tick ≡ old.tick + length stops.passed = ap (λ (s : State). s.tick) stops.becomes in omega (arith, now, stops.some_ticks))
  later_run (first ∷ ops) op old new answer time room (inr (mid, done, run)) = omega (arith, later_done first old mid time done, not_sooner (ops ++ op ∷ []) mid new answer run)
