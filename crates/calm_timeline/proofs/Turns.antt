-- A timeline's chunks as turns.
use Rattle.std.proofs.Common.{◌≡◌, ◌≢◌, ℕ, ◌+◌, ◌<◌, ◌≤◌, ◌⊎◌, inl, inr, List, [], ◌∷◌, ◌++◌, length, refl, sym, ap, subst, ◌∙◌, arith, Bool, true, false, not, ◌&&◌, if◌then◌else◌, Option, Some, None, append-nil}
use Rattle.std.specs.List.{AllByRecursion}
use Rattle.std.proofs.lemmas.List.{append_cancel_left}
use Rattle.cat_program.specs.Checked.{Checked}
use Rattle.nv_memory.specs.declared.device.Class.{Class}
use Rattle.nv_memory.specs.declared.device.Device.{Device}
use Rattle.nv_memory.specs.declared.entry.Entry.{Entry}
use Rattle.nv_memory.specs.Board.{State}
use Rattle.cost_bounds.specs.BoundsValue.{BoundsValue}
use Rattle.demand_core.specs.declared.Base.{Base}
use Rattle.calm_stretch.specs.Moment.{Outside, Point as Moment}
use Rattle.calm_stretch.specs.Operations.{Operation, Stage, after_stage, stored_by, ticks_of_all, bounds_of_all, NoOperationLost, AreCalmOperations, end_of}
use Rattle.calm_stretch.specs.Rows.{Turn, IsTurn, IsTimeline, stages_of, IsCalmTo}
use Rattle.cn_scheduler.specs.declared.plan.Plan.{Plan}
use Rattle.cn_scheduler.specs.declared.plan.PlanRow.{PlanRow}
use Rattle.cn_scheduler.specs.declared.engine.Chunk.TheVariants.{Lost}
use Rattle.cn_scheduler.specs.InForce.{in_force}
use Rattle.cn_scheduler.specs.Point.{Point}
use Rattle.cn_scheduler.specs.Chunks.{Link, is_last, IsChunk, IsLawful, entries_of}
use Rattle.cn_scheduler.specs.Belongs.{IsPlanOf, BelongTogether}
use Rattle.calm_timeline.specs.Calm.{IsCalmEntry, board_after}
use Rattle.calm_timeline.specs.Numbers.{base_with, IsPlanned, AtEachPoint}
use Rattle.calm_timeline.proofs.Asks.{operation_of, operations_of, PassesAll, left_over, all_take, ticks_passed}
use Rattle.calm_timeline.proofs.Stored.{Began, LeadsTo, stored_along, leads_back_all, began_on_all}
use Rattle.calm_timeline.proofs.Setting.{moment_of, outside, doing_of, row_at, rows_of, units_for, ticks_for}
use Rattle.calm_timeline.proofs.Begins.{ArrivalLaws, begins}
use Rattle.calm_timeline.proofs.Within.{RunsLaw, HasTicks}
use Rattle.calm_timeline.proofs.Goes.{Goes, goes}

abbrev pub stage_of : Plan → Base → Device → Link → Stage
stage_of plan base device c =
    record {
      doing = doing_of c.choice;
      units = units_for plan base c.choice;
      ticks = ticks_for plan base c.choice;
      operations = operations_of device c.entries;
      ended = not (is_last c.outcome);
      dirty = not (is_last c.outcome) && c.after.dirty;
    }

abbrev pub after_link : Plan → Base → Device → Outside → Point → Link → Bool → Moment
after_link plan base device out pt c last = if last then after_stage base out (moment_of pt) (stage_of plan base device c) else moment_of c.after

abbrev pub turn_of : Plan → Base → Device → Outside → Point → Link → Turn
turn_of plan base device out pt c = record { stage = stage_of plan base device c; after = after_link plan base device out pt c (is_last c.outcome) }

abbrev pub turns_of : Plan → Base → Device → Outside → Point → List Link → List Turn
turns_of plan base device out pt [] = []
turns_of plan base device out pt (c ∷ links) = turn_of plan base device out pt c ∷ turns_of plan base device out c.after links

-- ---- small facts

true_or_false : (x : Bool) → (x ≡ true) ⊎ (x ≡ false)
true_or_false true = inl refl
true_or_false false = inr refl

no_last : (last : Bool) → not last ≡ true → last ≡ false
no_last true is = absurd (cc)
no_last false is = refl

last_too : (last : Bool) → not last ≡ false → last ≡ true
last_too true is = refl
last_too false is = absurd (cc)

left_same : (last : Bool) → ◌≡◌ {A = ℕ} (if last then 1 else 0) (if not last then 0 else 1)
left_same true = refl
left_same false = refl

both_true : (a b : Bool) → (a && b) ≡ true → (a ≡ true) × (b ≡ true)
both_true true true is = (refl, refl)
both_true true false is = absurd (cc)
both_true false b is = absurd (cc)

some_operations : (operations : List Operation) → 0 < ticks_of_all operations → 0 < length operations
some_operations [] some = absurd (omega arith)
some_operations (o ∷ operations) some = omega arith

-- what holds of each entry of two lists holds of those of each
pub all_front : {X : Type 0} → (P : X → Type 0) (xs ys : List X) → AllByRecursion P (xs ++ ys) → AllByRecursion P xs
all_front P [] ys all = tt
all_front P (x ∷ xs) ys all = (all.0, all_front P xs ys all.1)

pub all_back : {X : Type 0} → (P : X → Type 0) (xs ys : List X) → AllByRecursion P (xs ++ ys) → AllByRecursion P ys
all_back P [] ys all = all
all_back P (x ∷ xs) ys all = all_back P xs ys all.1

pub all_on : {X : Type 0} → (P : X → Type 0) (xs ys : List X) → AllByRecursion P xs → AllByRecursion P ys → AllByRecursion P (xs ++ ys)
all_on P [] ys front back = back
all_on P (x ∷ xs) ys front back = (front.0, all_on P xs ys front.1 back)

module _ (laws : ArrivalLaws) (runs : RunsLaw) (program : Checked) (device : Device) (b : BoundsValue) (plan : Plan) (p q origin : ℕ) (final : State)
    (planned : IsPlanned program device b plan) (plan_is : IsPlanOf program plan) where
  -- a decision point of the run, and what follows
  pub record Follows (pt : Point) (links : List Link) : Type 0 where
    pub lawful : IsLawful plan pt links
    pub belong : AtEachPoint (BelongTogether program plan) pt links
    pub has : HasTicks device pt.board
    pub cap : (base_with b device p q).cap ≡ pt.board.cap
    pub began : Began origin pt.board
    pub ends : board_after pt links ≡ final

  -- a chunk, with what the deadlines need of it
  pub record Step (pt : Point) (c : Link) : Type 0 where
    pub goes : Goes laws runs program device b plan p q origin final planned plan_is pt c.choice c.outcome c.after
    pub passes : PassesAll pt.board c.entries c.after.board
    pub units : bounds_of_all (operations_of device c.entries) ≤ units_for plan (base_with b device p q) c.choice
    pub ticks : ticks_of_all (operations_of device c.entries) + left_over c.outcome ≤ ticks_for plan (base_with b device p q) c.choice
    pub loses : c.outcome ≡ Lost → NoOperationLost (operations_of device c.entries) → ⊥
    pub tick : c.after.board.tick ≡ pt.board.tick + ticks_of_all (operations_of device c.entries)

  pub step : (pt : Point) (c : Link) (links : List Link) → Follows pt (c ∷ links) → Step pt c
  step pt c links f =
      let is : IsChunk plan pt c = f.lawful.0 in
      let g = goes laws runs program device b plan p q origin final planned plan_is pt c.after c.choice c.outcome f.belong.0 f.has is.chosen is.does in
      let same : g.came.entries ≡ c.entries = append_cancel_left pt.board.timeline g.came.entries c.entries (sym g.came.timeline ∙ is.timeline) in
      let passes : PassesAll pt.board c.entries c.after.board = subst (λ (es : List Entry). PassesAll pt.board es c.after.board) same g.came.passes in
      record {
        goes = g;
        passes = passes;
        units = subst (λ (es : List Entry). bounds_of_all (operations_of device es) ≤ units_for plan (base_with b device p q) c.choice) same g.came.units_in;
        ticks = subst (λ (es : List Entry). ticks_of_all (operations_of device es) + left_over c.outcome ≤ ticks_for plan (base_with b device p q) c.choice) same g.came.ticks_in;
        loses = subst (λ (es : List Entry). c.outcome ≡ Lost → NoOperationLost (operations_of device es) → ⊥) same g.came.loses;
        tick = ticks_passed device c.entries pt.board c.after.board passes;
      }

  passes_cap : (entries : List Entry) (old new : State) → PassesAll old entries new → new.cap ≡ old.cap
  passes_cap [] old new same = ap (λ (s : State). s.cap) same
  passes_cap (e ∷ entries) old new passes = passes_cap entries passes.0 new passes.2 ∙ passes.1.cap

  passes_ticks : (entries : List Entry) (old new : State) → PassesAll old entries new → new.ticks ≡ old.ticks
  passes_ticks [] old new same = ap (λ (s : State). s.ticks) same
  passes_ticks (e ∷ entries) old new passes = passes_ticks entries passes.0 new passes.2 ∙ passes.1.ticks

  pub next : (pt : Point) (c : Link) (links : List Link) → Follows pt (c ∷ links) → is_last c.outcome ≡ false → Follows c.after links
  next pt c links f on =
      let s = step pt c links f in
      let ticks : c.after.board.ticks ≡ pt.board.ticks = passes_ticks c.entries pt.board c.after.board s.passes in
      record {
        lawful = f.lawful.2;
        belong = f.belong.1 on;
        has = record {
          ticks = λ k. ap (λ (t : Class → ℕ). t k) ticks ∙ f.has.ticks k;
          some = λ k. subst (λ (t : Class → ℕ). 1 ≤ t k) (sym ticks) (f.has.some k);
        };
        cap = f.cap ∙ sym (passes_cap c.entries pt.board c.after.board s.passes);
        began = began_on_all device (base_with b device p q) (outside plan origin final) origin final refl c.entries pt.board c.after.board s.passes f.began;
        ends = f.ends;
      }

  -- the board is on its way to the last one
  pub leads : (links : List Link) (pt : Point) → Follows pt links → LeadsTo pt.board final
  leads [] pt f = ([], ap (λ (s : State). s.harvest) (sym f.ends) ∙ sym (append-nil pt.board.harvest))
  leads (c ∷ links) pt f =
      let s = step pt c links f in
      leads_back_all device (base_with b device p q) (outside plan origin final) origin final refl c.entries pt.board c.after.board s.passes
      (go (true_or_false (is_last c.outcome)) (λ on. leads links c.after (next pt c links f on)))
    where
      go : (is_last c.outcome ≡ true) ⊎ (is_last c.outcome ≡ false) → (is_last c.outcome ≡ false → LeadsTo c.after.board final) → LeadsTo c.after.board final
      go (inl last) rest =
          let none : links ≡ [] = f.lawful.1 last in
          let same : board_after c.after links ≡ c.after.board = ap (λ (ls : List Link). board_after c.after ls) none in
          ([], ap (λ (s : State). s.harvest) (sym f.ends ∙ same) ∙ sym (append-nil c.after.board.harvest))
      go (inr on) rest = rest on

  -- the store after a chunk
  pub leads_after : (pt : Point) (c : Link) (links : List Link) → Follows pt (c ∷ links) → LeadsTo c.after.board final
  leads_after pt c links f =
      elim (true_or_false (is_last c.outcome)) [
        | inl last ↦
            let none : links ≡ [] = f.lawful.1 last in
            let same : board_after c.after links ≡ c.after.board = ap (λ (ls : List Link). board_after c.after ls) none in
            ([], ap (λ (s : State). s.harvest) (sym f.ends ∙ same) ∙ sym (append-nil c.after.board.harvest))
        | inr on ↦ leads links c.after (next pt c links f on)
      ]

  -- where nothing is lost, a chunk leads to the point that its operations lead to
  pub leads_on : (pt : Point) (c : Link) (links : List Link) → Follows pt (c ∷ links) → is_last c.outcome ≡ false → NoOperationLost (operations_of device c.entries) →
      moment_of c.after ≡ after_stage (base_with b device p q) (outside plan origin final) (moment_of pt) (stage_of plan (base_with b device p q) device c)
  leads_on pt c links f on none =
      let s = step pt c links f in
      let kept : c.outcome ≢ Lost = λ is. s.loses is none in
      let tick = s.tick in
      let stored = stored_along device (base_with b device p q) (outside plan origin final) origin final refl c.entries pt.board c.after.board f.cap s.passes f.began (leads_after pt c links f) in
      let dirty : c.after.dirty ≡ (not (is_last c.outcome) && c.after.dirty) = sym (ap (λ (l : Bool). not l && c.after.dirty) on) in
      λ i. record { tick = tick i; stored = stored i; dirty = dirty i; done = λ e. s.goes.done on kept e i }

  -- ---- the turns

  base_same : (o : Option PlanRow) → (row_at (base_with b device p q) o).base ≡ base_with b device p q
  base_same None = refl
  base_same (Some r) = refl

  is_turn : (pt : Point) (c : Link) (links : List Link) → Follows pt (c ∷ links) →
      IsTurn (rows_of plan (base_with b device p q)) (outside plan origin final) (moment_of pt) (turn_of plan (base_with b device p q) device (outside plan origin final) pt c)
  is_turn pt c links f =
      let s = step pt c links f in
      let is : IsChunk plan pt c = f.lawful.0 in
      let tick = s.tick in
      let ticks = s.ticks in
      let left : left_over c.outcome ≡ (if not (is_last c.outcome) then 0 else 1) = left_same (is_last c.outcome) in
      record {
        some = λ ended. some_operations (operations_of device c.entries)
            (let on = s.goes.moves_on (no_last (is_last c.outcome) ended) in omega arith);
        take = all_take device c.entries pt.board c.after.board s.passes;
        begins = begins laws program device b plan p q origin final planned plan_is pt c.choice is.chosen f.belong.0.on;
        units = s.units;
        ticks = omega arith;
        dirty = λ dirty. let both = both_true (not (is_last c.outcome)) c.after.dirty dirty in s.goes.dirty (no_last (is_last c.outcome) both.0) both.1;
        leads = λ none. subst (λ (x : Base). after_link plan (base_with b device p q) device (outside plan origin final) pt c (is_last c.outcome)
            ≡ after_stage x (outside plan origin final) (moment_of pt) (stage_of plan (base_with b device p q) device c))
            (sym (base_same (in_force plan.rows pt.board.tick))) (go none (is_last c.outcome) refl);
      }
    where
      go : NoOperationLost (operations_of device c.entries) → (l : Bool) → is_last c.outcome ≡ l →
          after_link plan (base_with b device p q) device (outside plan origin final) pt c l
          ≡ after_stage (base_with b device p q) (outside plan origin final) (moment_of pt) (stage_of plan (base_with b device p q) device c)
      go none true is = refl
      go none false is = leads_on pt c links f is none

  pub is_timeline : (links : List Link) (pt : Point) → Follows pt links →
      IsTimeline (rows_of plan (base_with b device p q)) (outside plan origin final) (moment_of pt) (turns_of plan (base_with b device p q) device (outside plan origin final) pt links)
  is_timeline [] pt f = tt
  is_timeline (c ∷ links) pt f = (
    is_turn pt c links f,
    (λ ended. ap (λ (ls : List Link). turns_of plan (base_with b device p q) device (outside plan origin final) c.after ls) (f.lawful.1 (last_too (is_last c.outcome) ended))),
    go (λ on. is_timeline links c.after (next pt c links f on)) (is_last c.outcome) refl,
  )
    where
      go : (is_last c.outcome ≡ false → IsTimeline (rows_of plan (base_with b device p q)) (outside plan origin final) (moment_of c.after) (turns_of plan (base_with b device p q) device (outside plan origin final) c.after links)) →
          (l : Bool) → is_last c.outcome ≡ l →
          IsTimeline (rows_of plan (base_with b device p q)) (outside plan origin final) (after_link plan (base_with b device p q) device (outside plan origin final) pt c l)
          (turns_of plan (base_with b device p q) device (outside plan origin final) c.after links)
      go rest true is =
          subst (λ (ls : List Link). IsTimeline (rows_of plan (base_with b device p q)) (outside plan origin final) (after_link plan (base_with b device p q) device (outside plan origin final) pt c true)
          (turns_of plan (base_with b device p q) device (outside plan origin final) c.after ls)) (sym (f.lawful.1 is)) tt
      go rest false is = rest is

  -- ---- calm

  calm_operations : (z : ℕ) (entries : List Entry) (old new : State) → (base_with b device p q).cap ≡ old.cap → PassesAll old entries new → Began origin old → LeadsTo new final →
      AllByRecursion (λ entry. entry.tick < z → IsCalmEntry device entry) entries →
      AreCalmOperations (base_with b device p q) (outside plan origin final) z old.tick old.stored (operations_of device entries)
  calm_operations z [] old new cap passes began on calm = tt
  calm_operations z (e ∷ entries) old new cap passes began on calm =
      let first = passes.1 in
      let mid : State = passes.0 in
      let began' = began_on_all device (base_with b device p q) (outside plan origin final) origin final refl (e ∷ []) old mid (mid, first, refl) began in
      let on' = leads_back_all device (base_with b device p q) (outside plan origin final) origin final refl entries mid new passes.2 on in
      let rest = calm_operations z entries mid new (cap ∙ sym first.cap) passes.2 began' on calm.1 in
      let tick : mid.tick ≡ old.tick + e.ticks = first.tick ∙ ap (λ (n : ℕ). old.tick + n) (sym first.ticks_are) in
      let stored = stored_along device (base_with b device p q) (outside plan origin final) origin final refl (e ∷ []) old mid cap (mid, first, refl) began on' in
      let tick_is : e.tick ≡ old.tick = first.tick_is in
      let stored_is : e.stored ≡ old.stored = first.stored_is in (
        (λ early. let here = calm.0 (omega arith) in (here.drawn, (λ has. here.kept (omega arith)))),
        (λ kept. subst (λ (t : ℕ). AreCalmOperations (base_with b device p q) (outside plan origin final) z t
            (stored_by (base_with b device p q) (outside plan origin final) old.tick old.stored (operation_of device e)) (operations_of device entries)) tick
            (subst (λ (stored : ℕ). AreCalmOperations (base_with b device p q) (outside plan origin final) z mid.tick stored (operations_of device entries)) stored rest)),
      )

  pub is_calm : (z : ℕ) (links : List Link) (pt : Point) → Follows pt links → AllByRecursion (λ entry. entry.tick < z → IsCalmEntry device entry) (entries_of links) →
      IsCalmTo (base_with b device p q) (outside plan origin final) z (moment_of pt) (turns_of plan (base_with b device p q) device (outside plan origin final) pt links)
  is_calm z [] pt f calm = tt
  is_calm z (c ∷ links) pt f calm =
      let s = step pt c links f in
      let front = all_front (λ (entry : Entry). entry.tick < z → IsCalmEntry device entry) c.entries (entries_of links) calm in
      let back = all_back (λ (entry : Entry). entry.tick < z → IsCalmEntry device entry) c.entries (entries_of links) calm in (
        calm_operations z c.entries pt.board c.after.board f.cap s.passes f.began (leads_after pt c links f) front,
        go (λ on. is_calm z links c.after (next pt c links f on) back) (is_last c.outcome) refl,
      )
    where
      go : (is_last c.outcome ≡ false → IsCalmTo (base_with b device p q) (outside plan origin final) z (moment_of c.after) (turns_of plan (base_with b device p q) device (outside plan origin final) c.after links)) →
          (l : Bool) → is_last c.outcome ≡ l →
          IsCalmTo (base_with b device p q) (outside plan origin final) z (after_link plan (base_with b device p q) device (outside plan origin final) pt c l)
          (turns_of plan (base_with b device p q) device (outside plan origin final) c.after links)
      go rest true is =
          subst (λ (ls : List Link). IsCalmTo (base_with b device p q) (outside plan origin final) z (after_link plan (base_with b device p q) device (outside plan origin final) pt c true)
          (turns_of plan (base_with b device p q) device (outside plan origin final) c.after ls)) (sym (f.lawful.1 is)) tt
      go rest false is = rest is

  -- the tick at which all ends
  pub end_is : (links : List Link) (pt : Point) → Follows pt links →
      end_of pt.board.tick (stages_of (turns_of plan (base_with b device p q) device (outside plan origin final) pt links)) ≡ (board_after pt links).tick
  end_is [] pt f = refl
  end_is (c ∷ links) pt f =
      let s = step pt c links f in
      ap (λ (t : ℕ). end_of t (stages_of (turns_of plan (base_with b device p q) device (outside plan origin final) c.after links))) (sym s.tick)
      ∙ go (λ on. end_is links c.after (next pt c links f on)) (is_last c.outcome) refl
    where
      go : (is_last c.outcome ≡ false → end_of c.after.board.tick (stages_of (turns_of plan (base_with b device p q) device (outside plan origin final) c.after links)) ≡ (board_after c.after links).tick) →
          (l : Bool) → is_last c.outcome ≡ l → end_of c.after.board.tick (stages_of (turns_of plan (base_with b device p q) device (outside plan origin final) c.after links)) ≡ (board_after c.after links).tick
      go rest true is =
          subst (λ (ls : List Link). end_of c.after.board.tick (stages_of (turns_of plan (base_with b device p q) device (outside plan origin final) c.after ls)) ≡ (board_after c.after ls).tick) (sym (f.lawful.1 is)) refl
      go rest false is = rest is
