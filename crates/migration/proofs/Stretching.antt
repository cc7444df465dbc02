-- What a stretch of wakes, sleep and moves leaves.
use Rattle.std.proofs.Common.{◌≡◌, ◌≢◌, inl, inr, ℕ, zero, suc, ◌≤◌, ◌<◌, ◌%◌, Bool, true, false, List, [], ◌∷◌, ◌++◌, length, take, refl, sym, ◌∙◌, ap, subst, arith, append-nil, append_assoc}
use Rattle.std.specs.Prelude.{nat_le, if◌then◌else◌}
use Rattle.std.proofs.lemmas.List.{take_all}
use Rattle.cat_program.specs.Checked.{Checked}
use Rattle.nv_memory.specs.declared.layout.Layout.{Layout}
use Rattle.nv_memory.specs.declared.board.Answer.{Answer}
use Rattle.nv_memory.specs.declared.board.Answer.TheVariants.{Done, Lost, Over}
use Rattle.nv_memory.specs.declared.entry.Entry.{Entry}
use Rattle.nv_memory.specs.declared.entry.Op.{Op}
use Rattle.nv_memory.specs.declared.entry.Op.TheVariants.{Sleep, Wake}
use Rattle.nv_memory.specs.Board.{State, Runs, image_after, image_by, leaving}
use Rattle.recovery.specs.Committed.{Committed}
use Rattle.migration.specs.Laws.{MovesAreSafe, StandsFor}
use Rattle.migration.specs.Moves.{CanMove, IsInOld, format_write, move_writes, parts_of, writes_of}
use Rattle.migration.specs.Stretch.{CanBegin, IsInNew, KeepsValue, Moved, Ended, Further, Moves, StretchesAreSafe, asked_next}
use Rattle.nv_memory.specs.Laws.{OperationsAreBounded}
use Rattle.migration.proofs.Told.{TakesTime, Tells, join_by, join_each, later_run, not_sooner, tells}

-- the operation writes nothing, also where it is lost
record IsQuiet (op : Op) : Type 0 where
  image : (image : List ℕ) → image_after op image ≡ image
  lost : (left image : List ℕ) → image_after (leaving op left) image ≡ image

wakes : IsQuiet Wake
wakes = record { image = λ image. refl; lost = λ left image. refl }

sleeps : IsQuiet Sleep
sleeps = record { image = λ image. refl; lost = λ left image. refl }

quiet_part : (op : Op) → IsQuiet op → (k : ℕ) (old new : State) (answer : Answer) → Runs old (take k (op ∷ [])) answer new → new.image ≡ old.image
quiet_part op quiet zero old new Done run = ap (λ (s : State). s.image) run
quiet_part op quiet zero old new Lost run = absurd run
quiet_part op quiet zero old new Over run = absurd run
quiet_part op quiet (suc k) old new Done (inl stops) = absurd stops
quiet_part op quiet (suc k) old new Over (inl stops) = ap (λ (s : State). s.image) stops.same
quiet_part op quiet (suc k) old new Lost (inl stops) = ap (λ (s : State). s.image) stops.becomes ∙ quiet.lost stops.left old.image
quiet_part op quiet (suc k) old new answer (inr (mid, done, run)) = rest k answer run ∙ ap (λ (s : State). s.image) done.becomes ∙ quiet.image old.image
  where
    rest : (k : ℕ) (answer : Answer) → Runs mid (take k []) answer new → new.image ≡ mid.image
    rest zero Done run = ap (λ (s : State). s.image) run
    rest zero Lost run = absurd run
    rest zero Over run = absurd run
    rest (suc k) Done run = ap (λ (s : State). s.image) run
    rest (suc k) Lost run = absurd run
    rest (suc k) Over run = absurd run

whole_run : (ops : List Op) (old new : State) (answer : Answer) → Runs old ops answer new → Runs old (take (length ops) ops) answer new
whole_run ops old new answer run = subst (λ (o : List Op). Runs old o answer new) (sym (take_all (length ops) ops (omega arith))) run

-- a byte that isn't odd is even
pub even : (byte : ℕ) → byte % 2 ≢ 1 → byte % 2 ≡ 0
even byte isnt = omega (arith, isnt)

-- what is asked next takes time where it finds room
module _ (bounded : OperationsAreBounded) (old new : Layout) (s t : State) (answer : Answer) (time : TakesTime s) (room : answer ≢ Over) where
  later_by : (on enough : Bool) → Runs s (if on then move_writes old new s.image else if enough then Wake ∷ [] else Sleep ∷ []) answer t → s.tick < t.tick
  later_by true enough run = later_run bounded (writes_of s.image (parts_of old new s.image)) format_write s t answer time room run
  later_by false true run = later_run bounded [] Wake s t answer time room run
  later_by false false run = later_run bounded [] Sleep s t answer time room run

  pub next_later : (enough : ℕ) → Runs s (asked_next old new enough s) answer t → s.tick < t.tick
  next_later enough run = later_by s.on (nat_le enough s.stored) run

module _ (moves : MovesAreSafe) (old new : Layout) where
  module _ (program : Checked) (v : Committed) (s : State) (is_old : IsInOld s.image) (stands : StandsFor old new program s.image v) where
    -- the image after each operation of what is asked next
    by_ops : (on enough : Bool) (k : ℕ) (t : State) (answer : Answer) → Runs s (take k (if on then move_writes old new s.image else if enough then Wake ∷ [] else Sleep ∷ [])) answer t
        → StandsFor old new program t.image v
    by_ops true enough k t answer run = moves.stands old new program v s t k answer is_old stands run
    by_ops false true k t answer run = subst (λ (i : List ℕ). StandsFor old new program i v) (sym (quiet_part Wake wakes k s t answer run)) stands
    by_ops false false k t answer run = subst (λ (i : List ℕ). StandsFor old new program i v) (sym (quiet_part Sleep sleeps k s t answer run)) stands

    pub next_keeps : (enough : ℕ) (t : State) (answer : Answer) → Runs s (asked_next old new enough s) answer t → KeepsValue old new program v s t
    next_keeps enough t answer run =
        let told : Tells s (asked_next old new enough s) t = tells (asked_next old new enough s) s t answer run in
        record {
          entries = told.entries;
          timeline = told.timeline;
          image = told.image;
          stands = λ n le.
              let (k, stop, mid, part, is) = told.each n le in
              subst (λ (i : List ℕ). StandsFor old new program i v) is (by_ops s.on (nat_le enough s.stored) k mid stop part);
        }

    pub next_stands : (enough : ℕ) (t : State) (answer : Answer) → Runs s (asked_next old new enough s) answer t → StandsFor old new program t.image v
    next_stands enough t answer run = by_ops s.on (nat_le enough s.stored) (length (asked_next old new enough s)) t answer (whole_run (asked_next old new enough s) s t answer run)

    size_by : (on enough : Bool) (t : State) (answer : Answer) → Runs s (if on then move_writes old new s.image else if enough then Wake ∷ [] else Sleep ∷ []) answer t → length t.image ≡ length s.image
    size_by true enough t answer run =
        moves.size old new s t (length (move_writes old new s.image)) answer (stands.again is_old) (whole_run (move_writes old new s.image) s t answer run)
    size_by false true t answer run = ap length (quiet_part Wake wakes 1 s t answer run)
    size_by false false t answer run = ap length (quiet_part Sleep sleeps 1 s t answer run)

    pub next_size : (enough : ℕ) (t : State) (answer : Answer) → Runs s (asked_next old new enough s) answer t → length t.image ≡ length s.image
    next_size enough t answer run = size_by s.on (nat_le enough s.stored) t answer run

    module _ (over : (before after : State) → CanMove old new before.image → Runs before (move_writes old new before.image) Over after → IsInOld after.image) where
      over_by : (on enough : Bool) (t : State) → Runs s (if on then move_writes old new s.image else if enough then Wake ∷ [] else Sleep ∷ []) Over t → IsInOld t.image
      over_by true enough t run = over s t (stands.again is_old) run
      over_by false true t run = subst IsInOld (sym (quiet_part Wake wakes 1 s t Over run)) is_old
      over_by false false t run = subst IsInOld (sym (quiet_part Sleep sleeps 1 s t Over run)) is_old

      pub next_over : (enough : ℕ) (t : State) → Runs s (asked_next old new enough s) Over t → IsInOld t.image
      next_over enough t run = over_by s.on (nat_le enough s.stored) t run

  module _ (enough : ℕ) (program : Checked) (v : Committed) where
    keeps : (s t : State) (moved : Bool) → StandsFor old new program s.image v → Moves old new enough s moved t → KeepsValue old new program v s t
    keeps s t moved stands (Moved _ _ is_new same) = record {
      entries = [];
      timeline = ap (λ (s : State). s.timeline) same ∙ sym (append-nil s.timeline);
      image = ap (λ (s : State). s.image) same;
      stands = λ n le. (let is : n ≡ 0 = omega (arith, le) in subst (λ (m : ℕ). StandsFor old new program (image_by (take m []) s.image) v) (sym is) stands);
    }
    keeps s t moved stands (Ended _ _ is_old run) = next_keeps program v s is_old stands enough t Over run
    keeps s u moved stands (Further _ t _ answer _ is_old room run later) =
        let one : KeepsValue old new program v s t = next_keeps program v s is_old stands enough t answer run in
        let rest : KeepsValue old new program v t u = keeps t u moved (next_stands program v s is_old stands enough t answer run) later in
        record {
          entries = one.entries ++ rest.entries;
          timeline = rest.timeline ∙ ap (λ (l : List Entry). l ++ rest.entries) one.timeline ∙ append_assoc s.timeline one.entries rest.entries;
          image = rest.image ∙ ap (image_by rest.entries) one.image ∙ sym (join_by one.entries rest.entries s.image);
          stands = join_each (λ (i : List ℕ). StandsFor old new program i v) one.entries rest.entries s.image one.stands
              (subst (λ (i : List ℕ). (n : ℕ) → n ≤ length rest.entries → StandsFor old new program (image_by (take n rest.entries) i) v) one.image rest.stands);
        }

    size : (s t : State) (moved : Bool) → StandsFor old new program s.image v → Moves old new enough s moved t → length t.image ≡ length s.image
    size s t moved stands (Moved _ _ is_new same) = ap (λ (s : State). length s.image) same
    size s t moved stands (Ended _ _ is_old run) = next_size program v s is_old stands enough t Over run
    size s u moved stands (Further _ t _ answer _ is_old room run later) =
        size t u moved (next_stands program v s is_old stands enough t answer run) later ∙ next_size program v s is_old stands enough t answer run

    module _ (over : (before after : State) → CanMove old new before.image → Runs before (move_writes old new before.image) Over after → IsInOld after.image) where
      ended : (s t : State) → StandsFor old new program s.image v → Moves old new enough s false t → IsInOld t.image
      ended s t stands (Ended _ _ is_old run) = next_over program v s is_old stands over enough t run
      ended s u stands (Further _ t _ answer _ is_old room run later) = ended t u (next_stands program v s is_old stands enough t answer run) later

  later : (enough : ℕ) (s t : State) (moved : Bool) → Moves old new enough s moved t → s.tick ≤ t.tick
  later enough s t moved (Moved _ _ is_new same) = (let now : t.tick ≡ s.tick = ap (λ (s : State). s.tick) same in omega (arith, now))
  later enough s t moved (Ended _ _ is_old run) = not_sooner (asked_next old new enough s) s t Over run
  later enough s u moved (Further _ t _ answer _ is_old room run rest) = omega (arith, not_sooner (asked_next old new enough s) s t answer run, later enough t u moved rest)

  moved_is_new : (enough : ℕ) (s t : State) → Moves old new enough s true t → IsInNew t.image
  moved_is_new enough s t (Moved _ _ is_new same) = subst IsInNew (sym (ap (λ (s : State). s.image) same)) is_new
  moved_is_new enough s u (Further _ t _ answer _ is_old room run later) = moved_is_new enough t u later

pub stretches : MovesAreSafe → StretchesAreSafe
stretches moves = record {
  keeps = λ old new enough program v s t moved. keeps moves old new enough program v s t moved;
  size = λ old new enough program v s t moved. size moves old new enough program v s t moved;
  later = λ old new enough s t moved. later moves old new enough s t moved;
  moved = λ old new enough s t. moved_is_new moves old new enough s t;
  ended = λ old new enough program v s t stands. ended moves old new enough program v (λ before after can run. moves.over old new before after can run) s t stands;
}

-- a stretch goes on where it began
pub can_again : MovesAreSafe → (old new : Layout) (enough : ℕ) (s t : State) (answer : Answer) → IsInOld s.image → CanBegin old new s.image → Runs s (asked_next old new enough s) answer t → CanBegin old new t.image
can_again moves old new enough s t answer is_old can run = record { program = can.program; value = can.value; stands = next_stands moves old new can.program can.value s is_old can.stands enough t answer run }
