-- What the writes of a move leave as it is, wherever they stop.
use Rattle.std.proofs.Common.{◌≡◌, ◌⊎◌, inl, inr, ℕ, zero, suc, ◌+◌, ◌≤◌, Bool, true, false, List, [], ◌∷◌, ◌++◌, length, take, refl, sym, ◌∙◌, ap, subst, arith}
use Rattle.std.specs.Prelude.{if◌then◌else◌}
use Rattle.nv_memory.specs.declared.entry.Op.{Op}
use Rattle.nv_memory.specs.declared.entry.Op.TheVariants.{Instr, Emit, Write, Wake, Sleep}
use Rattle.nv_memory.specs.declared.board.Answer.{Answer}
use Rattle.nv_memory.specs.declared.board.Answer.TheVariants.{Done, Lost, Over}
use Rattle.nv_memory.specs.Bytes.{written, bytes_at}
use Rattle.nv_memory.specs.Board.{State, Runs, IsDone, IsLost}
use Rattle.nv_memory.specs.Laws.{WritesAreLocal}
use Rattle.checkpoint_slots.specs.Commit.{same_bytes}
use Rattle.migration.specs.Moves.{Part, writes_of}

-- a write inside the image that leaves a range alone
abbrev pub IsClear : ℕ → ℕ → ℕ → ℕ → ℕ → Type 0
IsClear size a n at len = (at + len ≤ size) × ((a + n ≤ at) ⊎ (at + len ≤ a))

abbrev pub AllClear : ℕ → ℕ → ℕ → List Op → Type 0
AllClear size a n [] = Unit {0}
AllClear size a n (Instr kind pc ∷ ops) = ⊥
AllClear size a n (Emit pc at left ∷ ops) = ⊥
AllClear size a n (Write at left ∷ ops) = IsClear size a n at (length left) × AllClear size a n ops
AllClear size a n (Wake ∷ ops) = ⊥
AllClear size a n (Sleep ∷ ops) = ⊥

abbrev pub PartsClear : ℕ → ℕ → ℕ → List Part → Type 0
PartsClear size a n [] = Unit {0}
PartsClear size a n (p ∷ ps) = IsClear size a n p.at (length p.bytes) × PartsClear size a n ps

-- the range has the same bytes, and the image its length
pub record IsKept (a n : ℕ) (old new : List ℕ) : Type 0 where
  pub bytes : bytes_at a n new ≡ bytes_at a n old
  pub size : length new ≡ length old

pub kept_none : (a n : ℕ) (image : List ℕ) → IsKept a n image image
kept_none a n image = record { bytes = refl; size = refl }

pub kept_both : (a n : ℕ) (x y z : List ℕ) → IsKept a n x y → IsKept a n y z → IsKept a n x z
kept_both a n x y z one other = record { bytes = other.bytes ∙ one.bytes; size = other.size ∙ one.size }

module _ (writes : WritesAreLocal) (a n : ℕ) where
  pub kept_written : (at : ℕ) (left image : List ℕ) → IsClear (length image) a n at (length left) → IsKept a n image (written at left image)
  kept_written at left image (within, inl before) = record { bytes = writes.before a n at left image before (omega (arith, within)); size = writes.size at left image within }
  kept_written at left image (within, inr behind) = record { bytes = writes.behind a n at left image behind within; size = writes.size at left image within }

  kept_done : (at : ℕ) (left : List ℕ) (old new : State) → IsClear (length old.image) a n at (length left) → IsDone old (Write at left) new → IsKept a n old.image new.image
  kept_done at left old new clear is = subst (λ (image : List ℕ). IsKept a n old.image image) (sym (ap (λ (s : State). s.image) is.becomes)) (kept_written at left old.image clear)

  kept_lost : (at : ℕ) (left : List ℕ) (old new : State) → IsClear (length old.image) a n at (length left) → IsLost old (Write at left) new → IsKept a n old.image new.image
  kept_lost at left old new clear is =
      subst (λ (image : List ℕ). IsKept a n old.image image) (sym (ap (λ (s : State). s.image) is.becomes))
      (kept_written at is.left old.image (subst (λ (len : ℕ). IsClear (length old.image) a n at len) (sym is.same_length) clear))

  -- a run of writes that leave the range alone
  pub kept_run : (ops : List Op) (old new : State) (answer : Answer) → AllClear (length old.image) a n ops → Runs old ops answer new → IsKept a n old.image new.image
  kept_run [] old new Done clear run = subst (λ (s : State). IsKept a n old.image s.image) (sym run) (kept_none a n old.image)
  kept_run [] old new Lost clear run = absurd run
  kept_run [] old new Over clear run = absurd run
  kept_run (Instr kind pc ∷ ops) old new answer clear run = absurd clear
  kept_run (Emit pc at left ∷ ops) old new answer clear run = absurd clear
  kept_run (Wake ∷ ops) old new answer clear run = absurd clear
  kept_run (Sleep ∷ ops) old new answer clear run = absurd clear
  kept_run (Write at left ∷ ops) old new Done (clear, rest) (inl stops) = absurd stops
  kept_run (Write at left ∷ ops) old new Lost (clear, rest) (inl stops) = kept_lost at left old new clear stops
  kept_run (Write at left ∷ ops) old new Over (clear, rest) (inl stops) = subst (λ (s : State). IsKept a n old.image s.image) (sym stops.same) (kept_none a n old.image)
  kept_run (Write at left ∷ ops) old new answer (clear, rest) (inr (mid, done, run)) =
      let first = kept_done at left old mid clear done in
      kept_both a n old.image mid.image new.image first (kept_run ops mid new answer (subst (λ (size : ℕ). AllClear size a n ops) (sym first.size) rest) run)

pub clear-take : (size a n k : ℕ) (ops : List Op) → AllClear size a n ops → AllClear size a n (take k ops)
clear-take size a n zero ops clear = tt
clear-take size a n (suc k) [] clear = tt
clear-take size a n (suc k) (Instr kind pc ∷ ops) clear = absurd clear
clear-take size a n (suc k) (Emit pc at left ∷ ops) clear = absurd clear
clear-take size a n (suc k) (Write at left ∷ ops) (clear, rest) = (clear, clear-take size a n k ops rest)
clear-take size a n (suc k) (Wake ∷ ops) clear = absurd clear
clear-take size a n (suc k) (Sleep ∷ ops) clear = absurd clear

-- the writes of parts that leave the range alone
pub clear_writes : (size a n : ℕ) (image : List ℕ) (ps : List Part) → PartsClear size a n ps → AllClear size a n (writes_of image ps)
clear_writes size a n image [] clear = tt
clear_writes size a n image (p ∷ ps) (clear, rest) = first (same_bytes (bytes_at p.at (length p.bytes) image) p.bytes) (clear_writes size a n image ps rest)
  where
    first : (b : Bool) → AllClear size a n (writes_of image ps) → AllClear size a n ((if b then [] else Write p.at p.bytes ∷ []) ++ writes_of image ps)
    first true later = later
    first false later = (clear, later)

-- a run that was done is two
pub run_apart : (first second : List Op) (old new : State) → Runs old (first ++ second) Done new → (mid : State) × Runs old first Done mid × Runs mid second Done new
run_apart [] second old new run = (old, refl, run)
run_apart (op ∷ first) second old new (inl stops) = absurd stops
run_apart (op ∷ first) second old new (inr (mid, done, run)) =
    let (late, one, other) = run_apart first second mid new run in
    (late, inr (mid, done, one), other)

-- so many operations of two lists: the first list is not done with yet, or some of the second one follow
pub run_upto : (n : ℕ) (first second : List Op) (old new : State) (answer : Answer) → Runs old (take n (first ++ second)) answer new
    → (Runs old (take n first) answer new) ⊎ ((mid : State) × (m : ℕ) × Runs old first Done mid × Runs mid (take m second) answer new)
run_upto n [] second old new answer run = inr (old, n, refl, run)
run_upto zero (op ∷ first) second old new answer run = inl run
run_upto (suc n) (op ∷ first) second old new answer (inl stops) = inl (inl stops)
run_upto (suc n) (op ∷ first) second old new answer (inr (mid, done, run)) =
    elim (run_upto n first second mid new answer run) [
      | inl within ↦ inl (inr (mid, done, within))
      | inr (late, m, one, other) ↦ inr (late, m, inr (mid, done, one), other)
    ]
