-- The paths of code: the places that a section or a handler may go through.
use Rattle.std.specs.Prelude.{◌≡◌, ℕ, zero, suc, ◌+◌, ◌<◌, ◌⊎◌, Bool, true, false, pos, List, [], ◌∷◌, Option, Some, slice_get}
use Rattle.cat_program.specs.Places.{tasks_size}
use Rattle.cat_program.specs.Checked.{Checked, bodies_of}
use Rattle.cat_machine.specs.declared.instr.Instr.{Instr}
use Rattle.cat_machine.specs.declared.instr.Instr.TheVariants.{Push, Jump, JumpZero, Turn, Begin, End, Store, StoreAt, Post, Out}
use Rattle.cat_machine.specs.CodeValue.{CodeValue, EntryAt}
use Rattle.cat_machine.specs.Code.{code_of}

-- ---- sections

-- an instruction that acts ends a section
abbrev pub acts : Instr → Bool
acts (JumpZero to) = true
acts (Begin t) = true
acts End = true
acts (Store w) = true
acts (StoreAt base len) = true
acts (Post t) = true
acts (Out c) = true
acts _ = false

-- where a section goes on after an instruction that doesn't act
abbrev pub place_after : Instr → ℕ → ℕ
place_after (Jump to) pc = to
place_after _ pc = pc + 1

-- from a place on, along jumps, up to and including the first instruction that acts
pub data SectionFrom (code : CodeValue) : ℕ → List ℕ → Type 0 where
  Acts : {pc : ℕ} → (i : Instr) → slice_get code.instrs pc ≡ Some i → acts i ≡ true → SectionFrom code pc (pc ∷ [])
  GoesOn : {pc : ℕ} {path : List ℕ} → (i : Instr) → slice_get code.instrs pc ≡ Some i → acts i ≡ false → SectionFrom code (place_after i pc) path → SectionFrom code pc (pc ∷ path)

-- a section from any place of the tasks' code, which comes first
pub record IsSection (p : Checked) (path : List ℕ) : Type 0 where
  pub from : ℕ
  pub within : from < tasks_size (bodies_of p)
  pub is : SectionFrom (code_of p) from path

-- ---- handlers

abbrev pub is_turn : Option Instr → Bool
is_turn (Some (Turn to)) = true
is_turn _ = false

-- A push just before a turn opens a repeat with this many turns. What is open is listed from the innermost repeat on.
abbrev pub opened : Bool → Instr → List ℕ → List ℕ
opened true (Push (pos n)) left = n ∷ left
opened _ _ left = left

-- Where an instruction leads from a place with these turns left: a test goes either way, and a repeat makes all its turns.
abbrev pub LeadsTo : (before_turn : Bool) → Instr → ℕ → List ℕ → ℕ → List ℕ → Type 0
LeadsTo before_turn (Jump to) pc left next later = (next ≡ to) × (later ≡ left)
LeadsTo before_turn (JumpZero to) pc left next later = ((next ≡ to) ⊎ (next ≡ pc + 1)) × (later ≡ left)
LeadsTo before_turn (Turn to) pc [] next later = ⊥
LeadsTo before_turn (Turn to) pc (zero ∷ left) next later = (next ≡ to) × (later ≡ left)
LeadsTo before_turn (Turn to) pc (suc n ∷ left) next later = (next ≡ pc + 1) × (later ≡ n ∷ left)
LeadsTo before_turn End pc left next later = ⊥
LeadsTo before_turn i pc left next later = (next ≡ pc + 1) × (later ≡ opened before_turn i left)

-- the instruction after a place is a turn
abbrev pub turn_follows : CodeValue → ℕ → Bool
turn_follows code pc = is_turn (slice_get code.instrs (pc + 1))

-- from a place on, with these turns left, up to and including the end
pub data HandlerFrom (code : CodeValue) : ℕ → List ℕ → List ℕ → Type 0 where
  Ends : {pc : ℕ} {left : List ℕ} → slice_get code.instrs pc ≡ Some End → HandlerFrom code pc left (pc ∷ [])
  LeadsOn : {pc next : ℕ} {left later path : List ℕ} → (i : Instr) → slice_get code.instrs pc ≡ Some i → LeadsTo (turn_follows code pc) i pc left next later → HandlerFrom code next later path → HandlerFrom code pc left (pc ∷ path)

-- a handler from the entry of a version, where no repeat is open
pub record IsHandler (p : Checked) (event version : ℕ) (path : List ℕ) : Type 0 where
  pub entry : ℕ
  pub enters : EntryAt (code_of p) event version entry
  pub is : HandlerFrom (code_of p) entry [] path
