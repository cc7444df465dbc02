-- That sections and handlers end, and what one instruction of them is and leaves.
use Rattle.std.specs.Prelude.{◌≡◌, ℕ, ◌<◌, ℤ, List, [], Some, None, slice_get}
use Rattle.cat_program.specs.Body.{Body}
use Rattle.cat_program.specs.Meaning.{Output}
use Rattle.cat_program.specs.Checked.{Checked, IsChecked, HasVersion, rest_at}
use Rattle.cat_machine.specs.Code.{code_of}
use Rattle.cat_machine.specs.declared.instr.Instr.{Instr}
use Rattle.cat_machine.specs.declared.instr.Instr.TheVariants as i
use Rattle.cat_machine.specs.declared.instr.Did.{Did}
use Rattle.cat_machine.specs.declared.instr.Did.TheVariants.{Emitted}
use Rattle.cat_machine.specs.declared.instr.Mode.{Mode}
use Rattle.cat_machine.specs.declared.instr.Mode.TheVariants.{Task, Handler}
use Rattle.cat_machine.specs.CodeValue.{CodeValue, EntryAt}
use Rattle.cat_machine.specs.Held.{Held}
use Rattle.cat_machine.specs.Machine.{Stepping, Ended', next_of, step_of, goes_on, until, entered, Unacted}
use Rattle.cat_machine.specs.Fits.{IsIdle, Fits}

-- a whole section or handler, after which the machine is idle
pub record IsWhole (p : Checked) (mode : Mode) (code : CodeValue) (h : Held) : Type 0 where
  pub run : Ended'
  pub ends : until 1000000 mode code h ≡ Some run
  pub idle : IsIdle p run.after

-- an `out` puts out to its channel, and no other instruction puts out
abbrev pub PutsBy : Instr → Did → Type 0
PutsBy (i.Out channel) (Emitted channel' value) = channel' ≡ channel
PutsBy (i.Out channel) _ = ⊥
PutsBy _ (Emitted channel value) = ⊥
PutsBy _ _ = Unit {0}

pub record RunsEnd : Type 0 where
  pub section : (p : Checked) (code : CodeValue) (h : Held) (pc : ℕ) → Fits p code h → h.kept ≡ None → h.stack ≡ [] → next_of code h ≡ Some pc → IsWhole p Task code h
  pub handler : (p : Checked) (code : CodeValue) (h : Held) (event version entry : ℕ) (payload : ℤ) → Fits p code h → h.kept ≡ None → h.stack ≡ [] → EntryAt code event version entry
      → IsWhole p Handler code (entered h entry payload)
  -- an instruction after which a section or handler goes on leaves the place that is kept aside
  pub keeps : (mode : Mode) (code : CodeValue) (h : Held) (s : Stepping) (outs : List Output) → step_of mode code h ≡ Some s → goes_on mode s.did ≡ Some outs → s.after.kept ≡ h.kept
  pub puts : (mode : Mode) (code : CodeValue) (h : Held) (pc : ℕ) (instr : Instr) (s : Stepping) → next_of code h ≡ Some pc → slice_get code.instrs pc ≡ Some instr → step_of mode code h ≡ Some s → PutsBy instr s.did
  -- what goes on in a task has changed only the place and the stack
  pub unacted : (code : CodeValue) (before now : Held) → Unacted code before now → (now.words ≡ before.words) × (now.posts ≡ before.posts) × (now.kept ≡ before.kept)
  -- a place that stands for a list is one of the code's
  pub places : (p : Checked) (pc : ℕ) (k : Body) → IsChecked p → rest_at p pc ≡ Some k → pc < 60000
  -- each version of a program has an entry in its code
  pub entries : (p : Checked) (event version : ℕ) → HasVersion p event version → (entry : ℕ) × EntryAt (code_of p) event version entry
