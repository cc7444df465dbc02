-- That no section reads the payload.
use Rattle.std.specs.Prelude.{◌≡◌, ℤ, Some}
use Rattle.cat_program.specs.Checked.{Checked, IsChecked}
use Rattle.cat_machine.specs.declared.instr.Mode.TheVariants.{Task}
use Rattle.cat_machine.specs.Held.{Held}
use Rattle.cat_machine.specs.Machine.{Ended', until}
use Rattle.cat_machine.specs.Code.{code_of}
use Rattle.cat_machine.specs.Fits.{IsIdle}

abbrev pub with_payload : ℤ → Held → Held
with_payload payload h = record h { payload = payload }

-- with any other payload the section of an idle machine runs alike, and leaves that payload
abbrev pub SectionsReadNoPayload : Type 0
SectionsReadNoPayload = (p : Checked) (h : Held) (payload : ℤ) (run : Ended') → IsChecked p → IsIdle p h → until 1000000 Task (code_of p) h ≡ Some run
    → until 1000000 Task (code_of p) (with_payload payload h) ≡ Some (record run { after = with_payload payload run.after })
