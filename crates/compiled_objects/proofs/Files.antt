-- The object file of a checked program.
use Rattle.std.proofs.Common.{ℕ, List, length, sym, subst}
use Rattle.cat_program.specs.Checked.{Checked, IsChecked}
use Rattle.cat_machine.specs.Code.{code_of}
use Rattle.cn_object.specs.Spelling.{IsFileOf, program_object}
use Rattle.cn_object.specs.Verdict.{IsGood}
use Rattle.cn_object.specs.Verified.{IsVerified}
use Rattle.compiled_objects.proofs.Laying.{tasks_counted}

-- what the law of compiled code says
abbrev pub CodeIsVerified : Type 0
CodeIsVerified = (p : Checked) → IsChecked p → IsVerified (length p.words) (length p.tasks) (code_of p)

pub file_good : CodeIsVerified → (p : Checked) (bytes : List ℕ) → IsChecked p → IsFileOf (program_object p) bytes → IsGood bytes (program_object p)
file_good verified p bytes checked file = record { file = file; verified = subst (λ n. IsVerified (length p.words) n (code_of p)) (sym (tasks_counted p)) (verified p checked) }
