use Rattle.cn_object.specs.Spelling.{program_object}
use Rattle.compiled_objects.proofs.Files.{file_good}
use Rattle.compiled_objects.proofs.laws.objects_of_programs_are_accepted.Goals as goal

pub returns-clause-good : goal.returns-clause-good
returns-clause-good c = file_good c.compiled_code_is_verified.ensures

pub returns-clause-never : goal.returns-clause-never
returns-clause-never c = λ p bytes kind place checked file.
    c.one_verdict_law.ensures.either bytes (program_object p) kind place (file_good c.compiled_code_is_verified.ensures p bytes checked file)

pub returns-clause-same : goal.returns-clause-same
returns-clause-same c = λ p bytes o file good. c.one_object_law.ensures o (program_object p) bytes good.file file
