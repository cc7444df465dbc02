use Rattle.std.proofs.Common.{length, ap, arith}
use Rattle.cn_object.proofs.Programs.{tasks_counted, versions_had, program_filed}
use Rattle.cn_object.proofs.writing.object_of.Goals as goal

pub spelled-requires-clause-tasks : goal.spelled-requires-clause-tasks
spelled-requires-clause-tasks c = omega (arith, tasks_counted c.args.program.now c.args.code.now c.requires, c.first_words-words.ensures.checked.few_tasks)

pub spelled-requires-clause-started : goal.spelled-requires-clause-started
spelled-requires-clause-started c =
    omega (arith, tasks_counted c.args.program.now c.args.code.now c.requires, c.first_words-words.ensures.checked.started, ap length c.first_posts-started.ensures.posts)

pub spelled-requires-clause-versions : goal.spelled-requires-clause-versions
spelled-requires-clause-versions c = versions_had c.args.program.now c.args.code.now c.requires c.first_words-words.ensures.checked

pub returns-in-Ok : goal.returns-in-Ok
returns-in-Ok c =
    program_filed c.args.program.now c.args.code.now c.first_words-words.result.now c.first_posts-started.result.now _ c.code_is_laid_out.ensures.sizes c.first_words-words.ensures.checked c.requires
    c.first_words-words.ensures.words c.first_posts-started.ensures.posts c.in-Ok.ensures.text c.in-Ok.ensures.room
