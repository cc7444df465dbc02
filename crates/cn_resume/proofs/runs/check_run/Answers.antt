use Rattle.std.proofs.Common.{◌≡◌, ℕ, List, length, sym, ap, ◌∙◌, subst, arith}
use Rattle.cat_program.specs.declared.outs.LogEntry.{LogEntry}
use Rattle.cat_eval.specs.Cursor.{state_of}
use Rattle.reference_run.specs.declared.schedule.Schedule.{Schedule}
use Rattle.reference_run.specs.Reference.{IsFault, setting_of}
use Rattle.logged_runs.specs.Own.{schedule_of}
use Rattle.cn_resume.specs.declared.fault.ImageFault.TheVariants.{BadImage}
use Rattle.cn_resume.specs.declared.fault.ImageKind.TheVariants as kind
use Rattle.cn_resume.specs.Fit.{PartsAt}
use Rattle.cn_resume.specs.Stages.{RunFault, NoRoom', said_moment, said_state}
use Rattle.cn_resume.proofs.Looking.{untrue}
use Rattle.cn_resume.proofs.Running.{items_few, no_run, entries_differ, ends_so, state_differs}
use Rattle.cn_resume.proofs.runs.check_run.Goals as goal

pub returns-in_default-clause-refused : goal.returns-in_default-clause-refused
returns-in_default-clause-refused c = λ current rests. NoRoom'

pub returns-in-Err-NoMemory-clause-refused : goal.returns-in-Err-NoMemory-clause-refused
returns-in-Err-NoMemory-clause-refused c = λ current rests. NoRoom'

pub reference-requires-clause-few : goal.reference-requires-clause-few
reference-requires-clause-few c =
    let same = ap (λ (x : Schedule). length x.items) c.in-Ok.ensures in
    let few = items_few c.args.entries.now in
    omega (arith, same, few, c.requires.few)

pub returns-in-Err-BadSchedule-clause-refused : goal.returns-in-Err-BadSchedule-clause-refused
returns-in-Err-BadSchedule-clause-refused c = λ current rests.
    (let s = setting_of c.args.program.now c.args.versions.now c.args.arrivals.now in
    let here = no_run s c.args.slot.now c.args.entries.now current c.in-Ok.schedule c.in-Ok.ensures c.in-Err-BadSchedule.item (subst (IsFault s c.in-Ok.schedule) c.in-Err-BadSchedule.field-0-is c.in-Err-BadSchedule.ensures.fault) in
    subst (λ (n : ℕ). RunFault s (schedule_of c.args.entries.now c.args.slot.now.steps) (said_moment c.args.slot.now c.args.entries.now current) (BadImage kind.Schedule n)) (sym c.from.ensures) here)

pub returns-in-Some-clause-refused : goal.returns-in-Some-clause-refused
returns-in-Some-clause-refused c = λ current rests.
    (let s = setting_of c.args.program.now c.args.versions.now c.args.arrivals.now in
    let end = c.in-Ok-reference.end in
    let parts = subst (λ (l : List LogEntry). PartsAt l c.args.entries.now c.in-Some.at) c.entries.ensures c.in-Some.ensures in
    entries_differ s c.args.slot.now c.args.entries.now current c.in-Ok.schedule c.in-Ok.ensures end.state end.outs.entries c.in-Ok-reference.ensures.end c.in-Some.at parts)

pub returns-then-same_state-clause-run : goal.returns-then-same_state-clause-run
returns-then-same_state-clause-run c = λ current rests.
    (let s = setting_of c.args.program.now c.args.versions.now c.args.arrivals.now in
    let end = c.in-Ok-reference.end in
    ends_so s c.args.slot.now c.args.entries.now current c.in-Ok.schedule c.in-Ok.ensures end.state end.outs.entries c.in-Ok-reference.ensures.end (sym c.entries.ensures ∙ c.in_default-difference.ensures) ((c.same_state.ensures current rests).0 c.if-same_state.true))

pub returns-clause-refused : goal.returns-clause-refused
returns-clause-refused c = λ current rests.
    (let s = setting_of c.args.program.now c.args.versions.now c.args.arrivals.now in
    let end = c.in-Ok-reference.end in
    let differ = untrue (state_of c.args.program.now end.state ≡ said_state c.args.slot.now current) c.same_state.result (c.same_state.ensures current rests) c.if-same_state.false in
    state_differs s c.args.slot.now c.args.entries.now current c.in-Ok.schedule c.in-Ok.ensures end.state end.outs.entries c.in-Ok-reference.ensures.end (sym c.entries.ensures ∙ c.in_default-difference.ensures) differ)
