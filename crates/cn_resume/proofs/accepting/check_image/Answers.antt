use Rattle.std.proofs.Common.{List, length, sym, ap, ◌∙◌, subst, arith}
use Rattle.cat_program.specs.declared.outs.LogEntry.{LogEntry}
use Rattle.reference_run.specs.Reference.{IsReference, setting_of}
use Rattle.logged_runs.specs.Own.{schedule_of}
use Rattle.cn_resume.specs.Fit.{IsFit, IsRefused, purpose_of}
use Rattle.cn_resume.specs.Stages.{IsSlotRead, SlotFault, IsLogRead, LogFault, RunFault, said_moment}
use Rattle.cn_resume.proofs.Staging.{sized, in_life, image_length, size_few, told_of, slot_made, logged_few, on_ok, if_err, slot_refused, after_slot, log_refused, after_log, run_refused, fits}
use Rattle.cn_resume.proofs.accepting.check_image.Goals as goal

pub holding-requires-clause-head : goal.holding-requires-clause-head
holding-requires-clause-head c =
    let s = setting_of c.args.program.now c.args.versions.now c.args.arrivals.now in
    let l = c.args.layout.now in
    let cap = c.args.device.now.cap in
    let file = c.args.file.now in
    let size = (sized s l cap c.args.life file c.requires.head).size in
    omega (arith, size)

pub holding-requires-clause-size : goal.holding-requires-clause-size
holding-requires-clause-size c =
    let s = setting_of c.args.program.now c.args.versions.now c.args.arrivals.now in
    let l = c.args.layout.now in
    let cap = c.args.device.now.cap in
    let file = c.args.file.now in
    let size = (sized s l cap c.args.life file c.requires.head).size in
    omega (arith, size, size_few l)

pub number-tick-requires-clause-within : goal.number-tick-requires-clause-within
number-tick-requires-clause-within c =
    let s = setting_of c.args.program.now c.args.versions.now c.args.arrivals.now in
    let l = c.args.layout.now in
    let cap = c.args.device.now.cap in
    let file = c.args.file.now in
    let size = (sized s l cap c.args.life file c.requires.head).size in
    omega (arith, size)

pub check_slot-requires-clause-image : goal.check_slot-requires-clause-image
check_slot-requires-clause-image c =
    let s = setting_of c.args.program.now c.args.versions.now c.args.arrivals.now in
    let l = c.args.layout.now in
    let cap = c.args.device.now.cap in
    let file = c.args.file.now in
    let long = image_length s l cap c.args.life file c.requires.head in
    let same = ap length (c.in-Ok.ensures {u = tt}) in
    omega (arith, long, same)

pub check_log-requires-clause-image : goal.check_log-requires-clause-image
check_log-requires-clause-image c =
    let s = setting_of c.args.program.now c.args.versions.now c.args.arrivals.now in
    let l = c.args.layout.now in
    let cap = c.args.device.now.cap in
    let file = c.args.file.now in
    let long = image_length s l cap c.args.life file c.requires.head in
    let same = ap length (c.in-Ok.ensures {u = tt}) in
    omega (arith, long, same)

pub returns-in-Err-clause-refused : goal.returns-in-Err-clause-refused
returns-in-Err-clause-refused c =
    let s = setting_of c.args.program.now c.args.versions.now c.args.arrivals.now in
    let l = c.args.layout.now in
    let cap = c.args.device.now.cap in
    let file = c.args.file.now in
    let image = c.in-Ok.board.image.items in
    let tick = c.number-tick.result in
    let bad = told_of (λ n i. SlotFault l s.program n i c.in-Err.fault) tick image file c.number-tick.ensures (c.in-Ok.ensures {u = tt}) c.in-Err.ensures.refused in
    slot_refused s l cap c.args.life file c.in-Err.fault c.requires.head bad

pub check_log-requires-clause-events : goal.check_log-requires-clause-events
check_log-requires-clause-events c =
    let s = setting_of c.args.program.now c.args.versions.now c.args.arrivals.now in
    let l = c.args.layout.now in
    let cap = c.args.device.now.cap in
    let file = c.args.file.now in
    let image = c.in-Ok.board.image.items in
    let tick = c.number-tick.result in
    let made = slot_made l image c.check_slot.new.slot c.in-Ok-check_slot.ensures.read.slot_is in
    omega (arith, made.events)

pub returns-in-Err-check_log-clause-refused : goal.returns-in-Err-check_log-clause-refused
returns-in-Err-check_log-clause-refused c =
    let s = setting_of c.args.program.now c.args.versions.now c.args.arrivals.now in
    let l = c.args.layout.now in
    let cap = c.args.device.now.cap in
    let file = c.args.file.now in
    let image = c.in-Ok.board.image.items in
    let tick = c.number-tick.result in
    let slot = c.check_slot.new.slot in
    let read = told_of (λ n i. IsSlotRead l s.program n i slot) tick image file c.number-tick.ensures (c.in-Ok.ensures {u = tt}) c.in-Ok-check_slot.ensures.read in
    let before = after_slot s l cap c.args.life file slot read c.requires.head in
    let bad = told_of (λ n i. LogFault l s.program n i slot c.in-Err-check_log.fault) tick image file c.number-tick.ensures (c.in-Ok.ensures {u = tt}) c.in-Err-check_log.ensures.refused in
    log_refused s l cap c.args.life file slot read c.in-Err-check_log.fault before bad

pub check_run-requires-clause-words : goal.check_run-requires-clause-words
check_run-requires-clause-words c =
    let s = setting_of c.args.program.now c.args.versions.now c.args.arrivals.now in
    let l = c.args.layout.now in
    let cap = c.args.device.now.cap in
    let file = c.args.file.now in
    let image = c.in-Ok.board.image.items in
    let tick = c.number-tick.result in
    (slot_made l image c.check_slot.new.slot c.in-Ok-check_slot.ensures.read.slot_is).words ∙ c.requires.layout.words

pub check_run-requires-clause-posts : goal.check_run-requires-clause-posts
check_run-requires-clause-posts c =
    let s = setting_of c.args.program.now c.args.versions.now c.args.arrivals.now in
    let l = c.args.layout.now in
    let cap = c.args.device.now.cap in
    let file = c.args.file.now in
    let image = c.in-Ok.board.image.items in
    let tick = c.number-tick.result in
    (slot_made l image c.check_slot.new.slot c.in-Ok-check_slot.ensures.read.slot_is).tasks ∙ c.requires.layout.tasks

pub check_run-requires-clause-few : goal.check_run-requires-clause-few
check_run-requires-clause-few c =
    let s = setting_of c.args.program.now c.args.versions.now c.args.arrivals.now in
    let l = c.args.layout.now in
    let cap = c.args.device.now.cap in
    let file = c.args.file.now in
    let image = c.in-Ok.board.image.items in
    let tick = c.number-tick.result in
    let read = c.in-Ok-check_slot.ensures.read in
    logged_few l image c.check_slot.new.slot read.slot_is c.as_slice.result.now read.formed (c.as_slice.ensures.value ∙ c.in-Ok-check_log.ensures.read.entries_are)

pub check_run-requires-clause-steps : goal.check_run-requires-clause-steps
check_run-requires-clause-steps c =
    let s = setting_of c.args.program.now c.args.versions.now c.args.arrivals.now in
    let l = c.args.layout.now in
    let cap = c.args.device.now.cap in
    let file = c.args.file.now in
    let image = c.in-Ok.board.image.items in
    let tick = c.number-tick.result in
    let le = in_life s l cap c.args.life file c.requires.head in
    let steps = c.in-Ok-check_slot.ensures.read.steps in
    omega (arith, le, steps, c.number-tick.ensures, c.requires.life)

pub returns-clause-fit : goal.returns-clause-fit
returns-clause-fit c =
    let s = setting_of c.args.program.now c.args.versions.now c.args.arrivals.now in
    let l = c.args.layout.now in
    let cap = c.args.device.now.cap in
    let file = c.args.file.now in
    let image = c.in-Ok.board.image.items in
    let tick = c.number-tick.result in
    let slot = c.check_slot.new.slot in
    let read = told_of (λ n i. IsSlotRead l s.program n i slot) tick image file c.number-tick.ensures (c.in-Ok.ensures {u = tt}) c.in-Ok-check_slot.ensures.read in
    let before = after_slot s l cap c.args.life file slot read c.requires.head in
    let entries = c.as_slice.result.now in
    let own = subst (λ (es : List LogEntry). IsLogRead l s.program tick image slot es) (sym c.as_slice.ensures.value) c.in-Ok-check_log.ensures.read in
    let log = told_of (λ n i. IsLogRead l s.program n i slot entries) tick image file c.number-tick.ensures (c.in-Ok.ensures {u = tt}) own in
    let last = after_log s l cap c.args.life file slot read entries log before in
    let rest = read.rests in
    let said = said_moment slot entries rest.0 in
    on_ok c.check_run.result (IsReference s (schedule_of entries slot.steps) said) (IsFit (purpose_of s l cap c.args.life) file)
    (fits s l cap c.args.life file slot read entries log rest.0 rest.1 last)
    (c.check_run.ensures.run rest.0 rest.1)

pub returns-clause-refused : goal.returns-clause-refused
returns-clause-refused c =
    let s = setting_of c.args.program.now c.args.versions.now c.args.arrivals.now in
    let l = c.args.layout.now in
    let cap = c.args.device.now.cap in
    let file = c.args.file.now in
    let image = c.in-Ok.board.image.items in
    let tick = c.number-tick.result in
    let slot = c.check_slot.new.slot in
    let read = told_of (λ n i. IsSlotRead l s.program n i slot) tick image file c.number-tick.ensures (c.in-Ok.ensures {u = tt}) c.in-Ok-check_slot.ensures.read in
    let before = after_slot s l cap c.args.life file slot read c.requires.head in
    let entries = c.as_slice.result.now in
    let own = subst (λ (es : List LogEntry). IsLogRead l s.program tick image slot es) (sym c.as_slice.ensures.value) c.in-Ok-check_log.ensures.read in
    let log = told_of (λ n i. IsLogRead l s.program n i slot entries) tick image file c.number-tick.ensures (c.in-Ok.ensures {u = tt}) own in
    let last = after_log s l cap c.args.life file slot read entries log before in
    let rest = read.rests in
    let said = said_moment slot entries rest.0 in
    if_err c.check_run.result (RunFault s (schedule_of entries slot.steps) said) (IsRefused (purpose_of s l cap c.args.life) file)
    (λ fault bad. run_refused s l cap c.args.life file slot read entries log fault rest.0 rest.1 last bad)
    (c.check_run.ensures.refused rest.0 rest.1)
