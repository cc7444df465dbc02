use Rattle.std.proofs.Common.{◌≡◌, ◌∙◌, ◌<◌, Some, length, slice_index, get_or, sym, arith, rules}
use Rattle.std.proofs.lemmas.Option.{slice_get-get_or}
use Rattle.reference_run.specs.Reference.{setting_of}
use Rattle.reference_run.proofs.Going.{event_known, no_steps, not_allowed, taken, version_there}
use Rattle.reference_run.specs.declared.schedule.Item.{Item}
use Rattle.reference_run.proofs.whole.take_item.Goals as goal

pub returns-in_default-clause-broke : goal.returns-in_default-clause-broke
returns-in_default-clause-broke c = λ _.
    let s = setting_of c.args.program.now c.args.versions.now c.args.arrivals.now in
    let d : Item = record { steps = 0; event = 0; version = 0; start = 0 } in
    not_allowed s c.args.items.now c.args.i c.args.run.now c.requires.at (get_or c.args.items.now c.args.i d) (slice_get-get_or c.args.items.now c.args.i d c.requires.more) c.in_default.ensures

pub returns-then-not-branch-clause-broke : goal.returns-then-not-branch-clause-broke
returns-then-not-branch-clause-broke c = λ _.
    let s = setting_of c.args.program.now c.args.versions.now c.args.arrivals.now in
    let d : Item = record { steps = 0; event = 0; version = 0; start = 0 } in
    no_steps s c.args.items.now c.args.i c.args.run.now c.requires.at (get_or c.args.items.now c.args.i d) (slice_get-get_or c.args.items.now c.args.i d c.requires.more) (c.in_ok-advance.ensures.none c.if-not-branch.true)

pub handle-requires-clause-there : goal.handle-requires-clause-there
handle-requires-clause-there c =
    let s = setting_of c.args.program.now c.args.versions.now c.args.arrivals.now in
    let d : Item = record { steps = 0; event = 0; version = 0; start = 0 } in
    version_there s c.are_sound.ensures.sound.known c.args.run.now.start (slice_index c.args.run.now.done.items) (get_or c.args.items.now c.args.i d) c.in-Some.arrival c.requires.belong c.in-Some.ensures

pub handle-requires-clause-known : goal.handle-requires-clause-known
handle-requires-clause-known c =
    let s = setting_of c.args.program.now c.args.versions.now c.args.arrivals.now in
    let d : Item = record { steps = 0; event = 0; version = 0; start = 0 } in
    let within = event_known s c.are_sound.ensures.sound.known c.args.run.now.start (slice_index c.args.run.now.done.items) (get_or c.args.items.now c.args.i d) c.in-Some.arrival c.requires.belong c.in-Some.ensures in
    let went = c.in_ok-advance.ensures.all c.if-not-branch.false in
    rw went.beside.done (omega (arith, within, c.requires.at.each))

pub returns-clause-went : goal.returns-clause-went
returns-clause-went c = λ _.
    let s = setting_of c.args.program.now c.args.versions.now c.args.arrivals.now in
    let d : Item = record { steps = 0; event = 0; version = 0; start = 0 } in
    taken s c.are_sound.ensures.sound.known c.args.items.now c.args.i c.args.run.now c.advance.new.run c.handle.new.run (get_or c.args.items.now c.args.i d) c.in-Some.arrival c.requires.belong c.requires.at
    (slice_get-get_or c.args.items.now c.args.i d c.requires.more) c.in-Some.ensures (c.in_ok-advance.ensures.all c.if-not-branch.false) c.in_ok-handle.ensures
