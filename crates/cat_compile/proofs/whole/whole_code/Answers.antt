use Rattle.std.proofs.Common.{◌∙◌}
use Rattle.cat_machine.specs.CodeValue.{entries_of}
use Rattle.cat_compile.proofs.Regions.{whole_is, whole_short, whole_few_tasks, whole_few_events}
use Rattle.cat_compile.proofs.whole.whole_code.Goals as goal

pub of-requires : goal.of-requires
of-requires c =
    let p = c.args.program.now in
    let middle = c.emit_tasks.new.code.items in
    let checked = c.bodies-checked.ensures.checked in
    record {
      short = whole_short c.code_is_laid_out.ensures.sizes p middle c.emit_events.new.code.items checked c.in_ok-tasks.ensures.code c.in_ok-versions.ensures.code;
      few_tasks = whole_few_tasks p c.in_ok-tasks.tasks.items checked c.in_ok-tasks.ensures.entries;
      few_events = whole_few_events p middle c.in_ok-versions.versions.items checked c.in_ok-versions.ensures.entries;
    }

pub returns : goal.returns
returns c =
    c.of.ensures
    ∙ whole_is c.code_is_laid_out.ensures.sizes c.args.program.now c.emit_tasks.new.code.items c.emit_events.new.code.items c.in_ok-tasks.tasks.items (entries_of c.in_ok-versions.versions.items) c.in_ok-tasks.ensures.code c.in_ok-tasks.ensures.entries c.in_ok-versions.ensures.code c.in_ok-versions.ensures.entries
