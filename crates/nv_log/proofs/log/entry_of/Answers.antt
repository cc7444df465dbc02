use Rattle.std.proofs.Common.{arith}
use Rattle.std.specs.Prelude.{◌==◌}
use Rattle.nv_log.proofs.EntryLemmas.{ranges_of, none_with_last}
use Rattle.nv_log.proofs.log.entry_of.Goals as goal

pub returns-then-last-ne0 : goal.returns-then-last-ne0
returns-then-last-ne0 c =
    let l = c.args.layout.now in
    let ranges = ranges_of (l.format == 1) c.args.first c.args.second c.args.third c.args.last (omega arith) c.requires.wide (omega arith) (omega arith) c.requires.short in
    none_with_last l c.args.program.now c.args.head.0 c.args.head.1 c.args.head.2 c.args.head.3 c.args.first c.args.second c.args.third c.args.last ranges c.if-last-ne0.true
