use Rattle.std.proofs.Common.{subst, sym}
use Rattle.cn_runtime.specs.Planned.{IsRefused}
use Rattle.cn_runtime.proofs.Readied.{refused}
use Rattle.cn_runtime.proofs.preparing.chosen_for.Goals as goal

pub returns-clause-refused : goal.returns-clause-refused
returns-clause-refused c =
    let p = c.args.program.now in
    let d = c.args.device.now in
    let f = c.args.forecast.now in
    subst (λ fault. IsRefused p d f fault) (sym c.from.ensures)
    (refused p d f c.args.layout.now c.lines-lines.result c.in_ok-bounds.bounds c.in-Err.fault c.requires.layout c.lines-lines.ensures.value
    c.in_ok-bounds.ensures.greatest c.in-Err.ensures.refused)
