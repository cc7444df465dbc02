use Rattle.std.proofs.Common.{Some, length, sym, ap, ◌∙◌, arith}
use Rattle.std.specs.Prelude.{slice_get}
use Rattle.std.proofs.lemmas.Option.{slice_get-get_or}
use Rattle.cat_program.proofs.Members.{headers_length}
use Rattle.cat_program.proofs.EachPart.{event_at}
use Rattle.cat_program.proofs.program.Program.event.Goals as goal

pub bounds-headers-e : goal.bounds-headers-e
bounds-headers-e c =
    let same = headers_length c.args.self.now.headers c.args.self.now.events c.headers-headers.ensures.checked.declares in
    let here = ap length c.headers-headers.ensures.headers in
    omega (arith, same, here)

pub returns-clause-header : goal.returns-clause-header
returns-clause-header c =
    let same = headers_length c.args.self.now.headers c.args.self.now.events c.headers-headers.ensures.checked.declares in
    let here = ap length c.headers-headers.ensures.headers in
    ap (λ l. slice_get l c.args.e) (sym c.headers-headers.ensures.headers)
    ∙ slice_get-get_or c.headers-headers.result.now c.args.e c.index-headers-e.result (omega (arith, same, here))
    ∙ ap Some (sym c.index-headers-e.is)

pub returns-clause-declared : goal.returns-clause-declared
returns-clause-declared c =
    event_at c.args.self.now.headers c.args.self.now.events c.args.e _ c.headers-headers.ensures.checked.declares (returns-clause-header c)
