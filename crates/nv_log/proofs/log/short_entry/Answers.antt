use Rattle.std.proofs.Common.{◌≡◌, ℕ, Bool, List, ◌∙◌, ap, subst}
use Rattle.std.specs.Prelude.{◌==◌}
use Rattle.nv_log.specs.Record.{IsFound}
use Rattle.nv_log.proofs.EntryLemmas.{record_by, short_parts}
use Rattle.nv_log.proofs.log.short_entry.Goals as goal

pub returns : goal.returns
returns g c =
    let l = c.args.layout.now in
    let image = (g.B.Board.state c.args.board.now).image in
    let all = short_parts image c.args.at c.read.result c.read-2.result c.read-3.result c.read-4.result c.number-first.result c.number-second.result c.number-third.result c.requires.within
    c.read.ensures.value c.read-2.ensures.value c.read-3.ensures.value c.read-4.ensures.value c.number-first.ensures c.number-second.ensures c.number-third.ensures in
    let in_format = ap (λ (short : Bool). record_by short c.read.result c.read-2.result c.read-3.result c.read-4.result c.number-first.result c.number-second.result c.number-third.result 0) c.requires.format in
    let second_is = ap (λ (second : ℕ). record_by (l.format == 1) c.read.result c.read-2.result c.read-3.result c.read-4.result c.number-first.result second c.number-third.result 0) c.from.ensures in
    subst (λ (bytes : List ℕ). IsFound l c.args.program.now bytes c.entry_of.result) (second_is ∙ in_format ∙ all) c.entry_of.ensures
