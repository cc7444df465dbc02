use Rattle.std.proofs.Common.{◌≡◌, ℕ, Bool, List, ◌∙◌, ap, subst}
use Rattle.nv_log.specs.Record.{IsFound}
use Rattle.nv_log.proofs.EntryLemmas.{record_by, long_parts}
use Rattle.nv_log.proofs.log.long_entry.Goals as goal

pub returns : goal.returns
returns g c =
    let l = c.args.layout.now in
    let image = (g.B.Board.state c.args.board.now).image in
    let all = long_parts image c.args.at c.read.result c.read-2.result c.read-3.result c.read-4.result c.number-first.result c.wide_number-second.result c.number-third.result c.number-last.result c.requires.within
    c.read.ensures.value c.read-2.ensures.value c.read-3.ensures.value c.read-4.ensures.value c.number-first.ensures c.wide_number-second.ensures c.number-third.ensures c.number-last.ensures in
    let in_format = ap (λ (short : Bool). record_by short c.read.result c.read-2.result c.read-3.result c.read-4.result c.number-first.result c.wide_number-second.result c.number-third.result c.number-last.result) c.requires.format in
    subst (λ (bytes : List ℕ). IsFound l c.args.program.now bytes c.entry_of.result) (in_format ∙ all) c.entry_of.ensures
