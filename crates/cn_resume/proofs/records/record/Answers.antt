use Rattle.std.proofs.Common.{sym, ap, ◌∙◌, rules}
use Rattle.nv_log.specs.Record.{entry_of, IsSpelled, record_bytes}
use Rattle.cn_resume.specs.Records.{StartsBefore}
use Rattle.cn_resume.proofs.records.record.Goals as goal

pub returns-then-starts_before : goal.returns-then-starts_before
returns-then-starts_before g c =
    let l = c.args.layout.now in
    let bytes = record_bytes l c.args.place (g.B.Board.state c.args.board.now).image in
    let spelled : IsSpelled l c.args.program.now bytes c.in-Some.entry = c.in-Some.ensures.spelled in
    let before : StartsBefore c.args.tick c.in-Some.entry = search rules in (
      record { entry = c.in-Some.entry; spelled = spelled; before = before },
      sym (ap (entry_of l) spelled.bytes_are ∙ c.records_are_read_again.ensures l c.in-Some.entry spelled.fits),
    )
