use Rattle.std.proofs.Common.{◌∙◌, sym, ap, arith}
use Rattle.std.proofs.lemmas.Option.{none-some}
use Rattle.cat_program.specs.OutsValue.{OutsValue}
use Rattle.cn_uplink.specs.Log.{entry_by}
use Rattle.cn_uplink.proofs.Logged.{entry_is, one_more}
use Rattle.cn_uplink.proofs.log.read_log.Goals as goal

pub unreachable-requires : goal.unreachable-requires
unreachable-requires g c =
    let held = c.requires.spelled c.loop-place.place c.loop-place-test.true in
    none-some held.0 (sym c.in-None.is ∙ c.entry_at.ensures.only held.0 held.1)

pub loop-place-preserved : goal.loop-place-preserved
loop-place-preserved g c =
    let l = c.args.layout.now in
    let image = (g.B.Board.state c.args.board.now).image in
    let spelled = rw c.in-Some.is at c.entry_at.ensures.spelled in (
      one_more (entry_by l image) c.loop-place.place c.loop-place.log.entries c.push.new.self.entries c.in-Some.entry c.loop-place.invariant.0 (ap (λ (o : OutsValue). o.entries) c.push.ensures)
          (entry_is l c.args.program.now image c.loop-place.place c.in-Some.entry c.records_are_read_again.ensures spelled),
      omega (arith, c.loop-place.invariant.1, c.loop-place-test.true, ap (λ (o : OutsValue). o.spare) c.push.ensures),
    )
