use Rattle.cn_resume.specs.Records.{IsRecord}
use Rattle.cn_resume.proofs.Recorded.{each_more, entries_with}
use Rattle.cn_resume.proofs.records.entries_of.Goals as goal

pub loop-place-preserved : goal.loop-place-preserved
loop-place-preserved g c =
    let l = c.args.layout.now in
    let image = (g.B.Board.state c.args.board.now).image in
    let n = c.loop-place.place in
    record {
      entries = entries_with l image n c.loop-place.entries.items _ c.in-Some.entry c.in-Ok.ensures.items c.loop-place.invariant.entries c.in-Some.ensures.1;
      good = each_more (IsRecord l c.args.program.now c.args.tick image) n c.loop-place.invariant.good c.in-Some.ensures.0;
    }
