use Rattle.board_core.proofs.MarkLemmas.{part_of, part_size, rising_part, widened}
use Rattle.board_core.proofs.timeline.ended_by.Goals as goal

pub ended_in-requires : goal.ended_in-requires
ended_in-requires c =
    let n = c.requires.narrow in
    let ends = c.args.ends.now in
    rising_part ends _ c.args.first c.args.last c.requires.rising (part_size ends c.args.first c.args.last n.within n.order) n.within n.order
    (λ i d less. part_of ends c.args.first c.args.last i d n.within less)

pub returns-clause-point : goal.returns-clause-point
returns-clause-point c =
    let n = c.requires.narrow in
    let ends = c.args.ends.now in
    widened ends _ c.args.place c.args.first c.args.last c.ended_in.result n (part_size ends c.args.first c.args.last n.within n.order)
    (λ i d less. part_of ends c.args.first c.args.last i d n.within less) c.ended_in.ensures.most c.ended_in.ensures.point
