use Rattle.std.proofs.Common.{◌≡◌, ◌<◌, length, ◌∙◌, arith}
use Rattle.std.proofs.lemmas.Grind.{same_number_lists}
use Rattle.recovery.proofs.fresh.first_posts.Goals as goal

pub returns-clause-posts : goal.returns-clause-posts
returns-clause-posts c =
    let long : length c.loop-t.slot.posts ≡ length c.args.program.now.started = omega (arith, c.loop-t.invariant.long, c.loop-t.invariant.started, c.requires) in
    let same = same_number_lists c.loop-t.slot.posts c.args.program.now.started long (λ j below. let before : j < c.loop-t.t = omega (arith, c.loop-t.invariant.started) in c.loop-t.invariant.below j before) in
    c.loop-t.invariant.others ∙ λ i. record c.args.slot.now { posts = same i }
