use Rattle.std.proofs.Common.{◌≡◌, ◌<◌, length, ◌∙◌, arith}
use Rattle.std.proofs.lemmas.Grind.{same_number_lists}
use Rattle.cn_scheduler.proofs.engine.take_posts.Goals as goal

pub returns : goal.returns
returns c =
    let long : length c.loop-t.working.posts ≡ length c.args.slot.now.posts = omega (arith, c.loop-t.invariant.long, c.requires.slot, c.requires.working) in
    let same = same_number_lists c.loop-t.working.posts c.args.slot.now.posts long (λ j below. let before : j < c.loop-t.t = omega (arith, c.loop-t.invariant.long, c.requires.working) in c.loop-t.invariant.below j before) in
    c.loop-t.invariant.others ∙ λ i. record c.args.working.now { posts = same i }
