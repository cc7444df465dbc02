use Rattle.std.proofs.Common.{◌≡◌, ◌<◌, length, ◌∙◌, arith}
use Rattle.std.proofs.lemmas.Grind.{same_number_lists}
use Rattle.cn_scheduler.proofs.engine.keep_posts.Goals as goal

pub returns : goal.returns
returns c =
    let long : length c.loop-t.slot.posts ≡ length c.args.working.now.posts = omega (arith, c.loop-t.invariant.long, c.requires.slot, c.requires.working) in
    let same = same_number_lists c.loop-t.slot.posts c.args.working.now.posts long (λ j below. let before : j < c.loop-t.t = omega (arith, c.requires.working) in c.loop-t.invariant.below j before) in
    c.loop-t.invariant.others ∙ λ i. record c.args.slot.now { posts = same i }
