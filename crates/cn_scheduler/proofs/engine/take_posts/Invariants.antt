use Rattle.std.proofs.Common.{◌≡◌, ℕ, ◌<◌, length, get_or}
use Rattle.cn_scheduler.proofs.engine.take_posts.Given as goal

abbrev pub invariant-loop-t : goal.invariant-loop-t
invariant-loop-t l =
    record {
      others : l.working ≡ record l.fn.working { posts = l.working.posts };
      long : length l.working.posts ≡ length l.fn.working.posts;
      below : (j : ℕ) → j < l.t → get_or l.working.posts j 0 ≡ get_or l.slot.posts j 0;
    }
