use Rattle.std.proofs.Common.{◌≡◌, ℕ, ◌<◌, length, get_or}
use Rattle.cn_scheduler.proofs.engine.keep_posts.Given as goal

abbrev pub invariant-loop-t : goal.invariant-loop-t
invariant-loop-t l =
    record {
      others : l.slot ≡ record l.fn.slot { posts = l.slot.posts };
      long : length l.slot.posts ≡ length l.fn.slot.posts;
      below : (j : ℕ) → j < l.t → get_or l.slot.posts j 0 ≡ get_or l.working.posts j 0;
    }
