use Rattle.std.proofs.Common.{◌≡◌, ℕ, ◌++◌, ◌≤◌, ◌<◌, ◌+◌, ◌-◌, ◌∙◌, sym, ap, arith}
use Rattle.nv_memory.specs.Board.{filled}
use Rattle.board_core.specs.Rules.{harvests}
use Rattle.board_core.proofs.Outlooks.{filled-alike, harvest_at-alike}
use Rattle.board_core.proofs.Passing.{filled-append, harvests-since}
use Rattle.board_core.proofs.origin.ModelOrigin.stored_after.Goals as goal

pub rows-init : goal.rows-init
rows-init c =
    let none : 0 ≡ c.args.tick - c.args.tick = omega arith in
    record {
      begun = omega arith;
      within = omega arith;
      so_far = ap (λ (n : ℕ). filled c.args.self.now.device.cap c.args.stored (harvests c.args.self.now.trace c.args.tick n)) none;
      in_cap = c.requires.in_cap;
    }

pub rows-preserved : goal.rows-preserved
rows-preserved c =
    let o = c.args.self.now in
    let cap = o.device.cap in
    let start = c.args.tick in
    let from = c.rows.from in
    let until = c.min-until.result in
    let n = until - from in
    let later : from ≤ until = omega (arith, c.min-until.ensures, c.until.ensures.later, c.rows-test.true) in
    let until_is : until ≡ from + n = omega (arith, later) in
    let alike = λ (t : ℕ) (low : from ≤ t) (high : t < from + n).
    (let before : t < c.until.result = omega (arith, c.min-until.ensures, until_is) in
    harvest_at-alike o.trace t from (c.until.ensures.alike t low before) ∙ sym c.harvest.ensures.value) in
    let here = filled-alike o.trace cap c.rows.stored from n c.harvest.result alike in
    let all : harvests o.trace start (until - start) ≡ harvests o.trace start (from - start) ++ harvests o.trace from n =
    ap (λ (k : ℕ). harvests o.trace start (k - start)) until_is ∙ harvests-since o.trace start from n c.rows.invariant.begun in
    record {
      begun = omega (arith, later, c.rows.invariant.begun);
      within = omega (arith, c.min-until.ensures);
      so_far = c.refilled-stored.ensures.value
          ∙ sym here
          ∙ ap (λ (s : ℕ). filled cap s (harvests o.trace from n)) c.rows.invariant.so_far
          ∙ sym (filled-append cap c.args.stored (harvests o.trace start (from - start)) (harvests o.trace from n))
          ∙ ap (filled cap c.args.stored) (sym all);
      in_cap = omega (arith, c.refilled-stored.ensures.at_once);
    }
