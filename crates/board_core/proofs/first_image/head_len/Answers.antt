use Rattle.std.proofs.Common.{◌≡◌, ◌-◌, ◌≤◌, refl, arith}
use Rattle.std.specs.Prelude.{slice_range}
use Rattle.board_core.proofs.Zeros.{zeros_more}
use Rattle.board_core.proofs.first_image.head_len.Goals as goal

pub parts-preserved : goal.parts-preserved
parts-preserved c =
    let len = c.parts.len in
    let image = c.args.image.now in
    let none : c.greatest.result ≡ 0 = omega (arith, c.if-greatest-eq0.true) in
    let enough : 64 ≤ len = omega (arith, c.parts-test.true) in
    record {
      within = omega (arith, c.parts.invariant.within);
      zeros = zeros_more image (slice_range image (len - 64) len) len 64 c.greatest.result enough refl c.greatest.ensures none c.parts.invariant.zeros;
    }
