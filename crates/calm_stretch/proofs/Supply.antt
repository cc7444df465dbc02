-- How much a stretch must harvest.
use Rattle.std.proofs.Common.{◌≡◌, ℕ, suc, zero, ◌+◌, ◌*◌, ◌/◌, ◌%◌, ◌<◌, ◌≤◌, arith}
use native.Mathlib.Nat.{div-add-mod}
use Rattle.demand_core.specs.declared.Base.{Base}
use Rattle.demand_core.specs.Demand.{sbf}
use Rattle.calm_stretch.specs.Moment.{Outside, gained, IsSupplied}

pub gained-suc : (harvest : ℕ → ℕ) (t : ℕ) → gained harvest (t + 1) ≡ gained harvest t + harvest t
unfolding gained
gained-suc harvest t = let e : t + 1 ≡ suc t = omega arith in rw e

gained-le : (harvest : ℕ → ℕ) (t n : ℕ) → gained harvest t ≤ gained harvest (t + n)
gained-le harvest t zero = let e : t + zero ≡ t = omega arith in rw e (omega arith)
gained-le harvest t (suc n) = let e : t + suc n ≡ t + n + 1 = omega arith in rw e (omega (arith, gained-le harvest t n, gained-suc harvest (t + n)))

-- n ticks of a stretch give at least what is sure to be harvested in them
pub gained-sbf : (base : Base) (out : Outside) (s z : ℕ) → 0 < base.p → IsSupplied base out s z →
    (a n : ℕ) → s ≤ a → a + n ≤ z → gained out.harvest a + sbf base n ≤ gained out.harvest (a + n)
unfolding sbf
gained-sbf base out s z pos supplied a n from upto =
    let whole : n ≡ n / base.p * base.p + n % base.p = omega (arith, div-add-mod n base.p) in
    let some = turns (n / base.p) (omega arith) in
    let more = gained-le out.harvest (a + n / base.p * base.p) (n % base.p) in
    let e : a + n ≡ a + n / base.p * base.p + n % base.p = omega arith in
    rw e (omega arith)
  where
    turns : (k : ℕ) → a + k * base.p ≤ z → gained out.harvest a + base.q * k ≤ gained out.harvest (a + k * base.p)
    turns zero h = let e : a + 0 * base.p ≡ a = omega arith in rw e (omega arith)
    turns (suc k) h =
        let before = turns k (omega arith) in
        let e : a + suc k * base.p ≡ a + k * base.p + base.p = omega arith in
        rw e (omega (arith, supplied (a + k * base.p) (omega arith) (omega arith)))
