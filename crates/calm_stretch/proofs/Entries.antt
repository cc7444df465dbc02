-- Operations and their ticks.
use Rattle.std.proofs.Common.{◌≡◌, ℕ, zero, suc, ◌+◌, ◌-◌, ◌<◌, min, List, [], ◌∷◌, ◌++◌, length, refl, sym, ap, subst, ◌∙◌, arith, false, replicate}
use Rattle.demand_core.specs.declared.Base.{Base}
use Rattle.calm_stretch.specs.Moment.{Outside}
use Rattle.calm_stretch.proofs.Ticks.{Moment, bounds_of, stored_after, AreCalm}
use Rattle.calm_stretch.specs.Operations.{Operation, filled, stored_by, stored_by_all, ticks_of_all, bounds_of_all, AreCalmOperations, AllTake}
use Rattle.calm_stretch.proofs.Lawful.{moments_of_all}

-- a tick in which nothing begins
abbrev pub quiet : Moment
quiet = record { bound = 0; drawn = 0; lost = false }

bounds_of-quiet : (n : ℕ) (rest : List Moment) → bounds_of (replicate n quiet ++ rest) ≡ bounds_of rest
bounds_of-quiet zero rest = refl
bounds_of-quiet (suc n) rest = let e = bounds_of-quiet n rest in omega arith

length-quiet : (n : ℕ) (rest : List Moment) → length (replicate n quiet ++ rest) ≡ n + length rest
length-quiet zero rest = omega arith
length-quiet (suc n) rest = let e = length-quiet n rest in omega arith

stored_after-quiet : (base : Base) (out : Outside) (n t stored : ℕ) (rest : List Moment) →
    stored_after base out t stored (replicate n quiet ++ rest) ≡ stored_after base out (t + n) (filled base.cap out.harvest t stored n) rest
stored_after-quiet base out zero t stored rest = let e : t + zero ≡ t = omega arith in rw e refl
stored_after-quiet base out (suc n) t stored rest =
    let e : t + suc n ≡ t + 1 + n = omega arith in
    let whole : stored - 0 ≡ stored = omega arith in
    ap (λ (m : ℕ). stored_after base out (t + 1) (min base.cap (m + out.harvest t)) (replicate n quiet ++ rest)) whole
    ∙ stored_after-quiet base out n (t + 1) (min base.cap (stored + out.harvest t)) rest
    ∙ ap (λ (m : ℕ). stored_after base out m (filled base.cap out.harvest (t + 1) (min base.cap (stored + out.harvest t)) n) rest) (sym e)

calm-quiet : (base : Base) (out : Outside) (z n t stored : ℕ) (rest : List Moment) → AreCalm base out z (t + n) (filled base.cap out.harvest t stored n) rest →
    AreCalm base out z t stored (replicate n quiet ++ rest)
calm-quiet base out z zero t stored rest calm = let e : t + zero ≡ t = omega arith in rw e at calm
calm-quiet base out z (suc n) t stored rest calm =
    let e : t + suc n ≡ t + 1 + n = omega arith in
    let whole : stored ≡ stored - 0 = omega arith in (
      (λ before. (omega arith, λ has. refl)),
      (λ kept. subst (λ (m : ℕ). AreCalm base out z (t + 1) (min base.cap (m + out.harvest t)) (replicate n quiet ++ rest)) whole
          (calm-quiet base out z n (t + 1) (min base.cap (stored + out.harvest t)) rest
          (subst (λ (m : ℕ). AreCalm base out z m (filled base.cap out.harvest (t + 1) (min base.cap (stored + out.harvest t)) n) rest) e calm))),
    )

pub bounds_of-operations : (operations : List Operation) → bounds_of (moments_of_all operations) ≡ bounds_of_all operations
bounds_of-operations [] = refl
bounds_of-operations (o ∷ operations) =
    let e = bounds_of-quiet (o.ticks - 1) (moments_of_all operations) in
    let rest = bounds_of-operations operations in omega arith

pub length-operations : (operations : List Operation) → AllTake operations → length (moments_of_all operations) ≡ ticks_of_all operations
length-operations [] take = refl
length-operations (o ∷ operations) take =
    let e = length-quiet (o.ticks - 1) (moments_of_all operations) in
    let some = take.0 in
    let rest = length-operations operations take.1 in omega arith

-- the first tick draws, the others do not
filled-front : (base : Base) (out : Outside) (t stored n : ℕ) → 0 < n → filled base.cap out.harvest t stored n ≡ filled base.cap out.harvest (t + 1) (min base.cap (stored + out.harvest t)) (n - 1)
filled-front base out t stored zero some = absurd (omega arith)
filled-front base out t stored (suc n) some = let e : n ≡ suc n - 1 = omega arith in ap (λ (m : ℕ). filled base.cap out.harvest (t + 1) (min base.cap (stored + out.harvest t)) m) e

pub stored_after-operations : (base : Base) (out : Outside) (operations : List Operation) (t stored : ℕ) → AllTake operations →
    stored_after base out t stored (moments_of_all operations) ≡ stored_by_all base out t stored operations
stored_after-operations base out [] t stored take = refl
stored_after-operations base out (o ∷ operations) t stored take =
    let some = take.0 in
    let e : t + 1 + (o.ticks - 1) ≡ t + o.ticks = omega arith in
    stored_after-quiet base out (o.ticks - 1) (t + 1) (min base.cap (stored - o.drawn + out.harvest t)) (moments_of_all operations)
    ∙ rw (e, ← filled-front base out t (stored - o.drawn) o.ticks take.0) (stored_after-operations base out operations (t + o.ticks) (stored_by base out t stored o) take.1)

pub calm-operations : (base : Base) (out : Outside) (z : ℕ) (operations : List Operation) (t stored : ℕ) → AllTake operations →
    AreCalmOperations base out z t stored operations → AreCalm base out z t stored (moments_of_all operations)
calm-operations base out z [] t stored take calm = tt
calm-operations base out z (o ∷ operations) t stored take calm =
    let some = take.0 in
    let e : t + o.ticks ≡ t + 1 + (o.ticks - 1) = omega arith in (
      calm.0,
      (λ kept. calm-quiet base out z (o.ticks - 1) (t + 1) (min base.cap (stored - o.drawn + out.harvest t)) (moments_of_all operations)
          (subst (λ (m : ℕ). AreCalm base out z m (filled base.cap out.harvest (t + 1) (min base.cap (stored - o.drawn + out.harvest t)) (o.ticks - 1)) (moments_of_all operations)) e
          (subst (λ (m : ℕ). AreCalm base out z (t + o.ticks) m (moments_of_all operations)) (filled-front base out t (stored - o.drawn) o.ticks take.0)
          (calm-operations base out z operations (t + o.ticks) (stored_by base out t stored o) take.1 (calm.1 kept))))),
    )
