-- Laws of sums over the events.
use Rattle.std.proofs.Common.{◌≡◌, ◌≢◌, ℕ, suc, zero, ◌+◌, ◌<◌, ◌≤◌, ◌⊎◌, inl, inr, List, [], ◌∷◌, sum_by, All, Any, refl, sym, subst, arith}
use Rattle.std.specs.List.{AllByRecursion}
use Rattle.std.proofs.lemmas.List.Sums.{sum_by-cons}
use Rattle.std.proofs.lemmas.List.Elements.{All-from_recursion, recursion_from_All}
use Rattle.std.proofs.lemmas.Bool.{cases_lt}
use Rattle.demand_core.specs.declared.Load.{Load}

-- event e has this load
abbrev pub IsAt : List Load → ℕ → Load → Type 0
IsAt [] e y = ⊥
IsAt (x ∷ loads) zero y = x ≡ y
IsAt (x ∷ loads) (suc e) y = IsAt loads e y

-- the sum of f over the events, with their numbers and loads
unfoldable pub over : List Load → (ℕ → Load → ℕ) → ℕ
over [] f = 0
over (x ∷ loads) f = f 0 x + over loads (λ e y. f (suc e) y)

pub over-le : (loads : List Load) (f g : ℕ → Load → ℕ) → ((e : ℕ) (x : Load) → IsAt loads e x → f e x ≤ g e x) → over loads f ≤ over loads g
unfolding over
over-le [] f g below = omega arith
over-le (x ∷ loads) f g below =
    let here : f 0 x ≤ g 0 x = below 0 x refl in
    let rest = over-le loads (λ e y. f (suc e) y) (λ e y. g (suc e) y) (λ e y at. below (suc e) y at) in
    omega arith

-- a sum of sums
pub over-add : (loads : List Load) (f g h : ℕ → Load → ℕ) → ((e : ℕ) (x : Load) → IsAt loads e x → h e x ≡ f e x + g e x) → over loads h ≡ over loads f + over loads g
unfolding over
over-add [] f g h is = omega arith
over-add (x ∷ loads) f g h is =
    let here : h 0 x ≡ f 0 x + g 0 x = is 0 x refl in
    let rest = over-add loads (λ e y. f (suc e) y) (λ e y. g (suc e) y) (λ e y. h (suc e) y) (λ e y at. is (suc e) y at) in
    omega arith

-- one summand has c more
pub over-step : (loads : List Load) (f g : ℕ → Load → ℕ) (j c : ℕ) (y : Load) → IsAt loads j y →
    ((e : ℕ) (x : Load) → IsAt loads e x → e ≢ j → f e x ≤ g e x) → f j y + c ≤ g j y → over loads f + c ≤ over loads g
unfolding over
over-step [] f g j c y at others one = elim at [ ]
over-step (x ∷ loads) f g zero c y at others one =
    let here : f 0 x + c ≤ g 0 x = rw at one in
    let rest = over-le loads (λ e y. f (suc e) y) (λ e y. g (suc e) y) (λ e y at. others (suc e) y at (omega arith)) in
    omega arith
over-step (x ∷ loads) f g (suc j) c y at others one =
    let here : f 0 x ≤ g 0 x = others 0 x refl (omega arith) in
    let rest = over-step loads (λ e y. f (suc e) y) (λ e y. g (suc e) y) j c y at (λ e z at apart. others (suc e) z at (omega arith)) one in
    omega arith

-- where a sum is 0, so is each summand
pub over-zero : (loads : List Load) (f : ℕ → Load → ℕ) → over loads f ≡ 0 → (e : ℕ) (x : Load) → IsAt loads e x → f e x ≡ 0
unfolding over
over-zero [] f is e x at = elim at [ ]
over-zero (y ∷ loads) f is zero x at =
    let here : f 0 y ≡ 0 = omega arith in rw (← at) here
over-zero (y ∷ loads) f is (suc e) x at =
    let rest : over loads (λ e y. f (suc e) y) ≡ 0 = omega arith in
    over-zero loads (λ e y. f (suc e) y) rest e x at

-- what holds of the first event and of the others holds of each
pub each_cons : (P : ℕ → Load → Type 0) (y : Load) (loads : List Load) → P 0 y → ((e : ℕ) (x : Load) → IsAt loads e x → P (suc e) x) →
    (e : ℕ) (x : Load) → IsAt (y ∷ loads) e x → P e x
each_cons P y loads first others zero x at = subst (λ (z : Load). P 0 z) at first
each_cons P y loads first others (suc e) x at = others e x at

-- either each of the summands fits, or one does not
pub each_or_one : (loads : List Load) (f g : ℕ → Load → ℕ) →
    ((e : ℕ) (x : Load) → IsAt loads e x → f e x ≤ g e x) ⊎ ((e : ℕ) × (x : Load) × IsAt loads e x × (g e x < f e x))
each_or_one [] f g = inl (λ e x at. elim at [ ])
each_or_one (y ∷ loads) f g = go (cases_lt (g 0 y) (f 0 y)) (each_or_one loads (λ e x. f (suc e) x) (λ e x. g (suc e) x))
  where
    go : (g 0 y < f 0 y) ⊎ (f 0 y ≤ g 0 y) →
        ((e : ℕ) (x : Load) → IsAt loads e x → f (suc e) x ≤ g (suc e) x) ⊎ ((e : ℕ) × (x : Load) × IsAt loads e x × (g (suc e) x < f (suc e) x)) →
        ((e : ℕ) (x : Load) → IsAt (y ∷ loads) e x → f e x ≤ g e x) ⊎ ((e : ℕ) × (x : Load) × IsAt (y ∷ loads) e x × (g e x < f e x))
    go (inl above) rest = inr (0, y, refl, above)
    go (inr here) (inl others) = inl (each_cons (λ e x. f e x ≤ g e x) y loads here others)
    go (inr here) (inr one) = inr (suc one.0, one.1, one.2, one.3)

-- a sum that does not see the numbers of the events
pub over_is : (loads : List Load) (f : Load → ℕ) → over loads (λ e x. f x) ≡ sum_by f loads
unfolding over
over_is [] f = refl
over_is (x ∷ loads) f = rw (sum_by-cons, over_is loads f)

-- what holds of all loads holds of the load of each event
pub all_at : (P : Load → Type 0) (loads : List Load) → All P loads → (e : ℕ) (x : Load) → IsAt loads e x → P x
all_at P loads all e x at = at_all loads (recursion_from_All P loads all) e x at
  where
    at_all : (loads : List Load) → AllByRecursion P loads → (e : ℕ) (x : Load) → IsAt loads e x → P x
    at_all [] all e x at = elim at [ ]
    at_all (y ∷ loads) all zero x at = subst P at all.0
    at_all (y ∷ loads) all (suc e) x at = at_all loads all.1 e x at

-- what holds of the load of each event holds of all loads
pub all_of : (P : Load → Type 0) (loads : List Load) → ((e : ℕ) (x : Load) → IsAt loads e x → P x) → All P loads
all_of P loads each = All-from_recursion P loads (each_of loads each)
  where
    each_of : (loads : List Load) → ((e : ℕ) (x : Load) → IsAt loads e x → P x) → AllByRecursion P loads
    each_of [] each = tt
    each_of (x ∷ loads) each = (each 0 x refl, each_of loads (λ e y at. each (suc e) y at))

-- what holds of the load of one event holds of some load
pub any_at : (P : Load → Type 0) (loads : List Load) (e : ℕ) (x : Load) → IsAt loads e x → P x → Any P loads
any_at P [] e x at holds = elim at [ ]
any_at P (y ∷ loads) zero x at holds = (0, y, omega arith, refl, subst P (sym at) holds)
any_at P (y ∷ loads) (suc e) x at holds = let rest = any_at P loads e x at holds in (suc rest.0, rest.1, omega arith, rest.3, rest.4)
