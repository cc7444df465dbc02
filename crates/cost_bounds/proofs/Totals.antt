-- The greatest of several jobs, and the jobs of all versions.
use Rattle.std.proofs.Common.{◌≡◌, ℕ, zero, suc, ◌+◌, ◌<◌, ◌≤◌, List, [], ◌∷◌, ◌++◌, length, drop, Some, refl, sym, ap, ◌∙◌, arith, inl, inr, ⊎_elim, append_assoc, append-nil}
use Rattle.std.specs.Prelude.{max, map, slice_get, unwrap_or, ◌⊎◌}
use Rattle.std.proofs.lemmas.Bool.{cases_lt}
use Rattle.std.proofs.lemmas.List.{drop_all, map-append}
use Rattle.std.proofs.Common.{Vec, Global}
use Rattle.cost_bounds.specs.BoundsValue.{jobs_of}
use Rattle.cost_bounds.specs.declared.job.Job.{Job}
use Rattle.cost_bounds.specs.Pass.{nothing, job_in, dearer, IsTop, IsDearest}

-- the greatest of the first n
pub record TopOf (f : Job → ℕ) (jobs : List Job) (n m : ℕ) : Type 0 where
  pub upper : (k : ℕ) → k < n → f (job_in jobs k) ≤ m
  pub reached : ((k : ℕ) × (k < n) × (f (job_in jobs k) ≡ m)) ⊎ (m ≡ 0)

pub record DearestOf (jobs : List Job) (n : ℕ) (job : Job) : Type 0 where
  pub units : TopOf (λ j. j.units) jobs n job.units
  pub ticks : TopOf (λ j. j.ticks) jobs n job.ticks

top_starts : (f : Job → ℕ) (jobs : List Job) (m : ℕ) → m ≡ 0 → TopOf f jobs 0 m
top_starts f jobs m e = record { upper = λ k lt. absurd (omega (arith, lt)); reached = inr e }

top_goes : (f : Job → ℕ) (jobs : List Job) (n m new : ℕ) → new ≡ max m (f (job_in jobs n)) → TopOf f jobs n m → TopOf f jobs (n + 1) new
top_goes f jobs n m new is t = record { upper = upper; reached = by_order (cases_lt m (f (job_in jobs n))) }
  where
    upper : (k : ℕ) → k < n + 1 → f (job_in jobs k) ≤ new
    upper k lt = by_place (cases_lt k n)
      where
        by_place : ((k < n) ⊎ (n ≤ k)) → f (job_in jobs k) ≤ new
        by_place (inl before) = omega (arith, t.upper k before, is)
        by_place (inr here) = let same : k ≡ n = omega (arith, lt, here) in omega (arith, ap (λ z. f (job_in jobs z)) same, is)

    by_old : (new ≡ m) → (((k : ℕ) × (k < n) × (f (job_in jobs k) ≡ m)) ⊎ (m ≡ 0)) → ((k : ℕ) × (k < n + 1) × (f (job_in jobs k) ≡ new)) ⊎ (new ≡ 0)
    by_old e (inl r) = inl (r.0, omega (arith, r.1), r.2 ∙ sym e)
    by_old e (inr z) = inr (e ∙ z)

    by_order : ((m < f (job_in jobs n)) ⊎ (f (job_in jobs n) ≤ m)) → ((k : ℕ) × (k < n + 1) × (f (job_in jobs k) ≡ new)) ⊎ (new ≡ 0)
    by_order (inl lt) = inl (n, omega arith, omega (arith, is, lt))
    by_order (inr le) = by_old (omega (arith, is, le)) t.reached

top_ends : (f : Job → ℕ) (jobs : List Job) (n m : ℕ) → n ≡ length jobs → TopOf f jobs n m → IsTop f jobs m
top_ends f jobs n m e t = record { upper = λ k lt. t.upper k (omega (arith, lt, e)); reached = ⊎_elim some none t.reached }
  where
    some : ((k : ℕ) × (k < n) × (f (job_in jobs k) ≡ m)) → ((k : ℕ) × (k < length jobs) × (f (job_in jobs k) ≡ m)) ⊎ (m ≡ 0)
    some r = inl (r.0, omega (arith, r.1, e), r.2)

    none : m ≡ 0 → ((k : ℕ) × (k < length jobs) × (f (job_in jobs k) ≡ m)) ⊎ (m ≡ 0)
    none z = inr z

pub dearest_starts : (jobs : List Job) (job : Job) → job ≡ nothing → DearestOf jobs 0 job
dearest_starts jobs job e = record { units = top_starts (λ j. j.units) jobs job.units (ap (λ (j : Job). j.units) e); ticks = top_starts (λ j. j.ticks) jobs job.ticks (ap (λ (j : Job). j.ticks) e) }

pub dearest_goes : (jobs : List Job) (n : ℕ) (old item new : Job) → slice_get jobs n ≡ Some item → new ≡ dearer old item → DearestOf jobs n old → DearestOf jobs (n + 1) new
dearest_goes jobs n old item new at is d =
    let here : job_in jobs n ≡ item = ap (λ o. unwrap_or o nothing) at in
    let all = is ∙ ap (dearer old) (sym here) in
    record {
      units = top_goes (λ j. j.units) jobs n old.units new.units (ap (λ (j : Job). j.units) all) d.units;
      ticks = top_goes (λ j. j.ticks) jobs n old.ticks new.ticks (ap (λ (j : Job). j.ticks) all) d.ticks;
    }

pub dearest_ends : (jobs : List Job) (n : ℕ) (job : Job) → n ≡ length jobs → DearestOf jobs n job → IsDearest jobs job
dearest_ends jobs n job e d = record { units = top_ends (λ j. j.units) jobs n job.units e d.units; ticks = top_ends (λ j. j.ticks) jobs n job.ticks e d.ticks }

-- ---- a list that is mapped, item by item

next_drop : {A : Type 0} (xs : List A) (n : ℕ) (x : A) → slice_get xs n ≡ Some x → drop n xs ≡ x ∷ drop (n + 1) xs
next_drop [] n x e = cc
next_drop (y ∷ xs) zero x e = let same : y ≡ x = cc in ap (λ z. z ∷ xs) same
next_drop (y ∷ xs) (suc n) x e = let more : suc (n + 1) ≡ suc n + 1 = omega arith in next_drop xs n x e ∙ ap (λ j. x ∷ drop j (y ∷ xs)) more

abbrev pub Mapped : {A B : Type 0} → (A → B) → List A → ℕ → List B → Type 0
Mapped g xs n done = done ++ map g (drop n xs) ≡ map g xs

pub mapped_goes : {A B : Type 0} (g : A → B) (xs : List A) (n : ℕ) (x : A) (done new : List B) → slice_get xs n ≡ Some x → new ≡ done ++ g x ∷ [] → Mapped g xs n done → Mapped g xs (n + 1) new
mapped_goes g xs n x done new at is m =
    ap (λ l. l ++ map g (drop (n + 1) xs)) is ∙ append_assoc done (g x ∷ []) (map g (drop (n + 1) xs)) ∙ ap (λ l. done ++ map g l) (sym (next_drop xs n x at)) ∙ m

pub mapped_ends : {A B : Type 0} (g : A → B) (xs : List A) (n : ℕ) (done : List B) → length xs ≤ n → Mapped g xs n done → done ≡ map g xs
mapped_ends g xs n done le m = sym (append-nil done) ∙ ap (λ l. done ++ map g l) (sym (drop_all n xs le)) ∙ m

some_at : {A : Type 0} (xs : List A) (n : ℕ) → n < length xs → (x : A) × (slice_get xs n ≡ Some x)
some_at [] n lt = absurd (omega (arith, lt))
some_at (x ∷ xs) zero lt = (x, refl)
some_at (x ∷ xs) (suc n) lt = some_at xs n (omega (arith, lt))

-- the jobs of one event more
pub event_goes : (g : List ℕ → List Job) (versions : List (List ℕ)) (n : ℕ) (entries : List ℕ) (jobs : Vec Job Global) (all new : List (Vec Job Global)) → n < length versions → entries ≡ unwrap_or (slice_get versions n) [] → jobs.items ≡ g entries → new ≡ all ++ jobs ∷ [] → Mapped g versions n (jobs_of all) → Mapped g versions (n + 1) (jobs_of new)
event_goes g versions n entries jobs all new lt e is joins m =
    let x = some_at versions n lt in
    let same : entries ≡ x.0 = e ∙ ap (λ o. unwrap_or o []) x.1 in
    mapped_goes g versions n x.0 (jobs_of all) (jobs_of new) x.1 (ap jobs_of joins ∙ map-append (λ (v : Vec Job Global). v.items) all (jobs ∷ []) ∙ ap (λ l. jobs_of all ++ l ∷ []) (is ∙ ap g same)) m
