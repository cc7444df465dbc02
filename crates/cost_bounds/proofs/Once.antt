-- A program has one value of its bounds.
use Rattle.std.proofs.Common.{◌≡◌, ℕ, suc, List, [], ◌∷◌, length, Some, refl, sym, ap, ◌∙◌, arith}
use Rattle.std.specs.Prelude.{slice_get, unwrap_or, map}
use Rattle.cat_program.specs.Checked.{Checked}
use Rattle.nv_memory.specs.declared.device.Device.{Device}
use Rattle.cost_bounds.specs.declared.job.Job.{Job}
use Rattle.cost_bounds.specs.BoundsValue.{BoundsValue}
use Rattle.cost_bounds.specs.Greatest.{IsGreatest, AreGreatest, whole_job, IsJob, AreBounds}
use Rattle.cost_bounds.proofs.Made.{job_ext}
use Rattle.cost_bounds.proofs.Programs.{at_most}

same_greatest : (is_path : List ℕ → Type 0) (sum : List ℕ → ℕ) (m n : ℕ) → IsGreatest is_path sum m → IsGreatest is_path sum n → m ≡ n
same_greatest is_path sum m n a b = omega (arith, at_most is_path sum m n a b, at_most is_path sum n m b a)

same_both : (is_path : List ℕ → Type 0) (p : Checked) (device : Device) (a b : Job) → AreGreatest is_path p device a → AreGreatest is_path p device b → a ≡ b
same_both is_path p device a b g h = job_ext a b (same_greatest is_path _ a.units b.units g.units h.units) (same_greatest is_path _ a.ticks b.ticks g.ticks h.ticks)

same_job : (p : Checked) (device : Device) (lines event version : ℕ) (a b : Job) → IsJob p device lines event version a → IsJob p device lines event version b → a ≡ b
same_job p device lines event version a b g h = g.whole ∙ ap (whole_job device lines) (same_both _ p device g.handler h.handler g.greatest h.greatest) ∙ sym h.whole

same_list : (xs ys : List Job) → length xs ≡ length ys → ((v : ℕ) (a b : Job) → slice_get xs v ≡ Some a → slice_get ys v ≡ Some b → a ≡ b) → xs ≡ ys
same_list [] [] e each = refl
same_list [] (y ∷ ys) e each = absurd (omega (arith, e))
same_list (x ∷ xs) [] e each = absurd (omega (arith, e))
same_list (x ∷ xs) (y ∷ ys) e each = ap (λ z. z ∷ xs) (each 0 x y refl refl) ∙ ap (λ l. y ∷ l) (same_list xs ys (omega (arith, e)) (λ v. each (suc v)))

same_lists : (xs ys : List (List Job)) → map length xs ≡ map length ys → ((e v : ℕ) (a b : Job) → slice_get (unwrap_or (slice_get xs e) []) v ≡ Some a → slice_get (unwrap_or (slice_get ys e) []) v ≡ Some b → a ≡ b) → xs ≡ ys
same_lists [] [] e each = refl
same_lists [] (y ∷ ys) e each = absurd (let none = ap length e in omega (arith, none))
same_lists (x ∷ xs) [] e each = absurd (let none = ap length e in omega (arith, none))
same_lists (x ∷ xs) (y ∷ ys) e each =
    let first : length x ≡ length y = cc in
    let others : map length xs ≡ map length ys = cc in
    ap (λ z. z ∷ xs) (same_list x y first (each 0)) ∙ ap (λ l. y ∷ l) (same_lists xs ys others (λ n. each (suc n)))

abbrev value : List (List Job) → Job → Job → Job → BoundsValue
value jobs section checkpoint wake = record { jobs = jobs; section = section; checkpoint = checkpoint; wake = wake }

pub one_bounds : (p : Checked) (device : Device) (lines : ℕ) (a b : BoundsValue) → AreBounds p device lines a → AreBounds p device lines b → a ≡ b
one_bounds p device lines a b g h =
    ap (λ l. value l a.section a.checkpoint a.wake) (same_lists a.jobs b.jobs (g.versions ∙ sym h.versions) (λ e v x y found there. same_job p device lines e v x y (g.jobs e v x found) (h.jobs e v y there)))
    ∙ ap (λ j. value b.jobs j a.checkpoint a.wake) (same_both _ p device a.section b.section g.section h.section)
    ∙ ap (λ j. value b.jobs b.section j a.wake) (g.checkpoint ∙ sym h.checkpoint)
    ∙ ap (λ j. value b.jobs b.section b.checkpoint j) (g.wake ∙ sym h.wake)
