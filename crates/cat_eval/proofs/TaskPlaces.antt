-- A place is looked for in the tasks, one after the other.
use Rattle.std.proofs.Common.{◌≡◌, ℕ, zero, suc, ◌+◌, ◌-◌, ◌<◌, ◌≤◌, true, false, List, [], ◌∷◌, ◌++◌, length, drop, map, Some, None, refl, sym, ap, ◌∙◌, arith, length-append}
use Rattle.std.specs.Prelude.{slice_get, option_map}
use Rattle.std.specs.Option.{option_and_then}
use Rattle.std.proofs.lemmas.List.{drop_all}
use Rattle.std.proofs.lemmas.Option.{slice_get-get_or, slice_get-map}
use Rattle.cat_program.specs.Body.{Body, Empty, tree_of}
use Rattle.cat_program.specs.Places.{body_size, marks_of, task_marks, tasks_marks, task_size, tasks_size, listed, rest_in}
use Rattle.cat_program.specs.Checked.{Checked, IsChecked, bodies_of, body_at, rest_at}
use Rattle.cat_eval.specs.declared.state.Frame.{Frame}
use Rattle.cat_eval.specs.Places.{IsLeft, Stands}
use Rattle.cat_eval.proofs.Marks.{get_front, get_back, marks_length}

-- ---- one task

pub task_length : (k : Body) → length (task_marks k) ≡ body_size k + 2
task_length k =
    let l = marks_length k Empty in
    let all = length-append (marks_of k Empty) (Some Empty ∷ []) in
    omega (arith, l, all)

pub task_end : (p : Checked) (k : Body) (at : ℕ) → at < body_size k + 2 → body_size k < at → IsLeft p (rest_in (task_marks k) at) []
task_end p k zero few more = absurd (omega (arith, more))
task_end p k (suc at) few more =
    let l = marks_length k Empty in
    record {
      body = ap (option_and_then listed) (get_back (marks_of k Empty) (Some Empty ∷ []) at 0 (omega (arith, l, few, more)));
      at = tt;
    }

task_place : (k : Body) (at : ℕ) → 0 < at → at ≤ body_size k → slice_get (task_marks k) at ≡ slice_get (marks_of k Empty) (at - 1)
task_place k zero some few = absurd (omega (arith, some))
task_place k (suc at) some few =
    let l = marks_length k Empty in
    let less : suc at - 1 ≡ at = omega arith in
    get_front (marks_of k Empty) (Some Empty ∷ []) at (omega (arith, l, few)) ∙ ap (slice_get (marks_of k Empty)) (sym less)

pub task_found : (p : Checked) (k : Body) (at : ℕ) (frames : List Frame) → 0 < at → at ≤ body_size k → Stands p (marks_of k Empty) (at - 1) true frames → IsLeft p (rest_in (task_marks k) at) frames
task_found p k at frames some few s = record {
  body = ap (option_and_then listed) (task_place k at some few ∙ s.some refl);
  at = s.at_statements refl;
}

pub task_none : (p : Checked) (k : Body) (at : ℕ) (frames : List Frame) → 0 < at → at ≤ body_size k → Stands p (marks_of k Empty) (at - 1) false frames → rest_in (task_marks k) at ≡ None
task_none p k at frames some few s = ap (option_and_then listed) (task_place k at some few ∙ s.none refl)

-- ---- all tasks

drop_next : (bs : List Body) (n : ℕ) (b : Body) → slice_get bs n ≡ Some b → drop n bs ≡ b ∷ drop (n + 1) bs
drop_next [] n b e = cc
drop_next (y ∷ bs) zero b e = let same : y ≡ b = cc in ap (λ z. z ∷ bs) same
drop_next (y ∷ bs) (suc n) b e = let more : suc (n + 1) ≡ suc n + 1 = omega arith in drop_next bs n b e ∙ ap (λ j. b ∷ drop j (y ∷ bs)) more

each_short : (bs : List Body) (n : ℕ) (b : Body) → slice_get bs n ≡ Some b → task_size b ≤ tasks_size bs
each_short [] n b e = cc
each_short (y ∷ bs) zero b e = let same : y ≡ b = cc in let size = ap task_size same in omega (arith, size)
each_short (y ∷ bs) (suc n) b e = let later = each_short bs n b e in omega (arith, later)

module _ (p : Checked) (t : ℕ) (h : t < length p.tasks) where
  pub body_there : slice_get (bodies_of p) t ≡ Some (body_at p t)
  body_there = slice_get-map (tree_of p.blocks) p.tasks t ∙ ap (option_map (tree_of p.blocks)) (slice_get-get_or p.tasks t 0 h)

  pub body_short : IsChecked p → body_size (body_at p t) ≤ 60000
  body_short checked = let one = each_short (bodies_of p) t (body_at p t) body_there in omega (arith, one, checked.short)

-- what is left at the place is what is left so far into the code of the tasks from number t on
abbrev pub Looking : Checked → ℕ → ℕ → ℕ → Type 0
Looking p pc left t = rest_at p pc ≡ rest_in (tasks_marks (drop t (bodies_of p))) left

module _ (p : Checked) (pc left t : ℕ) (h : t < length p.tasks) (l : Looking p pc left t) where
  parts : slice_get (tasks_marks (drop t (bodies_of p))) left ≡ slice_get (task_marks (body_at p t) ++ tasks_marks (drop (t + 1) (bodies_of p))) left
  parts = ap (λ (bs : List Body). slice_get (tasks_marks bs) left) (drop_next (bodies_of p) t (body_at p t) (body_there p t h))

  pub here : left < body_size (body_at p t) + 2 → rest_at p pc ≡ rest_in (task_marks (body_at p t)) left
  here lt =
      let size = task_length (body_at p t) in
      l ∙ ap (option_and_then listed) (parts ∙ get_front (task_marks (body_at p t)) (tasks_marks (drop (t + 1) (bodies_of p))) left (omega (arith, size, lt)))

  pub further : body_size (body_at p t) + 2 ≤ left → Looking p pc (left - (body_size (body_at p t) + 2)) (t + 1)
  further le =
      let size = task_length (body_at p t) in
      l ∙ ap (option_and_then listed) (parts ∙ get_back (task_marks (body_at p t)) (tasks_marks (drop (t + 1) (bodies_of p))) left (left - (body_size (body_at p t) + 2)) (omega (arith, size, le)))

pub nowhere : (p : Checked) (pc left t : ℕ) → length p.tasks ≤ t → Looking p pc left t → rest_at p pc ≡ None
nowhere p pc left t over l = l ∙ ap (λ (bs : List Body). rest_in (tasks_marks bs) left) (drop_all t (bodies_of p) (let e = map_length p.tasks in omega (arith, e, over)))
  where
    map_length : (xs : List ℕ) → length (map (tree_of p.blocks) xs) ≡ length xs
    map_length [] = refl
    map_length (x ∷ xs) = ap suc (map_length xs)
