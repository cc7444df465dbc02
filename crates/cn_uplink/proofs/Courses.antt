-- Steps one after the other.
use Rattle.std.proofs.Common.{◌≡◌, ◌∙◌, ℕ, ◌+◌, ◌-◌, ◌<◌, List, [], ◌∷◌, ◌++◌, length, take, Some, refl, ap, sym, arith}
use Rattle.std.specs.Prelude.{slice_get}
use Rattle.std.proofs.lemmas.List.{take_more}
use Rattle.std.proofs.lemmas.Option.{get_or_from_slice_get}
use Rattle.cn_uplink.specs.declared.link_step.LinkStep.{LinkStep}
use Rattle.cn_uplink.specs.Link.{Link, after, course}
use Rattle.cn_uplink.specs.Wire.{WorldValue}

pub course-none : (s : Link) → course [] s ≡ s
unfolding course
course-none s = refl

pub course-push : (steps : List LinkStep) (step : LinkStep) (s : Link) → course (steps ++ step ∷ []) s ≡ after (course steps s) step
unfolding course
course-push [] step s = refl
course-push (first ∷ steps) step s = course-push steps step (after s first)

-- one step more of a table
pub course-more : (steps : List LinkStep) (row : ℕ) (step : LinkStep) (s : Link) → row < length steps → slice_get steps row ≡ Some step → course (take (row + 1) steps) s ≡ after (course (take row steps) s) step
course-more steps row step s lt at =
    ap (λ l. course l s) (take_more steps row step lt ∙ ap (λ x. take row steps ++ x ∷ []) (get_or_from_slice_get steps row step step at))
    ∙ course-push (take row steps) step s

pub world-none : (w : WorldValue) → w ≡ record { link = course [] w.link; left = w.left - 0 }
world-none w = let same : w.left ≡ w.left - 0 = omega arith in ap (λ (l : Link). record { link = l; left = w.left }) (sym (course-none w.link)) ∙ ap (λ (n : ℕ). record { link = course [] w.link; left = n }) same

pub world-more : (start now new : WorldValue) (steps : List LinkStep) (row : ℕ) (step : LinkStep) → now ≡ record { link = course (take row steps) start.link; left = start.left - row }
    → row < length steps → slice_get steps row ≡ Some step → new ≡ record { link = after now.link step; left = now.left - 1 }
    → new ≡ record { link = course (take (row + 1) steps) start.link; left = start.left - (row + 1) }
world-more start now new steps row step e lt at is =
    let link : after now.link step ≡ course (take (row + 1) steps) start.link = ap (λ (w : WorldValue). after w.link step) e ∙ sym (course-more steps row step start.link lt at) in
    let left : now.left - 1 ≡ start.left - (row + 1) = omega (arith, ap (λ (w : WorldValue). w.left) e) in
    is ∙ ap (λ (l : Link). record { link = l; left = now.left - 1 }) link ∙ ap (λ (n : ℕ). record { link = course (take (row + 1) steps) start.link; left = n }) left
