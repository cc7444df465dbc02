-- The items that entries tell, one after the other.
use Rattle.std.proofs.Common.{◌≡◌, ℕ, zero, suc, ◌+◌, List, [], ◌∷◌, ◌++◌, drop, Some, refl, ap, ◌∙◌, arith}
use Rattle.std.specs.Prelude.{slice_get}
use Rattle.cat_program.specs.declared.outs.LogEntry.{LogEntry}
use Rattle.cat_program.specs.declared.outs.LogEntry.TheVariants.{Out, Ran}
use Rattle.logged_runs.specs.Own.{items_in}

items_first : (e : LogEntry) (es : List LogEntry) → items_in (e ∷ es) ≡ items_in (e ∷ []) ++ items_in es
items_first (Out channel value) es = refl
items_first (Ran event version steps start index) es = refl

pub items_next : (es : List LogEntry) (k : ℕ) (e : LogEntry) → slice_get es k ≡ Some e → items_in (drop k es) ≡ items_in (e ∷ []) ++ items_in (drop (k + 1) es)
items_next [] k e is = cc
items_next (x ∷ es) zero e is = let same : x ≡ e = cc in ap (λ y. items_in (y ∷ es)) same ∙ items_first e es
items_next (x ∷ es) (suc k) e is =
    let more : suc (k + 1) ≡ suc k + 1 = omega arith in
    items_next es k e is ∙ ap (λ j. items_in (e ∷ []) ++ items_in (drop j (x ∷ es))) more
