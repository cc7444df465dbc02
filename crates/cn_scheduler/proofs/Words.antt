-- Words as numbers of four bytes.
use Rattle.std.proofs.Common.{◌≡◌, ℕ, ◌^◌, ◌<◌, ℤ, List, [], ◌∷◌, ◌++◌, map, refl, sym, ap, ap₂, ◌∙◌, suc}
use Rattle.std.specs.Prelude.{slice_index}
use Rattle.std.specs.Int.{w32, cast_signed, cast_unsigned}
use Rattle.std.proofs.lemmas.Int.{of_z-to_z}
use Rattle.checkpoint_slots.specs.declared.slot.Slot.{Slot}
use Rattle.checkpoint_slots.specs.Slot.{variables_of, NumbersFit}

again : (words rest : List ℕ) → ((k : ℕ) → slice_index (words ++ rest) k < 2 ^ 32) → map (cast_unsigned w32) (map (cast_signed w32) words) ≡ words
again [] rest fit = refl
again (x ∷ words) rest fit = ap₂ (λ (y : ℕ) (ys : List ℕ). y ∷ ys) (of_z-to_z w32 x (fit 0)) (again words rest (λ k. fit (suc k)))

-- the words of a slot are those of its values
pub words_again : (s : Slot) (values : List ℤ) → NumbersFit s → variables_of s ≡ values → s.words ≡ map (cast_unsigned w32) values
words_again s values fit same = sym (again s.words (s.posts ++ s.done) (λ k. fit (suc (suc (suc k))))) ∙ ap (map (cast_unsigned w32)) same
