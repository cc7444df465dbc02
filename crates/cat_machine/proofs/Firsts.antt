-- States at rest: the first of a program, and what was loaded again.
use Rattle.std.proofs.Common.{◌≡◌, ℕ, List, [], length, Option, None, refl, ap, ◌∙◌}
use Rattle.std.specs.Prelude.{ℤ}
use Rattle.cat_program.specs.Body.{Body}
use Rattle.cat_program.specs.Resting.{RestsAt}
use Rattle.cat_program.specs.Checked.{Checked, IsChecked, first_state, program_marks}
use Rattle.cat_machine.specs.Held.{Held}
use Rattle.cat_machine.specs.Code.{code_of}
use Rattle.cat_machine.specs.Fits.{HasShape, Corresponds, Fits, Idle}

abbrev first_held : List ℤ → List ℕ → List ℤ → ℤ → Held
first_held words posts stack payload = record { words = words; posts = posts; place = None; kept = None; stack = stack; payload = payload }

module _ (p : Checked) (checked : IsChecked p) (words : List ℤ) (posts : List ℕ) (stack : List ℤ) (payload : ℤ) (w : words ≡ p.words) (t : posts ≡ p.started) (s : stack ≡ []) where
  first_corresponds : Corresponds (program_marks p) (first_held words posts stack payload) (first_state p)
  first_corresponds = record { words = w; posts = t; place = tt; free = refl; empty = s }

  pub first_fits : Fits p (code_of p) (first_held words posts stack payload) × Corresponds (program_marks p) (first_held words posts stack payload) (first_state p)
  first_fits = (
    record {
      checked = checked;
      code_is = refl;
      shape = record { words_are = ap length w; posts_are = ap length t ∙ checked.started };
      stands = Idle (record { state = first_state p; corresponds = first_corresponds });
    },
    first_corresponds,
  )

-- at a place where a list is left, or at none
pub resting_fits : (p : Checked) (h : Held) (current : Option Body) → IsChecked p → HasShape (length p.words) (length p.tasks) h → RestsAt p h.place current → h.kept ≡ None → h.stack ≡ [] → Fits p (code_of p) h
resting_fits p h current checked shape rests free empty = record {
  checked = checked;
  code_is = refl;
  shape = shape;
  stands = Idle (record {
    state = record { store = record { words = h.words; posts = h.posts }; current = current };
    corresponds = record { words = refl; posts = refl; place = rests; free = free; empty = empty };
  });
}
