-- What a name stands for in a statement, with the number that stands where it stands for something else.
use Rattle.std.proofs.Common.{◌≡◌, ℕ, Option, Some, None, refl}
use Rattle.cat_resolve.specs.declared.names.Meaning.{Meaning}
use Rattle.cat_resolve.specs.declared.names.Meaning.TheVariants as meaning
use Rattle.cat_resolve.specs.Form.{Formula, word, element, set, set_at, post}
use Rattle.cat_resolve.specs.Resolved.{name_form, element_form}
use Rattle.cat_resolve.specs.Blocks.{set_form, set_at_form, post_form}

abbrev pub word_of : Option Meaning → ℕ
word_of (Some (meaning.Word w)) = w
word_of _ = 0

abbrev pub base_of : Option Meaning → ℕ
base_of (Some (meaning.Array base len)) = base
base_of _ = 0

abbrev pub len_of : Option Meaning → ℕ
len_of (Some (meaning.Array base len)) = len
len_of _ = 0

abbrev pub task_of : Option Meaning → ℕ
task_of (Some (meaning.Task t)) = t
task_of _ = 0

pub name_is : (m : Option Meaning) → name_form m ≡ word (word_of m)
name_is (Some (meaning.Word w)) = refl
name_is (Some (meaning.Array base len)) = refl
name_is (Some (meaning.Task t)) = refl
name_is (Some (meaning.Event e)) = refl
name_is None = refl

pub element_is : (m : Option Meaning) (index : Formula) → element_form m index ≡ element (base_of m) (len_of m) index
element_is (Some (meaning.Word w)) index = refl
element_is (Some (meaning.Array base len)) index = refl
element_is (Some (meaning.Task t)) index = refl
element_is (Some (meaning.Event e)) index = refl
element_is None index = refl

pub set_is : (m : Option Meaning) (value : Formula) → set_form m value ≡ set (word_of m) value
set_is (Some (meaning.Word w)) value = refl
set_is (Some (meaning.Array base len)) value = refl
set_is (Some (meaning.Task t)) value = refl
set_is (Some (meaning.Event e)) value = refl
set_is None value = refl

pub set_at_is : (m : Option Meaning) (index value : Formula) → set_at_form m index value ≡ set_at (base_of m) (len_of m) index value
set_at_is (Some (meaning.Word w)) index value = refl
set_at_is (Some (meaning.Array base len)) index value = refl
set_at_is (Some (meaning.Task t)) index value = refl
set_at_is (Some (meaning.Event e)) index value = refl
set_at_is None index value = refl

pub post_is : (m : Option Meaning) → post_form m ≡ post (task_of m)
post_is (Some (meaning.Word w)) = refl
post_is (Some (meaning.Array base len)) = refl
post_is (Some (meaning.Task t)) = refl
post_is (Some (meaning.Event e)) = refl
post_is None = refl
