-- What a checked program keeps of each part, by its number.
use Rattle.std.proofs.Common.{◌≡◌, ℕ, zero, suc, ◌+◌, ◌<◌, ◌≤◌, List, [], ◌∷◌, length, Some, arith, subst}
use Rattle.std.specs.Prelude.{map, slice_get, slice_index, unwrap_or}
use Rattle.cat_program.specs.declared.headers.Variable.{Variable}
use Rattle.cat_program.specs.declared.headers.Event.{Event}
use Rattle.cat_program.specs.Declares.{IsLaidOut, EventIs, EachEventIs}
use Rattle.cat_program.specs.Body.{Body, tree_of}
use Rattle.cat_program.specs.Checked.{Checked, IsChecked, EachListBelow, EachShallow, EachEventShallow, EachTaskWorks, TaskWorks, depth_of}
use Rattle.cat_program.specs.PartLaws.{VariableIs, EachPart}
use Rattle.cat_program.proofs.Members.{below_at, version_works}

laid_end : (at : ℕ) (vs : List Variable) (words : ℕ) → IsLaidOut at vs words → at ≤ words
laid_end at [] words h = omega (arith, h)
laid_end at (v ∷ vs) words h = omega (arith, laid_end (at + v.len) vs words h.2)

variable_at : (at : ℕ) (vs : List Variable) (words i : ℕ) (v : Variable) → IsLaidOut at vs words → slice_get vs i ≡ Some v → VariableIs words v
variable_at at [] words i v h e = cc
variable_at at (x ∷ vs) words zero v h e =
    let same : x ≡ v = cc in
    subst (VariableIs words) same (record { sized = h.1; within = omega (arith, h.0, laid_end (at + x.len) vs words h.2) })
variable_at at (x ∷ vs) words (suc i) v h e = variable_at (at + x.len) vs words i v h.2 e

pub event_at : (headers : List Event) (events : List (List ℕ)) (e : ℕ) (header : Event) → EachEventIs headers events → slice_get headers e ≡ Some header
    → EventIs header (unwrap_or (slice_get events e) [])
event_at [] events e header each is = cc
event_at (h ∷ headers) [] e header each is = absurd each
event_at (h ∷ headers) (vs ∷ events) zero header each is = let same : h ≡ header = cc in subst (λ x. EventIs x vs) same each.0
event_at (h ∷ headers) (vs ∷ events) (suc e) header each is = event_at headers events e header each.1 is

module _ (g : ℕ → Body) where
  shallow_at : (bs : List ℕ) (t : ℕ) → t < length bs → EachShallow (map g bs) → depth_of (g (slice_index bs t)) ≤ 32
  shallow_at [] t h each = absurd (omega arith)
  shallow_at (b ∷ bs) zero h each = each.0
  shallow_at (b ∷ bs) (suc t) h each = shallow_at bs t (omega arith) each.1

  works_at : (w n : ℕ) (bs : List ℕ) (t : ℕ) → t < length bs → EachTaskWorks w n (map g bs) → TaskWorks w n (g (slice_index bs t))
  works_at w n [] t h each = absurd (omega arith)
  works_at w n (b ∷ bs) zero h each = each.0
  works_at w n (b ∷ bs) (suc t) h each = works_at w n bs t (omega arith) each.1

  version_shallow : (lists : List (List ℕ)) (e v : ℕ) → EachEventShallow (map (λ event. map g event) lists) → e < length lists → v < length (unwrap_or (slice_get lists e) [])
      → depth_of (g (slice_index (unwrap_or (slice_get lists e) []) v)) ≤ 32
  version_shallow [] e v each h within = absurd (omega arith)
  version_shallow (bs ∷ lists) zero v each h within = shallow_at bs v within each.0
  version_shallow (bs ∷ lists) (suc e) v each h within = version_shallow lists e v each.1 (omega arith) within

version_block : (n : ℕ) (lists : List (List ℕ)) (e v : ℕ) → EachListBelow n lists → e < length lists → v < length (unwrap_or (slice_get lists e) [])
    → slice_index (unwrap_or (slice_get lists e) []) v < n
version_block n [] e v each h within = absurd (omega arith)
version_block n (bs ∷ lists) zero v each h within = below_at n bs v each.0 within
version_block n (bs ∷ lists) (suc e) v each h within = version_block n lists e v each.1 (omega arith) within

pub each_part : (p : Checked) → IsChecked p → EachPart p
each_part p checked = record {
  variables = λ i v. variable_at 0 p.variables (length p.words) i v checked.laid_out;
  tasks = λ t h. record {
    block = below_at (length p.blocks) p.tasks t checked.tasks_in h;
    shallow = shallow_at (tree_of p.blocks) p.tasks t h checked.tasks_shallow;
    works = works_at (tree_of p.blocks) (length p.words) (length p.tasks) p.tasks t h checked.tasks_work;
  };
  events = λ e header. event_at p.headers p.events e header checked.declares;
  versions = λ e v there. record {
    block = version_block (length p.blocks) p.events e v checked.events_in there.0 there.1;
    shallow = version_shallow (tree_of p.blocks) p.events e v checked.events_shallow there.0 there.1;
    works = version_works (tree_of p.blocks) (length p.words) (length p.tasks) p.events e v checked.events_work there.0 there.1;
  };
}
