-- An image has committed one value at most.
use Rattle.std.proofs.Common.{◌≡◌, ℕ, ◌<◌, List, length, get_or, refl, sym, ◌∙◌, ap, subst, arith, Option, Some, None}
use Rattle.std.proofs.lemmas.List.{same_lists}
use Rattle.std.proofs.lemmas.Option.{slice_get-get_or}
use Rattle.cat_program.specs.Body.{Body}
use Rattle.cat_program.specs.Checked.{Checked}
use Rattle.nv_memory.specs.declared.layout.Layout.{Layout}
use Rattle.checkpoint_slots.specs.declared.slot.Slot.{Slot}
use Rattle.nv_log.specs.Append.{EntriesAreSpelledOnce}
use Rattle.cat_program.specs.Resting.{RestsAt}
use Rattle.recovery.specs.Committed.{Committed, IsCommitted}

rests_once : (program : Checked) (pc : Option ℕ) (one other : Option Body) → RestsAt program pc one → RestsAt program pc other → one ≡ other
rests_once program None None None a b = refl
rests_once program None None (Some body) a b = absurd b
rests_once program None (Some body) other a b = absurd a
rests_once program (Some pc) None other a b = absurd a
rests_once program (Some pc) (Some body) None a b = absurd b
rests_once program (Some pc) (Some body) (Some other) a b = sym a ∙ b

module _ (spelled : EntriesAreSpelledOnce) where
  pub once : (l : Layout) (program : Checked) (image : List ℕ) (v w : Committed) → IsCommitted l program image v → IsCommitted l program image w → v ≡ w
  once l program image v w a b =
      let slot_is : v.slot ≡ w.slot = sym a.slot_is ∙ b.slot_is in
      let pc_is = ap (λ (s : Slot). s.pc) slot_is in
      let current_is : v.current ≡ w.current = rests_once program w.slot.pc v.current w.current (subst (λ (pc : Option ℕ). RestsAt program pc v.current) pc_is a.rests) b.rests in
      let long : length v.entries ≡ length w.entries = a.recorded.many ∙ ap (λ (s : Slot). s.len) slot_is ∙ sym b.recorded.many in
      let entries_are = same_lists v.entries w.entries long (λ k d below.
      let within : k < length w.entries = omega arith in
      let e = a.recorded.entries_are k (get_or v.entries k d) (slice_get-get_or v.entries k d below) in
      let f = b.recorded.entries_are k (get_or w.entries k d) (slice_get-get_or w.entries k d within) in
      spelled.once l (get_or v.entries k d) (get_or w.entries k d) e.fits f.fits (sym e.bytes_are ∙ f.bytes_are)) in
      λ i. record { slot = slot_is i; current = current_is i; entries = entries_are i }
