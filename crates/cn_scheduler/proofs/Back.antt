-- An engine that holds what its image has committed.
use Rattle.std.proofs.Common.{◌≡◌, ◌≢◌, ℕ, ◌+◌, ◌≤◌, ℤ, false, List, length, Option, Some, None, refl, sym, ap, ◌∙◌, subst, arith}
use Rattle.std.specs.Int.{w32, cast_signed}
use Rattle.std.proofs.lemmas.List.{length-map}
use Rattle.std.proofs.lemmas.List.FromFn.{length-map-range_with_len}
use Rattle.cat_program.specs.Body.{Body}
use Rattle.cat_program.specs.Checked.{Checked, IsChecked}
use Rattle.cat_machine.specs.CodeValue.{CodeValue}
use Rattle.cat_machine.specs.Code.{code_of}
use Rattle.cat_machine.specs.Fits.{Fits, Idle}
use Rattle.cat_machine.specs.Ends.{RunsEnd}
use Rattle.nv_memory.specs.declared.layout.Layout.{Layout}
use Rattle.nv_memory.specs.Layout.{size_of}
use Rattle.checkpoint_slots.specs.declared.slot.Slot.{Slot}
use Rattle.checkpoint_slots.specs.Numbers.{number_at}
use Rattle.checkpoint_slots.specs.Slot.{variables_of, read_slot, IsMadeFor, NumbersFit}
use Rattle.checkpoint_slots.specs.Image.{committed_bytes, committed_slot}
use Rattle.cat_program.specs.Resting.{RestsAt}
use Rattle.recovery.specs.Committed.{Committed, IsCommitted, IsRecorded}
use Rattle.cn_scheduler.specs.declared.plan.Plan.{Plan}
use Rattle.cn_scheduler.specs.Point.{Work, Point, held_of, slot_of, work_of}
use Rattle.cn_scheduler.specs.Belongs.{IsPlanOf, IsReady, BelongTogether}
use Rattle.cn_scheduler.proofs.Words.{words_again}

pub read_made : (l : Layout) (bytes : List ℕ) → IsMadeFor l (read_slot l bytes)
read_made l bytes = record {
  words = length-map-range_with_len (number_at bytes) 3 l.words;
  tasks = length-map-range_with_len (number_at bytes) (3 + l.words) l.tasks;
  events = length-map-range_with_len (number_at bytes) (3 + l.words + l.tasks) l.events;
}

-- a slot is that of its own working value
pub slot_again : (s : Slot) → NumbersFit s → slot_of (work_of s) ≡ s
slot_again s fit = let words = sym (words_again s (variables_of s) fit refl) in λ i. record s { words = words i }

-- no place of the code is the number that stands for none
pub not_last : RunsEnd → (program : Checked) (place : Option ℕ) (current : Option Body) → IsChecked program → RestsAt program place current → place ≢ Some 4294967295
not_last runs program None current checked r same = cc
not_last runs program (Some pc) None checked r same = absurd r
not_last runs program (Some pc) (Some k) checked r same =
    let below = runs.places program pc k checked r in
    let is : pc ≡ 4294967295 = cc in
    omega (arith, below, is)

-- a place that stands for a list, with the program's counts: a machine at rest
pub fits_rest : (program : Checked) (code : CodeValue) (w : Work) (current : Option Body) → IsChecked program → code ≡ code_of program → length w.words ≡ length program.words → length w.posts ≡ length program.tasks
    → RestsAt program w.place current → (payload : ℤ) → Fits program code (held_of w payload)
fits_rest program code w current checked code_is words posts rests payload = record {
  checked = checked;
  code_is = code_is;
  shape = record { words_are = words; posts_are = posts };
  stands = Idle (record {
    state = record { store = record { words = w.words; posts = w.posts }; current = current };
    corresponds = record { words = refl; posts = refl; place = rests; free = refl; empty = refl };
  });
}

module _ (program : Checked) (plan : Plan) (checked : IsChecked program) (code_is : plan.code ≡ code_of program) (plan_is : IsPlanOf program plan) where
  abbrev l : Layout
  l = plan.layout

  -- what an image has committed, with a board that has come as far
  pub belongs_back : (q : Point) (v : Committed) → size_of l ≤ length q.board.image → IsCommitted l program q.board.image v → v.slot.steps ≤ q.board.tick → q.work ≡ work_of (committed_slot l q.board.image) → q.dirty ≡ false
      → NumbersFit (committed_slot l q.board.image) → BelongTogether program plan q
  belongs_back q v image committed steps work clean numbers = record {
    plan_is = plan_is;
    image = image;
    committed = v;
    is_committed = committed;
    committed_steps = steps;
    fits = subst (λ (w : Work). (payload : ℤ) → Fits program plan.code (held_of w payload)) (sym at_v) (fits_rest program plan.code (work_of v.slot) v.current checked code_is words posts committed.rests);
    events = ap (λ (w : Work). length w.done) at_v ∙ (made.events ∙ plan_is.layout.events);
    steps = omega (arith, ap (λ (w : Work). w.steps) at_v, steps);
    len = omega (arith, ap (λ (w : Work). w.len) at_v);
    on = λ e. let both = sym e ∙ clean in cc;
    clean = λ e. at_v;
    ready = subst (IsReady program plan q.board.image) (sym at_v) (record {
      current = v.current;
      entries = v.entries;
      rests = committed.rests;
      recorded = subst (λ (s : Slot). IsRecorded l program q.board.image (record { slot = s; current = v.current; entries = v.entries })) (sym (slot_again v.slot fit)) committed.recorded;
      len_fits = subst (λ (s : Slot). s.len ≤ l.log) committed.slot_is committed.formed.len_fits;
    });
  }
    where
      at_v : q.work ≡ work_of v.slot
      at_v = work ∙ ap work_of committed.slot_is

      fit : NumbersFit v.slot
      fit = subst NumbersFit committed.slot_is numbers

      made : IsMadeFor l v.slot
      made = subst (IsMadeFor l) committed.slot_is (read_made l (committed_bytes l q.board.image))

      words : length (variables_of v.slot) ≡ length program.words
      words = length-map v.slot.words (cast_signed w32) ∙ (made.words ∙ plan_is.layout.words)

      posts : length v.slot.posts ≡ length program.tasks
      posts = made.tasks ∙ plan_is.layout.tasks
