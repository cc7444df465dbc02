use Rattle.std.proofs.Common.{◌≡◌, ℕ, ◌*◌, length, replicate, arith, ◌∙◌, ap}
use Rattle.nv_memory.specs.Layout.{lines_of, slot_at, size_of}
use Rattle.nv_memory.specs.Bytes.{written}
use Rattle.checkpoint_slots.specs.declared.slot.Slot.{Slot}
use Rattle.checkpoint_slots.specs.Numbers.{spelled}
use Rattle.checkpoint_slots.specs.Slot.{number_of, variables_of}
use Rattle.recovery.specs.First.{IsFirst}
use Rattle.recovery.proofs.FreshLemmas.{fresh, not_last}
use Rattle.recovery.proofs.fresh.fresh_image.Goals as goal

pub returns : goal.returns
returns c =
    let program = c.args.program.now in
    let l = c.args.layout.now in
    let s = c.first_posts.new.slot in
    let e1 = c.first_words.ensures.others in
    let e2 = c.first_posts.ensures.posts in
    let shape = c.in-Ok.ensures in
    let words = ap (λ (t : Slot). t.words) e2 in
    let posts = ap (λ (t : Slot). t.posts) e2 in
    let done = ap (λ (t : Slot). t.done) e2 ∙ ap (λ (t : Slot). t.done) e1 in
    let first : IsFirst program l s = record {
      made = record {
        words = ap length words ∙ c.first_words.ensures.length ∙ shape.made.words;
        tasks = c.first_posts.ensures.length ∙ ap length (ap (λ (t : Slot). t.posts) e1) ∙ shape.made.tasks;
        events = ap length done ∙ shape.made.events;
      };
      len = ap (λ (t : Slot). t.len) e2 ∙ ap (λ (t : Slot). t.len) e1 ∙ shape.first.0;
      steps = ap (λ (t : Slot). t.steps) e2 ∙ ap (λ (t : Slot). t.steps) e1 ∙ shape.first.1;
      pc = ap (λ (t : Slot). t.pc) e2 ∙ ap (λ (t : Slot). t.pc) e1 ∙ shape.first.2;
      variables = ap variables_of e2 ∙ c.first_words.ensures.words;
      posts = posts;
      done = done ∙ shape.zeros.2;
    } in
    let zeros : c.in-Ok-zeros.image.items ≡ replicate (size_of l) 0 = c.in-Ok-zeros.ensures ∙ ap (λ (n : ℕ). replicate n 0) c.size.ensures.value in
    let bytes = c.spell_into.ensures.bytes
    ∙ ap (λ (at : ℕ). written at (spelled (number_of s) 0 (16 * c.lines.result)) c.in-Ok-zeros.image.items) c.slot_at.ensures
    ∙ ap (λ (n : ℕ). written (slot_at l 0) (spelled (number_of s) 0 (16 * n)) c.in-Ok-zeros.image.items) c.lines.ensures.value
    ∙ ap (written (slot_at l 0) (spelled (number_of s) 0 (16 * lines_of l))) zeros in
    let slots = c.slots_are_read_again.ensures in
    let again = slots.read l s first.made c.fits.ensures.numbers (not_last program l s first) in
    let formed = slots.formed l s first.made c.fits.ensures.numbers (omega (arith, first.len)) c.fits.ensures.posts in
    fresh c.writes_are_local.ensures program l (c.parts_are_apart.ensures l) s first (slots.size l s) again formed c.spell_into.new.image.items bytes
