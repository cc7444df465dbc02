use Rattle.std.proofs.Common.{ap, ◌∙◌}
use Rattle.checkpoint_slots.specs.declared.slot.Slot.{Slot}
use Rattle.checkpoint_slots.specs.Slot.{variables_of}
use Rattle.cn_scheduler.proofs.Words.{words_again}
use Rattle.cn_scheduler.proofs.engine.keep_in.Goals as goal

pub returns-clause-slot : goal.returns-clause-slot
returns-clause-slot c =
    let e1 = c.keep_words.ensures.others in
    let e2 = c.keep_posts.ensures in
    let last = c.keep_posts.new.slot in
    let now : Slot = record last { pc = c.pc-slot.result } in
    let words = words_again now c.args.working.now.words c.fits.ensures.numbers (ap variables_of e2 ∙ c.keep_words.ensures.words) in
    let len = ap (λ (s : Slot). s.len) e2 ∙ ap (λ (s : Slot). s.len) e1 in
    let steps = ap (λ (s : Slot). s.steps) e2 ∙ ap (λ (s : Slot). s.steps) e1 in
    let posts = ap (λ (s : Slot). s.posts) e2 in
    let done = ap (λ (s : Slot). s.done) e2 ∙ ap (λ (s : Slot). s.done) e1 in
    λ i. record { len = len i; steps = steps i; pc = c.pc-slot.ensures i; words = words i; posts = posts i; done = done i }
