use Rattle.std.proofs.Common.{◌≡◌, length, ap, ◌∙◌, subst, refl, sym}
use Rattle.cat_machine.specs.Held.{Held}
use Rattle.checkpoint_slots.specs.declared.slot.Slot.{Slot}
use Rattle.checkpoint_slots.specs.Slot.{NumbersFit, IsMadeFor}
use Rattle.checkpoint_slots.specs.Image.{committed_bytes}
use Rattle.cn_scheduler.specs.Point.{Work, work_of}
use Rattle.cn_scheduler.proofs.Back.{read_made}
use Rattle.cn_scheduler.proofs.engine.Engine.restore.Goals as goal

pub take_words-requires-clause-slot : goal.take_words-requires-clause-slot
take_words-requires-clause-slot g c = ap (λ (s : Slot). length s.words) c.recover.ensures ∙ (read_made c.args.plan.now.layout (committed_bytes c.args.plan.now.layout (g.B.Board.state c.args.board.now).image)).words

pub take_posts-requires-clause-slot : goal.take_posts-requires-clause-slot
take_posts-requires-clause-slot g c = ap (λ (s : Slot). length s.posts) c.recover.ensures ∙ (read_made c.args.plan.now.layout (committed_bytes c.args.plan.now.layout (g.B.Board.state c.args.board.now).image)).tasks

pub take_posts-requires-clause-working : goal.take_posts-requires-clause-working
take_posts-requires-clause-working g c = ap (λ (h : Held). length h.posts) c.take_words.ensures ∙ c.requires.posts

pub returns : goal.returns
returns g c =
    let slot = c.recover.new.into in
    let e1 = c.take_words.ensures in
    let e2 = c.take_posts.ensures in
    let e3 = c.stand.ensures in
    let words = ap (λ (h : Held). h.words) e3 ∙ (ap (λ (h : Held). h.words) e2 ∙ ap (λ (h : Held). h.words) e1) in
    let posts = ap (λ (h : Held). h.posts) e3 ∙ ap (λ (h : Held). h.posts) e2 in
    let place = ap (λ (h : Held). h.place) e3 in
    let mine : (let w : Work = record { words = c.stand.new.self.words; posts = c.stand.new.self.posts; place = c.stand.new.self.place; len = slot.len; steps = slot.steps; done = slot.done } in w) ≡ work_of slot =
    λ i. record { words = words i; posts = posts i; place = place i; len = slot.len; steps = slot.steps; done = slot.done } in
    record {
      work = mine ∙ ap work_of c.recover.ensures;
      clean = refl;
      rest = record {
        free = ap (λ (h : Held). h.kept) e3;
        empty = ap (λ (h : Held). h.stack) e3;
        made = subst (IsMadeFor c.args.plan.now.layout) (sym c.recover.ensures) (read_made c.args.plan.now.layout (committed_bytes c.args.plan.now.layout (g.B.Board.state c.args.board.now).image));
      };
      numbers = subst NumbersFit c.recover.ensures c.fits.ensures.numbers;
    }
