use Rattle.std.proofs.Common.{◌≡◌, ◌+◌, ◌<◌, ◌≤◌, ℕ, List, get_or, ◌∙◌, sym, ap, subst, arith, rules}
use Rattle.nv_memory.specs.declared.entry.Op.{Op}
use Rattle.nv_memory.specs.Board.{State, IsSound, IsIn, image_after, ticks_of}
use Rattle.board_core.specs.declared.fate.Fate.{Fate}
use Rattle.board_core.specs.Kept.{entries_of}
use Rattle.board_core.specs.ModelBoardState.{state_of}
use Rattle.board_core.specs.Reached.{IsReached, model_start}
use Rattle.board_core.specs.Rules.{class_ticks, fate_of, left_by}
use Rattle.board_core.proofs.Fates.{fate_bounded}
use Rattle.board_core.proofs.ModelLemmas.{IsIn-left_by, acts_sound, reached_after, stands}
use Rattle.board_core.proofs.Outlooks.{later}
use Rattle.board_core.proofs.model_board.ModelBoard.settle.Goals as goal

pub put-requires : goal.put-requires
put-requires c =
    let b = c.args.self.now in
    subst (λ (op : Op). IsIn op b.image.items) (sym c.left_by-op.ensures) (IsIn-left_by c.operations_are_bounded.ensures c.args.fate.torn c.args.op b.image.items c.requires.within)

pub overflow_add-self : goal.overflow_add-self
overflow_add-self c =
    let b = c.args.self.now in
    let bounded = fate_bounded c.operations_are_bounded.ensures b.origin b.tick b.stored c.args.op in
    let few : c.args.fate.ticks ≤ ticks_of (class_ticks b.origin.device) c.args.op = subst (λ (f : Fate). f.ticks ≤ ticks_of (class_ticks b.origin.device) c.args.op) (sym c.requires.fate) bounded.no_more_ticks in
    omega (arith, few, c.requires.fits, b.origin.life_in_range)

pub invariant_of-self : goal.invariant_of-self
invariant_of-self c =
    let b = c.args.self.now in
    let o = b.origin in
    let begun : o.tick ≤ b.tick = omega (arith, b.sound.passed) in
    let now_is = stands o b.image.items (entries_of b.timeline) b.tick b.stored b.losses b.on c.args.op c.args.fate c.is_some-lost.result c.left_by-op.result _ _ _ _ _
    begun c.requires.fate c.is_some-lost.ensures c.left_by-op.ensures c.put.ensures.image c.push.ensures.entries c.requires.stored c.losses_after-losses.ensures c.is_on_after-on.ensures in
    let left_is : c.left_by-op.result ≡ left_by (fate_of o b.tick b.stored c.args.op).torn c.args.op = c.left_by-op.ensures ∙ ap (λ (f : Fate). left_by f.torn c.args.op) c.requires.fate in
    let image_is = c.put.ensures.image ∙ ap (λ (op : Op). image_after op b.image.items) left_is in
    let bytes = subst (λ (image : List ℕ). (k : ℕ) → get_or image k 0 < 256) image_is c.put.ensures.bytes in
    record {
      sound = subst (λ (t : State). IsSound (model_start o) t) (sym now_is)
          (acts_sound c.operations_are_bounded.ensures o b.image.items (entries_of b.timeline) b.tick b.stored b.losses b.on c.args.op c.boards_stay_sound.ensures b.sound c.requires.within c.requires.fits bytes);
      reached = subst (λ (t : State). IsReached o t) (sym now_is) (reached_after c.operations_are_bounded.ensures o (state_of b) c.args.op b.reached c.requires.fits);
      ahead = later o b.tick (b.tick + c.args.fate.ticks) b.outlook (omega arith) b.ahead;
      cap = search rules;
      room = search rules;
    }

pub returns-clause-state : goal.returns-clause-state
returns-clause-state c =
    let b = c.args.self.now in
    let o = b.origin in
    let begun : o.tick ≤ b.tick = omega (arith, b.sound.passed) in
    stands o b.image.items (entries_of b.timeline) b.tick b.stored b.losses b.on c.args.op c.args.fate c.is_some-lost.result c.left_by-op.result _ _ _ _ _
    begun c.requires.fate c.is_some-lost.ensures c.left_by-op.ensures c.put.ensures.image c.push.ensures.entries c.requires.stored c.losses_after-losses.ensures c.is_on_after-on.ensures
