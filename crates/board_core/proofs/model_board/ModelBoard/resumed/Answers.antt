use Rattle.std.proofs.Common.{◌≡◌, ◌<◌, ℕ, List, length, get_or, ◌∙◌, sym, ap, subst, rules}
use Rattle.nv_memory.specs.declared.device.Device.{Device}
use Rattle.nv_memory.specs.Board.{State, IsSound}
use Rattle.board_core.specs.declared.outlook.Outlook.{Outlook}
use Rattle.board_core.specs.Outlook.{IsOutlook}
use Rattle.board_core.specs.Reached.{IsReached, model_start}
use Rattle.board_core.proofs.ModelLemmas.{first_is, first_reached, first_sound}
use Rattle.board_core.proofs.Outlooks.{none_outlook}
use Rattle.board_core.proofs.model_board.ModelBoard.resumed.Goals as goal

pub invariant_of-result : goal.invariant_of-result
invariant_of-result c =
    let o = c.of-2.result in
    let image_is : o.image ≡ c.args.image.items = c.of-2.ensures.image ∙ c.in_ok-first.ensures.image ∙ c.as_slice.ensures.value in
    let es_is = c.in_ok-timeline.ensures.entries in
    let now_is = first_is o c.args.image.items _ c.args.tick c.args.stored image_is es_is c.of-2.ensures.tick c.of-2.ensures.stored in
    let small : length o.image < 4294967296 = subst (λ (l : List ℕ). length l < 4294967296) (sym image_is) c.requires.image in
    let same : o.image ≡ c.as_slice.result.now = c.of-2.ensures.image ∙ c.in_ok-first.ensures.image in
    let bytes = subst (λ (l : List ℕ). (k : ℕ) → get_or l k 0 < 256) (sym same) c.in_ok-first.ensures.bytes in
    record {
      sound = subst (λ (t : State). IsSound (model_start o) t) now_is (first_sound c.operations_are_bounded.ensures o small bytes);
      reached = subst (λ (t : State). IsReached o t) now_is (first_reached o);
      ahead = subst (λ (x : Outlook). IsOutlook o c.args.tick x) (sym c.none.ensures) (none_outlook o c.args.tick);
      cap = c.in_ok-timeline.ensures.cap ∙ ap (λ (d : Device). d.cap) (sym c.of-2.ensures.device);
      room = search rules;
    }
