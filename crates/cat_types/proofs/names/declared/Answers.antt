use Rattle.std.proofs.Common.{◌≡◌, take, sym, subst, false, Bool}
use Rattle.cat_conditions.specs.Names.{declaration, declarations, is_declared_before}
use Rattle.cat_conditions.specs.Conditions.{DeclaresTwice}
use Rattle.cat_types.specs.Shown.{shown, all_shown}
use Rattle.cat_types.specs.Sorts.{AreOf, Grows}
use Rattle.cat_types.proofs.Finding.{none_more, at_place}
use Rattle.cat_types.proofs.Declaring.{take_piece, are_more, not_before}
use Rattle.cat_types.proofs.names.declared.Goals as goal

pub loop-place-preserved : goal.loop-place-preserved
loop-place-preserved c =
    let ps = all_shown c.args.pieces.now in
    let p = shown c.index-pieces-place.result in
    let front = take c.loop-place.place ps in
    let grows : Grows c.loop-place.names c.declare.new.names (declaration p) false = subst (λ (twice : Bool). Grows c.loop-place.names c.declare.new.names (declaration p) twice) c.if-branch.false c.in_ok-declare.ensures in
    let here : is_declared_before (declarations front) (declaration p) ≡ false = not_before (declarations front) (declaration p) c.loop-place.names c.declare.new.names c.loop-place.invariant.sorts grows in
    record {
      sorts = subst (λ xs. AreOf xs c.declare.new.names) (sym (take_piece c.args.pieces.now c.loop-place.place c.index-pieces-place.result c.index-pieces-place.is c.loop-place-test.true))
          (are_more front p c.loop-place.names c.declare.new.names c.loop-place.invariant.sorts grows);
      none = none_more (DeclaresTwice ps) c.loop-place.place c.loop-place.invariant.none
          (λ twice. let same = at_place (λ q. is_declared_before (declarations front) (declaration q)) c.args.pieces.now c.loop-place.place c.index-pieces-place.result c.index-pieces-place.is c.loop-place-test.true in
          cc (same, twice, here));
    }
