use Rattle.std.proofs.Common.{◌≡◌, ◌-◌, ◌++◌, length, map, ◌∙◌, ap, sym, subst}
use Rattle.std.proofs.lemmas.List.{length-map}
use Rattle.cat_conditions.specs.Pieces.{items_pieces}
use Rattle.cat_places.specs.Starts.{AreStarts}
use Rattle.cat_places.specs.Walk.{items_lefts}
use Rattle.cat_places.proofs.Started.{written, are_starts, starts_are_each}
use Rattle.cat_places.proofs.places.starts.Goals as goal

pub returns-clause-starts : goal.returns-clause-starts
returns-clause-starts c =
    let lefts = c.items.new.found.items in
    subst (AreStarts c.args.tokens.now c.args.tree.now.items)
    (sym (written lefts c.count_from_front.new.lefts _ c.items.new.found.ok.0 (c.count_from_front.auto.lefts ∙ ap length c.as_mut_slice.ensures.value)
    ∙ (c.count_from_front.ensures ∙ ap (map (λ left. c.left-total.result - left)) c.as_mut_slice.ensures.value)))
    (are_starts c.plain_law.ensures.terms c.plain_law.ensures.actions c.args.tokens.now c.args.tree.now.items c.left-total.result lefts
    (c.left-total.ensures ∙ (ap length c.new-cursor.ensures ∙ length-map c.args.tokens.now (λ t. t.what)))
    (c.in_ok-items.ensures
    ∙ (ap (λ ls. ls ++ items_lefts c.as_slice.result.now c.new-cursor.result) c.new-found.ensures.items
    ∙ (ap (λ is. items_lefts is c.new-cursor.result) c.as_slice.ensures ∙ ap (items_lefts c.args.tree.now.items) c.new-cursor.ensures))))

pub returns-clause-one_each : goal.returns-clause-one_each
returns-clause-one_each c =
    let lefts = c.items.new.found.items in
    subst (λ found. length found ≡ length (items_pieces c.args.tree.now.items))
    (sym (written lefts c.count_from_front.new.lefts _ c.items.new.found.ok.0 (c.count_from_front.auto.lefts ∙ ap length c.as_mut_slice.ensures.value)
    ∙ (c.count_from_front.ensures ∙ ap (map (λ left. c.left-total.result - left)) c.as_mut_slice.ensures.value)))
    (starts_are_each c.plain_law.ensures.terms c.plain_law.ensures.actions c.args.tokens.now c.args.tree.now.items c.left-total.result lefts
    (c.left-total.ensures ∙ (ap length c.new-cursor.ensures ∙ length-map c.args.tokens.now (λ t. t.what)))
    (c.in_ok-items.ensures
    ∙ (ap (λ ls. ls ++ items_lefts c.as_slice.result.now c.new-cursor.result) c.new-found.ensures.items
    ∙ (ap (λ is. items_lefts is c.new-cursor.result) c.as_slice.ensures ∙ ap (items_lefts c.args.tree.now.items) c.new-cursor.ensures)))
    c.requires.spelled)
