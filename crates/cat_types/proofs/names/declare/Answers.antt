use Rattle.std.proofs.Common.{◌≡◌, Some}
use Rattle.std.proofs.lemmas.Map.Text.{btree_map_updates_str}
use Rattle.cat_conditions.specs.Names as spec
use Rattle.cat_types.specs.Shown.{shown}
use Rattle.cat_types.proofs.Declaring.{none_of}
use Rattle.cat_types.proofs.names.declare.Goals as goal

pub returns-in-Ok : goal.returns-in-Ok
returns-in-Ok c =
    let e : spec.declaration (shown c.args.piece.now) ≡ Some (c.in-Some.name.now, c.in-Some.sort) = c.in-Some.ensures in
    rw e (none_of _ c.if-contains_key.ensures, λ x. btree_map_updates_str c.in-Some.name.now c.args.names.now.sorts c.insert.new.self (Some c.in-Some.sort) c.in-Ok.ensures.updates x)
