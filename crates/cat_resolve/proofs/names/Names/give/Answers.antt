use Rattle.std.proofs.Common.{◌≡◌, string_bytes, None, ◌∙◌, arith}
use Rattle.std.proofs.lemmas.Map.Text.{btree_map_updates_text}
use Rattle.std.proofs.lemmas.Result.{IfOk-at_ok}
use Rattle.cat_resolve.specs.Meanings.{meanings}
use Rattle.cat_resolve.proofs.Giving.{given}
use Rattle.cat_resolve.proofs.names.Names.give.Goals as goal

pub returns : goal.returns
returns c y =
    let key = IfOk-at_ok (λ s. string_bytes s ≡ c.args.name.now) c.in_ok-key.was c.from_str.ensures.ok in
    let none : meanings c.args.self.now c.args.name.now ≡ None = grind arith in
    let sets = btree_map_updates_text (string_bytes c.in_ok-key.key) c.args.self.now.map c.insert.new.self _ c.in_ok-insert.ensures.updates in
    (rw key at sets) y ∙ given (meanings c.args.self.now) c.args.name.now y c.args.meaning none
