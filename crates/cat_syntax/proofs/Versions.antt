-- An event is read with at least one version.
use Rattle.std.proofs.Common.{◌≡◌, ◌∙◌, ◌&&◌, true, refl, ap, List}
use Rattle.cn_base.specs.declared.tree.Item.{Item}
use Rattle.cn_base.specs.Versions.{has_version, all_have_versions}
use Rattle.cat_syntax.specs.Grammar as g
use Rattle.cat_syntax.specs.Grammar.{IsItem, IsProgram}
use Rattle.cat_syntax.specs.Reader.{Lexemes}

item_has_version : {ts rest : Lexemes} {x : Item} → IsItem ts x rest → has_version x ≡ true
item_has_version g.int = refl
item_has_version g.minus = refl
item_has_version g.bool_true = refl
item_has_version g.bool_false = refl
item_has_version g.array = refl
item_has_version (g.task d) = refl
item_has_version (g.event t d ds) = refl
item_has_version (g.degrade ds) = refl
item_has_version g.start = refl

pub program_has_versions : {ts : Lexemes} {xs : List Item} → IsProgram ts xs → all_have_versions xs ≡ true
program_has_versions g.no_item = refl
program_has_versions (g.items {xs = xs} d ds) = ap (λ b. b && all_have_versions xs) (item_has_version d) ∙ program_has_versions ds
