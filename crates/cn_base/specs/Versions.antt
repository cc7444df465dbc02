-- Whether each event has at least one version.
use Rattle.std.specs.Prelude.{◌&&◌, Bool, true, false, List, [], ◌∷◌}
use Rattle.cn_base.specs.declared.tree.Item.{Item}
use Rattle.cn_base.specs.declared.tree.Item.TheVariants as item

abbrev pub has_version : Item → Bool
has_version (item.Event x timing deadline []) = false
has_version _ = true

abbrev pub all_have_versions : List Item → Bool
all_have_versions [] = true
all_have_versions (i ∷ items) = has_version i && all_have_versions items
