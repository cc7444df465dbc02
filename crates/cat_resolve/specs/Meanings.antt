-- What a table of names shows.
use Rattle.std.specs.BTreeMap.{get_by_text}
use Rattle.cat_resolve.specs.declared.names.Names.{Names}
use Rattle.cat_resolve.specs.Names.{Meanings}

abbrev pub meanings : Names → Meanings
meanings names = get_by_text names.map
