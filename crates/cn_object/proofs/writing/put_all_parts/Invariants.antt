use Rattle.std.proofs.Common.{◌≡◌, ◌++◌, drop}
use Rattle.std.specs.List.{flat_map}
use Rattle.cn_object.specs.Spelling.{parts_bytes}
use Rattle.cn_object.proofs.writing.put_all_parts.Given as goal

abbrev pub invariant-loop-parts : goal.invariant-loop-parts
invariant-loop-parts l = l.out.items ++ flat_map parts_bytes (drop l.parts-index l.all) ≡ l.fn.out.items ++ flat_map parts_bytes l.all
