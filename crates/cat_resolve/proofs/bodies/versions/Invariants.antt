use Rattle.std.proofs.Common.{◌≡◌, ◌++◌, drop, length}
use Rattle.cat_resolve.specs.Form.{commands}
use Rattle.cat_resolve.specs.Meanings.{meanings}
use Rattle.cat_resolve.specs.Content as spec
use Rattle.cat_resolve.proofs.bodies.versions.Given as goal

-- what is found, and then the versions that are left
abbrev pub invariant-loop-version : goal.invariant-loop-version
invariant-loop-version l =
    (l.found.items ++ spec.versions_numbers (meanings l.names) (length l.blocks.items) (drop l.version-index l.source)
    ≡ spec.versions_numbers (meanings l.names) (length l.initial.blocks.items) l.source)
    × (commands l.blocks.items ++ spec.versions_blocks (meanings l.names) (length l.blocks.items) (drop l.version-index l.source)
    ≡ commands l.initial.blocks.items ++ spec.versions_blocks (meanings l.names) (length l.initial.blocks.items) l.source)
