use Rattle.std.proofs.Common.{◌≡◌, ◌++◌, drop, length}
use Rattle.std.specs.Prelude.{map}
use Rattle.cat_conditions.specs.Plain.{block_of}
use Rattle.cat_resolve.specs.Form.{command, commands}
use Rattle.cat_resolve.specs.Meanings.{meanings}
use Rattle.cat_resolve.specs.Blocks as spec
use Rattle.cat_resolve.proofs.blocks.+stmt.Given as goal

-- what is found, and then what the statements that are left become
abbrev pub invariant-statements-loop-one : goal.invariant-statements-loop-one
invariant-statements-loop-one l =
    (map command l.found.items ++ spec.commands_of (meanings l.names) (length l.blocks.items) (block_of (drop l.one-index l.source))
    ≡ spec.commands_of (meanings l.names) (length l.initial.blocks.items) (block_of l.source))
    × (commands l.blocks.items ++ spec.blocks_within (meanings l.names) (length l.blocks.items) (block_of (drop l.one-index l.source))
    ≡ commands l.initial.blocks.items ++ spec.blocks_within (meanings l.names) (length l.initial.blocks.items) (block_of l.source))
