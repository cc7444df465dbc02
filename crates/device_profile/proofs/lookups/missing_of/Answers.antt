use Rattle.std.proofs.Common.{◌≡◌, ◌∙◌, sym, Bor, get_or, is_none, true, false, rules}
use Rattle.toml.specs.View.{table_view, view}
use Rattle.toml.specs.declared.value.Value.{Value}
use Rattle.device_profile.specs.Profile.{value_at}
use Rattle.device_profile.specs.declared.keys.Key.TheVariants as key
use Rattle.device_profile.proofs.Missing.{missing-here, missing-later, missing-none}
use Rattle.device_profile.proofs.Names.{none_mapped}
use Rattle.device_profile.proofs.lookups.missing_of.Goals as goal

pub returns-then-is_none : goal.returns-then-is_none
returns-then-is_none c =
    let none : is_none c.value.result ≡ true = search rules in
    let e : is_none (value_at (get_or c.args.keys.now c.loop-key.key-index key.Cap) (table_view c.args.table.now)) ≡ true = rw (← c.value.ensures) (none_mapped (λ (v : Bor Value). view v.now) c.value.result ∙ none) in
    sym (c.loop-key.invariant ∙ missing-here c.args.keys.now c.loop-key.key-index key.Cap (table_view c.args.table.now) c.loop-key-test.true e)

pub loop-key-preserved : goal.loop-key-preserved
loop-key-preserved c =
    let some : is_none c.value.result ≡ false = search rules in
    let e : is_none (value_at (get_or c.args.keys.now c.loop-key.key-index key.Cap) (table_view c.args.table.now)) ≡ false = rw (← c.value.ensures) (none_mapped (λ (v : Bor Value). view v.now) c.value.result ∙ some) in
    c.loop-key.invariant ∙ missing-later c.args.keys.now c.loop-key.key-index key.Cap (table_view c.args.table.now) c.loop-key-test.true e

pub returns : goal.returns
returns c = sym (c.loop-key.invariant ∙ missing-none c.args.keys.now c.loop-key.key-index (table_view c.args.table.now) c.loop-key-test.false)
