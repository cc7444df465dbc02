use Rattle.std.proofs.Common.{sym, ◌∙◌}
use Rattle.cat_places.proofs.Cursors.{closes_none}
use Rattle.cat_places.proofs.cursor.Cursor.close.Goals as goal

pub returns-else-sees-clause-open : goal.returns-else-sees-clause-open
returns-else-sees-clause-open c = sym (closes_none c.more.open c.more.self (sym c.sees.ensures ∙ c.if-sees.false)).0 ∙ c.more.invariant.0

pub returns-else-sees-clause-left : goal.returns-else-sees-clause-left
returns-else-sees-clause-left c = sym (closes_none c.more.open c.more.self (sym c.sees.ensures ∙ c.if-sees.false)).1 ∙ c.more.invariant.1
