use Rattle.cat_conditions.proofs.PlainLaws.{expression_kinds, statement_kinds}
use Rattle.cat_conditions.proofs.laws.plain_law.Goals as goal

pub returns-clause-terms : goal.returns-clause-terms
returns-clause-terms c = expression_kinds

pub returns-clause-actions : goal.returns-clause-actions
returns-clause-actions c = statement_kinds
