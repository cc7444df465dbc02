-- The first token of each piece of a source: of its items, statements and expressions, an outer one before
-- those that stand in it. A piece begins with the first token that its derivation takes. Parentheses leave no
-- piece of their own, so an expression in parentheses begins behind the innermost pair around all of it.
use Rattle.std.specs.Prelude.{◌≡◌, ℕ, suc, ◌-◌, ◌<◌, ◌≤◌, List, [], ◌∷◌, ◌++◌, length, map}
use Rattle.cat_tokens.specs.declared.token.Token.{Token}
use Rattle.cat_tokens.specs.Lexemes.{Lexeme, lexemes}
use Rattle.cn_base.specs.declared.tree.Expr.{Expr}
use Rattle.cn_base.specs.declared.tree.Further.{Further}
use Rattle.cn_base.specs.declared.tree.Stmt.{Stmt}
use Rattle.cn_base.specs.declared.tree.Item.{Item}
use Rattle.std.specs.Prelude.{Option}
use Rattle.cat_syntax.specs.declared.level.Level.{Level}
use Rattle.cat_syntax.specs.Grammar as g
use Rattle.cat_syntax.specs.Grammar.{IsChain, AreFurther, IsOperand, IsComparison, IsUnary, IsPrimary, IsBlock, AreStatements, IsElse, IsStatement, AreVersions, IsItem, IsProgram}
use Rattle.cat_syntax.specs.Spells.{Spells}

-- In a derivation of an expression, how many tokens are left, its first one among them, where each piece begins.
-- A chain of one operand is that operand, and what is in parentheses is the piece between them.
abbrev mutual
  pub chain_lefts : {l : Level} {ts rest : List Lexeme} {x : Expr} → IsChain l ts x rest → List ℕ
  chain_lefts (g.chain d g.none) = operand_lefts d
  chain_lefts (g.chain {ts = ts} d (g.more o e ds)) = length ts ∷ (operand_lefts d ++ (operand_lefts e ++ further_lefts ds))

  pub further_lefts : {l : Level} {ts rest : List Lexeme} {xs : List Further} → AreFurther l ts xs rest → List ℕ
  further_lefts g.none = []
  further_lefts (g.more o d ds) = operand_lefts d ++ further_lefts ds

  pub operand_lefts : {l : Level} {ts rest : List Lexeme} {x : Expr} → IsOperand l ts x rest → List ℕ
  operand_lefts (g.both d) = chain_lefts d
  operand_lefts (g.compare d) = comparison_lefts d
  operand_lefts (g.term d) = chain_lefts d
  operand_lefts (g.unary d) = unary_lefts d

  pub comparison_lefts : {ts rest : List Lexeme} {x : Expr} → IsComparison ts x rest → List ℕ
  comparison_lefts (g.sum d) = chain_lefts d
  comparison_lefts (g.compared {ts = ts} d c e) = length ts ∷ (chain_lefts d ++ chain_lefts e)

  pub unary_lefts : {ts rest : List Lexeme} {x : Expr} → IsUnary ts x rest → List ℕ
  unary_lefts (g.primary d) = primary_lefts d
  unary_lefts (g.signed {ts = ts} s d) = suc (length ts) ∷ primary_lefts d

  pub primary_lefts : {ts rest : List Lexeme} {x : Expr} → IsPrimary ts x rest → List ℕ
  primary_lefts (g.literal {ts = ts}) = suc (length ts) ∷ []
  primary_lefts (g.yes {ts = ts}) = suc (length ts) ∷ []
  primary_lefts (g.no {ts = ts}) = suc (length ts) ∷ []
  primary_lefts (g.payload {ts = ts}) = suc (length ts) ∷ []
  primary_lefts (g.variable {ts = ts}) = suc (length ts) ∷ []
  primary_lefts (g.element {ts = ts} d) = suc (suc (length ts)) ∷ chain_lefts d
  primary_lefts (g.parens d) = chain_lefts d

-- and of statements, each followed by what stands in it
abbrev mutual
  pub block_lefts : {ts rest : List Lexeme} {xs : List Stmt} → IsBlock ts xs rest → List ℕ
  block_lefts (g.braces ds) = statements_lefts ds

  pub statements_lefts : {ts rest : List Lexeme} {xs : List Stmt} → AreStatements ts xs rest → List ℕ
  statements_lefts g.no_statement = []
  statements_lefts (g.statements {ts = ts} d ds) = length ts ∷ (statement_lefts d ++ statements_lefts ds)

  pub else_lefts : {ts rest : List Lexeme} {ys : Option (List Stmt)} → IsElse ts ys rest → List ℕ
  else_lefts g.no_else = []
  else_lefts (g.else_block d) = block_lefts d

  -- what stands in a statement
  pub statement_lefts : {ts rest : List Lexeme} {x : Stmt} → IsStatement ts x rest → List ℕ
  statement_lefts (g.set d) = chain_lefts d
  statement_lefts (g.set_at d e) = chain_lefts d ++ chain_lefts e
  statement_lefts (g.out d) = chain_lefts d
  statement_lefts g.post = []
  statement_lefts (g.branch d b o) = chain_lefts d ++ (block_lefts b ++ else_lefts o)
  statement_lefts (g.while d b) = chain_lefts d ++ block_lefts b
  statement_lefts (g.repeat b) = block_lefts b

abbrev pub versions_lefts : {ts rest : List Lexeme} {xss : List (List Stmt)} → AreVersions ts xss rest → List ℕ
versions_lefts g.no_version = []
versions_lefts (g.versions d ds) = block_lefts d ++ versions_lefts ds

-- what stands in an item
abbrev pub item_lefts : {ts rest : List Lexeme} {x : Item} → IsItem ts x rest → List ℕ
item_lefts (g.task d) = block_lefts d
item_lefts (g.event t d ds) = block_lefts d ++ versions_lefts ds
item_lefts _ = []

abbrev pub program_lefts : {ts : List Lexeme} {xs : List Item} → IsProgram ts xs → List ℕ
program_lefts g.no_item = []
program_lefts (g.items {ts = ts} d ds) = length ts ∷ (item_lefts d ++ program_lefts ds)

-- the place of each piece's first token, counted from the first token of all
abbrev pub first_tokens : {ts : List Lexeme} {xs : List Item} → IsProgram ts xs → List ℕ
first_tokens {ts} d = map (λ left. length ts - left) (program_lefts d)

-- from one place on, none before the one in front of it, and all before another place
abbrev pub AreInOrder : ℕ → List ℕ → ℕ → Type 0
AreInOrder from [] upto = Unit {0}
AreInOrder from (n ∷ ns) upto = (from ≤ n) × (n < upto) × AreInOrder n ns upto

-- the tokens of some text that spell the tree of these items
abbrev pub IsTreeOf : List Token → List Item → Type 0
IsTreeOf tokens items = (text : List ℕ) × Spells (lexemes text tokens) items

-- these are the first tokens of the pieces, by whatever derivation
abbrev pub AreStarts : List Token → List Item → List ℕ → Type 0
AreStarts tokens items found = (text : List ℕ) (d : IsProgram (lexemes text tokens) items) → found ≡ first_tokens d
