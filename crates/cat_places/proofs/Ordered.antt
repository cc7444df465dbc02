-- Pieces begin one behind another, each with a token that there is.
use Rattle.std.proofs.Common.{◌≡◌, ℕ, zero, suc, ◌-◌, ◌<◌, ◌≤◌, List, [], ◌∷◌, ◌++◌, length, map, Option, subst, arith}
use Rattle.cat_tokens.specs.Lexemes.{Lexeme}
use Rattle.cn_base.specs.declared.tree.Expr.{Expr}
use Rattle.cn_base.specs.declared.tree.Further.{Further}
use Rattle.cn_base.specs.declared.tree.Stmt.{Stmt}
use Rattle.cn_base.specs.declared.tree.Timing.{Timing}
use Rattle.cn_base.specs.declared.tree.Item.{Item}
use Rattle.cat_syntax.specs.declared.level.Level.{Level}
use Rattle.cat_syntax.specs.Grammar as g
use Rattle.cat_syntax.specs.Grammar.{IsChain, AreFurther, IsOperand, IsComparison, IsUnary, IsPrimary, IsBlock, AreStatements, IsElse, IsStatement, IsTiming, AreVersions, AreNames, IsItem, IsProgram}
use Rattle.cat_syntax.specs.Reader.{Lexemes}
use Rattle.cat_places.specs.Starts.{chain_lefts, further_lefts, operand_lefts, comparison_lefts, unary_lefts, primary_lefts, block_lefts, statements_lefts, else_lefts, statement_lefts, versions_lefts, item_lefts, program_lefts, first_tokens, AreInOrder}

-- from a count on they never rise, and all are above another
data Falls : ℕ → List ℕ → ℕ → Type 0 where
  done : {high low : ℕ} → low ≤ high → Falls high [] low
  next : {high n low : ℕ} {ns : List ℕ} → n ≤ high → low < n → Falls n ns low → Falls high (n ∷ ns) low

above : {high low : ℕ} {ns : List ℕ} → Falls high ns low → low ≤ high
above (done le) = le
above (next le lt f) = omega arith

wider : {high more low less : ℕ} {ns : List ℕ} → high ≤ more → less ≤ low → Falls high ns low → Falls more ns less
wider h k (done le) = done (omega arith)
wider h k (next le lt f) = next (omega arith) (omega arith) (wider (omega arith) k f)

join : {high middle under low : ℕ} {ns ms : List ℕ} → Falls high ns middle → under ≤ middle → Falls under ms low → Falls high (ns ++ ms) low
join (done le) h f = wider (omega arith) (omega arith) f
join (next le lt g) h f = let least = above f in next le (omega arith) (join g h f)

-- one piece, and no other in it
one : {n low : ℕ} → low < n → Falls n (n ∷ []) low
one lt = next (omega arith) lt (done (omega arith))

-- a piece before those in it
outer : {n inner low less : ℕ} {ns : List ℕ} → inner ≤ n → less < n → less ≤ low → Falls inner ns low → Falls n (n ∷ ns) less
outer h lt k f = next (omega arith) lt (wider h k f)

mutual
  chain_falls : {l : Level} {ts rest : Lexemes} {x : Expr} (d : IsChain l ts x rest) → Falls (length ts) (chain_lefts d) (length rest)
  chain_falls (g.chain d g.none) = operand_falls d
  chain_falls (g.chain d (g.more o e ds)) =
      let a = operand_falls d in
      let b = operand_falls e in
      let c = further_falls ds in
      let p = above a in
      let q = above b in
      let r = above c in
      outer (omega arith) (omega arith) (omega arith) (join a (omega arith) (join b (omega arith) c))

  further_falls : {l : Level} {ts rest : Lexemes} {xs : List Further} (d : AreFurther l ts xs rest) → Falls (length ts) (further_lefts d) (length rest)
  further_falls g.none = done (omega arith)
  further_falls (g.more o d ds) = wider (omega arith) (omega arith) (join (operand_falls d) (omega arith) (further_falls ds))

  operand_falls : {l : Level} {ts rest : Lexemes} {x : Expr} (d : IsOperand l ts x rest) → Falls (length ts) (operand_lefts d) (length rest)
  operand_falls (g.both d) = chain_falls d
  operand_falls (g.compare d) = comparison_falls d
  operand_falls (g.term d) = chain_falls d
  operand_falls (g.unary d) = unary_falls d

  comparison_falls : {ts rest : Lexemes} {x : Expr} (d : IsComparison ts x rest) → Falls (length ts) (comparison_lefts d) (length rest)
  comparison_falls (g.sum d) = chain_falls d
  comparison_falls (g.compared d c e) =
      let a = chain_falls d in
      let b = chain_falls e in
      let p = above a in
      let q = above b in
      outer (omega arith) (omega arith) (omega arith) (join a (omega arith) b)

  unary_falls : {ts rest : Lexemes} {x : Expr} (d : IsUnary ts x rest) → Falls (length ts) (unary_lefts d) (length rest)
  unary_falls (g.primary d) = primary_falls d
  unary_falls (g.signed s d) = let a = primary_falls d in let p = above a in outer (omega arith) (omega arith) (omega arith) a

  primary_falls : {ts rest : Lexemes} {x : Expr} (d : IsPrimary ts x rest) → Falls (length ts) (primary_lefts d) (length rest)
  primary_falls g.literal = one (omega arith)
  primary_falls g.yes = one (omega arith)
  primary_falls g.no = one (omega arith)
  primary_falls g.payload = one (omega arith)
  primary_falls g.variable = one (omega arith)
  primary_falls (g.element d) = let a = chain_falls d in let p = above a in outer (omega arith) (omega arith) (omega arith) a
  primary_falls (g.parens d) = wider (omega arith) (omega arith) (chain_falls d)

mutual
  block_falls : {ts rest : Lexemes} {xs : List Stmt} (d : IsBlock ts xs rest) → Falls (length ts) (block_lefts d) (length rest)
  block_falls (g.braces ds) = wider (omega arith) (omega arith) (statements_fall ds)

  statements_fall : {ts rest : Lexemes} {xs : List Stmt} (d : AreStatements ts xs rest) → Falls (length ts) (statements_lefts d) (length rest)
  statements_fall g.no_statement = done (omega arith)
  statements_fall (g.statements d ds) =
      let a = statement_falls d in
      let b = statements_fall ds in
      let p = above b in
      let q = a.1 in
      outer (omega arith) (omega arith) (omega arith) (join a.0 (omega arith) b)

  else_falls : {ts rest : Lexemes} {ys : Option (List Stmt)} (d : IsElse ts ys rest) → Falls (length ts) (else_lefts d) (length rest)
  else_falls g.no_else = done (omega arith)
  else_falls (g.else_block d) = wider (omega arith) (omega arith) (block_falls d)

  statement_falls : {ts rest : Lexemes} {x : Stmt} (d : IsStatement ts x rest) → Falls (length ts) (statement_lefts d) (length rest) × (length rest < length ts)
  statement_falls (g.set d) = let a = chain_falls d in let p = above a in (wider (omega arith) (omega arith) a, omega arith)
  statement_falls (g.set_at d e) =
      let a = chain_falls d in
      let b = chain_falls e in
      let p = above a in
      let q = above b in
      (wider (omega arith) (omega arith) (join a (omega arith) b), omega arith)
  statement_falls (g.out d) = let a = chain_falls d in let p = above a in (wider (omega arith) (omega arith) a, omega arith)
  statement_falls g.post = (done (omega arith), omega arith)
  statement_falls (g.branch d b o) =
      let a = chain_falls d in
      let c = block_falls b in
      let e = else_falls o in
      let p = above a in
      let q = above c in
      let r = above e in
      (wider (omega arith) (omega arith) (join a (omega arith) (join c (omega arith) e)), omega arith)
  statement_falls (g.while d b) =
      let a = chain_falls d in
      let c = block_falls b in
      let p = above a in
      let q = above c in
      (wider (omega arith) (omega arith) (join a (omega arith) c), omega arith)
  statement_falls (g.repeat b) = let c = block_falls b in let p = above c in (wider (omega arith) (omega arith) c, omega arith)

versions_fall : {ts rest : Lexemes} {xss : List (List Stmt)} (d : AreVersions ts xss rest) → Falls (length ts) (versions_lefts d) (length rest)
versions_fall g.no_version = done (omega arith)
versions_fall (g.versions d ds) = wider (omega arith) (omega arith) (join (block_falls d) (omega arith) (versions_fall ds))

timing_takes : {ts rest : Lexemes} {t : Timing} → IsTiming ts t rest → length rest < length ts
timing_takes g.every = omega arith
timing_takes g.spacing = omega arith

names_take : {ts rest : Lexemes} {xs : List (List ℕ)} → AreNames ts xs rest → length rest ≤ length ts
names_take g.no_name = omega arith
names_take (g.names d) = let le = names_take d in omega arith

item_falls : {ts rest : Lexemes} {x : Item} (d : IsItem ts x rest) → Falls (length ts) (item_lefts d) (length rest) × (length rest < length ts)
item_falls g.int = (done (omega arith), omega arith)
item_falls g.minus = (done (omega arith), omega arith)
item_falls g.bool_true = (done (omega arith), omega arith)
item_falls g.bool_false = (done (omega arith), omega arith)
item_falls g.array = (done (omega arith), omega arith)
item_falls (g.task d) = let a = block_falls d in let p = above a in (wider (omega arith) (omega arith) a, omega arith)
item_falls (g.event t d ds) =
    let lt = timing_takes t in
    let a = block_falls d in
    let b = versions_fall ds in
    let p = above a in
    let q = above b in
    (wider (omega arith) (omega arith) (join a (omega arith) b), omega arith)
item_falls (g.degrade ds) = let le = names_take ds in (done (omega arith), omega arith)
item_falls g.start = (done (omega arith), omega arith)

program_falls : {ts : Lexemes} {xs : List Item} (d : IsProgram ts xs) → Falls (length ts) (program_lefts d) 0
program_falls g.no_item = done (omega arith)
program_falls (g.items d ds) =
    let a = item_falls d in
    let b = program_falls ds in
    let q = a.1 in
    outer (omega arith) (omega arith) (omega arith) (join a.0 (omega arith) b)

-- counted from the other end they never fall
from_front : (total : ℕ) {high : ℕ} {ns : List ℕ} → high ≤ total → Falls high ns 0 → AreInOrder (total - high) (map (λ left. total - left) ns) total
from_front total h (done le) = tt
from_front total h (next le lt f) = (omega arith, omega arith, from_front total (omega arith) f)

pub in_order : (ts : List Lexeme) (tree : List Item) (d : IsProgram ts tree) → AreInOrder 0 (first_tokens d) (length ts)
in_order ts tree d =
    let none : length ts - length ts ≡ 0 = omega arith in
    subst (λ n. AreInOrder n (first_tokens d) (length ts)) none (from_front (length ts) (omega arith) (program_falls d))
