-- A derivation has one first token for each piece.
use Rattle.std.proofs.Common.{◌≡◌, ℕ, suc, ◌+◌, ◌-◌, Bool, true, false, List, [], ◌∷◌, ◌++◌, length, map, Option, refl, sym, ap, ◌∙◌}
use Rattle.std.proofs.lemmas.List.{length-map, length-append}
use Rattle.cn_base.specs.declared.tree.Expr.{Expr}
use Rattle.cn_base.specs.declared.tree.Further.{Further}
use Rattle.cn_base.specs.declared.tree.Stmt.{Stmt}
use Rattle.cn_base.specs.declared.tree.Item.{Item}
use Rattle.cat_conditions.specs.Plain.{term_of, further_of, furthers_of, action_of, block_of, else_block}
use Rattle.cat_conditions.specs.Pieces.{Piece, term_pieces, further_terms, inner_pieces, block_pieces, else_pieces, versions_pieces, item_pieces, items_pieces}
use Rattle.cat_conditions.specs.PlainKinds.{ExpressionKinds, StatementKinds}
use Rattle.cat_syntax.specs.declared.level.Level.{Level}
use Rattle.cat_syntax.specs.Grammar as g
use Rattle.cat_syntax.specs.Grammar.{IsChain, AreFurther, IsOperand, IsComparison, IsUnary, IsPrimary, IsBlock, AreStatements, IsElse, IsStatement, AreVersions, IsItem, IsProgram}
use Rattle.cat_places.specs.Starts.{chain_lefts, further_lefts, operand_lefts, comparison_lefts, unary_lefts, primary_lefts, block_lefts, statements_lefts, else_lefts, statement_lefts, versions_lefts, item_lefts, program_lefts, first_tokens}
use Rattle.cat_syntax.specs.Reader.{Lexemes}
use Rattle.cat_places.proofs.Walked.{further_is}

-- as many places as pieces
record Even (ns : List ℕ) (ps : List Piece) : Type 0 where
  pub same : length ns ≡ length ps

none : Even [] []
none = record { same = refl }

next : {n : ℕ} {p : Piece} {ns : List ℕ} {ps : List Piece} → Even ns ps → Even (n ∷ ns) (p ∷ ps)
next e = record { same = ap suc e.same }

one : {n : ℕ} {p : Piece} → Even (n ∷ []) (p ∷ [])
one = record { same = refl }

join : {ns ms : List ℕ} {ps qs : List Piece} → Even ns ps → Even ms qs → Even (ns ++ ms) (ps ++ qs)
join {ns} {ms} {ps} {qs} e f = record {
  same = length-append ns ms ∙ (ap (λ n. n + length ms) e.same ∙ ap (λ n. length ps + n) f.same) ∙ sym (length-append ps qs);
}

module _ (kinds : ExpressionKinds) (statements : StatementKinds) where
  mutual
    chain_counts : {l : Level} {ts rest : Lexemes} {x : Expr} (d : IsChain l ts x rest) (event : Bool) → Even (chain_lefts d) (term_pieces event (term_of x))
    chain_counts (g.chain d g.none) event = operand_counts d event
    chain_counts (g.chain d (g.more o e ds)) event =
        let a = operand_counts d event in let b = operand_counts e event in let c = further_counts ds event in
        rw (kinds.chain, further_is kinds) (next (join a (join b c)))

    further_counts : {l : Level} {ts rest : Lexemes} {xs : List Further} (d : AreFurther l ts xs rest) (event : Bool) → Even (further_lefts d) (further_terms event (furthers_of (map further_of xs)))
    further_counts g.none event = none
    further_counts (g.more o d ds) event =
        let a = operand_counts d event in let b = further_counts ds event in
        rw (further_is kinds) (join a b)

    operand_counts : {l : Level} {ts rest : Lexemes} {x : Expr} (d : IsOperand l ts x rest) (event : Bool) → Even (operand_lefts d) (term_pieces event (term_of x))
    operand_counts (g.both d) event = chain_counts d event
    operand_counts (g.compare d) event = comparison_counts d event
    operand_counts (g.term d) event = chain_counts d event
    operand_counts (g.unary d) event = unary_counts d event

    comparison_counts : {ts rest : Lexemes} {x : Expr} (d : IsComparison ts x rest) (event : Bool) → Even (comparison_lefts d) (term_pieces event (term_of x))
    comparison_counts (g.sum d) event = chain_counts d event
    comparison_counts (g.compared d c e) event =
        let a = chain_counts d event in let b = chain_counts e event in
        rw kinds.compare (next (join a b))

    unary_counts : {ts rest : Lexemes} {x : Expr} (d : IsUnary ts x rest) (event : Bool) → Even (unary_lefts d) (term_pieces event (term_of x))
    unary_counts (g.primary d) event = primary_counts d event
    unary_counts (g.signed s d) event = rw kinds.signed (next (primary_counts d event))

    primary_counts : {ts rest : Lexemes} {x : Expr} (d : IsPrimary ts x rest) (event : Bool) → Even (primary_lefts d) (term_pieces event (term_of x))
    primary_counts g.literal event = rw kinds.number one
    primary_counts g.yes event = rw kinds.truth one
    primary_counts g.no event = rw kinds.truth one
    primary_counts g.payload event = rw kinds.payload one
    primary_counts g.variable event = rw kinds.name one
    primary_counts (g.element d) event = rw kinds.element (next (chain_counts d event))
    primary_counts (g.parens d) event = chain_counts d event

  mutual
    block_counts : {ts rest : Lexemes} {xs : List Stmt} (d : IsBlock ts xs rest) (event : Bool) (room : ℕ) → Even (block_lefts d) (block_pieces event room (block_of xs))
    block_counts (g.braces ds) event room = statements_count ds event room

    statements_count : {ts rest : Lexemes} {xs : List Stmt} (d : AreStatements ts xs rest) (event : Bool) (room : ℕ) → Even (statements_lefts d) (block_pieces event room (block_of xs))
    statements_count g.no_statement event room = none
    statements_count (g.statements d ds) event room = next (join (statement_counts d event room) (statements_count ds event room))

    else_counts : {ts rest : Lexemes} {ys : Option (List Stmt)} (d : IsElse ts ys rest) (event : Bool) (room : ℕ) → Even (else_lefts d) (else_pieces event room (else_block ys))
    else_counts g.no_else event room = none
    else_counts (g.else_block d) event room = block_counts d event room

    statement_counts : {ts rest : Lexemes} {x : Stmt} (d : IsStatement ts x rest) (event : Bool) (room : ℕ) → Even (statement_lefts d) (inner_pieces event room (action_of x))
    statement_counts (g.set d) event room = rw statements.set (chain_counts d event)
    statement_counts (g.set_at d e) event room =
        let a = chain_counts d event in let b = chain_counts e event in
        rw statements.set_at (join a b)
    statement_counts (g.out d) event room = rw statements.out (chain_counts d event)
    statement_counts g.post event room = rw statements.post none
    statement_counts (g.branch d b o) event room =
        let a = chain_counts d event in let c = block_counts b event room in let e = else_counts o event room in
        rw statements.branch (join a (join c e))
    statement_counts (g.while d b) event room =
        let a = chain_counts d event in let c = block_counts b event room in
        rw statements.loop (join a c)
    statement_counts (g.repeat b) event room = rw statements.turns (block_counts b event (room - 1))

  versions_count : {ts rest : Lexemes} {xss : List (List Stmt)} (d : AreVersions ts xss rest) → Even (versions_lefts d) (versions_pieces xss)
  versions_count g.no_version = none
  versions_count (g.versions d ds) = join (block_counts d true 32) (versions_count ds)

  item_counts : {ts rest : Lexemes} {x : Item} (d : IsItem ts x rest) → Even (item_lefts d) (item_pieces x)
  item_counts g.int = none
  item_counts g.minus = none
  item_counts g.bool_true = none
  item_counts g.bool_false = none
  item_counts g.array = none
  item_counts (g.task d) = block_counts d false 32
  item_counts (g.event t d ds) = join (block_counts d true 32) (versions_count ds)
  item_counts (g.degrade ds) = none
  item_counts g.start = none

  program_counts : {ts : Lexemes} {xs : List Item} (d : IsProgram ts xs) → Even (program_lefts d) (items_pieces xs)
  program_counts g.no_item = none
  program_counts (g.items d ds) = next (join (item_counts d) (program_counts ds))

  pub one_each : (ts : Lexemes) (tree : List Item) (d : IsProgram ts tree) → length (first_tokens d) ≡ length (items_pieces tree)
  one_each ts tree d = length-map (program_lefts d) _ ∙ (program_counts d).same
