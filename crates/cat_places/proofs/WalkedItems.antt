-- The same of statements, items and programs.
use Rattle.std.proofs.Common.{◌≡◌, ℕ, suc, ◌+◌, ◌*◌, ◌-◌, List, ◌∷◌, length, map, refl, sym, ap, ◌∙◌, arith}
use Rattle.std.specs.Prelude.{drop}
use Rattle.std.proofs.lemmas.List.{length-map}
use Rattle.cat_tokens.specs.declared.token.What.{What}
use Rattle.cat_tokens.specs.Lexemes.{Lexeme, kind}
use Rattle.cn_base.specs.declared.tree.Stmt.{Stmt}
use Rattle.cn_base.specs.declared.tree.Timing.{Timing}
use Rattle.cn_base.specs.declared.tree.Item.{Item}
use Rattle.cat_conditions.specs.Plain.{action_of, block_of}
use Rattle.cat_conditions.specs.PlainKinds.{ExpressionKinds, StatementKinds}
use Rattle.cat_syntax.specs.Grammar as g
use Rattle.cat_syntax.specs.Grammar.{IsBlock, AreStatements, IsElse, IsStatement, IsTiming, AreVersions, AreNames, IsItem, IsProgram}
use Rattle.cat_places.specs.Starts as st
use Rattle.cat_places.specs.Walk.{after_block, block_lefts, after_actions, actions_lefts, after_action, inner_lefts, after_versions, versions_lefts, timing_tokens, after_item, item_lefts, items_lefts}
use Rattle.cat_syntax.specs.Reader.{Lexemes}
use Rattle.cat_places.proofs.Walked.{found_rest, found_lefts, chain_found}

timing_walk : {ts rest : Lexemes} {t : Timing} → IsTiming ts t rest → (w v : What) → drop (3 + timing_tokens t) (w ∷ v ∷ map kind ts) ≡ drop 1 (map kind rest)
timing_walk g.every w v = refl
timing_walk g.spacing w v = refl

twice : (n : ℕ) → 2 * suc n + 1 ≡ suc (suc (2 * n + 1))
twice n = omega arith

names_walk : {ts rest : Lexemes} {xs : List (List ℕ)} {t : Lexeme} → AreNames ts xs (t ∷ rest) → drop (2 * length xs + 1) (map kind ts) ≡ map kind rest
names_walk g.no_name = refl
names_walk (g.names {xs = xs} d) = rw (twice (length xs)) (names_walk d)

module _ (kinds : ExpressionKinds) (statements : StatementKinds) where
  mutual
    pub block_walk : {ts rest : Lexemes} {xs : List Stmt} (d : IsBlock ts xs rest) → (after_block (block_of xs) (map kind ts) ≡ map kind rest) × (block_lefts (block_of xs) (map kind ts) ≡ st.block_lefts d)
    block_walk (g.braces ds) = let a = statements_walk ds in (ap (drop 1) a.0, a.1)

    statements_walk : {ts rest : Lexemes} {xs : List Stmt} (d : AreStatements ts xs rest) → (after_actions (block_of xs) (map kind ts) ≡ map kind rest) × (actions_lefts (block_of xs) (map kind ts) ≡ st.statements_lefts d)
    statements_walk g.no_statement = (refl, refl)
    statements_walk (g.statements d ds) = let a = statement_walk d in let b = statements_walk ds in (rw a.0 b.0, rw (length-map, a.0, a.1, b.1) refl)

    statement_walk : {ts rest : Lexemes} {x : Stmt} (d : IsStatement ts x rest) → (after_action (action_of x) (map kind ts) ≡ map kind rest) × (inner_lefts (action_of x) (map kind ts) ≡ st.statement_lefts d)
    statement_walk (g.set d) = let f = chain_found kinds d in (rw statements.set (ap (drop 1) (found_rest f)), rw statements.set (found_lefts f))
    statement_walk (g.set_at d e) =
        let f = chain_found kinds d in let h = chain_found kinds e in
        (rw (statements.set_at, found_rest f) (ap (drop 1) (found_rest h)), rw (statements.set_at, found_rest f, found_lefts f, found_lefts h) refl)
    statement_walk (g.out d) = let f = chain_found kinds d in (rw statements.out (ap (drop 1) (found_rest f)), rw statements.out (found_lefts f))
    statement_walk g.post = (rw statements.post refl, rw statements.post refl)
    statement_walk (g.branch d b g.no_else) =
        let f = chain_found kinds d in let h = block_walk b in
        (rw (statements.branch, found_rest f) h.0, rw (statements.branch, found_rest f, found_lefts f, h.1) refl)
    statement_walk (g.branch d b (g.else_block o)) =
        let f = chain_found kinds d in let h = block_walk b in let e = block_walk o in
        (rw (statements.branch, found_rest f, h.0) e.0, rw (statements.branch, found_rest f, found_lefts f, h.0, h.1, e.1) refl)
    statement_walk (g.while d b) =
        let f = chain_found kinds d in let h = block_walk b in
        (rw (statements.loop, found_rest f) h.0, rw (statements.loop, found_rest f, found_lefts f, h.1) refl)
    statement_walk (g.repeat b) = let h = block_walk b in (rw statements.turns h.0, rw statements.turns h.1)

  -- versions that stand behind one more token each
  versions_walk : {ts rest : Lexemes} {xss : List (List Stmt)} (d : AreVersions ts xss rest) → (after_versions xss (map kind ts) ≡ map kind rest) × (versions_lefts xss (map kind ts) ≡ st.versions_lefts d)
  versions_walk g.no_version = (refl, refl)
  versions_walk (g.versions d ds) = let a = block_walk d in let b = versions_walk ds in (rw a.0 b.0, rw (a.0, a.1, b.1) refl)

  item_walk : {ts rest : Lexemes} {x : Item} (d : IsItem ts x rest) → (after_item x (map kind ts) ≡ map kind rest) × (item_lefts x (map kind ts) ≡ st.item_lefts d)
  item_walk g.int = (refl, refl)
  item_walk g.minus = (refl, refl)
  item_walk g.bool_true = (refl, refl)
  item_walk g.bool_false = (refl, refl)
  item_walk g.array = (refl, refl)
  item_walk (g.task d) = block_walk d
  item_walk (g.event t d ds) =
      let a = block_walk d in let b = versions_walk ds in
      (rw (timing_walk t, a.0) b.0, rw (timing_walk t, a.0, a.1, b.1) refl)
  item_walk (g.degrade {xs = xs} ds) = (rw (twice (length xs)) (names_walk ds), refl)
  item_walk g.start = (refl, refl)

  pub program_walk : {ts : Lexemes} {xs : List Item} (d : IsProgram ts xs) → items_lefts xs (map kind ts) ≡ st.program_lefts d
  program_walk g.no_item = refl
  program_walk (g.items d ds) = let a = item_walk d in rw (length-map, a.0, a.1, program_walk ds) refl

  pub one_list : (ts : Lexemes) (tree : List Item) (d e : IsProgram ts tree) → st.first_tokens d ≡ st.first_tokens e
  one_list ts tree d e = ap (map (λ left. length ts - left)) (sym (program_walk d) ∙ program_walk e)
