-- What is read of a statement before it is refused goes on to a statement.
use Rattle.std.proofs.Common.{◌≡◌, ℕ, zero, suc, Bool, true, false, cond, List, [], ◌∷◌, Some, None, refl}
use Rattle.cat_tokens.specs.declared.token.Keyword.TheVariants as k
use Rattle.cat_tokens.specs.declared.token.Symbol.TheVariants as s
use Rattle.cat_tokens.specs.Lexemes.{keyword, name, number, symbol}
use Rattle.cn_base.specs.declared.tree.Expr.{Expr}
use Rattle.cn_base.specs.declared.tree.Stmt.{Stmt}
use Rattle.cn_base.specs.declared.tree.Stmt.TheVariants as stmt
use Rattle.cat_syntax.specs.Grammar as g
use Rattle.cat_syntax.specs.Grammar.{IsExpr, IsBlock, AreStatements, IsElse, IsStatement}
use Rattle.cat_syntax.specs.Reader.{Lexemes, Reader, ◌>>=◌, ◌>>◌, pure, after, sees_keyword, expect, read_name, one_where}
use Rattle.cat_syntax.specs.Reading.{nested}
use Rattle.cat_syntax.specs.Statements.{value, set, set_at, assigned, output, posted, else_block, otherwise, branched, looped, repeated, statement, goes_on, statements, braces, block}
use Rattle.cat_syntax.proofs.Readers.{read, sees_keyword_is}
use Rattle.cat_syntax.proofs.Heads.{after_out, after_post, after_if, after_while, after_repeat}
use Rattle.cat_syntax.proofs.Viable.{Completes, Viable, Next, Behind, viable_then, regrouped, wider, viable_pure, viable_map, refuses, behind, viable_expect, viable_name, viable_number, viable_close, some_name, Step, viable_all, viable_where}
use Rattle.cat_syntax.proofs.ViableExpr.{a_number, nested_viable}

abbrev IsValue : Lexemes → Expr → Lexemes → Type 0
IsValue ts e end = IsExpr ts e (symbol s.Semicolon ∷ end)

value_viable : (room : ℕ) → Viable IsValue (value room)
unfolding value
value_viable room = viable_close IsExpr IsValue s.Semicolon (λ e. e) (nested (suc room)) (λ e ts end d. d) (nested_viable (suc room))

-- ---- statements without blocks

module _ (room : ℕ) where
  assigned_viable : (x : List ℕ) → Viable (Behind (name x) IsStatement) (assigned room x)
  unfolding assigned set set_at after
  assigned_viable x (symbol s.Assign ∷ us) = behind (Behind (name x) IsStatement) (symbol s.Assign) (symbol s.Assign ∷ us) us _ refl
      (viable_map (Behind (symbol s.Assign) (Behind (name x) IsStatement)) (λ e. stmt.Set x e) (value room)
      (λ vs. wider IsValue (λ ws e end. IsStatement (name x ∷ symbol s.Assign ∷ ws) (stmt.Set x e) end) (λ e ws end d. g.set d) vs (value room vs) (value_viable room vs)) us)
  assigned_viable x (symbol s.LeftBracket ∷ us) =
      let whole = Behind (symbol s.LeftBracket) (Behind (name x) IsStatement) in
      behind (Behind (name x) IsStatement) (symbol s.LeftBracket) (symbol s.LeftBracket ∷ us) us _ refl
      (viable_then IsExpr whole (nested room) (λ i. expect s.RightBracket >> expect s.Assign >> value room >>= λ e. pure (stmt.SetAt x i e)) (nested_viable room)
      (λ i. viable_map (Next IsExpr whole i) (λ e. stmt.SetAt x i e) (expect s.RightBracket >> expect s.Assign >> value room)
      (let part : Lexemes → Expr → Lexemes → Type 0 = λ ts e end. Next IsExpr whole i ts (stmt.SetAt x i e) end in
      regrouped part (expect s.RightBracket) (λ _. expect s.Assign) (λ _. value room)
      (viable_expect part s.RightBracket (expect s.Assign >> value room)
      (viable_expect (Behind (symbol s.RightBracket) part) s.Assign (value room)
      (λ vs. wider IsValue (Behind (symbol s.Assign) (Behind (symbol s.RightBracket) part)) (λ e ws end d us di. g.set_at di d) vs (value room vs) (value_viable room vs)))))) us)
  assigned_viable x ts = refuses (Behind (name x) IsStatement) ts (stmt.Set x _) (λ end. (symbol s.Assign ∷ number 0 ∷ symbol s.Semicolon ∷ end, g.set (a_number (symbol s.Semicolon ∷ end))))

  output_viable : Viable (Behind (keyword k.Out) IsStatement) (after_out room)
  output_viable = viable_number (Behind (keyword k.Out) IsStatement) (λ n. expect s.Comma >> value room >>= λ e. pure (stmt.Out n e))
      (λ n. viable_map (Behind (number n) (Behind (keyword k.Out) IsStatement)) (λ e. stmt.Out n e) (expect s.Comma >> value room)
      (viable_expect (λ ts e end. IsStatement (keyword k.Out ∷ number n ∷ ts) (stmt.Out n e) end) s.Comma (value room)
      (λ vs. wider IsValue (λ ws e end. IsStatement (keyword k.Out ∷ number n ∷ symbol s.Comma ∷ ws) (stmt.Out n e) end) (λ e ws end d. g.out d) vs (value room vs) (value_viable room vs))))

  posted_viable : Viable (Behind (keyword k.Post) IsStatement) after_post
  posted_viable = viable_name (Behind (keyword k.Post) IsStatement) (λ x. expect s.Semicolon >> pure (stmt.Post x))
      (λ x. viable_expect (Behind (name x) (Behind (keyword k.Post) IsStatement)) s.Semicolon (pure (stmt.Post x))
      (viable_pure (λ ts y end. IsStatement (keyword k.Post ∷ name x ∷ symbol s.Semicolon ∷ ts) y end) (stmt.Post x) (λ ts. g.post)))

-- ---- statements with blocks

module _ (room : ℕ) (block : Reader (List Stmt)) (law : Viable IsBlock block) where
  otherwise_viable : Viable IsElse (otherwise room block)
  unfolding otherwise else_block
  otherwise_viable ts = by (sees_keyword k.Else ts) refl
    where
      by : (b : Bool) → sees_keyword k.Else ts ≡ b → Completes IsElse ts (cond b (else_block room block ts) (read None ts))
      by false e = ([], refl, λ other. g.no_else)
      by true e = behind IsElse (keyword k.Else) ts (after ts) _ (sees_keyword_is k.Else ts e)
          (viable_map (Behind (keyword k.Else) IsElse) (λ ys. Some ys) block
          (λ us. wider IsBlock (λ vs ys end. IsElse (keyword k.Else ∷ vs) (Some ys) end) (λ ys vs end d. g.else_block d) us (block us) (law us)) (after ts))

  branched_viable : Viable (Behind (keyword k.If) IsStatement) (after_if room block)
  branched_viable =
      let whole = Behind (keyword k.If) IsStatement in
      viable_then IsExpr whole (nested (suc room)) (λ e. block >>= λ xs. otherwise room block >>= λ ys. pure (stmt.If e xs ys)) (nested_viable (suc room))
      (λ e. viable_then IsBlock (Next IsExpr whole e) block (λ xs. otherwise room block >>= λ ys. pure (stmt.If e xs ys)) law
      (λ xs. viable_map (Next IsBlock (Next IsExpr whole e) xs) (λ ys. stmt.If e xs ys) (otherwise room block)
      (λ us. wider IsElse (λ vs ys end. Next IsBlock (Next IsExpr whole e) xs vs (stmt.If e xs ys) end) (λ ys vs end o mid b ts d. g.branch d b o) us (otherwise room block us) (otherwise_viable us))))

  looped_viable : Viable (Behind (keyword k.While) IsStatement) (after_while room block)
  looped_viable =
      let whole = Behind (keyword k.While) IsStatement in
      viable_then IsExpr whole (nested (suc room)) (λ e. block >>= λ xs. pure (stmt.While e xs)) (nested_viable (suc room))
      (λ e. viable_map (Next IsExpr whole e) (λ xs. stmt.While e xs) block
      (λ us. wider IsBlock (λ vs xs end. Next IsExpr whole e vs (stmt.While e xs) end) (λ xs vs end b ts d. g.while d b) us (block us) (law us)))

  repeated_viable : Viable (Behind (keyword k.Repeat) IsStatement) (after_repeat room block)
  repeated_viable =
      let whole = Behind (keyword k.Repeat) IsStatement in
      viable_number whole (λ n. block >>= λ xs. pure (stmt.Repeat n xs))
      (λ n. viable_map (Behind (number n) whole) (λ xs. stmt.Repeat n xs) block
      (λ us. wider IsBlock (λ vs xs end. IsStatement (keyword k.Repeat ∷ number n ∷ vs) (stmt.Repeat n xs) end) (λ xs vs end b. g.repeat b) us (block us) (law us)))

  statement_viable : Viable IsStatement (statement room block)
  unfolding statement output posted branched looped repeated after read_name
  statement_viable (name x ∷ us) = behind IsStatement (name x) (name x ∷ us) us _ refl (assigned_viable room x us)
  statement_viable (keyword k.Out ∷ us) = behind IsStatement (keyword k.Out) (keyword k.Out ∷ us) us _ refl (output_viable room us)
  statement_viable (keyword k.Post ∷ us) = behind IsStatement (keyword k.Post) (keyword k.Post ∷ us) us _ refl (posted_viable room us)
  statement_viable (keyword k.If ∷ us) = behind IsStatement (keyword k.If) (keyword k.If ∷ us) us _ refl (branched_viable us)
  statement_viable (keyword k.While ∷ us) = behind IsStatement (keyword k.While) (keyword k.While ∷ us) us _ refl (looped_viable us)
  statement_viable (keyword k.Repeat ∷ us) = behind IsStatement (keyword k.Repeat) (keyword k.Repeat ∷ us) us _ refl (repeated_viable us)
  statement_viable ts = refuses IsStatement ts (stmt.Post some_name) (λ end. (keyword k.Post ∷ name some_name ∷ symbol s.Semicolon ∷ end, g.post))

  statements_viable : Viable AreStatements (statements room block)
  unfolding statements
  statements_viable = viable_all AreStatements (λ ts. g.no_statement) (one_where (goes_on room block) (statement room block))
      (viable_where AreStatements (λ ts. g.no_statement) (goes_on room block) (statement room block)
      (λ ts e. wider IsStatement (Step AreStatements (λ ts. g.no_statement)) (λ x us mid d xs end ds. g.statements d ds) ts (statement room block ts) (statement_viable ts)))

  braces_viable : Viable IsBlock (braces room block)
  unfolding braces
  braces_viable = regrouped IsBlock (expect s.LeftBrace) (λ _. statements room block) (λ xs. expect s.RightBrace >> pure xs)
      (viable_expect IsBlock s.LeftBrace (statements room block >>= λ xs. expect s.RightBrace >> pure xs)
      (viable_close AreStatements (Behind (symbol s.LeftBrace) IsBlock) s.RightBrace (λ xs. xs) (statements room block) (λ xs ts end ds. g.braces ds) statements_viable))

pub block_viable : (room : ℕ) → Viable IsBlock (block room)
unfolding block
block_viable zero ts = refuses IsBlock ts [] (λ end. (symbol s.LeftBrace ∷ symbol s.RightBrace ∷ end, g.braces g.no_statement))
block_viable (suc room) ts = braces_viable room (block room) (block_viable room) ts
