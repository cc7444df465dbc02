-- Each kind of expression and statement as plain data.
use Rattle.std.proofs.Common.{◌≡◌, ℕ, Bool, List, Option, Some, None, map, ap, sym, ◌∙◌}
use Rattle.cn_base.specs.declared.tree.Expr.{Expr, fold-Expr, fold-roll-Expr}
use Rattle.cn_base.specs.declared.tree.Expr.TheVariants as expr
use Rattle.cn_base.specs.declared.tree.Expr.TheOpen.{Expr-F}
use Rattle.cn_base.specs.declared.tree.Further.{Further, out-Further, fold_out-Further}
use Rattle.cn_base.specs.declared.tree.Stmt.{Stmt, fold-Stmt, fold-roll-Stmt}
use Rattle.cn_base.specs.declared.tree.Stmt.TheVariants as stmt
use Rattle.cn_base.specs.declared.tree.Stmt.TheOpen.{Stmt-F}
use Rattle.cn_base.specs.declared.tree.Operator.{Operator}
use Rattle.cn_base.specs.declared.tree.Comparison.{Comparison}
use Rattle.cn_base.specs.declared.tree.Sign.{Sign}
use Rattle.cat_conditions.specs.Plain.{Term, number, truth, payload, variable, element, signed, chain, compare, furthers_of, term_layer, further_layer, term_of, further_of, Action, set, set_at, out, post, choose, loop, turns, action_layer, action_of, block_of, else_block}
use Rattle.cat_conditions.specs.PlainKinds.{ExpressionKinds, StatementKinds}

term_number : (n : ℕ) → term_of (expr.Number n) ≡ number n
unfolding term_of
term_number n = ap (fold-Expr Term (Operator × Term) term_layer further_layer) (sym (expr.rolls-Number n)) ∙ fold-roll-Expr Term (Operator × Term) term_layer further_layer (Expr-F.Number n)

term_truth : (b : Bool) → term_of (expr.Truth b) ≡ truth b
unfolding term_of
term_truth b = ap (fold-Expr Term (Operator × Term) term_layer further_layer) (sym (expr.rolls-Truth b)) ∙ fold-roll-Expr Term (Operator × Term) term_layer further_layer (Expr-F.Truth b)

term_payload : term_of expr.Payload ≡ payload
unfolding term_of
term_payload = ap (fold-Expr Term (Operator × Term) term_layer further_layer) (sym expr.rolls-Payload) ∙ fold-roll-Expr Term (Operator × Term) term_layer further_layer Expr-F.Payload

term_name : (x : List ℕ) → term_of (expr.Name x) ≡ variable x
unfolding term_of
term_name x = ap (fold-Expr Term (Operator × Term) term_layer further_layer) (sym (expr.rolls-Name x)) ∙ fold-roll-Expr Term (Operator × Term) term_layer further_layer (Expr-F.Name x)

term_element : (x : List ℕ) (i : Expr) → term_of (expr.Element x i) ≡ element x (term_of i)
unfolding term_of
term_element x i = ap (fold-Expr Term (Operator × Term) term_layer further_layer) (sym (expr.rolls-Element x i)) ∙ fold-roll-Expr Term (Operator × Term) term_layer further_layer (Expr-F.Element x i)

term_signed : (s : Sign) (e : Expr) → term_of (expr.Signed s e) ≡ signed s (term_of e)
unfolding term_of
term_signed s e = ap (fold-Expr Term (Operator × Term) term_layer further_layer) (sym (expr.rolls-Signed s e)) ∙ fold-roll-Expr Term (Operator × Term) term_layer further_layer (Expr-F.Signed s e)

term_chain : (e : Expr) (fs : List Further) → term_of (expr.Chain e fs) ≡ chain (term_of e) (furthers_of (map further_of fs))
unfolding term_of further_of
term_chain e fs = ap (fold-Expr Term (Operator × Term) term_layer further_layer) (sym (expr.rolls-Chain e fs)) ∙ fold-roll-Expr Term (Operator × Term) term_layer further_layer (Expr-F.Chain e fs)

term_compare : (a : Expr) (c : Comparison) (b : Expr) → term_of (expr.Compare a c b) ≡ compare (term_of a) c (term_of b)
unfolding term_of
term_compare a c b = ap (fold-Expr Term (Operator × Term) term_layer further_layer) (sym (expr.rolls-Compare a c b)) ∙ fold-roll-Expr Term (Operator × Term) term_layer further_layer (Expr-F.Compare a c b)

further_out : (f : Further) → further_of f ≡ ((out-Further f).operator, term_of (out-Further f).operand)
unfolding term_of further_of
further_out f = fold_out-Further Term (Operator × Term) term_layer further_layer f

action_set : (x : List ℕ) (e : Expr) → action_of (stmt.Set x e) ≡ set x (term_of e)
unfolding action_of
action_set x e = ap (fold-Stmt Action action_layer) (sym (stmt.rolls-Set x e)) ∙ fold-roll-Stmt Action action_layer (Stmt-F.Set x e)

action_set_at : (x : List ℕ) (i e : Expr) → action_of (stmt.SetAt x i e) ≡ set_at x (term_of i) (term_of e)
unfolding action_of
action_set_at x i e = ap (fold-Stmt Action action_layer) (sym (stmt.rolls-SetAt x i e)) ∙ fold-roll-Stmt Action action_layer (Stmt-F.SetAt x i e)

action_out : (n : ℕ) (e : Expr) → action_of (stmt.Out n e) ≡ out n (term_of e)
unfolding action_of
action_out n e = ap (fold-Stmt Action action_layer) (sym (stmt.rolls-Out n e)) ∙ fold-roll-Stmt Action action_layer (Stmt-F.Out n e)

action_post : (x : List ℕ) → action_of (stmt.Post x) ≡ post x
unfolding action_of
action_post x = ap (fold-Stmt Action action_layer) (sym (stmt.rolls-Post x)) ∙ fold-roll-Stmt Action action_layer (Stmt-F.Post x)

action_if : (e : Expr) (xs : List Stmt) (ys : Option (List Stmt)) → action_of (stmt.If e xs ys) ≡ choose (term_of e) (block_of xs) (else_block ys)
unfolding action_of
action_if e xs None = ap (fold-Stmt Action action_layer) (sym (stmt.rolls-If e xs None)) ∙ fold-roll-Stmt Action action_layer (Stmt-F.If e xs None)
action_if e xs (Some ys) = ap (fold-Stmt Action action_layer) (sym (stmt.rolls-If e xs (Some ys))) ∙ fold-roll-Stmt Action action_layer (Stmt-F.If e xs (Some ys))

action_loop : (e : Expr) (xs : List Stmt) → action_of (stmt.While e xs) ≡ loop (term_of e) (block_of xs)
unfolding action_of
action_loop e xs = ap (fold-Stmt Action action_layer) (sym (stmt.rolls-While e xs)) ∙ fold-roll-Stmt Action action_layer (Stmt-F.While e xs)

action_turns : (n : ℕ) (xs : List Stmt) → action_of (stmt.Repeat n xs) ≡ turns n (block_of xs)
unfolding action_of
action_turns n xs = ap (fold-Stmt Action action_layer) (sym (stmt.rolls-Repeat n xs)) ∙ fold-roll-Stmt Action action_layer (Stmt-F.Repeat n xs)

pub expression_kinds : ExpressionKinds
expression_kinds = record {
  number = term_number;
  truth = term_truth;
  payload = term_payload;
  name = term_name;
  element = term_element;
  signed = term_signed;
  chain = term_chain;
  compare = term_compare;
  further = further_out;
}

pub statement_kinds : StatementKinds
statement_kinds = record {
  set = action_set;
  set_at = action_set_at;
  out = action_out;
  post = action_post;
  branch = action_if;
  loop = action_loop;
  turns = action_turns;
}
