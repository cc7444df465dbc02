-- An operator and a sign open and close no bracket.
use Rattle.std.proofs.Common.{◌≡◌, Some, refl}
use Rattle.cat_tokens.specs.declared.token.Symbol.{Symbol}
use Rattle.cat_tokens.specs.declared.token.Symbol.TheVariants as s
use Rattle.cat_tokens.specs.Lexemes.{symbol}
use Rattle.cn_base.specs.declared.tree.Operator.{Operator}
use Rattle.cn_base.specs.declared.tree.Comparison.{Comparison}
use Rattle.cn_base.specs.declared.tree.Sign.{Sign}
use Rattle.cat_syntax.specs.declared.level.Level.{Level}
use Rattle.cat_syntax.specs.declared.level.Level.TheVariants as level
use Rattle.cat_syntax.specs.Levels.{operator_of, comparison_of, sign_of}
use Rattle.cat_syntax.specs.Depth.{keeps, change}

pub operator_keeps : (l : Level) (s : Symbol) (o : Operator) → operator_of l s ≡ Some o → change (symbol s) ≡ keeps
operator_keeps level.Or s.Or o e = refl
operator_keeps level.And s.And o e = refl
operator_keeps level.Sum s.Plus o e = refl
operator_keeps level.Sum s.Minus o e = refl
operator_keeps level.Product s.Star o e = refl
operator_keeps level.Product s.Slash o e = refl
operator_keeps level.Product s.Percent o e = refl
operator_keeps _ _ o e = absurd cc

pub comparison_keeps : (s : Symbol) (c : Comparison) → comparison_of s ≡ Some c → change (symbol s) ≡ keeps
comparison_keeps s.Equal c e = refl
comparison_keeps s.NotEqual c e = refl
comparison_keeps s.Less c e = refl
comparison_keeps s.LessEqual c e = refl
comparison_keeps s.Greater c e = refl
comparison_keeps s.GreaterEqual c e = refl
comparison_keeps _ c e = absurd cc

pub sign_keeps : (s : Symbol) (c : Sign) → sign_of s ≡ Some c → change (symbol s) ≡ keeps
sign_keeps s.Minus c e = refl
sign_keeps s.Not c e = refl
sign_keeps _ c e = absurd cc
