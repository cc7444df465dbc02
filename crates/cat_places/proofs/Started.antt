-- What is left behind each piece's first token, counted from the front, is where the pieces begin.
use Rattle.std.proofs.Common.{◌≡◌, ℕ, ◌-◌, List, ◌++◌, length, take, drop, map, sym, ap, ◌∙◌}
use Rattle.std.proofs.Math.Seq.{take-append_seam}
use Rattle.std.proofs.lemmas.List.{length-map}
use Rattle.cat_tokens.specs.declared.token.Token.{Token}
use Rattle.cat_tokens.specs.Lexemes.{lexeme}
use Rattle.cn_base.specs.declared.tree.Item.{Item}
use Rattle.cat_conditions.specs.PlainKinds.{ExpressionKinds, StatementKinds}
use Rattle.cat_conditions.specs.Pieces.{items_pieces}
use Rattle.cat_places.specs.Starts.{IsTreeOf, AreStarts, program_lefts}
use Rattle.cat_places.specs.Walk.{items_lefts}
use Rattle.cat_places.proofs.TokenKinds.{kinds}
use Rattle.cat_places.proofs.WalkedItems.{program_walk}
use Rattle.cat_places.proofs.Counted.{one_each}

-- what a list holds after a call that changed its elements in place
pub written : (old new : List ℕ) (n : ℕ) → n ≡ length old → length new ≡ length old → take n (new ++ drop (length new) old) ≡ new
written old new n e l = ap (λ k. take k (new ++ drop (length new) old)) (e ∙ sym l) ∙ take-append_seam new (drop (length new) old)

module _ (expressions : ExpressionKinds) (statements : StatementKinds) (tokens : List Token) (tree : List Item) (total : ℕ) (lefts : List ℕ)
    (all : total ≡ length tokens) (walked : lefts ≡ items_lefts tree (map (λ t. t.what) tokens)) where
  pub are_starts : AreStarts tokens tree (map (λ left. total - left) lefts)
  are_starts text d =
      ap (map (λ left. total - left)) (walked ∙ ap (items_lefts tree) (kinds text tokens) ∙ program_walk expressions statements d)
      ∙ ap (λ n. map (λ left. n - left) (program_lefts d)) (all ∙ sym (length-map tokens (lexeme text)))

  pub starts_are_each : IsTreeOf tokens tree → length (map (λ left. total - left) lefts) ≡ length (items_pieces tree)
  starts_are_each spelled = ap length (are_starts spelled.0 spelled.1.derived) ∙ one_each expressions statements _ tree spelled.1.derived
