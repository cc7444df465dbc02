-- What the bytes of a source stand for: a program, or the kind of the first fault and the byte that is named for it.
use Rattle.std.specs.Prelude.{◌≡◌, ℕ, ◌<◌, ◌≤◌, List, length, Option, Some, None}
use Rattle.cat_tokens.specs.declared.token.Token.{Token}
use Rattle.cat_tokens.specs.declared.lexer.LexFault.{LexFault}
use Rattle.cat_tokens.specs.Lexemes.{lexemes}
use Rattle.cat_tokens.specs.Lexes.{Lexes}
use Rattle.cn_base.specs.declared.tree.Tree.{Tree}
use Rattle.cat_syntax.specs.declared.fault.SyntaxFault.{SyntaxFault}
use Rattle.cat_syntax.specs.Spells.{Spells, IsFault}
use Rattle.cat_conditions.specs.declared.fault.TypeFault.{TypeFault}
use Rattle.cat_conditions.specs.Pieces.{pieces}
use Rattle.cat_conditions.specs.Conditions.{MeetsConditions, IsFault as IsTypeFault}
use Rattle.cat_program.specs.Checked.{Checked}
use Rattle.cat_resolve.specs.Program.{IsProgramOf}
use Rattle.catnap_top.specs.declared.refusal.SourceFault.{SourceFault}
use Rattle.catnap_top.specs.declared.refusal.SourceKind.{SourceKind}
use Rattle.catnap_top.specs.declared.refusal.SourceKind.TheVariants.{TooLong}
use Rattle.catnap_top.specs.declared.fault.Fault.TheVariants.{Source}
use Rattle.catnap_top.specs.declared.stop.Stop.{Stop}
use Rattle.catnap_top.specs.declared.stop.Stop.TheVariants.{NoMemory, Refused}
use Rattle.cat_places.specs.Starts.{first_tokens}
use Rattle.catnap_top.specs.Places.{byte_named, token_named, piece_named, byte_of_token, byte_of_piece}
use Rattle.catnap_top.specs.Refusals.{kind_of_token_fault, kind_of_syntax_fault, kind_of_type_fault}

-- the greatest source, in bytes
abbrev pub most_source : ℕ
most_source = 262144

-- A source that is accepted: its tokens spell a tree, the tree meets all conditions, and this is the tree's program.
pub record IsSourceOf (source : List ℕ) (p : Checked) : Type 0 where
  pub within : length source ≤ most_source
  pub tokens : List Token
  pub lexed : Lexes 0 source tokens None
  pub tree : Tree
  pub spelled : Spells (lexemes source tokens) tree.items
  pub checked : MeetsConditions tree
  pub program : IsProgramOf tree p

-- A source that is refused for this kind, with this byte named: the first in this order that applies.
pub data IsRefused (source : List ℕ) (refusal : SourceFault) : Type 0 where
  too_long : most_source < length source → refusal.kind ≡ TooLong → refusal.place ≡ most_source → IsRefused source refusal
  -- the text has tokens up to a first place without one
  no_tokens : (tokens : List Token) (fault : LexFault) → length source ≤ most_source → Lexes 0 source tokens (Some fault)
      → kind_of_token_fault fault ≡ Some refusal.kind → refusal.place ≡ byte_named fault → IsRefused source refusal
  -- brackets are too deep, or the grammar derives the tokens for no tree
  no_tree : (tokens : List Token) (fault : SyntaxFault) → length source ≤ most_source → Lexes 0 source tokens None
      → IsFault (lexemes source tokens) fault
      → kind_of_syntax_fault fault ≡ Some refusal.kind → refusal.place ≡ byte_of_token source tokens (token_named fault) → IsRefused source refusal
  -- the tree breaks a condition
  unchecked : (tokens : List Token) (tree : Tree) (fault : TypeFault) → length source ≤ most_source → Lexes 0 source tokens None
      → (spelled : Spells (lexemes source tokens) tree.items) → IsTypeFault (pieces tree) fault
      → kind_of_type_fault fault ≡ Some refusal.kind → refusal.place ≡ byte_of_piece source tokens (first_tokens spelled.derived) (piece_named fault)
      → IsRefused source refusal

-- the refusal of this kind at this byte, or want of memory where there is no kind
abbrev pub stop_of : Option SourceKind → ℕ → Stop
stop_of (Some kind) place = Refused (Source (record { kind = kind; place = place }))
stop_of None place = NoMemory
