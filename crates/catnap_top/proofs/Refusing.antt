-- A source that has no tokens, whose tokens have no tree, or whose tree breaks a condition is refused by the kind and the place of its fault.
use Rattle.std.proofs.Common.{ℕ, ◌≤◌, List, length, None, refl}
use Rattle.cat_tokens.specs.declared.token.Token.{Token}
use Rattle.cat_tokens.specs.declared.lexer.LexFault.{LexFault}
use Rattle.cat_tokens.specs.declared.lexer.LexFault.TheVariants as token
use Rattle.cat_tokens.specs.Lexemes.{lexemes}
use Rattle.cat_tokens.specs.Lexes.{Lexes, IsFirstFault}
use Rattle.cat_syntax.specs.declared.fault.SyntaxFault.{SyntaxFault}
use Rattle.cat_syntax.specs.declared.fault.SyntaxFault.TheVariants as syntax
use Rattle.cat_syntax.specs.Spells.{IsFault}
use Rattle.cat_syntax.specs.Spells.{Spells}
use Rattle.cn_base.specs.declared.tree.Tree.{Tree}
use Rattle.cat_conditions.specs.declared.fault.TypeFault.{TypeFault}
use Rattle.cat_conditions.specs.declared.fault.TypeFault.TheVariants as type
use Rattle.cat_conditions.specs.Pieces.{pieces}
use Rattle.cat_conditions.specs.Conditions.{IsFault as IsTypeFault}
use Rattle.cat_places.specs.Starts.{first_tokens}
use Rattle.catnap_top.specs.Places.{byte_named, token_named, piece_named, byte_of_token, byte_of_piece}
use Rattle.catnap_top.specs.Refusals.{kind_of_token_fault, kind_of_syntax_fault, kind_of_type_fault}
use Rattle.catnap_top.specs.Source.{stop_of, no_tokens, no_tree, unchecked, most_source}
use Rattle.catnap_top.specs.Files.{program_in}
use Rattle.catnap_top.specs.Look.{Stops, fails}

pub token_refused : (source : List ℕ) (f : LexFault) → length source ≤ most_source → IsFirstFault source f
    → Stops (program_in source) (stop_of (kind_of_token_fault f) (byte_named f))
token_refused source token.NoMemory le is = tt
token_refused source (token.BadByte at) le is = fails _ (no_tokens is.0 (token.BadByte at) le is.1 refl refl) refl
token_refused source (token.IntTooLarge at) le is = fails _ (no_tokens is.0 (token.IntTooLarge at) le is.1 refl refl) refl
token_refused source (token.NameTooLong at) le is = fails _ (no_tokens is.0 (token.NameTooLong at) le is.1 refl refl) refl

pub syntax_refused : (source : List ℕ) (tokens : List Token) (f : SyntaxFault) → length source ≤ most_source → Lexes 0 source tokens None
    → IsFault (lexemes source tokens) f → Stops (program_in source) (stop_of (kind_of_syntax_fault f) (byte_of_token source tokens (token_named f)))
syntax_refused source tokens syntax.NoMemory le lexes is = tt
syntax_refused source tokens (syntax.TooDeep at) le lexes is = fails _ (no_tree tokens (syntax.TooDeep at) le lexes is refl refl) refl
syntax_refused source tokens (syntax.Syntax at) le lexes is = fails _ (no_tree tokens (syntax.Syntax at) le lexes is refl refl) refl

pub type_refused : (source : List ℕ) (tokens : List Token) (tree : Tree) (f : TypeFault) → length source ≤ most_source → Lexes 0 source tokens None
    → (spelled : Spells (lexemes source tokens) tree.items) → IsTypeFault (pieces tree) f
    → Stops (program_in source) (stop_of (kind_of_type_fault f) (byte_of_piece source tokens (first_tokens spelled.derived) (piece_named f)))
type_refused source tokens tree type.NoMemory le lexes spelled is = tt
type_refused source tokens tree (type.BadNumber at) le lexes spelled is = fails _ (unchecked tokens tree (type.BadNumber at) le lexes spelled is refl refl) refl
type_refused source tokens tree (type.TooManyVars at) le lexes spelled is = fails _ (unchecked tokens tree (type.TooManyVars at) le lexes spelled is refl refl) refl
type_refused source tokens tree (type.TooManyEvents at) le lexes spelled is = fails _ (unchecked tokens tree (type.TooManyEvents at) le lexes spelled is refl refl) refl
type_refused source tokens tree (type.TooManyTasks at) le lexes spelled is = fails _ (unchecked tokens tree (type.TooManyTasks at) le lexes spelled is refl refl) refl
type_refused source tokens tree (type.TooManyVersions at) le lexes spelled is = fails _ (unchecked tokens tree (type.TooManyVersions at) le lexes spelled is refl refl) refl
type_refused source tokens tree (type.Twice at) le lexes spelled is = fails _ (unchecked tokens tree (type.Twice at) le lexes spelled is refl refl) refl
type_refused source tokens tree (type.Unknown at) le lexes spelled is = fails _ (unchecked tokens tree (type.Unknown at) le lexes spelled is refl refl) refl
type_refused source tokens tree (type.WrongType at) le lexes spelled is = fails _ (unchecked tokens tree (type.WrongType at) le lexes spelled is refl refl) refl
type_refused source tokens tree (type.WhileInEvent at) le lexes spelled is = fails _ (unchecked tokens tree (type.WhileInEvent at) le lexes spelled is refl refl) refl
type_refused source tokens tree (type.RepeatInTask at) le lexes spelled is = fails _ (unchecked tokens tree (type.RepeatInTask at) le lexes spelled is refl refl) refl
type_refused source tokens tree (type.PayloadInTask at) le lexes spelled is = fails _ (unchecked tokens tree (type.PayloadInTask at) le lexes spelled is refl refl) refl
type_refused source tokens tree (type.DeadlineTooLong at) le lexes spelled is = fails _ (unchecked tokens tree (type.DeadlineTooLong at) le lexes spelled is refl refl) refl
type_refused source tokens tree (type.DegradeTooOften at) le lexes spelled is = fails _ (unchecked tokens tree (type.DegradeTooOften at) le lexes spelled is refl refl) refl
type_refused source tokens tree (type.StackTooDeep at) le lexes spelled is = fails _ (unchecked tokens tree (type.StackTooDeep at) le lexes spelled is refl refl) refl
type_refused source tokens tree (type.HandlerTooLong at) le lexes spelled is = fails _ (unchecked tokens tree (type.HandlerTooLong at) le lexes spelled is refl refl) refl
type_refused source tokens tree (type.CodeTooLong at) le lexes spelled is = fails _ (unchecked tokens tree (type.CodeTooLong at) le lexes spelled is refl refl) refl
