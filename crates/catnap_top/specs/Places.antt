-- Which byte of a source is named for what it is refused for. The layers below name a byte, a token or a piece by its
-- number; where memory ran out nothing is named, and the number is 0.
use Rattle.std.specs.Prelude.{ℕ, List, length, map, get_or}
use Rattle.cat_tokens.specs.declared.token.Token.{Token}
use Rattle.cat_tokens.specs.declared.lexer.LexFault.{LexFault}
use Rattle.cat_tokens.specs.declared.lexer.LexFault.TheVariants as token
use Rattle.cat_syntax.specs.declared.fault.SyntaxFault.{SyntaxFault}
use Rattle.cat_syntax.specs.declared.fault.SyntaxFault.TheVariants as syntax
use Rattle.cat_conditions.specs.declared.fault.TypeFault.{TypeFault}
use Rattle.cat_conditions.specs.declared.fault.TypeFault.TheVariants as type

-- ---- what a layer names

abbrev pub byte_named : LexFault → ℕ
byte_named token.NoMemory = 0
byte_named (token.BadByte number) = number
byte_named (token.IntTooLarge number) = number
byte_named (token.NameTooLong number) = number

abbrev pub token_named : SyntaxFault → ℕ
token_named syntax.NoMemory = 0
token_named (syntax.TooDeep number) = number
token_named (syntax.Syntax number) = number

abbrev pub piece_named : TypeFault → ℕ
piece_named type.NoMemory = 0
piece_named (type.BadNumber number) = number
piece_named (type.TooManyVars number) = number
piece_named (type.TooManyEvents number) = number
piece_named (type.TooManyTasks number) = number
piece_named (type.TooManyVersions number) = number
piece_named (type.Twice number) = number
piece_named (type.Unknown number) = number
piece_named (type.WrongType number) = number
piece_named (type.WhileInEvent number) = number
piece_named (type.RepeatInTask number) = number
piece_named (type.PayloadInTask number) = number
piece_named (type.DeadlineTooLong number) = number
piece_named (type.DegradeTooOften number) = number
piece_named (type.StackTooDeep number) = number
piece_named (type.HandlerTooLong number) = number
piece_named (type.CodeTooLong number) = number

-- ---- and where that stands in the source

-- the first byte of the token with this number; the length of the source behind the last token
abbrev pub byte_of_token : List ℕ → List Token → ℕ → ℕ
byte_of_token source tokens number = get_or (map (λ t. t.from) tokens) number (length source)

-- the first byte of the piece with this number, where these are the first tokens of the pieces
abbrev pub byte_of_piece : List ℕ → List Token → List ℕ → ℕ → ℕ
byte_of_piece source tokens starts number = get_or (map (byte_of_token source tokens) starts) number (length source)
