-- The kinds for which a source is refused, and the fault line: the kind, and the byte that is named for it.
use Rattle.std.specs.Prelude.{ℕ, List, [], ◌∷◌, Option, Some, None, codes, decimal}
use Rattle.cat_tokens.specs.declared.lexer.LexFault.{LexFault}
use Rattle.cat_tokens.specs.declared.lexer.LexFault.TheVariants as token
use Rattle.cat_syntax.specs.declared.fault.SyntaxFault.{SyntaxFault}
use Rattle.cat_syntax.specs.declared.fault.SyntaxFault.TheVariants as syntax
use Rattle.cat_conditions.specs.declared.fault.TypeFault.{TypeFault}
use Rattle.cat_conditions.specs.declared.fault.TypeFault.TheVariants as type
use Rattle.catnap_top.specs.declared.refusal.SourceFault.{SourceFault}
use Rattle.catnap_top.specs.declared.refusal.SourceKind.{SourceKind}
use Rattle.catnap_top.specs.declared.refusal.SourceKind.TheVariants as kind
use Rattle.catnap_top.specs.declared.status.Status.TheVariants.{BadSource}
use Rattle.catnap_top.specs.Answer.{Answer, line}

abbrev pub kind_name : SourceKind → List ℕ
kind_name kind.TooLong = codes "TooLong"
kind_name kind.BadByte = codes "BadByte"
kind_name kind.IntTooLarge = codes "IntTooLarge"
kind_name kind.NameTooLong = codes "NameTooLong"
kind_name kind.TooDeep = codes "TooDeep"
kind_name kind.Syntax = codes "Syntax"
kind_name kind.BadNumber = codes "BadNumber"
kind_name kind.TooManyVars = codes "TooManyVars"
kind_name kind.TooManyEvents = codes "TooManyEvents"
kind_name kind.TooManyTasks = codes "TooManyTasks"
kind_name kind.TooManyVersions = codes "TooManyVersions"
kind_name kind.Twice = codes "Twice"
kind_name kind.Unknown = codes "Unknown"
kind_name kind.WrongType = codes "WrongType"
kind_name kind.WhileInEvent = codes "WhileInEvent"
kind_name kind.RepeatInTask = codes "RepeatInTask"
kind_name kind.PayloadInTask = codes "PayloadInTask"
kind_name kind.DeadlineTooLong = codes "DeadlineTooLong"
kind_name kind.DegradeTooOften = codes "DegradeTooOften"
kind_name kind.StackTooDeep = codes "StackTooDeep"
kind_name kind.HandlerTooLong = codes "HandlerTooLong"
kind_name kind.CodeTooLong = codes "CodeTooLong"

abbrev pub refused : SourceFault → Answer
refused fault = record {
  status = BadSource;
  text = line (codes "fault source " ∷ kind_name fault.kind ∷ codes " " ∷ decimal fault.place ∷ codes "\n" ∷ []);
}

-- want of memory is no fault of the source
abbrev pub kind_of_token_fault : LexFault → Option SourceKind
kind_of_token_fault token.NoMemory = None
kind_of_token_fault (token.BadByte at) = Some kind.BadByte
kind_of_token_fault (token.IntTooLarge at) = Some kind.IntTooLarge
kind_of_token_fault (token.NameTooLong at) = Some kind.NameTooLong

abbrev pub kind_of_syntax_fault : SyntaxFault → Option SourceKind
kind_of_syntax_fault syntax.NoMemory = None
kind_of_syntax_fault (syntax.TooDeep at) = Some kind.TooDeep
kind_of_syntax_fault (syntax.Syntax at) = Some kind.Syntax

abbrev pub kind_of_type_fault : TypeFault → Option SourceKind
kind_of_type_fault type.NoMemory = None
kind_of_type_fault (type.BadNumber at) = Some kind.BadNumber
kind_of_type_fault (type.TooManyVars at) = Some kind.TooManyVars
kind_of_type_fault (type.TooManyEvents at) = Some kind.TooManyEvents
kind_of_type_fault (type.TooManyTasks at) = Some kind.TooManyTasks
kind_of_type_fault (type.TooManyVersions at) = Some kind.TooManyVersions
kind_of_type_fault (type.Twice at) = Some kind.Twice
kind_of_type_fault (type.Unknown at) = Some kind.Unknown
kind_of_type_fault (type.WrongType at) = Some kind.WrongType
kind_of_type_fault (type.WhileInEvent at) = Some kind.WhileInEvent
kind_of_type_fault (type.RepeatInTask at) = Some kind.RepeatInTask
kind_of_type_fault (type.PayloadInTask at) = Some kind.PayloadInTask
kind_of_type_fault (type.DeadlineTooLong at) = Some kind.DeadlineTooLong
kind_of_type_fault (type.DegradeTooOften at) = Some kind.DegradeTooOften
kind_of_type_fault (type.StackTooDeep at) = Some kind.StackTooDeep
kind_of_type_fault (type.HandlerTooLong at) = Some kind.HandlerTooLong
kind_of_type_fault (type.CodeTooLong at) = Some kind.CodeTooLong
