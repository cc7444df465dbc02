-- The text of a listing.
use Rattle.std.specs.Prelude.{ℕ, ◌==◌, if◌then◌else◌, List, [], ◌∷◌, ◌++◌, length, Option, Some, None, slice_get, slice_index, unwrap_or, codes, decimal}
use Rattle.std.specs.Fmt.{signed_decimal}
use Rattle.cn_base.specs.Texts.{line, in_turn}
use Rattle.cat_program.specs.declared.syntax.Operator.{Operator}
use Rattle.cat_program.specs.declared.syntax.Operator.TheVariants as op
use Rattle.cat_program.specs.declared.syntax.Sign.{Sign}
use Rattle.cat_program.specs.declared.syntax.Sign.TheVariants.{Neg, Not}
use Rattle.cat_program.specs.declared.headers.Event.{Event}
use Rattle.cat_program.specs.Checked.{Checked}
use Rattle.cat_machine.specs.declared.instr.Instr.{Instr}
use Rattle.cat_machine.specs.declared.instr.Instr.TheVariants as i
use Rattle.cat_machine.specs.CodeValue.{CodeValue, versions_at}

abbrev pub sign_word : Sign → List ℕ
sign_word Neg = codes "neg"
sign_word Not = codes "not"

abbrev pub operator_word : Operator → List ℕ
operator_word op.Add = codes "add"
operator_word op.Sub = codes "sub"
operator_word op.Mul = codes "mul"
operator_word op.Div = codes "div"
operator_word op.Rem = codes "rem"
operator_word op.Eq = codes "eq"
operator_word op.Ne = codes "ne"
operator_word op.Lt = codes "lt"
operator_word op.Le = codes "le"
operator_word op.Gt = codes "gt"
operator_word op.Ge = codes "ge"
operator_word op.And = codes "and"
operator_word op.Or = codes "or"

-- an instruction's name and its numbers: those of a jump are the place to which it goes
abbrev pub instr_words : Instr → List (List ℕ)
instr_words (i.Push n) = codes "push" ∷ signed_decimal n ∷ []
instr_words (i.Load word) = codes "load" ∷ decimal word ∷ []
instr_words i.Payload = codes "payload" ∷ []
instr_words (i.Signed sign) = sign_word sign ∷ []
instr_words (i.Operate operator) = operator_word operator ∷ []
instr_words (i.Jump to) = codes "jump" ∷ decimal to ∷ []
instr_words (i.JumpZero to) = codes "jumpzero" ∷ decimal to ∷ []
instr_words (i.Turn to) = codes "turn" ∷ decimal to ∷ []
instr_words (i.Begin task) = codes "begin" ∷ decimal task ∷ []
instr_words i.End = codes "end" ∷ []
instr_words (i.LoadAt base len) = codes "loadat" ∷ decimal base ∷ decimal len ∷ []
instr_words (i.Store word) = codes "store" ∷ decimal word ∷ []
instr_words (i.StoreAt base len) = codes "storeat" ∷ decimal base ∷ decimal len ∷ []
instr_words (i.Post task) = codes "post" ∷ decimal task ∷ []
instr_words (i.Out channel) = codes "out" ∷ decimal channel ∷ []

abbrev pub instr_line : ℕ → Instr → List ℕ
instr_line pc instr = line (decimal pc ∷ instr_words instr)

abbrev pub task_line : List ℕ → ℕ → List ℕ
task_line name pc = line (codes "task" ∷ name ∷ decimal pc ∷ [])

abbrev pub version_line : List ℕ → ℕ → ℕ → List ℕ
version_line name version pc = line (codes "event" ∷ name ∷ decimal version ∷ decimal pc ∷ [])

-- a header, at the place where the code that it heads begins
abbrev pub heads : ℕ → ℕ → List ℕ → List ℕ
heads entry pc header = if entry == pc then header else []

abbrev pub name_of : Option Event → List ℕ
name_of None = []
name_of (Some event) = event.name

abbrev pub task_header : Checked → CodeValue → ℕ → ℕ → List ℕ
task_header p code pc t = heads (slice_index code.tasks t) pc (task_line (unwrap_or (slice_get p.names t) []) pc)

abbrev pub version_header : Checked → CodeValue → ℕ → ℕ → ℕ → List ℕ
version_header p code pc e v = heads (slice_index (versions_at code e) v) pc (version_line (name_of (slice_get p.headers e)) v pc)

-- the headers of the versions of an event
abbrev pub event_headers : Checked → CodeValue → ℕ → ℕ → List ℕ
event_headers p code pc e = in_turn (version_header p code pc e) (length (versions_at code e))

abbrev pub line_at : ℕ → Option Instr → List ℕ
line_at pc None = []
line_at pc (Some instr) = instr_line pc instr

-- the lines of a place: the header of what begins there, and its instruction
abbrev pub place_lines : Checked → CodeValue → ℕ → List ℕ
place_lines p code pc =
    in_turn (task_header p code pc) (length code.tasks)
    ++ (in_turn (event_headers p code pc) (length code.versions) ++ line_at pc (slice_get code.instrs pc))

-- the lines of all places, in order
abbrev pub listing_text : Checked → CodeValue → List ℕ
listing_text p code = in_turn (place_lines p code) (length code.instrs)
