-- The bytes of an object file.
use Rattle.std.specs.Prelude.{◌≡◌, ℕ, ◌<◌, ◌≤◌, ◌^◌, ◌==◌, ◌||◌, min, if◌then◌else◌, Bool, ℤ, List, [], ◌∷◌, ◌++◌, length, map, FitsSigned}
use Rattle.std.specs.List.{All, flat_map}
use Rattle.std.specs.Int.{w16, w32, to_le_bytes, cast_unsigned}
use Rattle.cat_program.specs.declared.syntax.Operator.{Operator}
use Rattle.cat_program.specs.declared.syntax.Operator.TheVariants as o
use Rattle.cat_program.specs.declared.syntax.Sign.{Sign}
use Rattle.cat_program.specs.declared.syntax.Sign.TheVariants as s
use Rattle.cat_machine.specs.declared.instr.Instr.{Instr}
use Rattle.cat_machine.specs.declared.instr.Instr.TheVariants as i
use Rattle.cat_program.specs.Checked.{Checked}
use Rattle.cat_machine.specs.Code.{code_of}
use Rattle.cn_object.specs.declared.object.Object.{Object}
use Rattle.cn_object.specs.declared.parts.Parts.{Parts}

-- ---- instructions

abbrev pub operator_number : Operator → ℕ
operator_number o.Add = 5
operator_number o.Sub = 6
operator_number o.Mul = 7
operator_number o.Div = 8
operator_number o.Rem = 9
operator_number o.Eq = 10
operator_number o.Ne = 11
operator_number o.Lt = 12
operator_number o.Le = 13
operator_number o.Gt = 14
operator_number o.Ge = 15
operator_number o.And = 16
operator_number o.Or = 17

abbrev pub sign_number : Sign → ℕ
sign_number s.Neg = 3
sign_number s.Not = 4

abbrev pub parts : ℕ → ℕ → ℕ → ℕ → Parts
parts number a b c = record { number = number; a = a; b = b; c = c }

-- The number of an instruction, and its operands: a channel or a task is in a, an array's length in b, and a number, a word,
-- a base or a place in c.
abbrev pub parts_of : Instr → Parts
parts_of (i.Push n) = parts 0 0 0 (cast_unsigned w32 n)
parts_of (i.Load w) = parts 1 0 0 w
parts_of i.Payload = parts 2 0 0 0
parts_of (i.Signed sign) = parts (sign_number sign) 0 0 0
parts_of (i.Operate operator) = parts (operator_number operator) 0 0 0
parts_of (i.Jump to) = parts 18 0 0 to
parts_of (i.JumpZero to) = parts 19 0 0 to
parts_of (i.Turn to) = parts 20 0 0 to
parts_of (i.Begin t) = parts 21 t 0 0
parts_of i.End = parts 22 0 0 0
parts_of (i.LoadAt base len) = parts 23 0 len base
parts_of (i.Store w) = parts 24 0 0 w
parts_of (i.StoreAt base len) = parts 25 0 len base
parts_of (i.Post t) = parts 26 t 0 0
parts_of (i.Out c) = parts 27 c 0 0

abbrev pub parts_bytes : Parts → List ℕ
parts_bytes p = p.number ∷ p.a ∷ (to_le_bytes w16 p.b ++ to_le_bytes w32 p.c)

abbrev pub instr_bytes : Instr → List ℕ
instr_bytes i = parts_bytes (parts_of i)

-- ---- the file

abbrev pub word_bytes : ℤ → List ℕ
word_bytes z = to_le_bytes w32 (cast_unsigned w32 z)

-- a task: its started posts, two zeros, and its entry
abbrev pub task_bytes : ℕ → ℕ → List ℕ
task_bytes started entry = to_le_bytes w16 started ++ (0 ∷ 0 ∷ to_le_bytes w32 entry)

abbrev pub tasks_bytes : List ℕ → List ℕ → List ℕ
tasks_bytes [] entries = []
tasks_bytes (n ∷ started) [] = []
tasks_bytes (n ∷ started) (entry ∷ entries) = task_bytes n entry ++ tasks_bytes started entries

-- an event: how many versions it has, three zeros, and the entry of each
abbrev pub event_bytes : List ℕ → List ℕ
event_bytes entries = length entries ∷ 0 ∷ 0 ∷ 0 ∷ flat_map (to_le_bytes w32) entries

-- `CNO1`, and the counts of words, tasks, events and instructions
abbrev pub head_bytes : ℕ → ℕ → ℕ → ℕ → List ℕ
head_bytes words tasks events count = 67 ∷ 78 ∷ 79 ∷ 49 ∷ (to_le_bytes w16 words ++ (tasks ∷ events ∷ to_le_bytes w32 count))

-- a file with these bytes for its instructions
abbrev pub spelled_with : Object → List ℕ → List ℕ
spelled_with o instrs =
    head_bytes (length o.words) (length o.code.tasks) (length o.code.versions) (length o.code.instrs)
    ++ (flat_map word_bytes o.words
    ++ (tasks_bytes o.started o.code.tasks
    ++ (flat_map event_bytes o.code.versions
    ++ instrs)))

abbrev pub spelling : Object → List ℕ
spelling o = spelled_with o (flat_map instr_bytes o.code.instrs)

-- ---- what can be spelled

abbrev pub HasVersions : List ℕ → Type 0
HasVersions entries = (1 ≤ length entries) × (length entries ≤ 4)

-- the limits of a file
pub record IsSmall (o : Object) : Type 0 where
  pub words : length o.words ≤ 1024
  pub tasks : length o.code.tasks ≤ 16
  pub events : length o.code.versions ≤ 16
  pub versions : All HasVersions o.code.versions
  pub count : length o.code.instrs ≤ 60000
  pub started : length o.started ≡ length o.code.tasks

-- an instruction's operands have room
abbrev pub HasRoom : Instr → Type 0
HasRoom (i.Push n) = FitsSigned w32 n
HasRoom (i.Load w) = w < 2 ^ 16
HasRoom (i.Jump to) = to < 2 ^ 32
HasRoom (i.JumpZero to) = to < 2 ^ 32
HasRoom (i.Turn to) = to < 2 ^ 32
HasRoom (i.Begin t) = t < 2 ^ 8
HasRoom (i.LoadAt base len) = (base < 2 ^ 16) × (len < 2 ^ 16)
HasRoom (i.Store w) = w < 2 ^ 16
HasRoom (i.StoreAt base len) = (base < 2 ^ 16) × (len < 2 ^ 16)
HasRoom (i.Post t) = t < 2 ^ 8
HasRoom (i.Out c) = c < 2 ^ 8
HasRoom _ = Unit {0}

abbrev pub IsPlace : ℕ → Type 0
IsPlace place = place < 2 ^ 32

-- every number of the object has room
pub record IsInRange (o : Object) : Type 0 where
  pub words : All (FitsSigned w32) o.words
  pub started : All (λ n. n < 2 ^ 16) o.started
  pub tasks : All IsPlace o.code.tasks
  pub versions : All (All IsPlace) o.code.versions
  pub instrs : All HasRoom o.code.instrs

-- the bytes are the file of an object
pub record IsFileOf (o : Object) (bytes : List ℕ) : Type 0 where
  pub small : IsSmall o
  pub in_range : IsInRange o
  pub spelled : spelling o ≡ bytes

-- ---- words that no object has

-- the instructions of these numbers name a word in c
abbrev pub names_word : ℕ → Bool
names_word number = number == 1 || number == 23 || number == 24 || number == 25

-- In a file a word has 32 bits, and in an instruction 16: one beyond 65,535 is read as word 65,535. No object has either.
abbrev pub cut : Parts → Parts
cut p = if names_word p.number then parts p.number p.a p.b (min p.c 65535) else p

abbrev pub PartsFit : Parts → Type 0
PartsFit p = (p.b < 2 ^ 16) × (p.c < 2 ^ 32)

-- the bytes are spelled like the file of an object, but for words that no object has
pub record IsReadAs (o : Object) (bytes : List ℕ) : Type 0 where
  pub small : IsSmall o
  pub in_range : IsInRange o
  pub spelled_by : List Parts
  pub fit : All PartsFit spelled_by
  pub instrs : map cut spelled_by ≡ map parts_of o.code.instrs
  pub spelled : spelled_with o (flat_map parts_bytes spelled_by) ≡ bytes

-- the object of a program
abbrev pub program_object : Checked → Object
program_object p = record { code = code_of p; words = p.words; started = p.started }
