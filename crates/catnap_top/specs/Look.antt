-- A command is a chain of looks at what was read. Each look finds something or has a fault, and the first fault ends the chain:
-- so the order of a chain's looks is the order of its refusals.
use Rattle.std.specs.Prelude.{◌≡◌, Result, Ok, Err, MatchResult}
use Rattle.catnap_top.specs.declared.fault.Fault.{Fault}
use Rattle.catnap_top.specs.declared.stop.Stop.{Stop}
use Rattle.catnap_top.specs.declared.stop.Stop.TheVariants.{NoMemory, Refused}
use Rattle.catnap_top.specs.Answer.{Answer}
use Rattle.catnap_top.specs.Faults.{fault_answer}

-- what a look may come to
abbrev pub Look : Type 0 → Type 1
Look A = Result A Fault → Type 0

-- a look, and then another at what it found
pub data Then {A B : Type 0} (first : Look A) (next : A → Look B) (came : Result B Fault) : Type 0 where
  stops : (why : Fault) → first (Err why) → came ≡ Err why → Then first next came
  goes : (x : A) → first (Ok x) → next x came → Then first next came

infixl 10 ◌>>=◌
abbrev pub ◌>>=◌ : {A B : Type 0} → Look A → (A → Look B) → Look B
first >>= next = Then first next

-- there is no more to look at
abbrev pub found : {A : Type 0} → A → Look A
found x came = came ≡ Ok x

-- a look by the rules of one kind of file, whose faults have kinds of their own
pub data By {A K : Type 0} (fault_of : K → Fault) (rules : Result A K → Type 0) (came : Result A Fault) : Type 0 where
  fits : (x : A) → rules (Ok x) → came ≡ Ok x → By fault_of rules came
  fails : (kind : K) → rules (Err kind) → came ≡ Err (fault_of kind) → By fault_of rules came

-- a look that has no fault: it finds what fits
pub record Finding {A : Type 0} (rules : A → Type 0) (came : Result A Fault) : Type 0 where
  pub x : A
  pub holds : rules x
  pub came_is : came ≡ Ok x

-- ---- what is answered

abbrev pub answer_of : Result Answer Fault → Answer
answer_of (Ok answer) = answer
answer_of (Err why) = fault_answer why

-- the answer that a command's looks come to
pub record ComesTo (look : Look Answer) (due : Answer) : Type 0 where
  pub came : Result Answer Fault
  pub is : look came
  pub due_is : due ≡ answer_of came

-- ---- what the code says of a look

-- a call ended early: by the look's fault, or for want of memory
abbrev pub Stops : {A : Type 0} → Look A → Stop → Type 0
Stops look (Refused why) = look (Err why)
Stops look NoMemory = Unit {0}

-- a call did a look, and what it returned stands for what the look finds
abbrev pub LooksAs : {A B : Type 0} → (A → B) → Look B → Result A Stop → Type 0
LooksAs stands_for look result = MatchResult result (λ x. look (Ok (stands_for x))) (λ stop. Stops look stop)

abbrev pub Looks : {A : Type 0} → Look A → Result A Stop → Type 0
Looks look result = LooksAs (λ x. x) look result
