-- Lists of statements, and states and steps of the tasks, that differ at most in where expressions lie in memory.
use Rattle.std.specs.Prelude.{◌≡◌, ℕ, Option, Some, None}
use Rattle.cat_program.specs.declared.syntax.Expr.{Expr}
use Rattle.cat_program.specs.Body.{Simple, SetWord, SetElement, Emit, Raise, Body, Empty, Plain, When, Choice, Loop, Turns}
use Rattle.cat_program.specs.Meaning.{TaskState, TaskStep}
use Rattle.cat_resolve.specs.Form.{form}

pub data SimpleIsLike : Simple → Simple → Type 0 where
  sets : {v w : ℕ} {e f : Expr} → v ≡ w → form e ≡ form f → SimpleIsLike (SetWord v e) (SetWord w f)
  sets_at : {a b m n : ℕ} {i j e f : Expr} → a ≡ b → m ≡ n → form i ≡ form j → form e ≡ form f → SimpleIsLike (SetElement a m i e) (SetElement b n j f)
  emits : {c d : ℕ} {e f : Expr} → c ≡ d → form e ≡ form f → SimpleIsLike (Emit c e) (Emit d f)
  raises : {t u : ℕ} → t ≡ u → SimpleIsLike (Raise t) (Raise u)

-- Statements at the same places, with the same texts.
pub data IsLike : Body → Body → Type 0 where
  ends : IsLike Empty Empty
  simple : {b p : ℕ} {s t : Simple} {k l : Body} → SimpleIsLike s t → IsLike k l → IsLike (Plain b p s k) (Plain b p t l)
  when : {b p : ℕ} {e f : Expr} {m n k l : Body} → form e ≡ form f → IsLike m n → IsLike k l → IsLike (When b p e m k) (When b p f n l)
  choice : {b p : ℕ} {e f : Expr} {m n x y k l : Body} → form e ≡ form f → IsLike m n → IsLike x y → IsLike k l → IsLike (Choice b p e m x k) (Choice b p f n y l)
  loop : {b p : ℕ} {e f : Expr} {m n k l : Body} → form e ≡ form f → IsLike m n → IsLike k l → IsLike (Loop b p e m k) (Loop b p f n l)
  turns : {b p c d : ℕ} {m n k l : Body} → c ≡ d → IsLike m n → IsLike k l → IsLike (Turns b p c m k) (Turns b p d n l)

-- both lists are current, or none is
pub data ListIsLike : Option Body → Option Body → Type 0 where
  neither : ListIsLike None None
  both : {k l : Body} → IsLike k l → ListIsLike (Some k) (Some l)

pub record StateIsLike (s t : TaskState) : Type 0 where
  pub store : s.store ≡ t.store
  pub current : ListIsLike s.current t.current

-- both steps answer the same and lead to states that are alike, or there is neither
pub data StepIsLike : Option TaskStep → Option TaskStep → Type 0 where
  no_step : StepIsLike None None
  step : {a b : TaskStep} → a.answer ≡ b.answer → StateIsLike a.after b.after → StepIsLike (Some a) (Some b)
