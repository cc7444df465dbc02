-- What comes of operations that are asked of a board with known rules.
use Rattle.std.proofs.Common.{◌≡◌, inl, inr, ℕ, ◌<◌, ◌≤◌, Bool, true, false, List, [], ◌∷◌, Option, Some, None, refl, sym, ap, ap₂, ◌∙◌, subst, arith}
use Rattle.std.specs.Prelude.{nat_lt, if◌then◌else◌}
use Rattle.std.proofs.lemmas.Bool.Decides.{nat_tests}
use Rattle.nv_memory.specs.declared.board.Answer.{Answer}
use Rattle.nv_memory.specs.declared.board.Answer.TheVariants as answer
use Rattle.nv_memory.specs.Board.{State, Steps}
use Rattle.board_core.specs.declared.origin.ModelOrigin.{ModelOrigin}
use Rattle.board_core.specs.Laws.{IsLater, IsRuled, RulesDecide}
use Rattle.board_core.specs.Reached.{IsReached}
use Rattle.board_core.specs.Rules.{model_answer, model_next}
use Rattle.cn_scheduler.specs.declared.engine.Chunk.{Chunk}
use Rattle.cn_scheduler.specs.declared.engine.Chunk.TheVariants.{Ended, Dropped, Lost, Over, Full}
use Rattle.cn_scheduler.specs.Asked.{Ask, Asked, Goes, HasRoom, Limits, Stops}
use Rattle.cn_scheduler.specs.Steps.{chunk_of}
use Rattle.one_timeline.proofs.Later.{later_asked, later_on}

less : (a b : ℕ) → a < b → nat_lt a b ≡ true
less a b h = grind (arith, nat_tests)

not_less : (a b : ℕ) → b ≤ a → nat_lt a b ≡ false
not_less a b h = grind (arith, nat_tests)

-- what comes of some operations, and the board behind them
pub record Came : Type 0 where
  pub outcome : Chunk
  pub board : State

abbrev came_to : Chunk → State → Came
came_to outcome board = record { outcome = outcome; board = board }

abbrev fits_in : ℕ → Option ℕ → Bool
fits_in size None = true
fits_in size (Some place) = nat_lt place size

abbrev asking : ModelOrigin → State → Ask → Came
asking o s a = came_to (chunk_of (model_answer o s a.op)) (model_next o s a.op)

abbrev within : ModelOrigin → State → Ask → Bool → Came
within o s a fits = if fits then asking o s a else came_to Full s

abbrev above : ModelOrigin → Limits → State → Ask → Bool → Came
above o l s a low = if low then came_to Dropped s else within o s a (fits_in l.size a.place)

-- one operation
abbrev turn : ModelOrigin → Limits → State → Ask → Came
turn o l s a = above o l s a (nat_lt s.stored (l.floor s.tick))

abbrev going_on : (State → Came) → Chunk → State → Came
going_on f Ended t = f t
going_on f Dropped t = came_to Dropped t
going_on f Lost t = came_to Lost t
going_on f Over t = came_to Over t
going_on f Full t = came_to Full t

abbrev going : (State → Came) → Came → Came
going f came = going_on f came.outcome came.board

-- operations in turn
abbrev pub coming : ModelOrigin → Limits → List Ask → State → Came
coming o l [] s = came_to Ended s
coming o l (a ∷ asks) s = going (coming o l asks) (turn o l s a)

fits_true : (size : ℕ) (place : Option ℕ) → HasRoom size place → fits_in size place ≡ true
fits_true size None room = refl
fits_true size (Some place) room = less place size room

fits_false : (size : ℕ) (place : Option ℕ) → ¬ (HasRoom size place) → fits_in size place ≡ false
fits_false size None full = absurd (full tt)
fits_false size (Some place) full = not_less place size (grind (arith, full))

-- from the state a run goes on to one to which the rules lead
pub record IsPassed (o : ModelOrigin) (s : State) : Type 0 where
  pub last : State
  pub later : IsLater s last
  pub reached : IsReached o last

-- what comes of an operation
record IsTurn (o : ModelOrigin) (l : Limits) (s : State) (a : Ask) (outcome : Chunk) (t : State) : Type 0 where
  pub is : turn o l s a ≡ came_to outcome t
  pub reached : IsReached o t

-- and of some of them
pub record IsComing (o : ModelOrigin) (l : Limits) (asks : List Ask) (s : State) (outcome : Chunk) (t : State) : Type 0 where
  pub is : coming o l asks s ≡ came_to outcome t
  pub reached : IsReached o t

module _ (o : ModelOrigin) (rules : RulesDecide o) (l : Limits) where
  by_rules : (s t : State) (a : Ask) (answer : Answer) → IsReached o s → IsPassed o t → Steps s a.op answer t → IsRuled o s a.op answer t
  by_rules s t a answer here passed step = rules.step s t passed.last a.op answer here step passed.later passed.reached

  turn_above : (s : State) (a : Ask) (came : Came) → l.floor s.tick ≤ s.stored → HasRoom l.size a.place → asking o s a ≡ came → turn o l s a ≡ came
  turn_above s a came high room is =
      ap (above o l s a) (not_less s.stored (l.floor s.tick) high) ∙ ap (within o s a) (fits_true l.size a.place room) ∙ is

  asked_by : (s t : State) (a : Ask) (answer : Answer) → IsRuled o s a.op answer t → asking o s a ≡ came_to (chunk_of answer) t
  asked_by s t a answer ruled = sym (ap₂ came_to (ap chunk_of ruled.answer_is) ruled.next_is)

  stopped : (s t : State) (a : Ask) (outcome : Chunk) → IsReached o s → IsPassed o t → Stops l s a outcome t → IsTurn o l s a outcome t
  stopped s t a Ended here passed stops = absurd stops
  stopped s t a Dropped here passed stops = record {
    is = ap (above o l s a) (less s.stored (l.floor s.tick) stops.0) ∙ ap (came_to Dropped) (sym stops.1);
    reached = subst (IsReached o) (sym stops.1) here;
  }
  stopped s t a Full here passed stops = record {
    is = ap (above o l s a) (not_less s.stored (l.floor s.tick) stops.0) ∙ ap (within o s a) (fits_false l.size a.place stops.1) ∙ ap (came_to Full) (sym stops.2);
    reached = subst (IsReached o) (sym stops.2) here;
  }
  stopped s t a Lost here passed stops =
      let ruled = by_rules s t a answer.Lost here passed stops.2 in
      record { is = turn_above s a (came_to Lost t) stops.0 stops.1 (asked_by s t a answer.Lost ruled); reached = ruled.reached }
  stopped s t a Over here passed stops =
      let ruled = by_rules s t a answer.Over here passed stops.2 in
      record { is = turn_above s a (came_to Over t) stops.0 stops.1 (asked_by s t a answer.Over ruled); reached = ruled.reached }

  went : (s t : State) (a : Ask) → IsReached o s → IsPassed o t → Goes l s a t → IsTurn o l s a Ended t
  went s t a here passed goes =
      let ruled = by_rules s t a answer.Done here passed goes.done in
      record { is = turn_above s a (came_to Ended t) goes.above goes.room (asked_by s t a answer.Done ruled); reached = ruled.reached }

  stays : (asks : List Ask) (outcome : Chunk) (s t u : State) (a : Ask) → Stops l s a outcome u → going (coming o l asks) (came_to outcome t) ≡ came_to outcome t
  stays asks Ended s t u a stops = absurd stops
  stays asks Dropped s t u a stops = refl
  stays asks Lost s t u a stops = refl
  stays asks Over s t u a stops = refl
  stays asks Full s t u a stops = refl

  pub asked_comes : (asks : List Ask) (s t : State) (outcome : Chunk) → IsReached o s → IsPassed o t → Asked l s asks outcome t → IsComing o l asks s outcome t
  asked_comes [] s t Ended here passed asked = record { is = ap (came_to Ended) (sym asked); reached = subst (IsReached o) (sym asked) here }
  asked_comes [] s t Dropped here passed asked = absurd asked
  asked_comes [] s t Lost here passed asked = absurd asked
  asked_comes [] s t Over here passed asked = absurd asked
  asked_comes [] s t Full here passed asked = absurd asked
  asked_comes (a ∷ asks) s t outcome here passed (inl stops) =
      let first = stopped s t a outcome here passed stops in
      record { is = ap (going (coming o l asks)) first.is ∙ stays asks outcome s t t a stops; reached = first.reached }
  asked_comes (a ∷ asks) s t outcome here passed (inr goes) =
      let mid = goes.0 in
      let between : IsPassed o mid = record { last = passed.last; later = later_on mid t passed.last (later_asked l asks mid t outcome goes.2) passed.later; reached = passed.reached } in
      let first = went s mid a here between goes.1 in
      let rest = asked_comes asks mid t outcome first.reached passed goes.2 in
      record { is = ap (going (coming o l asks)) first.is ∙ rest.is; reached = rest.reached }
