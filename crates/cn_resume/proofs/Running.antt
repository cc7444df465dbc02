-- How the run of what was logged ends, and what the slot says.
use Rattle.std.proofs.Common.{◌≡◌, ◌≢◌, ◌≤◌, ℕ, ℤ, List, [], ◌∷◌, length, Option, Some, None, refl, sym, ap, ◌∙◌, subst, arith, inl, inr}
use Rattle.std.specs.Option.{option_and_then}
use Rattle.cat_program.specs.declared.outs.LogEntry.{LogEntry}
use Rattle.cat_program.specs.declared.outs.LogEntry.TheVariants.{Out, Ran}
use Rattle.cat_program.specs.Body.{Body}
use Rattle.cat_program.specs.Meaning.{TaskState}
use Rattle.cat_program.specs.Checked.{Checked, body_at, rest_at}
use Rattle.cat_program.specs.Resting.{RestsAt}
use Rattle.cat_eval.specs.Cursor.{state_of}
use Rattle.cat_eval.specs.StateValue.{StateValue}
use Rattle.checkpoint_slots.specs.declared.slot.Slot.{Slot}
use Rattle.checkpoint_slots.specs.Slot.{variables_of}
use Rattle.reference_run.specs.declared.schedule.Schedule.{Schedule}
use Rattle.reference_run.specs.Reference.{Setting, Moment, IsReference, IsEnd, HasFault}
use Rattle.logged_runs.specs.Own.{items_in, schedule_of}
use Rattle.cn_resume.specs.declared.fault.ImageFault.TheVariants.{BadImage}
use Rattle.cn_resume.specs.declared.fault.ImageKind.TheVariants as kind
use Rattle.cn_resume.specs.Fit.{PartsAt}
use Rattle.cn_resume.specs.Stages.{RunFault, NoRun, OtherEnd, said_moment, said_state}
use Rattle.cn_resume.proofs.Upto.{steps_upto}

-- what a place stands for is one
pub current_is : (program : Checked) (pc : Option ℕ) (current : Option Body) → RestsAt program pc current → current ≡ option_and_then (rest_at program) pc
current_is program None None rests = refl
current_is program (Some pc) (Some k) rests = sym rests
current_is program None (Some k) rests = absurd rests
current_is program (Some pc) None rests = absurd rests

-- no more items than entries
pub items_few : (es : List LogEntry) → length (items_in es) ≤ length es
items_few [] = omega arith
items_few (Out channel value ∷ es) = let later = items_few es in omega (arith, later)
items_few (Ran event version steps start index ∷ es) = let later = items_few es in omega (arith, later)

abbrev moment : TaskState → ℕ → List LogEntry → Moment
moment state steps entries = record { state = state; steps = steps; entries = entries }

moment_same : (a b : TaskState) (m n : ℕ) (xs ys : List LogEntry) → a ≡ b → m ≡ n → xs ≡ ys → moment a m xs ≡ moment b n ys
moment_same a b m n xs ys first second third =
    ap (λ (s : TaskState). moment s m xs) first ∙ ap (λ (k : ℕ). moment b k xs) second ∙ ap (λ (l : List LogEntry). moment b n l) third

module _ (s : Setting) (slot : Slot) (entries : List LogEntry) (current : Option Body) where
  abbrev Said : Moment
  Said = said_moment slot entries current

  abbrev Told : Schedule
  Told = schedule_of entries slot.steps

  -- it ends as the slot says
  run_is : (end : Moment) → IsReference s Told end → end.entries ≡ entries → end.state ≡ Said.state → IsReference s Told Said
  run_is end is es state =
      let steps : end.steps ≡ slot.steps = steps_upto (body_at s.program) slot.steps is.begun end is.total in
      subst (IsReference s Told) (moment_same end.state Said.state end.steps slot.steps end.entries entries state steps es) is

  -- it ends with other entries
  other_entries : (end : Moment) (at : ℕ) → IsReference s Told end → PartsAt end.entries entries at → RunFault s Told Said (BadImage kind.State at)
  other_entries end at is parts = OtherEnd at end is (inl parts)

  -- it ends in another state
  other_state : (end : Moment) → IsReference s Told end → end.entries ≡ entries → end.state ≢ Said.state → RunFault s Told Said (BadImage kind.State (length entries))
  other_state end is es differ = OtherEnd (length entries) end is (inr (es, differ, refl))

  -- what was found out about it
  module _ (schedule : Schedule) (told : schedule ≡ Told) where
    pub no_run : (at : ℕ) → HasFault s schedule at → RunFault s Told Said (BadImage kind.Schedule at)
    no_run at bad = NoRun at (subst (λ (x : Schedule). HasFault s x at) told bad)

    module _ (state : StateValue) (es : List LogEntry) (is : IsEnd s schedule state es) where
      run : IsReference s Told is.end
      run = subst (λ (x : Schedule). IsReference s x is.end) told is.run

      pub entries_differ : (at : ℕ) → PartsAt es entries at → RunFault s Told Said (BadImage kind.State at)
      entries_differ at parts = other_entries is.end at run (subst (λ (l : List LogEntry). PartsAt l entries at) is.entries_are parts)

      pub ends_so : es ≡ entries → state_of s.program state ≡ said_state slot current → IsReference s Told Said
      ends_so same alike = run_is is.end run (sym is.entries_are ∙ same) (sym is.state_is ∙ alike)

      pub state_differs : es ≡ entries → state_of s.program state ≢ said_state slot current → RunFault s Told Said (BadImage kind.State (length entries))
      state_differs same differ = other_state is.end run (sym is.entries_are ∙ same) (λ alike. differ (is.state_is ∙ alike))

abbrev state_with : List ℤ → List ℕ → Option Body → TaskState
state_with words posts list = record { store = record { words = words; posts = posts }; current = list }

-- a state is the one that the slot tells where words, posts and list are
module _ (slot : Slot) (current : Option Body) (s : TaskState) where
  pub state_is : s.store.words ≡ variables_of slot → s.store.posts ≡ slot.posts → s.current ≡ current → s ≡ said_state slot current
  state_is words posts list =
      ap (λ (w : List ℤ). state_with w s.store.posts s.current) words
      ∙ ap (λ (q : List ℕ). state_with (variables_of slot) q s.current) posts
      ∙ ap (λ (k : Option Body). state_with (variables_of slot) slot.posts k) list

  pub list_told : (p : Checked) → RestsAt p slot.pc current → RestsAt p slot.pc s.current → s.current ≡ current
  list_told p rests own = current_is p slot.pc s.current own ∙ sym (current_is p slot.pc current rests)
