-- No section reads the payload.
use Rattle.std.proofs.Common.{◌≡◌, ℕ, zero, suc, ◌+◌, ◌<◌, Bool, true, false, List, [], ◌∷◌, length, Option, Some, None, refl, ap, ◌∙◌, subst, arith}
use Rattle.std.specs.Prelude.{nat_lt, ℤ, slice_get, slice_set, if◌then◌else◌, unwrap_or}
use Rattle.std.proofs.lemmas.Option.{slice_get_within}
use Rattle.cat_program.specs.Body.{Body}
use Rattle.cat_program.specs.Value.{index_of, word_at, signed_value, operator_value, is_nought}
use Rattle.cat_program.specs.Meaning.{Output, raised, lowered, first_posted}
use Rattle.cat_program.specs.Places.{tasks_size}
use Rattle.cat_program.specs.Checked.{Checked, program_marks, bodies_of}
use Rattle.cat_machine.specs.declared.instr.Instr.{Instr}
use Rattle.cat_machine.specs.declared.instr.Instr.TheVariants as i
use Rattle.cat_machine.specs.declared.instr.Mode.TheVariants.{Task}
use Rattle.cat_machine.specs.declared.instr.Did.{Did}
use Rattle.cat_machine.specs.declared.instr.Did.TheVariants.{Went, Acted, Ended, Emitted}
use Rattle.cat_machine.specs.CodeValue.{CodeValue}
use Rattle.cat_machine.specs.Held.{Held}
use Rattle.cat_machine.specs.Code.{code_of}
use Rattle.cat_machine.specs.Machine.{Stepping, Ended', moved, stored, if_so, went, acted, on_top, on_two, is_array, ended, act, entry_of, place_or, next_of, fetched, step_at, goes_on, prepended, follow, after_step, until}
use Rattle.cat_program.specs.Resting.{StandsFor}
use Rattle.cat_machine.specs.Fits.{IsIdle}
use Rattle.cat_machine.specs.Unread.{with_payload, SectionsReadNoPayload}
use Rattle.cat_machine.proofs.Keeps.{AllSome, if_all, top_all, two_all}
use Rattle.cat_machine.proofs.Tasks.{rest_item}
use Rattle.cat_machine.proofs.Ends.{marks_many}
use Rattle.cat_machine.proofs.Inside.{IsInside, tasks_end, code_inside, entries_inside}

-- a place below the end of the tasks' code, if there is one
abbrev IsBelow : ℕ → Option ℕ → Type 0
IsBelow end None = Unit {0}
IsBelow end (Some at) = at < end

-- ---- where an instruction leads

abbrev LeadsBelow : ℕ → Did → Option ℕ → Type 0
LeadsBelow end Went (Some at) = at < end
LeadsBelow end Went None = ⊥
LeadsBelow end _ place = Unit {0}

abbrev Stays : ℕ → Stepping → Type 0
Stays end s = LeadsBelow end s.did s.after.place

end_stays : (end : ℕ) (h : Held) (kept : Option (Option ℕ)) → AllSome (Stays end) (ended Task h kept)
end_stays end h None = tt
end_stays end h (Some kept) = tt

act_stays : (end : ℕ) (instr : Instr) (at : ℕ) (h : Held) → IsInside end at instr → AllSome (Stays end) (act Task instr at h)
unfolding act
act_stays end (i.Push n) at h inside = if_all (Stays end) (nat_lt (length {A = ℤ} h.stack) 32) (went (moved h (at + 1) (n ∷ h.stack))) inside
act_stays end (i.Load w) at h inside =
    if_all (Stays end) (nat_lt w (length {A = ℤ} h.words)) (if_so (nat_lt (length {A = ℤ} h.stack) 32) (went (moved h (at + 1) (word_at h.words w ∷ h.stack))))
    (if_all (Stays end) (nat_lt (length {A = ℤ} h.stack) 32) (went (moved h (at + 1) (word_at h.words w ∷ h.stack))) inside)
act_stays end i.Payload at h inside = absurd inside
act_stays end (i.Signed s) at h inside = top_all (Stays end) h.stack _ (λ x below. inside)
act_stays end (i.Operate o) at h inside = two_all (Stays end) h.stack _ (λ x y below. inside)
act_stays end (i.Jump to) at h inside = inside
act_stays end (i.JumpZero to) at h inside = top_all (Stays end) h.stack _ (λ x below. tt)
act_stays end (i.Turn to) at h inside = tt
act_stays end (i.Begin t) at h inside = if_all (Stays end) (nat_lt t (length {A = ℕ} h.posts)) (acted Task (stored h h.words (lowered h.posts t) (at + 1) h.stack)) tt
act_stays end i.End at h inside = end_stays end h h.kept
act_stays end (i.LoadAt base len) at h inside =
    if_all (Stays end) (is_array h.words base len) (on_top h.stack (λ x below. went (moved h (at + 1) (word_at h.words (base + index_of x len) ∷ below))))
    (top_all (Stays end) h.stack (λ x below. went (moved h (at + 1) (word_at h.words (base + index_of x len) ∷ below))) (λ x below. inside))
act_stays end (i.Store w) at h inside =
    if_all (Stays end) (nat_lt w (length {A = ℤ} h.words)) (on_top h.stack (λ x below. acted Task (stored h (slice_set {A = ℤ} h.words w x) h.posts (at + 1) below)))
    (top_all (Stays end) h.stack (λ x below. acted Task (stored h (slice_set {A = ℤ} h.words w x) h.posts (at + 1) below)) (λ x below. tt))
act_stays end (i.StoreAt base len) at h inside =
    if_all (Stays end) (is_array h.words base len) (on_two h.stack (λ x y below. acted Task (stored h (slice_set {A = ℤ} h.words (base + index_of x len) y) h.posts (at + 1) below)))
    (two_all (Stays end) h.stack (λ x y below. acted Task (stored h (slice_set {A = ℤ} h.words (base + index_of x len) y) h.posts (at + 1) below)) (λ x y below. tt))
act_stays end (i.Post t) at h inside = if_all (Stays end) (nat_lt t (length {A = ℕ} h.posts)) (acted Task (stored h h.words (raised h.posts t) (at + 1) h.stack)) tt
act_stays end (i.Out c) at h inside = top_all (Stays end) h.stack _ (λ x below. tt)

-- ---- what an instruction does

module _ (payload : ℤ) where
  abbrev paid : Held → Held
  paid h = with_payload payload h

  abbrev paid_step : Option Stepping → Option Stepping
  paid_step None = None
  paid_step (Some s) = Some (record { did = s.did; after = paid s.after })

  abbrev paid_run : Option Ended' → Option Ended'
  paid_run None = None
  paid_run (Some run) = Some (record run { after = paid run.after })

  if_paid : (b : Bool) (s t : Option Stepping) → t ≡ paid_step s → if_so b t ≡ paid_step (if_so b s)
  if_paid true s t e = e
  if_paid false s t e = refl

  top_paid : (stack : List ℤ) (f g : ℤ → List ℤ → Option Stepping) → ((x : ℤ) (below : List ℤ) → g x below ≡ paid_step (f x below)) → on_top stack g ≡ paid_step (on_top stack f)
  top_paid [] f g e = refl
  top_paid (x ∷ below) f g e = e x below

  two_paid : (stack : List ℤ) (f g : ℤ → ℤ → List ℤ → Option Stepping) → ((x y : ℤ) (below : List ℤ) → g x y below ≡ paid_step (f x y below)) → on_two stack g ≡ paid_step (on_two stack f)
  two_paid [] f g e = refl
  two_paid (y ∷ []) f g e = refl
  two_paid (y ∷ x ∷ below) f g e = e x y below

  end_paid : (h : Held) (kept : Option (Option ℕ)) → ended Task (paid h) kept ≡ paid_step (ended Task h kept)
  end_paid h None = refl
  end_paid h (Some kept) = refl

  act_paid : (end at : ℕ) (instr : Instr) (h : Held) → IsInside end at instr → act Task instr at (paid h) ≡ paid_step (act Task instr at h)
  unfolding act
  act_paid end at (i.Push n) h inside = if_paid (nat_lt (length {A = ℤ} h.stack) 32) (went (moved h (at + 1) (n ∷ h.stack))) (went (moved (paid h) (at + 1) (n ∷ h.stack))) refl
  act_paid end at (i.Load w) h inside =
      if_paid (nat_lt w (length {A = ℤ} h.words)) (if_so (nat_lt (length {A = ℤ} h.stack) 32) (went (moved h (at + 1) (word_at h.words w ∷ h.stack)))) (if_so (nat_lt (length {A = ℤ} h.stack) 32) (went (moved (paid h) (at + 1) (word_at h.words w ∷ h.stack))))
      (if_paid (nat_lt (length {A = ℤ} h.stack) 32) (went (moved h (at + 1) (word_at h.words w ∷ h.stack))) (went (moved (paid h) (at + 1) (word_at h.words w ∷ h.stack))) refl)
  act_paid end at i.Payload h inside = absurd inside
  act_paid end at (i.Signed s) h inside = top_paid h.stack (λ x below. went (moved h (at + 1) (signed_value s x ∷ below))) (λ x below. went (moved (paid h) (at + 1) (signed_value s x ∷ below))) (λ x below. refl)
  act_paid end at (i.Operate o) h inside = two_paid h.stack (λ x y below. went (moved h (at + 1) (operator_value o x y ∷ below))) (λ x y below. went (moved (paid h) (at + 1) (operator_value o x y ∷ below))) (λ x y below. refl)
  act_paid end at (i.Jump to) h inside = refl
  act_paid end at (i.JumpZero to) h inside =
      top_paid h.stack (λ x below. acted Task (moved h (if is_nought x then to else at + 1) below)) (λ x below. acted Task (moved (paid h) (if is_nought x then to else at + 1) below)) (λ x below. refl)
  act_paid end at (i.Turn to) h inside = refl
  act_paid end at (i.Begin t) h inside =
      if_paid (nat_lt t (length {A = ℕ} h.posts)) (acted Task (stored h h.words (lowered h.posts t) (at + 1) h.stack)) (acted Task (stored (paid h) h.words (lowered h.posts t) (at + 1) h.stack)) refl
  act_paid end at i.End h inside = end_paid h h.kept
  act_paid end at (i.LoadAt base len) h inside =
      if_paid (is_array h.words base len) (on_top h.stack (λ x below. went (moved h (at + 1) (word_at h.words (base + index_of x len) ∷ below)))) (on_top h.stack (λ x below. went (moved (paid h) (at + 1) (word_at h.words (base + index_of x len) ∷ below))))
      (top_paid h.stack (λ x below. went (moved h (at + 1) (word_at h.words (base + index_of x len) ∷ below))) (λ x below. went (moved (paid h) (at + 1) (word_at h.words (base + index_of x len) ∷ below))) (λ x below. refl))
  act_paid end at (i.Store w) h inside =
      if_paid (nat_lt w (length {A = ℤ} h.words)) (on_top h.stack (λ x below. acted Task (stored h (slice_set {A = ℤ} h.words w x) h.posts (at + 1) below))) (on_top h.stack (λ x below. acted Task (stored (paid h) (slice_set {A = ℤ} h.words w x) h.posts (at + 1) below)))
      (top_paid h.stack (λ x below. acted Task (stored h (slice_set {A = ℤ} h.words w x) h.posts (at + 1) below)) (λ x below. acted Task (stored (paid h) (slice_set {A = ℤ} h.words w x) h.posts (at + 1) below)) (λ x below. refl))
  act_paid end at (i.StoreAt base len) h inside =
      if_paid (is_array h.words base len) (on_two h.stack (λ x y below. acted Task (stored h (slice_set {A = ℤ} h.words (base + index_of x len) y) h.posts (at + 1) below)))
      (on_two h.stack (λ x y below. acted Task (stored (paid h) (slice_set {A = ℤ} h.words (base + index_of x len) y) h.posts (at + 1) below)))
      (two_paid h.stack (λ x y below. acted Task (stored h (slice_set {A = ℤ} h.words (base + index_of x len) y) h.posts (at + 1) below))
      (λ x y below. acted Task (stored (paid h) (slice_set {A = ℤ} h.words (base + index_of x len) y) h.posts (at + 1) below)) (λ x y below. refl))
  act_paid end at (i.Post t) h inside =
      if_paid (nat_lt t (length {A = ℕ} h.posts)) (acted Task (stored h h.words (raised h.posts t) (at + 1) h.stack)) (acted Task (stored (paid h) h.words (raised h.posts t) (at + 1) h.stack)) refl
  act_paid end at (i.Out c) h inside =
      top_paid h.stack (λ x below. Some (record { did = Emitted c x; after = moved h (at + 1) below })) (λ x below. Some (record { did = Emitted c x; after = moved (paid h) (at + 1) below })) (λ x below. refl)

  -- ---- runs

  prepended_paid : (path : List ℕ) (outs : List Output) (run : Option Ended') → prepended path outs (paid_run run) ≡ paid_run (prepended path outs run)
  prepended_paid path outs None = refl
  prepended_paid path outs (Some run) = refl

  module _ (code : CodeValue) (end : ℕ) (inside : (at : ℕ) (instr : Instr) → at < end → slice_get code.instrs at ≡ Some instr → IsInside end at instr) where
    next_below : (posts : List ℕ) (did : Did) (place : Option ℕ) → did ≡ Went → LeadsBelow end did place → IsBelow end (place_or code posts place)
    next_below posts Went (Some at) is below = below
    next_below posts Went None is below = absurd below
    next_below posts Acted place is below = absurd (cc)
    next_below posts Ended place is below = absurd (cc)
    next_below posts (Emitted c v) place is below = absurd (cc)

    abbrev RunsAlike : ℕ → Type 0
    RunsAlike n = (h : Held) → IsBelow end (next_of code h) → until n Task code (paid h) ≡ paid_run (until n Task code h)

    follow_paid : (n at : ℕ) (s : Stepping) (did : Did) → s.did ≡ did → RunsAlike n → Stays end s →
        follow (until n Task code) at (record { did = s.did; after = paid s.after }) (goes_on Task did) ≡ paid_run (follow (until n Task code) at s (goes_on Task did))
    follow_paid n at s Went is rest stays =
        ap (prepended (at ∷ []) []) (rest s.after (next_below s.after.posts s.did s.after.place is stays)) ∙ prepended_paid (at ∷ []) [] (until n Task code s.after)
    follow_paid n at s Acted is rest stays = refl
    follow_paid n at s Ended is rest stays = refl
    follow_paid n at s (Emitted c v) is rest stays = refl

    step_paid : (n at : ℕ) (found : Option Stepping) → RunsAlike n → AllSome (Stays end) found → after_step Task (until n Task code) at (paid_step found) ≡ paid_run (after_step Task (until n Task code) at found)
    step_paid n at None rest stays = refl
    step_paid n at (Some s) rest stays = follow_paid n at s s.did refl rest stays

    until_paid : (n : ℕ) → RunsAlike n
    unfolding until
    until_paid zero h below = refl
    until_paid (suc n) h below = from (λ h below. until_paid n h below) (next_of code h) below
      where
        there : RunsAlike n → (at : ℕ) (found : Option Instr) → slice_get code.instrs at ≡ found → at < end →
            after_step Task (until n Task code) at (fetched Task at (paid h) found) ≡ paid_run (after_step Task (until n Task code) at (fetched Task at h found))
        there rest at None is below = refl
        there rest at (Some instr) is below =
            let fits = inside at instr below is in
            ap (after_step Task (until n Task code) at) (act_paid end at instr h fits) ∙ step_paid n at (act Task instr at h) rest (act_stays end instr at h fits)

        from : RunsAlike n → (place : Option ℕ) → IsBelow end place →
            after_step Task (until n Task code) (unwrap_or place 0) (step_at Task code (paid h) place) ≡ paid_run (after_step Task (until n Task code) (unwrap_or place 0) (step_at Task code h place))
        from rest None below = refl
        from rest (Some at) below = there rest at (slice_get code.instrs at) refl below

-- ---- from an idle state

module _ (p : Checked) where
  entry_below : (t : Option ℕ) → IsBelow (tasks_end p) (entry_of (code_of p) t)
  entry_below None = tt
  entry_below (Some t) = found (slice_get (code_of p).tasks t) refl
    where
      found : (entry : Option ℕ) → slice_get (code_of p).tasks t ≡ entry → IsBelow (tasks_end p) entry
      found None is = tt
      found (Some entry) is = entries_inside p t entry is

  idle_below : (posts : List ℕ) (place : Option ℕ) (current : Option Body) → StandsFor (program_marks p) place current → IsBelow (tasks_end p) (place_or (code_of p) posts place)
  idle_below posts None current stands = entry_below (first_posted posts)
  idle_below posts (Some at) None stands = absurd stands
  idle_below posts (Some at) (Some k) stands =
      let below = slice_get_within (program_marks p) at (Some k) (rest_item (program_marks p) at k stands) in
      omega (arith, below, marks_many (bodies_of p))

pub begins_below : (p : Checked) (h : Held) (pc : ℕ) → IsIdle p h → next_of (code_of p) h ≡ Some pc → pc < tasks_size (bodies_of p)
begins_below p h pc idle next = subst (IsBelow (tasks_end p)) next (idle_below p h.posts h.place idle.state.current idle.corresponds.place)

pub sections_read_no_payload : SectionsReadNoPayload
sections_read_no_payload p h payload run checked idle is =
    until_paid payload (code_of p) (tasks_end p) (code_inside p checked) 1000000 h (idle_below p h.posts h.place idle.state.current idle.corresponds.place) ∙ ap (paid_run payload) is
