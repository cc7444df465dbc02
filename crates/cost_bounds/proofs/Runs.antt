-- The run of a section is a path of the tasks' code, and a part of a path sums to no more than the whole.
use Rattle.std.proofs.Common.{◌≡◌, ℕ, zero, suc, ◌+◌, ◌≤◌, Bool, true, false, List, [], ◌∷◌, ◌++◌, length, Option, Some, None, refl, sym, ap, ◌∙◌, subst, arith}
use Rattle.std.specs.Prelude.{nat_lt, if◌then◌else◌, slice_get, slice_set, unwrap_or, ℤ}
use Rattle.cat_program.specs.Value.{index_of, is_nought, operator_value, signed_value, word_at}
use Rattle.cat_program.specs.Meaning.{raised, lowered}
use Rattle.cat_program.specs.Checked.{Checked}
use Rattle.cat_machine.specs.declared.instr.Instr.{Instr}
use Rattle.cat_machine.specs.declared.instr.Instr.TheVariants as i
use Rattle.cat_machine.specs.declared.instr.Mode.TheVariants.{Task}
use Rattle.cat_machine.specs.declared.instr.Did.{Did}
use Rattle.cat_machine.specs.declared.instr.Did.TheVariants.{Went, Acted, Ended, Emitted}
use Rattle.cat_machine.specs.CodeValue.{CodeValue}
use Rattle.cat_machine.specs.Held.{Held}
use Rattle.cat_machine.specs.Machine.{Stepping, moved, stored, if_so, went, acted, on_top, on_two, is_array, ended, act, fetched, step_at, next_of, place_or, goes_on, Ended', prepended, follow, after_step, until}
use Rattle.cat_machine.specs.Code.{code_of}
use Rattle.cat_machine.specs.Costs.{Costs}
use Rattle.cat_machine.specs.Fits.{IsIdle}
use Rattle.cat_machine.specs.LaidOut.{CodeIsLaidOut}
use Rattle.cost_bounds.specs.Paths.{acts, place_after, SectionFrom, Acts, GoesOn, IsSection}
use Rattle.cost_bounds.specs.Greatest.{sum_over}

-- ---- one instruction of a section

-- it goes on where the path does, and ends the section where the path ends
abbrev DoesAs : Instr → ℕ → Did → Held → Type 0
DoesAs x pc Went after = (acts x ≡ false) × (after.place ≡ Some (place_after x pc))
DoesAs x pc _ after = acts x ≡ true

abbrev AllDo : Instr → ℕ → Option Stepping → Type 0
AllDo x pc None = Unit {0}
AllDo x pc (Some s) = DoesAs x pc s.did s.after

module _ (x : Instr) (pc : ℕ) where
  if_do : (b : Bool) (o : Option Stepping) → AllDo x pc o → AllDo x pc (if_so b o)
  if_do true o a = a
  if_do false o a = tt

  top_do : (stack : List ℤ) (g : ℤ → List ℤ → Option Stepping) → ((v : ℤ) (below : List ℤ) → AllDo x pc (g v below)) → AllDo x pc (on_top stack g)
  top_do [] g a = tt
  top_do (v ∷ below) g a = a v below

  two_do : (stack : List ℤ) (g : ℤ → ℤ → List ℤ → Option Stepping) → ((v w : ℤ) (below : List ℤ) → AllDo x pc (g v w below)) → AllDo x pc (on_two stack g)
  two_do [] g a = tt
  two_do (w ∷ []) g a = tt
  two_do (w ∷ v ∷ below) g a = a v w below

end_does : (pc : ℕ) (h : Held) (kept : Option (Option ℕ)) → AllDo i.End pc (ended Task h kept)
end_does pc h None = refl
end_does pc h (Some kept) = tt

act_does : (x : Instr) (pc : ℕ) (h : Held) → AllDo x pc (act Task x pc h)
unfolding act
act_does (i.Push n) pc h = if_do (i.Push n) pc (nat_lt (length {A = ℤ} h.stack) 32) (went (moved h (pc + 1) (n ∷ h.stack))) (refl, refl)
act_does (i.Load w) pc h =
    if_do (i.Load w) pc (nat_lt w (length {A = ℤ} h.words)) (if_so (nat_lt (length {A = ℤ} h.stack) 32) (went (moved h (pc + 1) (word_at h.words w ∷ h.stack))))
    (if_do (i.Load w) pc (nat_lt (length {A = ℤ} h.stack) 32) (went (moved h (pc + 1) (word_at h.words w ∷ h.stack))) (refl, refl))
act_does i.Payload pc h = if_do i.Payload pc (nat_lt (length {A = ℤ} h.stack) 32) (went (moved h (pc + 1) (h.payload ∷ h.stack))) (refl, refl)
act_does (i.Signed s) pc h = top_do (i.Signed s) pc h.stack (λ v below. went (moved h (pc + 1) (signed_value s v ∷ below))) (λ v below. (refl, refl))
act_does (i.Operate o) pc h = two_do (i.Operate o) pc h.stack (λ v w below. went (moved h (pc + 1) (operator_value o v w ∷ below))) (λ v w below. (refl, refl))
act_does (i.Jump to) pc h = (refl, refl)
act_does (i.JumpZero to) pc h = top_do (i.JumpZero to) pc h.stack (λ v below. acted Task (moved h (if is_nought v then to else pc + 1) below)) (λ v below. refl)
act_does (i.Turn to) pc h = tt
act_does (i.Begin t) pc h = if_do (i.Begin t) pc (nat_lt t (length {A = ℕ} h.posts)) (acted Task (stored h h.words (lowered h.posts t) (pc + 1) h.stack)) refl
act_does i.End pc h = end_does pc h h.kept
act_does (i.LoadAt base len) pc h =
    if_do (i.LoadAt base len) pc (is_array h.words base len) (on_top h.stack (λ v below. went (moved h (pc + 1) (word_at h.words (base + index_of v len) ∷ below))))
    (top_do (i.LoadAt base len) pc h.stack (λ v below. went (moved h (pc + 1) (word_at h.words (base + index_of v len) ∷ below))) (λ v below. (refl, refl)))
act_does (i.Store w) pc h =
    if_do (i.Store w) pc (nat_lt w (length {A = ℤ} h.words)) (on_top h.stack (λ v below. acted Task (stored h (slice_set {A = ℤ} h.words w v) h.posts (pc + 1) below)))
    (top_do (i.Store w) pc h.stack (λ v below. acted Task (stored h (slice_set {A = ℤ} h.words w v) h.posts (pc + 1) below)) (λ v below. refl))
act_does (i.StoreAt base len) pc h =
    if_do (i.StoreAt base len) pc (is_array h.words base len) (on_two h.stack (λ v w below. acted Task (stored h (slice_set {A = ℤ} h.words (base + index_of v len) w) h.posts (pc + 1) below)))
    (two_do (i.StoreAt base len) pc h.stack (λ v w below. acted Task (stored h (slice_set {A = ℤ} h.words (base + index_of v len) w) h.posts (pc + 1) below)) (λ v w below. refl))
act_does (i.Post t) pc h = if_do (i.Post t) pc (nat_lt t (length {A = ℕ} h.posts)) (acted Task (stored h h.words (raised h.posts t) (pc + 1) h.stack)) refl
act_does (i.Out c) pc h = top_do (i.Out c) pc h.stack (λ v below. Some (record { did = Emitted c v; after = moved h (pc + 1) below })) (λ v below. refl)

-- ---- a whole section

module _ (code : CodeValue) where
  -- a run of at most n instructions goes along a path
  abbrev GoAlong : ℕ → Type 0
  GoAlong n = (h : Held) (pc : ℕ) (run : Ended') → next_of code h ≡ Some pc → until n Task code h ≡ Some run → SectionFrom code pc run.path

  one_more : (n : ℕ) → GoAlong n → (h : Held) (pc : ℕ) (run : Ended') → after_step Task (until n Task code) pc (step_at Task code h (Some pc)) ≡ Some run → SectionFrom code pc run.path
  one_more n later h pc run is = by_instr (slice_get code.instrs pc) refl is
    where
      by_rest : (x : Instr) (after : Held) → slice_get code.instrs pc ≡ Some x → DoesAs x pc Went after → (o : Option Ended') → until n Task code after ≡ o → prepended (pc ∷ []) [] o ≡ Some run → SectionFrom code pc run.path
      by_rest x after at does None e w = cc
      by_rest x after at does (Some rest) e w =
          let same : pc ∷ rest.path ≡ run.path = cc in
          subst (SectionFrom code pc) same (GoesOn x at does.0 (later after (place_after x pc) rest (ap (place_or code after.posts) does.1) e))

      by_did : (x : Instr) (did : Did) (after : Held) → slice_get code.instrs pc ≡ Some x → DoesAs x pc did after → follow (until n Task code) pc (record { did = did; after = after }) (goes_on Task did) ≡ Some run → SectionFrom code pc run.path
      by_did x Went after at does w = by_rest x after at does (until n Task code after) refl w
      by_did x Acted after at does w = let same : pc ∷ [] ≡ run.path = cc in subst (SectionFrom code pc) same (Acts x at does)
      by_did x Ended after at does w = let same : pc ∷ [] ≡ run.path = cc in subst (SectionFrom code pc) same (Acts x at does)
      by_did x (Emitted c v) after at does w = let same : pc ∷ [] ≡ run.path = cc in subst (SectionFrom code pc) same (Acts x at does)

      by_step : (x : Instr) → slice_get code.instrs pc ≡ Some x → (o : Option Stepping) → AllDo x pc o → after_step Task (until n Task code) pc o ≡ Some run → SectionFrom code pc run.path
      by_step x at None does w = cc
      by_step x at (Some s) does w = by_did x s.did s.after at does w

      by_instr : (o : Option Instr) → slice_get code.instrs pc ≡ o → after_step Task (until n Task code) pc (fetched Task pc h o) ≡ Some run → SectionFrom code pc run.path
      by_instr None at w = cc
      by_instr (Some x) at w = by_step x at (act Task x pc h) (act_does x pc h) w

  go_along : (n : ℕ) → GoAlong n
  unfolding until
  go_along zero h pc run next is = cc
  go_along (suc n) h pc run next is =
      one_more n (go_along n) h pc run (ap (λ o. after_step Task (until n Task code) (unwrap_or o 0) (step_at Task code h o)) (sym next) ∙ is)

  until_suc : (n : ℕ) (h : Held) → until (suc n) Task code h ≡ after_step Task (until n Task code) (unwrap_or (next_of code h) 0) (step_at Task code h (next_of code h))
  unfolding until
  until_suc n h = refl

  -- a run has a first place
  has_next : (h : Held) (run : Ended') → until 1000000 Task code h ≡ Some run → (pc : ℕ) × (next_of code h ≡ Some pc)
  has_next h run is = by_place (next_of code h) refl (sym (until_suc 999999 h) ∙ is)
    where
      by_place : (o : Option ℕ) → next_of code h ≡ o → after_step Task (until 999999 Task code) (unwrap_or o 0) (step_at Task code h o) ≡ Some run → (pc : ℕ) × (next_of code h ≡ Some pc)
      by_place None e w = cc
      by_place (Some pc) e w = (pc, e)

pub section_is_path : CodeIsLaidOut → (p : Checked) (h : Held) (run : Ended') → IsIdle p h → until 1000000 Task (code_of p) h ≡ Some run → IsSection p run.path
section_is_path laid p h run idle is =
    let first = has_next (code_of p) h run is in
    record { from = first.0; within = laid.stands.section p h first.0 idle first.1; is = go_along (code_of p) 1000000 h first.0 run first.1 is }

-- ---- a part of a path

pub front_sums : (u : Costs) (p : Checked) (front rest : List ℕ) → sum_over u p front ≤ sum_over u p (front ++ rest)
front_sums u p [] rest = omega arith
front_sums u p (pc ∷ front) rest = omega (arith, front_sums u p front rest)
