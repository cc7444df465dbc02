-- The places of verified code, and the loops around them.
use Rattle.std.proofs.Common.{◌≡◌, ◌≢◌, ℕ, zero, suc, ◌+◌, ◌-◌, ◌<◌, ◌≤◌, ◌⊎◌, inl, inr, List, [], ◌∷◌, ◌++◌, length, refl, sym, ◌∙◌, ap, subst, get_or, arith}
use Rattle.std.specs.Prelude.{Option, Some, None, pos, slice_get, unwrap_or}
use Rattle.std.proofs.lemmas.Bool.{cases_lt}
use Rattle.std.proofs.lemmas.Option.{slice_get-get_or, slice_get_within}
use Rattle.cat_machine.specs.declared.instr.Instr.{Instr}
use Rattle.cat_machine.specs.declared.instr.Instr.TheVariants as i
use Rattle.cat_machine.specs.CodeValue.{CodeValue}
use Rattle.cn_object.specs.Operands.{target_of, HasOperands}
use Rattle.cn_object.specs.Regions.{IsEntry, SuitsRegion, all_entries, version_entries, versions_begin}
use Rattle.cn_object.specs.Depths.{IsDepth, StackIs, LeadsTo, Enters, Follows}
use Rattle.cn_object.specs.Loops.{GoesTo, IsBetween, IsRepeat, TurnsAt, VersionLoopsAt}
use Rattle.cn_object.specs.Verified.{IsVerified}

pub some_same : {X : Type 0} (x y : X) → Some x ≡ Some y → x ≡ y
some_same x y e = cc

abbrev pub At : CodeValue → ℕ → Instr → Type 0
At code pc x = slice_get code.instrs pc ≡ Some x

pub one_instr : (code : CodeValue) (pc : ℕ) (x y : Instr) → At code pc x → At code pc y → x ≡ y
one_instr code pc x y p q = some_same x y (sym p ∙ q)

-- a number is below another, or the same, or above it
pub split : {P : Type 0} (a b : ℕ) → (a < b → P) → (a ≡ b → P) → (b < a → P) → P
split a b below same above = elim (cases_lt a b) [ inl h ↦ below h | inr h ↦ elim (cases_lt b a) [ inl g ↦ above g | inr g ↦ same (omega (arith, h, g)) ] ]

-- ---- lists, one behind another

pub in_front : {A : Type 0} (xs ys : List A) (k : ℕ) (x : A) → slice_get xs k ≡ Some x → slice_get (xs ++ ys) k ≡ Some x
in_front [] ys k x e = absurd (let none : None ≡ Some x = e in cc)
in_front (y ∷ xs) ys zero x e = e
in_front (y ∷ xs) ys (suc k) x e = in_front xs ys k x e

pub behind : {A : Type 0} (xs ys : List A) (k : ℕ) (x : A) → slice_get ys k ≡ Some x → slice_get (xs ++ ys) (length xs + k) ≡ Some x
behind [] ys k x e = let same : 0 + k ≡ k = omega arith in ap (slice_get ys) same ∙ e
behind (y ∷ xs) ys k x e = let same : suc (length xs) + k ≡ suc (length xs + k) = omega arith in ap (slice_get (y ∷ (xs ++ ys))) same ∙ behind xs ys k x e

pub task_entry : (code : CodeValue) (t pc : ℕ) → slice_get code.tasks t ≡ Some pc → IsEntry code pc
task_entry code t pc e = (t, in_front code.tasks (version_entries code) t pc e)

pub version_entry : (code : CodeValue) (k pc : ℕ) → slice_get (version_entries code) k ≡ Some pc → IsEntry code pc
version_entry code k pc e = (length code.tasks + k, behind code.tasks (version_entries code) k pc e)

-- where the versions begin, a region does, unless there is none
begins_by : (code : CodeValue) (o : Option ℕ) → slice_get (version_entries code) 0 ≡ o → unwrap_or o (length code.instrs) < length code.instrs → IsEntry code (unwrap_or o (length code.instrs))
begins_by code None e low = absurd (omega (arith, low))
begins_by code (Some entry) e low = version_entry code 0 entry e

pub begins_entry : (code : CodeValue) → versions_begin code < length code.instrs → IsEntry code (versions_begin code)
begins_entry code low = begins_by code (slice_get (version_entries code) 0) refl low

-- a place is within a loop, or its turn stands there
abbrev pub IsRound : ℕ → ℕ → ℕ → Type 0
IsRound turn end pc = (turn ≡ pc) ⊎ IsBetween turn end pc

module _ (words tasks : ℕ) (code : CodeValue) (v : IsVerified words tasks code) where
  -- ---- regions

  pub within_code : (pc : ℕ) (x : Instr) → At code pc x → pc < length code.instrs
  within_code pc x is = slice_get_within code.instrs pc x is

  pub region_at : (pc : ℕ) (x : Instr) → At code pc x → SuitsRegion code pc x
  region_at pc x is = v.regions pc (within_code pc x is) x is

  -- an instruction that isn't an end has one after it, in its region
  pub next_within : (pc : ℕ) (x : Instr) → At code pc x → x ≢ i.End → pc + 1 < length code.instrs
  next_within pc x is on =
      elim (cases_lt (pc + 1) (length code.instrs)) [
        | inl h ↦ h
        | inr h ↦ absurd (let low = within_code pc x is in let last : pc + 1 ≡ length code.instrs = omega (arith, low, h) in on ((region_at pc x is).ends.1 (inr last)))
      ]

  next_no_entry : (pc : ℕ) (x : Instr) → At code pc x → x ≢ i.End → IsEntry code (pc + 1) → ⊥
  next_no_entry pc x is on entry = on ((region_at pc x is).ends.1 (inl entry))

  pub next_in_tasks : (pc : ℕ) (x : Instr) → At code pc x → x ≢ i.End → pc < versions_begin code → pc + 1 < versions_begin code
  next_in_tasks pc x is on low =
      elim (cases_lt (pc + 1) (versions_begin code)) [
        | inl h ↦ h
        | inr h ↦ absurd (let inside = next_within pc x is on in let here : versions_begin code ≡ pc + 1 = omega (arith, h, low) in
            next_no_entry pc x is on (subst (IsEntry code) here (begins_entry code (omega (arith, inside, here)))))
      ]

  pub next_no_begin : (pc : ℕ) (x : Instr) → At code pc x → x ≢ i.End → (t : ℕ) → slice_get code.instrs (pc + 1) ≢ Some (i.Begin t)
  next_no_begin pc x is on t begin = next_no_entry pc x is on (task_entry code t (pc + 1) (((region_at (pc + 1) (i.Begin t) begin).begins t).0 refl))

  target_exists : (count to : ℕ) (x : Instr) → HasOperands words tasks count x → target_of x ≡ Some to → to < count
  target_exists count to (i.Jump other) h e = let same : other ≡ to = some_same other to e in omega (arith, h, same)
  target_exists count to (i.JumpZero other) h e = let same : other ≡ to = some_same other to e in omega (arith, h, same)
  target_exists count to (i.Turn other) h e = let same : other ≡ to = some_same other to e in omega (arith, h, same)
  target_exists count to _ h e = absurd (let none : None ≡ Some to = e in cc)

  pub target_within : (pc to : ℕ) → GoesTo code pc to → to < length code.instrs
  target_within pc to goes = target_exists (length code.instrs) to goes.0 (v.operands pc (within_code pc goes.0 goes.1) goes.0 goes.1) goes.2

  pub target_in_versions : (pc to : ℕ) → GoesTo code pc to → versions_begin code ≤ pc → versions_begin code ≤ to
  target_in_versions pc to goes h =
      let low = within_code pc goes.0 goes.1 in
      (((region_at pc goes.0 goes.1).stays to goes.2).region (versions_begin code) (begins_entry code (omega (arith, h, low)))).0 h

  pub target_in_tasks : (pc to : ℕ) → GoesTo code pc to → pc < versions_begin code → to < versions_begin code
  target_in_tasks pc to goes h =
      let low = target_within pc to goes in
      elim (cases_lt to (versions_begin code)) [
        | inl g ↦ g
        | inr g ↦ absurd (let up : versions_begin code ≤ pc = (((region_at pc goes.0 goes.1).stays to goes.2).region (versions_begin code) (begins_entry code (omega (arith, g, low)))).1 g in omega (arith, up, h))
      ]

  rising : (d j a b : ℕ) → slice_get (all_entries code) j ≡ Some a → slice_get (all_entries code) (j + d) ≡ Some b → a + d ≤ b
  rising zero j a b p q = let same : j + 0 ≡ j = omega arith in let equal : a ≡ b = some_same a b (sym p ∙ ap (slice_get (all_entries code)) (sym same) ∙ q) in omega (arith, equal)
  rising (suc d) j a b p q =
      let es = all_entries code in
      let inside = slice_get_within es (j + suc d) b q in
      let mid : slice_get es (j + d) ≡ Some (get_or es (j + d) 0) = slice_get-get_or es (j + d) 0 (omega (arith, inside)) in
      let before = rising d j a (get_or es (j + d) 0) p mid in
      let same : j + suc d ≡ j + d + 1 = omega arith in
      let up = v.entries.ascend (j + d) (get_or es (j + d) 0) b mid (ap (slice_get es) (sym same) ∙ q) in
      omega (arith, before, up)

  task_low_by : (t pc : ℕ) → slice_get code.tasks t ≡ Some pc → (o : Option ℕ) → slice_get (version_entries code) 0 ≡ o → pc < unwrap_or o (length code.instrs)
  task_low_by t pc e None none = v.entries.within t pc (in_front code.tasks (version_entries code) t pc e)
  task_low_by t pc e (Some entry) first =
      let inside = slice_get_within code.tasks t pc e in
      let d = length code.tasks - t in
      let same : length code.tasks + 0 ≡ t + d = omega (arith, inside) in
      let last : slice_get (all_entries code) (t + d) ≡ Some entry = ap (slice_get (all_entries code)) (sym same) ∙ behind code.tasks (version_entries code) 0 entry first in
      let up = rising d t pc entry (in_front code.tasks (version_entries code) t pc e) last in
      omega (arith, up, inside)

  low_by : (o : Option ℕ) → slice_get (version_entries code) 0 ≡ o → unwrap_or o (length code.instrs) ≤ length code.instrs
  low_by None none = omega arith
  low_by (Some entry) first = let low = v.entries.within (length code.tasks + 0) entry (behind code.tasks (version_entries code) 0 entry first) in omega (arith, low)

  -- the tasks' places are places of the code
  pub tasks_within : versions_begin code ≤ length code.instrs
  tasks_within = low_by (slice_get (version_entries code) 0) refl

  pub in_code : (pc : ℕ) → pc < versions_begin code → pc < length code.instrs
  in_code pc low = let most = tasks_within in omega (arith, low, most)

  -- a task begins in the tasks' code
  pub task_entry_low : (t pc : ℕ) → slice_get code.tasks t ≡ Some pc → pc < versions_begin code
  task_entry_low t pc e = task_low_by t pc e (slice_get (version_entries code) 0) refl

  -- a version begins in the versions' code
  pub version_entry_high : (k pc : ℕ) → slice_get (version_entries code) k ≡ Some pc → versions_begin code ≤ pc
  version_entry_high k pc e = high_by (slice_get (version_entries code) 0) refl
    where
      high_by : (o : Option ℕ) → slice_get (version_entries code) 0 ≡ o → unwrap_or o (length code.instrs) ≤ pc
      high_by None none = absurd (let inside = slice_get_within (version_entries code) k pc e in
          let some : slice_get (version_entries code) 0 ≡ Some (get_or (version_entries code) 0 0) = slice_get-get_or (version_entries code) 0 0 (omega (arith, inside)) in
          let clash : None ≡ Some (get_or (version_entries code) 0 0) = sym none ∙ some in cc)
      high_by (Some entry) first =
          let same : length code.tasks + 0 + k ≡ length code.tasks + k = omega arith in
          let up = rising k (length code.tasks + 0) entry pc (behind code.tasks (version_entries code) 0 entry first) (ap (slice_get (all_entries code)) same ∙ behind code.tasks (version_entries code) k pc e) in
          omega (arith, up)

  pub target_no_begin : (pc to : ℕ) → GoesTo code pc to → (t : ℕ) → slice_get code.instrs to ≢ Some (i.Begin t)
  target_no_begin pc to goes = ((region_at pc goes.0 goes.1).stays to goes.2).no_begin

  -- only a jump goes backward
  pub goes_ahead : (pc to : ℕ) (x : Instr) → At code pc x → target_of x ≡ Some to → x ≢ i.Jump to → pc < to
  goes_ahead pc to x is e other = elim (cases_lt pc to) [ inl h ↦ h | inr h ↦ absurd (other ((region_at pc x is).forward to e h)) ]

  -- ---- depths

  pub stack_at : (pc : ℕ) → pc < length code.instrs → (depth : ℕ) → IsDepth code pc depth → StackIs code pc depth
  stack_at pc low depth is = let s = v.stacks pc low in subst (StackIs code pc) (is.agreed s.0 s.1.is.brought) s.1

  pub one_depth : (pc a b : ℕ) → IsDepth code pc a → IsDepth code pc b → a ≡ b
  one_depth pc a b p q = q.agreed a p.brought

  pub entry_depth : (pc : ℕ) → pc < length code.instrs → IsEntry code pc → IsDepth code pc 0
  entry_depth pc low entry = let s = v.stacks pc low in subst (IsDepth code pc) (sym (s.1.is.agreed 0 (Enters entry))) s.1.is

  pub ahead_depth : (pc to depth later : ℕ) → IsDepth code pc depth → pc < to → to < length code.instrs → LeadsTo code pc depth to later → IsDepth code to later
  ahead_depth pc to depth later is ahead low leads = let s = v.stacks to low in subst (IsDepth code to) (sym (s.1.is.agreed later (Follows is.brought ahead leads))) s.1.is

  -- ---- loops

  pub turn_in_versions : (turn end : ℕ) → TurnsAt code turn end → versions_begin code ≤ turn
  turn_in_versions turn end at = (region_at turn (i.Turn end) at).turn end refl

  pub loops_at : (pc : ℕ) → pc < length code.instrs → versions_begin code ≤ pc → VersionLoopsAt code pc
  loops_at pc low h = (v.loops pc low).version h

  pub repeat_at : (turn end : ℕ) → TurnsAt code turn end → IsRepeat code turn end
  repeat_at turn end at = (loops_at turn (within_code turn (i.Turn end) at) (turn_in_versions turn end at)).turn end at

  pub turn_ahead : (turn end : ℕ) → TurnsAt code turn end → turn < end
  turn_ahead turn end at = goes_ahead turn end (i.Turn end) at refl (λ e. cc)

  -- the jump back stands within its loop
  pub last_within : (turn end : ℕ) → (at : TurnsAt code turn end) → turn < (repeat_at turn end at).last
  last_within turn end at =
      let r = repeat_at turn end at in
      let ahead = turn_ahead turn end at in
      split turn r.last (λ h. h) (λ same. absurd (let clash : i.Turn end ≡ i.Jump turn = one_instr code turn (i.Turn end) (i.Jump turn) at (ap (slice_get code.instrs) same ∙ r.back) in cc)) (λ h. absurd (omega (arith, h, ahead, r.just_after)))

  pub turn_within : (turn end pc : ℕ) → TurnsAt code turn end → IsRound turn end pc → turn ≤ pc
  turn_within turn end pc at (inl same) = omega (arith, same)
  turn_within turn end pc at (inr b) = omega (arith, b.0)

  -- where an instruction goes to, the loops are those in which it stands
  pub round_back : (pc to turn end : ℕ) → GoesTo code pc to → versions_begin code ≤ pc → TurnsAt code turn end → IsRound turn end to → IsBetween turn end pc
  round_back pc to turn end goes h at (inl same) =
      let r = repeat_at turn end at in
      let here : pc ≡ r.last = r.only pc (subst (GoesTo code pc) (sym same) goes) in
      let inner = last_within turn end at in
      (omega (arith, here, inner), omega (arith, here, r.just_after))
  round_back pc to turn end goes h at (inr b) =
      let loops = loops_at pc (within_code pc goes.0 goes.1) h in
      (loops.jump to goes turn end at (λ back. omega (arith, back.1, b.0))).1 b

  pub round_on : (pc to turn end : ℕ) → GoesTo code pc to → versions_begin code ≤ pc → TurnsAt code turn end → IsBetween turn end pc → IsRound turn end to
  round_on pc to turn end goes h at b =
      let loops = loops_at pc (within_code pc goes.0 goes.1) h in
      let other : (to ≢ turn) → IsRound turn end to = λ differ. inr ((loops.jump to goes turn end at (λ back. differ back.1)).0 b) in
      split to turn (λ low. other (λ e. omega (arith, low, e))) (λ same. inl (sym same)) (λ high. other (λ e. omega (arith, high, e)))

  -- no loop is around an entry
  pub entry_no_round : (pc turn end : ℕ) → IsEntry code pc → TurnsAt code turn end → IsRound turn end pc → ⊥
  entry_no_round pc turn end entry at (inl same) =
      let r = repeat_at turn end at in
      next_no_entry r.before (i.Push (pos r.turns)) r.pushed (λ e. cc) (subst (IsEntry code) (sym same ∙ r.just_before) entry)
  entry_no_round pc turn end entry at (inr b) =
      let low : pc ≤ turn = (((region_at turn (i.Turn end) at).stays end refl).region pc entry).1 (omega (arith, b.1)) in omega (arith, low, b.0)

  -- nothing goes on to a turn but the push before it
  pub turn_pushed : (pc end : ℕ) (x : Instr) → At code pc x → TurnsAt code (pc + 1) end → (n : ℕ) × (n ≤ 1000) × (x ≡ i.Push (pos n))
  turn_pushed pc end x is at =
      let r = repeat_at (pc + 1) end at in
      let place : r.before ≡ pc = omega (arith, r.just_before) in
      (r.turns, r.few, one_instr code pc x (i.Push (pos r.turns)) is (ap (slice_get code.instrs) (sym place) ∙ r.pushed))

  -- the next place is in the same loops, but for one that begins or ends there
  pub next_back : (pc turn end : ℕ) → IsBetween turn end (pc + 1) → IsRound turn end pc
  next_back pc turn end b = split turn pc (λ h. inr (h, omega (arith, b.1))) (λ same. inl same) (λ h. absurd (omega (arith, h, b.0)))

  pub next_on : (pc turn end : ℕ) (x : Instr) → At code pc x → ((to : ℕ) → x ≢ i.Jump to) → TurnsAt code turn end → IsRound turn end pc → IsBetween turn end (pc + 1)
  next_on pc turn end x is no_jump at (inl same) =
      let r = repeat_at turn end at in
      let inner = last_within turn end at in
      (omega (arith, same), omega (arith, same, inner, r.just_after))
  next_on pc turn end x is no_jump at (inr b) = (
    omega (arith, b.0),
    elim (cases_lt (pc + 1) end) [
      | inl h ↦ h
      | inr h ↦ absurd (let r = repeat_at turn end at in
          let place : r.last ≡ pc = omega (arith, r.just_after, h, b.1) in
          no_jump turn (one_instr code pc x (i.Jump turn) is (ap (slice_get code.instrs) (sym place) ∙ r.back)))
    ],
  )
