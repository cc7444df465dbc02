-- The greatest sum over a handler's paths, in code whose loops are sound.
use Rattle.std.proofs.Common.{◌≡◌, ◌≢◌, ℕ, zero, suc, ◌+◌, ◌-◌, ◌*◌, ◌<◌, ◌≤◌, inl, inr, List, [], ◌∷◌, length, get_or, refl, sym, ◌∙◌, ap, subst, Bool, true, false, arith}
use Rattle.std.specs.Prelude.{max, pos, Option, Some, None, slice_get}
use Rattle.std.proofs.lemmas.Option.{slice_get-get_or, slice_get_within}
use Rattle.nv_memory.specs.declared.device.Class.TheVariants.{Basic}
use Rattle.cat_machine.specs.declared.instr.Instr.{Instr}
use Rattle.cat_machine.specs.declared.instr.Instr.TheVariants as i
use Rattle.cat_machine.specs.ClassOf.{class_of}
use Rattle.cat_machine.specs.CodeValue.{CodeValue}
use Rattle.cat_machine.specs.Costs.{Costs, instr_cost, place_cost, path_cost}
use Rattle.cost_bounds.specs.Paths.{is_turn, opened, LeadsTo, turn_follows, HandlerFrom, Ends, LeadsOn}
use Rattle.cost_bounds.specs.Pass.{is_straight, Worth, AtEnd, TurnsBack, Leaves, Tests, Repeats, GoesOn as Straight}
use Rattle.cn_object.specs.Regions.{IsEntry}
use Rattle.cn_object.specs.Loops.{GoesTo, TurnsAt}
use Rattle.cn_object.specs.Looping.{IsInner, InnerIs}
use Rattle.cn_object.proofs.Inner.{order, turns_same}
use Rattle.cn_object.proofs.Nesting.{turn_ahead}
use Rattle.cn_object.proofs.Around.{Looped, InVersions, repeat_at, next_in, target_in, SameLoops, same_inner, same_none, ahead_same, GoesOn, next_same, back_inner, turn_inner, entry_none, end_none, inner_same, turn_pushed, no_turn_ahead}

some_same : {X : Type 0} (x y : X) → Some x ≡ Some y → x ≡ y
some_same x y e = cc

instr_same : (code : CodeValue) (pc : ℕ) (x y : Instr) → slice_get code.instrs pc ≡ Some x → slice_get code.instrs pc ≡ Some y → x ≡ y
instr_same code pc x y p q = some_same x y (sym p ∙ q)

-- ---- instructions that neither jump nor end

straight_end : (x : Instr) → is_straight x ≡ true → x ≢ i.End
straight_end x s e = let clash : false ≡ true = ap is_straight (sym e) ∙ s in cc

straight_on : (x : Instr) (pc : ℕ) → is_straight x ≡ true → GoesOn x pc
straight_on x pc s = record {
  no_turn = λ end e. let clash : false ≡ true = ap is_straight (sym e) ∙ s in cc;
  ahead = λ to e. absurd (let clash : false ≡ true = ap is_straight (sym e) ∙ s in cc);
}

straight_no_turn : (x : Instr) → is_straight x ≡ true → is_turn (Some x) ≡ false
straight_no_turn (i.Turn to) s = absurd (let clash : false ≡ true = s in cc)
straight_no_turn _ s = refl

straight_leads : (b : Bool) (x : Instr) (pc : ℕ) (left : List ℕ) → is_straight x ≡ true → LeadsTo b x pc left (pc + 1) (opened b x left)
straight_leads b (i.Jump to) pc left s = absurd (let clash : false ≡ true = s in cc)
straight_leads b (i.JumpZero to) pc left s = absurd (let clash : false ≡ true = s in cc)
straight_leads b (i.Turn to) pc left s = absurd (let clash : false ≡ true = s in cc)
straight_leads b i.End pc left s = absurd (let clash : false ≡ true = s in cc)
straight_leads b _ pc left s = (refl, refl)

straight_only : (b : Bool) (x : Instr) (pc : ℕ) (left : List ℕ) (next : ℕ) (later : List ℕ) → is_straight x ≡ true → LeadsTo b x pc left next later → (next ≡ pc + 1) × (later ≡ opened b x left)
straight_only b (i.Jump to) pc left next later s l = absurd (let clash : false ≡ true = s in cc)
straight_only b (i.JumpZero to) pc left next later s l = absurd (let clash : false ≡ true = s in cc)
straight_only b (i.Turn to) pc left next later s l = absurd (let clash : false ≡ true = s in cc)
straight_only b i.End pc left next later s l = absurd (let clash : false ≡ true = s in cc)
straight_only b _ pc left next later s l = l

opened_none : (x : Instr) (left : List ℕ) → opened false x left ≡ left
opened_none (i.Push n) left = refl
opened_none _ left = refl

turn_here : (o : Option Instr) → is_turn o ≡ true → (end : ℕ) × (o ≡ Some (i.Turn end))
turn_here (Some (i.Turn end)) e = (end, refl)
turn_here None e = absurd (let clash : false ≡ true = e in cc)
turn_here (Some _) e = absurd (let clash : false ≡ true = e in cc)

abbrev NoTurn : CodeValue → ℕ → Type 0
NoTurn code pc = (end : ℕ) → TurnsAt code pc end → ⊥

not_turn : (code : CodeValue) (pc : ℕ) → is_turn (slice_get code.instrs pc) ≡ false → NoTurn code pc
not_turn code pc e end is = let clash : true ≡ false = sym (ap is_turn is) ∙ e in cc

other_no_turn : (code : CodeValue) (pc : ℕ) (x : Instr) → slice_get code.instrs pc ≡ Some x → is_turn (Some x) ≡ false → NoTurn code pc
other_no_turn code pc x is e end at = let clash : true ≡ false = sym (ap is_turn (sym is ∙ at)) ∙ e in cc

bool_cases : {P : Type 0} (b : Bool) → (b ≡ true → P) → (b ≡ false → P) → P
bool_cases true f g = f refl
bool_cases false f g = g refl

module _ (u : Costs) (code : CodeValue) (l : Looped code) where
  abbrev Sum : List ℕ → ℕ
  Sum path = path_cost (place_cost u code) path

  cost_at : (pc : ℕ) (x : Instr) → slice_get code.instrs pc ≡ Some x → place_cost u code pc ≡ u (class_of x)
  cost_at pc x is = ap (instr_cost u) is

  -- ---- each place of a version is worth something

  abbrev HasWorth : ℕ → Type 0
  HasWorth pc = (c : ℕ) × Worth u code pc c

  worth_turn : (pc to : ℕ) → slice_get code.instrs pc ≡ Some (i.Turn to) → HasWorth (pc + 1) → HasWorth to → HasWorth pc
  worth_turn pc to is next there =
      let r = repeat_at code pc to l is in
      (_, Repeats r.turns r.before to is r.just_before r.pushed (turn_ahead code pc to l.regions is) next.1 there.1)

  worth_at : (pc : ℕ) (x : Instr) → InVersions code pc → slice_get code.instrs pc ≡ Some x → ((q : ℕ) → pc < q → InVersions code q → HasWorth q) → HasWorth pc
  worth_at pc (i.Jump to) v is later =
      elim (order pc to) [
        | inl h ↦ (let there = later to h (target_in code pc to l v (i.Jump to, is, refl)) in (_, Leaves to is h there.1))
        | inr h ↦ (_, TurnsBack to is h)
      ]
  worth_at pc (i.JumpZero to) v is later =
      let next = later (pc + 1) (omega arith) (next_in code pc (i.JumpZero to) l v is (λ e. cc)) in
      let ahead : pc < to = elim (order pc to) [ inl h ↦ h | inr h ↦ absurd (let back : i.JumpZero to ≡ i.Jump to = (l.regions pc v.1 (i.JumpZero to) is).forward to refl h in cc) ] in
      let there = later to ahead (target_in code pc to l v (i.JumpZero to, is, refl)) in
      (_, Tests to is ahead next.1 there.1)
  worth_at pc (i.Turn to) v is later =
      worth_turn pc to is (later (pc + 1) (omega arith) (next_in code pc (i.Turn to) l v is (λ e. cc)))
      (later to (turn_ahead code pc to l.regions is) (target_in code pc to l v (i.Turn to, is, refl)))
  worth_at pc i.End v is later = (_, AtEnd is)
  worth_at pc x v is later = let next = later (pc + 1) (omega arith) (next_in code pc x l v is (λ e. cc)) in (_, Straight x is refl next.1)

  worth_within : (n pc : ℕ) → length code.instrs ≤ pc + n → InVersions code pc → HasWorth pc
  worth_within zero pc h v = absurd (omega (arith, h, v.1))
  worth_within (suc n) pc h v =
      worth_at pc (get_or code.instrs pc i.End) v (slice_get-get_or code.instrs pc i.End v.1) (λ q ahead w. worth_within n q (omega (arith, h, ahead)) w)

  pub worth_exists : (pc : ℕ) → InVersions code pc → (c : ℕ) × Worth u code pc c
  worth_exists pc v = worth_within (length code.instrs) pc (omega arith) v

  -- ---- a path that sums to it

  pub record Path (pc : ℕ) (left : List ℕ) (m : ℕ) : Type 0 where
    pub path : List ℕ
    pub is : HandlerFrom code pc left path
    pub sums : Sum path ≡ m

  path_as : (pc : ℕ) (a b : List ℕ) (m n : ℕ) → a ≡ b → m ≡ n → Path pc a m → Path pc b n
  path_as pc a b m n e f p = record { path = p.path; is = subst (λ z. HandlerFrom code pc z p.path) e p.is; sums = p.sums ∙ f }

  step : (pc next : ℕ) (left later : List ℕ) (m n : ℕ) (x : Instr) → slice_get code.instrs pc ≡ Some x → LeadsTo (turn_follows code pc) x pc left next later → Path next later m → n ≡ u (class_of x) + m → Path pc left n
  step pc next left later m n x is leads p e = record {
    path = pc ∷ p.path;
    is = LeadsOn x is leads p.is;
    sums = omega (arith, e, p.sums, cost_at pc x is);
  }

  -- the push before a turn gives its counter
  abbrev number_in : Option Instr → ℕ
  number_in (Some (i.Push (pos n))) = n
  number_in _ = 0

  abbrev counted_if : Bool → ℕ → List ℕ → List ℕ
  counted_if true pc left = number_in (slice_get code.instrs (pc - 1)) ∷ left
  counted_if false pc left = left

  abbrev counted : ℕ → List ℕ → List ℕ
  counted pc left = counted_if (is_turn (slice_get code.instrs pc)) pc left

  counted_no : (pc : ℕ) (left : List ℕ) → NoTurn code pc → counted pc left ≡ left
  counted_no pc left never = bool_cases (is_turn (slice_get code.instrs pc))
      (λ e. absurd (let t = turn_here (slice_get code.instrs pc) e in never t.0 t.1)) (λ e. ap (λ b. counted_if b pc left) e)

  counted_yes : (pc before n end : ℕ) (left : List ℕ) → TurnsAt code pc end → pc ≡ before + 1 → slice_get code.instrs before ≡ Some (i.Push (pos n)) → counted pc left ≡ n ∷ left
  counted_yes pc before n end left is place pushed =
      let here : pc - 1 ≡ before = omega (arith, place) in
      ap (λ o. counted_if (is_turn o) pc left) is ∙ ap (λ q. number_in (slice_get code.instrs q) ∷ left) here ∙ ap (λ o. number_in o ∷ left) pushed

  -- a push that opens a repeat, or another instruction that goes on
  opens : (pc : ℕ) (x : Instr) (left : List ℕ) → slice_get code.instrs pc ≡ Some x → opened (turn_follows code pc) x left ≡ counted (pc + 1) left
  opens pc x left is = bool_cases (turn_follows code pc)
      (λ e. let t = turn_here (slice_get code.instrs (pc + 1)) e in
      let push = turn_pushed code pc t.0 x l is t.1 in
      ap (λ b. opened b x left) e ∙ ap (λ y. opened true y left) push.2 ∙ sym (counted_yes (pc + 1) pc push.0 t.0 left t.1 refl (is ∙ ap Some push.2)))
      (λ e. ap (λ b. opened b x left) e ∙ opened_none x left ∙ sym (counted_no (pc + 1) left (not_turn code (pc + 1) e)))

  -- what comes after the jump back of the innermost loop around a place: nothing where there is none
  pub data Beyond (pc : ℕ) (left : List ℕ) : ℕ → Type 0 where
    Last : InnerIs code pc None → Beyond pc left 0
    Back : {r : ℕ} → (turn : ℕ) → IsInner code pc turn → Path turn left r → Beyond pc left r

  beyond_at : (pc to : ℕ) (left : List ℕ) (r : ℕ) → SameLoops code pc to → Beyond pc left r → Beyond to left r
  beyond_at pc to left _ s (Last none) = Last (same_none code pc to s none)
  beyond_at pc to left r s (Back turn inner p) = Back turn (same_inner code pc to turn s inner) p

  at_end : (pc : ℕ) (left : List ℕ) (r : ℕ) → slice_get code.instrs pc ≡ Some i.End → Beyond pc left r → Path pc left (u Basic + r)
  at_end pc left _ is (Last none) = record { path = pc ∷ []; is = Ends is; sums = omega (arith, cost_at pc i.End is) }
  at_end pc left r is (Back turn inner p) = absurd (end_none code pc l is turn inner.end inner.turns inner.around)

  at_back : (pc to : ℕ) (left : List ℕ) (r : ℕ) → InVersions code pc → slice_get code.instrs pc ≡ Some (i.Jump to) → to ≤ pc → Beyond pc left r → Path pc left (u Basic + r)
  at_back pc to left _ v is low (Last none) = absurd (let inner = back_inner code pc to l v is low in none to inner.end inner.turns inner.around)
  at_back pc to left r v is low (Back turn inner p) =
      let same : turn ≡ to = inner_same code pc turn to inner (back_inner code pc to l v is low) in
      step pc to left left r (u Basic + r) (i.Jump to) is (refl, refl) (subst (λ t. Path t left r) same p) refl

  -- the turns of a repeat, one after the other
  all_turns : (pc to n a b r : ℕ) (left : List ℕ) → slice_get code.instrs pc ≡ Some (i.Turn to) → Path to left (b + r) → ((k m : ℕ) → Path pc (k ∷ left) m → Path (pc + 1) (k ∷ left) (a + m)) → Path pc (n ∷ left) ((u Basic + a) * n + u Basic + b + r)
  all_turns pc to zero a b r left is after body =
      step pc to (0 ∷ left) left (b + r) ((u Basic + a) * 0 + u Basic + b + r) (i.Turn to) is (refl, refl) after (omega arith)
  all_turns pc to (suc n) a b r left is after body =
      let m = (u Basic + a) * n + u Basic + b + r in
      let rest = all_turns pc to n a b r left is after body in
      let more : (u Basic + a) * suc n ≡ (u Basic + a) * n + (u Basic + a) = omega arith in
      step pc (pc + 1) (suc n ∷ left) (n ∷ left) (a + m) ((u Basic + a) * suc n + u Basic + b + r) (i.Turn to) is (refl, refl) (body n m rest) (omega (arith, more))

  pub reach : {pc c : ℕ} → Worth u code pc c → InVersions code pc → (left : List ℕ) (r : ℕ) → Beyond pc left r → Path pc (counted pc left) (c + r)
  reach (AtEnd {pc} is) v left r b =
      path_as pc left (counted pc left) _ _ (sym (counted_no pc left (other_no_turn code pc i.End is refl))) refl (at_end pc left r is b)
  reach (TurnsBack {pc} to is low) v left r b =
      path_as pc left (counted pc left) _ _ (sym (counted_no pc left (other_no_turn code pc (i.Jump to) is refl))) refl (at_back pc to left r v is low b)
  reach (Leaves {pc} {c} to is ahead w) v left r b =
      let goes : GoesTo code pc to = (i.Jump to, is, refl) in
      let p = reach w (target_in code pc to l v goes) left r (beyond_at pc to left r (ahead_same code pc to l v goes ahead) b) in
      let p' = path_as to (counted to left) left (c + r) (c + r) (counted_no to left (no_turn_ahead code pc to l goes ahead)) refl p in
      path_as pc left (counted pc left) _ _ (sym (counted_no pc left (other_no_turn code pc (i.Jump to) is refl))) refl
      (step pc to left left (c + r) (u Basic + c + r) (i.Jump to) is (refl, refl) p' (omega arith))
  reach (Tests {pc} {a} {b} to is ahead wa wb) v left r beyond =
      let goes : GoesTo code pc to = (i.JumpZero to, is, refl) in
      let next = next_in code pc (i.JumpZero to) l v is (λ e. cc) in
      let on : SameLoops code pc (pc + 1) = next_same code pc (i.JumpZero to) l is (record { no_turn = λ end e. cc; ahead = λ z e. absurd (let clash : i.JumpZero to ≡ i.Jump z = e in cc) }) in
      let no_push : NoTurn code (pc + 1) = λ end at. (let push = turn_pushed code pc end (i.JumpZero to) l is at in let clash : i.JumpZero to ≡ i.Push (pos push.0) = push.2 in cc) in
      let p = reach wa next left r (beyond_at pc (pc + 1) left r on beyond) in
      let q = reach wb (target_in code pc to l v goes) left r (beyond_at pc to left r (ahead_same code pc to l v goes ahead) beyond) in
      path_as pc left (counted pc left) _ _ (sym (counted_no pc left (other_no_turn code pc (i.JumpZero to) is refl))) refl
      (elim (order a b) [
        | inl h ↦ step pc to left left (b + r) (u Basic + max a b + r) (i.JumpZero to) is (inl refl, refl) (path_as to (counted to left) left (b + r) (b + r) (counted_no to left (no_turn_ahead code pc to l goes ahead)) refl q) (omega (arith, h))
        | inr h ↦ step pc (pc + 1) left left (a + r) (u Basic + max a b + r) (i.JumpZero to) is (inr refl, refl) (path_as (pc + 1) (counted (pc + 1) left) left (a + r) (a + r) (counted_no (pc + 1) left no_push) refl p) (omega (arith, h))
      ])
  reach (Repeats {pc} {a} {b} n before to is place pushed ahead wa wb) v left r beyond =
      let goes : GoesTo code pc to = (i.Turn to, is, refl) in
      let next = next_in code pc (i.Turn to) l v is (λ e. cc) in
      let no_push : NoTurn code (pc + 1) = λ end at. (let push = turn_pushed code pc end (i.Turn to) l is at in let clash : i.Turn to ≡ i.Push (pos push.0) = push.2 in cc) in
      let after = reach wb (target_in code pc to l v goes) left r (beyond_at pc to left r (ahead_same code pc to l v goes ahead) beyond) in
      path_as pc (n ∷ left) (counted pc left) _ _ (sym (counted_yes pc before n to left is place pushed)) refl
      (all_turns pc to n a b r left is (path_as to (counted to left) left (b + r) (b + r) (counted_no to left (no_turn_ahead code pc to l goes ahead)) refl after)
      (λ k m p. path_as (pc + 1) (counted (pc + 1) (k ∷ left)) (k ∷ left) (a + m) (a + m) (counted_no (pc + 1) (k ∷ left) no_push) refl (reach wa next (k ∷ left) m (Back pc (turn_inner code pc to l is) p))))
  reach (Straight {pc} {c} x is straight w) v left r b =
      let next = next_in code pc x l v is (straight_end x straight) in
      let p = reach w next left r (beyond_at pc (pc + 1) left r (next_same code pc x l is (straight_on x pc straight)) b) in
      let p' = path_as (pc + 1) (counted (pc + 1) left) (opened (turn_follows code pc) x left) (c + r) (c + r) (sym (opens pc x left is)) refl p in
      path_as pc left (counted pc left) _ _ (sym (counted_no pc left (other_no_turn code pc x is (straight_no_turn x straight)))) refl
      (step pc (pc + 1) left (opened (turn_follows code pc) x left) (c + r) (u (class_of x) + c + r) x is (straight_leads (turn_follows code pc) x pc left straight) p' (omega arith))

  -- ---- no path sums to more

  -- the most that may still come after the jump back of the innermost loop, with these turns left
  pub data Around : ℕ → List ℕ → ℕ → Type 0 where
    Outmost : {pc : ℕ} {left : List ℕ} → InnerIs code pc None → Around pc left 0
    Inside : {pc : ℕ} {left : List ℕ} {k a b r : ℕ} → (turn end : ℕ) → IsInner code pc turn → TurnsAt code turn end → InVersions code turn → Worth u code (turn + 1) a → Worth u code end b → Around turn left r → Around pc (k ∷ left) ((u Basic + a) * k + u Basic + b + r)

  around_at : (pc to : ℕ) (left : List ℕ) (r : ℕ) → SameLoops code pc to → Around pc left r → Around to left r
  around_at pc to left _ s (Outmost none) = Outmost (same_none code pc to s none)
  around_at pc to _ _ s (Inside turn end inner at v wa wb rest) = Inside turn end (same_inner code pc to turn s inner) at v wa wb rest

  -- the most from a place on: at a turn with the turns that it has left
  pub data Within (pc : ℕ) : List ℕ → ℕ → Type 0 where
    Plain : {left : List ℕ} {c r : ℕ} → NoTurn code pc → Worth u code pc c → Around pc left r → Within pc left (c + r)
    AtTurn : {left : List ℕ} {k a b r : ℕ} → (end : ℕ) → TurnsAt code pc end → Worth u code (pc + 1) a → Worth u code end b → Around pc left r → Within pc (k ∷ left) ((u Basic + a) * k + u Basic + b + r)

  -- what holds of the rest of a path
  abbrev Rest : ℕ → List ℕ → List ℕ → Type 0
  Rest next later rest = (m : ℕ) → InVersions code next → Within next later m → Sum rest ≤ m

  moved : (next to : ℕ) (later left : List ℕ) (rest : List ℕ) → next ≡ to → later ≡ left → Rest next later rest → Rest to left rest
  moved next to later left rest e f h = subst (λ z. Rest z left rest) e (subst (λ z. Rest next z rest) f h)

  abbrev IsStep : ℕ → List ℕ → Instr → ℕ → List ℕ → Type 0
  IsStep pc left x next later = LeadsTo (turn_follows code pc) x pc left next later

  step_is : (pc : ℕ) (left : List ℕ) (x y : Instr) (next : ℕ) (later : List ℕ) → slice_get code.instrs pc ≡ Some x → slice_get code.instrs pc ≡ Some y → IsStep pc left x next later → IsStep pc left y next later
  step_is pc left x y next later p q h = subst (λ z. IsStep pc left z next later) (instr_same code pc x y p q) h

  back_within : (pc to : ℕ) (left : List ℕ) (r : ℕ) (rest : List ℕ) → InVersions code pc → slice_get code.instrs pc ≡ Some (i.Jump to) → to ≤ pc → Around pc left r → Rest to left rest → Sum rest ≤ r
  back_within pc to left _ rest v is low (Outmost none) h = absurd (let inner = back_inner code pc to l v is low in none to inner.end inner.turns inner.around)
  back_within pc to _ _ rest v is low (Inside {left} {k} {a} {b} {r} turn end inner at w wa wb around) h =
      let same : turn ≡ to = inner_same code pc turn to inner (back_inner code pc to l v is low) in
      h ((u Basic + a) * k + u Basic + b + r) (subst (InVersions code) same w)
      (subst (λ t. Within t (k ∷ left) ((u Basic + a) * k + u Basic + b + r)) same (AtTurn end at wa wb around))

  -- a push that opens a repeat has its turns before it
  worth_pushed : (pc n end c : ℕ) → slice_get code.instrs pc ≡ Some (i.Push (pos n)) → TurnsAt code (pc + 1) end → Worth u code (pc + 1) c → (a : ℕ) × (b : ℕ) × Worth u code (pc + 1 + 1) a × Worth u code end b × (c ≡ (u Basic + a) * n + u Basic + b)
  worth_pushed pc n end c pushed at w = elim_turn (pc + 1) c w refl at where
    elim_turn : (q d : ℕ) → Worth u code q d → q ≡ pc + 1 → TurnsAt code q end → (a : ℕ) × (b : ℕ) × Worth u code (pc + 1 + 1) a × Worth u code end b × (d ≡ (u Basic + a) * n + u Basic + b)
    elim_turn _ _ (AtEnd {pc = q} is) e t = absurd (let clash : i.End ≡ i.Turn end = instr_same code q i.End (i.Turn end) is t in cc)
    elim_turn _ _ (TurnsBack {pc = q} to is low) e t = absurd (let clash : i.Jump to ≡ i.Turn end = instr_same code q (i.Jump to) (i.Turn end) is t in cc)
    elim_turn _ _ (Leaves {pc = q} to is ahead w) e t = absurd (let clash : i.Jump to ≡ i.Turn end = instr_same code q (i.Jump to) (i.Turn end) is t in cc)
    elim_turn _ _ (Tests {pc = q} to is ahead wa wb) e t = absurd (let clash : i.JumpZero to ≡ i.Turn end = instr_same code q (i.JumpZero to) (i.Turn end) is t in cc)
    elim_turn _ _ (Repeats {pc = q} {a} {b} m before to is place push ahead wa wb) e t =
        let same : to ≡ end = turns_same code q to end is t in
        let here : before ≡ pc = omega (arith, place, e) in
        let number : i.Push (pos m) ≡ i.Push (pos n) = instr_same code pc (i.Push (pos m)) (i.Push (pos n)) (sym (ap (slice_get code.instrs) here) ∙ push) pushed in
        let count : m ≡ n = cc in
        (a, b, subst (λ z. Worth u code (z + 1) a) e wa, subst (λ z. Worth u code z b) same wb, ap (λ z. (u Basic + a) * z + u Basic + b) count)
    elim_turn _ _ (Straight {pc = q} x is straight w) e t = absurd (let same : x ≡ i.Turn end = instr_same code q x (i.Turn end) is t in let clash : false ≡ true = ap is_straight (sym same) ∙ straight in cc)

  straight_within : (pc : ℕ) (x : Instr) (left : List ℕ) (c r : ℕ) → InVersions code pc → slice_get code.instrs pc ≡ Some x → is_straight x ≡ true → Worth u code (pc + 1) c → Around pc left r → Within (pc + 1) (opened (turn_follows code pc) x left) (c + r)
  straight_within pc x left c r v is straight w around =
      let next = around_at pc (pc + 1) left r (next_same code pc x l is (straight_on x pc straight)) around in
      bool_cases (turn_follows code pc)
      (λ e. let t = turn_here (slice_get code.instrs (pc + 1)) e in
      let push = turn_pushed code pc t.0 x l is t.1 in
      let made = worth_pushed pc push.0 t.0 c (is ∙ ap Some push.2) t.1 w in
      let left_is : opened (turn_follows code pc) x left ≡ push.0 ∷ left = ap (λ b. opened b x left) e ∙ ap (λ y. opened true y left) push.2 in
      subst (λ z. Within (pc + 1) z (c + r)) (sym left_is) (subst (λ z. Within (pc + 1) (push.0 ∷ left) (z + r)) (sym made.4) (AtTurn t.0 t.1 made.2 made.3 next)))
      (λ e. let left_is : opened (turn_follows code pc) x left ≡ left = ap (λ b. opened b x left) e ∙ opened_none x left in
      subst (λ z. Within (pc + 1) z (c + r)) (sym left_is) (Plain (not_turn code (pc + 1) e) w next))

  plain_step : (pc : ℕ) (left : List ℕ) (x : Instr) (next : ℕ) (later rest : List ℕ) (c r : ℕ) → InVersions code pc → NoTurn code pc → slice_get code.instrs pc ≡ Some x → IsStep pc left x next later → Rest next later rest
      → Worth u code pc c → Around pc left r → u (class_of x) + Sum rest ≤ c + r
  plain_step _ left x next later rest _ r v never is leads h (AtEnd {pc} at) around = absurd (step_is pc left x i.End next later is at leads)
  plain_step _ left x next later rest _ r v never is leads h (TurnsBack {pc} to at low) around =
      let class = ap (λ y. u (class_of y)) (instr_same code pc x (i.Jump to) is at) in
      let there = step_is pc left x (i.Jump to) next later is at leads in
      let m = back_within pc to left r rest v at low around (moved next to later left rest there.0 there.1 h) in
      omega (arith, m, class)
  plain_step _ left x next later rest _ r v never is leads h (Leaves {pc} {c} to at ahead w) around =
      let class = ap (λ y. u (class_of y)) (instr_same code pc x (i.Jump to) is at) in
      let there = step_is pc left x (i.Jump to) next later is at leads in
      let goes : GoesTo code pc to = (i.Jump to, at, refl) in
      let m = moved next to later left rest there.0 there.1 h (c + r) (target_in code pc to l v goes) (Plain (no_turn_ahead code pc to l goes ahead) w (around_at pc to left r (ahead_same code pc to l v goes ahead) around)) in
      omega (arith, m, class)
  plain_step _ left x next later rest _ r v never is leads h (Tests {pc} {a} {b} to at ahead wa wb) around =
      let class = ap (λ y. u (class_of y)) (instr_same code pc x (i.JumpZero to) is at) in
      let there = step_is pc left x (i.JumpZero to) next later is at leads in
      let goes : GoesTo code pc to = (i.JumpZero to, at, refl) in
      let on : SameLoops code pc (pc + 1) = next_same code pc (i.JumpZero to) l at (record { no_turn = λ end e. cc; ahead = λ z e. absurd (let clash : i.JumpZero to ≡ i.Jump z = e in cc) }) in
      let no_push : NoTurn code (pc + 1) = λ end t. (let push = turn_pushed code pc end (i.JumpZero to) l at t in let clash : i.JumpZero to ≡ i.Push (pos push.0) = push.2 in cc) in
      elim there.0 [
        | inl e ↦ (let m = moved next to later left rest e there.1 h (b + r) (target_in code pc to l v goes) (Plain (no_turn_ahead code pc to l goes ahead) wb (around_at pc to left r (ahead_same code pc to l v goes ahead) around)) in omega (arith, m, class))
        | inr e ↦ (let m = moved next (pc + 1) later left rest e there.1 h (a + r) (next_in code pc (i.JumpZero to) l v at (λ z. cc)) (Plain no_push wa (around_at pc (pc + 1) left r on around)) in omega (arith, m, class))
      ]
  plain_step _ left x next later rest _ r v never is leads h (Repeats {pc} n before to at place pushed ahead wa wb) around = absurd (never to at)
  plain_step _ left x next later rest _ r v never is leads h (Straight {pc} {c} y at straight w) around =
      let class = ap (λ z. u (class_of z)) (instr_same code pc x y is at) in
      let there = straight_only (turn_follows code pc) y pc left next later straight (step_is pc left x y next later is at leads) in
      let m = moved next (pc + 1) later (opened (turn_follows code pc) y left) rest there.0 there.1 h (c + r) (next_in code pc y l v at (straight_end y straight)) (straight_within pc y left c r v at straight w around) in
      omega (arith, m, class)

  turn_step : (pc end k a b r : ℕ) (left : List ℕ) (next : ℕ) (later rest : List ℕ) → InVersions code pc → TurnsAt code pc end → IsStep pc (k ∷ left) (i.Turn end) next later → Rest next later rest
      → Worth u code (pc + 1) a → Worth u code end b → Around pc left r → u Basic + Sum rest ≤ (u Basic + a) * k + u Basic + b + r
  turn_step pc end zero a b r left next later rest v at leads h wa wb around =
      let goes : GoesTo code pc end = (i.Turn end, at, refl) in
      let ahead = turn_ahead code pc end l.regions at in
      let m = moved next end later left rest leads.0 leads.1 h (b + r) (target_in code pc end l v goes) (Plain (no_turn_ahead code pc end l goes ahead) wb (around_at pc end left r (ahead_same code pc end l v goes ahead) around)) in
      omega (arith, m)
  turn_step pc end (suc k) a b r left next later rest v at leads h wa wb around =
      let no_push : NoTurn code (pc + 1) = λ far t. (let push = turn_pushed code pc far (i.Turn end) l at t in let clash : i.Turn end ≡ i.Push (pos push.0) = push.2 in cc) in
      let inside : Around (pc + 1) (k ∷ left) ((u Basic + a) * k + u Basic + b + r) = Inside pc end (turn_inner code pc end l at) at v wa wb around in
      let m = moved next (pc + 1) later (k ∷ left) rest leads.0 leads.1 h (a + ((u Basic + a) * k + u Basic + b + r)) (next_in code pc (i.Turn end) l v at (λ e. cc)) (Plain no_push wa inside) in
      let more : (u Basic + a) * suc k ≡ (u Basic + a) * k + (u Basic + a) = omega arith in
      omega (arith, m, more)

  worth_end : (q c : ℕ) → Worth u code q c → slice_get code.instrs q ≡ Some i.End → u Basic ≤ c
  worth_end _ _ (AtEnd at) e = omega arith
  worth_end _ _ (TurnsBack to at low) e = omega arith
  worth_end _ _ (Leaves to at ahead w) e = omega arith
  worth_end _ _ (Tests to at ahead wa wb) e = omega arith
  worth_end _ _ (Repeats n before to at place pushed ahead wa wb) e = omega arith
  worth_end _ _ (Straight {pc = q} x at straight w) e = absurd (straight_end x straight (instr_same code q x i.End at e))

  ends_within : (q : ℕ) (left : List ℕ) (m : ℕ) → slice_get code.instrs q ≡ Some i.End → Within q left m → Sum (q ∷ []) ≤ m
  ends_within q left _ is (Plain never w around) = let low = worth_end q _ w is in omega (arith, low, cost_at q i.End is)
  ends_within q _ _ is (AtTurn end at wa wb around) = absurd (let clash : i.End ≡ i.Turn end = instr_same code q i.End (i.Turn end) is at in cc)

  pub leads_within : (pc next : ℕ) (left later path : List ℕ) (x : Instr) (m : ℕ) → InVersions code pc → slice_get code.instrs pc ≡ Some x → IsStep pc left x next later → Rest next later path → Within pc left m → Sum (pc ∷ path) ≤ m
  leads_within pc next left later path x _ v is leads h (Plain {c = c} {r = r} never w around) =
      let s = plain_step pc left x next later path c r v never is leads h w around in omega (arith, s, cost_at pc x is)
  leads_within pc next _ later path x _ v is leads h (AtTurn {left} {k} {a} {b} {r} end at wa wb around) =
      let s = turn_step pc end k a b r left next later path v at (step_is pc (k ∷ left) x (i.Turn end) next later is at leads) h wa wb around in
      omega (arith, s, cost_at pc (i.Turn end) at)

  pub upper : {pc : ℕ} {left path : List ℕ} → HandlerFrom code pc left path → (m : ℕ) → InVersions code pc → Within pc left m → Sum path ≤ m
  upper (Ends {pc} {left} is) m v w = ends_within pc left m is w
  upper (LeadsOn {pc} {next} {left} {later} {path} x is leads rest) m v w = leads_within pc next left later path x m v is leads (λ n in_it within. upper rest n in_it within) w

  -- ---- a version

  pub entry_no_turn : (pc : ℕ) → IsEntry code pc → InVersions code pc → NoTurn code pc
  entry_no_turn pc entry v end at =
      let r = repeat_at code pc end l at in
      let low : pc < length code.instrs = v.1 in
      let last : i.Push (pos r.turns) ≡ i.End = ((l.regions r.before (slice_get_within code.instrs r.before (i.Push (pos r.turns)) r.pushed) (i.Push (pos r.turns)) r.pushed).ends.1 (inl (subst (IsEntry code) r.just_before entry))) in cc

  -- no path from an entry sums to more than the entry is worth, and one sums to as much
  pub entry_most : (pc c : ℕ) → IsEntry code pc → InVersions code pc → Worth u code pc c → (path : List ℕ) → HandlerFrom code pc [] path → path_cost (place_cost u code) path ≤ c
  entry_most pc c entry v w path h =
      let m = upper h (c + 0) v (Plain (entry_no_turn pc entry v) w (Outmost (entry_none code pc l entry))) in omega (arith, m)

  pub entry_reached : (pc c : ℕ) → IsEntry code pc → InVersions code pc → Worth u code pc c → (path : List ℕ) × HandlerFrom code pc [] path × (path_cost (place_cost u code) path ≡ c)
  entry_reached pc c entry v w =
      let p = path_as pc (counted pc []) [] (c + 0) c (counted_no pc [] (entry_no_turn pc entry v)) (omega arith) (reach w v [] 0 (Last (entry_none code pc l entry))) in
      (p.path, p.is, p.sums)
