-- How stretches of code lie, and what goes through them.
use Rattle.std.proofs.Common.{◌≡◌, ℕ, ◌+◌, ◌-◌, ◌<◌, ◌≤◌, inl, inr, Bool, true, false, [], ◌∷◌, refl, sym, ap, ◌∙◌, subst, arith, add-one}
use Rattle.std.specs.Prelude.{Some, slice_get, pos, if◌then◌else◌}
use Rattle.std.proofs.lemmas.Bool.{cases_lt}
use borrow.Author.Tests.{le-leb, lt-leb}
use Rattle.cat_machine.specs.declared.instr.Instr.{Instr}
use Rattle.cat_machine.specs.declared.instr.Instr.TheVariants as i
use Rattle.cn_object.specs.Loops.{TurnsAt}
use Rattle.cn_object.specs.Regions.{IsEntry}
use Rattle.cn_object.specs.Depths.{taken, given, way, on_way, ways_of, LeadsTo}
use Rattle.compiled_objects.proofs.Stretches.{Setting, At, is_plain, Plains, Same, Next, Stretch, Done, Then, Tests, Chooses, Loops, Turns, depth_after, depth_at}

pub some_same : {X : Type 0} (x y : X) → Some x ≡ Some y → x ≡ y
some_same x y e = cc

-- ---- one instruction

pub plain_after : (x : Instr) (pc depth : ℕ) → is_plain x ≡ true → depth_after (Some x) pc depth ≡ depth - taken x + given x
plain_after (i.Push n) pc depth h = refl
plain_after (i.Load w) pc depth h = refl
plain_after i.Payload pc depth h = refl
plain_after (i.Signed s) pc depth h = refl
plain_after (i.Operate o) pc depth h = refl
plain_after (i.Jump to) pc depth h = cc
plain_after (i.JumpZero to) pc depth h = cc
plain_after (i.Turn to) pc depth h = cc
plain_after (i.Begin t) pc depth h = cc
plain_after i.End pc depth h = cc
plain_after (i.LoadAt base len) pc depth h = refl
plain_after (i.Store w) pc depth h = refl
plain_after (i.StoreAt base len) pc depth h = refl
plain_after (i.Post t) pc depth h = refl
plain_after (i.Out c) pc depth h = refl

pub plain_ways : (x : Instr) (pc depth : ℕ) → is_plain x ≡ true → ways_of x pc depth ≡ on_way x pc depth ∷ []
plain_ways (i.Push n) pc depth h = refl
plain_ways (i.Load w) pc depth h = refl
plain_ways i.Payload pc depth h = refl
plain_ways (i.Signed s) pc depth h = refl
plain_ways (i.Operate o) pc depth h = refl
plain_ways (i.Jump to) pc depth h = cc
plain_ways (i.JumpZero to) pc depth h = cc
plain_ways (i.Turn to) pc depth h = cc
plain_ways (i.Begin t) pc depth h = cc
plain_ways i.End pc depth h = cc
plain_ways (i.LoadAt base len) pc depth h = refl
plain_ways (i.Store w) pc depth h = refl
plain_ways (i.StoreAt base len) pc depth h = refl
plain_ways (i.Post t) pc depth h = refl
plain_ways (i.Out c) pc depth h = refl

pub jump_back_after : (to pc depth : ℕ) → to ≤ pc → depth_after (Some (i.Jump to)) pc depth ≡ depth - 1
jump_back_after to pc depth h = ap (λ (t : Bool). if t then depth - 1 else depth) (le-leb to pc h)

pub jump_on_after : (to pc depth : ℕ) → pc < to → depth_after (Some (i.Jump to)) pc depth ≡ depth
jump_on_after to pc depth h = ap (λ (t : Bool). if t then depth - 1 else depth) (lt-leb to pc h)

module _ (s : Setting) where
  abbrev pub D : ℕ → ℕ
  D pc = depth_at s.code pc

  pub depth_next : (pc : ℕ) (x : Instr) → At s pc x → D (pc + 1) ≡ depth_after (Some x) pc (D pc)
  depth_next pc x e = ap (depth_at s.code) (add-one pc) ∙ ap (λ o. depth_after o pc (D pc)) e

  pub depth_there : (pc to : ℕ) (x : Instr) → At s pc x → to ≡ pc + 1 → D to ≡ depth_after (Some x) pc (D pc)
  depth_there pc to x e same = ap D same ∙ depth_next pc x e

  -- ---- how stretches lie

  pub plains_lie : (floor depth at end last : ℕ) → Plains s floor depth at end last → at ≤ end
  plains_lie floor depth at end last (Same e d) = omega (arith, e)
  plains_lie floor depth at end last (Next x e plain suits rest) = omega (arith, plains_lie floor (depth - taken x + given x) (at + 1) end last rest)

  pub lies : (floor at end : ℕ) → Stretch s floor at end → at ≤ end
  lies floor at end (Done e) = omega (arith, e)
  lies floor at end (Then mid plains rest) = omega (arith, plains_lie floor floor at mid floor plains, lies floor mid end rest)
  lies floor at end (Tests test mid room plains jz on rest) = omega (arith, plains_lie floor floor at test (floor + 1) plains, lies floor (test + 1) mid on, lies floor mid end rest)
  lies floor at end (Chooses test jump mid room plains jz on j off rest) =
      omega (arith, plains_lie floor floor at test (floor + 1) plains, lies floor (test + 1) jump on, lies floor (jump + 1) mid off, lies floor mid end rest)
  lies floor at end (Loops test jump t room plains jz on j rest) = omega (arith, plains_lie floor floor at test (floor + 1) plains, lies floor (test + 1) jump on, lies floor (jump + 1) end rest)
  lies floor at end (Turns n turn jump place t few room p q body j rest) = omega (arith, place, lies (floor + 1) (turn + 1) jump body, lies floor (jump + 1) end rest)

  -- ---- the depth behind a stretch

  pub plains_flow : (floor depth at end last : ℕ) → D at ≡ depth → Plains s floor depth at end last → D end ≡ last
  plains_flow floor depth at end last h (Same e d) = ap D (sym e) ∙ h ∙ d
  plains_flow floor depth at end last h (Next x e plain suits rest) =
      let next = depth_next at x e ∙ plain_after x at (D at) plain ∙ ap (λ n. n - taken x + given x) h in
      plains_flow floor (depth - taken x + given x) (at + 1) end last next rest

  pub test_flow : (test mid floor : ℕ) → At s test (i.JumpZero mid) → D test ≡ floor + 1 → D (test + 1) ≡ floor
  test_flow test mid floor e h = omega (arith, depth_next test (i.JumpZero mid) e, h)

  -- behind a stretch that ends in a jump back
  pub back_flow : (jump to depth : ℕ) → At s jump (i.Jump to) → to ≤ jump → D jump ≡ depth → D (jump + 1) ≡ depth - 1
  back_flow jump to depth e le h = depth_next jump (i.Jump to) e ∙ jump_back_after to jump (D jump) le ∙ ap (λ n. n - 1) h

  pub on_flow : (jump to depth : ℕ) → At s jump (i.Jump to) → jump < to → D jump ≡ depth → D (jump + 1) ≡ depth
  on_flow jump to depth e lt h = depth_next jump (i.Jump to) e ∙ jump_on_after to jump (D jump) lt ∙ h

  abbrev pub Flat : ℕ → Type 0
  Flat floor = s.task ≡ true → floor ≡ 0

  pub flow : (floor at end : ℕ) → Flat floor → D at ≡ floor → Stretch s floor at end → D end ≡ floor
  flow floor at end flat h (Done e) = ap D (sym e) ∙ h
  flow floor at end flat h (Then mid plains rest) = flow floor mid end flat (plains_flow floor floor at mid floor h plains) rest
  flow floor at end flat h (Tests test mid room plains jz on rest) =
      let first = test_flow test mid floor jz (plains_flow floor floor at test (floor + 1) h plains) in
      flow floor mid end flat (flow floor (test + 1) mid flat first on) rest
  flow floor at end flat h (Chooses test jump mid room plains jz on j off rest) =
      let first = test_flow test (jump + 1) floor jz (plains_flow floor floor at test (floor + 1) h plains) in
      let lie = lies floor (jump + 1) mid off in
      let second = on_flow jump mid floor j (omega (arith, lie)) (flow floor (test + 1) jump flat first on) in
      flow floor mid end flat (flow floor (jump + 1) mid flat second off) rest
  flow floor at end flat h (Loops test jump t room plains jz on j rest) =
      let first = test_flow test (jump + 1) floor jz (plains_flow floor floor at test (floor + 1) h plains) in
      let le : at ≤ jump = omega (arith, plains_lie floor floor at test (floor + 1) plains, lies floor (test + 1) jump on) in
      let back = back_flow jump at floor j le (flow floor (test + 1) jump flat first on) in
      flow floor (jump + 1) end flat (omega (arith, back, flat t)) rest
  flow floor at end flat h (Turns n turn jump place t few room p q body j rest) =
      let counted = depth_there at turn (i.Push (pos n)) p place in
      let inside = depth_next turn (i.Turn (jump + 1)) q in
      let none : Flat (floor + 1) = λ e. absurd (let both = sym t ∙ e in cc) in
      let le : turn ≤ jump = omega (arith, lies (floor + 1) (turn + 1) jump body) in
      let back = back_flow jump turn (floor + 1) j le (flow (floor + 1) (turn + 1) jump none (omega (arith, counted, inside, h)) body) in
      flow floor (jump + 1) end flat (omega (arith, back)) rest

  -- ---- where no turn stands

  pub plain_no_turn : (x : Instr) (pc end : ℕ) → At s pc x → is_plain x ≡ true → ¬ TurnsAt s.code pc end
  plain_no_turn x pc end e plain t = let same : i.Turn end ≡ x = some_same (i.Turn end) x (sym t ∙ e) in not_turn x end same plain
    where
      not_turn : (x : Instr) (end : ℕ) → i.Turn end ≡ x → is_plain x ≡ true → ⊥
      not_turn x end same plain = let false_is : is_plain (i.Turn end) ≡ true = subst (λ y. is_plain y ≡ true) (sym same) plain in cc

  pub plains_no_turn : (floor depth at end last : ℕ) → Plains s floor depth at end last → (turn far : ℕ) → at ≤ turn → turn < end → ¬ TurnsAt s.code turn far
  plains_no_turn floor depth at end last (Same e d) turn far low high = absurd (omega (arith, e, low, high))
  plains_no_turn floor depth at end last (Next x e plain suits rest) turn far low high =
      elim (cases_lt at turn) [
        | inl lt ↦ plains_no_turn floor (depth - taken x + given x) (at + 1) end last rest turn far (omega (arith, lt)) high
        | inr le ↦ (let same : turn ≡ at = omega (arith, low, le) in λ t. plain_no_turn x at far e plain (subst (λ z. TurnsAt s.code z far) same t))
      ]

  -- another instruction than a turn
  pub other_here : (pc at far : ℕ) (x : Instr) → At s at x → pc ≡ at → TurnsAt s.code pc far → i.Turn far ≡ x
  other_here pc at far x e same t = some_same (i.Turn far) x (sym t ∙ ap (slice_get s.code.instrs) same ∙ e)

  -- a loop whose turn is in a stretch ends in it
  abbrev pub EndsWithin : ℕ → ℕ → Type 0
  EndsWithin at end = (turn far : ℕ) → TurnsAt s.code turn far → at ≤ turn → turn < end → far ≤ end

  pub after_plains : (floor depth at mid last end : ℕ) → Plains s floor depth at mid last → EndsWithin mid end → EndsWithin at end
  after_plains floor depth at mid last end plains rest turn far t low high =
      elim (cases_lt turn mid) [
        | inl lt ↦ absurd (plains_no_turn floor depth at mid last plains turn far low lt t)
        | inr le ↦ rest turn far t le high
      ]

  pub after_one : (pc end : ℕ) (x : Instr) → At s pc x → ((far : ℕ) → i.Turn far ≡ x → far ≤ end) → EndsWithin (pc + 1) end → EndsWithin pc end
  after_one pc end x e here rest turn far t low high =
      elim (cases_lt pc turn) [
        | inl lt ↦ rest turn far t (omega (arith, lt)) high
        | inr le ↦ (let same : turn ≡ pc = omega (arith, low, le) in here far (other_here turn pc far x e same t))
      ]

  pub both_within : (at mid end : ℕ) → mid ≤ end → EndsWithin at mid → EndsWithin mid end → EndsWithin at end
  both_within at mid end lie first second turn far t low high =
      elim (cases_lt turn mid) [
        | inl lt ↦ (let le : far ≤ mid = first turn far t low lt in omega (arith, le, lie))
        | inr le ↦ second turn far t le high
      ]

  pub inside : (floor at end : ℕ) → Stretch s floor at end → EndsWithin at end
  inside floor at end (Done e) = λ turn far t low high. absurd (omega (arith, e, low, high))
  inside floor at end (Then mid plains rest) = after_plains floor floor at mid floor end plains (inside floor mid end rest)
  inside floor at end (Tests test mid room plains jz on rest) =
      after_plains floor floor at test (floor + 1) end plains
      (after_one test end (i.JumpZero mid) jz (λ far q. cc) (both_within (test + 1) mid end (lies floor mid end rest) (inside floor (test + 1) mid on) (inside floor mid end rest)))
  inside floor at end (Chooses test jump mid room plains jz on j off rest) =
      let up : mid ≤ end = lies floor mid end rest in
      let over : jump + 1 ≤ mid = lies floor (jump + 1) mid off in
      let tail = both_within (jump + 1) mid end up (inside floor (jump + 1) mid off) (inside floor mid end rest) in
      let from_jump = after_one jump end (i.Jump mid) j (λ far q. cc) tail in
      after_plains floor floor at test (floor + 1) end plains
      (after_one test end (i.JumpZero (jump + 1)) jz (λ far q. cc) (both_within (test + 1) jump end (omega (arith, up, over)) (inside floor (test + 1) jump on) from_jump))
  inside floor at end (Loops test jump t room plains jz on j rest) =
      let up : jump + 1 ≤ end = lies floor (jump + 1) end rest in
      let from_jump = after_one jump end (i.Jump at) j (λ far q. cc) (inside floor (jump + 1) end rest) in
      after_plains floor floor at test (floor + 1) end plains
      (after_one test end (i.JumpZero (jump + 1)) jz (λ far q. cc) (both_within (test + 1) jump end (omega (arith, up)) (inside floor (test + 1) jump on) from_jump))
  inside floor at end (Turns n turn jump place t few room p q body j rest) =
      let up : jump + 1 ≤ end = lies floor (jump + 1) end rest in
      let from_jump = after_one jump end (i.Jump turn) j (λ far q. cc) (inside floor (jump + 1) end rest) in
      let from_body = both_within (turn + 1) jump end (omega (arith, up)) (inside (floor + 1) (turn + 1) jump body) from_jump in
      let from_turn = after_one turn end (i.Turn (jump + 1)) q (λ far r. let same : far ≡ jump + 1 = turns_same far (jump + 1) r in omega (arith, same, up)) from_body in
      after_one at end (i.Push (pos n)) p (λ far q. cc) (subst (λ z. EndsWithin z end) place from_turn)
    where
      turns_same : (a b : ℕ) → i.Turn a ≡ i.Turn b → a ≡ b
      turns_same a b e = cc

  -- ---- where jumps may go

  abbrev pub opens : Instr → Bool
  opens (i.Turn to) = false
  opens (i.Begin t) = false
  opens _ = true

  -- neither a turn nor a begin stands at this place
  abbrev pub IsOpen : ℕ → Type 0
  IsOpen pc = (x : Instr) × At s pc x × (opens x ≡ true)

  plain_opens : (x : Instr) → is_plain x ≡ true → opens x ≡ true
  plain_opens (i.Push n) h = refl
  plain_opens (i.Load w) h = refl
  plain_opens i.Payload h = refl
  plain_opens (i.Signed s) h = refl
  plain_opens (i.Operate o) h = refl
  plain_opens (i.Jump to) h = refl
  plain_opens (i.JumpZero to) h = refl
  plain_opens (i.Turn to) h = cc
  plain_opens (i.Begin t) h = cc
  plain_opens i.End h = refl
  plain_opens (i.LoadAt base len) h = refl
  plain_opens (i.Store w) h = refl
  plain_opens (i.StoreAt base len) h = refl
  plain_opens (i.Post t) h = refl
  plain_opens (i.Out c) h = refl

  pub plains_open : (floor depth at end last : ℕ) → IsOpen end → Plains s floor depth at end last → IsOpen at
  plains_open floor depth at end last o (Same e d) = subst IsOpen (sym e) o
  plains_open floor depth at end last o (Next x e plain suits rest) = (x, e, plain_opens x plain)

  pub open_at : (floor at end : ℕ) → IsOpen end → Stretch s floor at end → IsOpen at
  open_at floor at end o (Done e) = subst IsOpen (sym e) o
  open_at floor at end o (Then mid plains rest) = plains_open floor floor at mid floor (open_at floor mid end o rest) plains
  open_at floor at end o (Tests test mid room plains jz on rest) = plains_open floor floor at test (floor + 1) (i.JumpZero mid, jz, refl) plains
  open_at floor at end o (Chooses test jump mid room plains jz on j off rest) = plains_open floor floor at test (floor + 1) (i.JumpZero (jump + 1), jz, refl) plains
  open_at floor at end o (Loops test jump t room plains jz on j rest) = plains_open floor floor at test (floor + 1) (i.JumpZero (jump + 1), jz, refl) plains
  open_at floor at end o (Turns n turn jump place t few room p q body j rest) = (i.Push (pos n), p, refl)

  -- ---- what is reached

  -- an entry, or a place to which an earlier one leads
  pub data Reached (pc : ℕ) : Type 0 where
    IsFirst : IsEntry s.code pc → Reached pc
    IsLater : (q : ℕ) → q < pc → LeadsTo s.code q (D q) pc (D pc) → Reached pc

  on_leads : (pc to k later : ℕ) (x : Instr) → At s pc x → slice_get (ways_of x pc (D pc)) k ≡ Some (way to later) → D to ≡ later → LeadsTo s.code pc (D pc) to (D to)
  on_leads pc to k later x e found same = (x, k, e, found ∙ ap (λ n. Some (way to n)) (sym same))

  pub plain_reach : (pc : ℕ) (x : Instr) → At s pc x → is_plain x ≡ true → Reached (pc + 1)
  plain_reach pc x e plain =
      IsLater pc (omega arith) (on_leads pc (pc + 1) 0 (D pc - taken x + given x) x e (ap (λ ws. slice_get ws 0) (plain_ways x pc (D pc) plain)) (depth_next pc x e ∙ plain_after x pc (D pc) plain))

  pub plains_reach : (floor depth at end last : ℕ) → Reached at → Plains s floor depth at end last → Reached end
  plains_reach floor depth at end last r (Same e d) = subst Reached e r
  plains_reach floor depth at end last r (Next x e plain suits rest) = plains_reach floor (depth - taken x + given x) (at + 1) end last (plain_reach at x e plain) rest

  pub test_reach : (test to : ℕ) → At s test (i.JumpZero to) → Reached (test + 1)
  test_reach test to e = IsLater test (omega arith) (on_leads test (test + 1) 0 (D test - 1 + 0) (i.JumpZero to) e refl (depth_next test (i.JumpZero to) e))

  pub zero_reach : (test to floor : ℕ) → At s test (i.JumpZero to) → test < to → D test ≡ floor + 1 → D to ≡ floor → Reached to
  zero_reach test to floor e lt h k = IsLater test lt (on_leads test to 1 (D test - 1) (i.JumpZero to) e refl (omega (arith, h, k)))

  pub jump_reach : (jump to : ℕ) → At s jump (i.Jump to) → jump < to → D jump ≡ D to → Reached to
  jump_reach jump to e lt h = IsLater jump lt (on_leads jump to 0 (D jump) (i.Jump to) e refl (sym h))

  pub turn_reach : (turn to floor : ℕ) → At s turn (i.Turn to) → turn < to → D turn ≡ floor + 1 → D to ≡ floor → Reached to
  turn_reach turn to floor e lt h k = IsLater turn lt (on_leads turn to 1 (D turn - 1) (i.Turn to) e refl (omega (arith, h, k)))

  pub inner_reach : (turn to : ℕ) → At s turn (i.Turn to) → Reached (turn + 1)
  inner_reach turn to e = IsLater turn (omega arith) (on_leads turn (turn + 1) 0 (D turn - 1 + 1) (i.Turn to) e refl (depth_next turn (i.Turn to) e))

  -- a stretch leads to the place behind it
  pub stretch_reach : (floor at end : ℕ) → Flat floor → D at ≡ floor → Reached at → Stretch s floor at end → Reached end
  stretch_reach floor at end flat h r (Done e) = subst Reached e r
  stretch_reach floor at end flat h r (Then mid plains rest) = stretch_reach floor mid end flat (plains_flow floor floor at mid floor h plains) (plains_reach floor floor at mid floor r plains) rest
  stretch_reach floor at end flat h r (Tests test mid room plains jz on rest) =
      let test_is = plains_flow floor floor at test (floor + 1) h plains in
      let deep = flow floor (test + 1) mid flat (test_flow test mid floor jz test_is) on in
      let lie = lies floor (test + 1) mid on in
      stretch_reach floor mid end flat deep (zero_reach test mid floor jz (omega (arith, lie)) test_is deep) rest
  stretch_reach floor at end flat h r (Chooses test jump mid room plains jz on j off rest) =
      let first = test_flow test (jump + 1) floor jz (plains_flow floor floor at test (floor + 1) h plains) in
      let lie = lies floor (jump + 1) mid off in
      let jump_is = flow floor (test + 1) jump flat first on in
      let deep = flow floor (jump + 1) mid flat (on_flow jump mid floor j (omega (arith, lie)) jump_is) off in
      stretch_reach floor mid end flat deep (jump_reach jump mid j (omega (arith, lie)) (jump_is ∙ sym deep)) rest
  stretch_reach floor at end flat h r (Loops test jump t room plains jz on j rest) =
      let test_is = plains_flow floor floor at test (floor + 1) h plains in
      let lie = lies floor (test + 1) jump on in
      let le : at ≤ jump = omega (arith, plains_lie floor floor at test (floor + 1) plains, lie) in
      let back = back_flow jump at floor j le (flow floor (test + 1) jump flat (test_flow test (jump + 1) floor jz test_is) on) in
      let deep : D (jump + 1) ≡ floor = omega (arith, back, flat t) in
      stretch_reach floor (jump + 1) end flat deep (zero_reach test (jump + 1) floor jz (omega (arith, lie)) test_is deep) rest
  stretch_reach floor at end flat h r (Turns n turn jump place t few room p q body j rest) =
      let counted = depth_there at turn (i.Push (pos n)) p place in
      let inside_is = depth_next turn (i.Turn (jump + 1)) q in
      let none : Flat (floor + 1) = λ e. absurd (let both = sym t ∙ e in cc) in
      let lie = lies (floor + 1) (turn + 1) jump body in
      let le : turn ≤ jump = omega (arith, lie) in
      let turn_is : D turn ≡ floor + 1 = omega (arith, counted, h) in
      let back = back_flow jump turn (floor + 1) j le (flow (floor + 1) (turn + 1) jump none (omega (arith, turn_is, inside_is)) body) in
      let deep : D (jump + 1) ≡ floor = omega (arith, back) in
      stretch_reach floor (jump + 1) end flat deep (turn_reach turn (jump + 1) floor q (omega (arith, lie)) turn_is deep) rest
