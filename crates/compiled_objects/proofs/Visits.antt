-- Each place of a stretch is as it must be.
use Rattle.std.proofs.Common.{◌≡◌, ℕ, ◌+◌, ◌-◌, ◌<◌, ◌≤◌, inl, inr, Bool, true, false, length, refl, sym, ap, ◌∙◌, subst, arith}
use Rattle.std.specs.Prelude.{Some, pos, ℤ}
use Rattle.std.proofs.lemmas.Bool.{cases_lt}
use Rattle.cat_machine.specs.declared.instr.Instr.{Instr}
use Rattle.cat_machine.specs.declared.instr.Instr.TheVariants as i
use Rattle.cost_bounds.specs.Paths.{acts}
use Rattle.cn_object.specs.Loops.{ActsSoon, Acts, GoesOn, TurnsAt}
use Rattle.cn_object.specs.Depths.{taken, given}
use Rattle.compiled_objects.proofs.Stretches.{Setting, At, is_plain, Suits, Plains, Same, Next, Stretch, Done, Then, Tests, Chooses, Loops, Turns}
use Rattle.compiled_objects.proofs.Flows.{D, depth_next, depth_there, plains_lie, lies, plains_flow, test_flow, back_flow, on_flow, Flat, flow, other_here, EndsWithin, after_one, both_within, inside, IsOpen, plains_open, open_at, Reached, plain_reach, plains_reach, test_reach, zero_reach, jump_reach, turn_reach, inner_reach, stretch_reach}
use Rattle.compiled_objects.proofs.Places.{MayGo, Repeats, InStretch, plain_stays, no_task, Clear, plain_place, zero_place, jump_place, turn_place, no_turn_open, no_begin_open, may_forward, crosses_by, crosses_back, clear_on, around_by, within_none, plains_within, Context, plains_in, part}

-- ---- a loop of a task acts soon

acts_by : (s : Setting) (at : ℕ) (x : Instr) (t : Bool) → acts x ≡ t → At s at x → is_plain x ≡ true → ActsSoon s.code (at + 1) → ActsSoon s.code at
acts_by s at x true a e plain soon = Acts x e a
acts_by s at x false a e plain soon = GoesOn x e a (plain_stays x plain) soon

plains_soon : (s : Setting) (floor depth at end last : ℕ) → Plains s floor depth at end last → ActsSoon s.code end → ActsSoon s.code at
plains_soon s floor depth at end last (Same e d) soon = subst (ActsSoon s.code) (sym e) soon
plains_soon s floor depth at end last (Next x e plain suits rest) soon = acts_by s at x (acts x) refl e plain (plains_soon s floor (depth - taken x + given x) (at + 1) end last rest soon)

module _ (s : Setting) (in_code : s.high ≤ length s.code.instrs) where
  abbrev C : ℕ → ℕ → ℕ → Type 0
  C = Context s in_code

  -- a test in front of a stretch: the depth behind it, and what ends within
  module _ (floor at end test to : ℕ) (c : C floor at end) (room : floor + 1 ≤ 32) (plains : Plains s floor floor at test (floor + 1)) (jz : At s test (i.JumpZero to)) where
    lie : at ≤ test
    lie = plains_lie s floor floor at test (floor + 1) plains

    test_deep : D s test ≡ floor + 1
    test_deep = plains_flow s floor floor at test (floor + 1) c.deep plains

    first_deep : D s (test + 1) ≡ floor
    first_deep = test_flow s test to floor jz test_deep

    test_reached : Reached s test
    test_reached = plains_reach s floor floor at test (floor + 1) c.reached plains

    before : EndsWithin s at test
    before = plains_within s in_code floor floor at test (floor + 1) plains

    through : EndsWithin s at (test + 1)
    through = both_within s at test (test + 1) (omega arith) before (after_one s test (test + 1) (i.JumpZero to) jz (λ far q. cc) (within_none s in_code (test + 1) (test + 1) refl))

    on_part : (mid : ℕ) → mid ≤ end → IsOpen s mid → C floor (test + 1) mid
    on_part mid high o = part s in_code floor at end (test + 1) mid c (omega (arith, lie)) high through first_deep (test_reach s test to jz) o

    -- what ends within the first stretch, seen from the test
    test_within : (mid : ℕ) → Stretch s floor (test + 1) mid → EndsWithin s test mid
    test_within mid on = after_one s test mid (i.JumpZero to) jz (λ far q. cc) (inside s floor (test + 1) mid on)

    test_place : test < to → to ≤ end → D s to ≡ floor → IsOpen s to → EndsWithin s test to → InStretch s test
    test_place ahead high deep o within =
        zero_place s in_code test to floor jz room c.flat test_deep deep test_reached
        (around_by s in_code floor at end test c.clear lie before)
        (may_forward s in_code test to (i.JumpZero to) (omega (arith, c.low, lie, ahead)) (omega (arith, high, c.high)) ahead o
        (crosses_by s in_code floor at end test to c.clear lie ahead high before within))

    -- a place of the plain instructions, or of the test, or behind it
    visit : (pc : ℕ) → at ≤ pc → InStretch s test → (test + 1 ≤ pc → InStretch s pc) → InStretch s pc
    visit pc low here behind =
        elim (cases_lt pc test) [
          | inl lt ↦ plains_in s in_code floor at end test (floor + 1) c plains pc low lt
          | inr ge ↦ elim (cases_lt test pc) [
            | inl lt ↦ behind (omega (arith, lt))
            | inr le ↦ (let same : test ≡ pc = omega (arith, ge, le) in subst (InStretch s) same here)
          ]
        ]

  pub places : (floor at end : ℕ) → C floor at end → Stretch s floor at end → (pc : ℕ) → at ≤ pc → pc < end → InStretch s pc
  places floor at end c (Done e) pc low high = absurd (omega (arith, e, low, high))
  places floor at end c (Then mid plains rest) pc low high =
      let lie_one : at ≤ mid = plains_lie s floor floor at mid floor plains in
      let tail = part s in_code floor at end mid end c lie_one (omega arith) (plains_within s in_code floor floor at mid floor plains) (plains_flow s floor floor at mid floor c.deep plains) (plains_reach s floor floor at mid floor c.reached plains) c.open_end in
      elim (cases_lt pc mid) [
        | inl lt ↦ plains_in s in_code floor at end mid floor c plains pc low lt
        | inr le ↦ places floor mid end tail rest pc le high
      ]
  places floor at end c (Tests test mid room plains jz on rest) pc low high =
      let over : test + 1 ≤ mid = lies s floor (test + 1) mid on in
      let up : mid ≤ end = lies s floor mid end rest in
      let first_low : at ≤ test = lie floor at end test mid c room plains jz in
      let o = open_at s floor mid end c.open_end rest in
      let on_context = on_part floor at end test mid c room plains jz mid up o in
      let deep = flow s floor (test + 1) mid c.flat on_context.deep on in
      let within = test_within floor at end test mid c room plains jz mid on in
      let whole = both_within s at test mid (omega (arith, over)) (before floor at end test mid c room plains jz) within in
      let tail = part s in_code floor at end mid end c (omega (arith, first_low, over)) (omega arith) whole deep (zero_reach s test mid floor jz (omega (arith, over)) (test_deep floor at end test mid c room plains jz) deep) c.open_end in
      let here = test_place floor at end test mid c room plains jz (omega (arith, over)) up deep o within in
      visit floor at end test mid c room plains jz pc low here (λ le.
      elim (cases_lt pc mid) [
        | inl lt ↦ places floor (test + 1) mid on_context on pc le lt
        | inr ge ↦ places floor mid end tail rest pc ge high
      ])
  places floor at end c (Chooses test jump mid room plains jz on j off rest) pc low high =
      let to = jump + 1 in
      let over : test + 1 ≤ jump = lies s floor (test + 1) jump on in
      let more : jump + 1 ≤ mid = lies s floor (jump + 1) mid off in
      let up : mid ≤ end = lies s floor mid end rest in
      let first_low : at ≤ test = lie floor at end test to c room plains jz in
      let o = open_at s floor mid end c.open_end rest in
      let on_context = on_part floor at end test to c room plains jz jump (omega (arith, more, up)) (i.Jump mid, j, refl) in
      let jump_deep = flow s floor (test + 1) jump c.flat on_context.deep on in
      let off_deep = on_flow s jump mid floor j (omega (arith, more)) jump_deep in
      let test_is = test_deep floor at end test to c room plains jz in
      let mid_deep = flow s floor (jump + 1) mid c.flat off_deep off in
      let to_jump = test_within floor at end test to c room plains jz jump on in
      let first = both_within s at test jump (omega (arith, over)) (before floor at end test to c room plains jz) to_jump in
      let one_jump = after_one s jump to (i.Jump mid) j (λ far q. cc) (within_none s in_code to to refl) in
      let to_second = both_within s test jump to (omega arith) to_jump one_jump in
      let from_jump = after_one s jump mid (i.Jump mid) j (λ far q. cc) (inside s floor (jump + 1) mid off) in
      let off_open = open_at s floor (jump + 1) mid o off in
      let off_reach = zero_reach s test to floor jz (omega (arith, over)) test_is off_deep in
      let off_context = part s in_code floor at end to mid c (omega (arith, first_low, over)) up (both_within s at jump to (omega arith) first one_jump) off_deep off_reach o in
      let tail = part s in_code floor at end mid end c (omega (arith, first_low, over, more)) (omega arith) (both_within s at jump mid (omega (arith, more)) first from_jump) mid_deep (jump_reach s jump mid j (omega (arith, more)) (jump_deep ∙ sym mid_deep)) c.open_end in
      let here = test_place floor at end test to c room plains jz (omega (arith, over)) (omega (arith, more, up)) off_deep off_open to_second in
      let jump_low : at ≤ jump = omega (arith, first_low, over) in
      let jump_here = jump_place s in_code jump mid floor j (omega (arith, room)) jump_deep mid_deep
      (stretch_reach s floor (test + 1) jump c.flat on_context.deep on_context.reached on) (around_by s in_code floor at end jump c.clear jump_low first)
      (may_forward s in_code jump mid (i.Jump mid) (omega (arith, c.low, jump_low, more)) (omega (arith, up, c.high)) (omega (arith, more)) o
      (crosses_by s in_code floor at end jump mid c.clear jump_low (omega (arith, more)) up first from_jump))
      (λ le. absurd (omega (arith, le, more))) in
      visit floor at end test to c room plains jz pc low here (λ le.
      elim (cases_lt pc jump) [
        | inl lt ↦ places floor (test + 1) jump on_context on pc le lt
        | inr ge ↦ elim (cases_lt jump pc) [
          | inr same ↦ (let is : jump ≡ pc = omega (arith, ge, same) in subst (InStretch s) is jump_here)
          | inl lt ↦ elim (cases_lt pc mid) [
            | inl less ↦ places floor (jump + 1) mid off_context off pc (omega (arith, lt)) less
            | inr beyond ↦ places floor mid end tail rest pc beyond high
          ]
        ]
      ])
  places floor at end c (Loops test jump t room plains jz on j rest) pc low high =
      let to = jump + 1 in
      let over : test + 1 ≤ jump = lies s floor (test + 1) jump on in
      let up : jump + 1 ≤ end = lies s floor (jump + 1) end rest in
      let first_low : at ≤ test = lie floor at end test to c room plains jz in
      let o = open_at s floor (jump + 1) end c.open_end rest in
      let on_context = on_part floor at end test to c room plains jz jump (omega (arith, up)) (i.Jump at, j, refl) in
      let jump_deep = flow s floor (test + 1) jump c.flat on_context.deep on in
      let jump_low : at ≤ jump = omega (arith, first_low, over) in
      let back_deep = back_flow s jump at floor j jump_low jump_deep in
      let rest_deep : D s (jump + 1) ≡ floor = omega (arith, back_deep, c.flat t) in
      let test_is = test_deep floor at end test to c room plains jz in
      let to_jump = test_within floor at end test to c room plains jz jump on in
      let first = both_within s at test jump (omega (arith, over)) (before floor at end test to c room plains jz) to_jump in
      let one_jump = after_one s jump to (i.Jump at) j (λ far q. cc) (within_none s in_code to to refl) in
      let to_second = both_within s test jump to (omega arith) to_jump one_jump in
      let tail = part s in_code floor at end to end c (omega (arith, jump_low)) (omega arith) (both_within s at jump to (omega arith) first one_jump) rest_deep (zero_reach s test to floor jz (omega (arith, over)) test_is rest_deep) c.open_end in
      let here = test_place floor at end test to c room plains jz (omega (arith, over)) up rest_deep o to_second in
      let at_open = plains_open s floor floor at test (floor + 1) (i.JumpZero to, jz, refl) plains in
      let may : MayGo s jump (i.Jump at) at = record {
        low = c.low;
        high = omega (arith, jump_low, up, c.high);
        no_begin = λ n. no_begin_open s in_code at n at_open;
        forward = λ le. refl;
        only = λ far b. absurd (no_turn_open s in_code at far at_open b);
        crosses = λ task. absurd (no_task s.task t task);
      } in
      let soon = plains_soon s floor floor at test (floor + 1) plains (Acts (i.JumpZero to) jz refl) in
      let jump_here = jump_place s in_code jump at floor j (omega (arith, room)) jump_deep c.deep
      (stretch_reach s floor (test + 1) jump c.flat on_context.deep on_context.reached on) (around_by s in_code floor at end jump c.clear jump_low first) may (λ le. inl (t, soon)) in
      visit floor at end test to c room plains jz pc low here (λ le.
      elim (cases_lt pc jump) [
        | inl lt ↦ places floor (test + 1) jump on_context on pc le lt
        | inr ge ↦ elim (cases_lt jump pc) [
          | inr same ↦ (let is : jump ≡ pc = omega (arith, ge, same) in subst (InStretch s) is jump_here)
          | inl lt ↦ places floor (jump + 1) end tail rest pc (omega (arith, lt)) high
        ]
      ])
  places floor at end c (Turns n turn jump place t few room p q body j rest) pc low high =
      let to = jump + 1 in
      let over : turn + 1 ≤ jump = lies s (floor + 1) (turn + 1) jump body in
      let up : jump + 1 ≤ end = lies s floor (jump + 1) end rest in
      let o = open_at s floor (jump + 1) end c.open_end rest in
      let pushed = depth_there s at turn (i.Push (pos n)) p place in
      let turn_deep : D s turn ≡ floor + 1 = omega (arith, pushed, c.deep) in
      let counted = depth_next s turn (i.Turn to) q in
      let body_deep : D s (turn + 1) ≡ floor + 1 = omega (arith, counted, turn_deep) in
      let none : Flat s (floor + 1) = λ e. absurd (no_task s.task e t) in
      let jump_deep = flow s (floor + 1) (turn + 1) jump none body_deep body in
      let back_deep = back_flow s jump turn (floor + 1) j (omega (arith, over)) jump_deep in
      let rest_deep : D s to ≡ floor = omega (arith, back_deep) in
      let its : (far : ℕ) → TurnsAt s.code turn far → far ≡ to = λ far b. turns_same far to (other_here s turn turn far (i.Turn to) q refl b) in
      let in_body = inside s (floor + 1) (turn + 1) jump body in
      let one_push = after_one s at turn (i.Push (pos n)) p (λ far r. cc) (within_none s in_code (at + 1) turn (sym place)) in
      let one_jump = after_one s jump to (i.Jump turn) j (λ far r. cc) (within_none s in_code to to refl) in
      let from_turn = after_one s turn to (i.Turn to) q (λ far r. let same : far ≡ to = turns_same far to r in omega (arith, same)) (both_within s (turn + 1) jump to (omega arith) in_body one_jump) in
      let whole = both_within s at turn to (omega (arith, over)) one_push from_turn in
      let turn_reached : Reached s turn = subst (Reached s) (sym place) (plain_reach s at (i.Push (pos n)) p refl) in
      let suits : Suits s floor (D s at) (i.Push (pos n)) = record { finds = omega (arith, c.deep); room = omega (arith, c.deep, room); acting = λ task a. cc; operands = tt; payload = λ same. cc } in
      let push_here = plain_place s in_code at floor (i.Push (pos n)) p refl suits c.reached (around_by s in_code floor at end at c.clear (omega arith) (within_none s in_code at at refl)) in
      let repeats : Repeats s turn to = record { before = at; turns = n; just_before = place; few = few; pushed = p; last = jump; just_after = refl; back = j } in
      let turn_here = turn_place s in_code turn to floor q t room turn_deep rest_deep turn_reached (around_by s in_code floor at end turn c.clear (omega (arith, place)) one_push)
      (may_forward s in_code turn to (i.Turn to) (omega (arith, c.low, place, over)) (omega (arith, up, c.high)) (omega (arith, over)) o
      (crosses_by s in_code floor at end turn to c.clear (omega (arith, place)) (omega (arith, over)) up one_push from_turn)) repeats in
      let outer = clear_on s in_code floor at end turn jump c.clear (omega (arith, place)) (omega (arith, up)) one_push in
      let inner : Clear s in_code (floor + 1) (turn + 1) jump = λ other far b lt. elim (cases_lt other turn) [
        | inl less ↦ elim (outer other far b less) [
          | inl le ↦ inl (omega (arith, le))
          | inr more ↦ inr (more.0, omega (arith, more.1))
        ]
        | inr ge ↦ (let same : other ≡ turn = omega (arith, ge, lt) in
            let far_is : far ≡ to = its far (subst (λ z. TurnsAt s.code z far) same b) in
            let deep : D s other ≡ floor + 1 = ap (D s) same ∙ turn_deep in
            inr (omega (arith, far_is), omega (arith, deep)))
      ] in
      let body_context : C (floor + 1) (turn + 1) jump = record {
        flat = none;
        deep = body_deep;
        reached = inner_reach s turn to q;
        clear = inner;
        open_end = (i.Jump turn, j, refl);
        low = omega (arith, c.low, place);
        high = omega (arith, up, c.high);
      } in
      let may : MayGo s jump (i.Jump turn) turn = record {
        low = omega (arith, c.low, place);
        high = omega (arith, over, up, c.high);
        no_begin = λ m b. begin_no_turn m to (sym b ∙ q);
        forward = λ le. refl;
        only = its;
        crosses = λ task. crosses_back s in_code floor at end turn jump c.clear place (omega (arith, up)) in_body
            (λ far b. push_no_turn (pos n) far (sym p ∙ b)) its (omega (arith, over));
      } in
      let jump_here = jump_place s in_code jump turn (floor + 1) j room jump_deep turn_deep (stretch_reach s (floor + 1) (turn + 1) jump none body_deep body_context.reached body)
      (around_by s in_code (floor + 1) (turn + 1) jump jump inner over in_body) may (λ le. inr (t, (to, q))) in
      let tail = part s in_code floor at end to end c (omega (arith, place, over)) (omega arith) whole rest_deep (turn_reach s turn to floor q (omega (arith, over)) turn_deep rest_deep) c.open_end in
      elim (cases_lt at pc) [
        | inr le ↦ (let is : at ≡ pc = omega (arith, low, le) in subst (InStretch s) is push_here)
        | inl one ↦ elim (cases_lt turn pc) [
          | inr le ↦ (let is : turn ≡ pc = omega (arith, le, one, place) in subst (InStretch s) is turn_here)
          | inl two ↦ elim (cases_lt pc jump) [
            | inl lt ↦ places (floor + 1) (turn + 1) jump body_context body pc (omega (arith, two)) lt
            | inr ge ↦ elim (cases_lt jump pc) [
              | inr same ↦ (let is : jump ≡ pc = omega (arith, ge, same) in subst (InStretch s) is jump_here)
              | inl lt ↦ places floor (jump + 1) end tail rest pc (omega (arith, lt)) high
            ]
          ]
        ]
      ]
    where
      turns_same : (a b : ℕ) → i.Turn a ≡ i.Turn b → a ≡ b
      turns_same a b e = cc

      begin_no_turn : (a b : ℕ) → ¬ (Some (i.Begin a) ≡ Some (i.Turn b))
      begin_no_turn a b e = cc

      push_no_turn : (z : ℤ) (b : ℕ) → ¬ (Some (i.Push z) ≡ Some (i.Turn b))
      push_no_turn z b e = cc
