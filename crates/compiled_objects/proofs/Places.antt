-- What holds at each place of a stretch of code.
use Rattle.std.proofs.Common.{◌≡◌, ℕ, zero, suc, ◌+◌, ◌-◌, ◌<◌, ◌≤◌, ◌⊎◌, inl, inr, Bool, true, false, [], ◌∷◌, length, refl, sym, ap, ◌∙◌, subst, arith}
use Rattle.std.specs.Prelude.{Some, None, slice_get, pos, ◌↔◌}
use Rattle.std.proofs.lemmas.Bool.{cases_lt}
use Rattle.cat_machine.specs.declared.instr.Instr.{Instr}
use Rattle.cat_machine.specs.declared.instr.Instr.TheVariants as i
use Rattle.cost_bounds.specs.Paths.{acts}
use Rattle.cn_object.specs.Operands.{target_of, HasOperands}
use Rattle.cn_object.specs.Loops.{ActsSoon, TurnsAt, IsBetween, CrossesNone}
use Rattle.cn_object.specs.declared.depth.Way.{Way}
use Rattle.cn_object.specs.Depths.{taken, given, way, on_way, ways_of}
use Rattle.compiled_objects.proofs.Stretches.{Setting, At, is_plain, Suits, Plains, Same, Next}
use Rattle.compiled_objects.proofs.Flows.{some_same, plain_after, plain_ways, D, depth_next, Flat, plains_no_turn, EndsWithin, after_plains, opens, IsOpen, Reached, plain_reach}

-- where a jump goes
pub record MayGo (s : Setting) (pc : ℕ) (x : Instr) (to : ℕ) : Type 0 where
  pub low : s.low ≤ to
  pub high : to < s.high
  pub no_begin : (t : ℕ) → ¬ At s to (i.Begin t)
  pub forward : to ≤ pc → x ≡ i.Jump to
  pub only : (end : ℕ) → TurnsAt s.code to end → end ≡ pc + 1
  pub crosses : s.task ≡ false → CrossesNone s.code pc to

-- a repeat with its push and its jump back
pub record Repeats (s : Setting) (turn end : ℕ) : Type 0 where
  pub before : ℕ
  pub turns : ℕ
  pub just_before : turn ≡ before + 1
  pub few : turns ≤ 1000
  pub pushed : At s before (i.Push (pos turns))
  pub last : ℕ
  pub just_after : end ≡ last + 1
  pub back : At s last (i.Jump turn)

abbrev pub GoesBack : Setting → ℕ → Type 0
GoesBack s to = ((s.task ≡ true) × ActsSoon s.code to) ⊎ ((s.task ≡ false) × ((end : ℕ) × TurnsAt s.code to end))

pub record PlaceIs (s : Setting) (pc : ℕ) (x : Instr) : Type 0 where
  pub operands : HasOperands s.words s.posts (length s.code.instrs) x
  pub room : D s pc ≤ 32
  pub finds : taken x ≤ D s pc
  pub acting : s.task ≡ true → acts x ≡ true → D s pc ≡ taken x
  pub ends : x ≡ i.End → D s pc ≡ 0
  pub ways : (k to later : ℕ) → slice_get (ways_of x pc (D s pc)) k ≡ Some (way to later) → D s to ≡ later
  pub reached : Reached s pc
  pub goes : (to : ℕ) → target_of x ≡ Some to → MayGo s pc x to
  pub payload : x ≡ i.Payload → s.task ≡ false
  pub turn : (to : ℕ) → x ≡ i.Turn to → (s.task ≡ false) × Repeats s pc to
  pub back : (to : ℕ) → x ≡ i.Jump to → to ≤ pc → GoesBack s to
  pub above : (turn end : ℕ) → TurnsAt s.code turn end → IsBetween turn end pc → D s turn + taken x ≤ D s pc

abbrev pub is_inner : Instr → Bool
is_inner (i.Begin t) = false
is_inner i.End = false
is_inner _ = true

pub record InStretch (s : Setting) (pc : ℕ) : Type 0 where
  pub x : Instr
  pub at : At s pc x
  pub inner : is_inner x ≡ true
  pub is : PlaceIs s pc x

plain_inner : (x : Instr) → is_plain x ≡ true → is_inner x ≡ true
plain_inner (i.Push n) h = refl
plain_inner (i.Load w) h = refl
plain_inner i.Payload h = refl
plain_inner (i.Signed s) h = refl
plain_inner (i.Operate o) h = refl
plain_inner (i.Jump to) h = refl
plain_inner (i.JumpZero to) h = refl
plain_inner (i.Turn to) h = refl
plain_inner (i.Begin t) h = cc
plain_inner i.End h = cc
plain_inner (i.LoadAt base len) h = refl
plain_inner (i.Store w) h = refl
plain_inner (i.StoreAt base len) h = refl
plain_inner (i.Post t) h = refl
plain_inner (i.Out c) h = refl

pub plain_stays : (x : Instr) → is_plain x ≡ true → target_of x ≡ None
plain_stays (i.Push n) h = refl
plain_stays (i.Load w) h = refl
plain_stays i.Payload h = refl
plain_stays (i.Signed s) h = refl
plain_stays (i.Operate o) h = refl
plain_stays (i.Jump to) h = cc
plain_stays (i.JumpZero to) h = cc
plain_stays (i.Turn to) h = cc
plain_stays (i.Begin t) h = refl
plain_stays i.End h = refl
plain_stays (i.LoadAt base len) h = refl
plain_stays (i.Store w) h = refl
plain_stays (i.StoreAt base len) h = refl
plain_stays (i.Post t) h = refl
plain_stays (i.Out c) h = refl

plain_is : (x y : Instr) → is_plain x ≡ true → is_plain y ≡ false → ¬ (x ≡ y)
plain_is x y a b e = let both : true ≡ false = sym a ∙ ap is_plain e ∙ b in cc

pub no_task : (t : Bool) → t ≡ true → ¬ (t ≡ false)
no_task t a b = let both : true ≡ false = sym a ∙ b in cc

-- ---- ways

pub one_way : (f : ℕ → ℕ) (a : Way) (k to later : ℕ) → f a.to ≡ a.depth → slice_get (a ∷ []) k ≡ Some (way to later) → f to ≡ later
one_way f a zero to later h e =
    let same : a ≡ way to later = some_same a (way to later) e in
    ap (λ (v : Way). f v.to) (sym same) ∙ h ∙ ap (λ (v : Way). v.depth) same
one_way f a (suc k) to later h e = let none : None ≡ Some (way to later) = e in cc

two_ways : (f : ℕ → ℕ) (a b : Way) (k to later : ℕ) → f a.to ≡ a.depth → f b.to ≡ b.depth → slice_get (a ∷ b ∷ []) k ≡ Some (way to later) → f to ≡ later
two_ways f a b zero to later h g e =
    let same : a ≡ way to later = some_same a (way to later) e in
    ap (λ (v : Way). f v.to) (sym same) ∙ h ∙ ap (λ (v : Way). v.depth) same
two_ways f a b (suc k) to later h g e = one_way f b k to later g e

target_is : (to other : ℕ) → Some to ≡ Some other → to ≡ other
target_is to other e = cc

module _ (s : Setting) (in_code : s.high ≤ length s.code.instrs) where
  -- the counters of all loops around a place are below a floor
  abbrev pub Around : ℕ → ℕ → Type 0
  Around pc floor = (turn far : ℕ) → TurnsAt s.code turn far → IsBetween turn far pc → D s turn ≤ floor

  -- a loop that begins before a stretch ends before it, or goes around it and has its counter below a floor
  abbrev pub Clear : ℕ → ℕ → ℕ → Type 0
  Clear floor at end = (turn far : ℕ) → TurnsAt s.code turn far → turn < at → (far ≤ at) ⊎ ((end < far) × (D s turn ≤ floor))

  -- ---- one place

  pub plain_place : (pc floor : ℕ) (x : Instr) → At s pc x → is_plain x ≡ true → Suits s floor (D s pc) x → Reached s pc → Around pc floor → InStretch s pc
  plain_place pc floor x e plain suits r around = record {
    x = x;
    at = e;
    inner = plain_inner x plain;
    is = record {
      operands = suits.operands;
      room = suits.room;
      finds = omega (arith, suits.finds);
      acting = suits.acting;
      ends = λ same. absurd (plain_is x i.End plain refl same);
      ways = λ k to later found. one_way (D s) (on_way x pc (D s pc)) k to later (depth_next s pc x e ∙ plain_after x pc (D s pc) plain) (ap (λ ws. slice_get ws k) (sym (plain_ways x pc (D s pc) plain)) ∙ found);
      reached = r;
      goes = λ to found. absurd (let none : None ≡ Some to = sym (plain_stays x plain) ∙ found in cc);
      payload = suits.payload;
      turn = λ to same. absurd (plain_is x (i.Turn to) plain refl same);
      back = λ to same. absurd (plain_is x (i.Jump to) plain refl same);
      above = λ turn far t between. omega (arith, suits.finds, around turn far t between);
    };
  }

  pub zero_place : (pc to floor : ℕ) → At s pc (i.JumpZero to) → floor + 1 ≤ 32 → Flat s floor → D s pc ≡ floor + 1 → D s to ≡ floor → Reached s pc → Around pc floor → MayGo s pc (i.JumpZero to) to → InStretch s pc
  zero_place pc to floor e room flat deep there r around may = record {
    x = i.JumpZero to;
    at = e;
    inner = refl;
    is = record {
      operands = omega (arith, may.high, in_code);
      room = omega (arith, room, deep);
      finds = omega (arith, deep);
      acting = λ task acts. omega (arith, deep, flat task);
      ends = λ same. cc;
      ways = λ k other later found. two_ways (D s) (on_way (i.JumpZero to) pc (D s pc)) (way to (D s pc - 1)) k other later (depth_next s pc (i.JumpZero to) e) (omega (arith, there, deep)) found;
      reached = r;
      goes = λ other found. subst (MayGo s pc (i.JumpZero to)) (target_is to other found) may;
      payload = λ same. cc;
      turn = λ other same. cc;
      back = λ other same. cc;
      above = λ turn far t between. omega (arith, deep, around turn far t between);
    };
  }

  pub jump_place : (pc to depth : ℕ) → At s pc (i.Jump to) → depth ≤ 32 → D s pc ≡ depth → D s to ≡ depth → Reached s pc → Around pc depth → MayGo s pc (i.Jump to) to → (to ≤ pc → GoesBack s to) → InStretch s pc
  jump_place pc to depth e room deep there r around may back = record {
    x = i.Jump to;
    at = e;
    inner = refl;
    is = record {
      operands = omega (arith, may.high, in_code);
      room = omega (arith, room, deep);
      finds = omega arith;
      acting = λ task acts. cc;
      ends = λ same. cc;
      ways = λ k other later found. one_way (D s) (way to (D s pc)) k other later (there ∙ sym deep) found;
      reached = r;
      goes = λ other found. subst (MayGo s pc (i.Jump to)) (target_is to other found) may;
      payload = λ same. cc;
      turn = λ other same. cc;
      back = λ other same le. let is : to ≡ other = jumps_same to other same in subst (GoesBack s) is (back (omega (arith, is, le)));
      above = λ turn far t between. omega (arith, deep, around turn far t between);
    };
  }
    where
      jumps_same : (a b : ℕ) → i.Jump a ≡ i.Jump b → a ≡ b
      jumps_same a b e = cc

  pub turn_place : (pc to floor : ℕ) → At s pc (i.Turn to) → s.task ≡ false → floor + 1 ≤ 32 → D s pc ≡ floor + 1 → D s to ≡ floor → Reached s pc → Around pc floor → MayGo s pc (i.Turn to) to → Repeats s pc to → InStretch s pc
  turn_place pc to floor e task room deep there r around may repeats = record {
    x = i.Turn to;
    at = e;
    inner = refl;
    is = record {
      operands = omega (arith, may.high, in_code);
      room = omega (arith, room, deep);
      finds = omega (arith, deep);
      acting = λ is acts. cc;
      ends = λ same. cc;
      ways = λ k other later found. two_ways (D s) (on_way (i.Turn to) pc (D s pc)) (way to (D s pc - 1)) k other later (depth_next s pc (i.Turn to) e) (omega (arith, there, deep)) found;
      reached = r;
      goes = λ other found. subst (MayGo s pc (i.Turn to)) (target_is to other found) may;
      payload = λ same. cc;
      turn = λ other same. (task, subst (Repeats s pc) (turns_same to other same) repeats);
      back = λ other same. cc;
      above = λ turn far t between. omega (arith, deep, around turn far t between);
    };
  }
    where
      turns_same : (a b : ℕ) → i.Turn a ≡ i.Turn b → a ≡ b
      turns_same a b e = cc

  -- ---- jumps

  pub no_turn_open : (to far : ℕ) → IsOpen s to → ¬ TurnsAt s.code to far
  no_turn_open to far o t =
      let same : i.Turn far ≡ o.0 = some_same (i.Turn far) o.0 (sym t ∙ o.1) in
      let both : true ≡ false = sym o.2 ∙ ap (opens s) (sym same) in cc

  pub no_begin_open : (to t : ℕ) → IsOpen s to → ¬ At s to (i.Begin t)
  no_begin_open to t o b =
      let same : i.Begin t ≡ o.0 = some_same (i.Begin t) o.0 (sym b ∙ o.1) in
      let both : true ≡ false = sym o.2 ∙ ap (opens s) (sym same) in cc

  pub may_forward : (pc to : ℕ) (x : Instr) → s.low ≤ to → to < s.high → pc < to → IsOpen s to → CrossesNone s.code pc to → MayGo s pc x to
  may_forward pc to x low high ahead o crosses = record {
    low = low;
    high = high;
    no_begin = λ t. no_begin_open to t o;
    forward = λ le. absurd (omega (arith, le, ahead));
    only = λ far t. absurd (no_turn_open to far o t);
    crosses = λ task. crosses;
  }

  pub crosses_by : (floor at end pc to : ℕ) → Clear floor at end → at ≤ pc → pc < to → to ≤ end → EndsWithin s at pc → EndsWithin s pc to → CrossesNone s.code pc to
  crosses_by floor at end pc to clear low ahead high first second turn far t other = by_start (cases_lt turn at)
    where
      Both : Type 0
      Both = IsBetween turn far pc ↔ IsBetween turn far to

      neither : (IsBetween turn far pc → ⊥) → (IsBetween turn far to → ⊥) → Both
      neither a b = (λ x. absurd (a x), λ x. absurd (b x))

      outer : turn < at → ((far ≤ at) ⊎ ((end < far) × (D s turn ≤ floor))) → Both
      outer lt (inl le) = neither (λ x. omega (arith, x.1, le, low)) (λ x. omega (arith, x.1, le, low, ahead))
      outer lt (inr more) = (λ x. (omega (arith, lt, low, ahead), omega (arith, more.0, high)), λ x. (omega (arith, lt, low), omega (arith, more.0, high, ahead)))

      by_end : at ≤ turn → pc ≤ turn → ((turn < to) ⊎ (to ≤ turn)) → Both
      by_end le after (inl lt) = let within : far ≤ to = second turn far t after lt in neither (λ x. omega (arith, x.0, after)) (λ x. omega (arith, x.1, within))
      by_end le after (inr ge) = neither (λ x. omega (arith, x.0, after)) (λ x. omega (arith, x.0, ge))

      by_mid : at ≤ turn → ((turn < pc) ⊎ (pc ≤ turn)) → Both
      by_mid le (inl lt) = let within : far ≤ pc = first turn far t le lt in neither (λ x. omega (arith, x.1, within)) (λ x. omega (arith, x.1, within, ahead))
      by_mid le (inr ge) = by_end le ge (cases_lt turn to)

      by_start : ((turn < at) ⊎ (at ≤ turn)) → Both
      by_start (inl lt) = outer lt (clear turn far t lt)
      by_start (inr le) = by_mid le (cases_lt turn pc)

  -- the jump back of a repeat
  pub crosses_back : (floor at end turn jump : ℕ) → Clear floor at end → turn ≡ at + 1 → jump < end → EndsWithin s (turn + 1) jump → ((far : ℕ) → ¬ TurnsAt s.code at far) → ((far : ℕ) → TurnsAt s.code turn far → far ≡ jump + 1) → turn < jump + 1 → CrossesNone s.code jump turn
  crosses_back floor at end own jump clear place high body no_first its ahead turn far t other = by_start (cases_lt turn at)
    where
      Both : Type 0
      Both = IsBetween turn far jump ↔ IsBetween turn far own

      neither : (IsBetween turn far jump → ⊥) → (IsBetween turn far own → ⊥) → Both
      neither a b = (λ x. absurd (a x), λ x. absurd (b x))

      outer : turn < at → ((far ≤ at) ⊎ ((end < far) × (D s turn ≤ floor))) → Both
      outer lt (inl le) = neither (λ x. omega (arith, x.1, le, place, ahead)) (λ x. omega (arith, x.1, le, place))
      outer lt (inr more) = (λ x. (omega (arith, lt, place), omega (arith, more.0, high, place, ahead)), λ x. (omega (arith, lt, place, ahead), omega (arith, more.0, high)))

      by_end : own < turn → ((turn < jump) ⊎ (jump ≤ turn)) → Both
      by_end lt (inl before) = let within : far ≤ jump = body turn far t (omega (arith, lt)) before in neither (λ x. omega (arith, x.1, within)) (λ x. omega (arith, x.0, lt))
      by_end lt (inr ge) = neither (λ x. omega (arith, x.0, ge)) (λ x. omega (arith, x.0, lt))

      by_own : at < turn → ((own < turn) ⊎ (turn ≤ own)) → Both
      by_own lt (inl more) = by_end more (cases_lt turn jump)
      by_own lt (inr le) =
          let same : turn ≡ own = omega (arith, lt, le, place) in
          let end_is : far ≡ jump + 1 = its far (subst (λ z. TurnsAt s.code z far) same t) in
          absurd (other (end_is, sym same))

      by_first : at ≤ turn → ((at < turn) ⊎ (turn ≤ at)) → Both
      by_first le (inl lt) = by_own lt (cases_lt own turn)
      by_first le (inr ge) = let same : turn ≡ at = omega (arith, le, ge) in absurd (no_first far (subst (λ z. TurnsAt s.code z far) same t))

      by_start : ((turn < at) ⊎ (at ≤ turn)) → Both
      by_start (inl lt) = outer lt (clear turn far t lt)
      by_start (inr le) = by_first le (cases_lt at turn)

  -- ---- what is around

  pub clear_on : (floor at end mid last : ℕ) → Clear floor at end → at ≤ mid → last ≤ end → EndsWithin s at mid → Clear floor mid last
  clear_on floor at end mid last clear low high within turn far t lt =
      elim (cases_lt turn at) [
        | inl before ↦ elim (clear turn far t before) [
          | inl le ↦ inl (omega (arith, le, low))
          | inr more ↦ inr (omega (arith, more.0, high), more.1)
        ]
        | inr after ↦ inl (within turn far t after lt)
      ]

  pub around_by : (floor at end pc : ℕ) → Clear floor at end → at ≤ pc → EndsWithin s at pc → Around pc floor
  around_by floor at end pc clear low within turn far t between =
      elim (cases_lt turn at) [
        | inl before ↦ elim (clear turn far t before) [
          | inl le ↦ absurd (omega (arith, le, low, between.1))
          | inr more ↦ more.1
        ]
        | inr after ↦ absurd (let le : far ≤ pc = within turn far t after between.0 in omega (arith, le, between.1))
      ]

  -- ---- plain places

  plains_places : (floor depth at end last : ℕ) → D s at ≡ depth → Reached s at → Plains s floor depth at end last → ((pc : ℕ) → at ≤ pc → pc < end → Around pc floor) → (pc : ℕ) → at ≤ pc → pc < end → InStretch s pc
  plains_places floor depth at end last deep r (Same e d) around pc low high = absurd (omega (arith, e, low, high))
  plains_places floor depth at end last deep r (Next x e plain suits rest) around pc low high =
      elim (cases_lt at pc) [
        | inl lt ↦ plains_places floor (depth - taken x + given x) (at + 1) end last (depth_next s at x e ∙ plain_after x at (D s at) plain ∙ ap (λ n. n - taken x + given x) deep) (plain_reach s at x e plain) rest
            (λ q le before. around q (omega (arith, le)) before) pc (omega (arith, lt)) high
        | inr le ↦ (let same : at ≡ pc = omega (arith, low, le) in
            subst (InStretch s) same (plain_place at floor x e plain (subst (λ n. Suits s floor n x) (sym deep) suits) r (around at (omega arith) (omega (arith, same, high)))))
      ]

  pub within_none : (at end : ℕ) → at ≡ end → EndsWithin s at end
  within_none at end e turn far t low high = absurd (omega (arith, e, low, high))

  pub plains_within : (floor depth at end last : ℕ) → Plains s floor depth at end last → EndsWithin s at end
  plains_within floor depth at end last plains = after_plains s floor depth at end last end plains (within_none end end refl)

  plains_part : (floor depth at end last pc : ℕ) → Plains s floor depth at end last → pc ≤ end → EndsWithin s at pc
  plains_part floor depth at end last pc plains le turn far t low high = absurd (plains_no_turn s floor depth at end last plains turn far low (omega (arith, high, le)) t)

  -- ---- all places

  -- what is known where a stretch begins
  pub record Context (floor at end : ℕ) : Type 0 where
    pub flat : Flat s floor
    pub deep : D s at ≡ floor
    pub reached : Reached s at
    pub clear : Clear floor at end
    pub open_end : IsOpen s end
    pub low : s.low ≤ at
    pub high : end < s.high

  pub plains_in : (floor at end mid last : ℕ) → Context floor at end → Plains s floor floor at mid last → (pc : ℕ) → at ≤ pc → pc < mid → InStretch s pc
  plains_in floor at end mid last c plains pc low high =
      plains_places floor floor at mid last c.deep c.reached plains (λ q le before. around_by floor at end q c.clear le (plains_part floor floor at mid last q plains (omega (arith, before)))) pc low high

  -- a stretch behind the first places of another
  pub part : (floor at end mid last : ℕ) → Context floor at end → at ≤ mid → last ≤ end → EndsWithin s at mid → D s mid ≡ floor → Reached s mid → IsOpen s last → Context floor mid last
  part floor at end mid last c low high within deep r o = record {
    flat = c.flat;
    deep = deep;
    reached = r;
    clear = clear_on floor at end mid last c.clear low high within;
    open_end = o;
    low = omega (arith, c.low, low);
    high = omega (arith, c.high, high);
  }
