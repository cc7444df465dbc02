-- One instruction of a handler: where it leads, and what becomes of the counters of loops.
use Rattle.std.proofs.Common.{◌≡◌, ◌≢◌, ℕ, zero, suc, ◌+◌, ◌-◌, ◌<◌, ◌≤◌, ◌⊎◌, inl, inr, ℤ, pos, List, [], ◌∷◌, length, refl, sym, ◌∙◌, ap, subst, Bool, true, false, arith, rules}
use Rattle.std.specs.Prelude.{Option, Some, None, slice_get}
use Rattle.std.specs.Int.{w32, int_wrapping_sub}
use Rattle.std.proofs.lemmas.Bool.{cases_lt}
use Rattle.std.proofs.lemmas.Bool.Decides.{nat_tests}
use Rattle.std.proofs.lemmas.Int.{ints, wraps}
use Rattle.cat_program.specs.Value.{is_nought}
use Rattle.cat_program.specs.Meaning.{Output}
use Rattle.cat_machine.specs.declared.instr.Instr.{Instr}
use Rattle.cat_machine.specs.declared.instr.Instr.TheVariants as i
use Rattle.cat_machine.specs.declared.instr.Mode.TheVariants.{Handler}
use Rattle.cat_machine.specs.CodeValue.{CodeValue}
use Rattle.cat_machine.specs.Held.{Held}
use Rattle.cat_machine.specs.Machine.{Stepping, goes_on}
use Rattle.cost_bounds.specs.Paths.{is_turn, opened, turn_follows, LeadsTo as PathLeads}
use Rattle.cost_bounds.specs.Pass.{is_straight}
use Rattle.cn_object.specs.Regions.{versions_begin}
use Rattle.cn_object.specs.Depths.{taken, given, ways_of, on_way, IsDepth}
use Rattle.cn_object.specs.Loops.{GoesTo, IsBetween, TurnsAt}
use Rattle.cn_object.specs.Verified.{IsVerified}
use Rattle.cn_object.specs.Fitting.{HasCounters, StandsAt}
use Rattle.object_runs.proofs.Places.{At, IsRound, one_instr, some_same, within_code, next_within, target_within, target_in_versions, goes_ahead, stack_at, one_depth, ahead_depth, loops_at, round_back, round_on, turn_within, turn_pushed, next_back, next_on}
use Rattle.object_runs.proofs.Acts.{StackMoves, Stays, GoesBy, Does, Passes, Jumps, Tests, Leaves, TurnsIn, Ends, rests}

-- ---- numbers

less_one : (n : ℕ) → n ≤ 1000 → int_wrapping_sub w32 (pos (suc n)) (pos 1) ≡ pos n
less_one n h = first_of (omega (arith, ints), search (rules, wraps), grind (arith, ints), grind (arith, nat_tests))

not_nought : (n : ℕ) → is_nought (pos (suc n)) ≡ false
not_nought n = first_of (grind (arith, ints), grind (arith, nat_tests), search rules)

nought : is_nought (pos 0) ≡ true
nought = first_of (search rules, grind (arith, ints), grind (arith, nat_tests))

number_same : (m n : ℕ) → pos m ≡ pos n → m ≡ n
number_same m n e = cc

-- a counter that isn't 0 is one above another number
above_nought : (n : ℕ) → is_nought (pos n) ≡ false → (m : ℕ) × (n ≡ suc m)
above_nought zero e = absurd (let clash : true ≡ false = sym nought ∙ e in cc)
above_nought (suc m) e = (m, refl)

is_zero : (n : ℕ) → is_nought (pos n) ≡ true → n ≡ 0
is_zero zero e = refl
is_zero (suc m) e = absurd (let clash : false ≡ true = sym (not_nought m) ∙ e in cc)

bool_cases : {P : Type 0} (b : Bool) → (b ≡ true → P) → (b ≡ false → P) → P
bool_cases true f g = f refl
bool_cases false f g = g refl

-- ---- instructions that neither jump nor end

pub straight_ways : (x : Instr) (pc depth : ℕ) → is_straight x ≡ true → ways_of x pc depth ≡ on_way x pc depth ∷ []
straight_ways (i.Jump to) pc depth s = absurd (let clash : false ≡ true = s in cc)
straight_ways (i.JumpZero to) pc depth s = absurd (let clash : false ≡ true = s in cc)
straight_ways (i.Turn to) pc depth s = absurd (let clash : false ≡ true = s in cc)
straight_ways i.End pc depth s = absurd (let clash : false ≡ true = s in cc)
straight_ways _ pc depth s = refl

pub straight_not : (x y : Instr) → is_straight x ≡ true → is_straight y ≡ false → x ≢ y
straight_not x y s t e = let clash : false ≡ true = sym t ∙ ap is_straight (sym e) ∙ s in cc

straight_leads : (b : Bool) (x : Instr) (pc : ℕ) (left : List ℕ) → is_straight x ≡ true → PathLeads b x pc left (pc + 1) (opened b x left)
straight_leads b (i.Jump to) pc left s = absurd (let clash : false ≡ true = s in cc)
straight_leads b (i.JumpZero to) pc left s = absurd (let clash : false ≡ true = s in cc)
straight_leads b (i.Turn to) pc left s = absurd (let clash : false ≡ true = s in cc)
straight_leads b i.End pc left s = absurd (let clash : false ≡ true = s in cc)
straight_leads b _ pc left s = (refl, refl)

opened_none : (x : Instr) (left : List ℕ) → opened false x left ≡ left
opened_none (i.Push n) left = refl
opened_none _ left = refl

turn_here : (o : Option Instr) → is_turn o ≡ true → (end : ℕ) × (o ≡ Some (i.Turn end))
turn_here (Some (i.Turn end)) e = (end, refl)
turn_here None e = absurd (let clash : false ≡ true = e in cc)
turn_here (Some _) e = absurd (let clash : false ≡ true = e in cc)

-- ---- the turns that are left, and the loops whose they are

abbrev pub Has : ℕ → List ℕ → Type 0
Has t [] = ⊥
Has t (u ∷ us) = (t ≡ u) ⊎ Has t us

-- each is greater than all after it
abbrev pub Falls : List ℕ → Type 0
Falls [] = Unit {0}
Falls (t ∷ ts) = ((u : ℕ) → Has u ts → u < t) × Falls ts

-- the counter of each loop is on the stack
abbrev pub CountsAre : CodeValue → ℕ → List ℤ → List ℕ → List ℕ → Type 0
CountsAre code depth stack [] [] = Unit {0}
CountsAre code depth stack [] (k ∷ left) = ⊥
CountsAre code depth stack (t ∷ ts) [] = ⊥
CountsAre code depth stack (t ∷ ts) (k ∷ left) = ((under : ℕ) → IsDepth code t under → slice_get stack (depth - under) ≡ Some (pos k)) × CountsAre code depth stack ts left

-- the loops around a place from the innermost on, whose counters are the turns that are left
pub record Matches (code : CodeValue) (pc depth : ℕ) (stack : List ℤ) (left : List ℕ) : Type 0 where
  pub loops : List ℕ
  pub falls : Falls loops
  pub each : (turn end : ℕ) → TurnsAt code turn end → IsRound turn end pc → Has turn loops
  pub all : (turn : ℕ) → Has turn loops → (end : ℕ) × TurnsAt code turn end × IsRound turn end pc
  pub counts : CountsAre code depth stack loops left

counts_move : (code : CodeValue) (depth later : ℕ) (old new : List ℤ) (loops left : List ℕ) → ((t under : ℕ) → Has t loops → IsDepth code t under → slice_get new (later - under) ≡ slice_get old (depth - under)) → CountsAre code depth old loops left → CountsAre code later new loops left
counts_move code depth later old new [] [] same c = tt
counts_move code depth later old new [] (k ∷ left) same c = absurd c
counts_move code depth later old new (t ∷ ts) [] same c = absurd c
counts_move code depth later old new (t ∷ ts) (k ∷ left) same c = (λ under d. same t under (inl refl) d ∙ c.0 under d, counts_move code depth later old new ts left (λ u under has d. same u under (inr has) d) c.1)

-- where a turn stands, its loop is the innermost
record Headed (code : CodeValue) (pc depth : ℕ) (stack : List ℤ) (loops left : List ℕ) : Type 0 where
  outer : List ℕ
  count : ℕ
  rest : List ℕ
  loops_are : loops ≡ pc ∷ outer
  left_is : left ≡ count ∷ rest
  below : (u : ℕ) → Has u outer → u < pc
  falls : Falls outer
  top : (under : ℕ) → IsDepth code pc under → slice_get stack (depth - under) ≡ Some (pos count)
  counts : CountsAre code depth stack outer rest

headed : (code : CodeValue) (pc depth : ℕ) (stack : List ℤ) (loops left : List ℕ) → Falls loops → Has pc loops → ((t : ℕ) → Has t loops → t ≤ pc) → CountsAre code depth stack loops left → Headed code pc depth stack loops left
headed code pc depth stack [] left falls has low c = absurd has
headed code pc depth stack (t ∷ ts) [] falls has low c = absurd c
headed code pc depth stack (t ∷ ts) (k ∷ rest) falls (inr later) low c = absurd (let up = falls.0 pc later in let down = low t (inl refl) in omega (arith, up, down))
headed code pc depth stack (t ∷ ts) (k ∷ rest) falls (inl same) low c = record {
  outer = ts;
  count = k;
  rest = rest;
  loops_are = ap (λ z. z ∷ ts) (sym same);
  left_is = refl;
  below = λ u has. let h = falls.0 u has in omega (arith, h, same);
  falls = falls.1;
  top = λ under d. c.0 under (subst (λ z. IsDepth code z under) same d);
  counts = c.1;
}

module _ (words tasks : ℕ) (code : CodeValue) (v : IsVerified words tasks code) where
  -- one instruction, from a place and its stack to another place and its stack
  record Move (pc : ℕ) (x : Instr) (old new : List ℤ) (depth next later took gave : ℕ) : Type 0 where
    is : At code pc x
    high : versions_begin code ≤ pc
    deep : IsDepth code pc depth
    takes : took ≡ taken x
    moves : StackMoves took gave old new
    size : length old ≡ depth
    within : next < length code.instrs
    there : IsDepth code next later
    sum : later + took ≡ depth + gave

  -- the counters of the loops around a place stay
  stays_put : (pc : ℕ) (x : Instr) (old new : List ℤ) (depth next later took gave : ℕ) → Move pc x old new depth next later took gave → (turn end under : ℕ) → TurnsAt code turn end → IsBetween turn end pc → IsDepth code turn under → slice_get new (later - under) ≡ slice_get old (depth - under)
  stays_put pc x old new depth next later took gave m turn end under at b d =
      let above = (loops_at words tasks code v pc (within_code words tasks code v pc x m.is) m.high).above x turn end under depth m.is at b d m.deep in
      let j = depth - (under + took) in
      let up : later - under ≡ gave + j = omega (arith, above, m.takes, m.sum) in
      let down : took + j ≡ depth - under = omega (arith, above, m.takes) in
      ap (slice_get new) up ∙ m.moves.same j ∙ ap (slice_get old) down

  -- where the counter of a loop comes from
  data Origin (pc later turn end : ℕ) (new : List ℤ) : Type 0 where
    Older : IsBetween turn end pc → Origin pc later turn end new
    Newer : (n : ℕ) → n ≤ 1000 → IsDepth code turn later → slice_get new 0 ≡ Some (pos n) → Origin pc later turn end new

  abbrev Origins : ℕ → ℕ → ℕ → List ℤ → Type 0
  Origins pc next later new = (turn end : ℕ) → TurnsAt code turn end → IsRound turn end next → Origin pc later turn end new

  counter_from : (pc : ℕ) (x : Instr) (old new : List ℤ) (depth next later took gave : ℕ) → Move pc x old new depth next later took gave → HasCounters code pc depth old → (turn end under : ℕ) → TurnsAt code turn end → IsDepth code turn under → Origin pc later turn end new
      → (n : ℕ) × (n ≤ 1000) × (slice_get new (later - under) ≡ Some (pos n))
  counter_from pc x old new depth next later took gave m counters turn end under at d (Older b) =
      let c = counters turn end under at (inr b) d in
      (c.0, c.1, stays_put pc x old new depth next later took gave m turn end under at b d ∙ c.2)
  counter_from pc x old new depth next later took gave m counters turn end under at d (Newer n few is top) =
      let same = one_depth words tasks code v turn under later d is in
      let none : later - under ≡ 0 = omega (arith, same) in
      (n, few, ap (slice_get new) none ∙ top)

  stands_by : (pc : ℕ) (x : Instr) (old new : List ℤ) (depth next later took gave : ℕ) → Move pc x old new depth next later took gave → HasCounters code pc depth old → Origins pc next later new → StandsAt code next new
  stands_by pc x old new depth next later took gave m counters origins = record {
    within = m.within;
    depth = later;
    is = m.there;
    stack_is = omega (arith, m.moves.size, m.size, m.sum);
    counters = λ turn end under at round d. counter_from pc x old new depth next later took gave m counters turn end under at d (origins turn end at round);
  }

  -- what comes of an instruction that doesn't end the handler
  pub record Onward (pc : ℕ) (x : Instr) (depth : ℕ) (h : Held) (s : Stepping) : Type 0 where
    pub next : ℕ
    pub place : s.after.place ≡ Some next
    pub high : versions_begin code ≤ next
    pub stands : StandsAt code next s.after.stack
    pub stays : Stays h s.after
    pub outs : List Output
    pub goes : goes_on Handler s.did ≡ Some outs
    pub leads : (left : List ℕ) → Matches code pc depth h.stack left → (later : List ℕ) × PathLeads (turn_follows code pc) x pc left next later × Matches code next stands.depth s.after.stack later

  -- ---- an instruction that goes to another place, and is no turn

  -- a loop around a place that is no turn
  around : (pc : ℕ) (x : Instr) (turn end : ℕ) → At code pc x → ((to : ℕ) → x ≢ i.Turn to) → TurnsAt code turn end → IsRound turn end pc → IsBetween turn end pc
  around pc x turn end is no_turn at (inl same) = absurd (no_turn end (one_instr code pc x (i.Turn end) is (ap (slice_get code.instrs) (sym same) ∙ at)))
  around pc x turn end is no_turn at (inr b) = b

  matches_there : (pc : ℕ) (x : Instr) (old new : List ℤ) (depth to later took gave : ℕ) (left : List ℕ) → Move pc x old new depth to later took gave → GoesTo code pc to → ((other : ℕ) → x ≢ i.Turn other) → Matches code pc depth old left → Matches code to later new left
  matches_there pc x old new depth to later took gave left m goes no_turn k = record {
    loops = k.loops;
    falls = k.falls;
    each = λ turn end at round. k.each turn end at (inr (round_back words tasks code v pc to turn end goes m.high at round));
    all = λ turn has. let found = k.all turn has in (found.0, found.1, round_on words tasks code v pc to turn found.0 goes m.high found.1 (around pc x turn found.0 m.is no_turn found.1 found.2));
    counts = counts_move code depth later old new k.loops left (λ turn under has d. let found = k.all turn has in stays_put pc x old new depth to later took gave m turn found.0 under found.1 (around pc x turn found.0 m.is no_turn found.1 found.2) d) k.counts;
  }

  origins_there : (pc to later : ℕ) (new : List ℤ) → GoesTo code pc to → versions_begin code ≤ pc → Origins pc to later new
  origins_there pc to later new goes high turn end at round = Older (round_back words tasks code v pc to turn end goes high at round)

  -- ---- an instruction that goes to the next place, and is no turn

  -- the turn at the next place, or a loop around both
  next_round : (pc : ℕ) (x : Instr) (turn end : ℕ) → At code pc x → ((to : ℕ) → x ≢ i.Turn to) → TurnsAt code turn end → IsRound turn end (pc + 1) → (turn ≡ pc + 1) ⊎ IsBetween turn end pc
  next_round pc x turn end is no_turn at (inl same) = inl same
  next_round pc x turn end is no_turn at (inr b) = inr (around pc x turn end is no_turn at (next_back words tasks code v pc turn end b))

  abbrev NoTurn : ℕ → Type 0
  NoTurn pc = (end : ℕ) → TurnsAt code pc end → ⊥

  -- where no turn follows
  matches_next : (pc : ℕ) (x : Instr) (old new : List ℤ) (depth later took gave : ℕ) (left : List ℕ) → Move pc x old new depth (pc + 1) later took gave → NoTurn (pc + 1) → ((to : ℕ) → x ≢ i.Turn to) → ((to : ℕ) → x ≢ i.Jump to) → Matches code pc depth old left → Matches code (pc + 1) later new left
  matches_next pc x old new depth later took gave left m never no_turn no_jump k = record {
    loops = k.loops;
    falls = k.falls;
    each = λ turn end at round. elim (next_round pc x turn end m.is no_turn at round) [
      | inl same ↦ absurd (never end (ap (slice_get code.instrs) (sym same) ∙ at))
      | inr b ↦ k.each turn end at (inr b)
    ];
    all = λ turn has. let found = k.all turn has in (found.0, found.1, inr (next_on words tasks code v pc turn found.0 x m.is no_jump found.1 found.2));
    counts = counts_move code depth later old new k.loops left (λ turn under has d. let found = k.all turn has in stays_put pc x old new depth (pc + 1) later took gave m turn found.0 under found.1 (around pc x turn found.0 m.is no_turn found.1 found.2) d) k.counts;
  }

  -- where a turn follows, the push before it opens its loop
  matches_opened : (pc : ℕ) (x : Instr) (old new : List ℤ) (depth later took gave n end : ℕ) (left : List ℕ) → Move pc x old new depth (pc + 1) later took gave → TurnsAt code (pc + 1) end → slice_get new 0 ≡ Some (pos n) → ((to : ℕ) → x ≢ i.Turn to) → ((to : ℕ) → x ≢ i.Jump to) → Matches code pc depth old left → Matches code (pc + 1) later new (n ∷ left)
  matches_opened pc x old new depth later took gave n far left m turns top no_turn no_jump k = record {
    loops = (pc + 1) ∷ k.loops;
    falls = (λ u has. let found = k.all u has in let low = turn_within words tasks code v u found.0 pc found.1 found.2 in omega (arith, low), k.falls);
    each = λ turn end at round. elim (next_round pc x turn end m.is no_turn at round) [
      | inl same ↦ inl same
      | inr b ↦ inr (k.each turn end at (inr b))
    ];
    all = λ turn has. by_case turn has;
    counts = (
      λ under d. let same = one_depth words tasks code v (pc + 1) under later d m.there in let none : later - under ≡ 0 = omega (arith, same) in ap (slice_get new) none ∙ top,
      counts_move code depth later old new k.loops left (λ turn under has d. let found = k.all turn has in stays_put pc x old new depth (pc + 1) later took gave m turn found.0 under found.1 (around pc x turn found.0 m.is no_turn found.1 found.2) d) k.counts,
    );
  }
    where
      by_case : (turn : ℕ) → (turn ≡ pc + 1) ⊎ Has turn k.loops → (end : ℕ) × TurnsAt code turn end × IsRound turn end (pc + 1)
      by_case turn (inl same) = (far, ap (slice_get code.instrs) same ∙ turns, inl same)
      by_case turn (inr has) = let found = k.all turn has in (found.0, found.1, inr (next_on words tasks code v pc turn found.0 x m.is no_jump found.1 found.2))

  origins_next : (pc later : ℕ) (x : Instr) (new : List ℤ) → At code pc x → IsDepth code (pc + 1) later → ((to : ℕ) → x ≢ i.Turn to) → ((n : ℤ) → x ≡ i.Push n → slice_get new 0 ≡ Some n) → Origins pc (pc + 1) later new
  origins_next pc later x new is there no_turn top turn end at round =
      elim (next_round pc x turn end is no_turn at round) [
        | inl same ↦ (let push = turn_pushed words tasks code v pc end x is (ap (slice_get code.instrs) (sym same) ∙ at) in
            Newer push.0 push.1 (subst (λ z. IsDepth code z later) (sym same) there) (top (pos push.0) push.2))
        | inr b ↦ Older b
      ]

  -- ---- each instruction

  onward_jump : (pc to : ℕ) (h : Held) (s : Stepping) (st : StandsAt code pc h.stack) → At code pc (i.Jump to) → versions_begin code ≤ pc → s.after.place ≡ Some to → s.after.stack ≡ h.stack → Stays h s.after → GoesBy Handler false s.did → Onward pc (i.Jump to) st.depth h s
  unfolding stands_by
  onward_jump pc to h s st is high place same stays goes =
      let there : GoesTo code pc to = (i.Jump to, is, refl) in
      let within = target_within words tasks code v pc to there in
      let deep : IsDepth code to st.depth = elim (cases_lt pc to) [
        | inl ahead ↦ ahead_depth words tasks code v pc to st.depth st.depth st.is ahead within (i.Jump to, 0, is, refl)
        | inr back ↦ ((stack_at words tasks code v pc st.within st.depth st.is).suits (i.Jump to) is).back to refl back
      ] in
      let m : Move pc (i.Jump to) h.stack s.after.stack st.depth to st.depth 0 0 = record {
        is = is;
        high = high;
        deep = st.is;
        takes = refl;
        moves = subst (StackMoves 0 0 h.stack) (sym same) (rests h.stack);
        size = st.stack_is;
        within = within;
        there = deep;
        sum = refl;
      } in
      record {
        next = to;
        place = place;
        high = target_in_versions words tasks code v pc to there high;
        stands = stands_by pc (i.Jump to) h.stack s.after.stack st.depth to st.depth 0 0 m st.counters (origins_there pc to st.depth s.after.stack there high);
        stays = stays;
        outs = goes.0;
        goes = goes.1;
        leads = λ left k. (left, (refl, refl), matches_there pc (i.Jump to) h.stack s.after.stack st.depth to st.depth 0 0 left m there (λ other e. cc) k);
      }

  -- a test of a jump takes its operand
  test_moves : (pc to next later : ℕ) (h : Held) (s : Stepping) (st : StandsAt code pc h.stack) → At code pc (i.JumpZero to) → versions_begin code ≤ pc → StackMoves 1 0 h.stack s.after.stack → next < length code.instrs → IsDepth code next later → later + 1 ≡ st.depth → Move pc (i.JumpZero to) h.stack s.after.stack st.depth next later 1 0
  test_moves pc to next later h s st is high moves within there sum = record { is = is; high = high; deep = st.is; takes = refl; moves = moves; size = st.stack_is; within = within; there = there; sum = omega (arith, sum) }

  onward_test : (pc to next : ℕ) (h : Held) (s : Stepping) (st : StandsAt code pc h.stack) → At code pc (i.JumpZero to) → versions_begin code ≤ pc → (next ≡ to) ⊎ (next ≡ pc + 1) → s.after.place ≡ Some next → StackMoves 1 0 h.stack s.after.stack → Stays h s.after → GoesBy Handler true s.did → Onward pc (i.JumpZero to) st.depth h s
  unfolding stands_by
  onward_test pc to next h s st is high (inl same) place moves stays goes =
      let there : GoesTo code pc to = (i.JumpZero to, is, refl) in
      let within = target_within words tasks code v pc to there in
      let ahead = goes_ahead words tasks code v pc to (i.JumpZero to) is refl (λ e. cc) in
      let finds = ((stack_at words tasks code v pc st.within st.depth st.is).suits (i.JumpZero to) is).finds in
      let deep : IsDepth code to (st.depth - 1) = ahead_depth words tasks code v pc to st.depth (st.depth - 1) st.is ahead within (i.JumpZero to, 1, is, refl) in
      let m = test_moves pc to to (st.depth - 1) h s st is high moves within deep (omega (arith, finds)) in
      record {
        next = to;
        place = place ∙ ap Some same;
        high = target_in_versions words tasks code v pc to there high;
        stands = stands_by pc (i.JumpZero to) h.stack s.after.stack st.depth to (st.depth - 1) 1 0 m st.counters (origins_there pc to (st.depth - 1) s.after.stack there high);
        stays = stays;
        outs = goes.0;
        goes = goes.1;
        leads = λ left k. (left, (inl refl, refl), matches_there pc (i.JumpZero to) h.stack s.after.stack st.depth to (st.depth - 1) 1 0 left m there (λ other e. cc) k);
      }
  onward_test pc to next h s st is high (inr same) place moves stays goes =
      let within = next_within words tasks code v pc (i.JumpZero to) is (λ e. cc) in
      let finds = ((stack_at words tasks code v pc st.within st.depth st.is).suits (i.JumpZero to) is).finds in
      let deep : IsDepth code (pc + 1) (st.depth - 1 + 0) = ahead_depth words tasks code v pc (pc + 1) st.depth (st.depth - 1 + 0) st.is (omega arith) within (i.JumpZero to, 0, is, refl) in
      let m = test_moves pc to (pc + 1) (st.depth - 1 + 0) h s st is high moves within deep (omega (arith, finds)) in
      let never : NoTurn (pc + 1) = λ end at. (let push = turn_pushed words tasks code v pc end (i.JumpZero to) is at in let clash : i.JumpZero to ≡ i.Push (pos push.0) = push.2 in cc) in
      record {
        next = pc + 1;
        place = place ∙ ap Some same;
        high = omega (arith, high);
        stands = stands_by pc (i.JumpZero to) h.stack s.after.stack st.depth (pc + 1) (st.depth - 1 + 0) 1 0 m st.counters (origins_next pc (st.depth - 1 + 0) (i.JumpZero to) s.after.stack is deep (λ other e. cc) (λ n e. absurd (let clash : i.JumpZero to ≡ i.Push n = e in cc)));
        stays = stays;
        outs = goes.0;
        goes = goes.1;
        leads = λ left k. (left, (inr refl, refl), matches_next pc (i.JumpZero to) h.stack s.after.stack st.depth (st.depth - 1 + 0) 1 0 left m never (λ other e. cc) (λ other e. cc) k);
      }

  onward_straight : (pc : ℕ) (x : Instr) (h : Held) (s : Stepping) (st : StandsAt code pc h.stack) → At code pc x → versions_begin code ≤ pc → is_straight x ≡ true → s.after.place ≡ Some (pc + 1) → StackMoves (taken x) (given x) h.stack s.after.stack → Stays h s.after → (outs : List Output) × (goes_on Handler s.did ≡ Some outs)
      → ((n : ℤ) → x ≡ i.Push n → slice_get s.after.stack 0 ≡ Some n) → Onward pc x st.depth h s
  unfolding stands_by
  onward_straight pc x h s st is high straight place moves stays goes top =
      let within = next_within words tasks code v pc x is (straight_not x i.End straight refl) in
      let finds = ((stack_at words tasks code v pc st.within st.depth st.is).suits x is).finds in
      let later = st.depth - taken x + given x in
      let deep : IsDepth code (pc + 1) later = ahead_depth words tasks code v pc (pc + 1) st.depth later st.is (omega arith) within (x, 0, is, ap (λ ws. slice_get ws 0) (straight_ways x pc st.depth straight)) in
      let no_turn : (to : ℕ) → x ≢ i.Turn to = λ to. straight_not x (i.Turn to) straight refl in
      let no_jump : (to : ℕ) → x ≢ i.Jump to = λ to. straight_not x (i.Jump to) straight refl in
      let m : Move pc x h.stack s.after.stack st.depth (pc + 1) later (taken x) (given x) = record { is = is; high = high; deep = st.is; takes = refl; moves = moves; size = st.stack_is; within = within; there = deep; sum = omega (arith, finds) } in
      record {
        next = pc + 1;
        place = place;
        high = omega (arith, high);
        stands = stands_by pc x h.stack s.after.stack st.depth (pc + 1) later (taken x) (given x) m st.counters (origins_next pc later x s.after.stack is deep no_turn top);
        stays = stays;
        outs = goes.0;
        goes = goes.1;
        leads = λ left k. (
          opened (turn_follows code pc) x left,
          straight_leads (turn_follows code pc) x pc left straight,
          bool_cases (turn_follows code pc)
              (λ e. let t = turn_here (slice_get code.instrs (pc + 1)) e in
              let push = turn_pushed words tasks code v pc t.0 x is t.1 in
              let left_is : opened (turn_follows code pc) x left ≡ push.0 ∷ left = ap (λ b. opened b x left) e ∙ ap (λ y. opened true y left) push.2 in
              subst (Matches code (pc + 1) later s.after.stack) (sym left_is) (matches_opened pc x h.stack s.after.stack st.depth later (taken x) (given x) push.0 t.0 left m t.1 (top (pos push.0) push.2) no_turn no_jump k))
              (λ e. let left_is : opened (turn_follows code pc) x left ≡ left = ap (λ b. opened b x left) e ∙ opened_none x left in
              let never : NoTurn (pc + 1) = λ end at. (let clash : true ≡ false = sym (ap is_turn at) ∙ e in cc) in
              subst (Matches code (pc + 1) later s.after.stack) (sym left_is) (matches_next pc x h.stack s.after.stack st.depth later (taken x) (given x) left m never no_turn no_jump k)),
        );
      }

  -- ---- a turn

  -- its counter is the top of the stack
  turn_counter : (pc to : ℕ) (h : Held) (st : StandsAt code pc h.stack) → TurnsAt code pc to → (n : ℕ) × (n ≤ 1000) × (slice_get h.stack 0 ≡ Some (pos n))
  turn_counter pc to h st is =
      let c = st.counters pc to st.depth is (inl refl) st.is in
      let none : st.depth - st.depth ≡ 0 = omega arith in
      (c.0, c.1, ap (slice_get h.stack) (sym none) ∙ c.2)

  turn_headed : (pc to depth : ℕ) (stack : List ℤ) (left : List ℕ) → TurnsAt code pc to → (k : Matches code pc depth stack left) → Headed code pc depth stack k.loops left
  turn_headed pc to depth stack left is k =
      headed code pc depth stack k.loops left k.falls (k.each pc to is (inl refl)) (λ t has. let found = k.all t has in turn_within words tasks code v t found.0 pc found.1 found.2) k.counts

  head_counts : (pc depth n : ℕ) (stack : List ℤ) (loops left : List ℕ) → IsDepth code pc depth → (hd : Headed code pc depth stack loops left) → slice_get stack 0 ≡ Some (pos n) → hd.count ≡ n
  head_counts pc depth n stack loops left d hd top =
      let none : depth - depth ≡ 0 = omega arith in
      number_same hd.count n (some_same (pos hd.count) (pos n) (sym (hd.top depth d) ∙ ap (slice_get stack) none ∙ top))

  -- a loop outside that of the turn
  outer_around : (pc depth : ℕ) (stack : List ℤ) (left : List ℕ) (k : Matches code pc depth stack left) (hd : Headed code pc depth stack k.loops left) → (t : ℕ) → Has t hd.outer → (end : ℕ) × TurnsAt code t end × IsBetween t end pc
  outer_around pc depth stack left k hd t has =
      let found = k.all t (subst (Has t) (sym hd.loops_are) (inr has)) in
      (found.0, found.1, elim found.2 [ inl same ↦ absurd (let low = hd.below t has in omega (arith, low, same)) | inr b ↦ b ])

  onward_leaves : (pc to : ℕ) (top : ℤ) (h : Held) (s : Stepping) (st : StandsAt code pc h.stack) → At code pc (i.Turn to) → versions_begin code ≤ pc → slice_get h.stack 0 ≡ Some top → is_nought top ≡ true → s.after.place ≡ Some to → StackMoves 1 0 h.stack s.after.stack → Stays h s.after → (outs : List Output) × (goes_on Handler s.did ≡ Some outs) → Onward pc (i.Turn to) st.depth h s
  unfolding stands_by
  onward_leaves pc to top h s st is high top_is zero_is place moves stays goes =
      let there : GoesTo code pc to = (i.Turn to, is, refl) in
      let within = target_within words tasks code v pc to there in
      let ahead = goes_ahead words tasks code v pc to (i.Turn to) is refl (λ e. cc) in
      let finds = ((stack_at words tasks code v pc st.within st.depth st.is).suits (i.Turn to) is).finds in
      let later = st.depth - 1 in
      let deep : IsDepth code to later = ahead_depth words tasks code v pc to st.depth later st.is ahead within (i.Turn to, 1, is, refl) in
      let m : Move pc (i.Turn to) h.stack s.after.stack st.depth to later 1 0 = record { is = is; high = high; deep = st.is; takes = refl; moves = moves; size = st.stack_is; within = within; there = deep; sum = omega (arith, finds) } in
      let c = turn_counter pc to h st is in
      let number : top ≡ pos c.0 = some_same top (pos c.0) (sym top_is ∙ c.2) in
      let none : c.0 ≡ 0 = is_zero c.0 (ap is_nought (sym number) ∙ zero_is) in
      record {
        next = to;
        place = place;
        high = target_in_versions words tasks code v pc to there high;
        stands = stands_by pc (i.Turn to) h.stack s.after.stack st.depth to later 1 0 m st.counters (origins_there pc to later s.after.stack there high);
        stays = stays;
        outs = goes.0;
        goes = goes.1;
        leads = λ left k.
            let hd = turn_headed pc to st.depth h.stack left is k in
            let count : hd.count ≡ 0 = head_counts pc st.depth c.0 h.stack k.loops left st.is hd c.2 ∙ none in
            let left_is : left ≡ 0 ∷ hd.rest = hd.left_is ∙ ap (λ z. z ∷ hd.rest) count in (
              hd.rest,
              subst (λ z. PathLeads (turn_follows code pc) (i.Turn to) pc z to hd.rest) (sym left_is) (refl, refl),
              record {
                loops = hd.outer;
                falls = hd.falls;
                each = λ turn end at round.
                    let b = round_back words tasks code v pc to turn end there high at round in
                    elim (subst (Has turn) hd.loops_are (k.each turn end at (inr b))) [ inl same ↦ absurd (omega (arith, b.0, same)) | inr has ↦ has ];
                all = λ turn has. let found = outer_around pc st.depth h.stack left k hd turn has in (found.0, found.1, round_on words tasks code v pc to turn found.0 there high found.1 found.2);
                counts = counts_move code st.depth later h.stack s.after.stack hd.outer hd.rest (λ turn under has d. let found = outer_around pc st.depth h.stack left k hd turn has in stays_put pc (i.Turn to) h.stack s.after.stack st.depth to later 1 0 m turn found.0 under found.1 found.2 d) hd.counts;
              },
            );
      }

  onward_turns : (pc to : ℕ) (top : ℤ) (h : Held) (s : Stepping) (st : StandsAt code pc h.stack) → At code pc (i.Turn to) → versions_begin code ≤ pc → slice_get h.stack 0 ≡ Some top → is_nought top ≡ false → slice_get s.after.stack 0 ≡ Some (int_wrapping_sub w32 top (pos 1)) → s.after.place ≡ Some (pc + 1) → StackMoves 1 1 h.stack s.after.stack → Stays h s.after
      → (outs : List Output) × (goes_on Handler s.did ≡ Some outs) → Onward pc (i.Turn to) st.depth h s
  unfolding stands_by
  onward_turns pc to top h s st is high top_is some_is new_top place moves stays goes =
      let within = next_within words tasks code v pc (i.Turn to) is (λ e. cc) in
      let finds = ((stack_at words tasks code v pc st.within st.depth st.is).suits (i.Turn to) is).finds in
      let later = st.depth - 1 + 1 in
      let deep : IsDepth code (pc + 1) later = ahead_depth words tasks code v pc (pc + 1) st.depth later st.is (omega arith) within (i.Turn to, 0, is, refl) in
      let m : Move pc (i.Turn to) h.stack s.after.stack st.depth (pc + 1) later 1 1 = record { is = is; high = high; deep = st.is; takes = refl; moves = moves; size = st.stack_is; within = within; there = deep; sum = omega (arith, finds) } in
      let same_depth : later ≡ st.depth = omega (arith, finds) in
      let c = turn_counter pc to h st is in
      let number : top ≡ pos c.0 = some_same top (pos c.0) (sym top_is ∙ c.2) in
      let less = above_nought c.0 (ap is_nought (sym number) ∙ some_is) in
      let few : less.0 ≤ 1000 = omega (arith, c.1, less.1) in
      let now : slice_get s.after.stack 0 ≡ Some (pos less.0) = new_top ∙ ap (λ z. Some (int_wrapping_sub w32 z (pos 1))) (number ∙ ap pos less.1) ∙ ap Some (less_one less.0 few) in
      let never : NoTurn (pc + 1) = λ end at. (let push = turn_pushed words tasks code v pc end (i.Turn to) is at in let clash : i.Turn to ≡ i.Push (pos push.0) = push.2 in cc) in
      let round_here : (turn end : ℕ) → TurnsAt code turn end → IsRound turn end (pc + 1) → IsRound turn end pc = λ turn end at round. elim round [
        | inl same ↦ absurd (never end (ap (slice_get code.instrs) (sym same) ∙ at))
        | inr b ↦ next_back words tasks code v pc turn end b
      ] in
      let origins : Origins pc (pc + 1) later s.after.stack = λ turn end at round. elim (round_here turn end at round) [
        | inl same ↦ Newer less.0 few (subst (λ z. IsDepth code turn z) (sym same_depth) (subst (λ z. IsDepth code z st.depth) (sym same) st.is)) now
        | inr b ↦ Older b
      ] in
      record {
        next = pc + 1;
        place = place;
        high = omega (arith, high);
        stands = stands_by pc (i.Turn to) h.stack s.after.stack st.depth (pc + 1) later 1 1 m st.counters origins;
        stays = stays;
        outs = goes.0;
        goes = goes.1;
        leads = λ left k.
            let hd = turn_headed pc to st.depth h.stack left is k in
            let count : hd.count ≡ suc less.0 = head_counts pc st.depth c.0 h.stack k.loops left st.is hd c.2 ∙ less.1 in
            let left_is : left ≡ suc less.0 ∷ hd.rest = hd.left_is ∙ ap (λ z. z ∷ hd.rest) count in (
              less.0 ∷ hd.rest,
              subst (λ z. PathLeads (turn_follows code pc) (i.Turn to) pc z (pc + 1) (less.0 ∷ hd.rest)) (sym left_is) (refl, refl),
              record {
                loops = pc ∷ hd.outer;
                falls = (hd.below, hd.falls);
                each = λ turn end at round. subst (Has turn) hd.loops_are (k.each turn end at (round_here turn end at round));
                all = λ turn has. let found = k.all turn (subst (Has turn) (sym hd.loops_are) has) in (found.0, found.1, inr (next_on words tasks code v pc turn found.0 (i.Turn to) is (λ other e. cc) found.1 found.2));
                counts = (
                  λ under d. let same = one_depth words tasks code v pc under st.depth d st.is in let none : later - under ≡ 0 = omega (arith, same, same_depth) in ap (slice_get s.after.stack) none ∙ now,
                  counts_move code st.depth later h.stack s.after.stack hd.outer hd.rest (λ turn under has d. let found = outer_around pc st.depth h.stack left k hd turn has in stays_put pc (i.Turn to) h.stack s.after.stack st.depth (pc + 1) later 1 1 m turn found.0 under found.1 found.2 d) hd.counts,
                );
              },
            );
      }

  onward_as : (pc : ℕ) (x y : Instr) (depth : ℕ) (h : Held) (s : Stepping) → x ≡ y → Onward pc y depth h s → Onward pc x depth h s
  onward_as pc x y depth h s e o = subst (λ z. Onward pc z depth h s) (sym e) o

  pub onward : (pc : ℕ) (x : Instr) (h : Held) (s : Stepping) (st : StandsAt code pc h.stack) → At code pc x → versions_begin code ≤ pc → x ≢ i.End → Does Handler pc h x s → Onward pc x st.depth h s
  onward pc x h s st is high on (Passes straight place moves stays goes top) = onward_straight pc x h s st is high straight place moves stays goes top
  onward pc x h s st is high on (Jumps to e place same stays goes) = onward_as pc x (i.Jump to) st.depth h s e (onward_jump pc to h s st (is ∙ ap Some e) high place same stays goes)
  onward pc x h s st is high on (Tests to next e way place moves stays goes) = onward_as pc x (i.JumpZero to) st.depth h s e (onward_test pc to next h s st (is ∙ ap Some e) high way place moves stays goes)
  onward pc x h s st is high on (Leaves to top e mode top_is zero_is place moves stays goes) = onward_as pc x (i.Turn to) st.depth h s e (onward_leaves pc to top h s st (is ∙ ap Some e) high top_is zero_is place moves stays goes)
  onward pc x h s st is high on (TurnsIn to top e mode top_is some_is now place moves stays goes) = onward_as pc x (i.Turn to) st.depth h s e (onward_turns pc to top h s st (is ∙ ap Some e) high top_is some_is now place moves stays goes)
  onward pc x h s st is high on (Ends e stack kept w p ends) = absurd (on e)
