-- One instruction of a task: where it leads, and how a section ends.
use Rattle.std.proofs.Common.{◌≡◌, ◌≢◌, ℕ, ◌+◌, ◌-◌, ◌<◌, ◌⊎◌, inl, inr, ℤ, List, [], length, refl, sym, ◌∙◌, ap, subst, true, false, arith}
use Rattle.std.specs.Prelude.{Option, Some, None, slice_get}
use Rattle.std.proofs.lemmas.Bool.{cases_lt}
use Rattle.std.proofs.lemmas.List.{nil_from_length}
use Rattle.cat_program.specs.Meaning.{first_posted}
use Rattle.cat_machine.specs.declared.instr.Instr.{Instr}
use Rattle.cat_machine.specs.declared.instr.Instr.TheVariants as i
use Rattle.cat_machine.specs.declared.instr.Mode.TheVariants.{Task, Handler}
use Rattle.cat_machine.specs.declared.instr.Did.TheVariants.{Went}
use Rattle.cat_machine.specs.CodeValue.{CodeValue}
use Rattle.cat_machine.specs.Held.{Held}
use Rattle.cat_machine.specs.Machine.{Stepping, entry_of, goes_on, next_of, place_or}
use Rattle.cost_bounds.specs.Paths.{acts, place_after}
use Rattle.cost_bounds.specs.Pass.{is_straight}
use Rattle.cn_object.specs.Regions.{versions_begin}
use Rattle.cn_object.specs.Depths.{taken, given, IsDepth}
use Rattle.cn_object.specs.Loops.{GoesTo}
use Rattle.cn_object.specs.Verified.{IsVerified}
use Rattle.cn_object.specs.Fitting.{CanBeKept, HasCounters, IsTaskPlace, StandsAt, StandsIn, Idle, InTask, InVersion}
use Rattle.object_runs.proofs.Places.{At, some_same, in_code, next_within, next_in_tasks, next_no_begin, target_within, target_in_tasks, target_no_begin, goes_ahead, stack_at, entry_depth, ahead_depth, task_entry, task_entry_low, turn_in_versions, turn_within}
use Rattle.object_runs.proofs.Acts.{StackMoves, Stays, GoesBy, Does, Passes, Jumps, Tests, Leaves, TurnsIn, Ends}
use Rattle.object_runs.proofs.Onward.{straight_not, straight_ways}

straight_after : (x : Instr) (pc : ℕ) → is_straight x ≡ true → place_after x pc ≡ pc + 1
straight_after (i.Jump to) pc s = absurd (let clash : false ≡ true = s in cc)
straight_after _ pc s = refl

-- an instruction that acts leaves no operand
acts_given : (x : Instr) → is_straight x ≡ true → acts x ≡ true → given x ≡ 0
acts_given (i.Push n) s a = absurd (let clash : false ≡ true = a in cc)
acts_given (i.Load w) s a = absurd (let clash : false ≡ true = a in cc)
acts_given i.Payload s a = absurd (let clash : false ≡ true = a in cc)
acts_given (i.Signed sign) s a = absurd (let clash : false ≡ true = a in cc)
acts_given (i.Operate operator) s a = absurd (let clash : false ≡ true = a in cc)
acts_given (i.LoadAt base len) s a = absurd (let clash : false ≡ true = a in cc)
acts_given (i.Turn to) s a = absurd (let clash : false ≡ true = s in cc)
acts_given _ s a = refl

pub no_stack : (stack : List ℤ) (n : ℕ) → length stack ≡ n → n ≡ 0 → stack ≡ []
no_stack stack n e z = nil_from_length stack (e ∙ z)

module _ (words tasks : ℕ) (code : CodeValue) (v : IsVerified words tasks code) where
  -- no loop is around a place of a task
  pub task_counters : (pc depth : ℕ) (stack : List ℤ) → pc < versions_begin code → HasCounters code pc depth stack
  task_counters pc depth stack low turn end under at round d =
      absurd (let high = turn_in_versions words tasks code v turn end at in let before = turn_within words tasks code v turn end pc at round in omega (arith, low, high, before))

  pub task_stands : (pc depth : ℕ) (stack : List ℤ) → pc < length code.instrs → pc < versions_begin code → IsDepth code pc depth → length stack ≡ depth → StandsAt code pc stack
  task_stands pc depth stack within low is size = record { within = within; depth = depth; is = is; stack_is = size; counters = task_counters pc depth stack low }

  -- at a place of a task, to which a section has come or where one begins
  pub record IsIn (h : Held) (pc : ℕ) : Type 0 where
    pub kept : h.kept ≡ None
    pub next : next_of code h ≡ Some pc
    pub low : pc < versions_begin code
    pub stands : StandsAt code pc h.stack

  -- a section that goes on
  pub record GoesFurther (pc : ℕ) (x : Instr) (h : Held) (s : Stepping) : Type 0 where
    pub went : s.did ≡ Went
    pub goes : goes_on Task s.did ≡ Some []
    pub place : s.after.place ≡ Some (place_after x pc)
    pub stays : Stays h s.after
    pub task : IsTaskPlace code (place_after x pc)
    pub stands : StandsAt code (place_after x pc) s.after.stack

  -- a section that has ended
  pub record IsOver (h : Held) (s : Stepping) : Type 0 where
    pub stops : goes_on Task s.did ≡ None
    pub words_are : length s.after.words ≡ length h.words
    pub posts_are : length s.after.posts ≡ length h.posts
    pub free : s.after.kept ≡ None
    pub empty : s.after.stack ≡ []
    pub place : CanBeKept code s.after.place

  goes_further : (pc next later : ℕ) (x : Instr) (h : Held) (s : Stepping) → place_after x pc ≡ next → s.did ≡ Went → s.after.place ≡ Some next → Stays h s.after → next < length code.instrs → next < versions_begin code → ((t : ℕ) → slice_get code.instrs next ≢ Some (i.Begin t)) → IsDepth code next later → length s.after.stack ≡ later → GoesFurther pc x h s
  goes_further pc next later x h s e went place stays within low no_begin is size = record {
    went = went;
    goes = ap (goes_on Task) went;
    place = place ∙ ap Some (sym e);
    stays = stays;
    task = subst (IsTaskPlace code) (sym e) (record { task = low; no_begin = no_begin });
    stands = subst (λ z. StandsAt code z s.after.stack) (sym e) (task_stands next later s.after.stack within low is size);
  }

  is_over : (next later : ℕ) (h : Held) (s : Stepping) → h.kept ≡ None → goes_on Task s.did ≡ None → s.after.place ≡ Some next → Stays h s.after → next < versions_begin code → ((t : ℕ) → slice_get code.instrs next ≢ Some (i.Begin t)) → IsDepth code next later → length s.after.stack ≡ later → later ≡ 0 → IsOver h s
  is_over next later h s kept stops place stays low no_begin is size none = record {
    stops = stops;
    words_are = stays.words;
    posts_are = stays.posts;
    free = stays.kept ∙ kept;
    empty = no_stack s.after.stack later size none;
    place = subst (CanBeKept code) (sym place) (record { task = low; no_begin = no_begin }, subst (IsDepth code next) none is);
  }

  -- ---- an instruction that doesn't act

  further_straight : (pc : ℕ) (x : Instr) (h : Held) (s : Stepping) → IsIn h pc → At code pc x → acts x ≡ false → is_straight x ≡ true → s.after.place ≡ Some (pc + 1) → StackMoves (taken x) (given x) h.stack s.after.stack → Stays h s.after → GoesBy Task (acts x) s.did → GoesFurther pc x h s
  further_straight pc x h s t is quiet straight place moves stays goes =
      let st = t.stands in
      let on : x ≢ i.End = straight_not x i.End straight refl in
      let within = next_within words tasks code v pc x is on in
      let finds = ((stack_at words tasks code v pc st.within st.depth st.is).suits x is).finds in
      let later = st.depth - taken x + given x in
      let deep : IsDepth code (pc + 1) later = ahead_depth words tasks code v pc (pc + 1) st.depth later st.is (omega arith) within (x, 0, is, ap (λ ws. slice_get ws 0) (straight_ways x pc st.depth straight)) in
      goes_further pc (pc + 1) later x h s (straight_after x pc straight) (subst (λ b. GoesBy Task b s.did) quiet goes) place stays within (next_in_tasks words tasks code v pc x is on t.low) (next_no_begin words tasks code v pc x is on) deep
      (omega (arith, moves.size, st.stack_is, finds))

  further_jump : (pc to : ℕ) (h : Held) (s : Stepping) → IsIn h pc → At code pc (i.Jump to) → s.after.place ≡ Some to → s.after.stack ≡ h.stack → Stays h s.after → s.did ≡ Went → GoesFurther pc (i.Jump to) h s
  further_jump pc to h s t is place same stays went =
      let st = t.stands in
      let there : GoesTo code pc to = (i.Jump to, is, refl) in
      let within = target_within words tasks code v pc to there in
      let deep : IsDepth code to st.depth = elim (cases_lt pc to) [
        | inl ahead ↦ ahead_depth words tasks code v pc to st.depth st.depth st.is ahead within (i.Jump to, 0, is, refl)
        | inr back ↦ ((stack_at words tasks code v pc st.within st.depth st.is).suits (i.Jump to) is).back to refl back
      ] in
      goes_further pc to st.depth (i.Jump to) h s refl went place stays within (target_in_tasks words tasks code v pc to there t.low) (target_no_begin words tasks code v pc to there) deep (ap length same ∙ st.stack_is)

  further_as : (pc : ℕ) (x y : Instr) (h : Held) (s : Stepping) → x ≡ y → GoesFurther pc y h s → GoesFurther pc x h s
  further_as pc x y h s e g = subst (λ z. GoesFurther pc z h s) (sym e) g

  pub further : (pc : ℕ) (x : Instr) (h : Held) (s : Stepping) → IsIn h pc → At code pc x → acts x ≡ false → Does Task pc h x s → GoesFurther pc x h s
  further pc x h s t is quiet (Passes straight place moves stays goes top) = further_straight pc x h s t is quiet straight place moves stays goes
  further pc x h s t is quiet (Jumps to e place same stays goes) = further_as pc x (i.Jump to) h s e (further_jump pc to h s t (is ∙ ap Some e) place same stays goes)
  further pc x h s t is quiet (Tests to next e way place moves stays goes) = absurd (let clash : true ≡ false = ap acts (sym e) ∙ quiet in cc)
  further pc x h s t is quiet (Leaves to top e mode a b place moves stays goes) = absurd (let clash : Task ≡ Handler = mode in cc)
  further pc x h s t is quiet (TurnsIn to top e mode a b now place moves stays goes) = absurd (let clash : Task ≡ Handler = mode in cc)
  further pc x h s t is quiet (Ends e stack kept w p ends) = absurd (let clash : true ≡ false = ap acts (sym e) ∙ quiet in cc)

  -- the section stands at its next place
  pub further_in : (pc : ℕ) (x : Instr) (h : Held) (s : Stepping) → IsIn h pc → GoesFurther pc x h s → IsIn s.after (place_after x pc)
  further_in pc x h s t g = record { kept = g.stays.kept ∙ t.kept; next = ap (place_or code s.after.posts) g.place; low = g.task.task; stands = g.stands }

  -- ---- an instruction that acts

  over_straight : (pc : ℕ) (x : Instr) (h : Held) (s : Stepping) → IsIn h pc → At code pc x → acts x ≡ true → is_straight x ≡ true → s.after.place ≡ Some (pc + 1) → StackMoves (taken x) (given x) h.stack s.after.stack → Stays h s.after → GoesBy Task (acts x) s.did → IsOver h s
  over_straight pc x h s t is acting straight place moves stays goes =
      let st = t.stands in
      let on : x ≢ i.End = straight_not x i.End straight refl in
      let within = next_within words tasks code v pc x is on in
      let suits = (stack_at words tasks code v pc st.within st.depth st.is).suits x is in
      let all = suits.acting t.low acting in
      let none = acts_given x straight acting in
      let later = st.depth - taken x + given x in
      let deep : IsDepth code (pc + 1) later = ahead_depth words tasks code v pc (pc + 1) st.depth later st.is (omega arith) within (x, 0, is, ap (λ ws. slice_get ws 0) (straight_ways x pc st.depth straight)) in
      is_over (pc + 1) later h s t.kept (subst (λ b. GoesBy Task b s.did) acting goes) place stays (next_in_tasks words tasks code v pc x is on t.low) (next_no_begin words tasks code v pc x is on) deep (omega (arith, moves.size, st.stack_is, suits.finds)) (omega (arith, all, none))

  over_test : (pc to next : ℕ) (h : Held) (s : Stepping) → IsIn h pc → At code pc (i.JumpZero to) → (next ≡ to) ⊎ (next ≡ pc + 1) → s.after.place ≡ Some next → StackMoves 1 0 h.stack s.after.stack → Stays h s.after → goes_on Task s.did ≡ None → IsOver h s
  over_test pc to next h s t is (inl same) place moves stays stops =
      let st = t.stands in
      let there : GoesTo code pc to = (i.JumpZero to, is, refl) in
      let within = target_within words tasks code v pc to there in
      let ahead = goes_ahead words tasks code v pc to (i.JumpZero to) is refl (λ e. cc) in
      let suits = (stack_at words tasks code v pc st.within st.depth st.is).suits (i.JumpZero to) is in
      let all = suits.acting t.low refl in
      let deep : IsDepth code to (st.depth - 1) = ahead_depth words tasks code v pc to st.depth (st.depth - 1) st.is ahead within (i.JumpZero to, 1, is, refl) in
      is_over to (st.depth - 1) h s t.kept stops (place ∙ ap Some same) stays (target_in_tasks words tasks code v pc to there t.low) (target_no_begin words tasks code v pc to there) deep (omega (arith, moves.size, st.stack_is, suits.finds)) (omega (arith, all))
  over_test pc to next h s t is (inr same) place moves stays stops =
      let st = t.stands in
      let on : i.JumpZero to ≢ i.End = λ e. cc in
      let within = next_within words tasks code v pc (i.JumpZero to) is on in
      let suits = (stack_at words tasks code v pc st.within st.depth st.is).suits (i.JumpZero to) is in
      let all = suits.acting t.low refl in
      let later = st.depth - 1 + 0 in
      let deep : IsDepth code (pc + 1) later = ahead_depth words tasks code v pc (pc + 1) st.depth later st.is (omega arith) within (i.JumpZero to, 0, is, refl) in
      is_over (pc + 1) later h s t.kept stops (place ∙ ap Some same) stays (next_in_tasks words tasks code v pc (i.JumpZero to) is on t.low) (next_no_begin words tasks code v pc (i.JumpZero to) is on) deep (omega (arith, moves.size, st.stack_is, suits.finds)) (omega (arith, all))

  pub over : (pc : ℕ) (x : Instr) (h : Held) (s : Stepping) → IsIn h pc → At code pc x → acts x ≡ true → Does Task pc h x s → IsOver h s
  over pc x h s t is acting (Passes straight place moves stays goes top) = over_straight pc x h s t is acting straight place moves stays goes
  over pc x h s t is acting (Jumps to e place same stays goes) = absurd (let clash : false ≡ true = ap acts (sym e) ∙ acting in cc)
  over pc x h s t is acting (Tests to next e way place moves stays goes) = over_test pc to next h s t (is ∙ ap Some e) way place moves stays goes
  over pc x h s t is acting (Leaves to top e mode a b place moves stays goes) = absurd (let clash : Task ≡ Handler = mode in cc)
  over pc x h s t is acting (TurnsIn to top e mode a b now place moves stays goes) = absurd (let clash : Task ≡ Handler = mode in cc)
  over pc x h s t is acting (Ends e stack kept w p ends) =
      let st = t.stands in
      let none = ((stack_at words tasks code v pc st.within st.depth st.is).suits x is).ends e in
      record {
        stops = ap (goes_on Task) ends.0;
        words_are = w;
        posts_are = p;
        free = kept;
        empty = stack ∙ no_stack h.stack st.depth st.stack_is none;
        place = subst (CanBeKept code) (sym ends.1) tt;
      }

  -- ---- between two sections

  place_stands : (h : Held) (o : Option ℕ) → h.place ≡ o → h.kept ≡ None → h.stack ≡ [] → CanBeKept code o → StandsIn code h
  place_stands h None place kept empty can = Idle kept place empty
  place_stands h (Some pc) place kept empty can =
      InTask pc kept place can.0 (task_stands pc 0 h.stack (in_code words tasks code v pc can.0.task) can.0.task can.1 (ap length empty))

  pub rest_stands : (h : Held) → h.kept ≡ None → h.stack ≡ [] → CanBeKept code h.place → StandsIn code h
  rest_stands h kept empty can = place_stands h h.place refl kept empty can

  posted_at : (o : Option ℕ) (pc : ℕ) → entry_of code o ≡ Some pc → (t : ℕ) × (slice_get code.tasks t ≡ Some pc)
  posted_at None pc e = absurd (let clash : None ≡ Some pc = e in cc)
  posted_at (Some t) pc e = (t, e)

  idle_in : (h : Held) (pc : ℕ) → h.kept ≡ None → h.place ≡ None → h.stack ≡ [] → next_of code h ≡ Some pc → IsIn h pc
  idle_in h pc kept place empty next =
      let from : entry_of code (first_posted h.posts) ≡ Some pc = sym (ap (place_or code h.posts) place) ∙ next in
      let entry = posted_at (first_posted h.posts) pc from in
      let begins = task_entry code entry.0 pc entry.1 in
      let within = v.entries.within begins.0 pc begins.1 in
      let low = task_entry_low words tasks code v entry.0 pc entry.1 in
      record { kept = kept; next = next; low = low; stands = task_stands pc 0 h.stack within low (entry_depth words tasks code v pc within begins) (ap length empty) }

  -- where the next instruction of a task stands
  pub stands_task : (h : Held) (pc : ℕ) → StandsIn code h → h.kept ≡ None → next_of code h ≡ Some pc → IsIn h pc
  stands_task h pc (Idle kept place empty) none next = idle_in h pc kept place empty next
  stands_task h pc (InTask at kept place task stands) none next =
      let same : at ≡ pc = some_same at pc (sym (ap (place_or code h.posts) place) ∙ next) in
      record { kept = kept; next = next; low = subst (λ z. z < versions_begin code) same task.task; stands = subst (λ z. StandsAt code z h.stack) same stands }
  stands_task h pc (InVersion at kept is can place high stands) none next = absurd (let clash : None ≡ Some kept = sym none ∙ is in cc)
