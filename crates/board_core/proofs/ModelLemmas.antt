-- What the rules leave is what a board may leave.
use Rattle.std.proofs.Common.{◌≡◌, ℕ, ◌+◌, ◌-◌, ◌≤◌, ◌<◌, nat_lt, Bool, true, false, List, [], ◌∷◌, ◌++◌, length, get_or, Option, Some, None, refl, sym, ◌∙◌, ap, arith}
use Rattle.std.specs.Prelude.{if◌then◌else◌}
use Rattle.std.specs.Option.{is_some}
use Rattle.std.proofs.lemmas.Bool.Decides.{nat_tests}
use Rattle.harvest_trace.specs.Timeline.{life_of}
use Rattle.nv_memory.specs.declared.device.Class.{Class}
use Rattle.nv_memory.specs.declared.entry.Op.{Op}
use Rattle.nv_memory.specs.declared.entry.Op.TheVariants.{Instr, Emit, Write, Wake, Sleep}
use Rattle.nv_memory.specs.declared.entry.Entry.{Entry}
use Rattle.nv_memory.specs.declared.board.Answer.TheVariants.{Done, Lost}
use Rattle.nv_memory.specs.Bytes.{repeated}
use Rattle.nv_memory.specs.Board.{State, Steps, IsSound, IsIn, image_after, leaving, left_of, filled, after, on_after, ticks_of}
use Rattle.nv_memory.specs.Laws.{BoardsStaySound, OperationsAreBounded}
use Rattle.board_core.specs.declared.origin.ModelOrigin.{ModelOrigin}
use Rattle.board_core.specs.declared.fate.Fate.{Fate}
use Rattle.board_core.specs.Rules.{class_ticks, fate_of, fate_answer, harvests, left_by, model_after, model_next}
use Rattle.board_core.specs.ModelState.{model_state}
use Rattle.board_core.specs.Reached.{IsReached, replayed, first_state, model_start}
use Rattle.board_core.proofs.Fates.{fate_bounded}
use Rattle.board_core.proofs.Passing.{length-harvests, harvests-since}

pub IsIn-left_by : OperationsAreBounded → (torn : Option (List ℕ)) (op : Op) (image : List ℕ) → IsIn op image → IsIn (left_by torn op) image
IsIn-left_by law None op image within = within
IsIn-left_by law (Some fill) op image within = law.within op (repeated fill (length (left_of op))) image (law.filling fill (length (left_of op))) within

on-left_by : (torn : Option (List ℕ)) (op : Op) (on : Bool) → (if is_some torn then false else on_after op on) ≡ (if is_some torn then false else on_after (left_by torn op) on)
on-left_by None op on = refl
on-left_by (Some fill) op on = refl

-- the fields after an operation are what the rules say
pub stands : (o : ModelOrigin) (image : List ℕ) (es : List Entry) (tick stored losses : ℕ) (on : Bool) (op : Op) (fate : Fate) (lost : Bool) (left : Op) (image' : List ℕ) (es' : List Entry) (stored' losses' : ℕ) (on' : Bool)
    → o.tick ≤ tick
    → fate ≡ fate_of o tick stored op
    → lost ≡ is_some fate.torn
    → left ≡ left_by fate.torn op
    → image' ≡ image_after left image
    → es' ≡ es ++ record { tick = tick; stored = stored; drawn = fate.drawn; ticks = fate.ticks; op = left; lost = lost } ∷ []
    → stored' ≡ filled o.device.cap (stored - fate.drawn) (harvests o.trace tick fate.ticks)
    → losses' ≡ (if lost then losses + 1 else losses)
    → on' ≡ (if lost then false else on_after op on)
    → model_state o image' es' (tick + fate.ticks) stored' losses' on' ≡ model_after o (model_state o image es tick stored losses on) op
stands o image es tick stored losses on op fate lost left image' es' stored' losses' on' begun fate_is lost_is left_is image_is es_is stored_is losses_is on_is =
    let s = model_state o image es tick stored losses on in
    let passed = harvests o.trace tick fate.ticks in
    let many : fate.ticks ≡ length passed = sym (length-harvests o.trace tick fate.ticks) in
    let torn = is_some fate.torn in
    let left' = left_by fate.torn op in
    let images = image_is ∙ ap (λ (op : Op). image_after op image) left_is in
    let es_are : es' ≡ es ++ record { tick = tick; stored = stored; drawn = fate.drawn; ticks = length passed; op = left'; lost = torn } ∷ [] =
    es_is ∙ λ i. es ++ record { tick = tick; stored = stored; drawn = fate.drawn; ticks = many i; op = left_is i; lost = lost_is i } ∷ [] in
    let losses_are : losses' ≡ (if torn then losses + 1 else losses) = losses_is ∙ ap (λ (b : Bool). if b then losses + 1 else losses) lost_is in
    let on_are : on' ≡ (if torn then false else on_after left' on) = on_is ∙ ap (λ (b : Bool). if b then false else on_after op on) lost_is ∙ on-left_by fate.torn op on in
    let harvest_is = harvests-since o.trace o.tick tick fate.ticks begun in
    let tick_is : tick + fate.ticks ≡ tick + length passed = ap (λ (n : ℕ). tick + n) many in
    let now : model_state o image' es' (tick + fate.ticks) stored' losses' on' ≡ after s left' torn fate.drawn passed = λ i. record {
      image = images i;
      tick = tick_is i;
      life = life_of o.trace;
      stored = stored_is i;
      cap = o.device.cap;
      ticks = class_ticks o.device;
      harvest = harvest_is i;
      on = on_are i;
      timeline = es_are i;
      losses = losses_are i;
    } in
    now ∙ ap (λ (f : Fate). after s (left_by f.torn op) (is_some f.torn) f.drawn (harvests o.trace tick f.ticks)) fate_is

whole_left : (torn : Option (List ℕ)) (op : Op) → is_some torn ≡ false → left_by torn op ≡ op
whole_left None op is = refl
whole_left (Some fill) op is = absurd (cc)

torn_left : OperationsAreBounded → (torn : Option (List ℕ)) (op : Op) → is_some torn ≡ true → (left : List ℕ) × (length left ≡ length (left_of op)) × (left_by torn op ≡ leaving op left)
torn_left law None op is = absurd (cc)
torn_left law (Some fill) op is = (repeated fill (length (left_of op)), law.filling fill (length (left_of op)), refl)

module _ (law : OperationsAreBounded) (o : ModelOrigin) (image : List ℕ) (es : List Entry) (tick stored losses : ℕ) (on : Bool) (op : Op) where
  acted : (lost : Bool) → is_some (fate_of o tick stored op).torn ≡ lost → tick + ticks_of (class_ticks o.device) op ≤ life_of o.trace
      → Steps (model_state o image es tick stored losses on) op (if lost then Lost else Done) (model_after o (model_state o image es tick stored losses on) op)
  acted true is fits =
      let s = model_state o image es tick stored losses on in
      let fate = fate_of o tick stored op in
      let bounded = fate_bounded law o tick stored op in
      let passed = harvests o.trace tick fate.ticks in
      let torn = torn_left law fate.torn op is in
      record {
        awake = bounded.awake is;
        fits = fits;
        drawn = fate.drawn;
        affordable = bounded.affordable;
        passed = passed;
        some_ticks = omega (arith, bounded.some_ticks, length-harvests o.trace tick fate.ticks);
        no_more_ticks = omega (arith, bounded.no_more_ticks, length-harvests o.trace tick fate.ticks);
        left = torn.0;
        same_length = torn.1;
        becomes = ap (λ (left : Op). after s left (is_some fate.torn) fate.drawn passed) torn.2 ∙ ap (λ (b : Bool). after s (leaving op torn.0) b fate.drawn passed) is;
      }
  acted false is fits =
      let s = model_state o image es tick stored losses on in
      let fate = fate_of o tick stored op in
      let bounded = fate_bounded law o tick stored op in
      let passed = harvests o.trace tick fate.ticks in
      record {
        fits = fits;
        drawn = fate.drawn;
        affordable = bounded.affordable;
        draws = bounded.draws is;
        passed = passed;
        all_ticks = length-harvests o.trace tick fate.ticks ∙ bounded.whole is;
        becomes = ap (λ (left : Op). after s left (is_some fate.torn) fate.drawn passed) (whole_left fate.torn op is) ∙ ap (λ (b : Bool). after s op b fate.drawn passed) is;
      }

  -- an operation that fits is done or lost
  pub acts : tick + ticks_of (class_ticks o.device) op ≤ life_of o.trace
      → Steps (model_state o image es tick stored losses on) op (fate_answer o (model_state o image es tick stored losses on) op) (model_after o (model_state o image es tick stored losses on) op)
  acts fits = acted (is_some (fate_of o tick stored op).torn) refl fits

  -- and what always holds of a board still does
  pub acts_sound : BoardsStaySound → IsSound (model_start o) (model_state o image es tick stored losses on) → IsIn op image → tick + ticks_of (class_ticks o.device) op ≤ life_of o.trace
      → ((k : ℕ) → get_or (image_after (left_by (fate_of o tick stored op).torn op) image) k 0 < 256)
      → IsSound (model_start o) (model_after o (model_state o image es tick stored losses on) op)
  acts_sound stay sound within fits bytes =
      let s = model_state o image es tick stored losses on in
      let fate = fate_of o tick stored op in
      let bounded = fate_bounded law o tick stored op in
      let many = length-harvests o.trace tick fate.ticks in
      stay (model_start o) s (left_by fate.torn op) (is_some fate.torn) fate.drawn (harvests o.trace tick fate.ticks) sound
      (IsIn-left_by law fate.torn op image within)
      (omega (arith, many, bounded.some_ticks))
      (omega (arith, many, bounded.no_more_ticks))
      bytes

pub fits_not_over : (life n : ℕ) → n ≤ life → nat_lt life n ≡ false
fits_not_over life n le = grind (arith, nat_tests)

pub next_after : (o : ModelOrigin) (s : State) (op : Op) → s.tick + ticks_of s.ticks op ≤ s.life → model_next o s op ≡ model_after o s op
next_after o s op fits = ap (λ (b : Bool). if b then s else model_after o s op) (fits_not_over s.life (s.tick + ticks_of s.ticks op) fits)

abbrev pub entry_by : ModelOrigin → State → Op → Entry
entry_by o s op = let fate = fate_of o s.tick s.stored op in
    record { tick = s.tick; stored = s.stored; drawn = fate.drawn; ticks = length (harvests o.trace s.tick fate.ticks); op = left_by fate.torn op; lost = is_some fate.torn }

pub replayed-push : (o : ModelOrigin) (es : List Entry) (e : Entry) (s : State) → replayed o (es ++ e ∷ []) s ≡ model_next o (replayed o es s) e.op
unfolding replayed
replayed-push o [] e s = refl
replayed-push o (x ∷ es) e s = replayed-push o es e (model_next o s x.op)

-- it takes as many ticks and costs as much, whatever bytes it writes
pub ticks-leaving : (ticks : Class → ℕ) (op : Op) (bytes : List ℕ) → ticks_of ticks (leaving op bytes) ≡ ticks_of ticks op
ticks-leaving ticks (Instr kind pc) bytes = refl
ticks-leaving ticks (Emit pc at left) bytes = refl
ticks-leaving ticks (Write at left) bytes = refl
ticks-leaving ticks Wake bytes = refl
ticks-leaving ticks Sleep bytes = refl

ticks-left_by : (ticks : Class → ℕ) (torn : Option (List ℕ)) (op : Op) → ticks_of ticks (left_by torn op) ≡ ticks_of ticks op
ticks-left_by ticks None op = refl
ticks-left_by ticks (Some fill) op = ticks-leaving ticks op (repeated fill (length (left_of op)))

pub fate-leaving : (o : ModelOrigin) (tick stored : ℕ) (op : Op) (bytes : List ℕ) → fate_of o tick stored (leaving op bytes) ≡ fate_of o tick stored op
fate-leaving o tick stored (Instr kind pc) bytes = refl
fate-leaving o tick stored (Emit pc at left) bytes = refl
fate-leaving o tick stored (Write at left) bytes = refl
fate-leaving o tick stored Wake bytes = refl
fate-leaving o tick stored Sleep bytes = refl

-- a fill that is left twice is left once
left-twice : OperationsAreBounded → (fill : List ℕ) (op : Op) → left_by (Some fill) (left_by (Some fill) op) ≡ left_by (Some fill) op
left-twice law fill (Instr kind pc) = refl
left-twice law fill (Emit pc at left) = ap (λ (n : ℕ). Emit pc at (repeated fill n)) (law.filling fill (length left))
left-twice law fill (Write at left) = ap (λ (n : ℕ). Write at (repeated fill n)) (law.filling fill (length left))
left-twice law fill Wake = refl
left-twice law fill Sleep = refl

again_by : OperationsAreBounded → (o : ModelOrigin) (s : State) (op : Op) (torn : Option (List ℕ)) → (fate_of o s.tick s.stored op).torn ≡ torn → model_after o s (left_by torn op) ≡ model_after o s op
again_by law o s op None is = refl
again_by law o s op (Some fill) is =
    let op' = left_by (Some fill) op in
    let f = fate_of o s.tick s.stored op in
    ap (λ (f : Fate). after s (left_by f.torn op') (is_some f.torn) f.drawn (harvests o.trace s.tick f.ticks)) (fate-leaving o s.tick s.stored op (repeated fill (length (left_of op))))
    ∙ ap (λ (torn : Option (List ℕ)). after s (left_by torn op') (is_some f.torn) f.drawn (harvests o.trace s.tick f.ticks)) is
    ∙ ap (λ (op : Op). after s op (is_some f.torn) f.drawn (harvests o.trace s.tick f.ticks)) (left-twice law fill op)
    ∙ ap (λ (torn : Option (List ℕ)). after s (left_by torn op) (is_some f.torn) f.drawn (harvests o.trace s.tick f.ticks)) (sym is)

-- asked for what it left, an operation does the same again
again : OperationsAreBounded → (o : ModelOrigin) (s : State) (op : Op) → model_after o s (left_by (fate_of o s.tick s.stored op).torn op) ≡ model_after o s op
again law o s op = again_by law o s op (fate_of o s.tick s.stored op).torn refl

left_by-leaving : (fill : List ℕ) (op : Op) (bytes : List ℕ) → length bytes ≡ length (left_of op) → left_by (Some fill) (leaving op bytes) ≡ left_by (Some fill) op
left_by-leaving fill (Instr kind pc) bytes same = refl
left_by-leaving fill (Emit pc at left) bytes same = ap (λ (n : ℕ). Emit pc at (repeated fill n)) same
left_by-leaving fill (Write at left) bytes same = ap (λ (n : ℕ). Write at (repeated fill n)) same
left_by-leaving fill Wake bytes same = refl
left_by-leaving fill Sleep bytes same = refl

-- where it is lost, the bytes that it was to write don't matter
pub left-again : (o : ModelOrigin) (s : State) (op : Op) (bytes : List ℕ) → length bytes ≡ length (left_of op) → (torn : Option (List ℕ)) → (fate_of o s.tick s.stored op).torn ≡ torn → is_some torn ≡ true
    → model_after o s (leaving op bytes) ≡ model_after o s op
left-again o s op bytes same None is lost = absurd (cc)
left-again o s op bytes same (Some fill) is lost =
    let op' = leaving op bytes in
    let f = fate_of o s.tick s.stored op in
    ap (λ (f : Fate). after s (left_by f.torn op') (is_some f.torn) f.drawn (harvests o.trace s.tick f.ticks)) (fate-leaving o s.tick s.stored op bytes)
    ∙ ap (λ (torn : Option (List ℕ)). after s (left_by torn op') (is_some f.torn) f.drawn (harvests o.trace s.tick f.ticks)) is
    ∙ ap (λ (op : Op). after s op (is_some f.torn) f.drawn (harvests o.trace s.tick f.ticks)) (left_by-leaving fill op bytes same)
    ∙ ap (λ (torn : Option (List ℕ)). after s (left_by torn op) (is_some f.torn) f.drawn (harvests o.trace s.tick f.ticks)) (sym is)

pub replayed-append : (o : ModelOrigin) (xs ys : List Entry) (s : State) → replayed o (xs ++ ys) s ≡ replayed o ys (replayed o xs s)
unfolding replayed
replayed-append o [] ys s = refl
replayed-append o (x ∷ xs) ys s = replayed-append o xs ys (model_next o s x.op)

-- one operation more
pub reached_after : OperationsAreBounded → (o : ModelOrigin) (s : State) (op : Op) → IsReached o s → s.tick + ticks_of s.ticks op ≤ s.life → IsReached o (model_after o s op)
reached_after law o s op reached fits =
    let torn = (fate_of o s.tick s.stored op).torn in
    let left = left_by torn op in
    let e = entry_by o s op in
    let fits' : s.tick + ticks_of s.ticks left ≤ s.life = omega (arith, ticks-left_by s.ticks torn op) in
    sym (replayed-push o s.timeline e (first_state o) ∙ ap (λ (t : State). model_next o t left) (sym reached) ∙ next_after o s left fits' ∙ again law o s op)

-- before any operation
pub first_is : (o : ModelOrigin) (image : List ℕ) (es : List Entry) (tick stored : ℕ) → o.image ≡ image → es ≡ [] → o.tick ≡ tick → o.stored ≡ stored → first_state o ≡ model_state o image es tick stored 0 false
first_is o image es tick stored image_is es_is tick_is stored_is =
    let none : tick - o.tick ≡ 0 = omega (arith, tick_is) in
    let harvest_is : [] ≡ harvests o.trace o.tick (tick - o.tick) = ap (harvests o.trace o.tick) (sym none) in
    let entries_are : [] ≡ es = sym es_is in
    λ i. record {
      image = image_is i;
      tick = tick_is i;
      life = life_of o.trace;
      stored = stored_is i;
      cap = o.device.cap;
      ticks = class_ticks o.device;
      harvest = harvest_is i;
      on = false;
      timeline = entries_are i;
      losses = 0;
    }

pub first_sound : OperationsAreBounded → (o : ModelOrigin) → length o.image < 4294967296 → ((k : ℕ) → get_or o.image k 0 < 256) → IsSound (model_start o) (first_state o)
first_sound law o small bytes =
    record {
      in_life = o.in_life;
      life_in_range = o.life_in_range;
      in_cap = o.in_cap;
      losses_are = refl;
      losses_by_tick = omega arith;
      entries_by_tick = omega arith;
      some_ticks = law.some o.device;
      few_ticks = law.few o.device;
      size_in_range = small;
      bytes = bytes;
      passed = omega arith;
      image_is = refl;
      told = record { ticks = refl; stores = refl };
    }

pub first_reached : (o : ModelOrigin) → IsReached o (first_state o)
unfolding replayed
first_reached o = refl
