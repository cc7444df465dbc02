-- What holds at each place of code that is one region after another.
use Rattle.std.proofs.Common.{◌≡◌, ℕ, ◌+◌, ◌-◌, ◌<◌, ◌≤◌, ◌⊎◌, inl, inr, Bool, true, false, length, refl, sym, ap, ◌∙◌, subst, arith}
use Rattle.std.specs.Prelude.{Some, None, slice_get}
use Rattle.std.proofs.lemmas.Bool.{cases_lt}
use Rattle.std.proofs.lemmas.Option.{slice_get_within}
use Rattle.cat_machine.specs.declared.instr.Instr.{Instr}
use Rattle.cat_machine.specs.declared.instr.Instr.TheVariants as i
use Rattle.cn_object.specs.Loops.{TurnsAt}
use Rattle.cn_object.specs.Regions.{all_entries}
use Rattle.cn_object.specs.Depths.{way, on_way}
use Rattle.compiled_objects.proofs.Stretches.{Setting}
use Rattle.compiled_objects.proofs.Flows.{D, depth_next, inside, Reached, IsFirst, IsLater, stretch_reach}
use Rattle.compiled_objects.proofs.Places.{PlaceIs, is_inner, one_way, Context}
use Rattle.compiled_objects.proofs.Visits.{places}
use Rattle.compiled_objects.proofs.Regions.{Whole, in_region, Opens, Regions, region_lies, Beside, Found, find}

-- the two ways in which a region may begin
abbrev Begins : Whole → ℕ → ℕ → ℕ → Type 0
Begins w k low first = (k < w.tasks) × (first ≡ low + 1) × (slice_get w.code.instrs low ≡ Some (i.Begin k))

by_opened : (w : Whole) (k low first : ℕ) (task : Bool) → Opens w k low first task → ((task ≡ true) × Begins w k low first) ⊎ ((task ≡ false) × (w.tasks ≤ k) × (first ≡ low))
by_opened w k low first true o = inl (refl, o)
by_opened w k low first false o = inr (refl, o.0, o.1)

module _ (w : Whole) (rs : Regions w 0 0 (all_entries w.code) (length w.code.instrs)) (posts : w.tasks ≤ w.posts) where
  abbrev pub Count : ℕ
  Count = length w.code.instrs

  abbrev pub InRegion : ℕ → Type 0
  InRegion pc = Found w 0 (all_entries w.code) Count pc

  pub found : (pc : ℕ) → pc < Count → InRegion pc
  found pc lt = find w 0 0 Count (all_entries w.code) rs refl pc (omega arith) lt

  abbrev pub setting : (pc : ℕ) → InRegion pc → Setting
  setting pc f = in_region w f.region.task f.low f.high

  pub opened : (pc : ℕ) (f : InRegion pc) → ((f.region.task ≡ true) × Begins w (0 + f.j) f.low f.region.first) ⊎ ((f.region.task ≡ false) × (w.tasks ≤ 0 + f.j) × (f.region.first ≡ f.low))
  opened pc f = by_opened w (0 + f.j) f.low f.region.first f.region.task f.region.opened

  lying : (pc : ℕ) (f : InRegion pc) → (f.low ≤ f.region.first) × (f.region.first ≤ f.region.last) × (f.low < f.high)
  lying pc f = region_lies w (0 + f.j) f.low f.high f.region

  early : (pc : ℕ) (f : InRegion pc) → f.region.first ≤ f.low + 1
  early pc f = elim (opened pc f) [ inl o ↦ (let e : f.region.first ≡ f.low + 1 = o.1.1 in omega (arith, e)) | inr o ↦ (let e : f.region.first ≡ f.low = o.2 in omega (arith, e)) ]

  -- a place before the first statement is that of the begin
  begin_there : (pc : ℕ) (f : InRegion pc) (q : ℕ) → f.low ≤ q → q < f.region.first → (0 + f.j < w.tasks) × (q ≡ f.low) × (f.region.first ≡ f.low + 1) × (slice_get w.code.instrs q ≡ Some (i.Begin (0 + f.j))) × (f.region.task ≡ true)
  begin_there pc f q low lt = elim (opened pc f) [
    | inl o ↦ (let first : f.region.first ≡ f.low + 1 = o.1.1 in
        let same : q ≡ f.low = omega (arith, low, lt, first) in
        (o.1.0, same, first, ap (slice_get w.code.instrs) same ∙ o.1.2, o.0))
    | inr o ↦ absurd (let first : f.region.first ≡ f.low = o.2 in omega (arith, low, lt, first))
  ]

  no_turn_begins : (t far : ℕ) → ¬ (Some (i.Turn far) ≡ Some (i.Begin t))
  no_turn_begins t far e = cc

  no_turn_ends : (far : ℕ) → ¬ (Some (i.Turn far) ≡ Some i.End)
  no_turn_ends far e = cc

  -- a turn stands among the statements of its region
  turn_in : (turn far : ℕ) → TurnsAt w.code turn far → (f : InRegion turn) → (f.region.first ≤ turn) × (turn < f.region.last)
  turn_in turn far t f = (low, high)
    where
      low : f.region.first ≤ turn
      low = elim (cases_lt turn f.region.first) [
        | inl lt ↦ absurd (no_turn_begins (0 + f.j) far (sym t ∙ (begin_there turn f turn f.from lt).3))
        | inr le ↦ le
      ]

      high : turn < f.region.last
      high = elim (cases_lt turn f.region.last) [
        | inl lt ↦ lt
        | inr le ↦ absurd (let same : turn ≡ f.region.last = omega (arith, le, f.before, f.region.just_after) in no_turn_ends far (sym t ∙ ap (slice_get w.code.instrs) same ∙ f.region.ended))
      ]

  pub turn_within : (turn far : ℕ) → TurnsAt w.code turn far → (f : InRegion turn) → far ≤ f.region.last
  turn_within turn far t f =
      let there = turn_in turn far t f in
      inside (setting turn f) 0 f.region.first f.region.last f.region.stretch turn far t there.0 there.1

  -- a loop that begins before the statements of a region ends before it
  outside : (pc : ℕ) (f : InRegion pc) (turn far : ℕ) → TurnsAt w.code turn far → turn < f.region.first → far ≤ f.low
  outside pc f turn far t lt = by_place (its.beside f.j f.low f.at)
    where
      its : InRegion turn
      its = found turn (slice_get_within w.code.instrs turn (i.Turn far) t)

      ends : far ≤ its.region.last
      ends = turn_within turn far t its

      by_place : Beside its.j its.low its.high f.j f.low → far ≤ f.low
      by_place (inl same) =
          let from : its.low ≤ turn = its.from in
          let low : f.low ≡ its.low = same.1 in
          absurd (no_turn_begins (0 + f.j) far (sym t ∙ (begin_there pc f turn (omega (arith, from, low)) lt).3))
      by_place (inr (inl before)) = absurd (omega (arith, before.1, its.from, lt, early pc f))
      by_place (inr (inr after)) = omega (arith, after.1, ends, its.region.just_after)

  in_code : (pc : ℕ) (f : InRegion pc) → (setting pc f).high ≤ Count
  in_code pc f = f.within

  begun : (pc : ℕ) (f : InRegion pc) → Begins w (0 + f.j) f.low f.region.first → Reached (setting pc f) f.region.first
  begun pc f o =
      let s = setting pc f in
      let x = i.Begin (0 + f.j) in
      let next = depth_next s f.low x o.2 in
      let first : f.region.first ≡ f.low + 1 = o.1 in
      let there : D s f.region.first ≡ D s f.low - 0 + 0 = ap (D s) first ∙ next in
      IsLater f.low (omega (arith, first)) (x, 0, o.2, ap (λ n. Some (way n (D s f.low - 0 + 0))) (sym first) ∙ ap (λ n. Some (way f.region.first n)) (sym there))

  first_reached : (pc : ℕ) (f : InRegion pc) → Reached (setting pc f) f.region.first
  first_reached pc f = elim (opened pc f) [
    | inl o ↦ begun pc f o.1
    | inr o ↦ (let first : f.region.first ≡ f.low = o.2 in IsFirst (f.j, f.at ∙ ap Some (sym first)))
  ]

  context : (pc : ℕ) (f : InRegion pc) → Context (setting pc f) (in_code pc f) 0 f.region.first f.region.last
  context pc f = record {
    flat = λ e. refl;
    deep = f.first_deep;
    reached = first_reached pc f;
    clear = λ turn far t lt. inl (let le : far ≤ f.low = outside pc f turn far t lt in omega (arith, le, (lying pc f).0));
    open_end = (i.End, f.region.ended, refl);
    low = (lying pc f).0;
    high = omega (arith, f.region.just_after);
  }

  -- ---- what holds at a place

  pub record Each (pc : ℕ) : Type 0 where
    pub f : InRegion pc
    pub x : Instr
    pub at : slice_get w.code.instrs pc ≡ Some x
    pub is : PlaceIs (setting pc f) pc x
    pub begins : (t : ℕ) → x ≡ i.Begin t → (pc ≡ f.low) × (f.j ≡ t) × (f.j < w.tasks)
    pub is_begin : pc ≡ f.low → f.j < w.tasks → x ≡ i.Begin f.j
    pub ends : x ≡ i.End → pc + 1 ≡ f.high
    pub is_end : pc + 1 ≡ f.high → x ≡ i.End

  begins_same : (a b : ℕ) → i.Begin a ≡ i.Begin b → a ≡ b
  begins_same a b e = cc

  begin_place : (pc : ℕ) (f : InRegion pc) → pc < f.region.first → Each pc
  begin_place pc f lt =
      let there = begin_there pc f pc f.from lt in
      let s = setting pc f in
      let x = i.Begin (0 + f.j) in
      let same : pc ≡ f.low = there.1 in
      let deep : D s pc ≡ 0 = ap (D s) same ∙ f.deep in
      record {
        f = f;
        x = x;
        at = there.3;
        is = record {
          operands = omega (arith, there.0, posts);
          room = omega (arith, deep);
          finds = omega arith;
          acting = λ task acts. deep;
          ends = λ e. cc;
          ways = λ k to later e. one_way (D s) (on_way x pc (D s pc)) k to later (depth_next s pc x there.3) e;
          reached = IsFirst (f.j, f.at ∙ ap Some (sym same));
          goes = λ to e. absurd (let none : None ≡ Some to = e in cc);
          payload = λ e. cc;
          turn = λ to e. cc;
          back = λ to e. cc;
          above = λ turn far t between. absurd (let le : far ≤ f.low = outside pc f turn far t (omega (arith, between.0, lt)) in omega (arith, le, between.1, same));
        };
        begins = λ t e. (same, (let number : 0 + f.j ≡ t = begins_same (0 + f.j) t e in omega (arith, number)), omega (arith, there.0));
        is_begin = λ at_low task. ap i.Begin (omega arith);
        ends = λ e. cc;
        is_end = λ e. absurd (omega (arith, e, lt, f.region.just_after, (lying pc f).1));
      }

  end_place : (pc : ℕ) (f : InRegion pc) → pc ≡ f.region.last → Each pc
  end_place pc f same =
      let s = setting pc f in
      let deep : D s pc ≡ 0 = ap (D s) same ∙ f.last_deep in
      let c = context pc f in
      record {
        f = f;
        x = i.End;
        at = ap (slice_get w.code.instrs) same ∙ f.region.ended;
        is = record {
          operands = tt;
          room = omega (arith, deep);
          finds = omega arith;
          acting = λ task acts. deep;
          ends = λ e. deep;
          ways = λ k to later e. absurd (let none : None ≡ Some (way to later) = e in cc);
          reached = subst (Reached s) (sym same) (stretch_reach s 0 f.region.first f.region.last (λ e. refl) f.first_deep c.reached f.region.stretch);
          goes = λ to e. absurd (let none : None ≡ Some to = e in cc);
          payload = λ e. cc;
          turn = λ to e. cc;
          back = λ to e. cc;
          above = λ turn far t between. elim (cases_lt turn f.region.first) [
            | inl lt ↦ absurd (let le : far ≤ f.low = outside pc f turn far t lt in omega (arith, le, between.1, f.from))
            | inr ge ↦ absurd (let le : far ≤ f.region.last = inside s 0 f.region.first f.region.last f.region.stretch turn far t ge (omega (arith, between.0, same)) in omega (arith, le, between.1, same))
          ];
        };
        begins = λ t e. cc;
        is_begin = λ at_low task. absurd (elim (opened pc f) [
          | inl o ↦ (let first : f.region.first ≡ f.low + 1 = o.1.1 in omega (arith, first, same, at_low, (lying pc f).1))
          | inr o ↦ (let late : w.tasks ≤ 0 + f.j = o.1 in omega (arith, late, task))
        ]);
        ends = λ e. omega (arith, same, f.region.just_after);
        is_end = λ e. refl;
      }

  inner_no_begin : (x : Instr) (t : ℕ) → is_inner x ≡ true → ¬ (x ≡ i.Begin t)
  inner_no_begin x t a e = let both : true ≡ false = sym a ∙ ap is_inner e in cc

  inner_no_end : (x : Instr) → is_inner x ≡ true → ¬ (x ≡ i.End)
  inner_no_end x a e = let both : true ≡ false = sym a ∙ ap is_inner e in cc

  stretch_place : (pc : ℕ) (f : InRegion pc) → f.region.first ≤ pc → pc < f.region.last → Each pc
  stretch_place pc f low high =
      let p = places (setting pc f) (in_code pc f) 0 f.region.first f.region.last (context pc f) f.region.stretch pc low high in
      record {
        f = f;
        x = p.x;
        at = p.at;
        is = p.is;
        begins = λ t e. absurd (inner_no_begin p.x t p.inner e);
        is_begin = λ at_low task. absurd (elim (opened pc f) [
          | inl o ↦ (let first : f.region.first ≡ f.low + 1 = o.1.1 in omega (arith, first, low, at_low))
          | inr o ↦ (let late : w.tasks ≤ 0 + f.j = o.1 in omega (arith, late, task))
        ]);
        ends = λ e. absurd (inner_no_end p.x p.inner e);
        is_end = λ e. absurd (omega (arith, e, high, f.region.just_after));
      }

  pub each : (pc : ℕ) → pc < Count → Each pc
  each pc lt =
      let f = found pc lt in
      elim (cases_lt pc f.region.first) [
        | inl early ↦ begin_place pc f early
        | inr from ↦ elim (cases_lt pc f.region.last) [
          | inl before ↦ stretch_place pc f from before
          | inr past ↦ end_place pc f (omega (arith, past, f.before, f.region.just_after))
        ]
      ]
