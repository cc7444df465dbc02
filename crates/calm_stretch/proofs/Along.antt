-- From the chunks of a timeline to what holds at each tick.
use Rattle.std.proofs.Common.{◌≡◌, ◌≢◌, ℕ, ◌+◌, ◌-◌, ◌<◌, ◌≤◌, ◌⊎◌, inl, inr, min, List, [], ◌∷◌, length, refl, ap, subst, ◌∙◌, arith, Bool, true, false, nat_le, ◌&&◌, if◌then◌else◌}
use Rattle.std.proofs.lemmas.Bool.{cases_lt}
use Rattle.std.proofs.lemmas.Bool.Decides.{nat_tests}
use Rattle.demand_core.specs.declared.Load.{Load}
use Rattle.demand_core.specs.declared.Base.{Base}
use Rattle.calm_stretch.specs.Loads.{IsAt}
use Rattle.calm_stretch.specs.Moment.{Outside, came, Doing, Point, taken_in}
use Rattle.calm_stretch.proofs.Worlds.{World, at_point, MayBegin}
use Rattle.calm_stretch.specs.Rows.{IsCalmStart}
use Rattle.calm_stretch.proofs.Ticks.{Moment, Chunk, bounds_of, tick_after, stored_after, after_chunk, NoneLost, AreCalm, IsLawful, last_tick, done_at, NoneLostBefore, HasEnough, IsSafe, MeetsAt}
use Rattle.calm_stretch.specs.Moment.Doing.{Free, Section}
use Rattle.calm_stretch.proofs.Held.{Premises, Held}
use Rattle.calm_stretch.proofs.Facts.{enough, has_units, met, one_each}
use Rattle.calm_stretch.proofs.Begun.{begun}
use Rattle.calm_stretch.proofs.Passed.{passed}
use Rattle.calm_stretch.proofs.First.{first, units_of-pending, arrived_is}

pub tick_after_is : (t : ℕ) (moments : List Moment) → tick_after t moments ≡ t + length moments
tick_after_is t [] = omega arith
tick_after_is t (m ∷ moments) = let rest = tick_after_is (t + 1) moments in omega arith

none_before : (z t : ℕ) (moments : List Moment) → z ≤ t → NoneLostBefore z t moments
none_before z t [] past = tt
none_before z t (m ∷ moments) past = ((λ before. absurd (omega arith)), none_before z (t + 1) moments (omega arith))

-- a chunk takes a tick at least
some_ticks : (ended : Bool) (n ticks : ℕ) → (ended ≡ true → 0 < n) → n + (if ended then 0 else 1) ≤ ticks → 0 < ticks
some_ticks true n ticks some within = let one = some refl in omega arith
some_ticks false n ticks some within = omega arith

-- the world after a tick with which the chunk goes on
abbrev went : Base → Outside → World → Moment → World
went base out w m =
    record w { tick = w.tick + 1; stored = min base.cap (w.stored - m.drawn + out.harvest w.tick); units = w.units - m.bound; ticks = w.ticks - 1 }

-- the decision point after these ticks of a chunk
abbrev ended_with : Base → Outside → World → Bool → List Moment → World
ended_with base out w dirty moments =
    record {
      tick = tick_after w.tick moments;
      stored = stored_after base out w.tick w.stored moments;
      doing = Free;
      units = 0;
      ticks = 0;
      dirty = dirty;
      done = λ e. taken_in w.doing w.done e;
    }

-- at tick t all holds, with these done counts
record Shown (base : Base) (loads : List Load) (kept : ℕ) (out : Outside) (s z : ℕ) (done : ℕ → ℕ) (t : ℕ) : Type 0 where
  world : World
  held : Held base loads kept out s z world
  tick : world.tick ≡ t
  counts : (e : ℕ) → world.done e ≡ done e

-- the ticks of a chunk from world w on: what holds at each, and at its end
record Along (base : Base) (loads : List Load) (kept : ℕ) (out : Outside) (s z : ℕ) (w : World) (ended dirty : Bool) (moments : List Moment) : Type 0 where
  shown : (t : ℕ) → w.tick ≤ t → t ≤ z → t < tick_after w.tick moments → Shown base loads kept out s z w.done t
  safe : NoneLostBefore z w.tick moments
  none_lost : tick_after w.tick moments ≤ z → NoneLost moments
  end : tick_after w.tick moments ≤ z → ended ≡ true → Held base loads kept out s z (ended_with base out w dirty moments)
  stop : tick_after w.tick moments ≤ z → ended ≡ false → Shown base loads kept out s z w.done (tick_after w.tick moments)

module _ (base : Base) (loads : List Load) (kept : ℕ) (out : Outside) (s z : ℕ) (premises : Premises base loads kept out s z) where
  -- one tick, with which the chunk goes on
  goes_on : (w : World) (m : Moment) → Held base loads kept out s z w → w.doing ≢ Free → w.tick < z → m.bound ≤ w.units → m.drawn ≤ m.bound → 1 < w.ticks →
      Held base loads kept out s z (went base out w m)
  goes_on w m held going before within drawn more =
      passed base loads kept out s z premises w (went base out w m) m.bound held going before within
      (record {
        drawn = m.drawn;
        bounded = drawn;
        tick = refl;
        stored = refl;
        rest = inl (record { doing = refl; units = omega arith; ticks = omega arith; some = omega arith; dirty = refl; done = λ e. refl });
      })

  -- one tick, with which it ends
  ends : (w : World) (m : Moment) (dirty : Bool) → Held base loads kept out s z w → w.doing ≢ Free → w.tick < z → m.bound ≤ w.units → m.drawn ≤ m.bound →
      (dirty ≡ true → w.doing ≡ Section) → Held base loads kept out s z (ended_with base out w dirty (m ∷ []))
  ends w m dirty held going before within drawn leaves =
      passed base loads kept out s z premises w (ended_with base out w dirty (m ∷ [])) m.bound held going before within
      (record {
        drawn = m.drawn;
        bounded = drawn;
        tick = refl;
        stored = refl;
        rest = inr (record { doing = refl; units = refl; ticks = refl; dirty = leaves; done = λ e. refl });
      })

  shown_here : (w : World) → Held base loads kept out s z w → (t : ℕ) → w.tick ≡ t → Shown base loads kept out s z w.done t
  shown_here w held t at = record { world = w; held = held; tick = at; counts = λ e. refl }

  -- past z nothing is asked
  along_past : (w : World) (ended dirty : Bool) (m : Moment) (moments : List Moment) → Held base loads kept out s z w → w.tick ≤ z → z ≤ w.tick →
      Along base loads kept out s z w ended dirty (m ∷ moments)
  along_past w ended dirty m moments held upto past =
      let far = tick_after_is (w.tick + 1) moments in
      record {
        shown = λ t from till within. shown_here w held t (omega arith);
        safe = none_before z w.tick (m ∷ moments) past;
        none_lost = λ till. absurd (omega arith);
        end = λ till is. absurd (omega arith);
        stop = λ till is. absurd (omega arith);
      }

  -- one tick more, in front
  along_more : (w : World) (ended dirty : Bool) (m : Moment) (moments : List Moment) → Held base loads kept out s z w → w.tick < z → m.lost ≡ false →
      Along base loads kept out s z (went base out w m) ended dirty moments → Along base loads kept out s z w ended dirty (m ∷ moments)
  along_more w ended dirty m moments held before kept_on rest =
      record {
        shown = λ t from till within. elim (cases_lt w.tick t) [
          | inl later ↦ rest.shown t (omega arith) till within
          | inr now ↦ shown_here w held t (omega arith)
        ];
        safe = ((λ early. kept_on), rest.safe);
        none_lost = λ till. (kept_on, rest.none_lost till);
        end = λ till is. rest.end till is;
        stop = λ till is. rest.stop till is;
      }

  along : (moments : List Moment) (w : World) (ended dirty : Bool) → Held base loads kept out s z w → w.doing ≢ Free → w.tick ≤ z →
      bounds_of moments ≤ w.units → length moments + (if ended then 0 else 1) ≤ w.ticks → (ended ≡ true → 0 < length moments) →
      (dirty ≡ true → w.doing ≡ Section) → AreCalm base out z w.tick w.stored moments → Along base loads kept out s z w ended dirty moments
  along [] w true dirty held going upto units ticks some leaves calm = absurd (omega (arith, some refl))
  along [] w false dirty held going upto units ticks some leaves calm =
      record {
        shown = λ t from till within. absurd (omega arith);
        safe = tt;
        none_lost = λ till. tt;
        end = λ till is. absurd (cc);
        stop = λ till is. shown_here w held w.tick refl;
      }
  along (m ∷ []) w true dirty held going upto units ticks some leaves calm =
      elim (cases_lt w.tick z) [
        | inl before ↦
            let here = calm.0 before in
            let has = has_units base loads kept out s z premises w held upto in
            let kept_on : m.lost ≡ false = here.1 (omega arith) in
            record {
              shown = λ t from till within. shown_here w held t (omega arith);
              safe = ((λ early. kept_on), tt);
              none_lost = λ till. (kept_on, tt);
              end = λ till is. ends w m dirty held going before (omega arith) here.0 leaves;
              stop = λ till is. absurd (cc);
            }
        | inr past ↦ along_past w true dirty m [] held upto past
      ]
  along (m ∷ next ∷ moments) w true dirty held going upto units ticks some leaves calm =
      elim (cases_lt w.tick z) [
        | inl before ↦
            let here = calm.0 before in
            let has = has_units base loads kept out s z premises w held upto in
            let kept_on : m.lost ≡ false = here.1 (omega arith) in
            along_more w true dirty m (next ∷ moments) held before kept_on
            (along (next ∷ moments) (went base out w m) true dirty (goes_on w m held going before (omega arith) here.0 (omega arith)) going (omega arith)
            (omega arith) (omega arith) (λ is. omega arith) leaves (calm.1 kept_on))
        | inr past ↦ along_past w true dirty m (next ∷ moments) held upto past
      ]
  along (m ∷ moments) w false dirty held going upto units ticks some leaves calm =
      elim (cases_lt w.tick z) [
        | inl before ↦
            let here = calm.0 before in
            let has = has_units base loads kept out s z premises w held upto in
            let kept_on : m.lost ≡ false = here.1 (omega arith) in
            along_more w false dirty m moments held before kept_on
            (along moments (went base out w m) false dirty (goes_on w m held going before (omega arith) here.0 (omega arith)) going (omega arith)
            (omega arith) (omega arith) (λ is. absurd (cc)) leaves (calm.1 kept_on))
        | inr past ↦ along_past w false dirty m moments held upto past
      ]

  -- at a decision point there is enough
  has_enough : (w : World) → Held base loads kept out s z (record w { doing = Free }) → w.tick ≤ z → HasEnough base loads out w
  has_enough w held upto =
      let some = enough base loads kept out s z premises (record w { doing = Free }) held upto in
      let parts = units_of-pending loads w.done (λ e. came out e (w.tick + 1)) held.came_first in
      let all = arrived_is loads out (w.tick + 1) in
      omega arith

  going_in : (w : World) (doing : Doing) (units ticks : ℕ) → MayBegin base loads kept out w doing units ticks → doing ≢ Free
  going_in w doing units ticks may same = subst (λ (d : Doing). MayBegin base loads kept out w d units ticks) same may

  safe_past : (chunks : List Chunk) (w : World) → z < w.tick → IsSafe base loads out z w chunks
  safe_past [] w past = λ till. absurd (omega arith)
  safe_past (c ∷ chunks) w past =
      let far = tick_after_is w.tick c.moments in
      ((λ till. absurd (omega arith)), none_before z w.tick c.moments (omega arith), λ ended. safe_past chunks (after_chunk base out w c) (omega arith))

  -- what holds along all chunks from a decision point on
  record OnTime (w : World) (chunks : List Chunk) : Type 0 where
    shown : (t : ℕ) → w.tick ≤ t → t ≤ z → t ≤ last_tick w.tick chunks → Shown base loads kept out s z (λ e. done_at w.done w.tick chunks t e) t
    safe : IsSafe base loads out z w chunks

  shown_as : (f g : ℕ → ℕ) (t : ℕ) → ((e : ℕ) → f e ≡ g e) → Shown base loads kept out s z f t → Shown base loads kept out s z g t
  shown_as f g t same shown = record { world = shown.world; held = shown.held; tick = shown.tick; counts = λ e. shown.counts e ∙ same e }

  done_still : (ended : Bool) (a t x y : ℕ) → t < a → y ≡ (if ended && nat_le a t then x else y)
  done_still ended a t x y before = grind (arith, nat_tests)

  done_past : (ended : Bool) (a t x y : ℕ) → (ended ≡ true → t < a) → y ≡ (if ended && nat_le a t then x else y)
  done_past true a t x y before = done_still true a t x y (before refl)
  done_past false a t x y before = refl

  done_open : (ended : Bool) (a t x y : ℕ) → ended ≡ false → y ≡ (if ended && nat_le a t then x else y)
  done_open ended a t x y is = grind (arith, nat_tests)

  done_on : (ended : Bool) (a t x y : ℕ) → ended ≡ true → a ≤ t → x ≡ (if ended && nat_le a t then x else y)
  done_on ended a t x y is past = grind (arith, nat_tests)

  true_or_false : (b : Bool) → (b ≡ true) ⊎ (b ≡ false)
  true_or_false true = inl refl
  true_or_false false = inr refl

  on_time : (chunks : List Chunk) (w : World) → Held base loads kept out s z (record w { doing = Free }) → w.tick ≤ z →
      IsLawful base loads kept out z w chunks → OnTime w chunks
  on_time [] w held upto lawful =
      record {
        shown = λ t from till within. record { world = record w { doing = Free }; held = held; tick = omega arith; counts = λ e. refl };
        safe = λ till. has_enough w held till;
      }
  on_time (c ∷ chunks) w held upto lawful =
      let far = tick_after_is w.tick c.moments in
      elim (cases_lt w.tick z) [
        | inl before ↦
            let chunk = (lawful.2 before).0 in
            let opened : Held base loads kept out s z (record w { doing = c.doing; units = c.units; ticks = c.ticks }) =
            begun base loads kept out s z premises w held upto c.doing c.units c.ticks
            (some_ticks c.ended (length c.moments) c.ticks lawful.0 chunk.ticks) chunk.begins in
            let ticks : Along base loads kept out s z (record w { doing = c.doing; units = c.units; ticks = c.ticks }) c.ended c.dirty c.moments =
            along c.moments (record w { doing = c.doing; units = c.units; ticks = c.ticks }) c.ended c.dirty opened
            (going_in w c.doing c.units c.ticks chunk.begins) upto chunk.units chunk.ticks lawful.0 chunk.dirty (lawful.2 before).1 in
            elim (cases_lt z (tick_after w.tick c.moments)) [
              | inl past ↦
                  record {
                    shown = λ t from till within. shown_as w.done (λ e. done_at w.done w.tick (c ∷ chunks) t e) t
                        (λ e. done_still c.ended (tick_after w.tick c.moments) t (done_at (λ i. taken_in c.doing w.done i) (tick_after w.tick c.moments) chunks t e) (w.done e) (omega arith))
                        (ticks.shown t from till (omega arith));
                    safe = ((λ till. has_enough w held till), ticks.safe, (λ ended. safe_past chunks (after_chunk base out w c) past));
                  }
              | inr reached ↦
                  elim (true_or_false c.ended) [
                    | inl ended ↦
                        let rest = on_time chunks (after_chunk base out w c) (ticks.end reached ended) reached ((lawful.2 before).2 (ticks.none_lost reached)) in
                        record {
                          shown = λ t from till within. elim (cases_lt t (tick_after w.tick c.moments)) [
                            | inl in_it ↦ shown_as w.done (λ e. done_at w.done w.tick (c ∷ chunks) t e) t
                                (λ e. done_still c.ended (tick_after w.tick c.moments) t (done_at (λ i. taken_in c.doing w.done i) (tick_after w.tick c.moments) chunks t e) (w.done e) in_it)
                                (ticks.shown t from till in_it)
                            | inr later ↦ shown_as (λ e. done_at (λ i. taken_in c.doing w.done i) (tick_after w.tick c.moments) chunks t e) (λ e. done_at w.done w.tick (c ∷ chunks) t e) t
                                (λ e. done_on c.ended (tick_after w.tick c.moments) t (done_at (λ i. taken_in c.doing w.done i) (tick_after w.tick c.moments) chunks t e) (w.done e) ended later)
                                (rest.shown t later till within)
                          ];
                          safe = ((λ till. has_enough w held till), ticks.safe, (λ is. rest.safe));
                        }
                    | inr open_end ↦
                        let at_end : last_tick (tick_after w.tick c.moments) chunks ≡ tick_after w.tick c.moments =
                        ap (λ (cs : List Chunk). last_tick (tick_after w.tick c.moments) cs) (lawful.1 open_end) in
                        record {
                          shown = λ t from till within. shown_as w.done (λ e. done_at w.done w.tick (c ∷ chunks) t e) t
                              (λ e. done_open c.ended (tick_after w.tick c.moments) t (done_at (λ i. taken_in c.doing w.done i) (tick_after w.tick c.moments) chunks t e) (w.done e) open_end)
                              (elim (cases_lt t (tick_after w.tick c.moments)) [
                                | inl in_it ↦ ticks.shown t from till in_it
                                | inr last ↦
                                    let same : tick_after w.tick c.moments ≡ t = omega arith in
                                    subst (λ (n : ℕ). Shown base loads kept out s z w.done n) same (ticks.stop reached open_end)
                              ]);
                          safe = ((λ till. has_enough w held till), ticks.safe, (λ is. absurd (cc)));
                        }
                  ]
            ]
        | inr past ↦
            record {
              shown = λ t from till within. shown_as w.done (λ e. done_at w.done w.tick (c ∷ chunks) t e) t
                  (λ e. done_past c.ended (tick_after w.tick c.moments) t (done_at (λ i. taken_in c.doing w.done i) (tick_after w.tick c.moments) chunks t e) (w.done e)
                  (λ is. let some = lawful.0 is in omega arith))
                  (record { world = record w { doing = Free }; held = held; tick = omega arith; counts = λ e. refl });
              safe = ((λ till. has_enough w held till), none_before z w.tick c.moments past, (λ is. safe_past chunks (after_chunk base out w c) (omega arith)));
            }
      ]

  -- what is claimed at each tick
  at_tick : (w : World) (chunks : List Chunk) → OnTime w chunks → (t : ℕ) → w.tick ≤ t → t ≤ z → t ≤ last_tick w.tick chunks → (e : ℕ) (x : Load) → IsAt loads e x →
      (came out e (t + 1) ≤ done_at w.done w.tick chunks t e + 1) × (came out e (t + 1 - x.deadline) ≤ done_at w.done w.tick chunks t e)
  at_tick w chunks on t from till within e x at =
      let shown = on.shown t from till within in
      let at_t : shown.world.tick ≡ t = shown.tick in
      let counts : shown.world.done e ≡ done_at w.done w.tick chunks t e = shown.counts e in
      let one : came out e (t + 1) ≤ shown.world.done e + 1 =
      subst (λ (n : ℕ). came out e (n + 1) ≤ shown.world.done e + 1) at_t (one_each base loads kept out s z premises shown.world shown.held (omega arith) e x at) in
      let all : came out e (t + 1 - x.deadline) ≤ shown.world.done e =
      subst (λ (n : ℕ). came out e (n + 1 - x.deadline) ≤ shown.world.done e) at_t (met base loads kept out s z premises shown.world shown.held (omega arith) e x at) in
      (omega arith, omega arith)

pub timeline_is_safe : (base : Base) (loads : List Load) (kept : ℕ) (out : Outside) (s z : ℕ) → Premises base loads kept out s z → (p : Point) (chunks : List Chunk) →
    IsCalmStart base loads kept out s p → IsLawful base loads kept out z (at_point p) chunks → s ≤ z → z ≤ last_tick s chunks →
    IsSafe base loads out z (at_point p) chunks × MeetsAt loads out s z (at_point p) chunks
timeline_is_safe base loads kept out s z premises p chunks start lawful ordered long =
    let at_s : p.tick ≡ s = start.tick in
    let on = on_time base loads kept out s z premises chunks (at_point p) (first base loads kept out s z premises p start) (omega arith) lawful in
    let last : last_tick p.tick chunks ≡ last_tick s chunks = ap (λ (n : ℕ). last_tick n chunks) at_s in (
      on.safe,
      λ t from till e x at. at_tick base loads kept out s z premises (at_point p) chunks on t (omega arith) till (omega arith) e x at,
    )
