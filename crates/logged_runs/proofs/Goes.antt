-- A run that is its own reference goes on.
use Rattle.std.proofs.Common.{◌≡◌, inl, inr, ℕ, ◌+◌, ◌-◌, ◌≤◌, ◌<◌, ◌⊎◌, List, [], ◌∷◌, ◌++◌, map, reverse, Some, refl, sym, ap, ◌∙◌, subst, arith, append_assoc, append-nil, slice_index}
use mathlib.Core.Path.{fun_ext}
use Rattle.std.proofs.lemmas.List.{reverse-append, reverse-reverse}
use Rattle.cat_program.specs.declared.outs.LogEntry.{LogEntry}
use Rattle.cat_program.specs.declared.outs.LogEntry.TheVariants.{Ran}
use Rattle.cat_program.specs.Checked.{body_at, version_at}
use Rattle.cat_program.specs.Meaning.{Output, handled}
use Rattle.cat_program.specs.OutsValue.{entry_of}
use Rattle.event_arrivals.specs.Arrivals.{Lists, arrival_at}
use Rattle.event_arrivals.specs.Next.{IsNext}
use Rattle.event_arrivals.specs.Spaced.{AreSpaced}
use Rattle.event_arrivals.specs.declared.arrival.Arrival.{Arrival}
use Rattle.reference_run.specs.declared.schedule.Item.{Item}
use Rattle.reference_run.specs.Reference.{Moment, advance_to, after_item, deadlines_of, done_in, entries_of, first_moment, last_start, next_moment}
use Rattle.logged_runs.specs.Reference.{Setting, MayHandle, Leads, IsRun}
use Rattle.logged_runs.specs.Own.{IsOwn, IsEarlier, items_in, upto}
use Rattle.logged_runs.specs.Laws.{after_arrival, counts_of, item_at, last_start_of}
use Rattle.logged_runs.proofs.Steps.{next_parts, step_count, to_here, to_last}
use Rattle.logged_runs.proofs.Told.{counted, handled_items, run_items, step_items, to_items}

-- the arrival that is next is the one whose index is the done count
pub in_order : (lists : Lists) (deadlines : List ℕ) (done : ℕ → ℕ) (now event k : ℕ) (arrival : Arrival) → AreSpaced lists → IsNext lists deadlines done now event k arrival → k ≡ done event
in_order lists deadlines done now event k arrival spaced next =
    let le = next.pending.to_do in
    let at : done event + (k - done event) ≡ k = omega (arith, le) in
    let sooner = spaced event (done event) (k - done event) arrival (subst (λ (j : ℕ). arrival_at lists event j ≡ Some arrival) (sym at) next.pending.is_it) in
    let come : sooner.0.tick ≤ now = (let late = next.pending.come in let step = sooner.2 in omega arith) in
    let order = next.first event (done event) sooner.0 (record { to_do = omega arith; is_it = sooner.1; come = come }) in
    let before : sooner.0.tick ≤ arrival.tick = (let step = sooner.2 in omega arith) in
    by sooner.0.tick arrival.tick (slice_index deadlines event) before order
  where
    by : (b a d : ℕ) → b ≤ a → (a + d < b + d) ⊎ ((a + d ≡ b + d) × ((event < event) ⊎ ((event ≡ event) × (k ≤ done event)))) → k ≡ done event
    by b a d le (inl less) = absurd (omega arith)
    by b a d le (inr (same, inl less)) = absurd (omega arith)
    by b a d le (inr (same, inr (self, low))) = let high = next.pending.to_do in omega arith

module _ (s : Setting) where
  pub own_first : IsOwn s (first_moment s.program)
  own_first = record { begun = first_moment s.program; items = refl; total = to_here (body_at s.program) (first_moment s.program) }

  pub itself : (m : Moment) → IsOwn s m → IsEarlier s m m
  itself m own = record {
    entries = ([], sym (append-nil m.entries));
    steps = omega arith;
    state = record { taken = items_in m.entries; later = []; split = sym (append-nil (items_in m.entries)); begun = own.begun; items = own.items; steps = own.total; in_time = omega arith };
  }

  pub own_step : (m after : Moment) → IsOwn s m → next_moment (body_at s.program) m ≡ Some after → IsOwn s after
  own_step m after own is =
      let same = step_items (body_at s.program) m after is in
      let more = step_count (body_at s.program) m after is in
      record {
        begun = own.begun;
        items = subst (λ (is : List Item). IsRun s (reverse is) own.begun) (sym same) own.items;
        total = subst (λ (n : ℕ). advance_to (body_at s.program) n own.begun ≡ Some after) (sym more) (to_last (body_at s.program) m.steps own.begun m after own.total is);
      }

  pub step_earlier : (m after : Moment) → IsOwn s m → next_moment (body_at s.program) m ≡ Some after → IsEarlier s m after
  step_earlier m after own is =
      let parts = next_parts (body_at s.program) m after is in
      let same = step_items (body_at s.program) m after is in
      let more = step_count (body_at s.program) m after is in
      record {
        entries = (entries_of parts.step.answer, ap (λ (x : Moment). x.entries) (sym parts.is));
        steps = omega arith;
        state = record { taken = items_in m.entries; later = []; split = same ∙ sym (append-nil (items_in m.entries)); begun = own.begun; items = own.items; steps = own.total; in_time = omega arith };
      }

  -- ---- an arrival more

  module _ (m : Moment) (own : IsOwn s m) (start event k : ℕ) (arrival : Arrival) (spaced : AreSpaced s.arrivals) (late : last_start_of m.entries ≤ start)
      (next : IsNext s.arrivals (deadlines_of s.program) (counts_of m.entries) start event k arrival) where
    abbrev item : Item
    item = item_at s m start event arrival

    abbrev after : Moment
    after = after_arrival s m start event arrival

    pub index_is : k ≡ counts_of m.entries event
    index_is = in_order s.arrivals (deadlines_of s.program) (counts_of m.entries) start event k arrival spaced next

    same_counts : counts_of m.entries ≡ done_in (reverse (items_in m.entries))
    same_counts = fun_ext (λ e. sym (counted m.entries e))

    may : MayHandle s (last_start (reverse (items_in m.entries))) (done_in (reverse (items_in m.entries))) item arrival
    may = record {
      in_order = late;
      next = subst (λ (done : ℕ → ℕ). IsNext s.arrivals (deadlines_of s.program) done start event (done event) arrival) same_counts
          (subst (λ (j : ℕ). IsNext s.arrivals (deadlines_of s.program) (counts_of m.entries) start event j arrival) index_is next);
      version = refl;
    }

    items_more : items_in after.entries ≡ items_in m.entries ++ item ∷ []
    items_more = handled_items m.entries (handled (version_at s.program event item.version) arrival.payload m.state.store).outs event item.version m.steps start (counts_of m.entries event)

    leads : Leads s (reverse (items_in m.entries)) item own.begun after
    leads = record {
      begun = m;
      arrival = arrival;
      steps = own.total;
      may = may;
      after_is = ap (λ (n : ℕ). after_item s.program item n arrival m) (sym (counted m.entries event));
    }

    run_more : IsRun s (reverse (items_in after.entries)) after
    run_more = subst (λ (is : List Item). IsRun s is after) (sym (ap reverse items_more ∙ reverse-append (items_in m.entries) (item ∷ []))) (own.begun, own.items, leads)

    pub own_arrival : IsOwn s after
    own_arrival = record { begun = after; items = run_more; total = to_here (body_at s.program) after }

    abbrev outs : List Output
    outs = (handled (version_at s.program event item.version) arrival.payload m.state.store).outs

    pub arrival_earlier : IsEarlier s m after
    arrival_earlier = record {
      entries = (map entry_of outs ++ Ran event item.version m.steps start (counts_of m.entries event) ∷ [], append_assoc m.entries (map entry_of outs) (Ran event item.version m.steps start (counts_of m.entries event) ∷ []));
      steps = omega arith;
      state = record { taken = items_in m.entries; later = item ∷ []; split = items_more; begun = own.begun; items = own.items; steps = own.total; in_time = omega arith };
    }

  -- ---- the order of moments

  in_time_more : (later more : List Item) (n total total' : ℕ) → n ≤ upto later total → total ≤ upto more total' → n ≤ upto (later ++ more) total'
  in_time_more [] more n total total' one two = omega (arith, one, two)
  in_time_more (head ∷ later) more n total total' one two = one

  pub onward : (a b c : Moment) → IsEarlier s a b → IsEarlier s b c → IsEarlier s a c
  onward a b c one two =
      let by_b = two.state in
      let by_a = one.state in
      let told : items_in b.entries ≡ by_b.taken = to_items (body_at s.program) b.steps by_b.begun b by_b.steps ∙ run_items s (reverse by_b.taken) by_b.begun by_b.items ∙ reverse-reverse by_b.taken in
      record {
        entries = (one.entries.0 ++ two.entries.0, two.entries.1 ∙ ap (λ (es : List LogEntry). es ++ two.entries.0) one.entries.1 ∙ append_assoc a.entries one.entries.0 two.entries.0);
        steps = (let x = one.steps in let y = two.steps in omega arith);
        state = record {
          taken = by_a.taken;
          later = by_a.later ++ by_b.later;
          split = by_b.split ∙ ap (λ (is : List Item). is ++ by_b.later) (sym told ∙ by_a.split) ∙ append_assoc by_a.taken by_a.later by_b.later;
          begun = by_a.begun;
          items = by_a.items;
          steps = by_a.steps;
          in_time = in_time_more by_a.later by_b.later a.steps b.steps c.steps by_a.in_time by_b.in_time;
        };
      }
