-- A schedule has one run, and this has one moment with so many entries and steps.
use Rattle.std.proofs.Common.{◌≡◌, inl, inr, ℕ, ◌-◌, ◌≤◌, ◌<◌, List, [], ◌∷◌, ◌++◌, length, map, reverse, Option, Some, refl, sym, ap, ap₂, ◌∙◌, subst, arith, append_assoc, length-append}
use Rattle.std.proofs.lemmas.Bool.{cases_lt}
use Rattle.std.proofs.lemmas.List.{reverse-append}
use Rattle.cat_program.specs.Checked.{body_at, version_at}
use Rattle.cat_program.specs.Meaning.{handled}
use Rattle.cat_program.specs.OutsValue.{entry_of}
use Rattle.cat_program.specs.declared.outs.LogEntry.TheVariants.{Ran}
use Rattle.event_arrivals.specs.Arrivals.{arrival_at}
use Rattle.event_arrivals.specs.declared.arrival.Arrival.{Arrival}
use Rattle.reference_run.specs.declared.schedule.Item.{Item}
use Rattle.reference_run.specs.declared.schedule.Schedule.{Schedule}
use Rattle.reference_run.specs.Reference.{Moment, advance_to, after_item, done_in}
use Rattle.logged_runs.specs.Reference.{Setting, Leads, IsRun, IsReference}
use Rattle.logged_runs.specs.Own.{ComesBy, upto}
use Rattle.logged_runs.proofs.Steps.{advance_entries, to_order, to_parts}
use Rattle.logged_runs.proofs.Told.{reverse-cons}

pub one_some : {A : Type 0} (o : Option A) (a b : A) → o ≡ Some a → o ≡ Some b → a ≡ b
one_some o a b ea eb = cc

module _ (s : Setting) where
  one_lead : (earlier : List Item) (item : Item) (before a b : Moment) → Leads s earlier item before a → Leads s earlier item before b → a ≡ b
  one_lead earlier item before a b la lb =
      let begun = one_some (advance_to (body_at s.program) item.steps before) la.begun lb.begun la.steps lb.steps in
      let arrival = one_some (arrival_at s.arrivals item.event (done_in earlier item.event)) la.arrival lb.arrival la.may.next.pending.is_it lb.may.next.pending.is_it in
      la.after_is ∙ ap (λ (x : Arrival). after_item s.program item (done_in earlier item.event) x la.begun) arrival
      ∙ ap (after_item s.program item (done_in earlier item.event) lb.arrival) begun ∙ sym lb.after_is

  pub one_run : (items : List Item) (a b : Moment) → IsRun s items a → IsRun s items b → a ≡ b
  one_run [] a b ra rb = ra ∙ sym rb
  one_run (item ∷ earlier) a b ra rb =
      let same = one_run earlier ra.0 rb.0 ra.1 rb.1 in
      one_lead earlier item rb.0 a b (subst (λ (before : Moment). Leads s earlier item before a) same ra.2) rb.2

  pub one_end : (schedule : Schedule) (a b : Moment) → IsReference s schedule a → IsReference s schedule b → a ≡ b
  one_end schedule a b ra rb =
      let same = one_run (reverse schedule.items) ra.begun rb.begun ra.items rb.items in
      one_some (advance_to (body_at s.program) schedule.total rb.begun) a b (subst (λ (m : Moment). advance_to (body_at s.program) schedule.total m ≡ Some a) same ra.total) rb.total

  lead_longer : (earlier : List Item) (item : Item) (before after : Moment) (leads : Leads s earlier item before after) → length leads.begun.entries < length after.entries
  lead_longer earlier item before after leads =
      let outs = map entry_of (handled (version_at s.program item.event item.version) leads.arrival.payload leads.begun.state.store).outs in
      let whole : length after.entries ≡ length (leads.begun.entries ++ map entry_of (handled (version_at s.program item.event item.version) leads.arrival.payload leads.begun.state.store).outs ++ Ran item.event item.version item.steps item.start (done_in earlier item.event) ∷ []) = ap (λ (x : Moment). length x.entries) leads.after_is in
      let first = length-append (leads.begun.entries ++ map entry_of (handled (version_at s.program item.event item.version) leads.arrival.payload leads.begun.state.store).outs) (Ran item.event item.version item.steps item.start (done_in earlier item.event) ∷ []) in
      let second = length-append leads.begun.entries (map entry_of (handled (version_at s.program item.event item.version) leads.arrival.payload leads.begun.state.store).outs) in
      omega arith

  to_longer : (n : ℕ) (q r : Moment) → advance_to (body_at s.program) n q ≡ Some r → length q.entries ≤ length r.entries
  to_longer n q r is = advance_entries (body_at s.program) (n - q.steps) q r (to_parts (body_at s.program) n q r is).1

  -- a run has come by each of its earlier items
  passed : (later earlier : List Item) (m : Moment) → IsRun s (later ++ earlier) m → (at : Moment) × IsRun s earlier at × (length at.entries ≤ length m.entries)
  passed [] earlier m run = (m, run, omega arith)
  passed (item ∷ later) earlier m run =
      let before = passed later earlier run.0 run.1 in
      let less = lead_longer (later ++ earlier) item run.0 m run.2 in
      let more = to_longer item.steps run.0 run.2.begun run.2.steps in
      (before.0, before.1, (let le = before.2 in omega arith))

  record IsFront (xs ys zs ws : List Item) : Type 0 where
    item : Item
    mid : List Item
    longer : zs ≡ xs ++ item ∷ mid
    rest : ys ≡ item ∷ mid ++ ws

  front : (xs ys zs ws : List Item) → xs ++ ys ≡ zs ++ ws → length xs < length zs → IsFront xs ys zs ws
  front xs ys [] ws same less = absurd (omega arith)
  front [] ys (z ∷ zs) ws same less = record { item = z; mid = zs; longer = refl; rest = same }
  front (x ∷ xs) ys (z ∷ zs) ws same less =
      let head : z ≡ x = cc in
      let tail : xs ++ ys ≡ zs ++ ws = cc in
      let more = front xs ys zs ws tail (omega arith) in
      record { item = more.item; mid = more.mid; longer = ap₂ (λ (y : Item) (l : List Item). y ∷ l) head more.longer; rest = more.rest }

  same_front : (xs ys zs ws : List Item) → xs ++ ys ≡ zs ++ ws → length xs ≡ length zs → xs ≡ zs
  same_front [] ys [] ws same long = refl
  same_front [] ys (z ∷ zs) ws same long = absurd (omega arith)
  same_front (x ∷ xs) ys [] ws same long = absurd (omega arith)
  same_front (x ∷ xs) ys (z ∷ zs) ws same long =
      let head : x ≡ z = cc in
      let tail : xs ++ ys ≡ zs ++ ws = cc in
      ap₂ (λ (y : Item) (l : List Item). y ∷ l) head (same_front xs ys zs ws tail (omega arith))

  -- a moment that comes before an item has fewer entries than one after it
  fewer : (schedule : Schedule) (a b : Moment) (by_a : ComesBy s schedule a) (by_b : ComesBy s schedule b) → length by_a.taken < length by_b.taken → length a.entries < length b.entries
  fewer schedule a b by_a by_b less =
      let f = front by_a.taken by_a.later by_b.taken by_b.later (sym by_a.split ∙ by_b.split) less in
      let turned : reverse by_b.taken ≡ reverse f.mid ++ (f.item ∷ reverse by_a.taken) =
      ap reverse f.longer ∙ reverse-append by_a.taken (f.item ∷ f.mid) ∙ ap (λ (l : List Item). l ++ reverse by_a.taken) (reverse-cons f.item f.mid) ∙ append_assoc (reverse f.mid) (f.item ∷ []) (reverse by_a.taken) in
      let at = passed (reverse f.mid) (f.item ∷ reverse by_a.taken) by_b.begun (subst (λ (is : List Item). IsRun s is by_b.begun) turned by_b.items) in
      let leads : Leads s (reverse by_a.taken) f.item at.1.0 at.0 = at.1.2 in
      let same = one_run (reverse by_a.taken) at.1.0 by_a.begun at.1.1 by_a.items in
      let in_time : a.steps ≤ f.item.steps = subst (λ (is : List Item). a.steps ≤ upto is schedule.total) f.rest by_a.in_time in
      let begun : advance_to (body_at s.program) f.item.steps by_a.begun ≡ Some leads.begun = subst (λ (m : Moment). advance_to (body_at s.program) f.item.steps m ≡ Some leads.begun) same leads.steps in
      let first = to_order (body_at s.program) a.steps f.item.steps by_a.begun a leads.begun in_time by_a.steps begun in
      let second = lead_longer (reverse by_a.taken) f.item at.1.0 at.0 leads in
      let third = at.2 in
      let last = to_longer b.steps by_b.begun b by_b.steps in
      omega arith

  pub one_moment : (schedule : Schedule) (a b : Moment) → ComesBy s schedule a → ComesBy s schedule b → length a.entries ≡ length b.entries → a.steps ≡ b.steps → a ≡ b
  one_moment schedule a b by_a by_b long steps =
      elim (cases_lt (length by_a.taken) (length by_b.taken)) [
        | inl less ↦ absurd (let few = fewer schedule a b by_a by_b less in omega arith)
        | inr more ↦ elim (cases_lt (length by_b.taken) (length by_a.taken)) [
          | inl less ↦ absurd (let few = fewer schedule b a by_b by_a less in omega arith)
          | inr equal ↦
              let taken = same_front by_a.taken by_a.later by_b.taken by_b.later (sym by_a.split ∙ by_b.split) (omega arith) in
              let begun = one_run (reverse by_b.taken) by_a.begun by_b.begun (subst (λ (is : List Item). IsRun s (reverse is) by_a.begun) taken by_a.items) by_b.items in
              one_some (advance_to (body_at s.program) b.steps by_b.begun) a b
              (subst (λ (m : Moment). advance_to (body_at s.program) b.steps m ≡ Some a) begun (subst (λ (n : ℕ). advance_to (body_at s.program) n by_a.begun ≡ Some a) steps by_a.steps)) by_b.steps
        ]
      ]
