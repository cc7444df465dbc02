-- The policy names one choice.
use Rattle.std.proofs.Common.{◌≡◌, ◌⊎◌, inl, inr, ℕ, ◌+◌, ◌≤◌, ◌<◌, Option, Some, None, refl, sym, ap, ap₂, ◌∙◌, arith}
use Rattle.std.specs.Prelude.{slice_index}
use Rattle.event_arrivals.specs.Arrivals.{arrival_at}
use Rattle.event_arrivals.specs.Next.{ComesFirst}
use Rattle.event_arrivals.specs.declared.arrival.Arrival.{Arrival}
use Rattle.event_queue.specs.declared.queue.Due.{Due}
use Rattle.event_queue.specs.Queue.{QueueValue, IsDue, arrival_of}
use Rattle.cn_scheduler.specs.declared.plan.Plan.{Plan}
use Rattle.cn_scheduler.specs.declared.choice.Choice.{Choice}
use Rattle.cn_scheduler.specs.Point.{Point}
use Rattle.cn_scheduler.specs.Policy.{IsNextDue, Chooses, choice_with}

comes_once : (d e k d' e' k' : ℕ) → ComesFirst d e k d' e' k' → ComesFirst d' e' k' d e k → (e ≡ e') × (k ≡ k')
comes_once d e k d' e' k' (inl less) (inl more) = absurd (omega (arith, less, more))
comes_once d e k d' e' k' (inl less) (inr more) = absurd (omega (arith, less, more.0))
comes_once d e k d' e' k' (inr same) (inl more) = absurd (omega (arith, same.0, more))
comes_once d e k d' e' k' (inr same) (inr more) = by_event same.1 more.1
  where
    by_event : (e < e') ⊎ ((e ≡ e') × (k ≤ k')) → (e' < e) ⊎ ((e' ≡ e) × (k' ≤ k)) → (e ≡ e') × (k ≡ k')
    by_event (inl a) (inl b) = absurd (omega (arith, a, b))
    by_event (inl a) (inr b) = absurd (omega (arith, a, b.0))
    by_event (inr a) (inl b) = absurd (omega (arith, a.0, b))
    by_event (inr a) (inr b) = (a.0, omega (arith, a.1, b.1))

due_once : (q : QueueValue) (done : ℕ → ℕ) (now : ℕ) (a b : Due) → IsDue q done now a → IsDue q done now b → a ≡ b
due_once q done now a b x y =
    let both = comes_once _ _ _ _ _ _ (x.next.first b.event b.index (arrival_of b) y.next.pending) (y.next.first a.event a.index (arrival_of a) x.next.pending) in
    let one : Some (arrival_of a) ≡ Some (arrival_of b) = sym x.next.pending.is_it ∙ ap₂ (λ (e k : ℕ). arrival_at q.arrivals e k) both.0 both.1 ∙ y.next.pending.is_it in
    let same : arrival_of a ≡ arrival_of b = cc in
    let arrived : a.arrived ≡ b.arrived = ap (λ (x : Arrival). x.tick) same in
    let payload = ap (λ (x : Arrival). x.payload) same in
    let deadline : a.deadline ≡ b.deadline = x.deadline ∙ ap₂ (λ (t e : ℕ). t + slice_index q.deadlines e) arrived both.0 ∙ sym y.deadline in
    λ i. record { event = both.0 i; index = both.1 i; arrived = arrived i; deadline = deadline i; payload = payload i }

next_once : (q : QueueValue) (done : ℕ → ℕ) (now : ℕ) (n m : Option Due) → IsNextDue q done now n → IsNextDue q done now m → n ≡ m
next_once q done now None None x y = refl
next_once q done now None (Some b) x y = absurd (x b.event b.index (arrival_of b) y.next.pending)
next_once q done now (Some a) None x y = absurd (y a.event a.index (arrival_of a) x.next.pending)
next_once q done now (Some a) (Some b) x y = ap (λ (d : Due). Some d) (due_once q done now a b x y)

pub choice_once : (plan : Plan) (p : Point) (one other : Choice) → Chooses plan p one → Chooses plan p other → one ≡ other
choice_once plan p one other x y =
    x.choice_is ∙ ap (choice_with plan p) (next_once plan.queue (slice_index p.work.done) p.board.tick x.next y.next x.is_next y.is_next) ∙ sym y.choice_is
