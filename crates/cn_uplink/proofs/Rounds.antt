-- Each round is acknowledged, and in the end the host holds the whole log.
use Rattle.std.proofs.Common.{◌≡◌, ◌∙◌, ℕ, zero, suc, ◌≤◌, ◌<◌, nat_eq, nat_lt, Bool, List, [], ◌∷◌, ◌++◌, length, take, Option, Some, true, false, refl, sym, ap, subst, arith, length-append}
use Rattle.std.specs.Prelude.{slice_get, if◌then◌else◌}
use Rattle.std.proofs.lemmas.Bool.Decides.{nat_tests}
use Rattle.std.proofs.lemmas.Grind.{common_steps}
use Rattle.cat_program.specs.declared.outs.LogEntry.{LogEntry}
use Rattle.cn_uplink.specs.declared.packet.Packet.{Packet}
use Rattle.cn_uplink.specs.declared.link_step.LinkStep.{LinkStep}
use Rattle.cn_uplink.specs.Link.{Link, IsFinish, first, course, sends, enters, send_next, may_send, send, send_again, raise_base, take_ack, held_after, holds, take_packet, shown, offer, exchange, round, rounds}
use Rattle.cn_uplink.specs.Faithful.{IsRun, IsSound}
use Rattle.cn_uplink.proofs.Lists.{IsPrefix-length, found, last-at}
use Rattle.cn_uplink.proofs.Steps.{Goes, Goes-none, Goes-then, ack-goes, again-goes, course-goes, first-sound, packet-goes, send-goes}

-- ---- the offer

offer-cases : (s : Link) (empty : Bool) → IsSound s → Goes s (if empty then send s else send_again s (slice_get s.window 0))
offer-cases s true h = send-goes s h
offer-cases s false h = again-goes s 0 h

pub offer-goes : (s : Link) → IsSound s → Goes s (offer s)
offer-goes s h = offer-cases s (nat_eq (length s.window) 0) h

-- what is offered is the packet that the sender counts as the first that the host may lack
record Offers (s t : Link) : Type 0 where
  packet : Packet
  place : packet.place ≡ s.base
  sent : slice_get t.sent (length s.sent) ≡ Some packet
  base : t.base ≡ s.base
  acknowledgements : t.acknowledgements ≡ s.acknowledgements

offers-next : (s : Link) → IsSound s → s.visible ≡ length s.log → s.base < length s.log → s.window ≡ [] → Offers s (offer s)
offers-next s h all lt e =
    let same : s.base ≡ s.next = subst (IsRun s.base s.next) e h.run in
    let short : length s.window ≡ 0 = ap length e in
    let empty : nat_eq (length s.window) 0 ≡ true = grind (arith, nat_tests, short) in
    let may : may_send s ≡ true = grind (arith, nat_tests, short) in
    let f = found s.log s.next (omega arith) in
    let p : Packet = record { place = s.next; entry = f.0 } in
    let is : offer s ≡ enters s p =
    ap (λ (b : Bool). if b then send s else send_again s (slice_get s.window 0)) empty
    ∙ ap (λ (b : Bool). if b then send_next s (slice_get s.log s.next) else s) may
    ∙ ap (send_next s) f.1 in
    subst (Offers s) (sym is) (record { packet = p; place = sym same; sent = last-at s.sent p; base = refl; acknowledgements = refl })

offers-front : (s : Link) (q : Packet) (window : List Packet) → IsSound s → s.window ≡ q ∷ window → Offers s (offer s)
offers-front s q window h e =
    let long : length s.window ≡ suc (length window) = ap length e in
    let full : nat_eq (length s.window) 0 ≡ false = grind (arith, nat_tests, long) in
    let run : IsRun s.base s.next (q ∷ window) = subst (IsRun s.base s.next) e h.run in
    let is : offer s ≡ sends s q =
    ap (λ (b : Bool). if b then send s else send_again s (slice_get s.window 0)) full
    ∙ ap (λ (w : List Packet). send_again s (slice_get w 0)) e in
    subst (Offers s) (sym is) (record { packet = q; place = run.0; sent = last-at s.sent q; base = refl; acknowledgements = refl })

offers-cases : (s : Link) (window : List Packet) → IsSound s → s.visible ≡ length s.log → s.base < length s.log → s.window ≡ window → Offers s (offer s)
offers-cases s [] h all lt e = offers-next s h all lt e
offers-cases s (q ∷ window) h all lt e = offers-front s q window h e

offers : (s : Link) → IsSound s → s.visible ≡ length s.log → s.base < length s.log → Offers s (offer s)
offers s h all lt = offers-cases s s.window h all lt refl

-- ---- the answer

longer-cases : (host : List LogEntry) (p : Packet) (base : ℕ) (is_next : Bool) → nat_eq p.place (length host) ≡ is_next → p.place ≡ base → base ≤ length host
    → base < length (if is_next then host ++ p.entry ∷ [] else host)
longer-cases host p base true e at le = omega (arith, length-append host (p.entry ∷ []))
longer-cases host p base false e at le = grind (arith, nat_tests)

longer : (host : List LogEntry) (p : Packet) (base : ℕ) → p.place ≡ base → base ≤ length host → base < length (held_after host p)
longer host p base at le = longer-cases host p base (nat_eq p.place (length host)) refl at le

exchange-raises : (s : Link) (n ack : ℕ) (p : Packet) → IsSound s → slice_get s.sent n ≡ Some p → p.place ≡ s.base → ack ≡ length s.acknowledgements → s.base < (exchange s n ack).base
exchange-raises s n ack p h e at last =
    let held : Link = holds s (held_after s.host p) in
    let a : ℕ = length (held_after s.host p) in
    let lt : s.base < a = longer s.host p s.base at h.faithful.acknowledged in
    let rises : nat_lt s.base a ≡ true = grind (arith, nat_tests) in
    let told : slice_get held.acknowledgements ack ≡ Some a = ap (slice_get held.acknowledgements) last ∙ last-at s.acknowledgements a in
    let is : exchange s n ack ≡ raise_base held a =
    ap (λ (o : Option Packet). take_ack (take_packet s o) (slice_get (take_packet s o).acknowledgements ack)) e
    ∙ ap (take_ack held) told
    ∙ ap (λ (b : Bool). if b then raise_base held a else held) rises in
    subst (λ (t : Link). s.base < t.base) (sym is) lt

exchange-goes : (s : Link) (n ack : ℕ) → IsSound s → Goes s (exchange s n ack)
exchange-goes s n ack h =
    let arrived : Link = take_packet s (slice_get s.sent n) in
    let g = packet-goes s n h in
    Goes-then s arrived (take_ack arrived (slice_get arrived.acknowledgements ack)) g (ack-goes arrived ack g.sound)

-- ---- rounds

pub round-goes : (s : Link) → IsSound s → Goes s (round s)
round-goes s h =
    let g = offer-goes s h in
    Goes-then s (offer s) (round s) g (exchange-goes (offer s) (length s.sent) (length s.acknowledgements) g.sound)

pub round-raises : (s : Link) → IsSound s → s.visible ≡ length s.log → s.base < length s.log → s.base < (round s).base
round-raises s h all lt =
    let o = offers s h all lt in
    let rises = exchange-raises (offer s) (length s.sent) (length s.acknowledgements) o.packet (offer-goes s h).sound o.sent (o.place ∙ sym o.base) (sym (ap length o.acknowledgements)) in
    subst (λ n. n < (round s).base) o.base rises

pub shown-goes : (s : Link) → IsSound s → Goes s (shown s)
shown-goes s h = record {
  sound = record { faithful = record { prefix = h.faithful.prefix; acknowledged = h.faithful.acknowledged; sent = h.faithful.sent; window = h.faithful.window }; visible = omega arith; next = h.next; run = h.run; few = h.few; acknowledgements = h.acknowledgements };
  log = refl;
  visible = h.visible;
}

pub rounds-goes : (n : ℕ) (s : Link) → IsSound s → Goes s (rounds n s)
unfolding rounds
rounds-goes zero s h = Goes-none s h
rounds-goes (suc n) s h =
    let g = rounds-goes n s h in
    Goes-then s (rounds n s) (round (rounds n s)) g (round-goes (rounds n s) g.sound)

-- all stays visible
pub all-visible : (s t : Link) → Goes s t → s.visible ≡ length s.log → t.visible ≡ length t.log
all-visible s t g all = omega (arith, g.visible, g.sound.visible, ap length g.log)

pub rounds-raise : (n : ℕ) (s : Link) → IsSound s → s.visible ≡ length s.log → ((k : ℕ) → k < n → (rounds k s).base < length s.log) → n ≤ (rounds n s).base
unfolding rounds
rounds-raise zero s h all going = omega arith
rounds-raise (suc n) s h all going =
    let g = rounds-goes n s h in
    let t : Link = rounds n s in
    let so_far : n ≤ t.base = rounds-raise n s h all (λ k lt. going k (omega arith)) in
    let lt : t.base < length t.log = omega (arith, going n (omega arith), ap length g.log) in
    let more = round-raises t g.sound (all-visible s t g all) lt in
    omega (arith, so_far, more)

-- ---- the end

pub finish-goes : (s : Link) (n : ℕ) (end : Link) → IsSound s → IsFinish s n end → Goes s end
finish-goes s n end h f =
    let shows = shown-goes s h in
    subst (Goes s) (sym f.end_is) (Goes-then s (shown s) (rounds n (shown s)) shows (rounds-goes n (shown s) shows.sound))

pub finish-few : (s : Link) (n : ℕ) (end : Link) → IsSound s → IsFinish s n end → n ≤ length s.log
finish-few s n end h f =
    let raised = rounds-raise n (shown s) (shown-goes s h).sound refl f.sooner in
    let same = ap (λ (t : Link). t.base) f.end_is in
    omega (arith, raised, same, f.all)

take-all : {X : Type 0} (n : ℕ) (xs : List X) → n ≡ length xs → take n xs ≡ xs
take-all n xs e = grind (arith, common_steps)

pub finish-whole : (s : Link) (n : ℕ) (end : Link) → IsSound s → IsFinish s n end → end.host ≡ s.log
finish-whole s n end h f =
    let g = finish-goes s n end h f in
    let most = IsPrefix-length end.host end.log g.sound.faithful.prefix in
    let long : length end.host ≡ length end.log = omega (arith, most, g.sound.faithful.acknowledged, f.all, ap length g.log) in
    g.sound.faithful.prefix ∙ take-all (length end.host) end.log long ∙ g.log

-- no later number of rounds ends it
no-later : (s : Link) (n m : ℕ) (end : Link) (other : Link) → IsFinish s n end → IsFinish s m other → n < m → ⊥
no-later s n m end other f g lt =
    let same = ap (λ (t : Link). t.base) f.end_is in
    omega (arith, g.sooner n lt, same, f.all)

same-count : (s : Link) (n m : ℕ) (end other : Link) → IsFinish s n end → IsFinish s m other → (before after : Bool) → nat_lt n m ≡ before → nat_lt m n ≡ after → n ≡ m
same-count s n m end other f g true after e l = absurd (no-later s n m end other f g (grind (arith, nat_tests)))
same-count s n m end other f g false true e l = absurd (no-later s m n other end g f (grind (arith, nat_tests)))
same-count s n m end other f g false false e l = grind (arith, nat_tests)

pub finish-once : (s : Link) (n m : ℕ) (end other : Link) → IsFinish s n end → IsFinish s m other → (n ≡ m) × (end ≡ other)
finish-once s n m end other f g =
    let same = same-count s n m end other f g (nat_lt n m) (nat_lt m n) refl refl in
    (same, f.end_is ∙ ap (λ k. rounds k (shown s)) same ∙ sym g.end_is)

pub course-sound : (log : List LogEntry) (steps : List LinkStep) → Goes (first log) (course steps (first log))
course-sound log steps = course-goes steps (first log) (first-sound log)

pub course-few : (log : List LogEntry) (steps : List LinkStep) (n : ℕ) (end : Link) → IsFinish (course steps (first log)) n end → n ≤ length log
course-few log steps n end f =
    let g = course-sound log steps in
    let few = finish-few (course steps (first log)) n end g.sound f in
    omega (arith, few, ap length g.log)

pub course-whole : (log : List LogEntry) (steps : List LinkStep) (n : ℕ) (end : Link) → IsFinish (course steps (first log)) n end → end.host ≡ log
course-whole log steps n end f =
    let g = course-sound log steps in
    finish-whole (course steps (first log)) n end g.sound f ∙ g.log
