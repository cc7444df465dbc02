-- Each step leads from a sound link to a sound link over the same log.
use Rattle.std.proofs.Common.{◌≡◌, ◌∙◌, ℕ, ◌≤◌, ◌<◌, nat_eq, nat_lt, nat_le, Bool, List, [], ◌∷◌, ◌++◌, length, Option, Some, None, true, false, refl, subst, arith, length-append}
use Rattle.std.specs.Prelude.{slice_get, if◌then◌else◌}
use Rattle.std.proofs.lemmas.Bool.Decides.{nat_tests}
use Rattle.std.proofs.lemmas.List.Elements.{All-filter, All-nil, All-push, All-weaker}
use Rattle.std.proofs.lemmas.Option.{slice_get_within}
use Rattle.cat_program.specs.declared.outs.LogEntry.{LogEntry}
use Rattle.cn_uplink.specs.declared.packet.Packet.{Packet}
use Rattle.cn_uplink.specs.declared.link_step.LinkKind.{LinkKind}
use Rattle.cn_uplink.specs.declared.link_step.LinkKind.TheVariants.{Grow, Send, Again, Deliver, Ack, Restart}
use Rattle.cn_uplink.specs.declared.link_step.LinkStep.{LinkStep}
use Rattle.cn_uplink.specs.Link.{Link, first, grow, sends, enters, send_next, may_send, send, send_again, raise_base, take_ack, restart, holds, take_packet, step_by, after, course}
use Rattle.cn_uplink.specs.Faithful.{Carries, IsPrefix, IsSound}
use Rattle.cn_uplink.proofs.Lists.{All-at, IsPrefix-length, IsPrefix-push, IsRun-filter, IsRun-push, length-filter-le}

-- a sound link over the same log, with no fewer visible records
pub record Goes (s t : Link) : Type 0 where
  pub sound : IsSound t
  pub log : t.log ≡ s.log
  pub visible : s.visible ≤ t.visible

pub Goes-none : (s : Link) → IsSound s → Goes s s
Goes-none s h = record { sound = h; log = refl; visible = omega arith }

pub Goes-then : (s t u : Link) → Goes s t → Goes t u → Goes s u
Goes-then s t u g h = record { sound = h.sound; log = h.log ∙ g.log; visible = omega (arith, g.visible, h.visible) }

pub first-sound : (log : List LogEntry) → IsSound (first log)
first-sound log = record {
  faithful = record { prefix = refl; acknowledged = omega arith; sent = All-nil (Carries log); window = All-nil (Carries log) };
  visible = omega arith;
  next = omega arith;
  run = refl;
  few = omega arith;
  acknowledgements = All-nil (λ a. a ≤ 0);
}

-- ---- the sender

pub grow-goes : (s : Link) (n : ℕ) → IsSound s → Goes s (grow s n)
grow-goes s n h = record {
  sound = record { faithful = record { prefix = h.faithful.prefix; acknowledged = h.faithful.acknowledged; sent = h.faithful.sent; window = h.faithful.window }; visible = omega arith; next = h.next; run = h.run; few = h.few; acknowledgements = h.acknowledgements };
  log = refl;
  visible = omega (arith, h.visible);
}

pub sends-goes : (s : Link) (p : Packet) → IsSound s → Carries s.log p → Goes s (sends s p)
sends-goes s p h e = record {
  sound = record {
    faithful = record { prefix = h.faithful.prefix; acknowledged = h.faithful.acknowledged; sent = All-push (Carries s.log) s.sent p h.faithful.sent e; window = h.faithful.window };
    visible = h.visible;
    next = h.next;
    run = h.run;
    few = h.few;
    acknowledgements = h.acknowledgements;
  };
  log = refl;
  visible = omega arith;
}

pub enters-goes : (s : Link) (entry : LogEntry) → IsSound s → length s.window < 8 → slice_get s.log s.next ≡ Some entry → Goes s (enters s (record { place = s.next; entry = entry }))
enters-goes s entry h room e =
    let p : Packet = record { place = s.next; entry = entry } in
    record {
      sound = record {
        faithful = record {
          prefix = h.faithful.prefix;
          acknowledged = h.faithful.acknowledged;
          sent = All-push (Carries s.log) s.sent p h.faithful.sent e;
          window = All-push (Carries s.log) s.window p h.faithful.window e;
        };
        visible = h.visible;
        next = omega (arith, slice_get_within s.log s.next entry e);
        run = IsRun-push s.base s.next s.window p h.run refl;
        few = omega (arith, length-append s.window (p ∷ []));
        acknowledgements = h.acknowledgements;
      };
      log = refl;
      visible = omega arith;
    }

pub has_room : (s : Link) → may_send s ≡ true → length s.window < 8
has_room s e = grind (arith, nat_tests)

send-cases : (s : Link) (may : Bool) (entry : Option LogEntry) → IsSound s → may_send s ≡ may → slice_get s.log s.next ≡ entry → Goes s (if may then send_next s entry else s)
send-cases s false entry h e f = Goes-none s h
send-cases s true None h e f = Goes-none s h
send-cases s true (Some entry) h e f = enters-goes s entry h (has_room s e) f

pub send-goes : (s : Link) → IsSound s → Goes s (send s)
send-goes s h = send-cases s (may_send s) (slice_get s.log s.next) h refl refl

again-cases : (s : Link) (n : ℕ) (p : Option Packet) → IsSound s → slice_get s.window n ≡ p → Goes s (send_again s p)
again-cases s n None h e = Goes-none s h
again-cases s n (Some p) h e = sends-goes s p h (All-at (Carries s.log) s.window n p e h.faithful.window)

pub again-goes : (s : Link) (n : ℕ) → IsSound s → Goes s (send_again s (slice_get s.window n))
again-goes s n h = again-cases s n (slice_get s.window n) h refl

raise-goes : (s : Link) (a : ℕ) → IsSound s → s.base < a → a ≤ length s.host → Goes s (raise_base s a)
raise-goes s a h lt le = record {
  sound = record {
    faithful = record { prefix = h.faithful.prefix; acknowledged = le; sent = h.faithful.sent; window = All-filter (λ p. nat_le a p.place) (Carries s.log) s.window h.faithful.window };
    visible = h.visible;
    next = omega (arith, h.next, IsPrefix-length s.host s.log h.faithful.prefix);
    run = IsRun-filter a s.base s.next s.window h.run lt;
    few = omega (arith, h.few, length-filter-le (λ (p : Packet). nat_le a p.place) s.window);
    acknowledgements = h.acknowledgements;
  };
  log = refl;
  visible = omega arith;
}

raise-cases : (s : Link) (a : ℕ) (rises : Bool) → IsSound s → nat_lt s.base a ≡ rises → a ≤ length s.host → Goes s (if rises then raise_base s a else s)
raise-cases s a false h e le = Goes-none s h
raise-cases s a true h e le = raise-goes s a h (grind (arith, nat_tests)) le

ack-cases : (s : Link) (n : ℕ) (a : Option ℕ) → IsSound s → slice_get s.acknowledgements n ≡ a → Goes s (take_ack s a)
ack-cases s n None h e = Goes-none s h
ack-cases s n (Some a) h e = raise-cases s a (nat_lt s.base a) h refl (All-at (λ (a : ℕ). a ≤ length s.host) s.acknowledgements n a e h.acknowledgements)

pub ack-goes : (s : Link) (n : ℕ) → IsSound s → Goes s (take_ack s (slice_get s.acknowledgements n))
ack-goes s n h = ack-cases s n (slice_get s.acknowledgements n) h refl

pub restart-goes : (s : Link) → IsSound s → Goes s (restart s)
restart-goes s h = record {
  sound = record {
    faithful = record { prefix = h.faithful.prefix; acknowledged = omega arith; sent = h.faithful.sent; window = All-nil (Carries s.log) };
    visible = h.visible;
    next = omega arith;
    run = refl;
    few = omega arith;
    acknowledgements = h.acknowledgements;
  };
  log = refl;
  visible = omega arith;
}

-- ---- the host

-- a longer list that is still of the log
holds-goes : (s : Link) (host : List LogEntry) → IsSound s → IsPrefix host s.log → length s.host ≤ length host → Goes s (holds s host)
holds-goes s host h pre le = record {
  sound = record {
    faithful = record { prefix = pre; acknowledged = omega (arith, h.faithful.acknowledged); sent = h.faithful.sent; window = h.faithful.window };
    visible = h.visible;
    next = h.next;
    run = h.run;
    few = h.few;
    acknowledgements = All-push (λ a. a ≤ length host) s.acknowledgements (length host) (All-weaker (λ a. a ≤ length s.host) (λ a. a ≤ length host) (λ a small. omega arith) s.acknowledgements h.acknowledgements) (omega arith);
  };
  log = refl;
  visible = omega arith;
}

held-cases : (s : Link) (p : Packet) (is_next : Bool) → IsSound s → Carries s.log p → nat_eq p.place (length s.host) ≡ is_next → Goes s (holds s (if is_next then s.host ++ p.entry ∷ [] else s.host))
held-cases s p false h e f = holds-goes s s.host h h.faithful.prefix (omega arith)
held-cases s p true h e f =
    let same : p.place ≡ length s.host = grind (arith, nat_tests) in
    holds-goes s (s.host ++ p.entry ∷ []) h (IsPrefix-push s.host s.log p.entry h.faithful.prefix (subst (λ k. slice_get s.log k ≡ Some p.entry) same e)) (omega (arith, length-append s.host (p.entry ∷ [])))

packet-cases : (s : Link) (n : ℕ) (p : Option Packet) → IsSound s → slice_get s.sent n ≡ p → Goes s (take_packet s p)
packet-cases s n None h e = Goes-none s h
packet-cases s n (Some p) h e = held-cases s p (nat_eq p.place (length s.host)) h (All-at (Carries s.log) s.sent n p e h.faithful.sent) refl

pub packet-goes : (s : Link) (n : ℕ) → IsSound s → Goes s (take_packet s (slice_get s.sent n))
packet-goes s n h = packet-cases s n (slice_get s.sent n) h refl

-- ---- steps

step-goes : (s : Link) (kind : LinkKind) (n : ℕ) → IsSound s → Goes s (step_by s kind n)
step-goes s Grow n h = grow-goes s n h
step-goes s Send n h = send-goes s h
step-goes s Again n h = again-goes s n h
step-goes s Deliver n h = packet-goes s n h
step-goes s Ack n h = ack-goes s n h
step-goes s Restart n h = restart-goes s h

pub after-goes : (s : Link) (step : LinkStep) → IsSound s → Goes s (after s step)
after-goes s step h = step-goes s step.kind step.n h

pub course-goes : (steps : List LinkStep) (s : Link) → IsSound s → Goes s (course steps s)
unfolding course
course-goes [] s h = Goes-none s h
course-goes (step ∷ steps) s h =
    let g = after-goes s step h in
    Goes-then s (after s step) (course steps (after s step)) g (course-goes steps (after s step) g.sound)
