-- What the parts of a link come to after a step.
use Rattle.std.proofs.Common.{◌≡◌, ◌∙◌, ℕ, ◌+◌, ◌-◌, ◌≤◌, ◌<◌, max, nat_lt, nat_le, Bool, List, [], ◌∷◌, ◌++◌, length, drop, get_or, Some, true, false, refl, sym, ap, arith, length-append}
use Rattle.std.specs.Prelude.{slice_get, if◌then◌else◌}
use Rattle.std.specs.List.{filter}
use Rattle.std.proofs.lemmas.Bool.Decides.{nat_tests}
use Rattle.std.proofs.lemmas.Option.{slice_get-get_or, slice_get_read}
use Rattle.circular_buffer.specs.Buffer.{Buffer, buffer, keep_last}
use Rattle.cat_program.specs.declared.outs.LogEntry.{LogEntry}
use Rattle.cn_uplink.specs.declared.packet.Packet.{Packet}
use Rattle.cn_uplink.specs.declared.link_step.LinkStep.{LinkStep}
use Rattle.cn_uplink.specs.declared.wire.Wire.{Wire}
use Rattle.cn_uplink.specs.Link.{Link, after, enters, send_next, may_send, send, raise_base, take_ack, held_after, holds, take_packet}
use Rattle.cn_uplink.specs.Wire.{HasRoom, IsWire, IsWorld, link_of}
use Rattle.cn_uplink.proofs.Steps.{after-goes}

-- an item that was read
pub read-at : {X : Type 0} (xs ys : List X) (k : ℕ) (x : X) → ys ≡ xs → k < length ys → x ≡ get_or ys k x → slice_get xs k ≡ Some x
read-at xs ys k x e lt is = ap (λ l. slice_get l k) (sym e) ∙ slice_get_read ys (length ys) k x refl lt is

-- a buffer with room keeps all
keep-all : (n : ℕ) (xs : List Packet) → length xs ≤ n → keep_last n xs ≡ xs
keep-all n xs le = let none : length xs - n ≡ 0 = omega arith in ap (λ k. drop k xs) none

pub send-is : (s : Link) (entries : List LogEntry) (d : LogEntry) (capacity : ℕ) (window : Buffer Packet) (sent : List Packet)
    → s.next < s.visible → s.visible ≤ length s.log → length s.window < 8 → capacity ≡ 8 → entries ≡ s.log
    → window ≡ buffer (keep_last capacity (s.window ++ record { place = s.next; entry = get_or entries s.next d } ∷ [])) capacity
    → sent ≡ s.sent ++ record { place = s.next; entry = get_or entries s.next d } ∷ []
    → record s { next = s.next + 1; window = window.items; sent = sent } ≡ send s
send-is s entries d capacity window sent lt le room eight e w t =
    let p : Packet = record { place = s.next; entry = get_or entries s.next d } in
    let at : slice_get s.log s.next ≡ Some p.entry = ap (λ (l : List LogEntry). slice_get l s.next) (sym e) ∙ slice_get-get_or entries s.next d (omega (arith, ap length e)) in
    let may : may_send s ≡ true = grind (arith, nat_tests) in
    let is : send s ≡ enters s p = ap (λ (b : Bool). if b then send_next s (slice_get s.log s.next) else s) may ∙ ap (send_next s) at in
    let all : window.items ≡ s.window ++ p ∷ [] = ap (λ (b : Buffer Packet). b.items) w ∙ keep-all capacity (s.window ++ p ∷ []) (omega (arith, length-append s.window (p ∷ []))) in
    ap (λ (x : List Packet). record s { next = s.next + 1; window = x; sent = sent }) all
    ∙ ap (λ (x : List Packet). record s { next = s.next + 1; window = s.window ++ p ∷ []; sent = x }) t
    ∙ sym is

pub packet-is : (s : Link) (n : ℕ) (p : Packet) (entries host : List LogEntry) (acknowledgements : List ℕ) → slice_get s.sent n ≡ Some p → host ≡ held_after s.host p → entries ≡ host
    → acknowledgements ≡ s.acknowledgements ++ length entries ∷ [] → record s { host = host; acknowledgements = acknowledgements } ≡ take_packet s (slice_get s.sent n)
packet-is s n p entries host acknowledgements at h e a =
    ap (λ (x : List ℕ). record s { host = host; acknowledgements = x }) (a ∙ ap (λ (l : List LogEntry). s.acknowledgements ++ length l ∷ []) e)
    ∙ ap (holds s) h
    ∙ sym (ap (take_packet s) at)

pub raise-is : (s : Link) (n a next : ℕ) (window : List Packet) → slice_get s.acknowledgements n ≡ Some a → s.base < a → next ≡ max s.next a → window ≡ filter (λ p. nat_le a p.place) s.window
    → record s { base = a; next = next; window = window } ≡ take_ack s (slice_get s.acknowledgements n)
raise-is s n a next window at lt top w =
    let rises : nat_lt s.base a ≡ true = grind (arith, nat_tests) in
    ap (λ (k : ℕ). record s { base = a; next = k; window = window }) top
    ∙ ap (λ (x : List Packet). record s { base = a; next = max s.next a; window = x }) w
    ∙ sym (ap (take_ack s) at ∙ ap (λ (b : Bool). if b then raise_base s a else s) rises)

pub ack-told : (s : Link) (n a : ℕ) → slice_get s.acknowledgements n ≡ Some a → a ≤ s.base → s ≡ take_ack s (slice_get s.acknowledgements n)
ack-told s n a at le =
    let stays : nat_lt s.base a ≡ false = grind (arith, nat_tests) in
    sym (ap (take_ack s) at ∙ ap (λ (b : Bool). if b then raise_base s a else s) stays)

-- ---- room

pub less : (packets acks fewer fewer_acks : ℕ) (w : Wire) → HasRoom packets acks w → fewer ≤ packets → fewer_acks ≤ acks → HasRoom fewer fewer_acks w
less packets acks fewer fewer_acks w h p a = record {
  sent = omega (arith, h.sent);
  told = omega (arith, h.told);
  few_sent = omega (arith, h.few_sent);
  few_told = omega (arith, h.few_told);
}

pub world-step : (old new : Wire) (left : ℕ) (step : LinkStep) → 0 < left → IsWorld old left → link_of new ≡ after (link_of old) step → IsWire new
    → ((packets acks : ℕ) → HasRoom (packets + 1) (acks + 1) old → HasRoom packets acks new) → IsWorld new (left - 1)
world-step old new left step some h e wire room =
    let n : ℕ = length old.log.entries in
    let same : length new.log.entries ≡ n = ap (λ (l : Link). length l.log) e ∙ ap length (after-goes (link_of old) step h.wire.sound).log in
    let more = h.for_steps some in
    let m : ℕ = left - 1 + length new.log.entries in
    let next = room m m (less (left + n) (left + n) (m + 1) (m + 1) old more (omega arith) (omega arith)) in
    record { wire = wire; few = omega (arith, next.few_sent); for_steps = λ _. next; for_rounds = λ _. next }
