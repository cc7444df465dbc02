-- A sender and a host with a bad link between them: what they hold, and what each step does.
use Rattle.std.specs.Prelude.{◌≡◌, ℕ, zero, suc, ◌+◌, ◌<◌, nat_le, nat_lt, nat_eq, min, max, ◌&&◌, Bool, if◌then◌else◌, List, [], ◌∷◌, ◌++◌, length, Option, None, Some, slice_get}
use Rattle.std.specs.List.{filter}
use Rattle.cat_program.specs.declared.outs.LogEntry.{LogEntry}
use Rattle.cn_uplink.specs.declared.packet.Packet.{Packet}
use Rattle.cn_uplink.specs.declared.link_step.LinkKind.{LinkKind}
use Rattle.cn_uplink.specs.declared.link_step.LinkKind.TheVariants.{Grow, Send, Again, Deliver, Ack, Restart}
use Rattle.cn_uplink.specs.declared.link_step.LinkStep.{LinkStep}

-- The sender has a log, sees its first `visible` records, and counts those below `base` as held by the host. The window has the
-- packets from `base` to before `next`. All packets and all acknowledgements that were ever sent may still arrive, in any order
-- and more than once.
pub record Link : Type 0 where
  pub log : List LogEntry
  pub visible : ℕ
  pub base : ℕ
  pub next : ℕ
  pub window : List Packet
  pub sent : List Packet
  pub acknowledgements : List ℕ
  pub host : List LogEntry

-- nothing is visible, sent or held
abbrev pub first : List LogEntry → Link
first log = record { log = log; visible = 0; base = 0; next = 0; window = []; sent = []; acknowledgements = []; host = [] }

-- the greatest number of packets in the window
abbrev pub most_window : ℕ
most_window = 8

-- ---- the sender

-- n more records are visible, at most all of the log
abbrev pub grow : Link → ℕ → Link
grow s n = record s { visible = min (s.visible + n) (length s.log) }

-- a packet is sent
abbrev pub sends : Link → Packet → Link
sends s p = record s { sent = s.sent ++ p ∷ [] }

-- a packet is sent for the first time: it enters the window
abbrev pub enters : Link → Packet → Link
enters s p = record (sends s p) { window = s.window ++ p ∷ []; next = s.next + 1 }

abbrev pub send_next : Link → Option LogEntry → Link
send_next s None = s
send_next s (Some entry) = enters s (record { place = s.next; entry = entry })

-- the next record is visible, and the window has room for its packet
abbrev pub may_send : Link → Bool
may_send s = nat_lt s.next s.visible && nat_lt (length s.window) most_window

abbrev pub send : Link → Link
send s = if may_send s then send_next s (slice_get s.log s.next) else s

-- a packet of the window is sent once more
abbrev pub send_again : Link → Option Packet → Link
send_again s None = s
send_again s (Some p) = sends s p

-- the host holds all records below `a`, so their packets leave the window
abbrev pub raise_base : Link → ℕ → Link
raise_base s a = record s { base = a; next = max s.next a; window = filter (λ p. nat_le a p.place) s.window }

-- an acknowledgement arrives: one that tells nothing new changes nothing
abbrev pub take_ack : Link → Option ℕ → Link
take_ack s None = s
take_ack s (Some a) = if nat_lt s.base a then raise_base s a else s

-- the sender has forgotten what it sent and what was acknowledged; what is under way stays
abbrev pub restart : Link → Link
restart s = record s { base = 0; next = 0; window = [] }

-- ---- the host

-- what the host holds after a packet: its record is appended where it is the one that comes next
abbrev pub held_after : List LogEntry → Packet → List LogEntry
held_after host p = if nat_eq p.place (length host) then host ++ p.entry ∷ [] else host

-- the host acknowledges what it now holds
abbrev pub holds : Link → List LogEntry → Link
holds s host = record s { host = host; acknowledgements = s.acknowledgements ++ length host ∷ [] }

-- a packet arrives
abbrev pub take_packet : Link → Option Packet → Link
take_packet s None = s
take_packet s (Some p) = holds s (held_after s.host p)

-- ---- steps

-- a step that names a packet or an acknowledgement that there isn't does nothing
abbrev pub step_by : Link → LinkKind → ℕ → Link
step_by s Grow n = grow s n
step_by s Send n = send s
step_by s Again n = send_again s (slice_get s.window n)
step_by s Deliver n = take_packet s (slice_get s.sent n)
step_by s Ack n = take_ack s (slice_get s.acknowledgements n)
step_by s Restart n = restart s

abbrev pub after : Link → LinkStep → Link
after s step = step_by s step.kind step.n

-- the steps in order
unfoldable pub course : List LinkStep → Link → Link
course [] s = s
course (step ∷ steps) s = course steps (after s step)

-- ---- rounds

-- all records are visible
abbrev pub shown : Link → Link
shown s = record s { visible = length s.log }

-- the window's front is sent again, or the next packet where the window is empty
abbrev pub offer : Link → Link
offer s = if nat_eq (length s.window) 0 then send s else send_again s (slice_get s.window 0)

-- the packet of this number arrives, and then the acknowledgement of this number
abbrev pub exchange : Link → ℕ → ℕ → Link
exchange s packet ack = let arrived = take_packet s (slice_get s.sent packet) in take_ack arrived (slice_get arrived.acknowledgements ack)

-- a packet is offered, delivered, and its acknowledgement is delivered: both are the ones that are sent next
abbrev pub round : Link → Link
round s = exchange (offer s) (length s.sent) (length s.acknowledgements)

unfoldable pub rounds : ℕ → Link → Link
rounds zero s = s
rounds (suc n) s = round (rounds n s)

-- from a state with all records visible there are as many rounds as it takes until all of the log is acknowledged
pub record IsFinish (s : Link) (n : ℕ) (end : Link) : Type 0 where
  pub end_is : end ≡ rounds n (shown s)
  pub all : end.base ≡ length s.log
  pub sooner : (k : ℕ) → k < n → (rounds k (shown s)).base < length s.log
