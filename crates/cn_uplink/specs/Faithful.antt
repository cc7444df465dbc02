-- What holds of a link at every moment.
use Rattle.std.specs.Prelude.{◌≡◌, ℕ, ◌+◌, ◌≤◌, List, [], ◌∷◌, length, take, Some, slice_get}
use Rattle.std.specs.List.{All}
use Rattle.cat_program.specs.declared.outs.LogEntry.{LogEntry}
use Rattle.cn_uplink.specs.declared.packet.Packet.{Packet}
use Rattle.cn_uplink.specs.declared.link_step.LinkStep.{LinkStep}
use Rattle.cn_uplink.specs.Link.{Link, IsFinish, course, first}

-- the packet carries the log's record at its place
abbrev pub Carries : List LogEntry → Packet → Type 0
Carries log p = slice_get log p.place ≡ Some p.entry

-- the records are the first ones of the log
abbrev pub IsPrefix : List LogEntry → List LogEntry → Type 0
IsPrefix records log = records ≡ take (length records) log

-- The host holds the first records of the log; what the sender counts as acknowledged is held; and every packet carries the log's
-- record at its place.
pub record IsFaithful (s : Link) : Type 0 where
  pub prefix : IsPrefix s.host s.log
  pub acknowledged : s.base ≤ length s.host
  pub sent : All (Carries s.log) s.sent
  pub window : All (Carries s.log) s.window

-- the packets of each place from `base` to before `next`
abbrev pub IsRun : ℕ → ℕ → List Packet → Type 0
IsRun base next [] = base ≡ next
IsRun base next (p ∷ ps) = (p.place ≡ base) × IsRun (base + 1) next ps

-- a link that is faithful, and stays so
pub record IsSound (s : Link) : Type 0 where
  pub faithful : IsFaithful s
  pub visible : s.visible ≤ length s.log
  pub next : s.next ≤ length s.log
  pub run : IsRun s.base s.next s.window
  pub few : length s.window ≤ 8
  pub acknowledgements : All (λ a. a ≤ length s.host) s.acknowledgements

-- Over every list of steps on every log the link is faithful. From there on it takes at most as many rounds as the log has records,
-- there is one number of rounds and one end, and there the host holds the whole log.
pub record LinksAreFaithful : Type 0 where
  pub always : (log : List LogEntry) (steps : List LinkStep) → IsFaithful (course steps (first log))
  pub few : (log : List LogEntry) (steps : List LinkStep) (n : ℕ) (end : Link) → IsFinish (course steps (first log)) n end → n ≤ length log
  pub whole : (log : List LogEntry) (steps : List LinkStep) (n : ℕ) (end : Link) → IsFinish (course steps (first log)) n end → end.host ≡ log
  pub once : (s : Link) (n m : ℕ) (one other : Link) → IsFinish s n one → IsFinish s m other → (n ≡ m) × (one ≡ other)

-- what the host holds of a log it holds of every log that begins with it
abbrev pub PrefixesGoOn : Type 0
PrefixesGoOn = (held log later : List LogEntry) → IsPrefix held log → IsPrefix log later → IsPrefix held later
