-- The rounds after the last step.
use Rattle.std.proofs.Common.{◌≡◌, ◌∙◌, ℕ, suc, ◌+◌, ◌-◌, ◌≤◌, ◌<◌, length, refl, ap, arith}
use Rattle.std.specs.Prelude.{vec_len}
use borrow.Author.Count.{below_more}
use Rattle.cn_uplink.specs.declared.wire.Wire.{Wire}
use Rattle.cn_uplink.specs.Link.{Link, IsFinish, round, rounds, shown}
use Rattle.cn_uplink.specs.Faithful.{IsSound}
use Rattle.cn_uplink.specs.Wire.{HasRoom, IsWire, IsWorld, link_of}
use Rattle.cn_uplink.proofs.Lists.{IsPrefix-length}
use Rattle.cn_uplink.proofs.Rounds.{all-visible, finish-few, finish-whole, round-raises, rounds-goes, shown-goes}
use Rattle.cn_uplink.proofs.Wires.{less}

-- k rounds have been done from a link on, and not all of the log was acknowledged before any of them
pub record IsRounding (start : Link) (len k : ℕ) (w : Wire) (left : ℕ) : Type 0 where
  pub link : link_of w ≡ rounds k (shown start)
  pub sound : IsSound start
  pub wire : IsWire w
  pub len_is : len ≡ length start.log
  pub sooner : (j : ℕ) → j < k → (rounds j (shown start)).base < length start.log
  pub raised : k ≤ w.base
  pub over : left ≡ 0
  pub few : vec_len w.sent ≤ 1100000
  pub room : w.base < len → HasRoom (len - w.base) (len - w.base) w

pub rounding-init : (old new : Wire) (left len : ℕ) → IsWorld old left → link_of new ≡ shown (link_of old) → IsWire new → new ≡ record old { visible = new.visible } → ((packets acks : ℕ) → HasRoom packets acks old → HasRoom packets acks new)
    → len ≡ length old.log.entries → IsRounding (link_of old) len 0 new 0
unfolding rounds
rounding-init old new left len h e wire others room is =
    let base : new.base ≡ old.base = ap (λ (w : Wire). w.base) others in
    record {
      link = e;
      sound = h.wire.sound;
      wire = wire;
      len_is = is;
      sooner = λ j lt. absurd (omega arith);
      raised = omega arith;
      over = refl;
      few = omega (arith, h.few, ap (λ (w : Wire). vec_len w.sent) others);
      room = λ lt. room (len - new.base) (len - new.base)
          (less (left + length old.log.entries) (left + length old.log.entries) (len - new.base) (len - new.base) old (h.for_rounds (omega arith)) (omega arith) (omega arith));
    }

rounds-next : (k : ℕ) (s : Link) → round (rounds k s) ≡ rounds (k + 1) s
unfolding rounds
rounds-next k s = let next : suc k ≡ k + 1 = omega arith in ap (λ n. rounds n s) next

-- one round more raises the base
pub rounding-raises : (start : Link) (len k : ℕ) (w new : Wire) (left : ℕ) → IsRounding start len k w left → w.base < len → link_of new ≡ round (link_of w) → w.base < new.base
rounding-raises start len k w new left h lt e =
    let s : Link = shown start in
    let g = rounds-goes k s (shown-goes start h.sound).sound in
    let base : w.base ≡ (rounds k s).base = ap (λ (l : Link). l.base) h.link in
    let log : length (rounds k s).log ≡ length start.log = ap length g.log in
    let raises = round-raises (rounds k s) g.sound (all-visible s (rounds k s) g refl) (omega (arith, h.len_is)) in
    let now : new.base ≡ (round (rounds k s)).base = ap (λ (l : Link). l.base) (e ∙ ap round h.link) in
    omega (arith, raises)

pub rounding-step : (start : Link) (len k : ℕ) (w new : Wire) (left : ℕ) → IsRounding start len k w left → w.base < len → link_of new ≡ round (link_of w) → IsWire new
    → ((packets acks : ℕ) → HasRoom (packets + 1) (acks + 1) w → HasRoom packets acks new) → IsRounding start len (k + 1) new left
rounding-step start len k w new left h lt e wire room =
    let raises = rounding-raises start len k w new left h lt e in
    let base : w.base ≡ (rounds k (shown start)).base = ap (λ (l : Link). l.base) h.link in
    let m : ℕ = len - w.base - 1 in
    let next = room m m (less (len - w.base) (len - w.base) (m + 1) (m + 1) w (h.room lt) (omega arith) (omega arith)) in
    record {
      link = e ∙ ap round h.link ∙ rounds-next k (shown start);
      sound = h.sound;
      wire = wire;
      len_is = h.len_is;
      sooner = below_more (λ j. (rounds j (shown start)).base < length start.log) k h.sooner (omega (arith, h.len_is));
      raised = omega (arith, h.raised);
      over = h.over;
      few = omega (arith, next.few_sent);
      room = λ more. less m m (len - new.base) (len - new.base) new next (omega arith) (omega arith);
    }

pub rounding-log : (start : Link) (len k : ℕ) (w : Wire) (left : ℕ) → IsRounding start len k w left → w.log.entries ≡ start.log
rounding-log start len k w left h = ap (λ (l : Link). l.log) h.link ∙ (rounds-goes k (shown start) (shown-goes start h.sound).sound).log

pub rounding-ends : (start : Link) (len k : ℕ) (w : Wire) (left : ℕ) → IsRounding start len k w left → len ≤ w.base → IsFinish start k (link_of w)
rounding-ends start len k w left h all =
    let held = h.wire.sound.faithful.acknowledged in
    let most = IsPrefix-length w.host.entries w.log.entries h.wire.sound.faithful.prefix in
    record {
      end_is = h.link;
      all = omega (arith, held, most, h.len_is, ap length (rounding-log start len k w left h));
      sooner = h.sooner;
    }

pub rounding-whole : (start : Link) (len k : ℕ) (w : Wire) (left : ℕ) → IsRounding start len k w left → len ≤ w.base → w.host.entries ≡ start.log
rounding-whole start len k w left h all = finish-whole start k (link_of w) h.sound (rounding-ends start len k w left h all)

pub rounding-few : (start : Link) (len k : ℕ) (w : Wire) (left : ℕ) → IsRounding start len k w left → len ≤ w.base → k ≤ length start.log
rounding-few start len k w left h all = finish-few start k (link_of w) h.sound (rounding-ends start len k w left h all)

pub rounding-world : (start : Link) (len k : ℕ) (w : Wire) (left : ℕ) → IsRounding start len k w left → len ≤ w.base → IsWorld w left
rounding-world start len k w left h all = record {
  wire = h.wire;
  few = h.few;
  for_steps = λ some. absurd (omega (arith, h.over));
  for_rounds = λ lt. absurd (omega (arith, h.len_is, ap length (rounding-log start len k w left h)));
}
