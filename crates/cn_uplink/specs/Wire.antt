-- What the parts of a running link stand for.
use Rattle.std.specs.Prelude.{◌≡◌, ℕ, ◌+◌, ◌≤◌, ◌<◌, length, vec_len, vec_capacity}
use Rattle.cn_uplink.specs.declared.wire.Wire.{Wire}
use Rattle.cn_uplink.specs.Link.{Link, most_window}
use Rattle.cn_uplink.specs.Faithful.{IsSound}

abbrev pub link_of : Wire → Link
link_of w =
    record {
      log = w.log.entries;
      visible = w.visible;
      base = w.base;
      next = w.next;
      window = w.window.items;
      sent = w.sent.items;
      acknowledgements = w.acknowledgements.items;
      host = w.host.entries;
    }

-- a link, and how many steps of its table are left
pub record WorldValue : Type 0 where
  pub link : Link
  pub left : ℕ

-- the parts of a sound link, with room for what the host has yet to hold
pub record IsWire (w : Wire) : Type 0 where
  pub sound : IsSound (link_of w)
  pub capacity : w.window.capacity ≡ most_window
  pub room : length w.host.entries + w.host.spare ≡ length w.log.entries
  pub few : length w.log.entries ≤ 1000000

-- there is room for so many packets and acknowledgements more
pub record HasRoom (packets acknowledgements : ℕ) (w : Wire) : Type 0 where
  pub sent : vec_len w.sent + packets ≤ vec_capacity w.sent
  pub told : vec_len w.acknowledgements + acknowledgements ≤ vec_capacity w.acknowledgements
  pub few_sent : vec_len w.sent + packets ≤ 1100000
  pub few_told : vec_len w.acknowledgements + acknowledgements ≤ 1100000

-- There is room for each step that is left and for the rounds. Once all is acknowledged and no step is left, none is needed.
pub record IsWorld (w : Wire) (left : ℕ) : Type 0 where
  pub wire : IsWire w
  pub few : vec_len w.sent ≤ 1100000
  pub for_steps : 0 < left → HasRoom (left + length w.log.entries) (left + length w.log.entries) w
  pub for_rounds : w.base < length w.log.entries → HasRoom (left + length w.log.entries) (left + length w.log.entries) w
