-- The ranges of a device's numbers.
use Rattle.std.specs.Prelude.{◌≤◌}
use Rattle.device_profile.specs.declared.parts.Store.{Store}
use Rattle.device_profile.specs.declared.parts.Supply.{Supply}

pub record IsStoreInRange (store : Store) : Type 0 where
  pub cap_some : 1 ≤ store.cap
  pub cap : store.cap ≤ 1000000
  pub start : store.start ≤ store.cap
  pub resume : store.resume ≤ store.cap

pub record IsSupplyInRange (supply : Supply) : Type 0 where
  pub log_some : 1 ≤ supply.log
  pub log : supply.log ≤ 1000000
  pub p_some : 1 ≤ supply.p
  pub p : supply.p ≤ 1000000
  pub q : supply.q ≤ 1000000
