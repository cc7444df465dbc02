-- What a device says, as the numbers and the fill that a profile spells.
use Rattle.std.specs.Prelude.{Result, Ok, Err}
use Rattle.nv_memory.specs.declared.device.Cost.{Cost}
use Rattle.nv_memory.specs.declared.device.Device.{Device}
use Rattle.device_profile.specs.Profile.{CostNumbers, Profile}
use Rattle.device_profile.specs.declared.fault.KeyFault.{KeyFault}

abbrev pub numbers_of : Cost → CostNumbers
numbers_of c = record { ticks = c.ticks; bound = c.bound; actual = c.actual }

abbrev pub profile_told : Device → Profile
profile_told d =
    record {
      cap = d.cap;
      start = d.start;
      resume = d.resume;
      log = d.log;
      p = d.p;
      q = d.q;
      fill = d.fill;
      basic = numbers_of d.basic;
      memory = numbers_of d.memory;
      out = numbers_of d.out;
      write = numbers_of d.write;
      wake = numbers_of d.wake;
    }

abbrev pub told_cost : Result Cost KeyFault → Result CostNumbers KeyFault
told_cost (Ok c) = Ok (numbers_of c)
told_cost (Err e) = Err e

abbrev pub told : Result Device KeyFault → Result Profile KeyFault
told (Ok d) = Ok (profile_told d)
told (Err e) = Err e
