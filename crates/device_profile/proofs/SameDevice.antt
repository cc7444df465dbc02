-- A device is what its profile tells of it: what its type keeps of the numbers has one proof.
use Rattle.std.proofs.Common.{◌≡◌, ◌≤◌, ℕ, refl, ap}
use Rattle.std.proofs.Math.Path.{PathP, to_path_p}
use Rattle.std.specs.Coded.{le_prop}
use Rattle.nv_memory.specs.declared.device.Cost.{Cost}
use Rattle.nv_memory.specs.declared.device.Device.{Device}
use Rattle.device_profile.specs.Profile.{Profile, CostNumbers}
use Rattle.device_profile.specs.Told.{numbers_of, profile_told}

le_path : (a b c d : ℕ) (e : a ≡ c) (f : b ≡ d) (h : a ≤ b) (k : c ≤ d) → PathP (λ i. e i ≤ f i) h k
le_path a b c d e f h k = to_path_p (λ i. e i ≤ f i) (le_prop _ k)

cost_same : (c d : Cost) → numbers_of c ≡ numbers_of d → c ≡ d
cost_same c d e =
    let ticks : c.ticks ≡ d.ticks = ap (λ (t : CostNumbers). t.ticks) e in
    let bound : c.bound ≡ d.bound = ap (λ (t : CostNumbers). t.bound) e in
    let actual : c.actual ≡ d.actual = ap (λ (t : CostNumbers). t.actual) e in
    λ i. record {
      ticks = ticks i;
      bound = bound i;
      actual = actual i;
      some_ticks = le_path 1 c.ticks 1 d.ticks refl ticks c.some_ticks d.some_ticks i;
      few_ticks = le_path c.ticks 1000 d.ticks 1000 ticks refl c.few_ticks d.few_ticks i;
      bound_in_range = le_path c.bound 1000000 d.bound 1000000 bound refl c.bound_in_range d.bound_in_range i;
      actual_in_range = le_path c.actual 1000000 d.actual 1000000 actual refl c.actual_in_range d.actual_in_range i;
    }

pub device_same : (d e : Device) → profile_told d ≡ profile_told e → d ≡ e
device_same d e told =
    let cap : d.cap ≡ e.cap = ap (λ (t : Profile). t.cap) told in
    let start : d.start ≡ e.start = ap (λ (t : Profile). t.start) told in
    let resume : d.resume ≡ e.resume = ap (λ (t : Profile). t.resume) told in
    let log : d.log ≡ e.log = ap (λ (t : Profile). t.log) told in
    let p : d.p ≡ e.p = ap (λ (t : Profile). t.p) told in
    let q : d.q ≡ e.q = ap (λ (t : Profile). t.q) told in
    let fill : d.fill ≡ e.fill = ap (λ (t : Profile). t.fill) told in
    let basic : d.basic ≡ e.basic = cost_same d.basic e.basic (ap (λ (t : Profile). t.basic) told) in
    let memory : d.memory ≡ e.memory = cost_same d.memory e.memory (ap (λ (t : Profile). t.memory) told) in
    let out : d.out ≡ e.out = cost_same d.out e.out (ap (λ (t : Profile). t.out) told) in
    let write : d.write ≡ e.write = cost_same d.write e.write (ap (λ (t : Profile). t.write) told) in
    let wake : d.wake ≡ e.wake = cost_same d.wake e.wake (ap (λ (t : Profile). t.wake) told) in
    λ i. record {
      cap = cap i;
      start = start i;
      resume = resume i;
      log = log i;
      p = p i;
      q = q i;
      fill = fill i;
      basic = basic i;
      memory = memory i;
      out = out i;
      write = write i;
      wake = wake i;
      cap_some = le_path 1 d.cap 1 e.cap refl cap d.cap_some e.cap_some i;
      cap_in_range = le_path d.cap 1000000 e.cap 1000000 cap refl d.cap_in_range e.cap_in_range i;
      start_in_cap = le_path d.start d.cap e.start e.cap start cap d.start_in_cap e.start_in_cap i;
      resume_in_cap = le_path d.resume d.cap e.resume e.cap resume cap d.resume_in_cap e.resume_in_cap i;
      log_some = le_path 1 d.log 1 e.log refl log d.log_some e.log_some i;
      log_in_range = le_path d.log 1000000 e.log 1000000 log refl d.log_in_range e.log_in_range i;
      p_some = le_path 1 d.p 1 e.p refl p d.p_some e.p_some i;
      p_in_range = le_path d.p 1000000 e.p 1000000 p refl d.p_in_range e.p_in_range i;
      q_in_range = le_path d.q 1000000 e.q 1000000 q refl d.q_in_range e.q_in_range i;
    }
