-- The store along entries, by the harvest of each tick.
use Rattle.std.proofs.Common.{◌≡◌, ℕ, zero, suc, ◌+◌, ◌-◌, ◌<◌, min, List, [], ◌∷◌, ◌++◌, length, refl, sym, ap, ap₂, subst, ◌∙◌, arith, append_assoc, length-append}
use Rattle.std.specs.Prelude.{slice_index}
use Rattle.nv_memory.specs.declared.device.Device.{Device}
use Rattle.nv_memory.specs.declared.entry.Entry.{Entry}
use Rattle.nv_memory.specs.Board.{State, filled}
use Rattle.demand_core.specs.declared.Base.{Base}
use Rattle.calm_stretch.specs.Moment.{Outside}
use Rattle.calm_stretch.specs.Operations.{filled as filled_by, stored_by_all}
use Rattle.calm_timeline.specs.Calm.{harvest_at}
use Rattle.calm_timeline.proofs.Asks.{operations_of, Passes, PassesAll}

filled_same : (cap t stored : ℕ) (h : ℕ → ℕ) (passed : List ℕ) → ((i : ℕ) → i < length passed → h (t + i) ≡ slice_index passed i) →
    filled cap stored passed ≡ filled_by cap h t stored (length passed)
filled_same cap t stored h [] same = refl
filled_same cap t stored h (x ∷ passed) same =
    let here : h (t + 0) ≡ x = same 0 (omega arith) in
    let none : t + 0 ≡ t = omega arith in
    let first : x ≡ h t = sym here ∙ ap h none in
    let rest = filled_same cap (t + 1) (min cap (stored + x)) h passed
    (λ i less. let e : t + 1 + i ≡ t + suc i = omega arith in ap h e ∙ same (suc i) (omega arith)) in
    rest ∙ ap (λ (y : ℕ). filled_by cap h (t + 1) (min cap (stored + y)) (length passed)) first

-- a board that began at tick `origin`
abbrev pub Began : ℕ → State → Type 0
Began origin s = origin + length s.harvest ≡ s.tick

-- a board is on the way to another one
abbrev pub LeadsTo : State → State → Type 0
LeadsTo s final = (rest : List ℕ) × (final.harvest ≡ s.harvest ++ rest)

index_behind : (xs ys : List ℕ) (i : ℕ) → slice_index (xs ++ ys) (length xs + i) ≡ slice_index ys i
index_behind [] ys i = let e : 0 + i ≡ i = omega arith in ap (λ (k : ℕ). slice_index ys k) e
index_behind (x ∷ xs) ys i =
    let e : length (x ∷ xs) + i ≡ suc (length xs + i) = omega arith in
    rw e (index_behind xs ys i)

index_front : (xs ys : List ℕ) (i : ℕ) → i < length xs → slice_index (xs ++ ys) i ≡ slice_index xs i
index_front [] ys i less = absurd (omega arith)
index_front (x ∷ xs) ys zero less = refl
index_front (x ∷ xs) ys (suc i) less = index_front xs ys i (omega arith)

module _ (device : Device) (base : Base) (out : Outside) (origin : ℕ) (final : State) (harvest : out.harvest ≡ harvest_at origin final) where
  began_on : (old new : State) (entry : Entry) → Passes old entry new → Began origin old → Began origin new
  began_on old new entry p began =
      let tick = p.tick in
      let more : length new.harvest ≡ length old.harvest + length p.passed = ap (λ (xs : List ℕ). length xs) p.harvest ∙ length-append old.harvest p.passed in
      omega arith

  leads_back : (old new : State) (entry : Entry) → Passes old entry new → LeadsTo new final → LeadsTo old final
  leads_back old new entry p leads =
      (p.passed ++ leads.0, leads.1 ∙ ap (λ (xs : List ℕ). xs ++ leads.0) p.harvest ∙ append_assoc old.harvest p.passed leads.0)

  pub leads_back_all : (entries : List Entry) (old new : State) → PassesAll old entries new → LeadsTo new final → LeadsTo old final
  leads_back_all [] old new same leads = subst (λ (s : State). LeadsTo s final) same leads
  leads_back_all (e ∷ entries) old new passes leads = leads_back old passes.0 e passes.1 (leads_back_all entries passes.0 new passes.2 leads)

  pub began_on_all : (entries : List Entry) (old new : State) → PassesAll old entries new → Began origin old → Began origin new
  began_on_all [] old new same began = subst (λ (s : State). Began origin s) (sym same) began
  began_on_all (e ∷ entries) old new passes began = began_on_all entries passes.0 new passes.2 (began_on old passes.0 e passes.1 began)

  -- the harvest of the ticks that an entry passes
  harvested : (old new : State) (entry : Entry) (p : Passes old entry new) → Began origin old → LeadsTo new final →
      (i : ℕ) → i < length p.passed → out.harvest (old.tick + i) ≡ slice_index p.passed i
  harvested old new entry p began leads i less =
      let place : old.tick + i - origin ≡ length old.harvest + i = omega arith in
      let all : final.harvest ≡ old.harvest ++ (p.passed ++ leads.0) =
      leads.1 ∙ ap (λ (xs : List ℕ). xs ++ leads.0) p.harvest ∙ append_assoc old.harvest p.passed leads.0 in
      ap (λ (h : ℕ → ℕ). h (old.tick + i)) harvest
      ∙ ap₂ (λ (xs : List ℕ) (k : ℕ). slice_index xs k) all place
      ∙ index_behind old.harvest (p.passed ++ leads.0) i ∙ index_front p.passed leads.0 i less

  pub stored_along : (entries : List Entry) (old new : State) → base.cap ≡ old.cap → PassesAll old entries new → Began origin old → LeadsTo new final →
      new.stored ≡ stored_by_all base out old.tick old.stored (operations_of device entries)
  stored_along [] old new cap same began leads = ap (λ (s : State). s.stored) same
  stored_along (e ∷ entries) old new cap passes began leads =
      let mid : State = passes.0 in
      let p = passes.1 in
      let leads' = leads_back_all entries mid new passes.2 leads in
      let cap' : base.cap ≡ mid.cap = cap ∙ sym p.cap in
      let rest = stored_along entries mid new cap' passes.2 (began_on old mid e p began) leads in
      let ticks : mid.tick ≡ old.tick + e.ticks = p.tick ∙ ap (λ (n : ℕ). old.tick + n) (sym p.ticks_are) in
      let stored : mid.stored ≡ filled_by base.cap out.harvest old.tick (old.stored - e.drawn) e.ticks =
      p.stored ∙ filled_same old.cap old.tick (old.stored - e.drawn) out.harvest p.passed (harvested old mid e p began leads')
      ∙ ap₂ (λ (c n : ℕ). filled_by c out.harvest old.tick (old.stored - e.drawn) n) (sym cap) (sym p.ticks_are) in
      rest ∙ ap₂ (λ (t stored : ℕ). stored_by_all base out t stored (operations_of device entries)) ticks stored
