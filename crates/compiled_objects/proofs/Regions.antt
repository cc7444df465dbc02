-- The regions of code, one after another.
use Rattle.std.proofs.Common.{◌≡◌, ℕ, zero, suc, ◌+◌, ◌<◌, ◌≤◌, ◌⊎◌, inl, inr, Bool, true, false, List, [], ◌∷◌, ◌++◌, length, refl, sym, ap, ◌∙◌, subst, arith}
use Rattle.std.specs.Prelude.{Some, None, slice_get}
use Rattle.std.proofs.lemmas.Bool.{cases_lt}
use Rattle.cat_machine.specs.declared.instr.Instr.TheVariants as i
use Rattle.cat_machine.specs.CodeValue.{CodeValue}
use Rattle.cn_object.specs.Regions.{AreEntriesOf}
use Rattle.compiled_objects.proofs.Stretches.{Setting, Stretch, depth_at}
use Rattle.compiled_objects.proofs.Flows.{depth_next, lies, flow, some_same}

-- code with its words and posts, and how many regions of it are tasks'
pub record Whole : Type 0 where
  pub code : CodeValue
  pub words : ℕ
  pub posts : ℕ
  pub tasks : ℕ

abbrev pub in_region : Whole → Bool → ℕ → ℕ → Setting
in_region w task low high = record { code = w.code; words = w.words; posts = w.posts; task = task; low = low; high = high }

-- a task's region has its begin first
abbrev pub Opens : Whole → ℕ → ℕ → ℕ → Bool → Type 0
Opens w k low first true = (k < w.tasks) × (first ≡ low + 1) × (slice_get w.code.instrs low ≡ Some (i.Begin k))
Opens w k low first false = (w.tasks ≤ k) × (first ≡ low)

-- region number k
pub record IsRegion (w : Whole) (k low high : ℕ) : Type 0 where
  pub task : Bool
  pub first : ℕ
  pub last : ℕ
  pub opened : Opens w k low first task
  pub stretch : Stretch (in_region w task low high) 0 first last
  pub ended : slice_get w.code.instrs last ≡ Some i.End
  pub just_after : high ≡ last + 1

-- regions from number k and a place on, with these entries
pub data Regions (w : Whole) : ℕ → ℕ → List ℕ → ℕ → Type 0 where
  NoMore : {k low end : ℕ} → low ≡ end → Regions w k low [] end
  Another : {k low end : ℕ} {entries : List ℕ} → (high : ℕ) → IsRegion w k low high → Regions w (suc k) high entries end → Regions w k low (low ∷ entries) end

first_low : (w : Whole) (k low first : ℕ) (task : Bool) → Opens w k low first task → low ≤ first
first_low w k low first true o = omega (arith, o.1)
first_low w k low first false o = omega (arith, o.1)

pub region_lies : (w : Whole) (k low high : ℕ) (r : IsRegion w k low high) → (low ≤ r.first) × (r.first ≤ r.last) × (low < high)
region_lies w k low high r =
    let a = first_low w k low r.first r.task r.opened in
    let b = lies (in_region w r.task low high) 0 r.first r.last r.stretch in
    (a, b, omega (arith, a, b, r.just_after))

pub reach_on : (w : Whole) (k low end : ℕ) (entries : List ℕ) → Regions w k low entries end → low ≤ end
reach_on w k low end entries (NoMore e) = omega (arith, e)
reach_on w k low end entries (Another {entries = more} high r rest) =
    let a : low < high = (region_lies w k low high r).2 in
    let b = reach_on w (suc k) high end more rest in
    omega (arith, a, b)

-- entries are from the first place on, and before the end
pub entry_in : (w : Whole) (k low end : ℕ) (entries : List ℕ) → Regions w k low entries end → (j e : ℕ) → slice_get entries j ≡ Some e → (low ≤ e) × (e < end)
entry_in w k low end entries (NoMore d) j e h = absurd (let none : None ≡ Some e = h in cc)
entry_in w k low end entries (Another {entries = more} high r rest) zero e h =
    let same : low ≡ e = some_same low e h in
    let a : low < high = (region_lies w k low high r).2 in
    let b = reach_on w (suc k) high end more rest in
    (omega (arith, same), omega (arith, same, a, b))
entry_in w k low end entries (Another {entries = more} high r rest) (suc j) e h =
    let got = entry_in w (suc k) high end more rest j e h in
    let a : low < high = (region_lies w k low high r).2 in
    (omega (arith, got.0, a), got.1)

begins_with : (w : Whole) (k low end : ℕ) (entries : List ℕ) → Regions w k low entries end → (slice_get entries 0 ≡ Some low) ⊎ (low ≡ end)
begins_with w k low end entries (NoMore e) = inr e
begins_with w k low end entries (Another high r rest) = inl refl

ascends : (w : Whole) (k low end : ℕ) (entries : List ℕ) → Regions w k low entries end → (j a b : ℕ) → slice_get entries j ≡ Some a → slice_get entries (suc j) ≡ Some b → a < b
ascends w k low end entries (NoMore d) j a b h g = absurd (let none : None ≡ Some a = h in cc)
ascends w k low end entries (Another {entries = more} high r rest) zero a b h g =
    let same : low ≡ a = some_same low a h in
    let got = entry_in w (suc k) high end more rest 0 b g in
    let up : low < high = (region_lies w k low high r).2 in
    omega (arith, same, got.0, up)
ascends w k low end entries (Another {entries = more} high r rest) (suc j) a b h g = ascends w (suc k) high end more rest j a b h g

no_entries : (w : Whole) (k low end : ℕ) (entries : List ℕ) → Regions w k low entries end → entries ≡ [] → low ≡ end
no_entries w k low end entries (NoMore d) e = d
no_entries w k low end entries (Another {entries = more} high r rest) e = absurd (let both : length (low ∷ more) ≡ 0 = ap length e in omega (arith, both))

pub are_entries : (w : Whole) (end : ℕ) (entries : List ℕ) → Regions w 0 0 entries end → AreEntriesOf entries end
are_entries w end entries rs = record {
  first = λ entry h. elim (begins_with w 0 0 end entries rs) [
    | inl e ↦ sym (some_same 0 entry (sym e ∙ h))
    | inr e ↦ absurd (let got = entry_in w 0 0 end entries rs 0 entry h in omega (arith, got.1, e))
  ];
  ascend = λ k a b h g. let next : k + 1 ≡ suc k = omega arith in ascends w 0 0 end entries rs k a b h (ap (slice_get entries) (sym next) ∙ g);
  within = λ k a h. (entry_in w 0 0 end entries rs k a h).1;
  none = λ e. sym (no_entries w 0 0 end entries rs e);
}

-- ---- depths

-- the depth is 0 at the begin of a region, at its first statement and at its end
region_flows : (w : Whole) (k low high : ℕ) (r : IsRegion w k low high) → depth_at w.code low ≡ 0 → (depth_at w.code r.first ≡ 0) × (depth_at w.code r.last ≡ 0) × (depth_at w.code high ≡ 0)
region_flows w k low high r deep = (first, last, end)
  where
    g : Setting
    g = in_region w r.task low high

    by_task : (task : Bool) (at : ℕ) → Opens w k low at task → depth_at w.code at ≡ 0
    by_task true at o =
        let next = depth_next (in_region w true low high) low (i.Begin k) o.2 in
        ap (depth_at w.code) o.1 ∙ omega (arith, next, deep)
    by_task false at o = ap (depth_at w.code) o.1 ∙ deep

    first : depth_at w.code r.first ≡ 0
    first = by_task r.task r.first r.opened

    last : depth_at w.code r.last ≡ 0
    last = flow g 0 r.first r.last (λ e. refl) first r.stretch

    end : depth_at w.code high ≡ 0
    end =
        let next = depth_next g r.last i.End r.ended in
        ap (depth_at w.code) r.just_after ∙ omega (arith, next, last)

-- ---- the region of a place

-- where another entry lies: entry number n of value e, seen from number j of value low
abbrev pub Beside : ℕ → ℕ → ℕ → ℕ → ℕ → Type 0
Beside j low high n e = ((n ≡ j) × (e ≡ low)) ⊎ ((n < j) × (e < low)) ⊎ ((j < n) × (high ≤ e))

pub record Found (w : Whole) (k : ℕ) (entries : List ℕ) (end pc : ℕ) : Type 0 where
  pub j : ℕ
  pub low : ℕ
  pub high : ℕ
  pub at : slice_get entries j ≡ Some low
  pub region : IsRegion w (k + j) low high
  pub from : low ≤ pc
  pub before : pc < high
  pub within : high ≤ end
  pub next : (slice_get entries (suc j) ≡ Some high) ⊎ (high ≡ end)
  pub beside : (n e : ℕ) → slice_get entries n ≡ Some e → Beside j low high n e
  pub first_deep : depth_at w.code region.first ≡ 0
  pub last_deep : depth_at w.code region.last ≡ 0
  pub deep : depth_at w.code low ≡ 0

pub find : (w : Whole) (k low end : ℕ) (entries : List ℕ) → Regions w k low entries end → depth_at w.code low ≡ 0 → (pc : ℕ) → low ≤ pc → pc < end → Found w k entries end pc
find w k low end entries (NoMore e) deep pc from before = absurd (omega (arith, e, from, before))
find w k low end entries (Another {entries = more} high r rest) deep pc from before = by_high (λ ge. find w (suc k) high end more rest flows.2 pc ge before) (cases_lt pc high)
  where
    up : low < high
    up = (region_lies w k low high r).2

    flows : (depth_at w.code r.first ≡ 0) × (depth_at w.code r.last ≡ 0) × (depth_at w.code high ≡ 0)
    flows = region_flows w k low high r deep

    here : k ≡ k + 0
    here = omega arith

    first_beside : (n e : ℕ) → slice_get (low ∷ more) n ≡ Some e → Beside 0 low high n e
    first_beside zero e h = inl (refl, sym (some_same low e h))
    first_beside (suc n) e h = let got = entry_in w (suc k) high end more rest n e h in inr (inr (omega arith, got.0))

    moved : (f : Found w (suc k) more end pc) → (n e : ℕ) → slice_get (low ∷ more) n ≡ Some e → Beside (suc f.j) f.low f.high n e
    moved f zero e h =
        let got = entry_in w (suc k) high end more rest f.j f.low f.at in
        let same : low ≡ e = some_same low e h in
        inr (inl (omega arith, omega (arith, got.0, up, same)))
    moved f (suc n) e h = elim (f.beside n e h) [
      | inl a ↦ inl (ap suc a.0, a.1)
      | inr b ↦ elim b [
        | inl c ↦ inr (inl (omega (arith, c.0), c.1))
        | inr d ↦ inr (inr (omega (arith, d.0), d.1))
      ]
    ]

    r0 : IsRegion w (k + 0) low high
    r0 = subst (λ z. IsRegion w z low high) here r

    deeps0 : (depth_at w.code r0.first ≡ 0) × (depth_at w.code r0.last ≡ 0) × (depth_at w.code high ≡ 0)
    deeps0 = region_flows w (k + 0) low high r0 deep

    by_high : (high ≤ pc → Found w (suc k) more end pc) → ((pc < high) ⊎ (high ≤ pc)) → Found w k (low ∷ more) end pc
    by_high others (inl lt) = record {
      j = 0;
      low = low;
      high = high;
      at = refl;
      region = r0;
      from = from;
      before = lt;
      within = reach_on w (suc k) high end more rest;
      next = begins_with w (suc k) high end more rest;
      beside = first_beside;
      first_deep = deeps0.0;
      last_deep = deeps0.1;
      deep = deep;
    }
    by_high others (inr ge) = again (others ge)
      where
        again : Found w (suc k) more end pc → Found w k (low ∷ more) end pc
        again f =
            let same : suc k + f.j ≡ k + suc f.j = omega arith in
            let r' = subst (λ z. IsRegion w z f.low f.high) same f.region in
            let deeps = region_flows w (k + suc f.j) f.low f.high r' f.deep in
            record {
              j = suc f.j;
              low = f.low;
              high = f.high;
              at = f.at;
              region = r';
              from = f.from;
              before = f.before;
              within = f.within;
              next = f.next;
              beside = moved f;
              first_deep = deeps.0;
              last_deep = deeps.1;
              deep = f.deep;
            }

-- ---- one list of regions after another

pub join_regions : (w : Whole) (k low mid end m : ℕ) (a b : List ℕ) → Regions w k low a mid → k + length a ≡ m → Regions w m mid b end → Regions w k low (a ++ b) end
join_regions w k low mid end m a b (NoMore e) n more =
    let same : m ≡ k = omega (arith, n) in
    subst (λ z. Regions w z low b end) same (subst (λ z. Regions w m z b end) (sym e) more)
join_regions w k low mid end m a b (Another {entries = rest} high r others) n more = Another high r (join_regions w (suc k) high mid end m rest b others (omega (arith, n)) more)
