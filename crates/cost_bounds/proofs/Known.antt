-- What a place is worth follows from what later places are worth.
use Rattle.std.proofs.Common.{◌≡◌, ℕ, zero, suc, ◌+◌, ◌*◌, ◌<◌, ◌≤◌, true, false, List, [], ◌∷◌, length, take, Some, None, refl, ap, ◌∙◌, subst, arith}
use Rattle.std.specs.Prelude.{max, pos, slice_get}
use Rattle.nv_memory.specs.declared.device.Class.TheVariants.{Basic}
use Rattle.cat_machine.specs.declared.instr.Instr.{Instr}
use Rattle.cat_machine.specs.declared.instr.Instr.TheVariants as i
use Rattle.cat_machine.specs.ClassOf.{class_of}
use Rattle.cat_machine.specs.CodeValue.{CodeValue}
use Rattle.cat_machine.specs.Costs.{Costs, instr_cost, place_cost, path_cost}
use Rattle.cost_bounds.specs.Paths.{acts, place_after, SectionFrom, Acts, GoesOn as SectionGoesOn}
use Rattle.cost_bounds.specs.Pass.{most_number, capped, SumsTo, is_straight, Worth, AtEnd, TurnsBack, Leaves, Tests, Repeats, GoesOn, IsWorth}

module _ (u : Costs) (code : CodeValue) (pc : ℕ) where
  pub end_worth : (m : ℕ) → slice_get code.instrs pc ≡ Some i.End → m ≡ u Basic → IsWorth u code pc m
  end_worth m e is = record { by = by }
    where
      by : (c : ℕ) → Worth u code pc c → c ≤ most_number → m ≡ c
      by c (AtEnd d) le = is
      by c (TurnsBack to d back) le = cc
      by c (Leaves to d lt w) le = cc
      by c (Tests to d lt w v) le = cc
      by c (Repeats n before to d at push lt w v) le = cc
      by c (GoesOn x d s w) le = let same : x ≡ i.End = cc in cc

  pub jump_worth : (to m r : ℕ) → slice_get code.instrs pc ≡ Some (i.Jump to) → (pc < to → IsWorth u code to r) → (pc < to → m ≡ capped (u Basic + r)) → (to ≤ pc → m ≡ u Basic) → IsWorth u code pc m
  jump_worth to m r e later goes back = record { by = by }
    where
      by : (c : ℕ) → Worth u code pc c → c ≤ most_number → m ≡ c
      by c (AtEnd d) le = cc
      by c (TurnsBack t d b) le = let same : t ≡ to = cc in back (omega (arith, b, same))
      by c (Leaves {c = k} t d lt w) le =
          let same : t ≡ to = cc in
          let on : pc < to = omega (arith, lt, same) in
          let r_is = (later on).by k (subst (λ z. Worth u code z k) same w) (omega (arith, le)) in
          omega (arith, goes on, r_is, le)
      by c (Tests t d lt w v) le = cc
      by c (Repeats n before t d at push lt w v) le = cc
      by c (GoesOn x d s w) le = let same : x ≡ i.Jump to = cc in cc

  pub test_worth : (to m q r : ℕ) → slice_get code.instrs pc ≡ Some (i.JumpZero to) → IsWorth u code (pc + 1) q → (pc < to → IsWorth u code to r) → m ≡ capped (u Basic + max q r) → IsWorth u code pc m
  test_worth to m q r e next later is = record { by = by }
    where
      by : (c : ℕ) → Worth u code pc c → c ≤ most_number → m ≡ c
      by c (AtEnd d) le = cc
      by c (TurnsBack t d b) le = cc
      by c (Leaves t d lt w) le = cc
      by c (Tests {a = a} {b = b} t d lt w v) le =
          let same : t ≡ to = cc in
          let q_is = next.by a w (omega (arith, le)) in
          let r_is = (later (omega (arith, lt, same))).by b (subst (λ z. Worth u code z b) same v) (omega (arith, le)) in
          omega (arith, is, q_is, r_is, le)
      by c (Repeats n before t d at push lt w v) le = cc
      by c (GoesOn x d s w) le = let same : x ≡ i.JumpZero to = cc in cc

  -- times a number of turns
  turned : (base q a k n : ℕ) → k ≡ n → (base + a) * n ≤ most_number → (0 < n → q ≡ a) → capped (capped (base + q) * k) ≡ (base + a) * n
  turned base q a k zero e le same = let none : capped (base + q) * k ≡ capped (base + q) * 0 = ap (λ z. capped (base + q) * z) e in omega (arith, none)
  turned base q a k (suc n) e le same =
      let one : base + a ≤ (base + a) * suc n = omega arith in
      let q_is = same (omega arith) in
      let whole : capped (base + q) ≡ base + a = omega (arith, q_is, one, le) in
      let all : capped (base + q) * k ≡ (base + a) * suc n = ap (λ z. z * k) whole ∙ ap (λ z. (base + a) * z) e in
      omega (arith, all, le)

  pub repeat_worth : (to m q r k : ℕ) → slice_get code.instrs pc ≡ Some (i.Turn to) → ((n before : ℕ) → pc ≡ before + 1 → slice_get code.instrs before ≡ Some (i.Push (pos n)) → k ≡ n) → IsWorth u code (pc + 1) q → (pc < to → IsWorth u code to r) → m ≡ capped (capped (capped (capped (u Basic + q) * k) + u Basic) + r) → IsWorth u code pc m
  repeat_worth to m q r k e count next later is = record { by = by }
    where
      by : (c : ℕ) → Worth u code pc c → c ≤ most_number → m ≡ c
      by c (AtEnd d) le = cc
      by c (TurnsBack t d b) le = cc
      by c (Leaves t d lt w) le = cc
      by c (Tests t d lt w v) le = cc
      by c (Repeats {a = a} {b = b} n before t d at push lt w v) le =
          let same : t ≡ to = cc in
          let k_is = count n before at push in
          let r_is = (later (omega (arith, lt, same))).by b (subst (λ z. Worth u code z b) same v) (omega (arith, le)) in
          let part : (u Basic + a) * n ≤ most_number = omega (arith, le) in
          let body = turned (u Basic) q a k n k_is part (λ some. next.by a w (smaller a n some part)) in
          omega (arith, is, body, r_is, le)
        where
          smaller : (a n : ℕ) → 0 < n → (u Basic + a) * n ≤ most_number → a ≤ most_number
          smaller a zero some part = absurd (omega (arith, some))
          smaller a (suc n) some part = omega (arith, part)
      by c (GoesOn x d s w) le = let same : x ≡ i.Turn to = cc in cc

  pub straight_worth : (x : Instr) (m r : ℕ) → slice_get code.instrs pc ≡ Some x → is_straight x ≡ true → IsWorth u code (pc + 1) r → m ≡ capped (u (class_of x) + r) → IsWorth u code pc m
  straight_worth x m r e straight next is = record { by = by }
    where
      by : (c : ℕ) → Worth u code pc c → c ≤ most_number → m ≡ c
      by c (AtEnd d) le = let same : x ≡ i.End = cc in cc
      by c (TurnsBack t d b) le = let same : x ≡ i.Jump t = cc in cc
      by c (Leaves t d lt w) le = let same : x ≡ i.Jump t = cc in cc
      by c (Tests t d lt w v) le = let same : x ≡ i.JumpZero t = cc in cc
      by c (Repeats n before t d at push lt w v) le = let same : x ≡ i.Turn t = cc in cc
      by c (GoesOn {c = k} y d s w) le =
          let same : y ≡ x = cc in
          let cost = ap (λ z. u (class_of z)) same in
          let r_is = next.by k w (omega (arith, le)) in
          omega (arith, is, r_is, cost, le)

  -- ---- sections

  pub acts_sums : (x : Instr) (m : ℕ) → slice_get code.instrs pc ≡ Some x → acts x ≡ true → m ≡ u (class_of x) → SumsTo u code pc m
  acts_sums x m e t is = record { by = by }
    where
      by : (path : List ℕ) → SectionFrom code pc path → length path ≤ length code.instrs → path_cost (place_cost u code) path ≤ most_number → m ≡ path_cost (place_cost u code) path
      by path (Acts y d s) long le = omega (arith, is, ap (instr_cost u) e)
      by path (SectionGoesOn y d s rest) long le = let same : y ≡ x = cc in cc

  pub goes_sums : (x : Instr) (m r : ℕ) → slice_get code.instrs pc ≡ Some x → acts x ≡ false → SumsTo u code (place_after x pc) r → m ≡ capped (u (class_of x) + r) → SumsTo u code pc m
  goes_sums x m r e t next is = record { by = by }
    where
      by : (path : List ℕ) → SectionFrom code pc path → length path ≤ length code.instrs → path_cost (place_cost u code) path ≤ most_number → m ≡ path_cost (place_cost u code) path
      by path (Acts y d s) long le = let same : y ≡ x = cc in cc
      by path (SectionGoesOn {path = p} y d s rest) long le =
          let same : y ≡ x = cc in
          let here = ap (instr_cost u) e in
          let r_is = next.by p (subst (λ z. SectionFrom code (place_after z pc) p) same rest) (omega (arith, long)) (omega (arith, le)) in
          omega (arith, is, here, r_is, le)

  -- no section begins past the code
  pub none_sums : (m : ℕ) → slice_get code.instrs pc ≡ None → SumsTo u code pc m
  none_sums m e = record { by = by }
    where
      by : (path : List ℕ) → SectionFrom code pc path → length path ≤ length code.instrs → path_cost (place_cost u code) path ≤ most_number → m ≡ path_cost (place_cost u code) path
      by path (Acts y d s) long le = cc
      by path (SectionGoesOn y d s rest) long le = cc

-- ---- a front of the code

pub front_get : {A : Type 0} (end : ℕ) (xs : List A) (j : ℕ) (x : A) → j < end → slice_get xs j ≡ Some x → slice_get (take end xs) j ≡ Some x
front_get end [] j x lt e = cc
front_get zero (y ∷ xs) j x lt e = absurd (omega (arith, lt))
front_get (suc end) (y ∷ xs) zero x lt e = e
front_get (suc end) (y ∷ xs) (suc j) x lt e = front_get end xs j x (omega (arith, lt)) e

pub front_none : {A : Type 0} (end : ℕ) (xs : List A) (j : ℕ) → end ≤ j → slice_get (take end xs) j ≡ None
front_none zero xs j le = refl
front_none (suc end) [] j le = refl
front_none (suc end) (y ∷ xs) zero le = absurd (omega (arith, le))
front_none (suc end) (y ∷ xs) (suc j) le = front_none end xs j (omega (arith, le))

pub front_length : {A : Type 0} (end : ℕ) (xs : List A) → length (take end xs) ≤ end
front_length zero xs = omega arith
front_length (suc end) [] = omega arith
front_length (suc end) (y ∷ xs) = omega (arith, front_length end xs)

-- ---- a walk along a section

-- each section from the start goes on from here, and this is its sum so far
pub record Walked (u : Costs) (code : CodeValue) (from pc sum steps : ℕ) : Type 0 where
  pub by : (path : List ℕ) → SectionFrom code from path → length path ≤ length code.instrs → path_cost (place_cost u code) path ≤ most_number
      → (rest : List ℕ) × SectionFrom code pc rest × (sum + path_cost (place_cost u code) rest ≡ path_cost (place_cost u code) path) × (length rest + steps ≡ length path)

module _ (u : Costs) (code : CodeValue) (from : ℕ) where
  abbrev Sum : List ℕ → ℕ
  Sum path = path_cost (place_cost u code) path

  pub walk_starts : (sum : ℕ) → sum ≡ 0 → Walked u code from from sum 0
  walk_starts sum e = record { by = λ path s long le. (path, s, omega (arith, e), omega arith) }

  pub walk_goes : (pc sum sum' steps : ℕ) (x : Instr) → slice_get code.instrs pc ≡ Some x → acts x ≡ false → sum' ≡ capped (sum + u (class_of x)) → Walked u code from pc sum steps → Walked u code from (place_after x pc) sum' (steps + 1)
  walk_goes pc sum sum' steps x e t is w = record { by = by }
    where
      by_rest : (path rest : List ℕ) → SectionFrom code pc rest → sum + Sum rest ≡ Sum path → length rest + steps ≡ length path → Sum path ≤ most_number → (r : List ℕ) × SectionFrom code (place_after x pc) r × (sum' + Sum r ≡ Sum path) × (length r + (steps + 1) ≡ length path)
      by_rest path rest (Acts y d s) whole long le = let same : y ≡ x = cc in cc
      by_rest path rest (SectionGoesOn {path = p} y d s more) whole long le =
          let same : y ≡ x = cc in
          let here = ap (instr_cost u) e in
          (p, subst (λ z. SectionFrom code (place_after z pc) p) same more, omega (arith, is, here, whole, le), omega (arith, long))

      by : (path : List ℕ) → SectionFrom code from path → length path ≤ length code.instrs → Sum path ≤ most_number → (r : List ℕ) × SectionFrom code (place_after x pc) r × (sum' + Sum r ≡ Sum path) × (length r + (steps + 1) ≡ length path)
      by path s long le = let r = w.by path s long le in by_rest path r.0 r.1 r.2 r.3 le

  pub walk_acts : (pc sum sum' steps : ℕ) (x : Instr) → slice_get code.instrs pc ≡ Some x → acts x ≡ true → sum' ≡ capped (sum + u (class_of x)) → Walked u code from pc sum steps → SumsTo u code from sum'
  walk_acts pc sum sum' steps x e t is w = record { by = by }
    where
      by_rest : (path rest : List ℕ) → SectionFrom code pc rest → sum + Sum rest ≡ Sum path → Sum path ≤ most_number → sum' ≡ Sum path
      by_rest path rest (Acts y d s) whole le = omega (arith, is, ap (instr_cost u) e, whole, le)
      by_rest path rest (SectionGoesOn y d s more) whole le = let same : y ≡ x = cc in cc

      by : (path : List ℕ) → SectionFrom code from path → length path ≤ length code.instrs → Sum path ≤ most_number → sum' ≡ Sum path
      by path s long le = let r = w.by path s long le in by_rest path r.0 r.1 r.2 le

  -- past the code nothing goes on
  pub walk_leaves : (pc sum steps m : ℕ) → slice_get code.instrs pc ≡ None → Walked u code from pc sum steps → SumsTo u code from m
  walk_leaves pc sum steps m e w = record { by = λ path s long le. absurd (by_rest (w.by path s long le).0 (w.by path s long le).1) }
    where
      by_rest : (rest : List ℕ) → SectionFrom code pc rest → ⊥
      by_rest rest (Acts y d s) = cc
      by_rest rest (SectionGoesOn y d s more) = cc

  -- after as many steps as there are places
  pub walk_ends : (pc sum steps m : ℕ) → length code.instrs ≤ steps → Walked u code from pc sum steps → SumsTo u code from m
  walk_ends pc sum steps m many w = record { by = λ path s long le. absurd (omega (arith, (w.by path s long le).3, long, many, some (w.by path s long le).0 (w.by path s long le).1)) }
    where
      some : (rest : List ℕ) → SectionFrom code pc rest → 0 < length rest
      some rest (Acts y d s) = omega arith
      some rest (SectionGoesOn y d s more) = omega arith
