-- The depths that places bring to later ones.
use Rattle.std.proofs.Common.{◌≡◌, ◌≢◌, ℕ, zero, suc, ◌+◌, ◌-◌, ◌<◌, ◌≤◌, ◌⊎◌, inl, inr, List, [], ◌∷◌, length, refl, sym, ◌∙◌, ap, subst, Bool, true, false, arith}
use Rattle.std.specs.Prelude.{Some, None, slice_get, nat_lt, ◌==◌, if◌then◌else◌, replicate}
use Rattle.std.proofs.lemmas.Option.{slice_get-get_or, slice_get_within}
use Rattle.std.proofs.lemmas.List.{get_or-set_same, get_or-set_other, length-set, get_or-replicate}
use borrow.Author.Tests.{eqb-true, eqb-false, ltb-true, ltb-false, lt-ltb}
use Rattle.cat_machine.specs.declared.instr.Instr.{Instr}
use Rattle.cat_machine.specs.declared.instr.Instr.TheVariants as i
use Rattle.cat_machine.specs.CodeValue.{CodeValue}
use Rattle.cn_object.specs.declared.depth.Way.{Way}
use Rattle.cn_object.specs.declared.depth.Brought.{Brought}
use Rattle.cn_object.specs.declared.depth.Brought.TheVariants.{Nothing, One, Several}
use Rattle.cn_object.specs.Regions.{all_entries, versions_begin}
use Rattle.cn_object.specs.Depths.{way, on_way, ways_of, LeadsTo, Brings, Enters, Follows, IsDepth, SuitsDepth, StackIs, StackAt}
use Rattle.cn_object.specs.Passing.{joined, at_place, brought_to, forward_to, with_ways, entered_at, first_brought, SumsTo, BroughtBy, IsSummary, AreDepths, IsFitting}

-- ---- one place

some_same : {X : Type 0} (x y : X) → Some x ≡ Some y → x ≡ y
some_same x y e = cc

joins_by : (P Q : ℕ → Type 0) (a d : ℕ) (t : Bool) → (a == d) ≡ t → P a → ((o : ℕ) → P o → o ≡ a)
    → ((e : ℕ) → P e ⊎ (e ≡ d) → Q e) → ((e : ℕ) → Q e → P e ⊎ (e ≡ d)) → SumsTo Q (if t then One a else Several)
joins_by P Q a d true same p only to from =
    (to a (inl p), λ o q. elim (from o q) [ inl h ↦ only o h | inr h ↦ h ∙ sym (eqb-true a d same) ])
joins_by P Q a d false differ p only to from = (a, d, to a (inl p), to d (inr refl), eqb-false a d differ)

joins : (P Q : ℕ → Type 0) (b : Brought) (d : ℕ) → SumsTo P b → ((e : ℕ) → P e ⊎ (e ≡ d) → Q e) → ((e : ℕ) → Q e → P e ⊎ (e ≡ d)) → SumsTo Q (joined b d)
joins P Q Nothing d s to from = (to d (inr refl), λ o q. elim (from o q) [ inl h ↦ absurd (s o h) | inr h ↦ h ])
joins P Q (One a) d s to from = joins_by P Q a d (a == d) refl s.0 s.1 to from
joins P Q Several d s to from = (s.0, s.1, to s.0 (inl s.2), to s.1 (inl s.3), s.4)

same_sums : (P Q : ℕ → Type 0) (b : Brought) → SumsTo P b → ((e : ℕ) → P e → Q e) → ((e : ℕ) → Q e → P e) → SumsTo Q b
same_sums P Q Nothing s to from = λ e q. s e (from e q)
same_sums P Q (One a) s to from = (to a s.0, λ o q. s.1 o (from o q))
same_sums P Q Several s to from = (s.0, s.1, to s.0 s.2, to s.1 s.3, s.4)

-- ---- all places

abbrev Facts : Type 1
Facts = ℕ → ℕ → Type 0

pub record Sums (F : ℕ → ℕ → Type 0) (xs : List Brought) : Type 0 where
  pub each : (p : ℕ) → p < length xs → SumsTo (F p) (at_place xs p)

pub all_same : (F G : ℕ → ℕ → Type 0) (xs : List Brought) → Sums F xs → ((p e : ℕ) → F p e → G p e) → ((p e : ℕ) → G p e → F p e) → Sums G xs
all_same F G xs s to from = record { each = λ p h. same_sums (F p) (G p) (at_place xs p) (s.each p h) (to p) (from p) }

-- one way more
abbrev pub AddWay : (ℕ → ℕ → Type 0) → Way → ℕ → ℕ → Type 0
AddWay F w p e = F p e ⊎ ((p ≡ w.to) × (e ≡ w.depth))

brought_at : (F : ℕ → ℕ → Type 0) (xs : List Brought) (w : Way) → Sums F xs → (p : ℕ) → p < length xs → (t : Bool) → (p == w.to) ≡ t → SumsTo (AddWay F w p) (at_place (brought_to xs w) p)
brought_at F xs w s p h true same =
    let here : p ≡ w.to = eqb-true p w.to same in
    let there : w.to < length xs = omega (arith, here) in
    subst (λ q. SumsTo (AddWay F w q) (at_place (brought_to xs w) q)) (sym here)
    (subst (SumsTo (AddWay F w w.to)) (sym (get_or-set_same xs w.to (joined (at_place xs w.to) w.depth) Nothing there))
    (joins (F w.to) (AddWay F w w.to) (at_place xs w.to) w.depth (s.each w.to there)
    (λ e x. elim x [ inl f ↦ inl f | inr g ↦ inr (refl, g) ]) (λ e x. elim x [ inl f ↦ inl f | inr g ↦ inr g.1 ])))
brought_at F xs w s p h false differ =
    subst (SumsTo (AddWay F w p)) (sym (get_or-set_other xs w.to p (joined (at_place xs w.to) w.depth) Nothing (eqb-false p w.to differ)))
    (same_sums (F p) (AddWay F w p) (at_place xs p) (s.each p h) (λ e f. inl f) (λ e x. elim x [ inl f ↦ f | inr g ↦ absurd (eqb-false p w.to differ g.0) ]))

pub brought_sums : (F : ℕ → ℕ → Type 0) (xs : List Brought) (w : Way) → Sums F xs → Sums (AddWay F w) (brought_to xs w)
brought_sums F xs w s =
    record { each = λ p h. brought_at F xs w s p (omega (arith, h, length-set xs w.to (joined (at_place xs w.to) w.depth))) (p == w.to) refl }

pub length-brought : (xs : List Brought) (w : Way) → length (brought_to xs w) ≡ length xs
length-brought xs w = length-set xs w.to (joined (at_place xs w.to) w.depth)

-- one way more, where it goes forward
abbrev AddAhead : (ℕ → ℕ → Type 0) → ℕ → Way → ℕ → ℕ → Type 0
AddAhead F pc w p e = F p e ⊎ ((pc < w.to) × (p ≡ w.to) × (e ≡ w.depth))

forward_by : (F : ℕ → ℕ → Type 0) (xs : List Brought) (pc : ℕ) (w : Way) (t : Bool) → nat_lt pc w.to ≡ t → Sums F xs → Sums (AddAhead F pc w) (if t then brought_to xs w else xs)
forward_by F xs pc w true ahead s =
    all_same (AddWay F w) (AddAhead F pc w) (brought_to xs w) (brought_sums F xs w s)
    (λ p e x. elim x [ inl f ↦ inl f | inr g ↦ inr (ltb-true pc w.to ahead, g.0, g.1) ]) (λ p e x. elim x [ inl f ↦ inl f | inr g ↦ inr (g.1, g.2) ])
forward_by F xs pc w false behind s =
    all_same F (AddAhead F pc w) xs s (λ p e f. inl f)
    (λ p e x. elim x [ inl f ↦ f | inr g ↦ absurd (let later : pc < w.to = g.0 in let not : w.to ≤ pc = ltb-false pc w.to behind in omega (arith, later, not)) ])

forward_sums : (F : ℕ → ℕ → Type 0) (xs : List Brought) (pc : ℕ) (w : Way) → Sums F xs → Sums (AddAhead F pc w) (forward_to pc w xs)
forward_sums F xs pc w s = forward_by F xs pc w (nat_lt pc w.to) refl s

-- ---- several ways

abbrev brought_all : ℕ → List Way → List Brought → List Brought
brought_all pc [] xs = xs
brought_all pc (w ∷ ws) xs = brought_all pc ws (forward_to pc w xs)

abbrev AddAll : (ℕ → ℕ → Type 0) → ℕ → List Way → ℕ → ℕ → Type 0
AddAll F pc ws p e = F p e ⊎ ((k : ℕ) × (pc < p) × (slice_get ws k ≡ Some (way p e)))

way_is : (w : Way) (p e : ℕ) → p ≡ w.to → e ≡ w.depth → w ≡ way p e
way_is w p e a b = ap (λ x. way x w.depth) (sym a) ∙ ap (λ x. way p x) (sym b)

ways_sum : (F : ℕ → ℕ → Type 0) (pc : ℕ) (ws : List Way) (xs : List Brought) → Sums F xs → Sums (AddAll F pc ws) (brought_all pc ws xs)
ways_sum F pc [] xs s =
    all_same F (AddAll F pc []) xs s (λ p e f. inl f) (λ p e x. elim x [ inl f ↦ f | inr g ↦ absurd (let none : None ≡ Some (way p e) = g.2 in cc) ])
ways_sum F pc (w ∷ ws) xs s =
    all_same (AddAll (AddAhead F pc w) pc ws) (AddAll F pc (w ∷ ws)) (brought_all pc ws (forward_to pc w xs)) (ways_sum (AddAhead F pc w) pc ws (forward_to pc w xs) (forward_sums F xs pc w s))
    (λ p e x. elim x [ inl y ↦ elim y [ inl f ↦ inl f | inr g ↦ inr (0, (let a : pc < w.to = g.0 in let b : p ≡ w.to = g.1 in omega (arith, a, b)), ap Some (way_is w p e g.1 g.2)) ] | inr g ↦ inr (suc g.0, g.1, g.2) ])
    (λ p e x. elim x [ inl f ↦ inl (inl f) | inr g ↦ split p e g.0 g.1 g.2 ])
  where
    split : (p e k : ℕ) → pc < p → slice_get (w ∷ ws) k ≡ Some (way p e) → AddAll (AddAhead F pc w) pc ws p e
    split p e zero ahead is =
        let same : w ≡ way p e = some_same w (way p e) is in
        let to : p ≡ w.to = ap (λ (v : Way). v.to) (sym same) in
        let depth : e ≡ w.depth = ap (λ (v : Way). v.depth) (sym same) in
        inl (inr (omega (arith, ahead, to), to, depth))
    split p e (suc k) ahead is = inr (k, ahead, is)

next_ahead : (pc : ℕ) (w : Way) (xs : List Brought) → w.to ≡ pc + 1 → forward_to pc w xs ≡ brought_to xs w
next_ahead pc w xs e = ap (λ (t : Bool). if t then brought_to xs w else xs) (lt-ltb pc w.to (omega (arith, e)))

ways_are : (x : Instr) (pc depth : ℕ) (xs : List Brought) → with_ways x pc depth xs ≡ brought_all pc (ways_of x pc depth) xs
ways_are (i.Push n) pc depth xs = sym (next_ahead pc (on_way (i.Push n) pc depth) xs refl)
ways_are (i.Load w) pc depth xs = sym (next_ahead pc (on_way (i.Load w) pc depth) xs refl)
ways_are i.Payload pc depth xs = sym (next_ahead pc (on_way i.Payload pc depth) xs refl)
ways_are (i.Signed s) pc depth xs = sym (next_ahead pc (on_way (i.Signed s) pc depth) xs refl)
ways_are (i.Operate o) pc depth xs = sym (next_ahead pc (on_way (i.Operate o) pc depth) xs refl)
ways_are (i.Jump to) pc depth xs = refl
ways_are (i.JumpZero to) pc depth xs = ap (λ ys. forward_to pc (way to (depth - 1)) ys) (sym (next_ahead pc (on_way (i.JumpZero to) pc depth) xs refl))
ways_are (i.Turn to) pc depth xs = ap (λ ys. forward_to pc (way to (depth - 1)) ys) (sym (next_ahead pc (on_way (i.Turn to) pc depth) xs refl))
ways_are (i.Begin t) pc depth xs = sym (next_ahead pc (on_way (i.Begin t) pc depth) xs refl)
ways_are i.End pc depth xs = refl
ways_are (i.LoadAt base len) pc depth xs = sym (next_ahead pc (on_way (i.LoadAt base len) pc depth) xs refl)
ways_are (i.Store w) pc depth xs = sym (next_ahead pc (on_way (i.Store w) pc depth) xs refl)
ways_are (i.StoreAt base len) pc depth xs = sym (next_ahead pc (on_way (i.StoreAt base len) pc depth) xs refl)
ways_are (i.Post t) pc depth xs = sym (next_ahead pc (on_way (i.Post t) pc depth) xs refl)
ways_are (i.Out c) pc depth xs = sym (next_ahead pc (on_way (i.Out c) pc depth) xs refl)

-- ---- the summary of the first places

brings_by : (code : CodeValue) (n p e : ℕ) → p ≤ n → Brings code p e → BroughtBy code n p e
brings_by code n p e h (Enters entry) = inl (entry, refl)
brings_by code n p e h (Follows {pc} {depth} b ahead leads) = inr (pc, depth, omega (arith, h, ahead), ahead, b, leads)

by_brings : (code : CodeValue) (n p e : ℕ) → BroughtBy code n p e → Brings code p e
by_brings code n p e (inl x) = subst (Brings code p) (sym x.1) (Enters x.0)
by_brings code n p e (inr x) = Follows x.4 x.3 x.5

pub summary_depth : (code : CodeValue) (n p d : ℕ) (xs : List Brought) → IsSummary code n xs → p ≤ n → p < length xs → at_place xs p ≡ One d → IsDepth code p d
summary_depth code n p d xs s h within e =
    let sums : SumsTo (BroughtBy code n p) (One d) = subst (SumsTo (BroughtBy code n p)) e (s.each p within) in
    record { brought = by_brings code n p d sums.0; agreed = λ o b. sums.1 o (brings_by code n p o h b) }

pub one_of : (P : ℕ → Type 0) (b : Brought) (d : ℕ) → P d → ((o : ℕ) → P o → o ≡ d) → SumsTo P b → b ≡ One d
one_of P Nothing d p only s = absurd (s d p)
one_of P (One a) d p only s = ap One (only a s.0)
one_of P Several d p only s = absurd (s.4 (only s.0 s.2 ∙ sym (only s.1 s.3)))

pub depth_summary : (code : CodeValue) (n p d : ℕ) (xs : List Brought) → IsSummary code n xs → p ≤ n → p < length xs → IsDepth code p d → at_place xs p ≡ One d
depth_summary code n p d xs s h within is =
    one_of (BroughtBy code n p) (at_place xs p) d (brings_by code n p d h is.brought) (λ o b. is.agreed o (by_brings code n p o b)) (s.each p within)

pub place_found : (xs : List Brought) (p d : ℕ) → p < length xs → at_place xs p ≡ One d → slice_get xs p ≡ Some (One d)
place_found xs p d h e = slice_get-get_or xs p Nothing h ∙ ap Some e

pub found_place : (xs : List Brought) (p d : ℕ) → slice_get xs p ≡ Some (One d) → at_place xs p ≡ One d
found_place xs p d e =
    some_same (at_place xs p) (One d) (sym (slice_get-get_or xs p Nothing (slice_get_within xs p (One d) e)) ∙ e)

-- ---- one place more

one_more : (code : CodeValue) (n d p e : ℕ) (x : Instr) → slice_get code.instrs n ≡ Some x → IsDepth code n d → AddAll (BroughtBy code n) n (ways_of x n d) p e → BroughtBy code (n + 1) p e
one_more code n d p e x is depth (inl (inl y)) = inl y
one_more code n d p e x is depth (inl (inr y)) = inr (y.0, y.1, omega (arith, y.2), y.3, y.4, y.5)
one_more code n d p e x is depth (inr y) = inr (n, d, omega arith, y.1, depth.brought, (x, y.0, is, y.2))

by_last : (code : CodeValue) (n d p e q under : ℕ) (x : Instr) (t : Bool) → (q == n) ≡ t → slice_get code.instrs n ≡ Some x → IsDepth code n d → q < n + 1 → q < p → Brings code q under → LeadsTo code q under p e → AddAll (BroughtBy code n) n (ways_of x n d) p e
by_last code n d p e q under x true same is depth low ahead b leads =
    let here : q ≡ n = eqb-true q n same in
    let deep : under ≡ d = depth.agreed under (subst (λ z. Brings code z under) here b) in
    let instr : leads.0 ≡ x = some_same leads.0 x (sym leads.2 ∙ ap (slice_get code.instrs) here ∙ is) in
    inr (leads.1, omega (arith, ahead, here), subst (λ z. slice_get (ways_of z n d) leads.1 ≡ Some (way p e)) instr (subst (λ z. slice_get (ways_of leads.0 z d) leads.1 ≡ Some (way p e)) here (subst (λ z. slice_get (ways_of leads.0 q z) leads.1 ≡ Some (way p e)) deep leads.3)))
by_last code n d p e q under x false differ is depth low ahead b leads =
    let other : q ≢ n = eqb-false q n differ in
    inl (inr (q, under, omega (arith, low, other), ahead, b, leads))

one_less : (code : CodeValue) (n d p e : ℕ) (x : Instr) → slice_get code.instrs n ≡ Some x → IsDepth code n d → BroughtBy code (n + 1) p e → AddAll (BroughtBy code n) n (ways_of x n d) p e
one_less code n d p e x is depth (inl y) = inl (inl y)
one_less code n d p e x is depth (inr y) = by_last code n d p e y.0 y.1 x (y.0 == n) refl is depth y.2 y.3 y.4 y.5

length-forward : (pc : ℕ) (w : Way) (xs : List Brought) (t : Bool) → length (if t then brought_to xs w else xs) ≡ length xs
length-forward pc w xs true = length-brought xs w
length-forward pc w xs false = refl

length-all : (pc : ℕ) (ws : List Way) (xs : List Brought) → length (brought_all pc ws xs) ≡ length xs
length-all pc [] xs = refl
length-all pc (w ∷ ws) xs = length-all pc ws (forward_to pc w xs) ∙ length-forward pc w xs (nat_lt pc w.to)

pub summary_goes : (code : CodeValue) (n d : ℕ) (x : Instr) (xs new : List Brought) → IsSummary code n xs → slice_get code.instrs n ≡ Some x → IsDepth code n d → new ≡ with_ways x n d xs → IsSummary code (n + 1) new
summary_goes code n d x xs new s is depth e =
    let all : new ≡ brought_all n (ways_of x n d) xs = e ∙ ways_are x n d xs in
    let sums : Sums (BroughtBy code (n + 1)) (brought_all n (ways_of x n d) xs) =
    all_same (AddAll (BroughtBy code n) n (ways_of x n d)) (BroughtBy code (n + 1)) (brought_all n (ways_of x n d) xs)
    (ways_sum (BroughtBy code n) n (ways_of x n d) xs (record { each = s.each }))
    (λ p e y. one_more code n d p e x is depth y) (λ p e y. one_less code n d p e x is depth y) in
    subst (IsSummary code (n + 1)) (sym all) (record { size = length-all n (ways_of x n d) xs ∙ s.size; each = sums.each })

-- ---- the beginning

abbrev AddEntries : (ℕ → ℕ → Type 0) → List ℕ → ℕ → ℕ → Type 0
AddEntries F entries p e = F p e ⊎ (((k : ℕ) × (slice_get entries k ≡ Some p)) × (e ≡ 0))

entries_sum : (F : ℕ → ℕ → Type 0) (entries : List ℕ) (xs : List Brought) → Sums F xs → Sums (AddEntries F entries) (entered_at xs entries)
entries_sum F [] xs s =
    all_same F (AddEntries F []) xs s (λ p e f. inl f) (λ p e x. elim x [ inl f ↦ f | inr g ↦ absurd (let none : None ≡ Some p = g.0.1 in cc) ])
entries_sum F (entry ∷ entries) xs s =
    all_same (AddEntries (AddWay F (way entry 0)) entries) (AddEntries F (entry ∷ entries)) (entered_at (brought_to xs (way entry 0)) entries)
    (entries_sum (AddWay F (way entry 0)) entries (brought_to xs (way entry 0)) (brought_sums F xs (way entry 0) s))
    (λ p e x. elim x [ inl y ↦ elim y [ inl f ↦ inl f | inr g ↦ inr ((0, ap Some (sym g.0)), g.1) ] | inr g ↦ inr ((suc g.0.0, g.0.1), g.1) ])
    (λ p e x. elim x [ inl f ↦ inl (inl f) | inr g ↦ split p e g.0.0 g.0.1 g.1 ])
  where
    split : (p e k : ℕ) → slice_get (entry ∷ entries) k ≡ Some p → e ≡ 0 → AddEntries (AddWay F (way entry 0)) entries p e
    split p e zero is z = inl (inr (sym (some_same entry p is), z))
    split p e (suc k) is z = inr ((k, is), z)

length-entered : (entries : List ℕ) (xs : List Brought) → length (entered_at xs entries) ≡ length xs
length-entered [] xs = refl
length-entered (entry ∷ entries) xs = length-entered entries (brought_to xs (way entry 0)) ∙ length-brought xs (way entry 0)

abbrev pub Never : ℕ → ℕ → Type 0
Never p e = ⊥

pub nothing_yet : (count : ℕ) → Sums Never (replicate count Nothing)
nothing_yet count = record { each = λ p h. subst (SumsTo (Never p)) (sym (get_or-replicate count p Nothing Nothing (omega (arith, h, length-replicate count)))) (λ e f. f) }
  where
    length-replicate : (n : ℕ) → length (replicate n Nothing) ≡ n
    length-replicate zero = refl
    length-replicate (suc n) = ap suc (length-replicate n)

pub length-nothing : (n : ℕ) → length (replicate n Nothing) ≡ n
length-nothing zero = refl
length-nothing (suc n) = ap suc (length-nothing n)

pub summary_begins : (code : CodeValue) (entries : List ℕ) (xs : List Brought) (count : ℕ) → count ≡ length code.instrs → entries ≡ all_entries code → xs ≡ first_brought entries count → IsSummary code 0 xs
summary_begins code entries xs count size all e =
    let sums : Sums (BroughtBy code 0) (first_brought entries count) =
    all_same (AddEntries Never entries) (BroughtBy code 0) (first_brought entries count) (entries_sum Never entries (replicate count Nothing) (nothing_yet count))
    (λ p e x. elim x [ inl f ↦ absurd f | inr g ↦ inl ((g.0.0, subst (λ l. slice_get l g.0.0 ≡ Some p) all g.0.1), g.1) ])
    (λ p e x. elim x [ inl y ↦ inr ((y.0.0, subst (λ l. slice_get l y.0.0 ≡ Some p) (sym all) y.0.1), y.1) | inr y ↦ absurd (let low : y.0 < 0 = y.2 in omega (arith, low)) ]) in
    subst (IsSummary code 0) (sym e) (record { size = length-entered entries (replicate count Nothing) ∙ length-nothing count ∙ size; each = sums.each })

-- ---- what a place is found to be

pub stack_of : (code : CodeValue) (xs : List Brought) (versions pc d : ℕ) (x : Instr) → versions ≡ versions_begin code → IsSummary code pc xs → pc < length code.instrs → slice_get code.instrs pc ≡ Some x → at_place xs pc ≡ One d → IsFitting xs versions pc d x → StackIs code pc d
stack_of code xs versions pc d x v s h is e fit =
    let within : pc < length xs = omega (arith, h, s.size) in
    record {
      is = summary_depth code pc pc d xs s (omega arith) within e;
      room = fit.room;
      suits = λ y yis. let same : x ≡ y = some_same x y (sym is ∙ yis) in
          subst (SuitsDepth code pc d) same (record {
            finds = fit.finds;
            acting = λ low. fit.acting (subst (λ z. pc < z) (sym v) low);
            ends = fit.ends;
            back = λ to jump low. summary_depth code pc to d xs s low (omega (arith, low, within)) (found_place xs to d (fit.back to jump low));
          });
    }

pub fitting_of : (code : CodeValue) (xs : List Brought) (versions pc d : ℕ) (x : Instr) → versions ≡ versions_begin code → IsSummary code pc xs → pc < length code.instrs → slice_get code.instrs pc ≡ Some x → at_place xs pc ≡ One d → StackAt code pc → IsFitting xs versions pc d x
fitting_of code xs versions pc d x v s h is e stack =
    let within : pc < length xs = omega (arith, h, s.size) in
    let depth : IsDepth code pc d = summary_depth code pc pc d xs s (omega arith) within e in
    let same : stack.0 ≡ d = depth.agreed stack.0 stack.1.is.brought in
    let all : StackIs code pc d = subst (StackIs code pc) same stack.1 in
    let suits = all.suits x is in
    record {
      room = all.room;
      finds = suits.finds;
      acting = λ low. suits.acting (subst (λ z. pc < z) v low);
      ends = suits.ends;
      back = λ to jump low. let inside : to < length xs = omega (arith, low, within) in place_found xs to d inside (depth_summary code pc to d xs s low inside (suits.back to jump low));
    }

pub stack_is_one : (code : CodeValue) (xs : List Brought) (n pc : ℕ) → IsSummary code n xs → pc ≤ n → pc < length xs → (stack : StackAt code pc) → at_place xs pc ≡ One stack.0
stack_is_one code xs n pc s h within stack = depth_summary code n pc stack.0 xs s h within stack.1.is

pub depths_at_end : (code : CodeValue) (xs : List Brought) (n : ℕ) → n ≡ length code.instrs → IsSummary code n xs → ((q : ℕ) → q < n → StackAt code q) → AreDepths code xs
depths_at_end code xs n size s all = record {
  size = s.size;
  each = λ pc h.
      let low : pc < n = omega (arith, h, size, s.size) in
      let stack = all pc low in
      (stack.0, place_found xs pc stack.0 h (stack_is_one code xs n pc s (omega (arith, low)) h stack), stack.1.is);
}
