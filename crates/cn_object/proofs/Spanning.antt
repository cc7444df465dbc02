-- Regions, one after another.
use Rattle.std.proofs.Common.{◌≡◌, ℕ, zero, suc, ◌+◌, ◌-◌, ◌<◌, ◌≤◌, ◌⊎◌, inl, inr, List, [], length, refl, sym, ◌∙◌, ap, subst, Bool, true, false, not, arith}
use Rattle.std.specs.Prelude.{◌↔◌, Option, Some, None, slice_get, slice_index, slice_index_or, unwrap_or, nat_lt, ◌==◌, if◌then◌else◌}
use Rattle.std.proofs.lemmas.Option.{slice_get-get_or, slice_get_within, slice_get_past, get_or_from_slice_get, unwrap_or-slice_get}
use Rattle.std.proofs.lemmas.List.{get_or_append_left, get_or-append-add, length-append, nil_from_length}
use borrow.Author.Tests.{eqb-true, eq-eqb, ltb-true, ltb-false, not-true}
use Rattle.cat_machine.specs.declared.instr.Instr.{Instr}
use Rattle.cat_machine.specs.declared.instr.Instr.TheVariants as i
use Rattle.cat_machine.specs.CodeValue.{CodeValue}
use Rattle.cn_object.specs.declared.regions.Span.{Span}
use Rattle.cn_object.specs.Operands.{target_of, HasOperands, OperandsAt}
use Rattle.cn_object.specs.Verified.{Everywhere}
use Rattle.cn_object.specs.Verdict.{BreaksRegion}
use Rattle.cn_object.specs.Regions.{version_entries, all_entries, IsEntry, AreEntriesOf, AscendBelow, AreEntries, HasTargets, SameRegion, IsRegionEnd, versions_begin, SuitsRegion, RegionAt, IsSpan, begun, entered_in, StaysWithin, SuitsSpan, SuitsSpanAt}

some_same : {X : Type 0} (x y : X) → Some x ≡ Some y → x ≡ y
some_same x y e = cc

abbrev at : List ℕ → ℕ → ℕ
at es k = slice_index es k

order_by : (a b : ℕ) (t : Bool) → nat_lt a b ≡ t → (a < b) ⊎ (b ≤ a)
order_by a b true e = inl (ltb-true a b e)
order_by a b false e = inr (ltb-false a b e)

order : (a b : ℕ) → (a < b) ⊎ (b ≤ a)
order a b = order_by a b (nat_lt a b) refl

-- ---- the order of entries

pub entry_below : (es : List ℕ) (count : ℕ) → AreEntriesOf es count → (k : ℕ) → k < length es → at es k < count
entry_below es count are k h = are.within k (at es k) (slice_get-get_or es k 0 h)

one_up : (es : List ℕ) (count : ℕ) → AreEntriesOf es count → (k : ℕ) → k + 1 < length es → at es k < at es (k + 1)
one_up es count are k h = are.ascend k (at es k) (at es (k + 1)) (slice_get-get_or es k 0 (omega (arith, h))) (slice_get-get_or es (k + 1) 0 h)

rising : (es : List ℕ) (count : ℕ) → AreEntriesOf es count → (j d : ℕ) → j + d < length es → at es j + d ≤ at es (j + d)
rising es count are j zero h = let same : j + 0 ≡ j = omega arith in let moved : at es (j + 0) ≡ at es j = ap (at es) same in omega (arith, moved)
rising es count are j (suc d) h =
    let before = rising es count are j d (omega (arith, h)) in
    let step = one_up es count are (j + d) (omega (arith, h)) in
    let same : j + suc d ≡ j + d + 1 = omega arith in
    let moved : at es (j + suc d) ≡ at es (j + d + 1) = ap (at es) same in
    omega (arith, before, step, moved)

pub upward : (es : List ℕ) (count : ℕ) → AreEntriesOf es count → (j k : ℕ) → j ≤ k → k < length es → at es j ≤ at es k
upward es count are j k h within =
    let same : j + (k - j) ≡ k = omega (arith, h) in
    let up = rising es count are j (k - j) (omega (arith, same, within)) in
    let moved : at es (j + (k - j)) ≡ at es k = ap (at es) same in
    omega (arith, up, moved)

pub strictly : (es : List ℕ) (count : ℕ) → AreEntriesOf es count → (j k : ℕ) → j < k → k < length es → at es j < at es k
strictly es count are j k h within =
    let same : j + (k - j) ≡ k = omega (arith, h) in
    let up = rising es count are j (k - j) (omega (arith, same, within)) in
    let moved : at es (j + (k - j)) ≡ at es k = ap (at es) same in
    omega (arith, up, moved, h)

-- ---- one region

-- the k-th entry begins a region of these places
pub record Spanning (code : CodeValue) (k : ℕ) (span : Span) : Type 0 where
  pub are : AreEntries code
  pub within : k < length (all_entries code)
  pub is : IsSpan (all_entries code) (length code.tasks) (length code.instrs) k span

abbrev next : CodeValue → ℕ → ℕ
next code k = slice_index_or (all_entries code) (k + 1) (length code.instrs)

next_within : (code : CodeValue) (k : ℕ) → k + 1 < length (all_entries code) → next code k ≡ at (all_entries code) (k + 1)
next_within code k h = get_or_from_slice_get (all_entries code) (k + 1) (at (all_entries code) (k + 1)) (length code.instrs) (slice_get-get_or (all_entries code) (k + 1) 0 h)

next_past : (code : CodeValue) (k : ℕ) → length (all_entries code) ≤ k + 1 → next code k ≡ length code.instrs
next_past code k h = sym (unwrap_or-slice_get (all_entries code) (k + 1) (length code.instrs)) ∙ ap (λ o. unwrap_or o (length code.instrs)) (slice_get_past (all_entries code) (k + 1) h)

pub end_within : (code : CodeValue) (k : ℕ) (span : Span) → Spanning code k span → span.end ≤ length code.instrs
end_within code k span s =
    elim (order (k + 1) (length (all_entries code))) [
      | inl h ↦ let low = entry_below (all_entries code) (length code.instrs) s.are (k + 1) h in omega (arith, low, s.is.end, next_within code k h)
      | inr h ↦ omega (arith, s.is.end, next_past code k h)
    ]

pub begins_below : (code : CodeValue) (k : ℕ) (span : Span) → Spanning code k span → span.entry < span.end
begins_below code k span s =
    elim (order (k + 1) (length (all_entries code))) [
      | inl h ↦ let up = one_up (all_entries code) (length code.instrs) s.are k h in omega (arith, up, s.is.entry, s.is.end, next_within code k h)
      | inr h ↦ let low = entry_below (all_entries code) (length code.instrs) s.are k s.within in omega (arith, low, s.is.entry, s.is.end, next_past code k h)
    ]

entry_from : (code : CodeValue) (e : ℕ) → IsEntry code e → (j : ℕ) × (j < length (all_entries code)) × (at (all_entries code) j ≡ e)
entry_from code e entry = (entry.0, slice_get_within (all_entries code) entry.0 e entry.1, get_or_from_slice_get (all_entries code) entry.0 e 0 entry.1)

entry_is : (code : CodeValue) (j : ℕ) → j < length (all_entries code) → IsEntry code (at (all_entries code) j)
entry_is code j h = (j, slice_get-get_or (all_entries code) j 0 h)

-- an entry is not above the region's, or not below its end
beside : (code : CodeValue) (k : ℕ) (span : Span) → Spanning code k span → (e : ℕ) → IsEntry code e → (e ≤ span.entry) ⊎ (span.end ≤ e)
beside code k span s e entry =
    let found = entry_from code e entry in
    let es = all_entries code in
    elim (order k found.0) [
      | inl h ↦ (let up : at es (k + 1) ≤ at es found.0 = upward es (length code.instrs) s.are (k + 1) found.0 (omega (arith, h)) found.1 in
          let inside : k + 1 < length es = omega (arith, h, found.1) in inr (omega (arith, up, found.2, s.is.end, next_within code k inside)))
      | inr h ↦ (let up : at es found.0 ≤ at es k = upward es (length code.instrs) s.are found.0 k h s.within in inl (omega (arith, up, found.2, s.is.entry)))
    ]

pub same_region : (code : CodeValue) (k : ℕ) (span : Span) → Spanning code k span → (pc to : ℕ) → span.entry ≤ pc → pc < span.end → span.entry ≤ to → to < span.end → SameRegion code pc to
same_region code k span s pc to a b c d =
    λ e entry. elim (beside code k span s e entry) [
      | inl h ↦ (λ x. let y : e ≤ to = omega (arith, h, c) in y, λ x. let y : e ≤ pc = omega (arith, h, a) in y)
      | inr h ↦ (λ x. absurd (omega (arith, h, x, b)), λ x. absurd (omega (arith, h, x, d)))
    ]

span_entry : (code : CodeValue) (k : ℕ) (span : Span) → Spanning code k span → IsEntry code span.entry
span_entry code k span s = subst (IsEntry code) (sym s.is.entry) (entry_is code k s.within)

-- the end of a region is an entry or the count
end_is : (code : CodeValue) (k : ℕ) (span : Span) → Spanning code k span → IsRegionEnd code span.end
end_is code k span s =
    elim (order (k + 1) (length (all_entries code))) [
      | inl h ↦ inl (subst (IsEntry code) (sym (s.is.end ∙ next_within code k h)) (entry_is code (k + 1) h))
      | inr h ↦ inr (s.is.end ∙ next_past code k h)
    ]

pub within_region : (code : CodeValue) (k : ℕ) (span : Span) → Spanning code k span → (pc to : ℕ) → span.entry ≤ pc → pc < span.end → to < length code.instrs → SameRegion code pc to → (span.entry ≤ to) × (to < span.end)
within_region code k span s pc to a b c same = (
  (same span.entry (span_entry code k span s)).0 a,
  elim (end_is code k span s) [
    | inl e ↦ elim (order to span.end) [ inl h ↦ h | inr h ↦ absurd (let low : span.end ≤ pc = (same span.end e).1 h in omega (arith, low, b)) ]
    | inr e ↦ omega (arith, c, e)
  ],
)

pub ends_there : (code : CodeValue) (k : ℕ) (span : Span) → Spanning code k span → (pc : ℕ) → span.entry ≤ pc → pc < span.end → (IsRegionEnd code (pc + 1) ↔ (pc + 1 ≡ span.end))
ends_there code k span s pc a b = (
  λ e. elim e [
    | inl entry ↦ elim (beside code k span s (pc + 1) entry) [ inl h ↦ absurd (omega (arith, h, a)) | inr h ↦ omega (arith, h, b) ]
    | inr whole ↦ let low = end_within code k span s in omega (arith, whole, b, low)
  ],
  λ e. subst (IsRegionEnd code) (sym e) (end_is code k span s),
)

-- ---- tasks and versions

pub tasks_first : (code : CodeValue) (t : ℕ) → t < length code.tasks → slice_get (all_entries code) t ≡ slice_get code.tasks t
tasks_first code t h =
    let long : length (all_entries code) ≡ length code.tasks + length (version_entries code) = length-append code.tasks (version_entries code) in
    slice_get-get_or (all_entries code) t 0 (omega (arith, h, long)) ∙ ap Some (get_or_append_left code.tasks (version_entries code) 0 t h) ∙ sym (slice_get-get_or code.tasks t 0 h)

pub task_is_here : (code : CodeValue) (k : ℕ) (span : Span) → Spanning code k span → (pc t : ℕ) → span.entry ≤ pc → pc < span.end → slice_get code.tasks t ≡ Some pc → (span.task ≡ Some t) × (pc ≡ span.entry)
task_is_here code k span s pc t a b e =
    let es = all_entries code in
    let small : t < length code.tasks = slice_get_within code.tasks t pc e in
    let entry : slice_get es t ≡ Some pc = tasks_first code t small ∙ e in
    let inside : t < length es = slice_get_within es t pc entry in
    let value : at es t ≡ pc = get_or_from_slice_get es t pc 0 entry in
    let first : pc ≡ span.entry = elim (beside code k span s pc (t, entry)) [ inl h ↦ omega (arith, h, a) | inr h ↦ absurd (omega (arith, h, b)) ] in
    let same : k ≡ t = elim (order k t) [
      | inl h ↦ absurd (let up = strictly es (length code.instrs) s.are k t h inside in omega (arith, up, value, first, s.is.entry))
      | inr h ↦ elim (order t k) [ inl g ↦ absurd (let up = strictly es (length code.instrs) s.are t k g s.within in omega (arith, up, value, first, s.is.entry)) | inr g ↦ omega (arith, h, g) ]
    ] in
    (s.is.of_task (omega (arith, same, small)) ∙ ap Some same, first)

pub task_begins_here : (code : CodeValue) (k : ℕ) (span : Span) → Spanning code k span → (pc t : ℕ) → span.task ≡ Some t → pc ≡ span.entry → slice_get code.tasks t ≡ Some pc
task_begins_here code k span s pc t e f =
    elim (order k (length code.tasks)) [
      | inl h ↦ (let same : k ≡ t = some_same k t (sym (s.is.of_task h) ∙ e) in
          let value : at (all_entries code) k ≡ pc = sym s.is.entry ∙ sym f in
          ap (slice_get code.tasks) (sym same) ∙ sym (tasks_first code k h) ∙ slice_get-get_or (all_entries code) k 0 s.within ∙ ap Some value)
      | inr h ↦ absurd (let none : None ≡ Some t = sym (s.is.of_version h) ∙ e in cc)
    ]

first_version : (code : CodeValue) → versions_begin code ≡ slice_index_or (all_entries code) (length code.tasks) (length code.instrs)
first_version code =
    let same : slice_index_or (version_entries code) 0 (length code.instrs) ≡ slice_index_or (all_entries code) (length code.tasks + 0) (length code.instrs) =
    sym (get_or-append-add code.tasks (version_entries code) 0 (length code.instrs)) in
    let plain : length code.tasks + 0 ≡ length code.tasks = omega arith in
    unwrap_or-slice_get (version_entries code) 0 (length code.instrs) ∙ same ∙ ap (λ n. slice_index_or (all_entries code) n (length code.instrs)) plain

pub or_default : (es : List ℕ) (j d : ℕ) → j < length es → slice_index_or es j d ≡ at es j
or_default es j d h = get_or_from_slice_get es j (at es j) d (slice_get-get_or es j 0 h)

pub version_is_here : (code : CodeValue) (k : ℕ) (span : Span) → Spanning code k span → (pc : ℕ) → span.entry ≤ pc → span.task ≡ None → versions_begin code ≤ pc
version_is_here code k span s pc a e =
    elim (order k (length code.tasks)) [
      | inl h ↦ absurd (let none : None ≡ Some k = sym e ∙ s.is.of_task h in cc)
      | inr h ↦ (let up = upward (all_entries code) (length code.instrs) s.are (length code.tasks) k h s.within in
          let is = or_default (all_entries code) (length code.tasks) (length code.instrs) (omega (arith, h, s.within)) in
          omega (arith, up, is, first_version code, s.is.entry, a))
    ]

pub here_is_version : (code : CodeValue) (k : ℕ) (span : Span) → Spanning code k span → (pc : ℕ) → pc < span.end → versions_begin code ≤ pc → span.task ≡ None
here_is_version code k span s pc b v =
    elim (order k (length code.tasks)) [
      | inl h ↦ absurd (elim (order (length code.tasks) (length (all_entries code))) [
        | inl g ↦ (let up = upward (all_entries code) (length code.instrs) s.are (k + 1) (length code.tasks) (omega (arith, h)) g in
            let is = or_default (all_entries code) (length code.tasks) (length code.instrs) g in
            let inside : k + 1 < length (all_entries code) = omega (arith, h, g) in
            omega (arith, up, is, first_version code, s.is.end, next_within code k inside, b, v))
        | inr g ↦ (let none = sym (unwrap_or-slice_get (all_entries code) (length code.tasks) (length code.instrs)) ∙ ap (λ o. unwrap_or o (length code.instrs)) (slice_get_past (all_entries code) (length code.tasks) g) in
            let low = end_within code k span s in omega (arith, none, first_version code, low, b, v))
      ])
      | inr h ↦ s.is.of_version h
    ]

-- ---- an instruction

begun_is : (x : Instr) (t : ℕ) → begun x ≡ Some t → x ≡ i.Begin t
begun_is (i.Begin u) t e = ap i.Begin (some_same u t e)
begun_is _ t e = absurd (let none : None ≡ Some t = e in cc)

entered_some : (span : Span) (pc t : ℕ) (b : Bool) → (pc == span.entry) ≡ b → (if b then span.task else None) ≡ Some t → (span.task ≡ Some t) × (pc ≡ span.entry)
entered_some span pc t true same e = (e, eqb-true pc span.entry same)
entered_some span pc t false differ e = absurd (let none : None ≡ Some t = e in cc)

some_entered : (span : Span) (pc t : ℕ) → span.task ≡ Some t → pc ≡ span.entry → entered_in span pc ≡ Some t
some_entered span pc t e f = ap (λ (b : Bool). if b then span.task else None) (eq-eqb pc span.entry f) ∙ e

options_same : (a b : Option ℕ) → ((t : ℕ) → a ≡ Some t → b ≡ Some t) → ((t : ℕ) → b ≡ Some t → a ≡ Some t) → a ≡ b
options_same None None f g = refl
options_same None (Some t) f g = g t refl
options_same (Some t) b f g = sym (f t refl)

pub suits_region : (code : CodeValue) (k : ℕ) (span : Span) → Spanning code k span → (pc : ℕ) (x : Instr) → span.entry ≤ pc → pc < span.end → SuitsSpan code span pc x → SuitsRegion code pc x
suits_region code k span s pc x a b u = record {
  begins = λ t. (
    λ e. let here = entered_some span pc t (pc == span.entry) refl (sym u.begin ∙ ap begun e) in task_begins_here code k span s pc t here.0 here.1,
    λ e. let here = task_is_here code k span s pc t a b e in begun_is x t (u.begin ∙ some_entered span pc t here.0 here.1),
  );
  ends = (λ e. (ends_there code k span s pc a b).1 (u.end.0 e), λ e. u.end.1 ((ends_there code k span s pc a b).0 e));
  stays = λ to e. let in_span = u.stays to e in record { region = same_region code k span s pc to a b in_span.0 in_span.1; no_begin = in_span.2 };
  forward = u.allowed.forward;
  payload = λ e. version_is_here code k span s pc a (u.allowed.payload e);
  turn = λ to e. version_is_here code k span s pc a (u.allowed.turn to e);
}

pub region_suits : (code : CodeValue) (k : ℕ) (span : Span) → Spanning code k span → HasTargets code → (pc : ℕ) (x : Instr) → slice_get code.instrs pc ≡ Some x → span.entry ≤ pc → pc < span.end → SuitsRegion code pc x → SuitsSpan code span pc x
region_suits code k span s targets pc x is a b u = record {
  begin = options_same (begun x) (entered_in span pc)
      (λ t e. let here = task_is_here code k span s pc t a b ((u.begins t).0 (begun_is x t e)) in some_entered span pc t here.0 here.1)
      (λ t e. let here = entered_some span pc t (pc == span.entry) refl e in ap begun ((u.begins t).1 (task_begins_here code k span s pc t here.0 here.1)));
  end = (λ e. (ends_there code k span s pc a b).0 (u.ends.0 e), λ e. u.ends.1 ((ends_there code k span s pc a b).1 e));
  stays = λ to e. let stays = u.stays to e in let both = within_region code k span s pc to a b (targets pc to x is e) stays.region in (both.0, both.1, stays.no_begin);
  allowed = record {
    forward = u.forward;
    payload = λ e. here_is_version code k span s pc b (u.payload e);
    turn = λ to e. here_is_version code k span s pc b (u.turn to e);
  };
}

pub suits_region_at : (code : CodeValue) (k : ℕ) (span : Span) → Spanning code k span → (pc : ℕ) → span.entry ≤ pc → pc < span.end → SuitsSpanAt code span pc → RegionAt code pc
suits_region_at code k span s pc a b u = λ x is. suits_region code k span s pc x a b (u x is)

pub region_suits_at : (code : CodeValue) (k : ℕ) (span : Span) → Spanning code k span → HasTargets code → (pc : ℕ) → span.entry ≤ pc → pc < span.end → RegionAt code pc → SuitsSpanAt code span pc
region_suits_at code k span s targets pc a b u = λ x is. region_suits code k span s targets pc x is a b (u x is)

-- ---- what the passes find

pub stays_by : (code : CodeValue) (span : Span) (x : Instr) (to : ℕ) (b : Bool) → target_of x ≡ Some to → span.entry ≤ to → to < span.end → ((b ≡ true) ↔ ((t : ℕ) × (slice_get code.instrs to ≡ Some (i.Begin t)))) → ((not b ≡ true) ↔ StaysWithin code span x)
stays_by code span x to b e low high h = (
  λ n other f.
      let same : to ≡ other = some_same to other (sym e ∙ f) in
      let no : b ≡ false = not-true b n in
      (omega (arith, low, same), omega (arith, high, same), λ t begin. let yes : b ≡ true = h.1 (t, ap (slice_get code.instrs) same ∙ begin) in absurd (let clash : false ≡ true = sym no ∙ yes in cc)),
  λ stays. not_by b (λ yes. let found = h.0 yes in (stays to e).2 found.0 found.1),
)
  where
    not_by : (t : Bool) → ((t ≡ true) → ⊥) → not t ≡ true
    not_by true f = absurd (f refl)
    not_by false f = refl

pub suits_at : (code : CodeValue) (span : Span) (pc : ℕ) (x : Instr) → slice_get code.instrs pc ≡ Some x → SuitsSpan code span pc x → SuitsSpanAt code span pc
suits_at code span pc x is u = λ y f. subst (SuitsSpan code span pc) (some_same x y (sym is ∙ f)) u

pub span_more : (code : CodeValue) (span : Span) (n : ℕ) → ((q : ℕ) → span.entry ≤ q → q < n → SuitsSpanAt code span q) → SuitsSpanAt code span n → (q : ℕ) → span.entry ≤ q → q < n + 1 → SuitsSpanAt code span q
span_more code span n all one q a b =
    elim (order q n) [ inl h ↦ all q a h | inr h ↦ (let same : n ≡ q = omega (arith, h, b) in subst (SuitsSpanAt code span) same one) ]

pub regions_begin : (code : CodeValue) → AreEntries code → (q : ℕ) → q < slice_index_or (all_entries code) 0 (length code.instrs) → RegionAt code q
regions_begin code are q h =
    absurd (elim (order 0 (length (all_entries code))) [
      | inl g ↦ (let zero_is = are.first (at (all_entries code) 0) (slice_get-get_or (all_entries code) 0 0 g) in
          let is = or_default (all_entries code) 0 (length code.instrs) g in omega (arith, h, zero_is, is))
      | inr g ↦ (let empty : all_entries code ≡ [] = nil_from_length (all_entries code) (omega (arith, g)) in
          let past = sym (unwrap_or-slice_get (all_entries code) 0 (length code.instrs)) ∙ ap (λ o. unwrap_or o (length code.instrs)) (slice_get_past (all_entries code) 0 g) in
          omega (arith, h, past, are.none empty))
    ])

entry_now : (code : CodeValue) (k : ℕ) (span : Span) → Spanning code k span → slice_index_or (all_entries code) k (length code.instrs) ≡ span.entry
entry_now code k span s = or_default (all_entries code) k (length code.instrs) s.within ∙ sym s.is.entry

pub regions_go : (code : CodeValue) (k : ℕ) (span : Span) → Spanning code k span → ((q : ℕ) → q < slice_index_or (all_entries code) k (length code.instrs) → RegionAt code q)
    → ((q : ℕ) → span.entry ≤ q → q < span.end → SuitsSpanAt code span q) → (q : ℕ) → q < slice_index_or (all_entries code) (k + 1) (length code.instrs) → RegionAt code q
regions_go code k span s before all q h =
    elim (order q span.entry) [
      | inl g ↦ before q (omega (arith, g, entry_now code k span s))
      | inr g ↦ (let low : q < span.end = omega (arith, h, s.is.end) in suits_region_at code k span s q g low (all q g low))
    ]

pub regions_break : (code : CodeValue) (k : ℕ) (span : Span) → Spanning code k span → HasTargets code → ((q : ℕ) → q < slice_index_or (all_entries code) k (length code.instrs) → RegionAt code q)
    → (place : ℕ) → span.entry ≤ place → place < span.end → ¬ SuitsSpanAt code span place → ((q : ℕ) → span.entry ≤ q → q < place → SuitsSpanAt code span q) → BreaksRegion code place
regions_break code k span s targets before place a b fails all =
    inr (
      s.are,
      record {
        within = let low = end_within code k span s in omega (arith, b, low);
        fails = λ r. fails (region_suits_at code k span s targets place a b r);
        before = λ q h. elim (order q span.entry) [
          | inl g ↦ before q (omega (arith, g, entry_now code k span s))
          | inr g ↦ (let low : q < span.end = omega (arith, h, b) in suits_region_at code k span s q g low (all q g h))
        ];
      },
    )

pub regions_end : (code : CodeValue) (k : ℕ) → length (all_entries code) ≤ k → ((q : ℕ) → q < slice_index_or (all_entries code) k (length code.instrs) → RegionAt code q) → (q : ℕ) → q < length code.instrs → RegionAt code q
regions_end code k g before q h =
    let past = sym (unwrap_or-slice_get (all_entries code) k (length code.instrs)) ∙ ap (λ o. unwrap_or o (length code.instrs)) (slice_get_past (all_entries code) k g) in
    before q (omega (arith, h, past))

pub span_is : (code : CodeValue) (es : List ℕ) (tasks count k : ℕ) (span : Span) → es ≡ all_entries code → tasks ≡ length code.tasks → count ≡ length code.instrs → AreEntriesOf es count → k < length es → IsSpan es tasks count k span → Spanning code k span
span_is code es tasks count k span e t n are h is = record {
  are = subst (λ m. AreEntriesOf (all_entries code) m) n (subst (λ l. AreEntriesOf l count) e are);
  within = omega (arith, h, ap length e);
  is = subst (λ m. IsSpan (all_entries code) (length code.tasks) m k span) n (subst (λ m. IsSpan (all_entries code) m count k span) t (subst (λ l. IsSpan l tasks count k span) e is));
}

-- ---- entries that were looked at

next_of_list : (es : List ℕ) (count k : ℕ) → k + 1 < length es → slice_index_or es (k + 1) count ≡ at es (k + 1)
next_of_list es count k h = or_default es (k + 1) count h

last_of_list : (es : List ℕ) (count k : ℕ) → length es ≤ k + 1 → slice_index_or es (k + 1) count ≡ count
last_of_list es count k h = sym (unwrap_or-slice_get es (k + 1) count) ∙ ap (λ o. unwrap_or o count) (slice_get_past es (k + 1) h)

all_below : (es : List ℕ) (count : ℕ) → AscendBelow es count → (d k : ℕ) → k + d + 1 ≡ length es → at es k < count
all_below es count up zero k e =
    let step = up k (omega (arith, e)) in let last = last_of_list es count k (omega (arith, e)) in omega (arith, step, last)
all_below es count up (suc d) k e =
    let step = up k (omega (arith, e)) in
    let inside : k + 1 < length es = omega (arith, e) in
    let next = next_of_list es count k inside in
    let later = all_below es count up d (k + 1) (omega (arith, e)) in
    omega (arith, step, next, later)

pub ascending_are : (es : List ℕ) (count a : ℕ) (b : Bool) → slice_get es 0 ≡ Some a → a ≡ 0 → ((b ≡ true) ↔ AscendBelow es count) → ((b ≡ true) ↔ AreEntriesOf es count)
ascending_are es count a b first zero_is h = (
  λ t. let up = h.0 t in record {
    first = λ entry e. some_same entry a (sym e ∙ first) ∙ zero_is;
    ascend = λ k x y e f.
        let inside = slice_get_within es (k + 1) y f in
        let step = up k (omega (arith, inside)) in
        let left = get_or_from_slice_get es k x 0 e in
        let right = get_or_from_slice_get es (k + 1) y count f in
        omega (arith, step, left, right);
    within = λ k x e.
        let inside : k < length es = slice_get_within es k x e in
        let low = all_below es count up (length es - (k + 1)) k (omega (arith, inside)) in
        let left = get_or_from_slice_get es k x 0 e in
        omega (arith, low, left);
    none = λ empty. absurd (let none : None ≡ Some a = sym (ap (λ l. slice_get l 0) empty) ∙ first in cc);
  },
  λ are. h.1 (λ k inside. elim (order (k + 1) (length es)) [
    | inl g ↦ (let step = one_up es count are k g in let next = next_of_list es count k g in omega (arith, step, next))
    | inr g ↦ (let low = entry_below es count are k inside in let last = last_of_list es count k g in omega (arith, low, last))
  ]),
)

-- places that exist are targets that do
target_exists : (words tasks count to : ℕ) (x : Instr) → HasOperands words tasks count x → target_of x ≡ Some to → to < count
target_exists words tasks count to (i.Jump other) h e = let same : other ≡ to = some_same other to e in omega (arith, h, same)
target_exists words tasks count to (i.JumpZero other) h e = let same : other ≡ to = some_same other to e in omega (arith, h, same)
target_exists words tasks count to (i.Turn other) h e = let same : other ≡ to = some_same other to e in omega (arith, h, same)
target_exists words tasks count to _ h e = absurd (let none : None ≡ Some to = e in cc)

pub targets_exist : (words tasks : ℕ) (code : CodeValue) → Everywhere code (OperandsAt words tasks code) → HasTargets code
targets_exist words tasks code h pc to x is e = target_exists words tasks (length code.instrs) to x (h pc (slice_get_within code.instrs pc x is) x is) e

-- where the versions' code begins, a version does
pub begins_entry : (code : CodeValue) → versions_begin code < length code.instrs → IsEntry code (versions_begin code)
begins_entry code h =
    let es = all_entries code in
    let at_begin = first_version code in
    elim (order (length code.tasks) (length es)) [
      | inl g ↦ (let is = or_default es (length code.tasks) (length code.instrs) g in
          (length code.tasks, slice_get-get_or es (length code.tasks) 0 g ∙ ap Some (sym (at_begin ∙ is))))
      | inr g ↦ absurd (let past = sym (unwrap_or-slice_get es (length code.tasks) (length code.instrs)) ∙ ap (λ o. unwrap_or o (length code.instrs)) (slice_get_past es (length code.tasks) g) in omega (arith, h, at_begin, past))
    ]

-- ---- the entries of versions

version_place : (code : CodeValue) (k entry : ℕ) → slice_get (version_entries code) k ≡ Some entry → slice_get (all_entries code) (length code.tasks + k) ≡ Some entry
version_place code k entry at =
    let inside = slice_get_within (version_entries code) k entry at in
    let long : length (all_entries code) ≡ length code.tasks + length (version_entries code) = length-append code.tasks (version_entries code) in
    slice_get-get_or (all_entries code) (length code.tasks + k) 0 (omega (arith, inside, long)) ∙ ap Some (get_or-append-add code.tasks (version_entries code) k 0 ∙ get_or_from_slice_get (version_entries code) k entry 0 at)

pub version_is_entry : (code : CodeValue) (k entry : ℕ) → slice_get (version_entries code) k ≡ Some entry → IsEntry code entry
version_is_entry code k entry at = (length code.tasks + k, version_place code k entry at)

-- a version begins in the versions' code
pub version_entry_in : (code : CodeValue) (k entry : ℕ) → AreEntries code → slice_get (version_entries code) k ≡ Some entry → (versions_begin code ≤ entry) × (entry < length code.instrs)
version_entry_in code k entry are at =
    let es = all_entries code in
    let place = version_place code k entry at in
    let inside = slice_get_within es (length code.tasks + k) entry place in
    let up = upward es (length code.instrs) are (length code.tasks) (length code.tasks + k) (omega arith) inside in
    let value = get_or_from_slice_get es (length code.tasks + k) entry 0 place in
    let is = or_default es (length code.tasks) (length code.instrs) (omega (arith, inside)) in
    (omega (arith, up, value, is, first_version code), are.within (length code.tasks + k) entry place)

pub version_entries_rise : (code : CodeValue) (j k a b : ℕ) → AreEntries code → slice_get (version_entries code) j ≡ Some a → slice_get (version_entries code) k ≡ Some b → j ≤ k → a ≤ b
version_entries_rise code j k a b are p q h =
    let es = all_entries code in
    let left = version_place code j a p in
    let right = version_place code k b q in
    let up = upward es (length code.instrs) are (length code.tasks + j) (length code.tasks + k) (omega (arith, h)) (slice_get_within es (length code.tasks + k) b right) in
    omega (arith, up, get_or_from_slice_get es (length code.tasks + j) a 0 left, get_or_from_slice_get es (length code.tasks + k) b 0 right)
