-- The counts of instructions, from the last place to the first.
use Rattle.std.proofs.Common.{◌≡◌, ℕ, zero, suc, ◌+◌, ◌*◌, ◌<◌, ◌≤◌, inl, inr, List, [], length, refl, sym, ◌∙◌, ap, subst, Bool, true, false, arith, max}
use Rattle.std.specs.Prelude.{pos, Some, slice_get, slice_index, slice_set, nat_lt, ◌==◌, if◌then◌else◌}
use Rattle.std.proofs.lemmas.Option.{slice_get_within}
use Rattle.std.proofs.lemmas.List.{get_or-set_same, get_or-set_other, length-set}
use borrow.Author.Tests.{eqb-true, eqb-false, lt-ltb, ltb-true}
use Rattle.cat_machine.specs.declared.instr.Instr.{Instr}
use Rattle.cat_machine.specs.declared.instr.Instr.TheVariants as i
use Rattle.cat_machine.specs.CodeValue.{CodeValue}
use Rattle.cat_machine.specs.Costs.{instr_cost, place_cost, path_cost}
use Rattle.cost_bounds.specs.Paths.{HandlerFrom, Ends, LeadsOn}
use Rattle.cost_bounds.specs.Pass.{is_straight, Worth, AtEnd, TurnsBack, Leaves, Tests, Repeats, GoesOn as Straight}
use Rattle.cn_object.specs.Operands.{target_of}
use Rattle.cn_object.specs.Regions.{version_entries, versions_begin}
use Rattle.cn_object.specs.Lengths.{HasSoundLoops, each_one, cut_off, LengthIs, AreLengths, repeated, length_of, length_to, IsShort, AreShort, IsFirstLong}
use Rattle.cn_object.specs.Verified.{Everywhere, ShortAt}
use Rattle.cn_object.specs.Verdict.{FailsFirst}
use Rattle.cn_object.proofs.Inner.{order}
use Rattle.cn_object.proofs.Spanning.{version_is_entry, version_entry_in, version_entries_rise}
use Rattle.cn_object.proofs.Around.{looped, InVersions, repeat_at, next_in, target_in}
use Rattle.cn_object.proofs.Ways.{worth_exists, entry_most, entry_reached}

some_same : {X : Type 0} (x y : X) → Some x ≡ Some y → x ≡ y
some_same x y e = cc

-- ---- one place

cut_next : (n c : ℕ) → n ≡ cut_off c → cut_off (1 + n) ≡ cut_off (1 + c)
cut_next n c e = omega (arith, e)

cut_max : (m n a b : ℕ) → m ≡ cut_off a → n ≡ cut_off b → cut_off (1 + max m n) ≡ cut_off (1 + max a b)
cut_max m n a b e f = omega (arith, e, f)

cut_repeat : (k m n a b : ℕ) → m ≡ cut_off a → n ≡ cut_off b → cut_off (repeated k m n) ≡ cut_off ((1 + a) * k + 1 + b)
cut_repeat zero m n a b e f = omega (arith, e, f)
cut_repeat (suc k) m n a b e f =
    let left : suc k * (1 + m) ≡ k * (1 + m) + (1 + m) = omega arith in
    let right : (1 + a) * suc k ≡ (1 + a) * k + (1 + a) = omega arith in
    elim (order a 1000001) [
      | inl h ↦ (let same : m ≡ a = omega (arith, e, h) in let moved : k * (1 + m) ≡ k * (1 + a) = ap (λ z. k * (1 + z)) same in
          let turned : k * (1 + a) ≡ (1 + a) * k = omega arith in omega (arith, left, right, moved, turned, same, f))
      | inr h ↦ (let most : m ≡ 1000001 = omega (arith, e, h) in omega (arith, left, right, most, h, f))
    ]

number_same : (m n : ℕ) → i.Push (pos m) ≡ i.Push (pos n) → m ≡ n
number_same m n e = cc

not_less : (a b : ℕ) (t : Bool) → b ≤ a → nat_lt a b ≡ t → t ≡ false
not_less a b true h e = absurd (let up = ltb-true a b e in omega (arith, up, h))
not_less a b false h e = refl

-- what is known where the count of a place is worked out
pub record Counts (code : CodeValue) (lengths : List ℕ) (pc : ℕ) (x : Instr) (turns next there : ℕ) : Type 0 where
  pub sound : HasSoundLoops code
  pub later : AreLengths code (pc + 1) lengths
  pub is : slice_get code.instrs pc ≡ Some x
  pub place : InVersions code pc
  pub pushed : (before n : ℕ) → n ≤ 1000 → pc ≡ before + 1 → slice_get code.instrs before ≡ Some (i.Push (pos n)) → turns ≡ n
  pub next_is : next ≡ slice_index lengths (pc + 1)
  pub there_is : there ≡ length_to lengths (target_of x)

known : (code : CodeValue) (lengths : List ℕ) (from pc c : ℕ) → AreLengths code from lengths → from ≤ pc → InVersions code pc → Worth each_one code pc c → slice_index lengths pc ≡ cut_off c
known code lengths from pc c are low v w = are.each pc low (omega (arith, v.1, are.size)) v.0 c w

length_by : (code : CodeValue) (lengths : List ℕ) (pc : ℕ) (x y : Instr) (turns next there : ℕ) → Counts code lengths pc x turns next there → slice_get code.instrs pc ≡ Some y → Counts code lengths pc y turns next there
length_by code lengths pc x y turns next there k is = subst (λ z. Counts code lengths pc z turns next there) (some_same x y (sym k.is ∙ is)) k

pub length_is : (code : CodeValue) (lengths : List ℕ) (pc : ℕ) (x : Instr) (turns next there : ℕ) → Counts code lengths pc x turns next there → (c : ℕ) → Worth each_one code pc c → cut_off (length_of x pc turns next there) ≡ cut_off c
length_is code lengths _ x turns next there k _ (AtEnd {pc} is) = ap (λ z. cut_off (length_of z pc turns next there)) (some_same x i.End (sym k.is ∙ is))
length_is code lengths _ x turns next there k _ (TurnsBack {pc} to is low) =
    ap (λ z. cut_off (length_of z pc turns next there)) (some_same x (i.Jump to) (sym k.is ∙ is)) ∙ ap (λ (b : Bool). cut_off (if b then 1 + there else 1)) (not_less pc to (nat_lt pc to) low refl)
length_is code lengths _ x turns next there k _ (Leaves {pc} {c} to is ahead w) =
    let j = length_by code lengths pc x (i.Jump to) turns next there k is in
    let l = looped j.sound.0 code j.sound.1 in
    let at_to = known code lengths (pc + 1) to c j.later (omega (arith, ahead)) (target_in code pc to l j.place (i.Jump to, is, refl)) w in
    ap (λ z. cut_off (length_of z pc turns next there)) (some_same x (i.Jump to) (sym k.is ∙ is)) ∙ ap (λ (b : Bool). cut_off (if b then 1 + there else 1)) (lt-ltb pc to ahead) ∙ cut_next there c (j.there_is ∙ at_to)
length_is code lengths _ x turns next there k _ (Tests {pc} {a} {b} to is ahead wa wb) =
    let j = length_by code lengths pc x (i.JumpZero to) turns next there k is in
    let l = looped j.sound.0 code j.sound.1 in
    let at_to = known code lengths (pc + 1) to b j.later (omega (arith, ahead)) (target_in code pc to l j.place (i.JumpZero to, is, refl)) wb in
    let at_next = known code lengths (pc + 1) (pc + 1) a j.later (omega arith) (next_in code pc (i.JumpZero to) l j.place is (λ e. cc)) wa in
    ap (λ z. cut_off (length_of z pc turns next there)) (some_same x (i.JumpZero to) (sym k.is ∙ is)) ∙ cut_max next there a b (j.next_is ∙ at_next) (j.there_is ∙ at_to)
length_is code lengths _ x turns next there k _ (Repeats {pc} {a} {b} n before to is place pushed ahead wa wb) =
    let j = length_by code lengths pc x (i.Turn to) turns next there k is in
    let l = looped j.sound.0 code j.sound.1 in
    let at_to = known code lengths (pc + 1) to b j.later (omega (arith, ahead)) (target_in code pc to l j.place (i.Turn to, is, refl)) wb in
    let at_next = known code lengths (pc + 1) (pc + 1) a j.later (omega arith) (next_in code pc (i.Turn to) l j.place is (λ e. cc)) wa in
    let r = repeat_at code pc to l is in
    let here : r.before ≡ before = omega (arith, place, r.just_before) in
    let number : r.turns ≡ n = number_same r.turns n (some_same (i.Push (pos r.turns)) (i.Push (pos n)) (sym r.pushed ∙ ap (slice_get code.instrs) here ∙ pushed)) in
    let count : turns ≡ n = j.pushed before n (omega (arith, number, r.few)) place pushed in
    ap (λ z. cut_off (length_of z pc turns next there)) (some_same x (i.Turn to) (sym k.is ∙ is)) ∙ ap (λ z. cut_off (repeated z next there)) count ∙ cut_repeat n next there a b (j.next_is ∙ at_next) (j.there_is ∙ at_to)
length_is code lengths _ x turns next there k _ (Straight {pc} {c} y is straight w) =
    let j = length_by code lengths pc x y turns next there k is in
    let l = looped j.sound.0 code j.sound.1 in
    let at_next = known code lengths (pc + 1) (pc + 1) c j.later (omega arith) (next_in code pc y l j.place is (λ e. let clash : false ≡ true = ap is_straight (sym e) ∙ straight in cc)) w in
    ap (λ z. cut_off (length_of z pc turns next there)) (some_same x y (sym k.is ∙ is)) ∙ ap cut_off (plain y straight) ∙ cut_next next c (j.next_is ∙ at_next)
  where
    plain : (z : Instr) → is_straight z ≡ true → length_of z pc turns next there ≡ 1 + next
    plain (i.Jump to) s = absurd (let clash : false ≡ true = s in cc)
    plain (i.JumpZero to) s = absurd (let clash : false ≡ true = s in cc)
    plain (i.Turn to) s = absurd (let clash : false ≡ true = s in cc)
    plain i.End s = absurd (let clash : false ≡ true = s in cc)
    plain _ s = refl

-- ---- all places

lengths_set : (code : CodeValue) (n b : ℕ) (lengths : List ℕ) → AreLengths code (n + 1) lengths → n < length lengths → (versions_begin code ≤ n → LengthIs code n b) → (pc : ℕ) → n ≤ pc → pc < length lengths → versions_begin code ≤ pc
    → (t : Bool) → (pc == n) ≡ t → LengthIs code pc (slice_index (slice_set lengths n b) pc)
lengths_set code n b lengths are low h pc from within v true e =
    let same : pc ≡ n = eqb-true pc n e in
    let value : slice_index (slice_set lengths n b) n ≡ b = get_or-set_same lengths n b 0 low in
    subst (λ q. LengthIs code q (slice_index (slice_set lengths n b) q)) (sym same) (subst (LengthIs code n) (sym value) (h (omega (arith, v, same))))
lengths_set code n b lengths are low h pc from within v false e =
    let differ = eqb-false pc n e in
    let value : slice_index (slice_set lengths n b) pc ≡ slice_index lengths pc = get_or-set_other lengths n pc b 0 differ in
    subst (LengthIs code pc) (sym value) (are.each pc (omega (arith, from, differ)) within v)

pub lengths_go : (code : CodeValue) (n b : ℕ) (lengths new : List ℕ) → AreLengths code (n + 1) lengths → n < length lengths → (versions_begin code ≤ n → LengthIs code n b) → new ≡ slice_set lengths n b → AreLengths code n new
lengths_go code n b lengths new are low h e =
    subst (AreLengths code n) (sym e) (record {
      size = length-set lengths n b ∙ are.size;
      each = λ pc from within v. lengths_set code n b lengths are low h pc from (omega (arith, within, length-set lengths n b)) v (pc == n) refl;
    })

pub lengths_start : (code : CodeValue) (n : ℕ) (lengths : List ℕ) → length lengths ≡ length code.instrs → length code.instrs ≤ n → AreLengths code n lengths
lengths_start code n lengths size e = record { size = size; each = λ pc low within v. absurd (omega (arith, low, within, size, e)) }

-- ---- the versions

pub length_is_cost : (code : CodeValue) {pc : ℕ} {left path : List ℕ} → HandlerFrom code pc left path → path_cost (place_cost each_one code) path ≡ length path
length_is_cost code (Ends {pc} is) = let one : place_cost each_one code pc ≡ 1 = ap (instr_cost each_one) is in omega (arith, one)
length_is_cost code (LeadsOn {pc} x is leads rest) =
    let one : place_cost each_one code pc ≡ 1 = ap (instr_cost each_one) is in
    let more = length_is_cost code rest in omega (arith, one, more)

pub short_at : (code : CodeValue) (lengths : List ℕ) (entry k : ℕ) → HasSoundLoops code → AreLengths code 0 lengths → slice_get (version_entries code) k ≡ Some entry → IsShort lengths entry → (path : List ℕ) → HandlerFrom code entry [] path → length path ≤ 1000000
short_at code lengths entry k sound are at short path h =
    let l = looped sound.0 code sound.1 in
    let v : InVersions code entry = version_entry_in code k entry l.entries at in
    let w = worth_exists each_one code l entry v in
    let count = known code lengths 0 entry w.0 are (omega arith) v w.1 in
    let most = entry_most each_one code l entry w.0 (version_is_entry code k entry at) v w.1 path h in
    omega (arith, count, most, short, length_is_cost code h)

pub long_at : (code : CodeValue) (lengths : List ℕ) (entry k : ℕ) → HasSoundLoops code → AreLengths code 0 lengths → slice_get (version_entries code) k ≡ Some entry → 1000000 < slice_index lengths entry → ¬ ShortAt code entry
long_at code lengths entry k sound are at long = λ short.
    let l = looped sound.0 code sound.1 in
    let v : InVersions code entry = version_entry_in code k entry l.entries at in
    let w = worth_exists each_one code l entry v in
    let count = known code lengths 0 entry w.0 are (omega arith) v w.1 in
    let reached = entry_reached each_one code l entry w.0 (version_is_entry code k entry at) v w.1 in
    let low = short k at reached.0 reached.1 in
    omega (arith, count, long, low, reached.2, length_is_cost code reached.1)

pub all_short : (code : CodeValue) (lengths entries : List ℕ) → HasSoundLoops code → AreLengths code 0 lengths → entries ≡ version_entries code → AreShort entries lengths (length entries) → Everywhere code (ShortAt code)
all_short code lengths entries sound are e short =
    λ pc low k at path h.
    let here : slice_get entries k ≡ Some pc = ap (λ es. slice_get es k) e ∙ at in
    short_at code lengths pc k sound are at (short k pc (slice_get_within entries k pc here) here) path h

pub first_fails : (code : CodeValue) (lengths entries : List ℕ) (place : ℕ) → HasSoundLoops code → AreLengths code 0 lengths → entries ≡ version_entries code → IsFirstLong entries lengths place → FailsFirst code (ShortAt code) place
first_fails code lengths entries place sound are e f =
    let l = looped sound.0 code sound.1 in
    let here : slice_get (version_entries code) f.at ≡ Some place = ap (λ es. slice_get es f.at) (sym e) ∙ f.is in
    record {
      within = (version_entry_in code f.at place l.entries here).1;
      fails = long_at code lengths place f.at sound are here f.long;
      before = λ pc low k at path h.
          let other : slice_get entries k ≡ Some pc = ap (λ es. slice_get es k) e ∙ at in
          let earlier : k < f.at = elim (order k f.at) [ inl g ↦ g | inr g ↦ absurd (let up = version_entries_rise code f.at k place pc l.entries here at g in omega (arith, up, low)) ] in
          short_at code lengths pc k sound are at (f.before k pc earlier other) path h;
    }
