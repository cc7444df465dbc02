-- Which entry a record's bytes spell.
use Rattle.std.proofs.Common.{ℤ, to_z, ◌≡◌, ℕ, ◌+◌, ◌<◌, ◌≤◌, ◌^◌, append_assoc, take-append-drop, List, [], ◌∷◌, ◌++◌, length, get_or, take, drop, refl, sym, ◌∙◌, ap, arith, Bool, true, false}
use Rattle.std.specs.Int.{w32, w64, to_le_bytes, from_le_bytes, cast_unsigned, cast_signed}
use Rattle.cat_program.specs.declared.outs.LogEntry.{LogEntry}
use Rattle.cat_program.specs.declared.outs.LogEntry.TheVariants.{Out, Ran}
use Rattle.std.proofs.Math.Facts.{to_z-of_z, Fits-of_z}
use Rattle.std.specs.Prelude.{◌≢◌, None, FitsSigned, ◌==◌, if◌then◌else◌, slice_index}
use Rattle.std.proofs.lemmas.List.{take-take, drop-take, drop-drop, drop_more}
use Rattle.nv_memory.specs.Bytes.{bytes_at}
use Rattle.std.proofs.lemmas.Nat.{from_le_bytes-to_le_bytes_4, from_le_bytes-to_le_bytes_8}
use Rattle.nv_memory.specs.declared.layout.Layout.{Layout}
use Rattle.nv_log.specs.Record.{record_of, short_record, long_record, number_from, entry_of, EntryFits, IsFound}
use Rattle.cat_program.specs.Checked.{Checked}

-- the numbers of two records that are one
pub record Parts (kind a b c first second third last kind' a' b' c' first' second' third' last' : ℕ) : Type 0 where
  pub kind_is : kind ≡ kind'
  pub a_is : a ≡ a'
  pub b_is : b ≡ b'
  pub c_is : c ≡ c'
  pub first_is : first ≡ first'
  pub second_is : second ≡ second'
  pub third_is : third ≡ third'
  pub last_is : last ≡ last'

same_number : (m n : ℕ) → m < 2 ^ 32 → n < 2 ^ 32 → to_le_bytes w32 m ≡ to_le_bytes w32 n → m ≡ n
same_number m n fit fit' same = sym (from_le_bytes-to_le_bytes_4 m fit) ∙ ap (from_le_bytes w32) same ∙ from_le_bytes-to_le_bytes_4 n fit'

same_wide : (m n : ℕ) → m < 2 ^ 64 → n < 2 ^ 64 → to_le_bytes w64 m ≡ to_le_bytes w64 n → m ≡ n
same_wide m n fit fit' same = sym (from_le_bytes-to_le_bytes_8 m fit) ∙ ap (from_le_bytes w64) same ∙ from_le_bytes-to_le_bytes_8 n fit'

only_zero : (m n : ℕ) → m < 1 → n < 1 → m ≡ n
only_zero m n low low' = omega arith

-- the numbers have the bytes that a record of the format gives them; the first format has none for the last one
pub record Ranges (short : Bool) (first second third last : ℕ) : Type 0 where
  pub first_fits : first < 2 ^ 32
  pub second_fits : second < (if short then 2 ^ 32 else 2 ^ 64)
  pub third_fits : third < 2 ^ 32
  pub last_fits : last < (if short then 1 else 2 ^ 32)

abbrev pub record_by : Bool → ℕ → ℕ → ℕ → ℕ → ℕ → ℕ → ℕ → ℕ → List ℕ
record_by short kind a b c first second third last = if short then short_record kind a b c first second third else long_record kind a b c first second third last

pub parts : (short : Bool) (kind a b c first second third last kind' a' b' c' first' second' third' last' : ℕ) → Ranges short first second third last → Ranges short first' second' third' last'
    → record_by short kind a b c first second third last ≡ record_by short kind' a' b' c' first' second' third' last' → Parts kind a b c first second third last kind' a' b' c' first' second' third' last'
parts true kind a b c first second third last kind' a' b' c' first' second' third' last' r r' same = record {
  kind_is = ap (λ (l : List ℕ). get_or l 0 0) same;
  a_is = ap (λ (l : List ℕ). get_or l 1 0) same;
  b_is = ap (λ (l : List ℕ). get_or l 2 0) same;
  c_is = ap (λ (l : List ℕ). get_or l 3 0) same;
  first_is = same_number first first' r.first_fits r'.first_fits (ap (λ (l : List ℕ). take 4 (drop 4 l)) same);
  second_is = same_number second second' r.second_fits r'.second_fits (ap (λ (l : List ℕ). take 4 (drop 8 l)) same);
  third_is = same_number third third' r.third_fits r'.third_fits (ap (λ (l : List ℕ). take 4 (drop 12 l)) same);
  last_is = only_zero last last' r.last_fits r'.last_fits;
}
parts false kind a b c first second third last kind' a' b' c' first' second' third' last' r r' same = record {
  kind_is = ap (λ (l : List ℕ). get_or l 0 0) same;
  a_is = ap (λ (l : List ℕ). get_or l 1 0) same;
  b_is = ap (λ (l : List ℕ). get_or l 2 0) same;
  c_is = ap (λ (l : List ℕ). get_or l 3 0) same;
  first_is = same_number first first' r.first_fits r'.first_fits (ap (λ (l : List ℕ). take 4 (drop 4 l)) same);
  second_is = same_wide second second' r.second_fits r'.second_fits (ap (λ (l : List ℕ). take 8 (drop 8 l)) same);
  third_is = same_number third third' r.third_fits r'.third_fits (ap (λ (l : List ℕ). take 4 (drop 16 l)) same);
  last_is = same_number last last' r.last_fits r'.last_fits (ap (λ (l : List ℕ). take 4 (drop 20 l)) same);
}

-- a range in two parts
split : (image : List ℕ) (p n m : ℕ) → bytes_at p (n + m) image ≡ bytes_at p n image ++ bytes_at (p + n) m image
split image p n m =
    sym (take-append-drop n (take (n + m) (drop p image)))
    ∙ ap (λ (l : List ℕ). l ++ drop n (take (n + m) (drop p image))) (take-take n (n + m) (drop p image) (omega arith))
    ∙ ap (λ (l : List ℕ). bytes_at p n image ++ l) (drop-take n m (drop p image) ∙ ap (λ (l : List ℕ). take m l) (drop-drop n p image))

behind : (image : List ℕ) (p n m q : ℕ) → p + n ≡ q → bytes_at p (n + m) image ≡ bytes_at p n image ++ bytes_at q m image
behind image p n m q is = split image p n m ∙ ap (λ (k : ℕ). bytes_at p n image ++ bytes_at k m image) is

four : (image : List ℕ) (p : ℕ) → p + 4 ≤ length image → bytes_at p 4 image ≡ get_or image p 0 ∷ get_or image (p + 1) 0 ∷ get_or image (p + 2) 0 ∷ get_or image (p + 3) 0 ∷ []
four image p within =
    let d0 = drop_more image p 0 (omega arith) in
    let d1 = drop_more image (p + 1) 0 (omega arith) in
    let d2 = drop_more image (p + 2) 0 (omega arith) in
    let d3 = drop_more image (p + 3) 0 (omega arith) in
    let e1 : p + 1 + 1 ≡ p + 2 = omega arith in
    let e2 : p + 2 + 1 ≡ p + 3 = omega arith in
    let all : drop p image ≡ get_or image p 0 ∷ get_or image (p + 1) 0 ∷ get_or image (p + 2) 0 ∷ get_or image (p + 3) 0 ∷ drop (p + 3 + 1) image =
    d0 ∙ ap (λ (l : List ℕ). get_or image p 0 ∷ l) (d1 ∙ ap (λ (l : List ℕ). get_or image (p + 1) 0 ∷ l) (ap (λ (k : ℕ). drop k image) e1 ∙ d2 ∙ ap (λ (l : List ℕ). get_or image (p + 2) 0 ∷ l) (ap (λ (k : ℕ). drop k image) e2 ∙ d3))) in
    ap (λ (l : List ℕ). take 4 l) all

-- the bytes of a record in format 1, by its parts
pub short_parts : (image : List ℕ) (p k a b c first second third : ℕ) → p + 16 ≤ length image
    → k ≡ get_or image p 0 → a ≡ get_or image (p + 1) 0 → b ≡ get_or image (p + 2) 0 → c ≡ get_or image (p + 3) 0
    → to_le_bytes w32 first ≡ bytes_at (p + 4) 4 image → to_le_bytes w32 second ≡ bytes_at (p + 8) 4 image → to_le_bytes w32 third ≡ bytes_at (p + 12) 4 image
    → short_record k a b c first second third ≡ bytes_at p 16 image
short_parts image p k a b c first second third within k_is a_is b_is c_is first_is second_is third_is =
    let head : (k ∷ a ∷ b ∷ c ∷ []) ≡ bytes_at p 4 image = (λ i. k_is i ∷ a_is i ∷ b_is i ∷ c_is i ∷ []) ∙ sym (four image p (omega arith)) in
    let last : bytes_at (p + 8) 8 image ≡ bytes_at (p + 8) 4 image ++ bytes_at (p + 12) 4 image = behind image (p + 8) 4 4 (p + 12) (omega arith) in
    let rest : bytes_at (p + 4) 12 image ≡ bytes_at (p + 4) 4 image ++ (bytes_at (p + 8) 4 image ++ bytes_at (p + 12) 4 image) =
    behind image (p + 4) 4 8 (p + 8) (omega arith) ∙ ap (λ (l : List ℕ). bytes_at (p + 4) 4 image ++ l) last in
    (λ i. head i ++ first_is i ++ second_is i ++ third_is i)
    ∙ append_assoc (bytes_at p 4 image ++ bytes_at (p + 4) 4 image) (bytes_at (p + 8) 4 image) (bytes_at (p + 12) 4 image)
    ∙ append_assoc (bytes_at p 4 image) (bytes_at (p + 4) 4 image) (bytes_at (p + 8) 4 image ++ bytes_at (p + 12) 4 image)
    ∙ ap (λ (l : List ℕ). bytes_at p 4 image ++ l) (sym rest)
    ∙ sym (split image p 4 12)

-- and in format 2
pub long_parts : (image : List ℕ) (p k a b c first second third last : ℕ) → p + 24 ≤ length image
    → k ≡ get_or image p 0 → a ≡ get_or image (p + 1) 0 → b ≡ get_or image (p + 2) 0 → c ≡ get_or image (p + 3) 0
    → to_le_bytes w32 first ≡ bytes_at (p + 4) 4 image → to_le_bytes w64 second ≡ bytes_at (p + 8) 8 image → to_le_bytes w32 third ≡ bytes_at (p + 16) 4 image
    → to_le_bytes w32 last ≡ bytes_at (p + 20) 4 image → long_record k a b c first second third last ≡ bytes_at p 24 image
long_parts image p k a b c first second third last within k_is a_is b_is c_is first_is second_is third_is last_is =
    let head : (k ∷ a ∷ b ∷ c ∷ []) ≡ bytes_at p 4 image = (λ i. k_is i ∷ a_is i ∷ b_is i ∷ c_is i ∷ []) ∙ sym (four image p (omega arith)) in
    let x1 = bytes_at (p + 4) 4 image in
    let x2 = bytes_at (p + 8) 8 image in
    let x3 = bytes_at (p + 16) 4 image in
    let x4 = bytes_at (p + 20) 4 image in
    let two : bytes_at (p + 16) 8 image ≡ x3 ++ x4 = behind image (p + 16) 4 4 (p + 20) (omega arith) in
    let three : bytes_at (p + 8) 16 image ≡ x2 ++ (x3 ++ x4) = behind image (p + 8) 8 8 (p + 16) (omega arith) ∙ ap (λ (l : List ℕ). x2 ++ l) two in
    let rest : bytes_at (p + 4) 20 image ≡ x1 ++ (x2 ++ (x3 ++ x4)) = behind image (p + 4) 4 16 (p + 8) (omega arith) ∙ ap (λ (l : List ℕ). x1 ++ l) three in
    (λ i. head i ++ first_is i ++ second_is i ++ third_is i ++ last_is i)
    ∙ append_assoc (bytes_at p 4 image ++ x1 ++ x2) x3 x4
    ∙ append_assoc (bytes_at p 4 image ++ x1) x2 (x3 ++ x4)
    ∙ append_assoc (bytes_at p 4 image) x1 (x2 ++ (x3 ++ x4))
    ∙ ap (λ (l : List ℕ). bytes_at p 4 image ++ l) (sym rest)
    ∙ sym (split image p 4 20)

small : (z : ℤ) → FitsSigned w32 z → cast_unsigned w32 z < 2 ^ 32
small z fit = (Fits-of_z fit).fits

same_value : (x y : ℤ) → FitsSigned w32 x → FitsSigned w32 y → cast_unsigned w32 x ≡ cast_unsigned w32 y → x ≡ y
same_value x y fit fit' same = sym (to_z-of_z fit) ∙ ap (to_z w32) same ∙ to_z-of_z fit'

apart : {P : Type 0} (m n : ℕ) → m ≡ n → (m ≡ n → ⊥) → P
apart m n same differ = absurd (differ same)

-- ---- entries

abbrev most_by : Bool → ℕ
most_by short = if short then 4294967295 else 4000000

out_ranges : (short : Bool) (value : ℤ) → FitsSigned w32 value → Ranges short (cast_unsigned w32 value) 0 0 0
out_ranges true value fit = record { first_fits = small value fit; second_fits = omega arith; third_fits = omega arith; last_fits = omega arith }
out_ranges false value fit = record { first_fits = small value fit; second_fits = omega arith; third_fits = omega arith; last_fits = omega arith }

ran_ranges : (short : Bool) (steps start index : ℕ) → steps < 2 ^ 32 → start ≤ most_by short → index < 2 ^ 32 → Ranges short steps start index 0
ran_ranges true steps start index first second third = record { first_fits = first; second_fits = omega arith; third_fits = third; last_fits = omega arith }
ran_ranges false steps start index first second third = record { first_fits = first; second_fits = omega arith; third_fits = third; last_fits = omega arith }

-- no two entries have one spelling
pub record_of_once : (l : Layout) (e e' : LogEntry) → EntryFits l e → EntryFits l e' → record_of l e ≡ record_of l e' → e ≡ e'
record_of_once l (Out channel value) (Out channel' value') fit fit' same =
    let p = parts (l.format == 1) 1 channel 0 0 (cast_unsigned w32 value) 0 0 0 1 channel' 0 0 (cast_unsigned w32 value') 0 0 0 (out_ranges (l.format == 1) value fit) (out_ranges (l.format == 1) value' fit') same in
    let value_is = same_value value value' fit fit' p.first_is in
    λ i. Out (p.a_is i) (value_is i)
record_of_once l (Out channel value) (Ran event version steps start index) fit fit' same =
    let p = parts (l.format == 1) 1 channel 0 0 (cast_unsigned w32 value) 0 0 0 2 event version 0 steps start index 0 (out_ranges (l.format == 1) value fit) (ran_ranges (l.format == 1) steps start index fit'.0 fit'.1 fit'.2) same in
    apart 1 2 p.kind_is (λ wrong. omega arith)
record_of_once l (Ran event version steps start index) (Out channel value) fit fit' same =
    let p = parts (l.format == 1) 2 event version 0 steps start index 0 1 channel 0 0 (cast_unsigned w32 value) 0 0 0 (ran_ranges (l.format == 1) steps start index fit.0 fit.1 fit.2) (out_ranges (l.format == 1) value fit') same in
    apart 2 1 p.kind_is (λ wrong. omega arith)
record_of_once l (Ran event version steps start index) (Ran event' version' steps' start' index') fit fit' same =
    let p = parts (l.format == 1) 2 event version 0 steps start index 0 2 event' version' 0 steps' start' index' 0 (ran_ranges (l.format == 1) steps start index fit.0 fit.1 fit.2)
    (ran_ranges (l.format == 1) steps' start' index' fit'.0 fit'.1 fit'.2) same in
    λ i. Ran (p.a_is i) (p.b_is i) (p.first_is i) (p.second_is i) (p.third_is i)

abbrev entry_by : Bool → List ℕ → LogEntry
entry_by short bytes =
    if slice_index bytes 0 == 1
    then Out (slice_index bytes 1) (cast_signed w32 (number_from 4 bytes))
    else Ran (slice_index bytes 1) (slice_index bytes 2) (number_from 4 bytes) (if short then number_from 8 bytes else from_le_bytes w64 (bytes_at 8 8 bytes)) (number_from (if short then 12 else 16) bytes)

out_again : (short : Bool) (channel : ℕ) (value : ℤ) → FitsSigned w32 value → entry_by short (record_by short 1 channel 0 0 (cast_unsigned w32 value) 0 0 0) ≡ Out channel value
out_again true channel value fit =
    ap (λ (n : ℕ). Out channel (to_z w32 n)) (from_le_bytes-to_le_bytes_4 (cast_unsigned w32 value) (small value fit)) ∙ ap (λ (z : ℤ). Out channel z) (to_z-of_z fit)
out_again false channel value fit =
    ap (λ (n : ℕ). Out channel (to_z w32 n)) (from_le_bytes-to_le_bytes_4 (cast_unsigned w32 value) (small value fit)) ∙ ap (λ (z : ℤ). Out channel z) (to_z-of_z fit)

ran_again : (short : Bool) (event version steps start index : ℕ) → steps < 2 ^ 32 → start ≤ most_by short → index < 2 ^ 32
    → entry_by short (record_by short 2 event version 0 steps start index 0) ≡ Ran event version steps start index
ran_again true event version steps start index fit low few =
    let first = from_le_bytes-to_le_bytes_4 steps fit in
    let second = from_le_bytes-to_le_bytes_4 start (omega arith) in
    let third = from_le_bytes-to_le_bytes_4 index few in
    λ i. Ran event version (first i) (second i) (third i)
ran_again false event version steps start index fit low few =
    let first = from_le_bytes-to_le_bytes_4 steps fit in
    let second = from_le_bytes-to_le_bytes_8 start (omega arith) in
    let third = from_le_bytes-to_le_bytes_4 index few in
    λ i. Ran event version (first i) (second i) (third i)

-- an entry is what its spelling stands for
pub read_again : (l : Layout) (e : LogEntry) → EntryFits l e → entry_of l (record_of l e) ≡ e
read_again l (Out channel value) fit = out_again (l.format == 1) channel value fit
read_again l (Ran event version steps start index) fit = ran_again (l.format == 1) event version steps start index fit.0 fit.1 fit.2

-- ---- a record with a last number

pub ranges_of : (short : Bool) (first second third last : ℕ) → first < 2 ^ 32 → second < 2 ^ 64 → third < 2 ^ 32 → last < 2 ^ 32
    → (short ≡ true → (second < 2 ^ 32) × (last ≡ 0)) → Ranges short first second third last
ranges_of true first second third last low wide few least narrow =
    let last_is = (narrow refl).1 in
    record { first_fits = low; second_fits = (narrow refl).0; third_fits = few; last_fits = omega (arith, last_is) }
ranges_of false first second third last low wide few least narrow = record { first_fits = low; second_fits = wide; third_fits = few; last_fits = least }

last_is_zero : (l : Layout) (entry : LogEntry) (kind a b c first second third last : ℕ) → Ranges (l.format == 1) first second third last → EntryFits l entry
    → record_by (l.format == 1) kind a b c first second third last ≡ record_of l entry → last ≡ 0
last_is_zero l (Out channel value) kind a b c first second third last r fit same =
    (parts (l.format == 1) kind a b c first second third last 1 channel 0 0 (cast_unsigned w32 value) 0 0 0 r (out_ranges (l.format == 1) value fit) same).last_is
last_is_zero l (Ran event version steps start index) kind a b c first second third last r fit same =
    (parts (l.format == 1) kind a b c first second third last 2 event version 0 steps start index 0 r (ran_ranges (l.format == 1) steps start index fit.0 fit.1 fit.2) same).last_is

-- no entry is spelled with a last number
pub none_with_last : (l : Layout) (program : Checked) (kind a b c first second third last : ℕ) → Ranges (l.format == 1) first second third last → last ≢ 0
    → IsFound l program (record_by (l.format == 1) kind a b c first second third last) None
none_with_last l program kind a b c first second third last r some = record {
  spelled = tt;
  only = λ entry is. absurd (some (last_is_zero l entry kind a b c first second third last r is.fits is.bytes_are));
}

late_by : (short : Bool) (start : ℕ) → short ≡ false → start ≤ most_by short → start ≤ 4000000
late_by true start is low = cc
late_by false start is low = low

-- what a record of the first format spells is spelled in the second one by the same numbers
pub moved : (old new : Layout) (entry : LogEntry) (kind a b c first second third : ℕ) → (old.format == 1) ≡ true → (new.format == 1) ≡ false
    → first < 2 ^ 32 → second < 2 ^ 32 → third < 2 ^ 32 → EntryFits new entry
    → short_record kind a b c first second third ≡ record_of old entry → long_record kind a b c first second third 0 ≡ record_of new entry
moved old new (Out channel value) kind a b c first second third from to low low' low'' fits is =
    let short = is ∙ ap (λ (short : Bool). record_by short 1 channel 0 0 (cast_unsigned w32 value) 0 0 0) from in
    let ranges : Ranges true first second third 0 = record { first_fits = low; second_fits = low'; third_fits = low''; last_fits = omega arith } in
    let p = parts true kind a b c first second third 0 1 channel 0 0 (cast_unsigned w32 value) 0 0 0 ranges (out_ranges true value fits) short in
    (λ i. long_record (p.kind_is i) (p.a_is i) (p.b_is i) (p.c_is i) (p.first_is i) (p.second_is i) (p.third_is i) 0)
    ∙ sym (ap (λ (short : Bool). record_by short 1 channel 0 0 (cast_unsigned w32 value) 0 0 0) to)
moved old new (Ran event version steps start index) kind a b c first second third from to low low' low'' fits is =
    let short = is ∙ ap (λ (short : Bool). record_by short 2 event version 0 steps start index 0) from in
    let ranges : Ranges true first second third 0 = record { first_fits = low; second_fits = low'; third_fits = low''; last_fits = omega arith } in
    let early : start ≤ 4000000 = late_by (new.format == 1) start to fits.1 in
    let p = parts true kind a b c first second third 0 2 event version 0 steps start index 0 ranges (ran_ranges true steps start index fits.0 (omega (arith, early)) fits.2) short in
    (λ i. long_record (p.kind_is i) (p.a_is i) (p.b_is i) (p.c_is i) (p.first_is i) (p.second_is i) (p.third_is i) 0)
    ∙ sym (ap (λ (short : Bool). record_by short 2 event version 0 steps start index 0) to)
