-- Each write of a commit leaves the old slot or the new one.
use Rattle.std.proofs.Common.{◌≡◌, ◌⊎◌, inl, inr, ℕ, zero, suc, ◌+◌, ◌-◌, ◌*◌, ◌%◌, ◌<◌, ◌≤◌, Bool, true, false, not, cond, List, [], ◌∷◌, ◌++◌, map, length, get_or, take, drop, refl, sym, ◌∙◌, ap, subst, arith, take-append-drop}
use Rattle.std.specs.List.{filter, range_with_len}
use Rattle.std.proofs.lemmas.List.{take-take, drop-take, drop-drop}
use Rattle.std.proofs.lemmas.Bool.{cases_eq, cases_lt}
use Rattle.nv_memory.specs.declared.layout.Layout.{Layout}
use Rattle.nv_memory.specs.declared.entry.Op.TheVariants.{Write}
use Rattle.nv_memory.specs.Layout.{lines_of, slot_at, log_at, size_of}
use Rattle.nv_memory.specs.Bytes.{written, bytes_at}
use Rattle.nv_memory.specs.Laws.{WritesAreLocal, PartsAreApart}
use Rattle.checkpoint_slots.specs.declared.slot.Slot.{Slot}
use Rattle.checkpoint_slots.specs.Numbers.{spelled}
use Rattle.checkpoint_slots.specs.Slot.{number_of, line_of, spelling}
use Rattle.checkpoint_slots.specs.Image.{committed_bytes, log_bytes, ChangesWithin}
use Rattle.checkpoint_slots.specs.Commit.{same_bytes, differs, differing, or_first, line_write, line_writes, other_of, other_at, commit_lines, gate_write, commit_writes}
use Rattle.checkpoint_slots.specs.Writes.{IsAmong, IsUnderWay, CommitsAreSafe}
use Rattle.checkpoint_slots.proofs.SpelledLemmas.{spelled_none}
use Rattle.checkpoint_slots.proofs.CommitLemmas.{same_bytes_true}
use Rattle.checkpoint_slots.proofs.Upto.{length-line, lines_more, changes_none, changes_both, changes_written}
use Rattle.checkpoint_slots.proofs.Gate.{first_same, one_byte, stands_for_same, gate_log_same, gate_any, gate_done}

-- a filter keeps what passes, and nothing else
filtered : (test : ℕ → Bool) (i : ℕ) (xs : List ℕ) → IsAmong i xs → test i ≡ true → IsAmong i (filter test xs)
filtered test i [] among passes = among
filtered test i (x ∷ xs) (inl same) passes = first (test x) (ap test (sym same) ∙ passes)
  where
    first : (b : Bool) → b ≡ true → IsAmong i (cond b (x ∷ filter test xs) (filter test xs))
    first true is = inl same
    first false is = absurd (cc)
filtered test i (x ∷ xs) (inr among) passes = later (test x) (filtered test i xs among passes)
  where
    later : (b : Bool) → IsAmong i (filter test xs) → IsAmong i (cond b (x ∷ filter test xs) (filter test xs))
    later true rest = inr rest
    later false rest = rest

unfiltered : (test : ℕ → Bool) (i : ℕ) (xs : List ℕ) → IsAmong i (filter test xs) → IsAmong i xs
unfiltered test i [] among = among
unfiltered test i (x ∷ xs) among = cases (test x) among (unfiltered test i xs)
  where
    cases : (b : Bool) → IsAmong i (cond b (x ∷ filter test xs) (filter test xs)) → (IsAmong i (filter test xs) → IsAmong i xs) → IsAmong i (x ∷ xs)
    cases true (inl same) goes = inl same
    cases true (inr rest) goes = inr (goes rest)
    cases false rest goes = inr (goes rest)

in_range : (a n i : ℕ) → a ≤ i → i < a + n → IsAmong i (range_with_len a n)
in_range a zero i low high = absurd (omega arith)
in_range a (suc n) i low high = elim (cases_eq i a) [
  | inl same ↦ inl same
  | inr differ ↦ inr (in_range (a + 1) n i (omega arith) (omega arith))
]

of_range : (a n i : ℕ) → IsAmong i (range_with_len a n) → i < a + n
of_range a zero i among = absurd among
of_range a (suc n) i (inl same) = omega arith
of_range a (suc n) i (inr rest) = let below = of_range (a + 1) n i rest in omega arith

in_or_first : (i : ℕ) (xs : List ℕ) → IsAmong i xs → IsAmong i (or_first xs)
in_or_first i [] among = absurd among
in_or_first i (x ∷ xs) among = among

of_or_first : (i n : ℕ) (xs : List ℕ) → 1 ≤ n → (IsAmong i xs → i < n) → IsAmong i (or_first xs) → i < n
of_or_first i n [] some below (inl same) = omega arith
of_or_first i n [] some below (inr none) = absurd none
of_or_first i n (x ∷ xs) some below among = below among

-- a line that is not among those that differ stands
decided : (s : Slot) (at : ℕ) (image : List ℕ) (i : ℕ) → (b : Bool) → same_bytes (bytes_at (at + 64 * i) 64 image) (line_of s i) ≡ b → (differs s at image i ≡ true) ⊎ (bytes_at (at + 64 * i) 64 image ≡ line_of s i)
decided s at image i true is = inr (same_bytes_true (bytes_at (at + 64 * i) 64 image) (line_of s i) is)
decided s at image i false is = inl (ap not is)

module _ (writes : WritesAreLocal) (parts : (l : Layout) → PartsAreApart l) where
  begins : (l : Layout) (s : Slot) (start : List ℕ) → IsUnderWay l s start (commit_lines l s start) start
  begins l s start =
      let at = other_at l start in
      let test = differs s at start in
      record {
        elsewhere = changes_none at (64 * lines_of l) start;
        lines_left = λ i among. of_or_first i (lines_of l) (differing s at start (lines_of l)) (parts l).some_lines (λ some. let below = of_range 0 (lines_of l) i (unfiltered test i (range_with_len 0 (lines_of l)) some) in omega arith) among;
        others_stand = λ i below. elim (decided s at start i (same_bytes (bytes_at (at + 64 * i) 64 start) (line_of s i)) refl) [
          | inl differ ↦ inl (in_or_first i (differing s at start (lines_of l)) (filtered test i (range_with_len 0 (lines_of l)) (in_range 0 (lines_of l) i (omega arith) (omega arith)) differ))
          | inr stands ↦ inr stands
        ];
      }

  module _ (l : Layout) (s : Slot) (start : List ℕ) (within : size_of l ≤ length start) where
    abbrev at : ℕ
    at = other_at l start

    ends : at + 64 * lines_of l ≤ length start
    ends = omega (arith, (parts l).log (other_of start) (omega arith), (parts l).fits)

    -- a write of line i, whatever it leaves there
    any_line : (i : ℕ) (left image bytes : List ℕ) → IsUnderWay l s start (i ∷ left) image → length bytes ≡ 64 → ChangesWithin at (64 * lines_of l) start (written (at + 64 * i) bytes image)
    any_line i left image bytes way long =
        let below : i < lines_of l = way.lines_left i (inl refl) in
        changes_both at (64 * lines_of l) start image (written (at + 64 * i) bytes image) way.elsewhere
        (changes_written writes at (64 * lines_of l) (at + 64 * i) bytes image (omega arith) (omega arith) (omega (arith, way.elsewhere.size, ends)))

    -- the other lines stay
    line_stays : (i j : ℕ) (left image bytes : List ℕ) → IsUnderWay l s start (i ∷ left) image → length bytes ≡ 64 → j < lines_of l → (j ≡ i → ⊥) → bytes_at (at + 64 * j) 64 (written (at + 64 * i) bytes image) ≡ bytes_at (at + 64 * j) 64 image
    line_stays i j left image bytes way long below differ =
        let here : i < lines_of l = way.lines_left i (inl refl) in
        elim (cases_lt j i) [
          | inl early ↦ writes.before (at + 64 * j) 64 (at + 64 * i) bytes image (omega arith) (omega (arith, way.elsewhere.size, ends))
          | inr late ↦ writes.behind (at + 64 * j) 64 (at + 64 * i) bytes image (omega arith) (omega (arith, way.elsewhere.size, ends))
        ]

    torn_line : (i : ℕ) (left image bytes : List ℕ) → IsUnderWay l s start (i ∷ left) image → length bytes ≡ length (line_of s i) → IsUnderWay l s start (i ∷ left) (written (at + 64 * i) bytes image)
    torn_line i left image bytes way same =
        let long : length bytes ≡ 64 = same ∙ length-line s i in
        record {
          elsewhere = any_line i left image bytes way long;
          lines_left = way.lines_left;
          others_stand = λ j below. elim (cases_eq j i) [
            | inl is ↦ inl (inl is)
            | inr differ ↦ elim (way.others_stand j below) [
              | inl among ↦ inl among
              | inr stands ↦ inr (line_stays i j left image bytes way long below differ ∙ stands)
            ]
          ];
        }

    done_line : (i : ℕ) (left image : List ℕ) → IsUnderWay l s start (i ∷ left) image → IsUnderWay l s start left (written (at + 64 * i) (line_of s i) image)
    done_line i left image way =
        let long : length (line_of s i) ≡ 64 = length-line s i in
        let here : i < lines_of l = way.lines_left i (inl refl) in
        let stands : bytes_at (at + 64 * i) 64 (written (at + 64 * i) (line_of s i) image) ≡ line_of s i =
        ap (λ (n : ℕ). bytes_at (at + 64 * i) n (written (at + 64 * i) (line_of s i) image)) (sym long) ∙ writes.own (at + 64 * i) (line_of s i) image (omega (arith, way.elsewhere.size, ends)) in
        record {
          elsewhere = any_line i left image (line_of s i) way long;
          lines_left = λ j among. way.lines_left j (inr among);
          others_stand = λ j below. elim (cases_eq j i) [
            | inl is ↦ inr (subst (λ (k : ℕ). bytes_at (at + 64 * k) 64 (written (at + 64 * i) (line_of s i) image) ≡ line_of s k) (sym is) stands)
            | inr differ ↦ elim (way.others_stand j below) [
              | inl (inl is) ↦ absurd (differ is)
              | inl (inr among) ↦ inl among
              | inr there ↦ inr (line_stays i j left image (line_of s i) way long below differ ∙ there)
            ]
          ];
        }

    split : (image : List ℕ) (p n m : ℕ) → bytes_at p (n + m) image ≡ bytes_at p n image ++ bytes_at (p + n) m image
    split image p n m =
        sym (take-append-drop n (take (n + m) (drop p image)))
        ∙ ap (λ (l : List ℕ). l ++ drop n (take (n + m) (drop p image))) (take-take n (n + m) (drop p image) (omega arith))
        ∙ ap (λ (l : List ℕ). bytes_at p n image ++ l) (drop-take n m (drop p image) ∙ ap (λ (l : List ℕ). take m l) (drop-drop n p image))

    -- where every line stands, the slot does
    lines_stand : (n : ℕ) (image : List ℕ) → n ≤ lines_of l → IsUnderWay l s start [] image → bytes_at at (64 * n) image ≡ spelled (number_of s) 0 (16 * n)
    lines_stand zero image low way = sym (spelled_none (number_of s) 0)
    lines_stand (suc n) image low way =
        let bytes : 64 * suc n ≡ 64 * n + 64 = omega arith in
        let lines : n + 1 ≡ suc n = omega arith in
        let here : bytes_at (at + 64 * n) 64 image ≡ line_of s n = elim (way.others_stand n (omega arith)) [
          | inl none ↦ absurd none
          | inr stands ↦ stands
        ] in
        ap (λ (k : ℕ). bytes_at at k image) bytes ∙ split image at (64 * n) 64
        ∙ ap (λ (b : List ℕ). b ++ bytes_at (at + 64 * n) 64 image) (lines_stand n image (omega arith) way)
        ∙ ap (λ (b : List ℕ). spelled (number_of s) 0 (16 * n) ++ b) here
        ∙ sym (lines_more s n) ∙ ap (λ (k : ℕ). spelled (number_of s) 0 (16 * k)) lines

    within_now : (image : List ℕ) → IsUnderWay l s start [] image → size_of l ≤ length image
    within_now image way = omega (arith, way.elsewhere.size)

    torn_gate : (image bytes : List ℕ) → IsUnderWay l s start [] image → length bytes ≡ 1 →
        (log_bytes l (written 0 bytes image) ≡ log_bytes l start) × ((committed_bytes l (written 0 bytes image) ≡ committed_bytes l start) ⊎ (committed_bytes l (written 0 bytes image) ≡ spelling l s))
    torn_gate image bytes way one =
        subst (λ (b : List ℕ). (log_bytes l (written 0 b image) ≡ log_bytes l start) × ((committed_bytes l (written 0 b image) ≡ committed_bytes l start) ⊎ (committed_bytes l (written 0 b image) ≡ spelling l s))) (sym (one_byte bytes one)) (
          gate_log_same writes parts l s start image (within_now image way) way.elsewhere (lines_stand (lines_of l) image (omega arith) way) (get_or bytes 0 0),
          gate_any writes parts l s start image (within_now image way) way.elsewhere (lines_stand (lines_of l) image (omega arith) way) (get_or bytes 0 0),
        )

    done_gate : (image : List ℕ) → IsUnderWay l s start [] image → committed_bytes l (written 0 (other_of start ∷ []) image) ≡ spelling l s
    done_gate image way = gate_done writes parts l s start image (within_now image way) way.elsewhere (lines_stand (lines_of l) image (omega arith) way)

  module _ (l : Layout) (s : Slot) (xs ys : List ℕ) (same : take (log_at l) xs ≡ take (log_at l) ys) where
    log_first : 1 ≤ log_at l
    log_first = omega (arith, (parts l).gate 0, (parts l).log 0 (omega arith))

    other_same : other_of xs ≡ other_of ys
    other_same = ap (λ (g : ℕ). 1 - g % 2) (first_same (log_at l) xs ys (omega (arith, log_first)) same)

    filter_same : (at a n : ℕ) → at + 64 * (a + n) ≤ log_at l → filter (differs s at xs) (range_with_len a n) ≡ filter (differs s at ys) (range_with_len a n)
    filter_same at a zero within = refl
    filter_same at a (suc n) within =
        let range = writes.range (at + 64 * a) 64 (log_at l) xs ys (omega arith) same in
        let one : differs s at xs a ≡ differs s at ys a = ap (λ (b : List ℕ). not (same_bytes b (line_of s a))) range in
        let rest = filter_same at (a + 1) n (omega arith) in
        λ i. cond (one i) (a ∷ rest i) (rest i)

    commit_same : commit_writes l s xs ≡ commit_writes l s ys
    commit_same =
        let other = other_of ys in
        let ends = (parts l).log other (omega arith) in
        ap (λ (o : ℕ). line_writes s (slot_at l o) xs (lines_of l) ++ Write 0 (o ∷ []) ∷ []) other_same
        ∙ ap (λ (is : List ℕ). map (line_write s (slot_at l other)) (or_first is) ++ gate_write ys ∷ []) (filter_same (slot_at l other) 0 (lines_of l) (omega (arith, ends)))

  pub commits_are_safe : CommitsAreSafe
  commits_are_safe = record {
    begins = begins;
    stands = λ l s start left image way. stands_for_same writes parts l start image way.elsewhere;
    torn_line = λ l s start i left image bytes within way same. torn_line l s start within i left image bytes way same;
    done_line = λ l s start i left image within way. done_line l s start within i left image way;
    torn_gate = λ l s start image bytes within way one. torn_gate l s start within image bytes way one;
    done_gate = λ l s start image within way. done_gate l s start within image way;
    by_front = commit_same;
  }
