-- What is read has room, where each byte is one.
use Rattle.std.proofs.Common.{◌≡◌, ℕ, zero, suc, ◌+◌, ◌*◌, ◌%◌, ◌^◌, ◌<◌, List, [], ◌∷◌, length, get_or, drop, refl, sym, ◌∙◌, ap, subst, Bool, true, false, arith, inl, inr}
use Rattle.std.specs.Prelude.{FitsSigned, min, slice_index, nat_lt, ◌==◌, if◌then◌else◌}
use Rattle.std.specs.Prelude.{Vec}
use Rattle.std.specs.Global.{Global}
use Rattle.cat_machine.specs.CodeValue.{entries_of}
use Rattle.std.specs.List.{All}
use Rattle.std.specs.Int.{w32}
use Rattle.std.proofs.lemmas.Bool.{cases_lt}
use Rattle.std.proofs.lemmas.List.{get_or-drop, get_or_default}
use mir.ValLaws as laws
use Rattle.cat_machine.specs.declared.instr.Instr.{Instr}
use Rattle.cn_object.specs.declared.parts.Parts.{Parts}
use Rattle.cn_object.specs.Spelling.{IsPlace, HasRoom, IsInRange, PartsFit, cut, names_word, parts}
use Rattle.cn_object.specs.Reading.{short_of, number_of, read_numbers, read_words, read_started, after_event, read_versions, after_versions, first_in, other_in, parts_in, instr_in, read_instrs, read_parts, words_in, tasks_in, events_in, count_in, after_words, after_tasks, after_events, after_head, read_object, AreBytes}

pub bytes_after : (n : ℕ) (bytes : List ℕ) → AreBytes bytes → AreBytes (drop n bytes)
bytes_after n bytes h = record { each = λ k. let e = get_or-drop n bytes k 0 in omega (arith, h.each (n + k), e) }

number_small : (bytes : List ℕ) → AreBytes bytes → number_of bytes < 2 ^ 32
number_small bytes h = omega (arith, h.each 0, h.each 1, h.each 2, h.each 3)

short_small : (bytes : List ℕ) → AreBytes bytes → short_of bytes < 2 ^ 16
short_small bytes h = omega (arith, h.each 0, h.each 1)

pub all_none : {X : Type 0} (P : X → Type 0) → All P []
all_none P k d h = absurd (omega (arith, h))

pub all_more : {X : Type 0} (P : X → Type 0) (x : X) (xs : List X) → P x → All P xs → All P (x ∷ xs)
all_more P x xs p h zero d l = p
all_more P x xs p h (suc k) d l = h k d (omega (arith, l))

-- what holds of the first n items, and of the one behind them
pub all_upto : {X : Type 0} (P : X → Type 0) (xs : List X) (n : ℕ) (x : X) → n < length xs → get_or xs n x ≡ x → P x → ((k : ℕ) (d : X) → k < n → P (get_or xs k d)) → (k : ℕ) (d : X) → k < n + 1 → P (get_or xs k d)
all_upto P xs n x within is holds before k d less =
    elim (cases_lt k n) [
      | inl lt ↦ before k d lt
      | inr le ↦ let same : k ≡ n = omega (arith, less, le) in subst P (sym (ap (λ j. get_or xs j d) same ∙ get_or_default xs n d x within ∙ is)) holds
    ]

numbers_in : (step n : ℕ) (bytes : List ℕ) → AreBytes bytes → All IsPlace (read_numbers step n bytes)
numbers_in step zero bytes h = all_none IsPlace
numbers_in step (suc n) bytes h = all_more IsPlace _ _ (number_small bytes h) (numbers_in step n (drop step bytes) (bytes_after step bytes h))

words_in_range : (n : ℕ) (bytes : List ℕ) → AreBytes bytes → All (FitsSigned w32) (read_words n bytes)
words_in_range zero bytes h = all_none (FitsSigned w32)
words_in_range (suc n) bytes h = all_more (FitsSigned w32) _ _ (laws.to_z-Fits w32 (number_of bytes) (record { fits = number_small bytes h })) (words_in_range n (drop 4 bytes) (bytes_after 4 bytes h))

started_in_range : (n : ℕ) (bytes : List ℕ) → AreBytes bytes → All (λ n. n < 2 ^ 16) (read_started n bytes)
started_in_range zero bytes h = all_none (λ n. n < 2 ^ 16)
started_in_range (suc n) bytes h = all_more (λ n. n < 2 ^ 16) _ _ (short_small bytes h) (started_in_range n (drop 8 bytes) (bytes_after 8 bytes h))

versions_in_range : (n : ℕ) (bytes : List ℕ) → AreBytes bytes → All (All IsPlace) (read_versions n bytes)
versions_in_range zero bytes h = all_none (All IsPlace)
versions_in_range (suc n) bytes h =
    all_more (All IsPlace) _ _ (numbers_in 4 (slice_index bytes 0) (drop 4 bytes) (bytes_after 4 bytes h)) (versions_in_range n (after_event bytes) (bytes_after (4 + 4 * slice_index bytes 0) bytes h))

bytes_after_versions : (n : ℕ) (bytes : List ℕ) → AreBytes bytes → AreBytes (after_versions n bytes)
bytes_after_versions zero bytes h = h
bytes_after_versions (suc n) bytes h = bytes_after_versions n (after_event bytes) (bytes_after (4 + 4 * slice_index bytes 0) bytes h)

either : (b : Bool) (x y : Instr) → HasRoom x → HasRoom y → HasRoom (if b then x else y)
either true x y p q = p
either false x y p q = q

record ArePartsSmall (p : Parts) : Type 0 where
  a : p.a < 2 ^ 8
  b : p.b < 2 ^ 16
  c : p.c < 2 ^ 32

low_small : (c : ℕ) → c % 2 ^ 16 < 2 ^ 16
low_small c = omega arith

room_first : (p : Parts) → ArePartsSmall p → HasRoom (first_in p)
room_first p h =
    either (p.number == 0) _ _ (laws.to_z-Fits w32 p.c (record { fits = h.c }))
    (either (p.number == 1) _ _ (low_small p.c) (either (p.number == 2) _ _ tt (either (p.number == 3) _ _ tt tt)))

room_other : (p : Parts) → ArePartsSmall p → HasRoom (other_in p)
room_other p h =
    either (p.number == 18) _ _ h.c (either (p.number == 19) _ _ h.c (either (p.number == 20) _ _ h.c (either (p.number == 21) _ _ h.a
    (either (p.number == 23) _ _ (low_small p.c, h.b) (either (p.number == 24) _ _ (low_small p.c) (either (p.number == 25) _ _ (low_small p.c, h.b)
    (either (p.number == 26) _ _ h.a (either (p.number == 27) _ _ h.a tt))))))))

room_in : (p : Parts) → ArePartsSmall p → HasRoom (instr_in p)
room_in p h = either (nat_lt p.number 5) _ _ (room_first p h) (either (nat_lt p.number 18) _ _ tt (room_other p h))

parts_in_range : (bytes : List ℕ) → AreBytes bytes → ArePartsSmall (parts_in bytes)
parts_in_range bytes h = record { a = h.each 1; b = short_small (drop 2 bytes) (bytes_after 2 bytes h); c = number_small (drop 4 bytes) (bytes_after 4 bytes h) }

cut_small : (b : Bool) (p : Parts) → ArePartsSmall p → ArePartsSmall (if b then parts p.number p.a p.b (min p.c 65535) else p)
cut_small true p h = record { a = h.a; b = h.b; c = let low : p.c < 2 ^ 32 = h.c in omega (arith, low) }
cut_small false p h = h

instrs_in_range : (n : ℕ) (bytes : List ℕ) → AreBytes bytes → All HasRoom (read_instrs n bytes)
instrs_in_range zero bytes h = all_none HasRoom
instrs_in_range (suc n) bytes h = all_more HasRoom _ _ (room_in (cut (parts_in bytes)) (cut_small (names_word (parts_in bytes).number) (parts_in bytes) (parts_in_range bytes h))) (instrs_in_range n (drop 8 bytes) (bytes_after 8 bytes h))

pub read_in_range : (bytes : List ℕ) → AreBytes bytes → IsInRange (read_object bytes)
read_in_range bytes h =
    let head : AreBytes (after_head bytes) = bytes_after 12 bytes h in
    let words : AreBytes (after_words bytes) = bytes_after (4 * words_in bytes) (after_head bytes) head in
    let tasks : AreBytes (after_tasks bytes) = bytes_after (8 * tasks_in bytes) (after_words bytes) words in
    record {
      words = words_in_range (words_in bytes) (after_head bytes) head;
      started = started_in_range (tasks_in bytes) (after_words bytes) words;
      tasks = numbers_in 8 (tasks_in bytes) (drop 4 (after_words bytes)) (bytes_after 4 (after_words bytes) words);
      versions = versions_in_range (events_in bytes) (after_tasks bytes) tasks;
      instrs = instrs_in_range (count_in bytes) (after_events bytes) (bytes_after_versions (events_in bytes) (after_tasks bytes) tasks);
    }

parts_fit : (n : ℕ) (bytes : List ℕ) → AreBytes bytes → All PartsFit (read_parts n bytes)
parts_fit zero bytes h = all_none PartsFit
parts_fit (suc n) bytes h = all_more PartsFit _ _ ((parts_in_range bytes h).b, (parts_in_range bytes h).c) (parts_fit n (drop 8 bytes) (bytes_after 8 bytes h))

pub read_parts_fit : (bytes : List ℕ) → AreBytes bytes → All PartsFit (read_parts (count_in bytes) (after_events bytes))
read_parts_fit bytes h =
    parts_fit (count_in bytes) (after_events bytes)
    (bytes_after_versions (events_in bytes) (after_tasks bytes) (bytes_after (8 * tasks_in bytes) (after_words bytes) (bytes_after (4 * words_in bytes) (after_head bytes) (bytes_after 12 bytes h))))

-- ---- how many are read

pub length-numbers : (step n : ℕ) (bytes : List ℕ) → length (read_numbers step n bytes) ≡ n
length-numbers step zero bytes = refl
length-numbers step (suc n) bytes = ap suc (length-numbers step n (drop step bytes))

pub length-words : (n : ℕ) (bytes : List ℕ) → length (read_words n bytes) ≡ n
length-words zero bytes = refl
length-words (suc n) bytes = ap suc (length-words n (drop 4 bytes))

pub length-started : (n : ℕ) (bytes : List ℕ) → length (read_started n bytes) ≡ n
length-started zero bytes = refl
length-started (suc n) bytes = ap suc (length-started n (drop 8 bytes))

pub length-versions : (n : ℕ) (bytes : List ℕ) → length (read_versions n bytes) ≡ n
length-versions zero bytes = refl
length-versions (suc n) bytes = ap suc (length-versions n (after_event bytes))

pub length-instrs : (n : ℕ) (bytes : List ℕ) → length (read_instrs n bytes) ≡ n
length-instrs zero bytes = refl
length-instrs (suc n) bytes = ap suc (length-instrs n (drop 8 bytes))

pub entries_counted : (vs : List (Vec ℕ Global)) → length (entries_of vs) ≡ length vs
entries_counted [] = refl
entries_counted (v ∷ vs) = ap suc (entries_counted vs)
