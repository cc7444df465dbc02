-- A program has one first image.
use Rattle.std.proofs.Common.{◌≡◌, ℕ, zero, suc, ◌+◌, ◌*◌, ◌<◌, ◌^◌, ◌%◌, List, [], ◌∷◌, ◌++◌, length, take, drop, replicate, refl, sym, ◌∙◌, ap, subst, arith}
use Rattle.std.specs.Prelude.{map, slice_index}
use Rattle.std.specs.Int.{w32, to_le_bytes, cast_signed, cast_unsigned}
use Rattle.std.specs.List.{range_with_len}
use Rattle.std.proofs.lemmas.Int.{of_z-to_z}
use Rattle.cat_program.specs.Checked.{Checked}
use Rattle.nv_memory.specs.declared.layout.Layout.{Layout}
use Rattle.nv_memory.specs.Layout.{slot_at, lines_of, size_of}
use Rattle.nv_memory.specs.Bytes.{written}
use Rattle.checkpoint_slots.specs.declared.slot.Slot.{Slot}
use Rattle.checkpoint_slots.specs.Numbers.{spelled, number_at}
use Rattle.checkpoint_slots.specs.Slot.{number_of, spelling, numbers_from}
use Rattle.checkpoint_slots.specs.Image.{committed_bytes}
use Rattle.recovery.specs.First.{IsFresh}
use Rattle.recovery.specs.Laws.{FirstImageIsOne}

-- ---- bytes

abbrev AreBytes : List ℕ → Type 0
AreBytes [] = Unit {0}
AreBytes (b ∷ bytes) = (b < 256) × AreBytes bytes

taken : (n : ℕ) (bytes : List ℕ) → AreBytes bytes → AreBytes (take n bytes)
taken zero bytes are = tt
taken (suc n) [] are = tt
taken (suc n) (b ∷ bytes) are = (are.0, taken n bytes are.1)

dropped : (n : ℕ) (bytes : List ℕ) → AreBytes bytes → AreBytes (drop n bytes)
dropped zero bytes are = are
dropped (suc n) [] are = tt
dropped (suc n) (b ∷ bytes) are = dropped n bytes are.1

joined : (first second : List ℕ) → AreBytes first → AreBytes second → AreBytes (first ++ second)
joined [] second are also = also
joined (b ∷ first) second are also = (are.0, joined first second are.1 also)

zeros : (n : ℕ) → AreBytes (replicate n 0)
zeros zero = tt
zeros (suc n) = (omega arith, zeros n)

each_byte : (bytes : List ℕ) (k : ℕ) → AreBytes bytes → slice_index bytes k < 256
each_byte [] k are = omega arith
each_byte (b ∷ bytes) zero are = are.0
each_byte (b ∷ bytes) (suc k) are = each_byte bytes k are.1

bytes_of_number : (n : ℕ) → AreBytes (to_le_bytes w32 n)
bytes_of_number n = (omega arith, (omega arith, (omega arith, (omega arith, tt))))

bytes_of_numbers : (f : ℕ → ℕ) (from n : ℕ) → AreBytes (spelled f from n)
unfolding spelled
bytes_of_numbers f from zero = tt
bytes_of_numbers f from (suc n) = joined (spelled f from n) (to_le_bytes w32 (f (from + n))) (bytes_of_numbers f from n) (bytes_of_number (f (from + n)))

-- ---- numbers of bytes

number_fits : (bytes : List ℕ) (k : ℕ) → AreBytes bytes → number_at bytes k < 2 ^ 32
number_fits bytes k are =
    let four = take 4 (drop (4 * k) bytes) in
    let each = taken 4 (drop (4 * k) bytes) (dropped (4 * k) bytes are) in
    omega (arith, each_byte four 0 each, each_byte four 1 each, each_byte four 2 each, each_byte four 3 each)

-- they are their signed values
numbers_again : (bytes : List ℕ) (places : List ℕ) → AreBytes bytes → map (cast_unsigned w32) (map (cast_signed w32) (map (number_at bytes) places)) ≡ map (number_at bytes) places
numbers_again bytes [] are = refl
numbers_again bytes (k ∷ places) are =
    let here = of_z-to_z w32 (number_at bytes k) (number_fits bytes k are) in
    let rest = numbers_again bytes places are in
    λ i. here i ∷ rest i

-- ---- the first slot

module _ (program : Checked) (l : Layout) where
  image_bytes : (image : List ℕ) → IsFresh program l image → AreBytes image
  image_bytes image is =
      let at = slot_at l 0 in
      let slot = spelling l is.slot in
      let all : List ℕ = replicate (size_of l) 0 in
      subst AreBytes (sym is.image_is)
      (joined (take at all ++ slot) (drop (at + length slot) all) (joined (take at all) slot (taken at all (zeros (size_of l))) (bytes_of_numbers (number_of is.slot) 0 (16 * lines_of l)))
      (dropped (at + length slot) all (zeros (size_of l))))

  -- the words are those of the program, as their bits
  words_are : (image : List ℕ) (is : IsFresh program l image) → is.slot.words ≡ map (cast_unsigned w32) program.words
  words_are image is =
      let bytes = committed_bytes l image in
      let are : AreBytes bytes = taken (64 * lines_of l) (drop (slot_at l (slice_index image 0 % 2)) image) (dropped (slot_at l (slice_index image 0 % 2)) image (image_bytes image is)) in
      let read : numbers_from bytes 3 l.words ≡ is.slot.words = ap (λ (s : Slot). s.words) is.committed.slot_is in
      sym read ∙ sym (numbers_again bytes (range_with_len 3 l.words) are) ∙ ap (λ (ws : List ℕ). map (cast_unsigned w32) (map (cast_signed w32) ws)) read ∙ ap (map (cast_unsigned w32)) is.first.variables

  slot_once : (a b : List ℕ) (x : IsFresh program l a) (y : IsFresh program l b) → x.slot ≡ y.slot
  slot_once a b x y =
      let len : x.slot.len ≡ y.slot.len = x.first.len ∙ sym y.first.len in
      let steps : x.slot.steps ≡ y.slot.steps = x.first.steps ∙ sym y.first.steps in
      let pc : x.slot.pc ≡ y.slot.pc = x.first.pc ∙ sym y.first.pc in
      let words : x.slot.words ≡ y.slot.words = words_are a x ∙ sym (words_are b y) in
      let posts : x.slot.posts ≡ y.slot.posts = x.first.posts ∙ sym y.first.posts in
      let done : x.slot.done ≡ y.slot.done = x.first.done ∙ sym y.first.done in
      λ i. record { len = len i; steps = steps i; pc = pc i; words = words i; posts = posts i; done = done i }

pub fresh_once : FirstImageIsOne
fresh_once program l a b x y = x.image_is ∙ ap (λ (s : Slot). written (slot_at l 0) (spelling l s) (replicate (size_of l) 0)) (slot_once program l a b x y) ∙ sym y.image_is
