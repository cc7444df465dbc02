-- What a write leaves at one place, and in a window.
use Rattle.std.proofs.Common.{◌≡◌, ℕ, ◌+◌, ◌-◌, ◌≤◌, ◌<◌, Bool, true, false, inl, inr, nat_lt, nat_le, List, ◌++◌, length, take, drop, get_or, refl, sym, ap, ◌∙◌, arith, length-append}
use Rattle.std.specs.Prelude.{◌||◌, ◌⊎◌, if◌then◌else◌}
use Rattle.std.proofs.lemmas.Bool.Decides.{nat_tests}
use Rattle.std.proofs.lemmas.List.{get_or-drop, get_or-take, get_or_append_left, get_or-append_right, length-take-le, length-take, ext_get_or}
use Rattle.std.proofs.lemmas.Grind.{common_steps}
use Rattle.nv_memory.specs.Bytes.{written, bytes_at}
use Rattle.cn_report.specs.Bytes.{byte_then}

-- before the range
at_front : (at p : ℕ) (bytes image : List ℕ) → p < length image → p < at → get_or (written at bytes image) p 0 ≡ get_or image p 0
at_front at p bytes image within early =
    let long : p < length (take at image) = omega (arith, length-take at image) in
    let longer : p < length (take at image ++ bytes) = omega (arith, long, length-append (take at image) bytes) in
    get_or_append_left (take at image ++ bytes) (drop (at + length bytes) image) 0 p longer
    ∙ get_or_append_left (take at image) bytes 0 p long
    ∙ get_or-take at image p 0 early

-- in it
at_amid : (at p : ℕ) (bytes image : List ℕ) → p < length image → at ≤ p → p - at < length bytes → get_or (written at bytes image) p 0 ≡ get_or bytes (p - at) 0
at_amid at p bytes image within late inside =
    let front : length (take at image) ≡ at = length-take-le at image (omega arith) in
    let longer : p < length (take at image ++ bytes) = omega (arith, front, length-append (take at image) bytes) in
    get_or_append_left (take at image ++ bytes) (drop (at + length bytes) image) 0 p longer
    ∙ get_or-append_right (take at image) bytes at p 0 front late

-- behind it
at_back : (at p : ℕ) (bytes image : List ℕ) → p < length image → at ≤ p → length bytes ≤ p - at → get_or (written at bytes image) p 0 ≡ get_or image p 0
at_back at p bytes image within late outside =
    let front : length (take at image) ≡ at = length-take-le at image (omega arith) in
    let both : length (take at image ++ bytes) ≡ at + length bytes = omega (arith, front, length-append (take at image) bytes) in
    let place : at + length bytes + (p - (at + length bytes)) ≡ p = omega arith in
    get_or-append_right (take at image ++ bytes) (drop (at + length bytes) image) (at + length bytes) p 0 both (omega arith)
    ∙ get_or-drop (at + length bytes) image (p - (at + length bytes)) 0
    ∙ ap (λ k. get_or image k 0) place

pub byte_written : (at p : ℕ) (bytes image : List ℕ) → p < length image → get_or (written at bytes image) p 0 ≡ byte_then (get_or image p 0) p at bytes
byte_written at p bytes image within =
    elim (nat_lt p at) as (λ b. nat_lt p at ≡ b → get_or (written at bytes image) p 0 ≡ (if b || nat_le (length bytes) (p - at) then get_or image p 0 else get_or bytes (p - at) 0)) [
      | true ↦ (λ early. at_front at p bytes image within (grind (arith, nat_tests)))
      | false ↦ (λ late. elim (nat_le (length bytes) (p - at)) as (λ b. nat_le (length bytes) (p - at) ≡ b → get_or (written at bytes image) p 0 ≡ (if b then get_or image p 0 else get_or bytes (p - at) 0)) [
        | true ↦ (λ outside. at_back at p bytes image within (grind (arith, nat_tests)) (grind (arith, nat_tests)))
        | false ↦ (λ inside. at_amid at p bytes image within (grind (arith, nat_tests)) (grind (arith, nat_tests)))
      ] refl)
    ] refl

-- no byte is lost
pub length-written : (at : ℕ) (bytes image : List ℕ) → length image ≤ length (written at bytes image)
length-written at bytes image = simp (length-append) (grind (arith, common_steps))

-- one byte of a range
pub byte_in : (at n i : ℕ) (image : List ℕ) → i < n → get_or (bytes_at at n image) i 0 ≡ get_or image (at + i) 0
byte_in at n i image within = get_or-take n (drop at image) i 0 within ∙ get_or-drop at image i 0

pub length-bytes_at : (at n : ℕ) (image : List ℕ) → at + n ≤ length image → length (bytes_at at n image) ≡ n
length-bytes_at at n image within = grind (arith, common_steps)

-- a window that read each byte
pub window_of : (image read : List ℕ) (at : ℕ) → at + 8 ≤ length image → length read ≡ 8 → ((i : ℕ) → i < 8 → get_or read i 0 ≡ get_or image (at + i) 0) → read ≡ bytes_at at 8 image
window_of image read at within size taken =
    ext_get_or 0 read (bytes_at at 8 image) (size ∙ sym (length-bytes_at at 8 image within)) (λ i below.
    let under : i < 8 = omega (arith, below, size) in taken i under ∙ sym (byte_in at 8 i image under))

-- a window that took over each byte
pub window_after : (image left old new : List ℕ) (place at : ℕ) → place + 8 ≤ length image → old ≡ bytes_at place 8 image → length new ≡ length old
    → ((i : ℕ) → i < 8 → get_or new i 0 ≡ byte_then (get_or old i 0) (place + i) at left)
    → new ≡ bytes_at place 8 (written at left image)
window_after image left old new place at within is same taken =
    let size : length new ≡ 8 = same ∙ ap length is ∙ length-bytes_at place 8 image within in
    let later : place + 8 ≤ length (written at left image) = omega (arith, length-written at left image) in
    ext_get_or 0 new (bytes_at place 8 (written at left image)) (size ∙ sym (length-bytes_at place 8 (written at left image) later)) (λ i below.
    let under : i < 8 = omega (arith, below, size) in
    taken i under
    ∙ ap (λ (bytes : List ℕ). byte_then (get_or bytes i 0) (place + i) at left) is
    ∙ ap (λ b. byte_then b (place + i) at left) (byte_in place 8 i image under)
    ∙ sym (byte_written at (place + i) left image (omega arith))
    ∙ sym (byte_in place 8 i (written at left image) under))

-- ---- a write that doesn't reach a window

kept : (early late : Bool) (byte other : ℕ) → (early ≡ true) ⊎ (late ≡ true) → (if early || late then byte else other) ≡ byte
kept true late byte other one = refl
kept false true byte other one = refl
kept false false byte other (inl e) = absurd cc
kept false false byte other (inr e) = absurd cc

pub byte_apart : (place at k byte : ℕ) (left : List ℕ) → (place + 8 ≤ at) ⊎ (at + length left ≤ place) → k < 8 → byte_then byte (place + k) at left ≡ byte
byte_apart place at k byte left (inl behind) below = kept (nat_lt (place + k) at) (nat_le (length left) (place + k - at)) byte _ (inl (grind (arith, nat_tests)))
byte_apart place at k byte left (inr before) below = kept (nat_lt (place + k) at) (nat_le (length left) (place + k - at)) byte _ (inr (grind (arith, nat_tests)))

-- a window that took over nothing
pub window_apart : (image left old : List ℕ) (place at : ℕ) → place + 8 ≤ length image → old ≡ bytes_at place 8 image
    → ((k : ℕ) → k < 8 → (byte : ℕ) → byte_then byte (place + k) at left ≡ byte)
    → old ≡ bytes_at place 8 (written at left image)
window_apart image left old place at within is apart = window_after image left old old place at within is refl (λ i below. sym (apart i below (get_or old i 0)))
