-- A part more of a list.
use Rattle.std.proofs.Common.{◌≡◌, ℕ, ◌+◌, ◌≤◌, ◌<◌, List, ◌++◌, take, drop, length, get_or, sym, ap, ◌∙◌, arith, append_assoc}
use Rattle.std.proofs.Math.Seq.{take-add}
use Rattle.std.proofs.lemmas.List.{take-append-drop, get_or-take, get_or-drop, length-take-le, ext_get_or}
use Rattle.std.proofs.lemmas.Grind.{common_steps}
use Rattle.nv_memory.specs.Bytes.{bytes_at}

pub more : (l : List ℕ) (from count : ℕ) → take from l ++ bytes_at from count l ≡ take (from + count) l
more l from count = sym (take-add from count l)

pub and_the_rest : (l : List ℕ) (from count : ℕ) → take from l ++ (bytes_at from count l ++ drop (from + count) l) ≡ l
and_the_rest l from count =
    sym (append_assoc (take from l) (bytes_at from count l) (drop (from + count) l))
    ∙ ap (λ t. t ++ drop (from + count) l) (more l from count)
    ∙ take-append-drop (from + count) l

length-bytes_at : (from count : ℕ) (l : List ℕ) → from + count ≤ length l → length (bytes_at from count l) ≡ count
length-bytes_at from count l within = grind (arith, common_steps)

-- a part into which each byte was read
pub part_of : (l part : List ℕ) (from count : ℕ) → from + count ≤ length l → count ≤ length part → ((i : ℕ) → i < count → get_or part i 0 ≡ get_or l (from + i) 0) → take count part ≡ bytes_at from count l
part_of l part from count within room taken =
    let size : length (take count part) ≡ count = length-take-le count part room in
    ext_get_or 0 (take count part) (bytes_at from count l) (size ∙ sym (length-bytes_at from count l within)) (λ i below.
    let under : i < count = omega (arith, below, size) in
    get_or-take count part i 0 under
    ∙ taken i under
    ∙ sym (get_or-take count (drop from l) i 0 under ∙ get_or-drop from l i 0))
