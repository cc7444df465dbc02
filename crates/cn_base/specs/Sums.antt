-- Writes one after the other.
use Rattle.std.proofs.Common.{◌≡◌, ℕ, ◌+◌, ◌≤◌, List, ◌++◌, length, take, drop, Option, Some, None, refl, ap, sym, ◌∙◌, append_assoc, ◌-◌, arith, subst, length-append}
use Rattle.std.proofs.lemmas.List.{take-append-le}
use Rattle.cn_base.specs.Writing.{IsCut}
use Rattle.std.proofs.lemmas.Grind.{common_steps}
use Rattle.std.proofs.Math.Seq.{take-add, take-append-add}
use Rattle.std.specs.Io.KnownBytes.{append_known}

pub known_twice : (w : Option (List ℕ)) (a b : List ℕ) → append_known (append_known w a) b ≡ append_known w (a ++ b)
known_twice None a b = refl
known_twice (Some w) a b = ap Some (append_assoc w a b)

pub take_rest : (bytes : List ℕ) (at : ℕ) → take (length bytes - at) (drop at bytes) ≡ drop at bytes
take_rest bytes at = grind (arith, common_steps)

pub known_more : (w v : Option (List ℕ)) (bytes : List ℕ) (at count : ℕ) → v ≡ append_known w (take at bytes)
    → append_known v (take count (take (length bytes - at) (drop at bytes))) ≡ append_known w (take (at + count) bytes)
known_more w v bytes at count e =
    ap (λ x. append_known v (take count x)) (take_rest bytes at)
    ∙ ap (λ x. append_known x (take count (drop at bytes))) e
    ∙ known_twice w (take at bytes) (take count (drop at bytes))
    ∙ ap (λ x. append_known w x) (sym (take-add at count bytes))

-- a text that follows one that was written
pub cut_behind : (w0 w1 w2 : Option (List ℕ)) (a b : List ℕ) → w1 ≡ append_known w0 a → IsCut w1 w2 b → IsCut w0 w2 (a ++ b)
cut_behind w0 w1 w2 a b e cut =
    record {
      count = length a + cut.count;
      short = simp length-append (omega arith);
      written =
          cut.written
          ∙ ap (λ w. append_known w (take cut.count b)) e
          ∙ known_twice w0 a (take cut.count b)
          ∙ ap (λ x. append_known w0 x) (sym (take-append-add a b cut.count));
    }

-- a text that was cut is so too with more behind it
pub cut_before : (w0 w1 : Option (List ℕ)) (a b : List ℕ) → IsCut w0 w1 a → IsCut w0 w1 (a ++ b)
cut_before w0 w1 a b cut =
    let le : cut.count ≤ length a = omega arith in
    record {
      count = cut.count;
      short = simp length-append (omega arith);
      written = cut.written ∙ ap (λ x. append_known w0 x) (sym (take-append-le cut.count a b le));
    }

-- a piece in the middle of a text was cut
pub cut_amid : (w0 w1 w2 : Option (List ℕ)) (front piece rest text : List ℕ) → w1 ≡ append_known w0 front
    → front ++ (piece ++ rest) ≡ text → IsCut w1 w2 piece → IsCut w0 w2 text
cut_amid w0 w1 w2 front piece rest text e all cut =
    subst (λ x. IsCut w0 w2 x) all (cut_behind w0 w1 w2 front (piece ++ rest) e (cut_before w1 w2 piece rest cut))

pub known_on : (w0 w1 w2 : Option (List ℕ)) (front piece : List ℕ) → w1 ≡ append_known w0 front
    → w2 ≡ append_known w1 piece → w2 ≡ append_known w0 (front ++ piece)
known_on w0 w1 w2 front piece e f = f ∙ ap (λ w. append_known w piece) e ∙ known_twice w0 front piece
