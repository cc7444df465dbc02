-- Texts one after the other on their way to a page.
use Rattle.std.proofs.Common.{◌≡◌, ℕ, zero, suc, ◌+◌, ◌-◌, ◌<◌, List, [], ◌∷◌, ◌++◌, take, get_or, Option, Some, refl, sym, ap, subst, ◌∙◌, arith, append_assoc, append-nil}
use Rattle.std.specs.List.{flat_map}
use Rattle.std.specs.Prelude.{slice_get}
use Rattle.std.proofs.lemmas.Option.{slice_get_within, get_or_from_slice_get}
use Rattle.std.proofs.lemmas.List.{take_more}
use Rattle.std.proofs.lemmas.Grind.{flat_map-append}
use Rattle.cn_base.specs.Pages.{IsHeld}
use Rattle.cn_base.specs.PageSums.{adds_cut, held_adds}
use Rattle.cn_base.specs.Sums.{cut_before}
use Rattle.cn_base.specs.Texts.{in_turn}
use Rattle.cn_base.specs.Writing.{IsCut}

-- a text that was cut is so too with more behind it
pub cut_behind_held : (w0 w1 : Option (List ℕ)) (held a b : List ℕ) → IsCut w0 w1 (held ++ a) → IsCut w0 w1 (held ++ (a ++ b))
cut_behind_held w0 w1 held a b cut = subst (λ t. IsCut w0 w1 t) (append_assoc held a b) (cut_before w0 w1 (held ++ a) b cut)

-- ---- numbered texts

-- a text amid another
record Amid (front piece text : List ℕ) : Type 0 where
  rest : List ℕ
  all : front ++ (piece ++ rest) ≡ text

amid_by : (f : ℕ → List ℕ) (k n d : ℕ) → n ≡ suc k + d → Amid (in_turn f k) (f k) (in_turn f n)
amid_by f k n zero e =
    let same : suc k ≡ n = omega arith in
    record { rest = []; all = ap (λ t. in_turn f k ++ t) (append-nil (f k)) ∙ ap (in_turn f) same }
amid_by f k zero (suc d) e = absurd (omega arith)
amid_by f k (suc n) (suc d) e =
    let r = amid_by f k n d (omega arith) in
    record {
      rest = r.rest ++ f n;
      all = ap (λ t. in_turn f k ++ t) (sym (append_assoc (f k) r.rest (f n)))
          ∙ sym (append_assoc (in_turn f k) (f k ++ r.rest) (f n))
          ∙ ap (λ t. t ++ f n) r.all;
    }

-- one of the texts was cut
pub cut_held_in_turn : (f : ℕ → List ℕ) (k n : ℕ) (w0 w1 w2 : Option (List ℕ)) (h0 h1 piece : List ℕ) → k < n → IsHeld w0 w1 (h0 ++ in_turn f k) h1 → piece ≡ f k
    → IsCut w1 w2 (h1 ++ piece) → IsCut w0 w2 (h0 ++ in_turn f n)
cut_held_in_turn f k n w0 w1 w2 h0 h1 piece lt held same cut =
    let r = amid_by f k n (n - (k + 1)) (omega arith) in
    adds_cut w0 w1 w2 h0 h1 (in_turn f k) piece r.rest (in_turn f n) (ap (λ t. in_turn f k ++ (t ++ r.rest)) same ∙ r.all) held cut

-- one more of the texts
pub grown_in_turn : (f : ℕ → List ℕ) (k : ℕ) (piece : List ℕ) → piece ≡ f k → in_turn f k ++ piece ≡ in_turn f (k + 1)
grown_in_turn f k piece same =
    let next : suc k ≡ k + 1 = omega arith in
    ap (λ t. in_turn f k ++ t) same ∙ ap (in_turn f) next

pub held_in_turn : (f : ℕ → List ℕ) (k : ℕ) (w0 w1 w2 : Option (List ℕ)) (h0 h1 h2 piece : List ℕ) → IsHeld w0 w1 (h0 ++ in_turn f k) h1 → piece ≡ f k
    → IsHeld w1 w2 (h1 ++ piece) h2 → IsHeld w0 w2 (h0 ++ in_turn f (k + 1)) h2
held_in_turn f k w0 w1 w2 h0 h1 h2 piece held same more =
    held_adds w0 w1 w2 h0 h1 h2 (in_turn f k) piece (in_turn f (k + 1)) (grown_in_turn f k piece same) held more

-- ---- the texts of a list's items

-- what stands before item i, its own piece, and what stands behind it
record Parts {A : Type 0} (f : A → List ℕ) (xs : List A) (i : ℕ) (x : A) : Type 0 where
  rest : List ℕ
  all : flat_map f (take i xs) ++ (f x ++ rest) ≡ flat_map f xs

parts : {A : Type 0} (f : A → List ℕ) (xs : List A) (i : ℕ) (x : A) → slice_get xs i ≡ Some x → Parts f xs i x
parts f [] i x is = cc
parts f (y ∷ ys) zero x is =
    let same : y ≡ x = cc in
    record { rest = flat_map f ys; all = ap (λ z. f z ++ flat_map f ys) (sym same) }
parts f (y ∷ ys) (suc i) x is =
    let p = parts f ys i x is in
    record { rest = p.rest; all = append_assoc (f y) (flat_map f (take i ys)) (f x ++ p.rest) ∙ ap (λ t. f y ++ t) p.all }

-- one item's text was cut
pub cut_held_flat : {A : Type 0} (f : A → List ℕ) (xs : List A) (i : ℕ) (x : A) (w0 w1 w2 : Option (List ℕ)) (h0 h1 : List ℕ) → slice_get xs i ≡ Some x
    → IsHeld w0 w1 (h0 ++ flat_map f (take i xs)) h1 → IsCut w1 w2 (h1 ++ f x) → IsCut w0 w2 (h0 ++ flat_map f xs)
cut_held_flat f xs i x w0 w1 w2 h0 h1 is held cut =
    let p = parts f xs i x is in
    adds_cut w0 w1 w2 h0 h1 (flat_map f (take i xs)) (f x) p.rest (flat_map f xs) p.all held cut

flat_more : {A : Type 0} (f : A → List ℕ) (xs : List A) (i : ℕ) (x : A) → slice_get xs i ≡ Some x → flat_map f (take (i + 1) xs) ≡ flat_map f (take i xs) ++ f x
flat_more f xs i x is =
    ap (flat_map f) (take_more xs i x (slice_get_within xs i x is))
    ∙ flat_map-append f (take i xs) (get_or xs i x ∷ [])
    ∙ ap (λ t. flat_map f (take i xs) ++ t) (append-nil (f (get_or xs i x)) ∙ ap f (get_or_from_slice_get xs i x x is))

-- one item more
pub held_flat : {A : Type 0} (f : A → List ℕ) (xs : List A) (i : ℕ) (x : A) (w0 w1 w2 : Option (List ℕ)) (h0 h1 h2 : List ℕ) → slice_get xs i ≡ Some x
    → IsHeld w0 w1 (h0 ++ flat_map f (take i xs)) h1 → IsHeld w1 w2 (h1 ++ f x) h2 → IsHeld w0 w2 (h0 ++ flat_map f (take (i + 1) xs)) h2
held_flat f xs i x w0 w1 w2 h0 h1 h2 is held more =
    held_adds w0 w1 w2 h0 h1 h2 (flat_map f (take i xs)) (f x) (flat_map f (take (i + 1) xs)) (sym (flat_more f xs i x is)) held more
