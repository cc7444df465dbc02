-- Lists that grow piece by piece.
use Rattle.std.proofs.Common.{◌≡◌, ℕ, suc, ◌+◌, ◌-◌, ◌<◌, ◌≤◌, List, [], ◌∷◌, ◌++◌, length, get_or, drop, refl, sym, ◌∙◌, ap, append_assoc, append-nil, add-one, arith}
use Rattle.std.proofs.Math.Seq.{drop-cons, drop-length}
use Rattle.std.specs.Prelude.{Vec, Some, None, slice_get, unwrap_or}
use Rattle.std.specs.Global.{Global}
use Rattle.std.specs.List.{flat_map}
use Rattle.std.proofs.lemmas.Option.{unwrap_or-slice_get, slice_get-get_or}
use Rattle.cat_machine.specs.CodeValue.{entries_of}
use Rattle.cn_object.specs.Reading.{after_event, after_versions}

-- the pieces of the items from one on have been put, as the last
pub flat_goes : {X : Type 0} (f : X → List ℕ) (xs : List X) (i : ℕ) (x : X) (whole out new : List ℕ) → i < length xs → get_or xs i x ≡ x
    → out ++ flat_map f (drop i xs) ≡ whole → new ≡ out ++ f x → new ++ flat_map f (drop (i + 1) xs) ≡ whole
flat_goes f xs i x whole out new h is e n =
    let cut : drop i xs ≡ x ∷ drop (suc i) xs = drop-cons xs i x h ∙ ap (λ y. y ∷ drop (suc i) xs) is in
    rw (n, add-one, append_assoc) (sym (ap (λ ys. out ++ flat_map f ys) cut) ∙ e)

pub flat_ends : {X : Type 0} (f : X → List ℕ) (xs : List X) (i : ℕ) (whole out : List ℕ) → i ≡ length xs → out ++ flat_map f (drop i xs) ≡ whole → out ≡ whole
flat_ends f xs i whole out end e =
    let gone : drop i xs ≡ [] = ap (λ n. drop n xs) end ∙ drop-length xs in
    sym (append-nil out) ∙ sym (ap (λ ys. out ++ flat_map f ys) gone) ∙ e

-- what is read of n items, of which k have been read
pub reads_on : {X : Type 0} (R : ℕ → List ℕ → List X) (f : List ℕ → X) (g : List ℕ → List ℕ) → ((m : ℕ) (bs : List ℕ) → R (suc m) bs ≡ f bs ∷ R m (g bs))
    → (n k : ℕ) (read new whole : List X) (rest later : List ℕ) (x : X) → k < n → new ≡ read ++ x ∷ [] → x ≡ f rest → later ≡ g rest
    → read ++ R (n - k) rest ≡ whole → new ++ R (n - (k + 1)) later ≡ whole
reads_on R f g each n k read new whole rest later x h pushed is on e =
    let left : n - k ≡ suc (n - (k + 1)) = omega arith in
    let opened : R (n - k) rest ≡ x ∷ R (n - (k + 1)) later =
    ap (λ m. R m rest) left ∙ each (n - (k + 1)) rest ∙ ap (λ y. y ∷ R (n - (k + 1)) (g rest)) (sym is) ∙ ap (λ bs. x ∷ R (n - (k + 1)) bs) (sym on) in
    rw (pushed, append_assoc) (sym (ap (λ ys. read ++ ys) opened) ∙ e)

pub reads_end : {X : Type 0} (R : ℕ → List ℕ → List X) → ((bs : List ℕ) → R 0 bs ≡ []) → (n k : ℕ) (read whole : List X) (rest : List ℕ) → n ≤ k → read ++ R (n - k) rest ≡ whole → read ≡ whole
reads_end R none n k read whole rest h e =
    let left : n - k ≡ 0 = omega arith in
    sym (append-nil read) ∙ sym (ap (λ ys. read ++ ys) (ap (λ m. R m rest) left ∙ none rest)) ∙ e

pub reads_start : {X : Type 0} (R : ℕ → List ℕ → List X) (n : ℕ) (bs : List ℕ) → [] ++ R (n - 0) bs ≡ R n bs
reads_start R n bs = let left : n - 0 ≡ n = omega arith in ap (λ m. R m bs) left

pub entries_pushed : (read : List (Vec ℕ Global)) (v : Vec ℕ Global) (new : List (Vec ℕ Global)) → new ≡ read ++ v ∷ [] → entries_of new ≡ entries_of read ++ v.items ∷ []
entries_pushed read v new e = ap entries_of e ∙ go read where
  go : (xs : List (Vec ℕ Global)) → entries_of (xs ++ v ∷ []) ≡ entries_of xs ++ v.items ∷ []
  go [] = refl
  go (x ∷ xs) = ap (λ ys. x.items ∷ ys) (go xs)

pub after_goes : (n k : ℕ) (rest later whole : List ℕ) → k < n → later ≡ after_event rest → after_versions (n - k) rest ≡ whole → after_versions (n - (k + 1)) later ≡ whole
after_goes n k rest later whole h on e =
    let left : n - k ≡ suc (n - (k + 1)) = omega arith in
    ap (after_versions (n - (k + 1))) on ∙ sym (ap (λ m. after_versions m rest) left) ∙ e

pub version_at_place : (xs : List (List ℕ)) (k : ℕ) (x : List ℕ) → x ≡ unwrap_or (slice_get xs k) [] → x ≡ get_or xs k []
version_at_place xs k x e = e ∙ unwrap_or-slice_get xs k []

some_same : {X : Type 0} (x y : X) → Some x ≡ Some y → x ≡ y
some_same x y e = cc

pub version_at_any : (xs : List (List ℕ)) (k : ℕ) (x : List ℕ) → k < length xs → x ≡ unwrap_or (slice_get xs k) [] → get_or xs k x ≡ x
version_at_any xs k x h e = some_same (get_or xs k x) x (sym (slice_get-get_or xs k x h) ∙ slice_get-get_or xs k [] h ∙ ap Some (sym (version_at_place xs k x e)))

pub five_put : (o a b c d e v w x y z : List ℕ) → v ≡ o ++ a → w ≡ v ++ b → x ≡ w ++ c → y ≡ x ++ d → z ≡ y ++ e → z ≡ o ++ (a ++ (b ++ (c ++ (d ++ e))))
five_put o a b c d e v w x y z p q r s t =
    t ∙ ap (λ l. l ++ e) (s ∙ ap (λ l. l ++ d) (r ∙ ap (λ l. l ++ c) (q ∙ ap (λ l. l ++ b) p))) ∙ simp append_assoc

-- where the versions' code begins
pub begin_found : (xs : List (List ℕ)) (i : ℕ) (x : List ℕ) (y len : ℕ) (whole : List ℕ) → i < length xs → get_or xs i x ≡ x → flat_map (λ (es : List ℕ). es) (drop i xs) ≡ whole → slice_get x 0 ≡ Some y → y ≡ unwrap_or (slice_get whole 0) len
begin_found xs i [] y len whole h is e f = absurd (let none : None ≡ Some y = f in cc)
begin_found xs i (z ∷ zs) y len whole h is e f =
    let cut : drop i xs ≡ (z ∷ zs) ∷ drop (suc i) xs = drop-cons xs i (z ∷ zs) h ∙ ap (λ x. x ∷ drop (suc i) xs) is in
    let front : whole ≡ flat_map (λ (es : List ℕ). es) ((z ∷ zs) ∷ drop (suc i) xs) = sym e ∙ ap (flat_map (λ (es : List ℕ). es)) cut in
    sym (some_same z y f) ∙ ap (λ l. unwrap_or (slice_get l 0) len) (sym front)

pub begin_not : (xs : List (List ℕ)) (i : ℕ) (x : List ℕ) (whole : List ℕ) → i < length xs → get_or xs i x ≡ x → flat_map (λ (es : List ℕ). es) (drop i xs) ≡ whole → slice_get x 0 ≡ None → flat_map (λ (es : List ℕ). es) (drop (i + 1) xs) ≡ whole
begin_not xs i [] whole h is e f =
    let cut : drop i xs ≡ [] ∷ drop (suc i) xs = drop-cons xs i [] h ∙ ap (λ x. x ∷ drop (suc i) xs) is in
    ap (λ n. flat_map (λ (es : List ℕ). es) (drop n xs)) (add-one i) ∙ sym (ap (flat_map (λ (es : List ℕ). es)) cut) ∙ e
begin_not xs i (z ∷ zs) whole h is e f = absurd (let some : Some z ≡ None = f in cc)
