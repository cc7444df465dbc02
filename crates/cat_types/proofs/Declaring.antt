-- The declared names, piece after piece.
use Rattle.std.proofs.Common.{◌≡◌, ℕ, ◌+◌, ◌<◌, Bool, true, false, cond, List, [], ◌∷◌, ◌++◌, length, get_or, take, Option, Some, None, refl, ap, sym, ◌∙◌}
use Rattle.std.specs.Prelude.{bytes_eq, is_some}
use Rattle.std.specs.List.{cons_option}
use Rattle.std.specs.Bool.{one_answer}
use Rattle.std.proofs.lemmas.List.{append-nil, get_or-map, length-map, take_more}
use Rattle.std.proofs.lemmas.List.Elements.{filter_map-append}
use Rattle.std.proofs.lemmas.Slice.Eq.{bytes_eq-Decides}
use Rattle.cat_conditions.specs.declared.sort.Sort.{Sort}
use Rattle.cat_conditions.specs.Pieces as spec
use Rattle.cat_conditions.specs.Names.{Name, Declared, declaration, declarations, sort_of, is_declared_before}
use Rattle.cat_types.specs.declared.pieces.Piece.{Piece}
use Rattle.cat_types.specs.declared.names.Names.{Names}
use Rattle.cat_types.specs.Shown.{shown, all_shown}
use Rattle.cat_types.specs.Sorts.{sorts, AreOf, Grows}

pub take_piece : (xs : List Piece) (k : ℕ) (x : Piece) → x ≡ get_or xs k x → k < length xs
    → take (k + 1) (all_shown xs) ≡ take k (all_shown xs) ++ shown x ∷ []
take_piece xs k x e h =
    let fits : k < length (all_shown xs) = simp length-map h in
    take_more (all_shown xs) k (shown x) fits ∙ ap (λ y. take k (all_shown xs) ++ y ∷ []) (get_or-map shown xs k x (shown x) h ∙ ap shown (sym e))

eq_swap : (x y : Name) → bytes_eq x y ≡ bytes_eq y x
eq_swap x y = one_answer (bytes_eq x y) (bytes_eq y x) (bytes_eq-Decides x y)
    ((λ h. sym ((bytes_eq-Decides y x).0 h)), (λ e. (bytes_eq-Decides y x).1 (sym e)))

eq_through : (n x e : Name) → bytes_eq n x ≡ true → bytes_eq x e ≡ true → bytes_eq n e ≡ true
eq_through n x e f g = (bytes_eq-Decides n e).1 ((bytes_eq-Decides n x).0 f ∙ (bytes_eq-Decides x e).0 g)

cond_none : {A : Type 0} (c : Bool) (v : A) (o : Option A) → cond c (Some v) o ≡ None → (c ≡ false) × (o ≡ None)
cond_none true v o h = absurd (cc)
cond_none false v o h = (refl, h)

swap_conds : {A : Type 0} (a b : Bool) (s t : A) (o : Option A) → (a ≡ true → b ≡ true → ⊥) → cond b (Some t) (cond a (Some s) o) ≡ cond a (Some s) (cond b (Some t) o)
swap_conds false b s t o apart = refl
swap_conds true false s t o apart = refl
swap_conds true true s t o apart = absurd (apart refl refl)

pub sort_step : (declared : Declared) (n : Name) (s : Sort) (x : Name) → sort_of declared n ≡ None
    → sort_of (declared ++ (n, s) ∷ []) x ≡ cond (bytes_eq n x) (Some s) (sort_of declared x)
sort_step [] n s x h = ap (λ b. cond b (Some s) None) (eq_swap x n)
sort_step (e ∷ declared) n s x h =
    let none = cond_none (bytes_eq n e.0) e.1 (sort_of declared n) h in
    ap (λ o. cond (bytes_eq x e.0) (Some e.1) o) (sort_step declared n s x none.1)
    ∙ swap_conds (bytes_eq n x) (bytes_eq x e.0) s e.1 (sort_of declared x) (λ f g. let yes' = eq_through n x e.0 f g in cc (none.0, yes'))

sorts_more : (declared : Declared) (d : Option (Name × Sort)) (old new : Names) → ((x : Name) → sorts old x ≡ sort_of declared x)
    → Grows old new d false → (x : Name) → sorts new x ≡ sort_of (declared ++ cons_option d []) x
sorts_more declared None old new are grows x = grows.1 x ∙ are x ∙ ap (λ ds. sort_of ds x) (sym (append-nil declared))
sorts_more declared (Some d) old new are grows x =
    grows.1 x ∙ ap (λ o. cond (bytes_eq d.0 x) (Some d.1) o) (are x) ∙ sym (sort_step declared d.0 d.1 x (sym (are d.0) ∙ grows.0))

pub are_more : (front : List spec.Piece) (p : spec.Piece) (old new : Names) → AreOf front old → Grows old new (declaration p) false → AreOf (front ++ p ∷ []) new
are_more front p old new are grows x =
    sorts_more (declarations front) (declaration p) old new are grows x
    ∙ ap (λ ds. sort_of ds x) (sym (filter_map-append declaration front (p ∷ [])))

pub not_before : (declared : Declared) (d : Option (Name × Sort)) (old new : Names) → ((x : Name) → sorts old x ≡ sort_of declared x)
    → Grows old new d false → is_declared_before declared d ≡ false
not_before declared None old new are grows = refl
not_before declared (Some d) old new are grows = ap is_some (sym (are d.0) ∙ grows.0)

pub none_of : {A : Type 0} (o : Option A) → false ≡ is_some o → o ≡ None
none_of None h = refl
none_of (Some a) h = absurd (cc)
