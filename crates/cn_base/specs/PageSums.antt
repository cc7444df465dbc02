-- Pages of a text, one after the other.
use Rattle.std.proofs.Common.{◌≡◌, ℕ, ◌+◌, ◌-◌, ◌≤◌, List, [], ◌++◌, length, take, drop, Option, Some, None, Result, Ok, Err, refl, ap, sym, ◌∙◌, append_assoc, arith, subst, length-append, length-drop}
use Rattle.std.proofs.lemmas.List.{append-nil, take_all, take-append-le, drop-append-le, take-append-drop}
use Rattle.std.proofs.lemmas.Grind.{common_steps}
use Rattle.std.proofs.Math.Seq.{take-add, drop-length}
use Rattle.std.specs.Io.KnownBytes.{append_known}
use Rattle.cn_base.specs.Pages.{IsHeld, Adds}
use Rattle.cn_base.specs.Sums.{known_on, cut_before}
use Rattle.cn_base.specs.Writing.{IsCut, Writes}

drop_twice : (n m : ℕ) (l : List ℕ) → drop m (drop n l) ≡ drop (n + m) l
drop_twice n m l = grind (arith, common_steps)

known_nothing : (w : Option (List ℕ)) → append_known w [] ≡ w
known_nothing None = refl
known_nothing (Some w) = ap Some (append-nil w)

-- nothing was written, and all is held
pub held_whole : (w : Option (List ℕ)) (text held : List ℕ) → held ≡ text → IsHeld w w text held
held_whole w text held e = record {
  count = 0;
  within = omega arith;
  written = sym (known_nothing w);
  rest = e;
}

-- all was written
pub held_none : (w0 w1 : Option (List ℕ)) (text : List ℕ) → w1 ≡ append_known w0 text → IsHeld w0 w1 text []
held_none w0 w1 text e = record {
  count = length text;
  within = omega arith;
  written = e ∙ ap (λ t. append_known w0 t) (sym (take_all (length text) text (omega arith)));
  rest = sym (drop-length text);
}

-- more is held behind it
pub held_more : (w0 w1 : Option (List ℕ)) (text held more : List ℕ) → IsHeld w0 w1 text held → IsHeld w0 w1 (text ++ more) (held ++ more)
held_more w0 w1 text held more h = record {
  count = h.count;
  within = simp length-append (omega (arith, h.within));
  written = h.written ∙ ap (λ t. append_known w0 t) (sym (take-append-le h.count text more h.within));
  rest = ap (λ t. t ++ more) h.rest ∙ sym (drop-append-le h.count text more h.within);
}

pub held_on : (w0 w1 w2 : Option (List ℕ)) (text held now : List ℕ) → IsHeld w0 w1 text held → IsHeld w1 w2 held now → IsHeld w0 w2 text now
held_on w0 w1 w2 text held now first second =
    let rest : length held ≡ length text - first.count = ap length first.rest ∙ length-drop first.count text in
    let written : w2 ≡ append_known w0 (take first.count text ++ take second.count held) = known_on w0 w1 w2 (take first.count text) (take second.count held) first.written second.written in
    record {
      count = first.count + second.count;
      within = omega (arith, first.within, second.within, rest);
      written =
          written ∙ ap (λ t. append_known w0 (take first.count text ++ take second.count t)) first.rest
          ∙ ap (λ t. append_known w0 t) (sym (take-add first.count second.count text));
      rest = second.rest ∙ ap (drop second.count) first.rest ∙ drop_twice first.count second.count text;
    }

pub held_cut : (w0 w1 w2 : Option (List ℕ)) (text held : List ℕ) → IsHeld w0 w1 text held → IsCut w1 w2 held → IsCut w0 w2 text
held_cut w0 w1 w2 text held first cut =
    let rest : length held ≡ length text - first.count = ap length first.rest ∙ length-drop first.count text in
    let written : w2 ≡ append_known w0 (take first.count text ++ take cut.count held) = known_on w0 w1 w2 (take first.count text) (take cut.count held) first.written cut.written in
    record {
      count = first.count + cut.count;
      short = omega (arith, first.within, cut.short, rest);
      written =
          written ∙ ap (λ t. append_known w0 (take first.count text ++ take cut.count t)) first.rest
          ∙ ap (λ t. append_known w0 t) (sym (take-add first.count cut.count text));
    }

held_last : (w0 w1 w2 : Option (List ℕ)) (text held : List ℕ) → IsHeld w0 w1 text held → w2 ≡ append_known w1 held → w2 ≡ append_known w0 text
held_last w0 w1 w2 text held first e =
    known_on w0 w1 w2 (take first.count text) held first.written e
    ∙ ap (λ t. append_known w0 (take first.count text ++ t)) first.rest
    ∙ ap (λ t. append_known w0 t) (take-append-drop first.count text)

-- ---- what a caller uses

-- one text and then another
pub held_adds : (w0 w1 w2 : Option (List ℕ)) (h0 h1 h2 front piece text : List ℕ) → front ++ piece ≡ text
    → IsHeld w0 w1 (h0 ++ front) h1 → IsHeld w1 w2 (h1 ++ piece) h2 → IsHeld w0 w2 (h0 ++ text) h2
held_adds w0 w1 w2 h0 h1 h2 front piece text all first second =
    subst (λ x. IsHeld w0 w2 (h0 ++ x) h2) all
    (subst (λ x. IsHeld w0 w2 x h2) (append_assoc h0 front piece)
    (held_on w0 w1 w2 ((h0 ++ front) ++ piece) (h1 ++ piece) h2 (held_more w0 w1 (h0 ++ front) h1 piece first) second))

pub adds_on : {T E : Type 0} (w0 w1 w2 : Option (List ℕ)) (h0 h1 h2 front piece text : List ℕ) (r : Result T E) → front ++ piece ≡ text
    → IsHeld w0 w1 (h0 ++ front) h1 → Adds w1 w2 h1 h2 piece r → Adds w0 w2 h0 h2 text r
adds_on w0 w1 w2 h0 h1 h2 front piece text (Ok t) all first second = held_adds w0 w1 w2 h0 h1 h2 front piece text all first second
adds_on w0 w1 w2 h0 h1 h2 front piece text (Err e) all first second =
    subst (λ x. IsCut w0 w2 (h0 ++ x)) all
    (subst (λ x. IsCut w0 w2 x) (append_assoc h0 front piece)
    (held_cut w0 w1 w2 ((h0 ++ front) ++ piece) (h1 ++ piece) (held_more w0 w1 (h0 ++ front) h1 piece first) second))

-- a text that was cut is so too with more behind it
pub adds_cut : (w0 w1 w2 : Option (List ℕ)) (h0 h1 front piece rest text : List ℕ) → front ++ (piece ++ rest) ≡ text
    → IsHeld w0 w1 (h0 ++ front) h1 → IsCut w1 w2 (h1 ++ piece) → IsCut w0 w2 (h0 ++ text)
adds_cut w0 w1 w2 h0 h1 front piece rest text all first cut =
    subst (λ x. IsCut w0 w2 (h0 ++ x)) all
    (subst (λ x. IsCut w0 w2 x) (append_assoc h0 front (piece ++ rest))
    (held_cut w0 w1 w2 ((h0 ++ front) ++ (piece ++ rest)) (h1 ++ (piece ++ rest)) (held_more w0 w1 (h0 ++ front) h1 (piece ++ rest) first)
    (subst (λ x. IsCut w1 w2 x) (append_assoc h1 piece rest) (cut_before w1 w2 (h1 ++ piece) rest cut))))

-- what a page that began empty held was written at its end
pub closed : {T E : Type 0} (w0 w1 w2 : Option (List ℕ)) (held text : List ℕ) (r : Result T E) → IsHeld w0 w1 text held → Writes w1 w2 held r → Writes w0 w2 text r
closed w0 w1 w2 held text (Ok t) first e = held_last w0 w1 w2 text held first e
closed w0 w1 w2 held text (Err e) first cut = held_cut w0 w1 w2 text held first cut

-- all that was held was written, and then a piece; nothing is held now
pub adds_past : {T E : Type 0} (w0 w1 w2 : Option (List ℕ)) (h0 h2 piece : List ℕ) (r : Result T E) → w1 ≡ append_known w0 h0 → h2 ≡ [] → Writes w1 w2 piece r
    → Adds w0 w2 h0 h2 piece r
adds_past w0 w1 w2 h0 h2 piece (Ok t) first none e =
    subst (λ h. IsHeld w0 w2 (h0 ++ piece) h) (sym none)
    (held_on w0 w1 w2 (h0 ++ piece) piece [] (held_more w0 w1 h0 [] piece (held_none w0 w1 h0 first)) (held_none w1 w2 piece e))
adds_past w0 w1 w2 h0 h2 piece (Err e) first none cut =
    held_cut w0 w1 w2 (h0 ++ piece) piece (held_more w0 w1 h0 [] piece (held_none w0 w1 h0 first)) cut

-- a page that began empty was closed, or cut
pub page_closes : {T E : Type 0} (w w0 w1 w2 : Option (List ℕ)) (h0 h1 text : List ℕ) (r : Result T E) → w0 ≡ w → h0 ≡ [] → IsHeld w0 w1 (h0 ++ text) h1
    → Writes w1 w2 h1 r → Writes w w2 text r
page_closes w w0 w1 w2 h0 h1 text r same none first second =
    closed w w1 w2 h1 text r (subst (λ h. IsHeld w w1 (h ++ text) h1) none (subst (λ v. IsHeld v w1 (h0 ++ text) h1) same first)) second

pub page_cut : (w w0 w1 : Option (List ℕ)) (h0 text : List ℕ) → w0 ≡ w → h0 ≡ [] → IsCut w0 w1 (h0 ++ text) → IsCut w w1 text
page_cut w w0 w1 h0 text same none cut = subst (λ h. IsCut w w1 (h ++ text)) none (subst (λ v. IsCut v w1 (h0 ++ text)) same cut)
