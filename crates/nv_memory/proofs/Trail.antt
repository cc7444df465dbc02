-- An entry more at the end of a trail.
use Rattle.std.proofs.Common.{◌≡◌, ℕ, ◌+◌, ◌-◌, ◌≤◌, List, [], ◌∷◌, ◌++◌, length, map, take, drop, sym, ◌∙◌, arith, length-drop}
use Rattle.std.proofs.lemmas.List.{take_all, take-append-le, drop-append-le}
use Rattle.nv_memory.specs.declared.entry.Entry.{Entry}
use Rattle.nv_memory.specs.Board.{filled, ticks_from, stores_from}

abbrev ticks_of_all : List Entry → List ℕ
ticks_of_all es = map (λ (entry : Entry). entry.tick) es

abbrev stores_of_all : List Entry → List ℕ
stores_of_all es = map (λ (entry : Entry). entry.stored) es

head_is : (a b : ℕ) (xs ys : List ℕ) → a ∷ xs ≡ b ∷ ys → a ≡ b
head_is a b xs ys is = cc

tail_is : (a b : ℕ) (xs ys : List ℕ) → a ∷ xs ≡ b ∷ ys → xs ≡ ys
tail_is a b xs ys is = cc

-- a trail ends no earlier than it begins
late : (t now : ℕ) (es : List Entry) → ticks_of_all es ++ now ∷ [] ≡ ticks_from t es → t ≤ now
late t now [] is = let same = head_is now t [] [] is in omega arith
late t now (x ∷ es) is =
    let later : t + x.ticks ≤ now = late (t + x.ticks) now es (tail_is x.tick t (ticks_of_all es ++ now ∷ []) (ticks_from (t + x.ticks) es) is) in
    omega arith

pub ticks-push : (t now : ℕ) (es : List Entry) (e : Entry) → e.tick ≡ now → ticks_of_all es ++ now ∷ [] ≡ ticks_from t es → ticks_of_all (es ++ e ∷ []) ++ (now + e.ticks) ∷ [] ≡ ticks_from t (es ++ e ∷ [])
ticks-push t now [] e tick_is is =
    let same = head_is now t [] [] is in
    let first = tick_is ∙ same in
    λ i. first i ∷ (same i + e.ticks) ∷ []
ticks-push t now (x ∷ es) e tick_is is =
    let first = head_is x.tick t (ticks_of_all es ++ now ∷ []) (ticks_from (t + x.ticks) es) is in
    let rest = ticks-push (t + x.ticks) now es e tick_is (tail_is x.tick t (ticks_of_all es ++ now ∷ []) (ticks_from (t + x.ticks) es) is) in
    λ i. first i ∷ rest i

pub stores-push : (cap t now stored left : ℕ) (h passed : List ℕ) (es : List Entry) (e : Entry) → ticks_of_all es ++ now ∷ [] ≡ ticks_from t es → t + length h ≡ now → e.stored ≡ left → e.ticks ≡ length passed
    → stores_of_all es ++ left ∷ [] ≡ stores_from cap stored h es → stores_of_all (es ++ e ∷ []) ++ filled cap (left - e.drawn) passed ∷ [] ≡ stores_from cap stored (h ++ passed) (es ++ e ∷ [])
stores-push cap t now stored left [] passed [] e ticks long stored_is ticks_is is =
    let same = head_is left stored [] [] is in
    let first = stored_is ∙ same in
    let whole : passed ≡ take e.ticks passed = sym (take_all e.ticks passed (omega arith)) in
    λ i. first i ∷ filled cap (same i - e.drawn) (whole i) ∷ []
stores-push cap t now stored left (x ∷ h) passed [] e ticks long stored_is ticks_is is = let same = head_is now t [] [] ticks in absurd (omega arith)
stores-push cap t now stored left h passed (x ∷ es) e ticks long stored_is ticks_is is =
    let ticks' = tail_is x.tick t (ticks_of_all es ++ now ∷ []) (ticks_from (t + x.ticks) es) ticks in
    let later = late (t + x.ticks) now es ticks' in
    let within : x.ticks ≤ length h = omega arith in
    let next = filled cap (stored - x.drawn) (take x.ticks h) in
    let first = head_is x.stored stored (stores_of_all es ++ left ∷ []) (stores_from cap next (drop x.ticks h) es) is in
    let is' = tail_is x.stored stored (stores_of_all es ++ left ∷ []) (stores_from cap next (drop x.ticks h) es) is in
    let rest = stores-push cap (t + x.ticks) now next left (drop x.ticks h) passed es e ticks' (omega (arith, length-drop x.ticks h)) stored_is ticks_is is' in
    let front = take-append-le x.ticks h passed within in
    let back = drop-append-le x.ticks h passed within in
    let here = rest ∙ λ i. stores_from cap (filled cap (stored - x.drawn) (sym front i)) (sym back i) (es ++ e ∷ []) in
    λ i. first i ∷ here i
