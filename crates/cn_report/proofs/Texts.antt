-- Texts of many pieces.
use Rattle.std.proofs.Common.{◌≡◌, ℕ, zero, suc, ◌+◌, ◌≤◌, List, [], ◌∷◌, ◌++◌, length, map, Some, subst, refl, sym, ap, ◌∙◌, arith, append_assoc, append-nil}
use Rattle.std.specs.List.{range_with_len, zip}
use Rattle.std.specs.Prelude.{slice_get, codes, decimal}
use Rattle.cat_program.specs.declared.headers.Variable.{Variable}
use Rattle.cat_program.specs.declared.headers.Event.{Event}
use Rattle.cat_program.specs.Declares.{EachEventIs, IsLaidOut}
use Rattle.cat_program.specs.Checked.{Checked, IsChecked}
use Rattle.degradation.specs.declared.chosen.Chosen.{Chosen}
use Rattle.cn_scheduler.specs.declared.engine.End.{End}
use Rattle.cn_base.specs.Texts.{line, in_turn}
use Rattle.cn_report.specs.Report.{header_line, numbers_line, choice_text, chosen_text}
use Rattle.cn_report.specs.Outcome.{end_word, end_line}

-- an event has a header
pub headers_count : (headers : List Event) (versions : List (List ℕ)) → EachEventIs headers versions → length headers ≡ length versions
headers_count [] [] each = refl
headers_count [] (v ∷ vs) each = absurd each
headers_count (h ∷ hs) [] each = absurd each
headers_count (h ∷ hs) (v ∷ vs) each = ap suc (headers_count hs vs each.1)

-- the text of one number more, its first one apart
in_turn-first : (f : ℕ → List ℕ) (n : ℕ) → in_turn f (suc n) ≡ f 0 ++ in_turn (λ k. f (suc k)) n
in_turn-first f zero = sym (append-nil (f 0))
in_turn-first f (suc n) = ap (λ t. t ++ f (suc n)) (in_turn-first f n) ∙ append_assoc (f 0) (in_turn (λ k. f (suc k)) n) (f (suc n))

next : (base k : ℕ) → base + 1 + k ≡ base + suc k
next base k = omega arith

-- a word and the words of numbers from one on
pub words_line : {A : Type 0} (word : List ℕ) (spell : A → List ℕ) (value : ℕ → A) (base n : ℕ)
    → line (word ∷ map spell (map value (range_with_len base n))) ≡ word ++ (in_turn (λ k. codes " " ++ spell (value (base + k))) n ++ codes "\n")
words_line word spell value base zero = refl
words_line word spell value base (suc n) =
    let later : ℕ → List ℕ = λ k. codes " " ++ spell (value (base + 1 + k)) in
    let own : ℕ → List ℕ = λ k. codes " " ++ spell (value (base + k)) in
    let first : spell (value base) ≡ spell (value (base + 0)) = ap (λ (k : ℕ). spell (value k)) (omega arith) in
    let same : later ≡ (λ k. own (suc k)) = λ i k. codes " " ++ spell (value (next base k i)) in
    ap (λ t. word ++ (codes " " ++ t)) (words_line (spell (value base)) spell value (base + 1) n)
    ∙ ap (λ t. word ++ (codes " " ++ (t ++ (in_turn later n ++ codes "\n")))) first
    ∙ ap (λ t. word ++ t) (sym (append_assoc (own 0) (in_turn later n) (codes "\n")))
    ∙ ap (λ f. word ++ ((own 0 ++ in_turn f n) ++ codes "\n")) same
    ∙ ap (λ t. word ++ (t ++ codes "\n")) (sym (in_turn-first own n))

-- the words of a variable are words of the program
laid_end : (at : ℕ) (variables : List Variable) (words : ℕ) → IsLaidOut at variables words → at ≤ words
laid_end at [] words laid = omega (arith, laid)
laid_end at (v ∷ vs) words laid = omega (arith, laid_end (at + v.len) vs words laid.2)

pub laid_within : (at : ℕ) (variables : List Variable) (words i : ℕ) (v : Variable) → IsLaidOut at variables words → slice_get variables i ≡ Some v → v.base + v.len ≤ words
laid_within at [] words i v laid is = cc
laid_within at (x ∷ vs) words zero v laid is =
    let same : x ≡ v = cc in
    subst (λ (y : Variable). y.base + y.len ≤ words) same (omega (arith, laid.0, laid_end (at + x.len) vs words laid.2))
laid_within at (x ∷ vs) words (suc i) v laid is = laid_within (at + x.len) vs words i v laid.2 is

pub end-is : (tick stored steps tick' stored' steps' : ℕ) (word : List ℕ) (ending : End) → tick ≡ tick' → stored ≡ stored' → steps ≡ steps' → word ≡ end_word ending
    → line (codes "end" ∷ decimal tick ∷ decimal stored ∷ decimal steps ∷ word ∷ []) ≡ end_line tick' stored' steps' ending
end-is tick stored steps tick' stored' steps' word ending a b c d = λ i. line (codes "end" ∷ decimal (a i) ∷ decimal (b i) ∷ decimal (c i) ∷ d i ∷ [])

-- what was chosen, by the headers alone
pub choice-is : (p : Checked) (chosen : Chosen) → IsChecked p → chosen_text p chosen ≡ choice_text p.headers chosen
choice-is p chosen checked = ap (λ (n : ℕ). in_turn (header_line p.headers chosen) n ++ numbers_line chosen.numbers) (sym (headers_count p.headers p.events checked.declares))

-- ---- pairs of two lists

pub zip_at : {A B : Type 0} (xs : List A) (ys : List B) (i : ℕ) (x : A) (y : B) → slice_get xs i ≡ Some x → slice_get ys i ≡ Some y → slice_get (zip xs ys) i ≡ Some (x, y)
zip_at [] ys i x y a b = absurd (cc)
zip_at (v ∷ xs) [] i x y a b = absurd (cc)
zip_at (v ∷ xs) (w ∷ ys) zero x y a b =
    let first : v ≡ x = cc in
    let second : w ≡ y = cc in
    λ i. Some (first i, second i)
zip_at (v ∷ xs) (w ∷ ys) (suc i) x y a b = zip_at xs ys i x y a b

pub zip_few : {A B : Type 0} (xs : List A) (ys : List B) → length (zip xs ys) ≤ length xs
zip_few [] ys = omega arith
zip_few (x ∷ xs) [] = omega arith
zip_few (x ∷ xs) (y ∷ ys) = let more = zip_few xs ys in omega (arith, more)
