-- The header of a table, field by field.
use Rattle.std.proofs.Common.{◌≡◌, ◌≢◌, ℕ, ◌+◌, ◌<◌, suc, List, [], ◌∷◌, drop, get_or, length, true, false, ◌&&◌, refl, arith, ap, nat_eq, map, Bor, Bool, not, sym, ◌∙◌, ◌≤◌}
use Rattle.std.specs.Cmp.Lexicographic.{pointwise}
use Rattle.std.proofs.lemmas.Bool.{false≢true}
use Rattle.std.proofs.lemmas.Bool.Decides.{nat_tests}
use Rattle.std.proofs.lemmas.List.{drop_more, get_or-map, length-map}
use Rattle.std.specs.Prelude.{nat_lt}
use Rattle.csv.specs.Reading.{default_config, records, strip_bom}
use Rattle.cn_tables.specs.Table.{Fields, begins_with_mark, most_bytes, rows_under, same_fields, table_rows}

pub same_fields-step : (xs ys : Fields) (i : ℕ) → i < length xs → i < length ys
    → same_fields (drop i xs) (drop i ys) ≡ (pointwise nat_eq (get_or xs i []) (get_or ys i []) && same_fields (drop (i + 1) xs) (drop (i + 1) ys))
same_fields-step xs ys i h k = rw (drop_more xs i [] h, drop_more ys i [] k) refl

pub same_fields-other : (xs ys : Fields) → length xs ≢ length ys → same_fields xs ys ≡ false
same_fields-other [] [] h = absurd (h refl)
same_fields-other [] (y ∷ ys) h = refl
same_fields-other (x ∷ xs) [] h = refl
same_fields-other (x ∷ xs) (y ∷ ys) h = rw (same_fields-other xs ys (λ e. h (ap suc e))) (never (pointwise nat_eq x y))
  where
    never : (b : _) → (b && false) ≡ false
    never true = refl
    never false = refl

pub stripped : (bytes : List ℕ) → begins_with_mark bytes ≡ false → strip_bom bytes ≡ bytes
unfolding strip_bom
stripped [] h = refl
stripped (a ∷ []) h = refl
stripped (a ∷ b ∷ []) h = refl
stripped (a ∷ b ∷ c ∷ rest) h = rw h refl

pub flip : (x r : Bool) → r ≡ not x → r ≡ true → false ≡ x
flip true r e t = absurd (false≢true (sym e ∙ t))
flip false r e t = refl

pub flop : (x r : Bool) → r ≡ not x → r ≡ false → true ≡ x
flop true r e t = refl
flop false r e t = absurd (false≢true (sym t ∙ e))

-- one field against one name
pub header_field : (current : Fields) (names : List (Bor (List ℕ))) (i : ℕ) (d : Bor (List ℕ)) (b : Bool) → length current ≡ length names → i < length names
    → b ≡ pointwise nat_eq (get_or current i []) (get_or names i d).now
    → same_fields (drop i current) (drop i (map (λ f. f.now) names)) ≡ (b && same_fields (drop (i + 1) current) (drop (i + 1) (map (λ f. f.now) names)))
header_field current names i d b size h e =
    let m = get_or-map (λ (f : Bor (List ℕ)). f.now) names i d [] h in
    let rest = same_fields (drop (i + 1) current) (drop (i + 1) (map (λ (f : Bor (List ℕ)). f.now) names)) in
    let within : i < length (map (λ (f : Bor (List ℕ)). f.now) names) = simp length-map h in
    same_fields-step current (map (λ f. f.now) names) i (omega arith) within ∙ ap (λ x. pointwise nat_eq (get_or current i []) x && rest) m ∙ ap (λ x. x && rest) (sym e)

short_enough : (n : ℕ) → n ≤ most_bytes → nat_lt most_bytes n ≡ false
short_enough n h = grind (arith, nat_tests)

-- the rows of a text that is short enough and begins with no mark
pub table_rows-is : (header : Fields) (bytes : List ℕ) → length bytes ≤ most_bytes → begins_with_mark bytes ≡ false
    → table_rows header bytes ≡ rows_under header (records default_config (strip_bom bytes))
table_rows-is header bytes short plain = rw (short_enough (length bytes) short, plain, stripped bytes plain) refl
