-- Lines piece by piece.
use Rattle.std.proofs.Common.{◌≡◌, ℕ, ◌+◌, ◌<◌, List, [], ◌∷◌, ◌++◌, length, take, drop, get_or, suc, refl, ap, sym, ◌∙◌, append_assoc, drop-cons}
use Rattle.std.proofs.lemmas.List.{append-nil, take_more}
use Rattle.std.proofs.lemmas.List.{take-append-drop}
use Rattle.cn_base.specs.declared.lines.Piece.{Piece}
use Rattle.cn_base.specs.Lines.{piece_text, line_text}

pub line_append : (xs ys : List Piece) → line_text (xs ++ ys) ≡ line_text xs ++ line_text ys
line_append [] ys = refl
line_append (x ∷ xs) ys = ap (λ t. piece_text x ++ t) (line_append xs ys) ∙ sym (append_assoc (piece_text x) (line_text xs) (line_text ys))

pub line_more : (xs : List Piece) (i : ℕ) (d : Piece) → i < length xs
    → line_text (take (i + 1) xs) ≡ line_text (take i xs) ++ piece_text (get_or xs i d)
line_more xs i d lt =
    ap line_text (take_more xs i d lt)
    ∙ line_append (take i xs) (get_or xs i d ∷ [])
    ∙ ap (λ t. line_text (take i xs) ++ t) (append-nil (piece_text (get_or xs i d)))

pub line_all : (xs : List Piece) (i : ℕ) (d : Piece) → i < length xs
    → line_text (take i xs) ++ (piece_text (get_or xs i d) ++ line_text (drop (suc i) xs)) ≡ line_text xs
line_all xs i d lt =
    ap (λ t. line_text (take i xs) ++ line_text t) (sym (drop-cons xs i d lt))
    ∙ sym (line_append (take i xs) (drop i xs))
    ∙ ap line_text (take-append-drop i xs)

-- a line with one more piece
pub line_grown : (xs : List Piece) (i : ℕ) (d : Piece) (before now : List ℕ) → now ≡ before ++ piece_text (get_or xs i d)
    → before ≡ line_text (take i xs) → i < length xs → now ≡ line_text (take (i + 1) xs)
line_grown xs i d before now grown e lt =
    grown ∙ ap (λ x. x ++ piece_text (get_or xs i d)) e ∙ sym (line_more xs i d lt)
