-- What was read before a refusal is the longest prefix that begins a list of the grammar.
use Rattle.std.proofs.Common.{◌≡◌, ℕ, suc, ◌+◌, ◌-◌, ◌<◌, ◌≤◌, List, [], ◌∷◌, ◌++◌, length, take, Err, refl, sym, ap, subst, ◌∙◌, append_assoc, arith, length-append}
use Rattle.std.specs.Prelude.{map}
use Rattle.std.proofs.Math.Seq.{take-append_seam, take-append-add}
use Rattle.cat_tokens.specs.Lexemes.{kind}
use Rattle.cn_base.specs.declared.tree.Item.{Item}
use Rattle.cat_syntax.specs.Grammar.{IsProgram}
use Rattle.cat_syntax.specs.Reader.{Lexemes}
use Rattle.cat_syntax.specs.Items.{program}
use Rattle.cat_syntax.specs.Spells.{IsNeverDeep, IsValidPrefix}
use Rattle.cat_syntax.proofs.Depths.{is_shallow, shallow_by_length}
use Rattle.cat_syntax.proofs.CompleteItems.{program_reads}
use Rattle.cat_syntax.proofs.Local.{head, Agrees}
use Rattle.cat_syntax.proofs.LocalItems.{local_program}
use Rattle.cat_syntax.proofs.ViableItems.{front_goes_on}

front_length : (ts front rest : Lexemes) (k : ℕ) → ts ≡ front ++ rest → k ≡ length ts - length rest → k ≡ length front
front_length ts front rest k e at = let a = ap length e in let b = length-append front rest in omega arith

front_is : (ts front rest : Lexemes) (k : ℕ) → ts ≡ front ++ rest → k ≡ length front → take k ts ≡ front
front_is ts front rest k e at = ap (λ us. take k us) e ∙ ap (λ n. take n (front ++ rest)) at ∙ take-append_seam front rest

pub prefix_is_valid : (ts rest : Lexemes) (k : ℕ) → program 32 ts ≡ Err rest → k ≡ length ts - length rest → IsValidPrefix (take k ts)
prefix_is_valid ts rest k e at = by (front_goes_on 32 ts rest e)
  where
    by : (front : Lexemes) × (ts ≡ front ++ rest) × (more : Lexemes) × (xs : List Item) × IsProgram (front ++ more) xs → IsValidPrefix (take k ts)
    by (front, same, more, xs, d) = (more, xs, subst (λ us. IsProgram (us ++ more) xs) (sym (front_is ts front rest k same (front_length ts front rest k same at))) d)

-- a longer prefix goes on with the token that was refused
stops : (ts front rest other : Lexemes) (n : ℕ) → ts ≡ front ++ rest → length front < n → n ≤ length ts → (tail : Lexemes) × (take n ts ++ other ≡ front ++ tail) × (head rest ≡ head tail)
stops ts front [] other n e lt le = absurd (let a = ap length e in let b = length-append front [] in omega arith)
stops ts front (t ∷ rest) other n e lt le =
    let more : n ≡ length front + suc (n - length front - 1) = omega arith in
    let taken : take n ts ≡ front ++ t ∷ take (n - length front - 1) rest =
    ap (λ us. take n us) e ∙ ap (λ m. take m (front ++ t ∷ rest)) more ∙ take-append-add front (t ∷ rest) (suc (n - length front - 1)) in
    (t ∷ take (n - length front - 1) rest ++ other, ap (λ us. us ++ other) taken ∙ append_assoc front (t ∷ take (n - length front - 1) rest) other, refl)

pub prefix_is_longest : (ts rest : Lexemes) (k n : ℕ) → IsNeverDeep 32 (map kind ts) → program 32 ts ≡ Err rest → k ≡ length ts - length rest → k < n → n ≤ length ts → IsValidPrefix (take n ts) → ⊥
prefix_is_longest ts rest k n never e at lt le (more, xs, d) = by (subst (λ o. Agrees (program (32 + length all)) 32 ts o) e (local_program 32 (32 + length all) (omega arith) ts (is_shallow ts 32 never)))
  where
    all : Lexemes
    all = take n ts ++ more

    by : Agrees (program (32 + length all)) 32 ts (Err rest) → ⊥
    by (front, same, law) =
        let long = front_length ts front rest k same at in
        let stop = stops ts front rest more n same (omega arith) le in
        let refused = rw (← stop.1) at (law stop.0 stop.2) in
        let reads = program_reads (32 + length all) all xs (shallow_by_length all (32 + length all) (omega arith)) d in
        cc
