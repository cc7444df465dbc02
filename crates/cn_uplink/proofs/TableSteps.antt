-- One row of a link table after those before it.
use Rattle.std.proofs.Common.{◌≡◌, ℕ, ◌≤◌, ◌<◌, nat_lt, List, [], ◌∷◌, ◌++◌, Ok, Err, true, false, refl, ap, ◌∙◌, sym, arith}
use Rattle.std.proofs.lemmas.Bool.Decides.{nat_tests}
use Rattle.cn_tables.specs.Table.{Fields}
use Rattle.cn_tables.specs.declared.fault.RowKind.{RowKind}
use Rattle.cn_tables.specs.declared.fault.RowKind.TheVariants as fault
use Rattle.cn_uplink.specs.Table.{link_row, links_step, with_row}
use Rattle.cn_uplink.specs.declared.link_step.LinkStep.{LinkStep}

few : (n : ℕ) → n ≤ 100000 → nat_lt 100000 n ≡ false
few n h = grind (arith, nat_tests)

many : (n : ℕ) → 100000 < n → nat_lt 100000 n ≡ true
many n h = grind (arith, nat_tests)

pub step-many : (n : ℕ) (before : List LinkStep) (fields : Fields) → 100000 < n → links_step n before fields ≡ Err fault.Many
step-many n before fields h = rw (many n h) refl

step-few : (n : ℕ) (before : List LinkStep) (fields : Fields) → n ≤ 100000 → links_step n before fields ≡ with_row before (link_row fields)
step-few n before fields h = rw (few n h) refl

pub step-bad : (n : ℕ) (before : List LinkStep) (fields : Fields) (kind : RowKind) → n ≤ 100000 → Err kind ≡ link_row fields → links_step n before fields ≡ Err kind
step-bad n before fields kind h e = step-few n before fields h ∙ ap (with_row before) (sym e)

pub step-good : (n : ℕ) (before : List LinkStep) (fields : Fields) (step : LinkStep) → n ≤ 100000 → Ok step ≡ link_row fields → links_step n before fields ≡ Ok (before ++ step ∷ [])
step-good n before fields step h e = step-few n before fields h ∙ ap (with_row before) (sym e)
