-- The pieces of a source that meets the conditions: none offends by itself.
use Rattle.std.proofs.Common.{◌≡◌, suc, Bool, false, List, [], ◌∷◌, ◌++◌, length, arith}
use Rattle.std.proofs.lemmas.Bool.{false_from_ne_true}
use Rattle.cat_conditions.specs.Pieces.{Piece}
use Rattle.cat_conditions.specs.Offences.{At, NoneOf}
use Rattle.cat_conditions.specs.Local.{is_out_of_range, is_event_loop, is_task_turns, is_task_payload}
use Rattle.cat_conditions.specs.Names.{Sorts}
use Rattle.cat_conditions.specs.Types.{has_wrong_type}
use Rattle.cat_conditions.specs.Counts.{needs_too_many, runs_too_long}

pub record IsFine (sorts : Sorts) (p : Piece) : Type 0 where
  pub in_range : is_out_of_range p ≡ false
  pub agrees : has_wrong_type sorts p ≡ false
  pub no_loop : is_event_loop p ≡ false
  pub no_turns : is_task_turns p ≡ false
  pub no_payload : is_task_payload p ≡ false
  pub operands : needs_too_many p ≡ false
  pub short : runs_too_long p ≡ false

abbrev pub AllFine : Sorts → List Piece → Type 0
AllFine sorts [] = Unit {0}
AllFine sorts (p ∷ ps) = IsFine sorts p × AllFine sorts ps

-- the pieces of both parts are fine
pub parts_fine : (sorts : Sorts) (ps qs : List Piece) → AllFine sorts (ps ++ qs) → AllFine sorts ps × AllFine sorts qs
parts_fine sorts [] qs h = (tt, h)
parts_fine sorts (p ∷ ps) qs h = let r : AllFine sorts ps × AllFine sorts qs = parts_fine sorts ps qs h.1 in ((h.0, r.0), r.1)

-- ---- from the conditions

abbrev AllPass : (Piece → Bool) → List Piece → Type 0
AllPass test [] = Unit {0}
AllPass test (p ∷ ps) = (test p ≡ false) × AllPass test ps

pub all_pass : (test : Piece → Bool) (ps : List Piece) → NoneOf (length ps) (At test ps) → AllPass test ps
all_pass test [] h = tt
all_pass test (p ∷ ps) h =
    (false_from_ne_true (test p) (h 0 (omega arith)), all_pass test ps (λ k in_list. h (suc k) (omega (arith, in_list))))

pub all_fine : (sorts : Sorts) (ps : List Piece) → AllPass is_out_of_range ps → AllPass (has_wrong_type sorts) ps → AllPass is_event_loop ps → AllPass is_task_turns ps
    → AllPass is_task_payload ps → AllPass needs_too_many ps → AllPass runs_too_long ps → AllFine sorts ps
all_fine sorts [] a b c d e f g = tt
all_fine sorts (p ∷ ps) a b c d e f g = (
  record { in_range = a.0; agrees = b.0; no_loop = c.0; no_turns = d.0; no_payload = e.0; operands = f.0; short = g.0 },
  all_fine sorts ps a.1 b.1 c.1 d.1 e.1 f.1 g.1,
)
