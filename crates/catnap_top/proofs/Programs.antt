-- What programs of one source answer.
use Rattle.std.proofs.Common.{◌≡◌, ℕ, zero, suc, ◌++◌, List, ◌∷◌, length, Option, refl, ap, ◌∙◌}
use Rattle.std.specs.Prelude.{Bool, slice_get, slice_index, slice_index_or}
use Rattle.cat_program.specs.declared.headers.Event.{Event}
use Rattle.cat_program.specs.declared.syntax.Stepped.{Stepped}
use Rattle.cat_program.specs.Checked.{Checked, body_at, first_state}
use Rattle.cat_program.specs.Meaning.{TaskState, TaskStep, task_step_of}
use Rattle.cat_machine.specs.Code.{code_of}
use Rattle.cat_compile.specs.Listing.{listing_text}
use Rattle.degradation.specs.declared.chosen.Chosen.{Chosen}
use Rattle.feasibility.specs.Chosen.{no_load}
use Rattle.forecast_table.specs.declared.epoch.Epoch.{Epoch}
use Rattle.cn_base.specs.Texts.{in_turn}
use Rattle.cn_report.specs.Report.{version_line, name_of, event_line, numbers_line, chosen_text, rows_text}
use Rattle.same_program.specs.Same.{IsSame}
use Rattle.same_program.specs.Alike.{StateIsLike, StepIsLike, no_step, step}
use Rattle.catnap_top.specs.declared.status.Status.TheVariants.{Done}
use Rattle.catnap_top.specs.Run.{follow, answers, run_text, ran}
use Rattle.catnap_top.specs.Listed.{listed}
use Rattle.catnap_top.specs.Object.{compiled, filed}
use Rattle.cn_object.specs.Spelling.{spelling}
use Rattle.catnap_top.specs.Check.{checked}

abbrev pub SameFirst : Type 0
SameFirst = (p q : Checked) → IsSame p q → StateIsLike (first_state p) (first_state q)

abbrev pub SameStep : Type 0
SameStep = (p q : Checked) (s t : TaskState) → IsSame p q → StateIsLike s t → StepIsLike (task_step_of (body_at p) s) (task_step_of (body_at q) t)

abbrev pub SameListing : Type 0
SameListing = (p q : Checked) → IsSame p q → listing_text p (code_of p) ≡ listing_text q (code_of q)

follow_same : (f g : TaskState → List Stepped) → ((s t : TaskState) → StateIsLike s t → f s ≡ g t) → {a b : Option TaskStep} → StepIsLike a b → follow a f ≡ follow b g
follow_same f g each no_step = refl
follow_same f g each (step {a = a} {b = b} answer after) = ap (λ x. x ∷ f a.after) answer ∙ ap (λ l. b.answer ∷ l) (each a.after b.after after)

module _ (first : SameFirst) (each : SameStep) (p q : Checked) (same : IsSame p q) where
  answers_same : (n : ℕ) (s t : TaskState) → StateIsLike s t → answers (body_at p) n s ≡ answers (body_at q) n t
  unfolding answers
  answers_same zero s t like = refl
  answers_same (suc n) s t like = follow_same (answers (body_at p) n) (answers (body_at q) n) (answers_same n) (each p q s t same like)

  pub ran_same : (steps : ℕ) → ran steps p ≡ ran steps q
  ran_same steps = ap (λ taken. record { status = Done; text = run_text taken }) (answers_same steps (first_state p) (first_state q) (first p q same))

pub listed_same : SameListing → (p q : Checked) → IsSame p q → listed p ≡ listed q
listed_same listing p q same = ap (λ text. record { status = Done; text = text }) (listing p q same)

pub compiled_same : ((p q : Checked) → IsSame p q → code_of p ≡ code_of q) → (p q : Checked) → IsSame p q → compiled p ≡ compiled q
compiled_same code p q same =
    ap (λ c. filed (spelling (record { code = c; words = p.words; started = p.started }))) (code p q same)
    ∙ ap (λ words. filed (spelling (record { code = code_of q; words = words; started = p.started }))) same.words
    ∙ ap (λ started. filed (spelling (record { code = code_of q; words = q.words; started = started }))) same.started

pub text_same : (p q : Checked) (c : Chosen) → IsSame p q → chosen_text p c ≡ chosen_text q c
text_same p q c same =
    ap (λ (hs : List Event). in_turn (λ e. version_line (name_of (slice_get hs e)) (slice_index c.versions e) (slice_index_or c.loads e no_load)) (length p.events) ++ numbers_line c.numbers) same.headers
    ∙ ap (λ (l : List (List ℕ)). in_turn (event_line q c) (length l) ++ numbers_line c.numbers) same.events

pub checked_same : (p q : Checked) (given : Bool) (rows : List Epoch) (c d : List Chosen) → IsSame p q → c ≡ d → checked p given rows c ≡ checked q given rows d
checked_same p q given rows c d same e =
    ap (checked p given rows) e ∙ ap (λ (hs : List Event). record { status = Done; text = rows_text hs given rows d }) same.headers
