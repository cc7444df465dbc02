-- The causes and completeness follow from how a call goes, whatever the command.
use Rattle.std.proofs.Common.{◌≡◌, ℕ, ◌≤◌, List, length, map, Option, Some, None, true, false, refl, sym, ap, ◌∙◌, subst, arith, inl, inr}
use Rattle.cn_base.specs.Causes.{Rose, Rests}
use Rattle.cn_base.specs.Reading.{Files}
use Rattle.catnap_words.specs.declared.form.Form.{Form}
use Rattle.catnap_top.specs.declared.status.Status.{Status}
use Rattle.catnap_top.specs.declared.status.Status.TheVariants.{Usage, ReadFault, WriteFault, NoMemory}
use Rattle.catnap_top.specs.Answer.{Answer, is_own}
use Rattle.catnap_words.specs.Words.{form_of, names_of}
use Rattle.catnap_top.specs.Reply.{CallsFor}
use Rattle.catnap_top.specs.Course.{Outside, of_words, of_files, of_failure, Ends, whole, cut, Answers, answered, gave_up}
use Rattle.catnap_top.specs.Clauses.{IsComplete, HasCauses, HasAsked, AsksInOrder, none_failed, last_failed}
use Rattle.catnap_top.proofs.Own.{form_own}

-- a count that rests did not rise
rests_not_rose : (before now : ℕ) → Rests before now → Rose before now → ⊥
rests_not_rose before now rests rose = omega (arith, rests.same, rests.below)

complete_known : (words : List (List ℕ)) (known : Files) (before now : Outside) (status : Status)
    → Answers words (Some known) before now status → IsComplete words (Some known) before now status
complete_known words known before now status (answered due (of_words none a r e) ends) form some reads writes = cc
complete_known words known before now status (answered due (of_failure form1 k some1 lt a le rose e) ends) form some reads writes =
    absurd (rests_not_rose before.reads now.reads reads rose)
complete_known words known before now status (answered due due_is (cut st part le rose)) form some reads writes =
    absurd (rests_not_rose before.writes now.writes writes rose)
complete_known words known before now status (answered due (of_files form1 bytes some1 told a r e) (whole st text kept)) form some reads writes =
    let same : form1 ≡ form = cc in
    let names : bytes ≡ map known (names_of form words) = told ∙ ap (λ f. map known (names_of f words)) same in
    inr (record {
      due = due;
      called_for = subst (λ b. CallsFor form b due) names (subst (λ f. CallsFor f bytes due) same e);
      ended = st;
      written = text;
    })
complete_known words known before now status (gave_up form1 k some1 le a r w x st) form some reads writes = inl st

pub complete : (words : List (List ℕ)) (files : Option Files) (before now : Outside) (status : Status)
    → Answers words files before now status → IsComplete words files before now status
complete words None before now status h form some reads writes = tt
complete words (Some known) before now status h form some reads writes = complete_known words known before now status h form some reads writes

not_own : (x y : Status) → is_own x ≡ true → is_own y ≡ false → x ≡ y → ⊥
not_own x y p q e = let t : is_own y ≡ true = subst (λ s. is_own s ≡ true) e p in cc

pub causes : (words : List (List ℕ)) (files : Option Files) (before now : Outside) (status : Status)
    → Answers words files before now status → HasCauses words before now status
causes words files before now status (answered due d (cut st part le rose)) =
    record {
      usage = λ h. cc;
      read = λ h. cc;
      read_kept = λ _. inr st;
      write = λ _. rose;
      write_kept = λ _. st;
    }
causes words files before now status (answered due (of_words none a r e) (whole st text kept)) =
    let s : status ≡ Usage = st ∙ ap (λ (d : Answer). d.status) e in
    record {
      usage = λ _. none;
      read = λ h. cc;
      read_kept = λ lt. absurd (omega (arith, r, lt));
      write = λ h. cc;
      write_kept = λ lt. absurd (omega (arith, kept, lt));
    }
causes words files before now status (answered due (of_files form bytes some told a r e) (whole st text kept)) =
    let s : is_own status ≡ true =
    subst (λ x. is_own x ≡ true) (sym st) (form_own form bytes due e) in
    record {
      usage = λ h. absurd (not_own status Usage s refl h);
      read = λ h. absurd (not_own status ReadFault s refl h);
      read_kept = λ lt. absurd (omega (arith, r, lt));
      write = λ h. absurd (not_own status WriteFault s refl h);
      write_kept = λ lt. absurd (omega (arith, kept, lt));
    }
causes words files before now status (answered due (of_failure form k some lt a le rose e) (whole st text kept)) =
    let s : status ≡ ReadFault = st ∙ ap (λ (d : Answer). d.status) e in
    record {
      usage = λ h. cc;
      read = λ _. rose;
      read_kept = λ _. inl s;
      write = λ h. cc;
      write_kept = λ up. absurd (omega (arith, kept, up));
    }
causes words files before now status (gave_up form k some le a r w x st) =
    record {
      usage = λ h. cc;
      read = λ h. cc;
      read_kept = λ lt. absurd (omega (arith, r, lt));
      write = λ h. cc;
      write_kept = λ lt. absurd (omega (arith, x, lt));
    }

-- ---- the asked reads

asked_of : (words : List (List ℕ)) (files : Option Files) (before now : Outside) (status : Status)
    → Answers words files before now status → (form : Form) → form_of words ≡ Some form → AsksInOrder (names_of form words) before now status
asked_of words files before now status (answered due (of_words none a r e) ends) form some = absurd cc
asked_of words files before now status (answered due (of_files form1 bytes some1 told a r e) ends) form some =
    let same : form1 ≡ form = cc in
    let le : length (names_of form1 words) ≤ length (names_of form1 words) = omega arith in
    subst (λ f. AsksInOrder (names_of f words) before now status) same (none_failed (length (names_of form1 words)) le a (λ own. refl))
asked_of words files before now status (answered due (of_failure form1 k some1 lt a le rose e) ends) form some =
    let same : form1 ≡ form = cc in
    subst (λ f. AsksInOrder (names_of f words) before now status) same
    (last_failed k lt a (subst (λ d. Ends d before.written now.written before.writes now.writes status) e ends))
asked_of words files before now status (gave_up form1 k some1 le a r w x st) form some =
    let same : form1 ≡ form = cc in
    subst (λ f. AsksInOrder (names_of f words) before now status) same
    (none_failed k le a (λ own. absurd (not_own status NoMemory own refl st)))

no_form_asked : (words : List (List ℕ)) (files : Option Files) (before now : Outside) (status : Status)
    → Answers words files before now status → form_of words ≡ None → now.asked ≡ before.asked
no_form_asked words files before now status (answered due (of_words none a r e) ends) missing = a
no_form_asked words files before now status (answered due (of_files form1 bytes some1 told a r e) ends) missing = absurd cc
no_form_asked words files before now status (answered due (of_failure form1 k some1 lt a le rose e) ends) missing = absurd cc
no_form_asked words files before now status (gave_up form1 k some1 le a r w x st) missing = absurd cc

pub asked : (words : List (List ℕ)) (files : Option Files) (before now : Outside) (status : Status)
    → Answers words files before now status → HasAsked words before now status
asked words files before now status h = record {
  no_form = no_form_asked words files before now status h;
  of_form = asked_of words files before now status h;
}
