-- The statuses that words and files call for are none of the four that have causes of their own.
use Rattle.std.proofs.Common.{◌≡◌, ℕ, List, Result, Ok, Err, true, refl, sym, subst}
use Rattle.catnap_words.specs.declared.form.Form.{Form}
use Rattle.catnap_words.specs.declared.form.Form.TheVariants.{Run, List as Listing, Check, CheckForecast, Plan, Replay, ReplayForecast, Image, Resume, Uplink, Object, RunObject, Bench}
use Rattle.catnap_top.specs.declared.fault.Fault.{Fault}
use Rattle.catnap_top.specs.declared.fault.Fault.TheVariants as fault
use Rattle.catnap_top.specs.declared.fault.Table.TheVariants as table
use Rattle.catnap_top.specs.declared.fault.NoChoice.TheVariants as none
use Rattle.catnap_top.specs.Answer.{Answer, is_own}
use Rattle.catnap_top.specs.Faults.{fault_answer}
use Rattle.catnap_top.specs.Look.{Look, answer_of}
use Rattle.cn_scheduler.specs.declared.engine.End.{End}
use Rattle.cn_scheduler.specs.declared.engine.End.TheVariants.{TraceEnded, LogFull}
use Rattle.catnap_top.specs.Lives.{status_of}
use Rattle.catnap_top.specs.Reply.{CallsFor, looks_of}
use Rattle.catnap_top.proofs.Looks.{Finds, found_finds, then_finds}

abbrev pub IsOwn : Answer → Type 0
IsOwn answer = is_own answer.status ≡ true

fault_own : (why : Fault) → IsOwn (fault_answer why)
fault_own (fault.Source kind) = refl
fault_own (fault.Device kind) = refl
fault_own (fault.Table table.Trace row kind) = refl
fault_own (fault.Table table.Arrivals row kind) = refl
fault_own (fault.Table table.Fails row kind) = refl
fault_own (fault.Table table.Link row kind) = refl
fault_own (fault.Table table.Forecast row kind) = refl
fault_own (fault.Choice row (none.Window spacing)) = refl
fault_own (fault.Choice row (none.Rejected verdict)) = refl
fault_own (fault.Image bad) = refl
fault_own (fault.Object bad) = refl

came_own : (look : Look Answer) (came : Result Answer Fault) → Finds IsOwn look → look came → IsOwn (answer_of came)
came_own look (Ok answer) finds is = finds (Ok answer) is answer refl
came_own look (Err why) finds is = fault_own why

end_own : (end : End) → is_own (status_of end) ≡ true
end_own TraceEnded = refl
end_own LogFull = refl

looks_own : (form : Form) (files : List (List ℕ)) → Finds IsOwn (looks_of form files)
looks_own (Run steps) files = then_finds IsOwn _ _ (λ p. found_finds IsOwn _ refl)
looks_own Listing files = then_finds IsOwn _ _ (λ p. found_finds IsOwn _ refl)
looks_own Object files = then_finds IsOwn _ _ (λ p. found_finds IsOwn _ refl)
looks_own Replay files = then_finds IsOwn _ _ (λ files. then_finds IsOwn _ _ (λ lived. found_finds IsOwn _ (end_own lived.life.end)))
looks_own ReplayForecast files = then_finds IsOwn _ _ (λ files. then_finds IsOwn _ _ (λ lived. found_finds IsOwn _ (end_own lived.life.end)))
looks_own Image files = then_finds IsOwn _ _ (λ files. then_finds IsOwn _ _ (λ lived. found_finds IsOwn _ (end_own lived.life.end)))
looks_own Resume files =
    then_finds IsOwn _ _ (λ told. then_finds IsOwn _ _ (λ chosen. then_finds IsOwn _ _ (λ start. then_finds IsOwn _ _ (λ life. found_finds IsOwn _ (end_own life.end)))))
looks_own (RunObject steps) files = then_finds IsOwn _ _ (λ object. found_finds IsOwn _ refl)
looks_own (Bench size) files = then_finds IsOwn _ _ (λ made. then_finds IsOwn _ _ (λ lived. found_finds IsOwn _ (end_own lived.life.end)))
looks_own Uplink files =
    then_finds IsOwn _ _ (λ told. then_finds IsOwn _ _ (λ steps. then_finds IsOwn _ _ (λ lived. then_finds IsOwn _ _ (λ text. found_finds IsOwn _ (end_own lived.life.end)))))
looks_own Check files = then_finds IsOwn _ _ (λ p. then_finds IsOwn _ _ (λ d. then_finds IsOwn _ _ (λ c. found_finds IsOwn _ refl)))
looks_own CheckForecast files =
    then_finds IsOwn _ _ (λ p. then_finds IsOwn _ _ (λ d. then_finds IsOwn _ _ (λ rows. then_finds IsOwn _ _ (λ c. found_finds IsOwn _ refl))))
looks_own Plan files = then_finds IsOwn _ _ (λ p. then_finds IsOwn _ _ (λ d. then_finds IsOwn _ _ (λ plan. found_finds IsOwn _ refl)))

pub form_own : (form : Form) (files : List (List ℕ)) (due : Answer) → CallsFor form files due → IsOwn due
form_own form files due h = subst IsOwn (sym h.due_is) (came_own (looks_of form files) h.came (looks_own form files) h.is)
