-- What holds of every chain of looks.
use Rattle.std.proofs.Common.{◌≡◌, Result, Ok, Err, refl, sym, ap, ◌∙◌, subst}
use Rattle.std.proofs.lemmas.Result.{err_from_is_err_and}
use Rattle.std.specs.Result.{IsErrAnd}
use Rattle.catnap_top.specs.declared.fault.Fault.{Fault}
use Rattle.catnap_top.specs.declared.stop.Stop.{Stop}
use Rattle.catnap_top.specs.declared.stop.Stop.TheVariants.{NoMemory, Refused}
use Rattle.catnap_top.specs.Answer.{Answer}
use Rattle.catnap_top.specs.Look.{Look, Then, stops, goes, found, Finding, By, fits, fails, answer_of, ComesTo, Stops, LooksAs}
use Rattle.catnap_top.specs.Alike.{AreAlike, Agree}

-- ---- one answer

pub alike_by : {A B E : Type 0} (same : A → B → Type 0) (r came : Result A E) (s also : Result B E) → came ≡ r → also ≡ s
    → AreAlike same r s → AreAlike same came also
alike_by same r came s also e f h = subst (λ x. AreAlike same x also) (sym e) (subst (λ y. AreAlike same r y) (sym f) h)

-- looks by rules that agree
pub by_agree : {A B K : Type 0} (same : A → B → Type 0) (fault_of : K → Fault) (rules : Result A K → Type 0) (others : Result B K → Type 0)
    → Agree same rules others → Agree same (By fault_of rules) (By fault_of others)
by_agree same fault_of rules others agree came also (fits x is e) (fits y other f) = alike_by same (Ok x) came (Ok y) also e f (agree (Ok x) (Ok y) is other)
by_agree same fault_of rules others agree came also (fits x is e) (fails g other f) = absurd (agree (Ok x) (Err g) is other)
by_agree same fault_of rules others agree came also (fails k is e) (fits y other f) = absurd (agree (Err k) (Ok y) is other)
by_agree same fault_of rules others agree came also (fails k is e) (fails g other f) =
    alike_by same (Err (fault_of k)) came (Err (fault_of g)) also e f (ap fault_of (agree (Err k) (Err g) is other))

-- looks that agree, and then looks that agree at whatever was found
pub then_agree : {A B C D : Type 0} (same : A → B → Type 0) (alike : C → D → Type 0) (first : Look A) (second : Look B) (next : A → Look C) (after : B → Look D)
    → Agree same first second → ((x : A) (y : B) → same x y → Agree alike (next x) (after y)) → Agree alike (Then first next) (Then second after)
then_agree same alike first second next after agree more came also (stops f is e) (stops g other h) =
    alike_by alike (Err f) came (Err g) also e h (agree (Err f) (Err g) is other)
then_agree same alike first second next after agree more came also (stops f is e) (goes y other h) = absurd (agree (Err f) (Ok y) is other)
then_agree same alike first second next after agree more came also (goes x is e) (stops g other h) = absurd (agree (Ok x) (Err g) is other)
then_agree same alike first second next after agree more came also (goes x is e) (goes y other h) =
    more x y (agree (Ok x) (Ok y) is other) came also e h

pub finding_agree : {A B : Type 0} (same : A → B → Type 0) (rules : A → Type 0) (others : B → Type 0) → ((x : A) (y : B) → rules x → others y → same x y)
    → Agree same (Finding rules) (Finding others)
finding_agree same rules others agree came also h k = alike_by same (Ok h.x) came (Ok k.x) also h.came_is k.came_is (agree h.x k.x h.holds k.holds)

pub found_agree : {A B : Type 0} (same : A → B → Type 0) (x : A) (y : B) → same x y → Agree same (found x) (found y)
found_agree same x y h came also e f = alike_by same (Ok x) came (Ok y) also e f h

one_came : (r s : Result Answer Fault) → AreAlike (λ a b. a ≡ b) r s → answer_of r ≡ answer_of s
one_came (Ok a) (Ok b) h = h
one_came (Ok a) (Err g) h = absurd h
one_came (Err f) (Ok b) h = absurd h
one_came (Err f) (Err g) h = ap (λ f. answer_of (Err f)) h

pub comes_to_one : (look other : Look Answer) → Agree (λ a b. a ≡ b) look other → (a b : Answer) → ComesTo look a → ComesTo other b → a ≡ b
comes_to_one look other agree a b first second =
    first.due_is ∙ one_came first.came second.came (agree first.came second.came first.is second.is) ∙ sym second.due_is

-- ---- one look for another

-- whatever the one comes to, the other comes to as well
abbrev pub Leads : {A : Type 0} → Look A → Look A → Type 0
Leads {A = A} look other = (came : Result A Fault) → look came → other came

pub by_leads : {A K : Type 0} (fault_of : K → Fault) (rules others : Result A K → Type 0) → ((came : Result A K) → rules came → others came)
    → Leads (By fault_of rules) (By fault_of others)
by_leads fault_of rules others leads came (fits x is e) = fits x (leads (Ok x) is) e
by_leads fault_of rules others leads came (fails k is e) = fails k (leads (Err k) is) e

pub then_leads : {A B : Type 0} (first second : Look A) (next after : A → Look B) → Leads first second → ((x : A) → Leads (next x) (after x))
    → Leads (Then first next) (Then second after)
then_leads first second next after leads more came (stops f is e) = stops f (leads (Err f) is) e
then_leads first second next after leads more came (goes x is e) = goes x (leads (Ok x) is) (more x came e)

pub comes_to_leads : (look other : Look Answer) → Leads look other → (due : Answer) → ComesTo look due → ComesTo other due
comes_to_leads look other leads due h = record { came = h.came; is = leads h.came h.is; due_is = h.due_is }

-- ---- a fact of all that is found

abbrev pub Finds : {A : Type 0} → (A → Type 0) → Look A → Type 0
Finds {A = A} fact look = (came : Result A Fault) → look came → (x : A) → came ≡ Ok x → fact x

pub found_finds : {A : Type 0} (fact : A → Type 0) (x : A) → fact x → Finds fact (found x)
found_finds fact x h came e y f = let same : x ≡ y = let both = sym e ∙ f in (cc) in subst fact same h

pub then_finds : {A B : Type 0} (fact : B → Type 0) (first : Look A) (next : A → Look B) → ((x : A) → Finds fact (next x)) → Finds fact (Then first next)
then_finds fact first next each came (stops f is e) y h = let both = sym e ∙ h in absurd (cc)
then_finds fact first next each came (goes x is e) y h = each x came e y h

-- ---- the code of a chain

-- the first look of a chain ends it
pub stops_first : {A B : Type 0} (first : Look A) (next : A → Look B) (stop : Stop) → Stops first stop → Stops (Then first next) stop
stops_first first next NoMemory h = tt
stops_first first next (Refused why) h = stops why h refl

-- a later look ends the chain
pub stops_next : {A B : Type 0} (first : Look A) (next : A → Look B) (x : A) (stop : Stop) → first (Ok x) → Stops (next x) stop → Stops (Then first next) stop
stops_next first next x NoMemory is h = tt
stops_next first next x (Refused why) is h = goes x is h

-- a call passes on what ended a look early
pub passes_on : {A B : Type 0} (stands_for : A → B) (look : Look B) (result : Result A Stop) (stop : Stop) → IsErrAnd result (λ passed. passed ≡ stop) → Stops look stop
    → LooksAs stands_for look result
passes_on stands_for look result stop h stopped =
    let passed = err_from_is_err_and result h in
    subst (λ r. LooksAs stands_for look r) (sym (passed.1 ∙ ap Err passed.2)) stopped
