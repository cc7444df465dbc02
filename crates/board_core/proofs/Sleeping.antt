-- Ticks of sleep, one after the other and at once.
use Rattle.std.proofs.Common.{◌≡◌, ◌⊎◌, inl, inr, ℕ, zero, suc, ◌+◌, ◌-◌, ◌*◌, ◌≤◌, ◌<◌, min, nat_lt, Bool, false, List, [], ◌∷◌, ◌++◌, Some, None, refl, sym, ◌∙◌, ap, subst, arith, append_assoc}
use Rattle.std.specs.Prelude.{if◌then◌else◌}
use Rattle.std.specs.Option.{is_some}
use Rattle.std.proofs.Math.Nat.{suc-mul}
use Rattle.std.proofs.lemmas.Bool.Decides.{nat_tests}
use Rattle.harvest_trace.specs.Timeline.{harvest_at, life_of}
use Rattle.nv_memory.specs.declared.entry.Entry.{Entry}
use Rattle.nv_memory.specs.declared.entry.Op.TheVariants.{Sleep}
use Rattle.nv_memory.specs.declared.board.Answer.{Answer}
use Rattle.nv_memory.specs.declared.board.Answer.TheVariants.{Done}
use Rattle.nv_memory.specs.Board.{State, IsDone, IsSound, Sleeps, Rested, Further, after}
use Rattle.nv_memory.specs.Laws.{BoardsStaySound, OperationsAreBounded}
use Rattle.board_core.specs.declared.fate.Fate.{Fate}
use Rattle.board_core.specs.declared.origin.ModelOrigin.{ModelOrigin}
use Rattle.board_core.specs.Records.{sleeps}
use Rattle.board_core.specs.Onward.{Onward}
use Rattle.board_core.specs.ModelState.{model_state}
use Rattle.board_core.specs.Reached.{IsReached, model_start, slept}
use Rattle.board_core.specs.Rules.{fate_of, harvests, left_by, model_next}
use Rattle.board_core.proofs.ModelLemmas.{next_after, reached_after, stands}

never_less : (n : ℕ) → nat_lt n 0 ≡ false
never_less n = grind (arith, nat_tests)

abbrev rested : Fate
rested = record { drawn = 0; ticks = 1; torn = None }

pub fate_sleep : (o : ModelOrigin) (tick stored : ℕ) → fate_of o tick stored Sleep ≡ rested
fate_sleep o tick stored = ap (λ (b : Bool). if b then record { drawn = stored; ticks = 1; torn = Some o.device.fill } else rested) (never_less stored)

-- one tick of sleep
pub next_sleep : (o : ModelOrigin) (s : State) → s.tick + 1 ≤ s.life → model_next o s Sleep ≡ after s Sleep false 0 (harvest_at o.trace s.tick ∷ [])
next_sleep o s fits = next_after o s Sleep fits ∙ ap (λ (f : Fate). after s (left_by f.torn Sleep) (is_some f.torn) f.drawn (harvests o.trace s.tick f.ticks)) (fate_sleep o s.tick s.stored)

pub done_sleep : (o : ModelOrigin) (s : State) → s.tick + 1 ≤ s.life → IsDone s Sleep (model_next o s Sleep)
done_sleep o s fits =
    record {
      fits = fits;
      drawn = 0;
      affordable = omega arith;
      draws = refl;
      passed = harvest_at o.trace s.tick ∷ [];
      all_ticks = refl;
      becomes = next_sleep o s fits;
    }

-- what holds of every board, and that the rules lead there
pub slept_sound : BoardsStaySound → (o : ModelOrigin) (n : ℕ) (s : State) → IsSound (model_start o) s → s.tick + n ≤ s.life → IsSound (model_start o) (slept o n s)
unfolding slept
slept_sound stay o zero s sound fits = sound
slept_sound stay o (suc n) s sound fits =
    let t = after s Sleep false 0 (harvest_at o.trace s.tick ∷ []) in
    let first : s.tick + 1 ≤ s.life = omega arith in
    let t_sound : IsSound (model_start o) t = stay (model_start o) s Sleep false 0 (harvest_at o.trace s.tick ∷ []) sound tt (omega arith) first sound.bytes in
    let rest : (s.tick + 1) + n ≤ s.life = omega arith in
    subst (λ (x : State). IsSound (model_start o) (slept o n x)) (sym (next_sleep o s first)) (slept_sound stay o n t t_sound rest)

pub slept_reached : OperationsAreBounded → (o : ModelOrigin) (n : ℕ) (s : State) → IsReached o s → s.tick + n ≤ s.life → IsReached o (slept o n s)
unfolding slept
slept_reached law o zero s reached fits = reached
slept_reached law o (suc n) s reached fits =
    let t = after s Sleep false 0 (harvest_at o.trace s.tick ∷ []) in
    let first : s.tick + 1 ≤ s.life = omega arith in
    let e = next_sleep o s first in
    let t_reached : IsReached o t = subst (λ (x : State). IsReached o x) (sym (next_after o s Sleep first) ∙ e) (reached_after law o s Sleep reached first) in
    let rest : (s.tick + 1) + n ≤ s.life = omega arith in
    subst (λ (x : State). IsReached o (slept o n x)) (sym e) (slept_reached law o n t t_reached rest)

pub slept-add : (o : ModelOrigin) (n m : ℕ) (s : State) → slept o m (slept o n s) ≡ slept o (n + m) s
unfolding slept
slept-add o zero m s = let e : m ≡ 0 + m = omega arith in ap (λ (k : ℕ). slept o k s) e
slept-add o (suc n) m s = let e : suc (n + m) ≡ suc n + m = omega arith in slept-add o n m (model_next o s Sleep) ∙ ap (λ (k : ℕ). slept o k s) e

-- the fields after one tick
sleep_stands : (o : ModelOrigin) (image : List ℕ) (es : List Entry) (tick stored losses : ℕ) (on : Bool) (h : ℕ) → o.tick ≤ tick → tick + 1 ≤ life_of o.trace → harvest_at o.trace tick ≡ h
    → model_state o image (es ++ record { tick = tick; stored = stored; drawn = 0; ticks = 1; op = Sleep; lost = false } ∷ []) (tick + 1) (min o.device.cap (stored + h)) losses false
    ≡ model_next o (model_state o image es tick stored losses on) Sleep
sleep_stands o image es tick stored losses on h begun fits alike =
    let stored_is : min o.device.cap (stored + h) ≡ min o.device.cap ((stored - 0) + harvest_at o.trace tick) = omega (arith, alike) in
    stands o image es tick stored losses on Sleep rested false Sleep image (es ++ record { tick = tick; stored = stored; drawn = 0; ticks = 1; op = Sleep; lost = false } ∷ []) (min o.device.cap (stored + h)) losses false
    begun (sym (fate_sleep o tick stored)) refl refl refl refl stored_is refl refl
    ∙ sym (next_after o (model_state o image es tick stored losses on) Sleep fits)

joined : (cap stored x h y : ℕ) → y ≡ x + h → min cap (stored + y) ≡ min cap (min cap (stored + h) + x)
joined cap stored x h y is = omega arith

-- the fields after n + 1 ticks of one harvest
pub rest_stands : (o : ModelOrigin) (image : List ℕ) (es : List Entry) (tick stored losses : ℕ) (on : Bool) (n h : ℕ) → o.tick ≤ tick → tick + suc n ≤ life_of o.trace
    → ((t : ℕ) → tick ≤ t → t < tick + suc n → harvest_at o.trace t ≡ h)
    → model_state o image (es ++ sleeps o.device.cap tick stored h (suc n)) (tick + suc n) (min o.device.cap (stored + suc n * h)) losses false ≡ slept o (suc n) (model_state o image es tick stored losses on)
unfolding slept sleeps
rest_stands o image es tick stored losses on zero h begun fits alike =
    let once : stored + 1 * h ≡ stored + h = omega arith in
    ap (λ (k : ℕ). model_state o image (es ++ record { tick = tick; stored = stored; drawn = 0; ticks = 1; op = Sleep; lost = false } ∷ []) (tick + 1) (min o.device.cap k) losses false) once
    ∙ sleep_stands o image es tick stored losses on h begun fits (alike tick (omega arith) (omega arith))
rest_stands o image es tick stored losses on (suc n) h begun fits alike =
    let cap = o.device.cap in
    let e : Entry = record { tick = tick; stored = stored; drawn = 0; ticks = 1; op = Sleep; lost = false } in
    let next = min cap (stored + h) in
    let rest = sleeps cap (tick + 1) next h (suc n) in
    let more : suc (suc n) * h ≡ suc n * h + h = suc-mul (suc n) h in
    let tick_is : tick + suc (suc n) ≡ (tick + 1) + suc n = omega arith in
    let stored_is = joined cap stored (suc n * h) h (suc (suc n) * h) more in
    let es_are : es ++ e ∷ rest ≡ (es ++ e ∷ []) ++ rest = sym (append_assoc es (e ∷ []) rest) in
    let one = sleep_stands o image es tick stored losses on h begun (omega arith) (alike tick (omega arith) (omega arith)) in
    let here : model_state o image (es ++ e ∷ rest) (tick + suc (suc n)) (min cap (stored + suc (suc n) * h)) losses false ≡ model_state o image ((es ++ e ∷ []) ++ rest) ((tick + 1) + suc n) (min cap (next + suc n * h)) losses false =
    λ i. model_state o image (es_are i) (tick_is i) (stored_is i) losses false in
    here
    ∙ rest_stands o image (es ++ e ∷ []) (tick + 1) next losses false n h (omega arith) (omega arith) (λ t from until. alike t (omega arith) (omega arith))
    ∙ ap (slept o (suc n)) one

onward : (upto enough : ℕ) (s t : State) (answer : Answer) (u : State) → IsDone s Sleep t → Onward upto enough t answer u → Sleeps upto enough s answer u
onward upto enough s t answer u done (inl (answer_is, u_is, ended)) =
    subst (λ (a : Answer). Sleeps upto enough s a u) (sym answer_is) (subst (λ (v : State). Sleeps upto enough s Done v) (sym u_is) (Rested s t done ended))
onward upto enough s t answer u done (inr (early, little, rest)) = Further s t u answer done early little rest

little_first : (cap stored h x y enough : ℕ) → y ≡ x + h → min cap (stored + y) < enough → min cap (stored + h) < enough
little_first cap stored h x y enough is less = omega arith

little_rest : (cap stored h x y enough : ℕ) → y ≡ x + h → min cap (stored + y) < enough → min cap (min cap (stored + h) + x) < enough
little_rest cap stored h x y enough is less = omega arith

-- n + 1 ticks of sleep of which all but the last leave too little, before the last tick
pub sleeps_through : (o : ModelOrigin) (upto enough n h : ℕ) (s : State) → s.tick + suc n ≤ s.life → ((t : ℕ) → s.tick ≤ t → t < s.tick + suc n → harvest_at o.trace t ≡ h)
    → s.tick + n < upto → (n ≡ 0) ⊎ (min s.cap (s.stored + n * h) < enough)
    → (answer : Answer) (u : State) → Onward upto enough (slept o (suc n) s) answer u → Sleeps upto enough s answer u
unfolding slept
sleeps_through o upto enough zero h s fits alike early little answer u on = onward upto enough s (model_next o s Sleep) answer u (done_sleep o s fits) on
sleeps_through o upto enough (suc n) h s fits alike early (inl none) answer u on = absurd (omega arith)
sleeps_through o upto enough (suc n) h s fits alike early (inr little) answer u on =
    let passed = harvest_at o.trace s.tick ∷ [] in
    let t = after s Sleep false 0 passed in
    let first : s.tick + 1 ≤ s.life = omega arith in
    let is : model_next o s Sleep ≡ t = next_sleep o s first in
    let h_is = alike s.tick (omega arith) (omega arith) in
    let more : suc n * h ≡ n * h + h = suc-mul n h in
    let stored_is : t.stored ≡ min s.cap (s.stored + h) = omega (arith, h_is) in
    let few : t.stored < enough = let few' = little_first s.cap s.stored h (n * h) (suc n * h) enough more little in omega (arith, stored_is, few') in
    let rest : min s.cap (t.stored + n * h) < enough = let rest' = little_rest s.cap s.stored h (n * h) (suc n * h) enough more little in subst (λ (x : ℕ). min s.cap (x + n * h) < enough) (sym stored_is) rest' in
    let done : IsDone s Sleep t = subst (λ (x : State). IsDone s Sleep x) is (done_sleep o s first) in
    let on' : Onward upto enough (slept o (suc n) t) answer u = subst (λ (x : State). Onward upto enough (slept o (suc n) x) answer u) is on in
    let later = sleeps_through o upto enough n h t (omega arith) (λ k from until. alike k (omega arith) (omega arith)) (omega arith) (inr rest) answer u on' in
    Further s t u answer done (omega arith) few later

pub rest_is : (o : ModelOrigin) (image : List ℕ) (es : List Entry) (tick stored losses : ℕ) (on : Bool) (n h : ℕ) → 1 ≤ n → o.tick ≤ tick → tick + n ≤ life_of o.trace
    → ((t : ℕ) → tick ≤ t → t < tick + n → harvest_at o.trace t ≡ h)
    → model_state o image (es ++ sleeps o.device.cap tick stored h n) (tick + n) (min o.device.cap (stored + n * h)) losses false ≡ slept o n (model_state o image es tick stored losses on)
rest_is o image es tick stored losses on zero h some begun fits alike = absurd (omega arith)
rest_is o image es tick stored losses on (suc n) h some begun fits alike = rest_stands o image es tick stored losses on n h begun fits alike

pub slept_one : (o : ModelOrigin) (s : State) → slept o 1 s ≡ model_next o s Sleep
unfolding slept
slept_one o s = refl

pub slept_none : (o : ModelOrigin) (s : State) → slept o 0 s ≡ s
unfolding slept
slept_none o s = refl

-- as before, for a number of ticks
pub sleeps_on : (o : ModelOrigin) (upto enough n h : ℕ) (s : State) → 1 ≤ n → s.tick + n ≤ s.life → ((t : ℕ) → s.tick ≤ t → t < s.tick + n → harvest_at o.trace t ≡ h)
    → s.tick + n ≤ upto → (n ≡ 1) ⊎ (min s.cap (s.stored + (n - 1) * h) < enough)
    → (answer : Answer) (u : State) → Onward upto enough (slept o n s) answer u → Sleeps upto enough s answer u
sleeps_on o upto enough zero h s some fits alike early little answer u on = absurd (omega arith)
sleeps_on o upto enough (suc n) h s some fits alike early little answer u on =
    let less : (suc n) - 1 ≡ n = omega arith in
    let little' : (n ≡ 0) ⊎ (min s.cap (s.stored + n * h) < enough) = elim little [
      | inl one ↦ inl (omega arith)
      | inr few ↦ inr (subst (λ (k : ℕ). min s.cap (s.stored + k * h) < enough) less few)
    ] in
    sleeps_through o upto enough n h s fits alike (omega arith) little' answer u on
