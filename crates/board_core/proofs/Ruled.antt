-- A step whose entry stands in the timeline of a state that was reached is the step of the rules.
use Rattle.std.proofs.Common.{◌≡◌, ℕ, ◌+◌, ◌≤◌, ◌<◌, nat_lt, Bool, true, false, List, [], ◌∷◌, ◌++◌, length, take, drop, refl, sym, ◌∙◌, ap, subst, arith, append_assoc}
use Rattle.std.specs.Prelude.{if◌then◌else◌}
use Rattle.std.specs.Option.{is_some}
use Rattle.std.proofs.lemmas.List.{append-nil, take_at, drop_at}
use Rattle.std.proofs.lemmas.Bool.Decides.{nat_tests}
use Rattle.nv_memory.specs.declared.entry.Entry.{Entry}
use Rattle.nv_memory.specs.declared.entry.Op.{Op}
use Rattle.nv_memory.specs.declared.board.Answer.{Answer}
use Rattle.nv_memory.specs.declared.board.Answer.TheVariants.{Done, Lost, Over}
use Rattle.nv_memory.specs.Board.{State, IsDone, IsLost, IsOver, Steps, after, leaving, ticks_of}
use Rattle.nv_memory.specs.Laws.{OperationsAreBounded}
use Rattle.board_core.specs.declared.fate.Fate.{Fate}
use Rattle.board_core.specs.declared.origin.ModelOrigin.{ModelOrigin}
use Rattle.board_core.specs.Laws.{IsLater, IsRuled, RulesDecide}
use Rattle.board_core.specs.Reached.{IsReached, first_state, replayed}
use Rattle.board_core.specs.Rules.{fate_answer, fate_of, harvests, model_after, model_answer, model_next}
use Rattle.board_core.proofs.ModelLemmas.{entry_by, fate-leaving, first_reached, left-again, next_after, reached_after, replayed-append, replayed-push, ticks-leaving}

-- replaying only appends
later_refl : (s : State) → IsLater s s
later_refl s = record { entries = []; timeline = sym (append-nil s.timeline); passed = []; harvest = sym (append-nil s.harvest) }

later_trans : (s t u : State) → IsLater s t → IsLater t u → IsLater s u
later_trans s t u a b =
    record {
      entries = a.entries ++ b.entries;
      timeline = b.timeline ∙ ap (λ (l : List Entry). l ++ b.entries) a.timeline ∙ append_assoc s.timeline a.entries b.entries;
      passed = a.passed ++ b.passed;
      harvest = b.harvest ∙ ap (λ (l : List ℕ). l ++ b.passed) a.harvest ∙ append_assoc s.harvest a.passed b.passed;
    }

later_next : (o : ModelOrigin) (s : State) (op : Op) (b : Bool) → IsLater s (if b then s else model_after o s op)
later_next o s op true = later_refl s
later_next o s op false = record { entries = entry_by o s op ∷ []; timeline = refl; passed = harvests o.trace s.tick (fate_of o s.tick s.stored op).ticks; harvest = refl }

later_replayed : (o : ModelOrigin) (es : List Entry) (s : State) → IsLater s (replayed o es s)
unfolding replayed
later_replayed o [] s = later_refl s
later_replayed o (e ∷ es) s = later_trans s (model_next o s e.op) (replayed o es (model_next o s e.op)) (later_next o s e.op (nat_lt s.life (s.tick + ticks_of s.ticks e.op))) (later_replayed o es (model_next o s e.op))

-- fronts that are as long
same_front : (xs ys us vs : List ℕ) → xs ++ us ≡ ys ++ vs → length xs ≡ length ys → xs ≡ ys
same_front xs ys us vs is long = sym (take_at xs us (length xs) refl) ∙ ap (take (length xs)) is ∙ take_at ys vs (length xs) (sym long)

same_rest : (xs us vs : List Entry) → xs ++ us ≡ xs ++ vs → us ≡ vs
same_rest xs us vs is = sym (drop_at xs us (length xs) refl) ∙ ap (drop (length xs)) is ∙ drop_at xs vs (length xs) refl

same_rest_n : (xs us vs : List ℕ) → xs ++ us ≡ xs ++ vs → us ≡ vs
same_rest_n xs us vs is = sym (drop_at xs us (length xs) refl) ∙ ap (drop (length xs)) is ∙ drop_at xs vs (length xs) refl

head_is : (e f : Entry) (es fs : List Entry) → e ∷ es ≡ f ∷ fs → e ≡ f
head_is e f es fs is = cc

-- the entry that a step leaves, and the one of the rules for the operation that it names, are one; so are what was harvested
pub record IsSameStep (o : ModelOrigin) (s : State) (op : Op) (lost : Bool) (drawn : ℕ) (passed : List ℕ) : Type 0 where
  pub entry : record { tick = s.tick; stored = s.stored; drawn = drawn; ticks = length passed; op = op; lost = lost } ≡ entry_by o s op
  pub harvest : passed ≡ harvests o.trace s.tick (fate_of o s.tick s.stored op).ticks

-- op is what the entry names
same_step : (o : ModelOrigin) (s last : State) (op : Op) (lost : Bool) (drawn : ℕ) (passed : List ℕ) → IsReached o s → s.tick + ticks_of s.ticks op ≤ s.life
    → IsLater (after s op lost drawn passed) last → IsReached o last → IsSameStep o s op lost drawn passed
same_step o s last op lost drawn passed reached fits later last_reached =
    let e : Entry = record { tick = s.tick; stored = s.stored; drawn = drawn; ticks = length passed; op = op; lost = lost } in
    let r = model_next o s op in
    let next : r ≡ model_after o s op = next_after o s op fits in
    let lasts : last ≡ replayed o later.entries r =
    last_reached ∙ ap (λ (l : List Entry). replayed o l (first_state o)) later.timeline ∙ replayed-append o (s.timeline ++ e ∷ []) later.entries (first_state o)
    ∙ ap (replayed o later.entries) (replayed-push o s.timeline e (first_state o) ∙ ap (λ (x : State). model_next o x op) (sym reached)) in
    let ruled : IsLater (model_after o s op) last = subst (λ (x : State). IsLater (model_after o s op) x) (sym (lasts ∙ ap (replayed o later.entries) next)) (later_replayed o later.entries (model_after o s op)) in
    let e' = entry_by o s op in
    let both : s.timeline ++ (e ∷ later.entries) ≡ s.timeline ++ (e' ∷ ruled.entries) =
    sym (append_assoc s.timeline (e ∷ []) later.entries) ∙ sym later.timeline ∙ ruled.timeline ∙ append_assoc s.timeline (e' ∷ []) ruled.entries in
    let same_entry : e ≡ e' = head_is e e' later.entries ruled.entries (same_rest s.timeline (e ∷ later.entries) (e' ∷ ruled.entries) both) in
    let hs = harvests o.trace s.tick (fate_of o s.tick s.stored op).ticks in
    let both_h : passed ++ later.passed ≡ hs ++ ruled.passed = same_rest_n s.harvest (passed ++ later.passed) (hs ++ ruled.passed)
    (sym (append_assoc s.harvest passed later.passed) ∙ sym later.harvest ∙ ruled.harvest ∙ append_assoc s.harvest hs ruled.passed) in
    record { entry = same_entry; harvest = same_front passed hs later.passed ruled.passed both_h (ap (λ (x : Entry). x.ticks) same_entry) }

not_over : (life n : ℕ) → n ≤ life → nat_lt life n ≡ false
not_over life n le = grind (arith, nat_tests)

is_over : (life n : ℕ) → life < n → nat_lt life n ≡ true
is_over life n less = grind (arith, nat_tests)

answer_by : (o : ModelOrigin) (s : State) (op : Op) (lost : Bool) → s.tick + ticks_of s.ticks op ≤ s.life → lost ≡ is_some (fate_of o s.tick s.stored op).torn → (if lost then Lost else Done) ≡ model_answer o s op
answer_by o s op lost fits is =
    ap (λ (b : Bool). if b then Lost else Done) is
    ∙ sym (ap (λ (b : Bool). if b then Over else fate_answer o s op) (not_over s.life (s.tick + ticks_of s.ticks op) fits))

done_ruled : OperationsAreBounded → (o : ModelOrigin) (s t last : State) (op : Op) → IsReached o s → IsDone s op t → IsLater t last → IsReached o last → IsRuled o s op Done t
done_ruled law o s t last op reached done later last_reached =
    let later' = subst (λ (x : State). IsLater x last) done.becomes later in
    let step = same_step o s last op false done.drawn done.passed reached done.fits later' last_reached in
    let becomes : t ≡ model_after o s op = done.becomes ∙ λ i. after s (step.entry i).op (step.entry i).lost (step.entry i).drawn (step.harvest i) in
    record {
      answer_is = answer_by o s op false done.fits (ap (λ (x : Entry). x.lost) step.entry);
      next_is = becomes ∙ sym (next_after o s op done.fits);
      reached = subst (λ (x : State). IsReached o x) (sym becomes) (reached_after law o s op reached done.fits);
    }

lost_ruled : OperationsAreBounded → (o : ModelOrigin) (s t last : State) (op : Op) → IsReached o s → IsLost s op t → IsLater t last → IsReached o last → IsRuled o s op Lost t
lost_ruled law o s t last op reached lost later last_reached =
    let op' = leaving op lost.left in
    let fits' : s.tick + ticks_of s.ticks op' ≤ s.life = omega (arith, lost.fits, ticks-leaving s.ticks op lost.left) in
    let later' = subst (λ (x : State). IsLater x last) lost.becomes later in
    let step = same_step o s last op' true lost.drawn lost.passed reached fits' later' last_reached in
    let torn : true ≡ is_some (fate_of o s.tick s.stored op).torn = ap (λ (x : Entry). x.lost) step.entry ∙ ap (λ (f : Fate). is_some f.torn) (fate-leaving o s.tick s.stored op lost.left) in
    let becomes' : t ≡ model_after o s op' = lost.becomes ∙ λ i. after s (step.entry i).op (step.entry i).lost (step.entry i).drawn (step.harvest i) in
    let becomes = becomes' ∙ left-again o s op lost.left lost.same_length (fate_of o s.tick s.stored op).torn refl (sym torn) in
    record {
      answer_is = answer_by o s op true lost.fits torn;
      next_is = becomes ∙ sym (next_after o s op lost.fits);
      reached = subst (λ (x : State). IsReached o x) (sym becomes) (reached_after law o s op reached lost.fits);
    }

over_ruled : (o : ModelOrigin) (s t : State) (op : Op) → IsReached o s → IsOver s op t → IsRuled o s op Over t
over_ruled o s t op reached over =
    let test = is_over s.life (s.tick + ticks_of s.ticks op) over.no_room in
    record {
      answer_is = sym (ap (λ (b : Bool). if b then Over else fate_answer o s op) test);
      next_is = over.same ∙ sym (ap (λ (b : Bool). if b then s else model_after o s op) test);
      reached = subst (λ (x : State). IsReached o x) (sym over.same) reached;
    }

step_ruled : OperationsAreBounded → (o : ModelOrigin) (s t last : State) (op : Op) (answer : Answer) → IsReached o s → Steps s op answer t → IsLater t last → IsReached o last → IsRuled o s op answer t
step_ruled law o s t last op Done reached step later last_reached = done_ruled law o s t last op reached step later last_reached
step_ruled law o s t last op Lost reached step later last_reached = lost_ruled law o s t last op reached step later last_reached
step_ruled law o s t last op Over reached step later last_reached = over_ruled o s t op reached step

pub decided : OperationsAreBounded → (o : ModelOrigin) → RulesDecide o
decided law o =
    record {
      first = first_reached o;
      step = step_ruled law o;
      one = λ s t s_reached t_reached same. s_reached ∙ ap (λ (l : List Entry). replayed o l (first_state o)) same ∙ sym t_reached;
    }
