-- A section or a handler, instruction by instruction.
use Rattle.std.proofs.Common.{◌≡◌, ◌≢◌, ℕ, ◌+◌, ◌-◌, ◌<◌, ◌≤◌, Bool, true, false, List, [], ◌∷◌, ◌++◌, length, Option, Some, None, refl, sym, ap, ◌∙◌, subst, arith, zero, suc, inl, inr, length-append, append-nil, append_assoc}
use Rattle.std.specs.Prelude.{slice_get, unwrap_or, All, IfSome, FitsSigned}
use Rattle.std.specs.Int.{w32}
use Rattle.std.proofs.lemmas.List.Elements.{All-nil, All-cons, All-append}
use Rattle.std.specs.Option.{option_map_or}
use Rattle.cat_program.specs.Meaning.{Output}
use Rattle.nv_memory.specs.declared.device.Class.{Class}
use Rattle.cat_machine.specs.declared.instr.Instr.{Instr}
use Rattle.cat_machine.specs.declared.instr.Instr.TheVariants as i
use Rattle.cat_machine.specs.declared.instr.Fetched.{Fetched}
use Rattle.cat_machine.specs.declared.instr.Mode.{Mode}
use Rattle.cat_machine.specs.declared.instr.Mode.TheVariants.{Task, Handler}
use Rattle.cat_machine.specs.declared.instr.Did.{Did}
use Rattle.cat_machine.specs.declared.instr.Did.TheVariants as did
use Rattle.cat_machine.specs.ClassOf.{class_of}
use Rattle.cat_machine.specs.CodeValue.{CodeValue}
use Rattle.cat_machine.specs.Held.{Held}
use Rattle.cat_machine.specs.Machine.{Stepping, Ended', next_of, IsNext, fetched, step_at, step_of, goes_on, until, prepended, after_step, follow, Unacted, Begun, Further}
use Rattle.cat_machine.specs.Ends.{PutsBy, RunsEnd}
use Rattle.cat_machine.specs.Fits.{ReadyFor}
use Rattle.std.proofs.lemmas.Bool.{cases_lt}
use Rattle.nv_memory.specs.declared.device.Class.TheVariants.{Basic}
use Rattle.nv_memory.specs.Board.{State}
use Rattle.cn_scheduler.specs.declared.plan.Plan.{Plan}
use Rattle.cn_scheduler.specs.declared.engine.Chunk.{Chunk}
use Rattle.cn_scheduler.specs.declared.engine.Chunk.TheVariants.{Ended, Dropped, Lost, Over, Full}
use Rattle.cn_scheduler.specs.Paths.{Act, is_out, puts_out, own_out, outs_after, acts_of, last_outs, run_outs, run_acts}
use Rattle.cn_scheduler.specs.Asked.{Ask, listed, outs_in, ask_with, path_asks, Limits, IsAbove, HasRoom, Stops, Goes, Asked}
use Rattle.cn_scheduler.specs.Chunks.{AreFit}
use Rattle.cn_scheduler.specs.Steps.{out_of, AskedOnce, limits_of, PathLeaves}

until_suc : (n : ℕ) (mode : Mode) (code : CodeValue) (h : Held) → until (suc n) mode code h ≡ after_step mode (until n mode code) (unwrap_or (next_of code h) 0) (step_of mode code h)
unfolding until
until_suc n mode code h = refl

until_zero : (mode : Mode) (code : CodeValue) (h : Held) → until 0 mode code h ≡ None
unfolding until
until_zero mode code h = refl

-- ---- what an instruction puts out

-- the outputs of an instruction and of those behind it, seen from it
pub record Fronts (instr : Instr) (d : Did) (outs : List Output) : Type 0 where
  pub own : own_out (is_out instr) (listed (out_of d) ++ outs) ≡ out_of d
  pub behind : outs_after (is_out instr) (listed (out_of d) ++ outs) ≡ outs

fronts : (instr : Instr) (d : Did) (outs : List Output) → PutsBy instr d → Fronts instr d outs
fronts (i.Out c) (did.Emitted c' v) outs h = record { own = refl; behind = refl }
fronts (i.Out c) did.Went outs h = absurd h
fronts (i.Out c) did.Acted outs h = absurd h
fronts (i.Out c) did.Ended outs h = absurd h
fronts _ (did.Emitted c v) outs h = absurd h
fronts _ did.Went outs h = record { own = refl; behind = refl }
fronts _ did.Acted outs h = record { own = refl; behind = refl }
fronts _ did.Ended outs h = record { own = refl; behind = refl }

last_listed : (d : Did) → last_outs d ≡ listed (out_of d)
last_listed (did.Emitted c v) = refl
last_listed did.Went = refl
last_listed did.Acted = refl
last_listed did.Ended = refl

on_listed : (mode : Mode) (d : Did) (outs : List Output) → goes_on mode d ≡ Some outs → outs ≡ listed (out_of d)
on_listed mode did.Went outs e = cc
on_listed Task (did.Emitted c v) outs e = cc
on_listed Handler (did.Emitted c v) outs e = cc
on_listed Task did.Acted outs e = cc
on_listed Handler did.Acted outs e = cc
on_listed Task did.Ended outs e = cc
on_listed Handler did.Ended outs e = cc

task_went : (d : Did) (outs : List Output) → goes_on Task d ≡ Some outs → d ≡ did.Went
task_went did.Went outs e = refl
task_went (did.Emitted c v) outs e = cc
task_went did.Acted outs e = cc
task_went did.Ended outs e = cc

abbrev act : ℕ → Class → Option Output → Act
act pc class out = record { pc = pc; class = class; out = out }

-- ---- one instruction of a run

module _ (mode : Mode) (code : CodeValue) (h : Held) (n pc : ℕ) (instr : Instr) (s : Stepping) (run : Ended')
    (next : next_of code h ≡ Some pc) (at : slice_get code.instrs pc ≡ Some instr) (step : step_of mode code h ≡ Some s) (puts : PutsBy instr s.did)
    (ends : until (suc n) mode code h ≡ Some run) where
  followed : follow (until n mode code) pc s (goes_on mode s.did) ≡ Some run
  followed =
      ap (λ (o : Option ℕ). after_step mode (until n mode code) (unwrap_or o 0) (Some s)) (sym next)
      ∙ ap (after_step mode (until n mode code) (unwrap_or (next_of code h) 0)) (sym step) ∙ sym (until_suc n mode code h) ∙ ends

  -- the first act, where these outputs follow
  first : (path : List ℕ) (outs : List Output) → acts_of code (pc ∷ path) (listed (out_of s.did) ++ outs) ≡ act pc (class_of instr) (out_of s.did) ∷ acts_of code path outs
  first path outs =
      let f = fronts instr s.did outs puts in
      ap (λ (o : Option Instr). record { pc = pc; class = option_map_or class_of o Basic; out = own_out (option_map_or is_out o false) (listed (out_of s.did) ++ outs) } ∷ acts_of code path (outs_after (option_map_or is_out o false) (listed (out_of s.did) ++ outs))) at
      ∙ ap (λ (o : Option Output). record { pc = pc; class = class_of instr; out = o } ∷ acts_of code path (outs_after (is_out instr) (listed (out_of s.did) ++ outs))) f.own
      ∙ ap (λ (xs : List Output). act pc (class_of instr) (out_of s.did) ∷ acts_of code path xs) f.behind

  -- the run ends with it
  pub record IsLastStep : Type 0 where
    pub acts : run_acts code run ≡ act pc (class_of instr) (out_of s.did) ∷ []
    pub outs : run_outs run ≡ listed (out_of s.did)
    pub after : run.after ≡ s.after

  pub last_step : goes_on mode s.did ≡ None → IsLastStep
  last_step over =
      let is : Some (let r : Ended' = record { path = pc ∷ []; outs = []; did = s.did; after = s.after } in r) ≡ Some run = ap (follow (until n mode code) pc s) (sym over) ∙ followed in
      let same : run ≡ record { path = pc ∷ []; outs = []; did = s.did; after = s.after } = cc in
      let outs : last_outs s.did ≡ listed (out_of s.did) = last_listed s.did in
      record {
        acts = ap (run_acts code) same ∙ ap (acts_of code (pc ∷ [])) (outs ∙ sym (append-nil (listed (out_of s.did)))) ∙ first [] [];
        outs = ap run_outs same ∙ outs;
        after = ap (λ (r : Ended'). r.after) same;
      }

  -- the run goes on behind it
  pub record IsStep : Type 0 where
    pub rest : Ended'
    pub ends_later : until n mode code s.after ≡ Some rest
    pub acts : run_acts code run ≡ act pc (class_of instr) (out_of s.did) ∷ run_acts code rest
    pub outs : run_outs run ≡ listed (out_of s.did) ++ run_outs rest
    pub after : run.after ≡ rest.after

  pub one_step : (outs : List Output) → goes_on mode s.did ≡ Some outs → IsStep
  one_step outs on = by_rest (until n mode code s.after) refl (ap (follow (until n mode code) pc s) (sym on) ∙ followed)
    where
      by_rest : (o : Option Ended') → until n mode code s.after ≡ o → prepended (pc ∷ []) outs o ≡ Some run → IsStep
      by_rest None e w = cc
      by_rest (Some rest) e w =
          let same : run ≡ record { path = pc ∷ [] ++ rest.path; outs = outs ++ rest.outs; did = rest.did; after = rest.after } = cc in
          let mine : outs ≡ listed (out_of s.did) = on_listed mode s.did outs on in
          let all : run_outs run ≡ listed (out_of s.did) ++ run_outs rest = ap run_outs same ∙ ap (λ (xs : List Output). xs ++ rest.outs ++ last_outs rest.did) mine ∙ append_assoc (listed (out_of s.did)) rest.outs (last_outs rest.did) in
          record {
            rest = rest;
            ends_later = e;
            acts = ap (λ (r : Ended'). acts_of code r.path (run_outs run)) same ∙ ap (acts_of code (pc ∷ rest.path)) all ∙ first rest.path (run_outs rest);
            outs = all;
            after = ap (λ (r : Ended'). r.after) same;
          }

-- a run has an instruction
many_acts : (code : CodeValue) (path : List ℕ) (outs : List Output) → length (acts_of code path outs) ≡ length path
many_acts code [] outs = refl
many_acts code (pc ∷ path) outs = omega (arith, many_acts code path (outs_after (puts_out code pc) outs))

pub some_acts : (mode : Mode) (code : CodeValue) (h : Held) (n : ℕ) (run : Ended') → until (suc n) mode code h ≡ Some run → 0 < length (run_acts code run)
some_acts mode code h n run ends = by_step (step_of mode code h) (sym (until_suc n mode code h) ∙ ends)
  where
    by_path : run.path ≢ [] → 0 < length (run_acts code run)
    by_path some = by_list run.path refl
      where
        by_list : (path : List ℕ) → run.path ≡ path → 0 < length (run_acts code run)
        by_list [] e = absurd (some e)
        by_list (pc ∷ path) e = omega (arith, many_acts code run.path (run_outs run), ap length e)

    by_rest : (pc : ℕ) (outs : List Output) (o : Option Ended') → prepended (pc ∷ []) outs o ≡ Some run → 0 < length (run_acts code run)
    by_rest pc outs None w = cc
    by_rest pc outs (Some rest) w = by_path (λ none. let same : run.path ≡ pc ∷ rest.path = cc in cc)

    by_outs : (pc : ℕ) (s : Stepping) (g : Option (List Output)) → follow (until n mode code) pc s g ≡ Some run → 0 < length (run_acts code run)
    by_outs pc s None w = by_path (λ none. let same : run.path ≡ pc ∷ [] = cc in cc)
    by_outs pc s (Some outs) w = by_rest pc outs (until n mode code s.after) w

    by_step : (o : Option Stepping) → after_step mode (until n mode code) (unwrap_or (next_of code h) 0) o ≡ Some run → 0 < length (run_acts code run)
    by_step None w = cc
    by_step (Some s) w = by_outs (unwrap_or (next_of code h) 0) s (goes_on mode s.did) w

-- ---- how far it came

-- an output that is a number of four bytes
abbrev pub Fit : Output → Type 0
Fit o = FitsSigned w32 o.1

fit_listed : (o : Option Output) → IfSome o Fit → All Fit (listed o)
fit_listed None h = All-nil Fit
fit_listed (Some x) h = All-cons Fit x [] h (All-nil Fit)

pub are_fit : (outs : List Output) → All Fit outs → AreFit outs
are_fit [] h = tt
are_fit (o ∷ outs) h = (h 0 o (omega arith), are_fit outs (λ k d less. h (suc k) d (omega (arith, less))))

-- from the start of a path to here: what comes of the rest comes of the whole
pub record Onward (plan : Plan) (mode : Mode) (start : Held) (first : ℕ) (old : State) (run : Ended') (held : Held) (len : ℕ) (now : State) (left : ℕ) : Type 0 where
  pub rest : Ended'
  pub ends : until left mode plan.code held ≡ Some rest
  pub asked : (o : Chunk) (s : State) → Asked (limits_of plan mode) now (path_asks plan.layout len (run_acts plan.code rest)) o s → Asked (limits_of plan mode) old (path_asks plan.layout first (run_acts plan.code run)) o s
  pub after : run.after ≡ rest.after
  pub outs : len + length (run_outs rest) ≡ first + length (run_outs run)
  pub still : mode ≡ Task → Unacted plan.code start held × (len ≡ first)
  pub fits : All Fit (run_outs rest) → All Fit (run_outs run)

pub onward_starts : (plan : Plan) (mode : Mode) (held : Held) (len : ℕ) (now : State) (run : Ended') → until 1000000 mode plan.code held ≡ Some run → Onward plan mode held len now run held len now (1000000 - 0)
onward_starts plan mode held len now run ends = record {
  rest = run;
  ends = ends;
  asked = λ o s a. a;
  after = refl;
  outs = refl;
  still = λ _. (Begun, refl);
  fits = λ h. h;
}

pub less_left : (turn : ℕ) → turn < 1000000 → 1000000 - turn ≡ suc (1000000 - (turn + 1))
less_left turn less = omega arith

pub none_left : (plan : Plan) (mode : Mode) (start : Held) (first : ℕ) (old : State) (run : Ended') (held : Held) (len : ℕ) (now : State) (turn : ℕ) → 1000000 ≤ turn
    → Onward plan mode start first old run held len now (1000000 - turn) → ⊥
none_left plan mode start first old run held len now turn past w =
    let zero : 1000000 - turn ≡ 0 = omega arith in
    let none = sym (until_zero mode plan.code held) ∙ ap (λ (n : ℕ). until n mode plan.code held) (sym zero) ∙ w.ends in
    cc

-- there is a step
pub next_step : (plan : Plan) (mode : Mode) (held : Held) (turn : ℕ) (rest : Ended') → turn < 1000000 → until (1000000 - turn) mode plan.code held ≡ Some rest → (s : Stepping) × (step_of mode plan.code held ≡ Some s)
next_step plan mode held turn rest less ends =
    by_step (step_of mode plan.code held) refl (sym (until_suc (1000000 - (turn + 1)) mode plan.code held) ∙ ap (λ (n : ℕ). until n mode plan.code held) (sym (less_left turn less)) ∙ ends)
  where
    by_step : (o : Option Stepping) → step_of mode plan.code held ≡ o → after_step mode (until (1000000 - (turn + 1)) mode plan.code) (unwrap_or (next_of plan.code held) 0) (step_of mode plan.code held) ≡ Some rest → (s : Stepping) × (step_of mode plan.code held ≡ Some s)
    by_step None e w = let x = ap (after_step mode (until (1000000 - (turn + 1)) mode plan.code) (unwrap_or (next_of plan.code held) 0)) (sym e) ∙ w in cc
    by_step (Some s) e w = (s, e)

-- the place of the next instruction
pub next_place : (mode : Mode) (code : CodeValue) (held : Held) (s : Stepping) → step_of mode code held ≡ Some s → (pc : ℕ) × (next_of code held ≡ Some pc)
next_place mode code held s step = by_place (next_of code held) refl (step)
  where
    by_place : (o : Option ℕ) → next_of code held ≡ o → step_of mode code held ≡ Some s → (pc : ℕ) × (next_of code held ≡ Some pc)
    by_place None e w = let x = ap (step_at mode code held) (sym e) ∙ w in cc
    by_place (Some pc) e w = (pc, e)

-- an instruction in a path
module _ (plan : Plan) (mode : Mode) (start : Held) (first : ℕ) (old : State) (run : Ended') (held : Held) (len : ℕ) (now : State) (turn pc : ℕ) (instr : Instr) (s : Stepping)
    (less : turn < 1000000) (w : Onward plan mode start first old run held len now (1000000 - turn))
    (next : next_of plan.code held ≡ Some pc) (at : slice_get plan.code.instrs pc ≡ Some instr) (step : step_of mode plan.code held ≡ Some s) (puts : PutsBy instr s.did) where
  ends_now : until (suc (1000000 - (turn + 1))) mode plan.code held ≡ Some w.rest
  ends_now = ap (λ (n : ℕ). until n mode plan.code held) (sym (less_left turn less)) ∙ w.ends

  abbrev asking : Ask
  asking = ask_with plan.layout len pc (class_of instr) (out_of s.did)

  abbrev later : List Act → List Ask
  later acts = asking ∷ path_asks plan.layout (len + length (listed (out_of s.did))) acts

  -- the rest of the path begins with it
  begins : (acts : List Act) → run_acts plan.code w.rest ≡ act pc (class_of instr) (out_of s.did) ∷ acts → path_asks plan.layout len (run_acts plan.code w.rest) ≡ later acts
  begins acts e = ap (path_asks plan.layout len) e

  -- what comes of the rest by acts
  whole : (acts : List Act) → run_acts plan.code w.rest ≡ act pc (class_of instr) (out_of s.did) ∷ acts → (o : Chunk) (t : State) → Asked (limits_of plan mode) now (later acts) o t
      → Asked (limits_of plan mode) old (path_asks plan.layout first (run_acts plan.code run)) o t
  whole acts e o t a = w.asked o t (subst (λ (asks : List Ask). Asked (limits_of plan mode) now asks o t) (sym (begins acts e)) a)

  -- the acts behind it
  rest_acts : (d : Option (List Output)) → goes_on mode s.did ≡ d → (acts : List Act) × (run_acts plan.code w.rest ≡ act pc (class_of instr) (out_of s.did) ∷ acts)
  rest_acts None over = ([], (last_step mode plan.code held (1000000 - (turn + 1)) pc instr s w.rest next at step puts ends_now over).acts)
  rest_acts (Some outs) on = let m = one_step mode plan.code held (1000000 - (turn + 1)) pc instr s w.rest next at step puts ends_now outs on in (run_acts plan.code m.rest, m.acts)

  -- a path that stops at it
  pub stops_here : (o : Chunk) (t : State) → Stops (limits_of plan mode) now asking o t → Asked (limits_of plan mode) old (path_asks plan.layout first (run_acts plan.code run)) o t
  stops_here o t stop = let r = rest_acts (goes_on mode s.did) refl in whole r.0 r.1 o t (inl stop)

  -- a path that ends with it
  pub ends_here : (t : State) → goes_on mode s.did ≡ None → Goes (limits_of plan mode) now asking t → IfSome (out_of s.did) Fit
      → Asked (limits_of plan mode) old (path_asks plan.layout first (run_acts plan.code run)) Ended t × (s.after ≡ run.after) × (len + length (listed (out_of s.did)) ≡ first + length (run_outs run)) × All Fit (run_outs run)
  ends_here t over goes fit =
      let m = last_step mode plan.code held (1000000 - (turn + 1)) pc instr s w.rest next at step puts ends_now over in
      (whole [] m.acts Ended t (inr (t, goes, refl)), sym (w.after ∙ m.after), ap (λ (xs : List Output). len + length xs) (sym m.outs) ∙ w.outs, w.fits (subst (All Fit) (sym m.outs) (fit_listed (out_of s.did) fit)))

  -- a path that goes on behind it
  pub goes_here : (t : State) (outs : List Output) (len' : ℕ) → goes_on mode s.did ≡ Some outs → Goes (limits_of plan mode) now asking t → IfSome (out_of s.did) Fit → len' ≡ len + length (listed (out_of s.did))
      → Onward plan mode start first old run s.after len' t (1000000 - (turn + 1))
  goes_here t outs len' on goes fit many =
      let m = one_step mode plan.code held (1000000 - (turn + 1)) pc instr s w.rest next at step puts ends_now outs on in
      record {
        rest = m.rest;
        ends = m.ends_later;
        asked = λ o u a. whole (run_acts plan.code m.rest) m.acts o u (inr (t, goes, subst (λ (k : ℕ). Asked (limits_of plan mode) t (path_asks plan.layout k (run_acts plan.code m.rest)) o u) many a));
        after = w.after ∙ m.after;
        outs = omega (arith, many, w.outs, ap length m.outs, length-append (listed (out_of s.did)) (run_outs m.rest));
        still = λ e. still_so e (w.still e);
        fits = λ h. w.fits (subst (All Fit) (sym m.outs) (All-append Fit (listed (out_of s.did)) (run_outs m.rest) (fit_listed (out_of s.did) fit) h));
      }
    where
      still_so : mode ≡ Task → Unacted plan.code start held × (len ≡ first) → Unacted plan.code start s.after × (len' ≡ first)
      still_so e u =
          let went = task_went s.did outs (subst (λ (m : Mode). goes_on m s.did ≡ Some outs) e on) in
          let one : step_of Task plan.code held ≡ Some (record { did = did.Went; after = s.after }) =
          subst (λ (m : Mode). step_of m plan.code held ≡ Some s) e step ∙ ap (λ (d : Did). Some (let t : Stepping = record { did = d; after = s.after } in t)) went in
          let none : length (listed (out_of s.did)) ≡ 0 = ap (λ (d : Did). length (listed (out_of d))) went in
          (Further u.0 one, omega (arith, u.1, many, none))

-- ---- the parts of the code

pub ready_still : (mode : Mode) (code : CodeValue) (start now : Held) → ReadyFor mode code start → now.kept ≡ start.kept → (pc : ℕ) × (next_of code now ≡ Some pc) → ReadyFor mode code now
ready_still Task code start now ready same next = (same ∙ ready.0, next)
ready_still Handler code start now ready same next = (ready.0, same ∙ ready.1)

pub next_there : (mode : Mode) (code : CodeValue) (held : Held) (s : Stepping) → step_of mode code held ≡ Some s → (next : Fetched) × IsNext code held next
next_there mode code held s step = by_instr (slice_get code.instrs place.0) refl
  where
    place : (pc : ℕ) × (next_of code held ≡ Some pc)
    place = next_place mode code held s step

    by_instr : (o : Option Instr) → slice_get code.instrs place.0 ≡ o → (next : Fetched) × IsNext code held next
    by_instr None e = let x = ap (fetched mode place.0 held) (sym e) ∙ ap (step_at mode code held) (sym place.1) ∙ step in cc
    by_instr (Some instr) e = (record { pc = place.0; instr = instr }, (place.1, e))

pub stops_of : (l : Limits) (size : ℕ) (old : State) (a : Ask) (o : Chunk) (new : State) → o ≢ Ended → l.size ≡ size → IsAbove l old → AskedOnce size old a o new → Stops l old a o new
stops_of l size old a Ended new not same above asked = absurd (not refl)
stops_of l size old a Dropped new not same above asked = absurd asked
stops_of l size old a Lost new not same above asked = (above, subst (λ n. HasRoom n a.place) (sym same) asked.0, asked.1)
stops_of l size old a Over new not same above asked = (above, subst (λ n. HasRoom n a.place) (sym same) asked.0, asked.1)
stops_of l size old a Full new not same above asked = (above, (λ room. asked.0 (subst (λ n. HasRoom n a.place) same room)), asked.1)

pub goes_of : (l : Limits) (size : ℕ) (old : State) (a : Ask) (new : State) → l.size ≡ size → IsAbove l old → AskedOnce size old a Ended new → Goes l old a new
goes_of l size old a new same above asked = record { above = above; room = subst (λ n. HasRoom n a.place) (sym same) asked.0; done = asked.1 }

pub size_is : (plan : Plan) (mode : Mode) → (limits_of plan mode).size ≡ plan.layout.log
size_is plan Task = refl
size_is plan Handler = refl

-- the store is low for tasks alone
pub low_in_task : (plan : Plan) (mode : Mode) (s : State) → s.stored < (limits_of plan mode).floor s.tick → mode ≡ Task
low_in_task plan Task s low = refl
low_in_task plan Handler s low = absurd (omega (arith, low))

pub dropped_first : (plan : Plan) (mode : Mode) (start : Held) (first : ℕ) (old : State) (run : Ended') (held : Held) (len : ℕ) (now : State) (turn : ℕ) → turn < 1000000
    → Onward plan mode start first old run held len now (1000000 - turn) → now.stored < (limits_of plan mode).floor now.tick → now.on ≡ true → PathLeaves plan mode run start first old Dropped held len now
dropped_first plan mode start first old run held len now turn less w low on = record {
  asked = w.asked Dropped now (by_path w.rest (ap (λ (n : ℕ). until n mode plan.code held) (sym (less_left turn less)) ∙ w.ends));
  ended = λ e. cc;
  dropped = λ e. let u = w.still (low_in_task plan mode now low) in (low_in_task plan mode now low, u.0, u.1, on);
}
  where
    -- some instruction is to come
    by_acts : (acts : List Act) → 0 < length acts → Asked (limits_of plan mode) now (path_asks plan.layout len acts) Dropped now
    by_acts [] some = absurd (omega (arith, some))
    by_acts (a ∷ acts) some = inl (low, refl)

    by_path : (rest : Ended') → until (suc (1000000 - (turn + 1))) mode plan.code held ≡ Some rest → Asked (limits_of plan mode) now (path_asks plan.layout len (run_acts plan.code rest)) Dropped now
    by_path rest e = by_acts (run_acts plan.code rest) (some_acts mode plan.code held (1000000 - (turn + 1)) rest e)

pub not_below : (a b : ℕ) (x : Bool) → (a < b → x ≡ true) → x ≡ false → b ≤ a
not_below a b x h is = elim (cases_lt a b) [ inl less ↦ absurd (let both = sym (h less) ∙ is in cc) | inr le ↦ le ]

pub some_of : {X : Type 0} (o : Option X) → (o ≡ None → ⊥) → (x : X) × (o ≡ Some x)
some_of None h = absurd (h refl)
some_of (Some x) h = (x, refl)

-- the outputs of the instructions are those of the run
pub outs_are : RunsEnd → (mode : Mode) (code : CodeValue) (n : ℕ) (h : Held) (run : Ended') → until n mode code h ≡ Some run → outs_in (run_acts code run) ≡ run_outs run
outs_are runs mode code zero h run ends = let none = sym (until_zero mode code h) ∙ ends in cc
outs_are runs mode code (suc n) h run ends = by_step (λ k r e. outs_are runs mode code n k r e) (step_of mode code h) refl
  where
    by_step : ((k : Held) (r : Ended') → until n mode code k ≡ Some r → outs_in (run_acts code r) ≡ run_outs r) → (o : Option Stepping) → step_of mode code h ≡ o → outs_in (run_acts code run) ≡ run_outs run
    by_step again None e = let x = ap (after_step mode (until n mode code) (unwrap_or (next_of code h) 0)) (sym e) ∙ sym (until_suc n mode code h) ∙ ends in cc
    by_step again (Some s) e = by_on (goes_on mode s.did) refl
      where
        found : (next : Fetched) × IsNext code h next
        found = next_there mode code h s e

        puts : PutsBy found.0.instr s.did
        puts = runs.puts mode code h found.0.pc found.0.instr s found.1.0 found.1.1 e

        by_on : (o : Option (List Output)) → goes_on mode s.did ≡ o → outs_in (run_acts code run) ≡ run_outs run
        by_on None over =
            let m = last_step mode code h n found.0.pc found.0.instr s run found.1.0 found.1.1 e puts ends over in
            ap outs_in m.acts ∙ append-nil (listed (out_of s.did)) ∙ sym m.outs
        by_on (Some outs) on =
            let m = one_step mode code h n found.0.pc found.0.instr s run found.1.0 found.1.1 e puts ends outs on in
            ap outs_in m.acts ∙ ap (λ (xs : List Output). listed (out_of s.did) ++ xs) (again s.after m.rest m.ends_later) ∙ sym m.outs
