-- A loop over the instructions of a run.
use Rattle.std.proofs.Common.{◌≡◌, ℕ, suc, ◌+◌, ◌-◌, ◌<◌, ◌≤◌, List, [], ◌∷◌, ◌++◌, length, Option, Some, None, refl, sym, ap, ◌∙◌, append_assoc, append-nil, arith}
use Rattle.std.specs.Prelude.{unwrap_or, map, ℤ}
use Rattle.std.proofs.Common.{length-append}
use Rattle.std.proofs.lemmas.List.{map-append}
use Rattle.cat_program.specs.declared.outs.LogEntry.TheVariants.{Out}
use Rattle.cat_program.specs.OutsValue.{OutsValue, entry_of}
use Rattle.cat_machine.specs.Fits.{HandlerStopped}
use Rattle.cat_program.specs.Meaning.{Output}
use Rattle.cat_machine.specs.declared.instr.Mode.{Mode}
use Rattle.cat_machine.specs.declared.instr.Mode.TheVariants.{Task, Handler}
use Rattle.cat_machine.specs.declared.instr.Did.{Did}
use Rattle.cat_machine.specs.declared.instr.Did.TheVariants.{Went, Acted, Ended, Emitted}
use Rattle.cat_machine.specs.CodeValue.{CodeValue}
use Rattle.cat_machine.specs.Held.{Held}
use Rattle.cat_machine.specs.Machine.{Stepping, step_of, next_of, goes_on, Ended', Stopped, prepended, follow, after_step, until}
use Rattle.cat_machine.proofs.Runs.{until_suc}

-- the run from the start is these outputs and then the run from now
pub record Going (mode : Mode) (code : CodeValue) (start now : Held) (left : ℕ) (outs : List Output) : Type 0 where
  pub all : Ended'
  pub rest : Ended'
  pub from : until 1000000 mode code start ≡ Some all
  pub later : until left mode code now ≡ Some rest
  pub did : all.did ≡ rest.did
  pub after : all.after ≡ rest.after
  pub outs_are : all.outs ≡ outs ++ rest.outs

module _ (mode : Mode) (code : CodeValue) where
  pub going_starts : (h : Held) (e : Ended') → until 1000000 mode code h ≡ Some e → Going mode code h h 1000000 []
  going_starts h e w = record { all = e; rest = e; from = w; later = w; did = refl; after = refl; outs_are = refl }

  step_in : (now : Held) (n : ℕ) (rest : Ended') (o : Option Stepping) → o ≡ step_of mode code now → after_step mode (until n mode code) (unwrap_or (next_of code now) 0) o ≡ Some rest → (s : Stepping) × (step_of mode code now ≡ Some s)
  step_in now n rest None e w = cc
  step_in now n rest (Some s) e w = (s, sym e)

  pub going_steps : (start now : Held) (left n : ℕ) (outs : List Output) → left ≡ suc n → Going mode code start now left outs → (s : Stepping) × (step_of mode code now ≡ Some s)
  going_steps start now left n outs e g =
      step_in now n g.rest (step_of mode code now) refl (sym (until_suc n mode code now) ∙ ap (λ m. until m mode code now) (sym e) ∙ g.later)

  -- what the step leads to
  followed : (start now : Held) (left n : ℕ) (outs : List Output) (s : Stepping) → left ≡ suc n → Going mode code start now left outs → (rest : Ended') → until left mode code now ≡ Some rest → step_of mode code now ≡ Some s → follow (until n mode code) (unwrap_or (next_of code now) 0) s (goes_on mode s.did) ≡ Some rest
  followed start now left n outs s e g rest w step =
      ap (after_step mode (until n mode code) (unwrap_or (next_of code now) 0)) (sym step) ∙ sym (until_suc n mode code now) ∙ ap (λ m. until m mode code now) (sym e) ∙ w

  pub going_on : (start now : Held) (left n : ℕ) (outs os : List Output) (s : Stepping) → left ≡ suc n → Going mode code start now left outs → step_of mode code now ≡ Some s → goes_on mode s.did ≡ Some os → Going mode code start s.after n (outs ++ os)
  going_on start now left n outs os s e g step goes =
      by_run (until n mode code s.after) refl (ap (follow (until n mode code) (unwrap_or (next_of code now) 0) s) (sym goes) ∙ followed start now left n outs s e g g.rest g.later step)
    where
      by_run : (o : Option Ended') → until n mode code s.after ≡ o → prepended (unwrap_or (next_of code now) 0 ∷ []) os o ≡ Some g.rest → Going mode code start s.after n (outs ++ os)
      by_run None d w = cc
      by_run (Some r) d w =
          let did_is : g.rest.did ≡ r.did = cc in
          let after_is : g.rest.after ≡ r.after = cc in
          let outs_is : g.rest.outs ≡ os ++ r.outs = cc in
          record { all = g.all; rest = r; from = g.from; later = d; did = g.did ∙ did_is; after = g.after ∙ after_is; outs_are = g.outs_are ∙ ap (λ x. outs ++ x) outs_is ∙ sym (append_assoc outs os r.outs) }

  pub going_stops : (start now : Held) (left n : ℕ) (outs : List Output) (s : Stepping) → left ≡ suc n → Going mode code start now left outs → step_of mode code now ≡ Some s → goes_on mode s.did ≡ None → Stopped mode code start outs s
  going_stops start now left n outs s e g step stops =
      let w = ap (follow (until n mode code) (unwrap_or (next_of code now) 0) s) (sym stops) ∙ followed start now left n outs s e g g.rest g.later step in
      let did_is : g.rest.did ≡ s.did = cc in
      let after_is : g.rest.after ≡ s.after = cc in
      let outs_is : g.rest.outs ≡ [] = cc in
      record { all = g.all; from = g.from; did = g.did ∙ did_is; after = g.after ∙ after_is; outs_are = g.outs_are ∙ ap (λ x. outs ++ x) outs_is ∙ append-nil outs }

  pub going_over : (start now : Held) (left : ℕ) (outs : List Output) → left ≡ 0 → Going mode code start now left outs → ⊥
  unfolding until
  going_over start now left outs e g = let w = ap (λ m. until m mode code now) (sym e) ∙ g.later in cc

-- in a task only an instruction that went goes on
pub task_stops : (d : Did) → (d ≡ Went → ⊥) → goes_on Task d ≡ None
task_stops Went h = absurd (h refl)
task_stops Acted h = refl
task_stops Ended h = refl
task_stops (Emitted c v) h = refl

pub less_left : (t : ℕ) → t < 1000000 → 1000000 - t ≡ suc (1000000 - (t + 1))
less_left t h = omega arith

-- two runs from one state are one
one_run : (mode : Mode) (code : CodeValue) (start now now' : Held) (left left' : ℕ) (outs outs' : List Output) (a : Going mode code start now left outs) (b : Going mode code start now' left' outs') → a.all ≡ b.all
one_run mode code start now now' left left' outs outs' a b = let both : Some a.all ≡ Some b.all = sym a.from ∙ b.from in cc

-- in a handler what was put out has joined the list, and there is room for the rest
pub record HandlerGoing (code : CodeValue) (start now : Held) (before after : OutsValue) (turn : ℕ) : Type 0 where
  pub outs : List Output
  pub going : Going Handler code start now (1000000 - turn) outs
  pub entries : after.entries ≡ before.entries ++ map entry_of outs
  pub spare : after.spare + length outs ≡ before.spare
  pub room : length going.all.outs ≤ before.spare

pub handler_starts : (code : CodeValue) (h : Held) (b : OutsValue) (e : Ended') → until 1000000 Handler code h ≡ Some e → length e.outs ≤ b.spare → HandlerGoing code h h b b 0
unfolding going_starts
handler_starts code h b e w le = record { outs = []; going = going_starts Handler code h e w; entries = sym (append-nil b.entries); spare = omega arith; room = le }

module _ (code : CodeValue) (start now : Held) (before after : OutsValue) (turn : ℕ) (less : turn < 1000000) (g : HandlerGoing code start now before after turn) where
  pub handler_steps : (s : Stepping) × (step_of Handler code now ≡ Some s)
  handler_steps = going_steps Handler code start now (1000000 - turn) (1000000 - (turn + 1)) g.outs (less_left turn less) g.going

  pub handler_went : (k : Held) → step_of Handler code now ≡ Some (record { did = Went; after = k }) → HandlerGoing code start k before after (turn + 1)
  handler_went k step =
      let go = going_on Handler code start now (1000000 - turn) (1000000 - (turn + 1)) g.outs [] (record { did = Went; after = k }) (less_left turn less) g.going step refl in
      let same : g.outs ++ [] ≡ g.outs = append-nil g.outs in
      record { outs = g.outs ++ []; going = go; entries = g.entries ∙ ap (λ x. before.entries ++ map entry_of x) (sym same); spare = omega (arith, g.spare, ap length same); room = omega (arith, g.room, ap (λ (r : Ended'). length r.outs) (one_run Handler code start k now _ _ _ _ go g.going)) }

  pub handler_room : (k : Held) (c : ℕ) (v : ℤ) → step_of Handler code now ≡ Some (record { did = Emitted c v; after = k }) → 0 < after.spare
  handler_room k c v step =
      let go = going_on Handler code start now (1000000 - turn) (1000000 - (turn + 1)) g.outs ((c, v) ∷ []) (record { did = Emitted c v; after = k }) (less_left turn less) g.going step refl in
      let long = ap length go.outs_are ∙ length-append (g.outs ++ (c, v) ∷ []) go.rest.outs in
      let more = length-append g.outs ((c, v) ∷ []) in
      let all_same = ap (λ (r : Ended'). length r.outs) (one_run Handler code start k now _ _ _ _ go g.going) in
      omega (arith, g.spare, g.room, all_same)

  pub handler_emitted : (k : Held) (c : ℕ) (v : ℤ) (later : OutsValue) → step_of Handler code now ≡ Some (record { did = Emitted c v; after = k }) → later ≡ record { entries = after.entries ++ Out c v ∷ []; spare = after.spare - 1 } → HandlerGoing code start k before later (turn + 1)
  handler_emitted k c v later step pushed =
      let go = going_on Handler code start now (1000000 - turn) (1000000 - (turn + 1)) g.outs ((c, v) ∷ []) (record { did = Emitted c v; after = k }) (less_left turn less) g.going step refl in
      let positive = handler_room k c v step in
      record {
        outs = g.outs ++ (c, v) ∷ [];
        going = go;
        entries = ap (λ (o : OutsValue). o.entries) pushed ∙ ap (λ x. x ++ Out c v ∷ []) g.entries ∙ append_assoc before.entries (map entry_of g.outs) (Out c v ∷ []) ∙ ap (λ x. before.entries ++ x) (sym (map-append entry_of g.outs ((c, v) ∷ [])));
        spare = omega (arith, g.spare, ap (λ (o : OutsValue). o.spare) pushed, length-append g.outs ((c, v) ∷ []));
        room = omega (arith, g.room, ap (λ (r : Ended'). length r.outs) (one_run Handler code start k now _ _ _ _ go g.going));
      }

  pub handler_ends : (d : Did) (k : Held) → step_of Handler code now ≡ Some (record { did = d; after = k }) → goes_on Handler d ≡ None → HandlerStopped code start before k after
  handler_ends d k step stops =
      let st = going_stops Handler code start now (1000000 - turn) (1000000 - (turn + 1)) g.outs (record { did = d; after = k }) (less_left turn less) g.going step stops in
      record {
        run = st.all;
        from = st.from;
        after = st.after;
        entries = g.entries ∙ ap (λ x. before.entries ++ map entry_of x) (sym st.outs_are);
        spare = omega (arith, g.spare, ap length st.outs_are);
      }

pub handler_over : (code : CodeValue) (start now : Held) (before after : OutsValue) (turn : ℕ) → 1000000 ≤ turn → HandlerGoing code start now before after turn → ⊥
handler_over code start now before after turn le g = going_over Handler code start now (1000000 - turn) g.outs (omega arith) g.going
