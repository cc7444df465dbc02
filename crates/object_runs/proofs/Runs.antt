-- Runs of instructions, one more at their front.
use Rattle.std.proofs.Common.{◌≡◌, ℕ, suc, List, [], ◌∷◌, ◌++◌, sym, ◌∙◌, ap}
use Rattle.std.specs.Prelude.{Option, Some, None, unwrap_or}
use Rattle.cat_program.specs.Meaning.{Output}
use Rattle.cat_machine.specs.declared.instr.Instr.{Instr}
use Rattle.cat_machine.specs.declared.instr.Mode.{Mode}
use Rattle.cat_machine.specs.CodeValue.{CodeValue}
use Rattle.cat_machine.specs.Held.{Held}
use Rattle.cat_machine.specs.Machine.{Ended', Stepping, act, after_step, fetched, follow, goes_on, next_of, prepended, step_at, step_of, until}
use Rattle.object_runs.proofs.Places.{At}

-- the run that is one instruction
abbrev pub alone : ℕ → Stepping → Ended'
alone pc s = record { path = pc ∷ []; outs = []; did = s.did; after = s.after }

-- one instruction before a run
abbrev pub then : ℕ → List Output → Ended' → Ended'
then pc outs e = record { path = pc ∷ e.path; outs = outs ++ e.outs; did = e.did; after = e.after }

module _ (mode : Mode) (code : CodeValue) (h : Held) (pc : ℕ) (s : Stepping) (next : next_of code h ≡ Some pc) (step : step_of mode code h ≡ Some s) where
  -- one step less leaves a run from the state after
  pub until_more : (n : ℕ) (o : Option (List Output)) → goes_on mode s.did ≡ o → until (suc n) mode code h ≡ follow (until n mode code) pc s o
  unfolding until
  until_more n o e =
      ap (λ z. after_step mode (until n mode code) (unwrap_or (next_of code h) 0) z) step ∙ ap (λ z. follow (until n mode code) (unwrap_or z 0) s (goes_on mode s.did)) next ∙ ap (λ z. follow (until n mode code) pc s z) e

  pub until_stops : (n : ℕ) → goes_on mode s.did ≡ None → until (suc n) mode code h ≡ Some (alone pc s)
  until_stops n e = until_more n None e

  pub until_goes : (n : ℕ) (outs : List Output) (e : Ended') → goes_on mode s.did ≡ Some outs → until n mode code s.after ≡ Some e → until (suc n) mode code h ≡ Some (then pc outs e)
  until_goes n outs e goes rest = until_more n (Some outs) goes ∙ ap (prepended (pc ∷ []) outs) rest

  pub acts_here : (x : Instr) → At code pc x → act mode x pc h ≡ Some s
  acts_here x is = sym (ap (fetched mode pc h) is) ∙ sym (ap (step_at mode code h) next) ∙ step
