-- The path of a run lies in the code.
use Rattle.std.proofs.Common.{◌≡◌, ℕ, zero, suc, List, [], ◌∷◌, ◌++◌, refl, subst, arith, Option, Some, None}
use Rattle.std.specs.Prelude.{slice_get, unwrap_or}
use Rattle.cat_program.specs.Meaning.{Output}
use Rattle.cat_machine.specs.declared.instr.Instr.{Instr}
use Rattle.cat_machine.specs.declared.instr.Mode.{Mode}
use Rattle.cat_machine.specs.CodeValue.{CodeValue}
use Rattle.cat_machine.specs.Costs.{IsPathIn}
use Rattle.cat_machine.specs.Held.{Held}
use Rattle.cat_machine.specs.Machine.{Ended', Stepping, until, next_of, step_of, step_at, fetched, after_step, follow, goes_on, prepended}

fetched_in : (mode : Mode) (pc : ℕ) (h : Held) (s : Stepping) (found : Option Instr) → fetched mode pc h found ≡ Some s → (instr : Instr) × (found ≡ Some instr)
fetched_in mode pc h s None is = absurd (cc)
fetched_in mode pc h s (Some instr) is = (instr, refl)

step_in : (mode : Mode) (code : CodeValue) (h : Held) (s : Stepping) (found : Option ℕ) → step_at mode code h found ≡ Some s →
    (instr : Instr) × (slice_get code.instrs (unwrap_or found 0) ≡ Some instr)
step_in mode code h s None is = absurd (cc)
step_in mode code h s (Some pc) is = fetched_in mode pc h s (slice_get code.instrs pc) is

follow_in : (code : CodeValue) (next : Held → Option Ended') (pc : ℕ) (s : Stepping) (outs : Option (List Output)) (run : Ended') →
    ((h : Held) (run : Ended') → next h ≡ Some run → IsPathIn code run.path) → (instr : Instr) × (slice_get code.instrs pc ≡ Some instr) →
    follow next pc s outs ≡ Some run → IsPathIn code run.path
follow_in code next pc s None run rest here is =
    let same : record { path = pc ∷ []; outs = []; did = s.did; after = s.after } ≡ run = cc in
    subst (λ (e : Ended'). IsPathIn code e.path) same ((here, tt), omega arith)
follow_in code next pc s (Some outs) run rest here is = go (next s.after) refl is
  where
    go : (e : Option Ended') → next s.after ≡ e → prepended (pc ∷ []) outs e ≡ Some run → IsPathIn code run.path
    go None from is = absurd (cc)
    go (Some e) from is =
        let same : record { path = pc ∷ e.path; outs = outs ++ e.outs; did = e.did; after = e.after } ≡ run = cc in
        subst (λ (e : Ended'). IsPathIn code e.path) same ((here, (rest s.after e from).0), omega arith)

pub path_in : (n : ℕ) (mode : Mode) (code : CodeValue) (h : Held) (run : Ended') → until n mode code h ≡ Some run → IsPathIn code run.path
unfolding until
path_in zero mode code h run is = absurd (cc)
path_in (suc n) mode code h run is = go (λ h r e. path_in n mode code h r e) (step_of mode code h) refl is
  where
    go : ((h : Held) (r : Ended') → until n mode code h ≡ Some r → IsPathIn code r.path) → (s : Option Stepping) → step_of mode code h ≡ s → after_step mode (until n mode code) (unwrap_or (next_of code h) 0) s ≡ Some run → IsPathIn code run.path
    go rest None from is = absurd (cc)
    go rest (Some s) from is =
        follow_in code (until n mode code) (unwrap_or (next_of code h) 0) s (goes_on mode s.did) run rest (step_in mode code h s (next_of code h) from) is
