-- The outputs of a run's instructions in turn are those of the run.
use Rattle.std.proofs.Common.{◌≡◌, ℕ, zero, suc, ◌+◌, Bool, true, false, List, [], ◌∷◌, ◌++◌, Option, Some, None, refl, sym, ap, ap₂, ◌∙◌, subst, append_assoc, append-nil}
use Rattle.std.specs.Prelude.{ℤ, pos, length, nat_lt, if◌then◌else◌, slice_get, slice_set, unwrap_or}
use Rattle.std.specs.Int.{w32, int_wrapping_sub}
use Rattle.cat_program.specs.Value.{index_of, is_nought, operator_value, signed_value, word_at}
use Rattle.std.specs.Option.{option_map_or}
use Rattle.cat_program.specs.Meaning.{Output, lowered, raised}
use Rattle.cat_machine.specs.declared.instr.Instr.{Instr}
use Rattle.cat_machine.specs.declared.instr.Instr.TheVariants as i
use Rattle.cat_machine.specs.declared.instr.Mode.{Mode}
use Rattle.cat_machine.specs.declared.instr.Mode.TheVariants.{Task, Handler}
use Rattle.cat_machine.specs.declared.instr.Did.{Did}
use Rattle.cat_machine.specs.declared.instr.Did.TheVariants.{Went, Acted, Ended, Emitted}
use Rattle.cat_machine.specs.CodeValue.{CodeValue}
use Rattle.cat_machine.specs.Held.{Held}
use Rattle.cat_machine.specs.Machine.{Stepping, Ended', act, acted, after_step, ended, fetched, follow, goes_on, if_so, is_array, moved, next_of, on_top, on_two, prepended, pushed, step_at, stored, until, went}
use Rattle.cn_scheduler.specs.Paths.{acts_of, is_out, last_outs, own_out, outs_after, puts_out, run_outs}
use Rattle.cn_scheduler.specs.Asked.{listed, outs_in}

-- ---- one instruction

abbrev IsQuiet : Option Stepping → Type 0
IsQuiet None = Unit {0}
IsQuiet (Some s) = last_outs s.did ≡ []

quiet_if : (b : Bool) (o : Option Stepping) → IsQuiet o → IsQuiet (if_so b o)
quiet_if true o q = q
quiet_if false o q = tt

quiet_top : (stack : List ℤ) (f : ℤ → List ℤ → Option Stepping) → ((x : ℤ) (below : List ℤ) → IsQuiet (f x below)) → IsQuiet (on_top stack f)
quiet_top [] f q = tt
quiet_top (x ∷ below) f q = q x below

quiet_two : (stack : List ℤ) (f : ℤ → ℤ → List ℤ → Option Stepping) → ((x y : ℤ) (below : List ℤ) → IsQuiet (f x y below)) → IsQuiet (on_two stack f)
quiet_two [] f q = tt
quiet_two (y ∷ []) f q = tt
quiet_two (y ∷ x ∷ below) f q = q x y below

quiet_acted : (mode : Mode) (h : Held) → IsQuiet (acted mode h)
quiet_acted Task h = refl
quiet_acted Handler h = refl

quiet_ended : (mode : Mode) (h : Held) (kept : Option (Option ℕ)) → IsQuiet (ended mode h kept)
quiet_ended Task h None = refl
quiet_ended Task h (Some kept) = tt
quiet_ended Handler h None = tt
quiet_ended Handler h (Some kept) = refl

-- an `out` puts out one value, and no other instruction does
abbrev OutIs : Bool → List Output → Type 0
OutIs true outs = (o : Output) × (outs ≡ o ∷ [])
OutIs false outs = outs ≡ []

abbrev PutsAs : Bool → Option Stepping → Type 0
PutsAs b None = Unit {0}
PutsAs b (Some s) = OutIs b (last_outs s.did)

from_quiet : (o : Option Stepping) → IsQuiet o → PutsAs false o
from_quiet None q = tt
from_quiet (Some s) q = q

out_top : (stack : List ℤ) (c : ℕ) (f : ℤ → List ℤ → Held) → PutsAs true (on_top stack (λ x below. Some (record { did = Emitted c x; after = f x below })))
out_top [] c f = tt
out_top (x ∷ below) c f = ((c, x), refl)

quiet_pushed : (v : ℤ) (pc : ℕ) (h : Held) → IsQuiet (pushed v pc h)
quiet_pushed v pc h = quiet_if (nat_lt (length h.stack) 32) (went (moved h (pc + 1) (v ∷ h.stack))) refl

puts_as : (mode : Mode) (instr : Instr) (pc : ℕ) (h : Held) → PutsAs (is_out instr) (act mode instr pc h)
unfolding act
puts_as mode (i.Push n) pc h = from_quiet (pushed n pc h) (quiet_pushed n pc h)
puts_as mode (i.Load w) pc h = from_quiet (act mode (i.Load w) pc h) (quiet_if (nat_lt w (length h.words)) (pushed (word_at h.words w) pc h) (quiet_pushed (word_at h.words w) pc h))
puts_as mode i.Payload pc h = from_quiet (pushed h.payload pc h) (quiet_pushed h.payload pc h)
puts_as mode (i.Signed s) pc h = from_quiet (act mode (i.Signed s) pc h) (quiet_top h.stack (λ x below. went (moved h (pc + 1) (signed_value s x ∷ below))) (λ x below. refl))
puts_as mode (i.Operate o) pc h = from_quiet (act mode (i.Operate o) pc h) (quiet_two h.stack (λ x y below. went (moved h (pc + 1) (operator_value o x y ∷ below))) (λ x y below. refl))
puts_as mode (i.Jump to) pc h = refl
puts_as mode (i.JumpZero to) pc h =
    from_quiet (act mode (i.JumpZero to) pc h) (quiet_top h.stack (λ x below. acted mode (moved h (if is_nought x then to else pc + 1) below)) (λ x below. quiet_acted mode (moved h (if is_nought x then to else pc + 1) below)))
puts_as Task (i.Turn to) pc h = tt
puts_as Handler (i.Turn to) pc h =
    from_quiet (act Handler (i.Turn to) pc h) (quiet_top h.stack (λ x below. went (if is_nought x then moved h to below else moved h (pc + 1) (int_wrapping_sub w32 x (pos 1) ∷ below))) (λ x below. refl))
puts_as mode (i.Begin t) pc h =
    from_quiet (act mode (i.Begin t) pc h) (quiet_if (nat_lt t (length h.posts)) (acted mode (stored h h.words (lowered h.posts t) (pc + 1) h.stack)) (quiet_acted mode (stored h h.words (lowered h.posts t) (pc + 1) h.stack)))
puts_as mode i.End pc h = from_quiet (ended mode h h.kept) (quiet_ended mode h h.kept)
puts_as mode (i.LoadAt base len) pc h =
    from_quiet (act mode (i.LoadAt base len) pc h) (quiet_if (is_array h.words base len) (on_top h.stack (λ x below. went (moved h (pc + 1) (word_at h.words (base + index_of x len) ∷ below))))
    (quiet_top h.stack (λ x below. went (moved h (pc + 1) (word_at h.words (base + index_of x len) ∷ below))) (λ x below. refl)))
puts_as mode (i.Store w) pc h =
    from_quiet (act mode (i.Store w) pc h) (quiet_if (nat_lt w (length h.words)) (on_top h.stack (λ x below. acted mode (stored h (slice_set h.words w x) h.posts (pc + 1) below)))
    (quiet_top h.stack (λ x below. acted mode (stored h (slice_set h.words w x) h.posts (pc + 1) below)) (λ x below. quiet_acted mode (stored h (slice_set h.words w x) h.posts (pc + 1) below))))
puts_as mode (i.StoreAt base len) pc h =
    from_quiet (act mode (i.StoreAt base len) pc h) (quiet_if (is_array h.words base len) (on_two h.stack (λ x y below. acted mode (stored h (slice_set h.words (base + index_of x len) y) h.posts (pc + 1) below)))
    (quiet_two h.stack (λ x y below. acted mode (stored h (slice_set h.words (base + index_of x len) y) h.posts (pc + 1) below)) (λ x y below. quiet_acted mode (stored h (slice_set h.words (base + index_of x len) y) h.posts (pc + 1) below))))
puts_as mode (i.Post t) pc h =
    from_quiet (act mode (i.Post t) pc h) (quiet_if (nat_lt t (length h.posts)) (acted mode (stored h h.words (raised h.posts t) (pc + 1) h.stack)) (quiet_acted mode (stored h h.words (raised h.posts t) (pc + 1) h.stack)))
puts_as mode (i.Out c) pc h = out_top h.stack c (λ x below. moved h (pc + 1) below)

-- ---- runs

-- the outputs after which a run goes on are those of its instruction
gone_outs : (mode : Mode) (d : Did) (outs : List Output) → goes_on mode d ≡ Some outs → outs ≡ last_outs d
gone_outs Task Went outs is = cc
gone_outs Task Acted outs is = cc
gone_outs Task Ended outs is = cc
gone_outs Task (Emitted c v) outs is = cc
gone_outs Handler Went outs is = cc
gone_outs Handler Acted outs is = cc
gone_outs Handler Ended outs is = cc
gone_outs Handler (Emitted c v) outs is = cc

-- what is known of a run that has ended
pub record IsPutOut (mode : Mode) (code : CodeValue) (run : Ended') : Type 0 where
  pub outs : outs_in (acts_of code run.path (run_outs run)) ≡ run_outs run
  pub stops : goes_on mode run.did ≡ None
  pub quiet : mode ≡ Task → run.outs ≡ []

task_goes_quietly : (d : Did) (outs : List Output) → goes_on Task d ≡ Some outs → outs ≡ []
task_goes_quietly Went outs is = cc
task_goes_quietly Acted outs is = cc
task_goes_quietly Ended outs is = cc
task_goes_quietly (Emitted c v) outs is = cc

-- of outputs that begin with an instruction's own, these are its own, and the others are left
acts_outs : (code : CodeValue) (pc : ℕ) (path : List ℕ) (b : Bool) (own rest : List Output) → puts_out code pc ≡ b → OutIs b own → outs_in (acts_of code path rest) ≡ rest
    → outs_in (acts_of code (pc ∷ path) (own ++ rest)) ≡ own ++ rest
acts_outs code pc path true own rest e is later =
    let o = is.0 in
    ap (λ (xs : List Output). outs_in (acts_of code (pc ∷ path) (xs ++ rest))) is.1
    ∙ ap (λ b. listed (own_out b (is.0 ∷ rest)) ++ outs_in (acts_of code path (outs_after b (is.0 ∷ rest)))) e
    ∙ ap (λ (xs : List Output). is.0 ∷ xs) later ∙ ap (λ (xs : List Output). xs ++ rest) (sym is.1)
acts_outs code pc path false own rest e is later =
    ap (λ (xs : List Output). outs_in (acts_of code (pc ∷ path) (xs ++ rest))) is
    ∙ ap (λ b. listed (own_out b rest) ++ outs_in (acts_of code path (outs_after b rest))) e
    ∙ later ∙ ap (λ (xs : List Output). xs ++ rest) (sym is)

-- one instruction before a run that has ended
follows : (n : ℕ) (mode : Mode) (code : CodeValue) (pc : ℕ) (b : Bool) (s : Stepping) (run : Ended') → ((e : Ended') → until n mode code s.after ≡ Some e → IsPutOut mode code e)
    → puts_out code pc ≡ b → OutIs b (last_outs s.did) → (g : Option (List Output)) → goes_on mode s.did ≡ g → follow (until n mode code) pc s g ≡ Some run → IsPutOut mode code run
follows n mode code pc b s run later puts own None goes is =
    let last : Ended' = record { path = pc ∷ []; outs = []; did = s.did; after = s.after } in
    let same : last ≡ run = cc in
    subst (IsPutOut mode code) same (record {
      outs = ap (λ (xs : List Output). outs_in (acts_of code (pc ∷ []) xs)) (sym (append-nil (last_outs s.did))) ∙ acts_outs code pc [] b (last_outs s.did) [] puts own refl ∙ append-nil (last_outs s.did);
      stops = goes;
      quiet = λ task. refl;
    })
follows n mode code pc b s run later puts own (Some outs) goes is = by_rest (until n mode code s.after) refl is
  where
    by_rest : (o : Option Ended') → until n mode code s.after ≡ o → prepended (pc ∷ []) outs o ≡ Some run → IsPutOut mode code run
    by_rest None e is = cc
    by_rest (Some rest) e is =
        let whole : Ended' = record { path = pc ∷ rest.path; outs = outs ++ rest.outs; did = rest.did; after = rest.after } in
        let same : whole ≡ run = cc in
        let known : IsPutOut mode code rest = later rest e in
        let regrouped : run_outs (record { path = pc ∷ rest.path; outs = outs ++ rest.outs; did = rest.did; after = rest.after }) ≡ outs ++ run_outs rest = append_assoc outs rest.outs (last_outs rest.did) in
        subst (IsPutOut mode code) same (record {
          outs = ap (λ (xs : List Output). outs_in (acts_of code (pc ∷ rest.path) xs)) regrouped
              ∙ acts_outs code pc rest.path b outs (run_outs rest) puts (subst (OutIs b) (sym (gone_outs mode s.did outs goes)) own) known.outs ∙ sym regrouped;
          stops = known.stops;
          quiet = λ task. ap₂ (λ (xs ys : List Output). xs ++ ys) (task_goes_quietly s.did outs (ap (λ m. goes_on m s.did) (sym task) ∙ goes)) (known.quiet task);
        })

steps_put_out : (n : ℕ) (mode : Mode) (code : CodeValue) (h : Held) (run : Ended') → ((k : Held) (e : Ended') → until n mode code k ≡ Some e → IsPutOut mode code e)
    → (o : Option ℕ) → after_step mode (until n mode code) (unwrap_or o 0) (step_at mode code h o) ≡ Some run → IsPutOut mode code run
steps_put_out n mode code h run later None is = cc
steps_put_out n mode code h run later (Some pc) is = by_instr (slice_get code.instrs pc) refl is
  where
    by_step : (instr : Instr) (o : Option Stepping) → slice_get code.instrs pc ≡ Some instr → PutsAs (is_out instr) o → after_step mode (until n mode code) pc o ≡ Some run → IsPutOut mode code run
    by_step instr None e puts is = cc
    by_step instr (Some s) e puts is = follows n mode code pc (is_out instr) s run (later s.after) (ap (λ (o : Option Instr). option_map_or is_out o false) e) puts (goes_on mode s.did) refl is

    by_instr : (o : Option Instr) → slice_get code.instrs pc ≡ o → after_step mode (until n mode code) pc (fetched mode pc h o) ≡ Some run → IsPutOut mode code run
    by_instr None e is = cc
    by_instr (Some instr) e is = by_step instr (act mode instr pc h) e (puts_as mode instr pc h) is

pub run_puts_out : (n : ℕ) (mode : Mode) (code : CodeValue) (h : Held) (run : Ended') → until n mode code h ≡ Some run → IsPutOut mode code run
unfolding until
run_puts_out zero mode code h run is = cc
run_puts_out (suc n) mode code h run is = steps_put_out n mode code h run (λ k e there. run_puts_out n mode code k e there) (next_of code h) is

-- a handler's last instruction puts nothing out
pub handler_is_quiet : (d : Did) → goes_on Handler d ≡ None → last_outs d ≡ []
handler_is_quiet Went is = cc
handler_is_quiet Acted is = refl
handler_is_quiet Ended is = refl
handler_is_quiet (Emitted c v) is = cc
