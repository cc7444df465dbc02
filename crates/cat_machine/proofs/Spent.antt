-- No section and no handler costs more than the bounds say.
use Rattle.std.proofs.Common.{◌≡◌, ℕ, ◌+◌, ◌≤◌, [], ◌∷◌, length, Option, Some, None, refl, sym, ap, ◌∙◌, subst, arith}
use Rattle.std.specs.Prelude.{max, ℤ, MatchOption}
use Rattle.nv_memory.specs.declared.device.Class.TheVariants.{Basic}
use Rattle.cat_program.specs.Meaning.{TaskStep, handled, task_step_of}
use Rattle.cat_program.specs.Places.{body_size}
use Rattle.cat_program.specs.Checked.{Checked, IsChecked, bodies_of, version_at, body_at, EventWorks}
use Rattle.cat_machine.specs.declared.instr.Mode.{Mode}
use Rattle.cat_machine.specs.declared.instr.Mode.TheVariants.{Task, Handler}
use Rattle.cat_machine.specs.declared.instr.Did.TheVariants.{Ended}
use Rattle.cat_machine.specs.declared.instr.Instr.TheVariants as i
use Rattle.cat_machine.specs.CodeValue.{CodeValue, EntryAt}
use Rattle.cat_machine.specs.Held.{Held}
use Rattle.cat_machine.specs.Machine.{Ended', moved, entered, act, next_of, until}
use Rattle.cat_machine.specs.Code.{body_code, code_of}
use Rattle.cat_machine.specs.Costs.{Costs, instr_cost, place_cost, path_cost, tasks_most, handler_most}
use Rattle.cat_machine.specs.Fits.{HasShape, IsIdle}
use Rattle.cat_machine.specs.Spending.{Spends}
use Rattle.cat_machine.proofs.At.{has_front, has_rest}
use Rattle.cat_machine.proofs.Runs.{Weighs}
use Rattle.cat_machine.proofs.Sizes.{body_length}
use Rattle.cat_machine.proofs.Sections.{ends_after, one_ends, store_of}
use Rattle.cat_machine.proofs.Tasks.{SectionMeets, section_law}
use Rattle.cat_machine.proofs.Handlers.{with_store, handler_passes}
use Rattle.cat_machine.proofs.Bounds.{until_more}
use Rattle.cat_machine.proofs.Fitting.{no_run}
use Rattle.cat_machine.proofs.Entering.{version_stands}

weighs_place : (u : Costs) (code : CodeValue) → Weighs (place_cost u code) u code
weighs_place u code = record { by = λ pc instr e. ap (instr_cost u) e }

same_run : (mode : Mode) (code : CodeValue) (h : Held) (n m : ℕ) (a b : Ended') → until n mode code h ≡ Some a → until m mode code h ≡ Some b → a ≡ b
same_run mode code h n m a b e d =
    let both : Some a ≡ Some b = sym (until_more mode code n (max n m) h a (omega arith) e) ∙ until_more mode code m (max n m) h b (omega arith) d in
    cc

section_spends : (u : Costs) (p : Checked) → IsChecked p → (h : Held) → IsIdle p h → HasShape (length p.words) (length p.tasks) h → (run : Ended') → until 1000000 Task (code_of p) h ≡ Some run → path_cost (place_cost u (code_of p)) run.path ≤ tasks_most u (bodies_of p)
section_spends u p checked h idle shape run e =
    by_law (task_step_of (body_at p) idle.state) (section_law (place_cost u (code_of p)) u p (weighs_place u (code_of p)) checked h idle.state idle.corresponds shape)
  where
    by_law : (o : Option TaskStep) → MatchOption o (next_of (code_of p) h ≡ None) (λ r. SectionMeets (place_cost u (code_of p)) u p h r) → path_cost (place_cost u (code_of p)) run.path ≤ tasks_most u (bodies_of p)
    by_law None m = absurd (no_run (code_of p) h (next_of (code_of p) h) run refl m e)
    by_law (Some r) m =
        let ends = m.answers.ends in
        let same = ap (λ (x : Ended'). path_cost (place_cost u (code_of p)) x.path) (same_run Task (code_of p) h 1000000 ends.turns run _ e ends.is) in
        omega (arith, same, ends.costs, m.within)

handler_spends : (u : Costs) (p : Checked) → IsChecked p → (h : Held) → IsIdle p h → HasShape (length p.words) (length p.tasks) h → (event version entry : ℕ) (payload : ℤ) (run : Ended') → EntryAt (code_of p) event version entry → until 1000000 Handler (code_of p) (entered h entry payload) ≡ Some run → path_cost (place_cost u (code_of p)) run.path ≤ handler_most u (version_at p event version) + u Basic
unfolding act
handler_spends u p checked h idle shape event version entry payload run at e =
    let code = code_of p in
    let f = place_cost u code in
    let weighs = weighs_place u code in
    let stands = version_stands p checked event version entry at in
    let body = version_at p event version in
    let k = entered h entry payload in
    let none : length h.stack ≡ 0 = ap length idle.corresponds.empty in
    let works = subst (λ d. EventWorks (length p.words) (length p.tasks) d body) (sym none) stands.works.works in
    let passes = handler_passes f u code weighs (length p.words) (length p.tasks) body k entry h.stack (record { words_are = shape.words_are; posts_are = shape.posts_are }) works (has_front code.instrs entry (body_code entry body) _ stands.code_at) in
    let end = entry + body_size body in
    let at_end = has_rest code.instrs entry end (body_code entry body) (i.End ∷ []) (ap (λ j. entry + j) (body_length body entry)) stands.code_at in
    let d = handled body payload (store_of h) in
    let after : Held = record { words = d.store.words; posts = d.store.posts; place = h.place; kept = None; stack = h.stack; payload = payload } in
    let last = one_ends f Handler code (with_store k d.store) end h.stack i.End Ended after at_end.0 refl refl in
    let whole = ends_after f Handler code (moved k entry h.stack) (moved (with_store k d.store) end h.stack) after passes.cost (f end) d.outs [] Ended passes.leads last in
    let same = ap (λ (x : Ended'). path_cost f x.path) (same_run Handler code k 1000000 whole.turns run _ e whole.is) in
    omega (arith, same, whole.costs, passes.within, weighs.by end i.End at_end.0)

pub spends : (u : Costs) (p : Checked) (h : Held) → IsChecked p → IsIdle p h → HasShape (length p.words) (length p.tasks) h → Spends u p h
spends u p h checked idle shape = record {
  section = section_spends u p checked h idle shape;
  handler = handler_spends u p checked h idle shape;
}
