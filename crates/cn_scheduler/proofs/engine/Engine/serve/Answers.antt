use Rattle.std.proofs.Common.{◌≡◌, ◌+◌, ◌∙◌, ap, ap₂, sym, subst, ℕ, arith, refl, length}
use Rattle.std.proofs.Common.{w32, SFits, rules}
use Rattle.std.proofs.lemmas.Int.{to_z-of_z}
use Rattle.cat_program.specs.declared.outs.LogEntry.{LogEntry}
use Rattle.cat_program.specs.declared.outs.LogEntry.TheVariants.{Ran}
use Rattle.nv_log.specs.Record.{EntryFits}
use Rattle.nv_log.specs.declared.log.By.TheVariants as by
use Rattle.cat_machine.specs.declared.instr.Mode.TheVariants.{Handler}
use Rattle.cat_machine.specs.CodeValue.{EntryAt}
use Rattle.cat_machine.specs.Held.{Held}
use Rattle.cat_machine.specs.Machine.{entered, until}
use Rattle.cn_scheduler.specs.declared.choice.Choice.TheVariants.{Job}
use Rattle.cn_scheduler.specs.declared.engine.Chunk.TheVariants.{Lost, Over}
use Rattle.cn_scheduler.specs.Asked.{recording}
use Rattle.cn_scheduler.specs.Paths.{run_outs}
use Rattle.cn_scheduler.specs.Chunks.{no_floor, ran_of}
use Rattle.cn_scheduler.specs.Steps.{AskedOnce}
use Rattle.cn_scheduler.specs.EnginePoint.{point_of}
use Rattle.cn_scheduler.proofs.Warranted.{warranted}
use Rattle.cn_scheduler.proofs.Asking.{once_asked}
use Rattle.cn_scheduler.proofs.Sections.{fits_now}
use Rattle.cn_scheduler.proofs.Jobs.{entry_now, whole_job, is_handler, at_wake, at_path, at_record}
use Rattle.cn_scheduler.proofs.engine.Engine.serve.Goals as goal

pub returns-in-Lost-clause-serves : goal.returns-in-Lost-clause-serves
returns-in-Lost-clause-serves g c =
    let plan = c.args.plan.now in
    let e = c.args.self.now in
    let old = g.B.Board.state c.args.board.now in
    let due = c.args.due.now in
    let program = c.requires.belongs.0 in
    let b = c.requires.belongs.1 in
    let next = (warranted plan (point_of e old) (Job due) c.requires.chosen).0 in
    let entry = entry_now plan program e old due c.requires.rest b next c.runs_end.ensures in
    let ran_is : c.ran-entry.result ≡ ran_of plan (point_of e old) due = c.ran-entry.ensures.value ∙ ap₂ (λ (v t : ℕ). Ran due.event v e.slot.steps t due.index) c.version_of-version.ensures c.tick.ensures.value in
    record {
      run = (whole_job plan program e old due c.requires.rest b next c.runs_end.ensures entry.0 entry.1).run;
      is_handler = is_handler plan program e old due c.requires.rest b next c.runs_end.ensures entry.0 entry.1;
      asked = at_wake plan program e old due c.requires.rest b next (whole_job plan program e old due c.requires.rest b next c.runs_end.ensures entry.0 entry.1).run Lost (g.B.Board.state c.wake_up.new.board) (λ no. cc) (c.in-Lost.ensures.woken plan);
      ended = λ no. cc;
      entry = subst (EntryFits plan.layout) ran_is (c.ran-entry.ensures.fits plan.layout);
      slot = refl;
    }

pub returns-in-Over-clause-serves : goal.returns-in-Over-clause-serves
returns-in-Over-clause-serves g c =
    let plan = c.args.plan.now in
    let e = c.args.self.now in
    let old = g.B.Board.state c.args.board.now in
    let due = c.args.due.now in
    let program = c.requires.belongs.0 in
    let b = c.requires.belongs.1 in
    let next = (warranted plan (point_of e old) (Job due) c.requires.chosen).0 in
    let entry = entry_now plan program e old due c.requires.rest b next c.runs_end.ensures in
    let ran_is : c.ran-entry.result ≡ ran_of plan (point_of e old) due = c.ran-entry.ensures.value ∙ ap₂ (λ (v t : ℕ). Ran due.event v e.slot.steps t due.index) c.version_of-version.ensures c.tick.ensures.value in
    record {
      run = (whole_job plan program e old due c.requires.rest b next c.runs_end.ensures entry.0 entry.1).run;
      is_handler = is_handler plan program e old due c.requires.rest b next c.runs_end.ensures entry.0 entry.1;
      asked = at_wake plan program e old due c.requires.rest b next (whole_job plan program e old due c.requires.rest b next c.runs_end.ensures entry.0 entry.1).run Over (g.B.Board.state c.wake_up.new.board) (λ no. cc) (c.in-Over.ensures.woken plan);
      ended = λ no. cc;
      entry = subst (EntryFits plan.layout) ran_is (c.ran-entry.ensures.fits plan.layout);
      slot = refl;
    }

pub enter-requires-clause-fits : goal.enter-requires-clause-fits
enter-requires-clause-fits g c =
    (c.requires.belongs.0, fits_now c.args.plan.now c.requires.belongs.0 c.args.self.now (g.B.Board.state c.args.board.now) c.requires.rest c.requires.belongs.1)

pub enter-requires-clause-there : goal.enter-requires-clause-there
enter-requires-clause-there g c =
    let plan = c.args.plan.now in
    let e = c.args.self.now in
    let old = g.B.Board.state c.args.board.now in
    let due = c.args.due.now in
    let next = (warranted plan (point_of e old) (Job due) c.requires.chosen).0 in
    let entry = entry_now plan c.requires.belongs.0 e old due c.requires.rest c.requires.belongs.1 next c.runs_end.ensures in
    (entry.0, subst (λ (v : ℕ). EntryAt plan.code due.event v entry.0) (sym c.version_of-version.ensures) entry.1)

pub run_path-requires-clause-fits : goal.run_path-requires-clause-fits
run_path-requires-clause-fits g c =
    let e = c.args.self.now in
    let fits = fits_now c.args.plan.now c.requires.belongs.0 e (g.B.Board.state c.args.board.now) c.requires.rest c.requires.belongs.1 in
    (c.requires.belongs.0, c.enter.ensures.keeps c.requires.belongs.0 fits, (e.working.place, ap (λ (h : Held). h.kept) c.enter.ensures.state.2))

pub run_path-requires-clause-image : goal.run_path-requires-clause-image
run_path-requires-clause-image g c = omega (arith, ap (λ (i : _). length i) c.in-Done.ensures.image, c.requires.belongs.1.image)

pub run_path-requires-clause-ends : goal.run_path-requires-clause-ends
run_path-requires-clause-ends g c =
    let plan = c.args.plan.now in
    let e = c.args.self.now in
    let old = g.B.Board.state c.args.board.now in
    let due = c.args.due.now in
    let next = (warranted plan (point_of e old) (Job due) c.requires.chosen).0 in
    let entry = c.enter.ensures.state.0 in
    let at = subst (λ (v : ℕ). EntryAt plan.code due.event v entry) c.version_of-version.ensures c.enter.ensures.state.1 in
    let within : SFits w32 c.args.due.now.payload = search rules in
    let state : c.enter.new.working ≡ entered e.working entry due.payload = simp to_z-of_z at c.enter.ensures.state.2 in
    let w = whole_job plan c.requires.belongs.0 e old due c.requires.rest c.requires.belongs.1 next c.runs_end.ensures entry at in
    (w.run, ap (until 1000000 Handler plan.code) state ∙ w.ends)

pub returns-in_default-clause-serves : goal.returns-in_default-clause-serves
returns-in_default-clause-serves g c =
    let plan = c.args.plan.now in
    let e = c.args.self.now in
    let old = g.B.Board.state c.args.board.now in
    let due = c.args.due.now in
    let program = c.requires.belongs.0 in
    let b = c.requires.belongs.1 in
    let next = (warranted plan (point_of e old) (Job due) c.requires.chosen).0 in
    let entry = c.enter.ensures.state.0 in
    let at = subst (λ (v : ℕ). EntryAt plan.code due.event v entry) c.version_of-version.ensures c.enter.ensures.state.1 in
    let within : SFits w32 c.args.due.now.payload = search rules in
    let state : c.enter.new.working ≡ entered e.working entry due.payload = simp to_z-of_z at c.enter.ensures.state.2 in
    let w = whole_job plan program e old due c.requires.rest b next c.runs_end.ensures entry at in
    let leaves = c.run_path.ensures.leaves w.run (ap (until 1000000 Handler plan.code) state ∙ w.ends) in
    let ran_is : c.ran-entry.result ≡ ran_of plan (point_of e old) due = c.ran-entry.ensures.value ∙ ap₂ (λ (v t : ℕ). Ran due.event v e.slot.steps t due.index) c.version_of-version.ensures c.tick.ensures.value in
    record {
      run = w.run;
      is_handler = is_handler plan program e old due c.requires.rest b next c.runs_end.ensures entry at;
      asked = at_path plan program e old due c.requires.rest b next w.run c.run_path.result (g.B.Board.state c.wake_up.new.board) (g.B.Board.state c.run_path.new.board) c.in_default.not-Ended (c.in-Done.ensures.woken plan) leaves.asked;
      ended = λ e. absurd (c.in_default.not-Ended e);
      entry = subst (EntryFits plan.layout) ran_is (c.ran-entry.ensures.fits plan.layout);
      slot = refl;
    }

pub put-requires-clause-on : goal.put-requires-clause-on
put-requires-clause-on g c =
    let plan = c.args.plan.now in
    let e = c.args.self.now in
    let old = g.B.Board.state c.args.board.now in
    let due = c.args.due.now in
    let next = (warranted plan (point_of e old) (Job due) c.requires.chosen).0 in
    let entry = c.enter.ensures.state.0 in
    let at = subst (λ (v : ℕ). EntryAt plan.code due.event v entry) c.version_of-version.ensures c.enter.ensures.state.1 in
    let within : SFits w32 c.args.due.now.payload = search rules in
    let state : c.enter.new.working ≡ entered e.working entry due.payload = simp to_z-of_z at c.enter.ensures.state.2 in
    let w = whole_job plan c.requires.belongs.0 e old due c.requires.rest c.requires.belongs.1 next c.runs_end.ensures entry at in
    ((c.in-Ended.ensures.leaves w.run (ap (until 1000000 Handler plan.code) state ∙ w.ends)).ended refl).on

pub put-requires-clause-image : goal.put-requires-clause-image
put-requires-clause-image g c = c.in-Ended.ensures.image

pub returns-clause-serves : goal.returns-clause-serves
returns-clause-serves g c =
    let plan = c.args.plan.now in
    let l = plan.layout in
    let e = c.args.self.now in
    let old = g.B.Board.state c.args.board.now in
    let last = g.B.Board.state c.run_path.new.board in
    let new = g.B.Board.state c.put.new.board in
    let due = c.args.due.now in
    let program = c.requires.belongs.0 in
    let b = c.requires.belongs.1 in
    let next = (warranted plan (point_of e old) (Job due) c.requires.chosen).0 in
    let entry = c.enter.ensures.state.0 in
    let at = subst (λ (v : ℕ). EntryAt plan.code due.event v entry) c.version_of-version.ensures c.enter.ensures.state.1 in
    let within : SFits w32 c.args.due.now.payload = search rules in
    let state : c.enter.new.working ≡ entered e.working entry due.payload = simp to_z-of_z at c.enter.ensures.state.2 in
    let w = whole_job plan program e old due c.requires.rest b next c.runs_end.ensures entry at in
    let leaves = c.in-Ended.ensures.leaves w.run (ap (until 1000000 Handler plan.code) state ∙ w.ends) in
    let end = leaves.ended refl in
    let ran_is : c.ran-entry.result ≡ ran_of plan (point_of e old) due = c.ran-entry.ensures.value ∙ ap₂ (λ (v t : ℕ). Ran due.event v e.slot.steps t due.index) c.version_of-version.ensures c.tick.ensures.value in
    let asked : AskedOnce l.log last (recording l (e.slot.len + length (run_outs w.run)) (ran_of plan (point_of e old) due) by.Write) c.put.result new =
    subst (λ (n : ℕ). AskedOnce l.log last (recording l n (ran_of plan (point_of e old) due) by.Write) c.put.result new) end.len_is
    (subst (λ (x : LogEntry). AskedOnce l.log last (recording l c.run_path.new.len x by.Write) c.put.result new) ran_is c.put.ensures.asked) in
    record {
      run = w.run;
      is_handler = is_handler plan program e old due c.requires.rest b next c.runs_end.ensures entry at;
      asked = at_record plan program e old due c.requires.rest b next w.run c.put.result (g.B.Board.state c.wake_up.new.board) last new (c.in-Done.ensures.woken plan) leaves.asked
          (once_asked (no_floor plan) l.log (recording l (e.slot.len + length (run_outs w.run)) (ran_of plan (point_of e old) due) by.Write) c.put.result last new refl (omega arith) asked);
      ended = λ is. record { held_is = end.held_is; len_is = omega (arith, c.put.ensures.len is, end.len_is); on = c.put.ensures.on is; fits = end.fits };
      entry = subst (EntryFits plan.layout) ran_is (c.ran-entry.ensures.fits plan.layout);
      slot = refl;
    }

pub returns-in_default-clause-fits : goal.returns-in_default-clause-fits
returns-in_default-clause-fits g c = λ program f. c.run_path.ensures.keeps program (c.enter.ensures.keeps program f)

pub returns-clause-fits : goal.returns-clause-fits
returns-clause-fits g c = λ program f. c.in-Ended.ensures.keeps program (c.enter.ensures.keeps program f)
