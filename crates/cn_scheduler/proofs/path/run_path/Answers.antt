use Rattle.std.proofs.Common.{refl, sym, ◌∙◌, subst, arith}
use Rattle.cat_machine.specs.ClassOf.{class_of}
use Rattle.cat_machine.specs.Machine.{Stepping, goes_on}
use Rattle.cn_scheduler.specs.declared.engine.Chunk.{Chunk}
use Rattle.cn_scheduler.specs.declared.engine.Chunk.TheVariants.{Ended}
use Rattle.cn_scheduler.specs.Asked.{ask_with}
use Rattle.cn_scheduler.specs.Steps.{out_of, AskedOnce, limits_of}
use Rattle.cn_scheduler.proofs.Going.{onward_starts, dropped_first, next_step, next_there, ready_still, none_left, stops_here, ends_here, goes_here, stops_of, goes_of, size_is, not_below, some_of}
use Rattle.cn_scheduler.proofs.Asking.{done_later}
use Rattle.cn_scheduler.proofs.path.run_path.Goals as goal

pub turns-init : goal.turns-init
turns-init g c = record {
  onward = λ run ends. onward_starts c.args.plan.now c.args.mode c.args.working.now c.args.len.now (g.B.Board.state c.args.board.now) run ends;
  fits = λ p f. f;
  kept = refl;
  on = c.requires.on;
  image = c.requires.image;
  floor = λ t later before. absurd (omega (arith, before));
  few = c.requires.len;
  origin = refl;
}

pub returns-then-is_too_low-clause-leaves : goal.returns-then-is_too_low-clause-leaves
returns-then-is_too_low-clause-leaves g c = λ run ends.
    dropped_first c.args.plan.now c.args.mode c.args.working.now c.args.len.now (g.B.Board.state c.args.board.now) run c.turns.working c.turns.len (g.B.Board.state c.turns.board) c.turns.counter c.turns-test.true
    (c.turns.invariant.onward run ends) (c.is_too_low.ensures.low.0 c.if-is_too_low.true) c.turns.invariant.on

pub is_too_low-requires : goal.is_too_low-requires
is_too_low-requires g c = c.turns.invariant.floor

pub next_instr-next-requires : goal.next_instr-next-requires
next_instr-next-requires g c =
    let w = c.turns.invariant.onward c.requires.ends.0 c.requires.ends.1 in
    let s = next_step c.args.plan.now c.args.mode c.turns.working c.turns.counter w.rest c.turns-test.true w.ends in
    next_there c.args.mode c.args.plan.now.code c.turns.working s.0 s.1

pub step_fetched-did-requires-clause-fits : goal.step_fetched-did-requires-clause-fits
step_fetched-did-requires-clause-fits g c =
    (c.requires.fits.0, c.turns.invariant.fits c.requires.fits.0 c.requires.fits.1, ready_still c.args.mode c.args.plan.now.code c.args.working.now c.turns.working c.requires.fits.2 c.turns.invariant.kept (c.next_instr-next.result.pc, c.next_instr-next.ensures.0))

pub returns-in_default-clause-leaves : goal.returns-in_default-clause-leaves
returns-in_default-clause-leaves g c = λ run ends.
    let plan = c.args.plan.now in
    let now = g.B.Board.state c.turns.board in
    let new = g.B.Board.state c.ask.new.board in
    let s : Stepping = record { did = c.step_fetched-did.result; after = c.step_fetched-did.new.working } in
    let w = c.turns.invariant.onward run ends in
    let puts = c.runs_end.ensures.puts c.args.mode plan.code c.turns.working c.next_instr-next.result.pc c.next_instr-next.result.instr s c.next_instr-next.ensures.0 c.next_instr-next.ensures.1 c.step_fetched-did.ensures.does in
    let above = not_below now.stored ((limits_of plan c.args.mode).floor now.tick) c.is_too_low.result c.is_too_low.ensures.low.1 c.if-is_too_low.false in
    let asked = subst (λ k. AskedOnce plan.layout.log now (ask_with plan.layout c.turns.len c.next_instr-next.result.pc k (out_of s.did)) c.ask.result new) c.class-class.ensures c.ask.ensures.asked in
    let stop = stops_of (limits_of plan c.args.mode) plan.layout.log now (ask_with plan.layout c.turns.len c.next_instr-next.result.pc (class_of c.next_instr-next.result.instr) (out_of s.did)) c.ask.result new c.in_default.not-Ended (size_is plan c.args.mode) above asked in
    record {
      asked = stops_here plan c.args.mode c.args.working.now c.args.len.now (g.B.Board.state c.args.board.now) run c.turns.working c.turns.len now c.turns.counter c.next_instr-next.result.pc c.next_instr-next.result.instr s c.turns-test.true w c.next_instr-next.ensures.0 c.next_instr-next.ensures.1 c.step_fetched-did.ensures.does puts c.ask.result new stop;
      ended = λ e. absurd (c.in_default.not-Ended e);
      dropped = λ e. absurd (subst (λ (o : Chunk). AskedOnce plan.layout.log now (ask_with plan.layout c.turns.len c.next_instr-next.result.pc (class_of c.next_instr-next.result.instr) (out_of s.did)) o new) e asked);
    }

pub returns-then-is_over-clause-leaves : goal.returns-then-is_over-clause-leaves
returns-then-is_over-clause-leaves g c = λ run ends.
    let plan = c.args.plan.now in
    let now = g.B.Board.state c.turns.board in
    let new = g.B.Board.state c.ask.new.board in
    let s : Stepping = record { did = c.step_fetched-did.result; after = c.step_fetched-did.new.working } in
    let w = c.turns.invariant.onward run ends in
    let puts = c.runs_end.ensures.puts c.args.mode plan.code c.turns.working c.next_instr-next.result.pc c.next_instr-next.result.instr s c.next_instr-next.ensures.0 c.next_instr-next.ensures.1 c.step_fetched-did.ensures.does in
    let above = not_below now.stored ((limits_of plan c.args.mode).floor now.tick) c.is_too_low.result c.is_too_low.ensures.low.1 c.if-is_too_low.false in
    let asked = subst (λ k. AskedOnce plan.layout.log now (ask_with plan.layout c.turns.len c.next_instr-next.result.pc k (out_of s.did)) Ended new) c.class-class.ensures c.in-Ended.ensures.asked in
    let goes = goes_of (limits_of plan c.args.mode) plan.layout.log now (ask_with plan.layout c.turns.len c.next_instr-next.result.pc (class_of c.next_instr-next.result.instr) (out_of s.did)) new (size_is plan c.args.mode) above asked in
    let end = ends_here plan c.args.mode c.args.working.now c.args.len.now (g.B.Board.state c.args.board.now) run c.turns.working c.turns.len now c.turns.counter c.next_instr-next.result.pc c.next_instr-next.result.instr s c.turns-test.true w c.next_instr-next.ensures.0 c.next_instr-next.ensures.1 c.step_fetched-did.ensures.does puts new (c.is_over.ensures.0 c.if-is_over.true) goes c.in-Ended.ensures.fits in
    record {
      asked = end.0;
      ended = λ e. record { held_is = end.1; len_is = c.in-Ended.ensures.len refl ∙ end.2; on = c.in-Ended.ensures.on refl; fits = end.3 };
      dropped = λ e. cc;
    }

pub turns-preserved : goal.turns-preserved
turns-preserved g c =
    let plan = c.args.plan.now in
    let now = g.B.Board.state c.turns.board in
    let new = g.B.Board.state c.ask.new.board in
    let s : Stepping = record { did = c.step_fetched-did.result; after = c.step_fetched-did.new.working } in
    let puts = c.runs_end.ensures.puts c.args.mode plan.code c.turns.working c.next_instr-next.result.pc c.next_instr-next.result.instr s c.next_instr-next.ensures.0 c.next_instr-next.ensures.1 c.step_fetched-did.ensures.does in
    let above = not_below now.stored ((limits_of plan c.args.mode).floor now.tick) c.is_too_low.result c.is_too_low.ensures.low.1 c.if-is_too_low.false in
    let asked = subst (λ k. AskedOnce plan.layout.log now (ask_with plan.layout c.turns.len c.next_instr-next.result.pc k (out_of s.did)) Ended new) c.class-class.ensures c.in-Ended.ensures.asked in
    let goes = goes_of (limits_of plan c.args.mode) plan.layout.log now (ask_with plan.layout c.turns.len c.next_instr-next.result.pc (class_of c.next_instr-next.result.instr) (out_of s.did)) new (size_is plan c.args.mode) above asked in
    let on = some_of (goes_on c.args.mode s.did) (λ none. let both = sym (c.is_over.ensures.1 none) ∙ c.if-is_over.false in cc) in
    record {
      onward = λ run ends. goes_here plan c.args.mode c.args.working.now c.args.len.now (g.B.Board.state c.args.board.now) run c.turns.working c.turns.len now c.turns.counter c.next_instr-next.result.pc c.next_instr-next.result.instr s c.turns-test.true (c.turns.invariant.onward run ends) c.next_instr-next.ensures.0 c.next_instr-next.ensures.1 c.step_fetched-did.ensures.does puts new on.0 c.ask.new.len on.1 goes c.in-Ended.ensures.fits (c.in-Ended.ensures.len refl);
      fits = λ p f. c.step_fetched-did.ensures.keeps p (c.turns.invariant.fits p f);
      kept = c.runs_end.ensures.keeps c.args.mode plan.code c.turns.working s on.0 c.step_fetched-did.ensures.does on.1 ∙ c.turns.invariant.kept;
      on = c.in-Ended.ensures.on refl;
      image = omega (arith, c.in-Ended.ensures.size, c.turns.invariant.image);
      floor = λ t later. c.is_too_low.ensures.holds t (omega (arith, later, done_later (ask_with plan.layout c.turns.len c.next_instr-next.result.pc (class_of c.next_instr-next.result.instr) (out_of s.did)).op now new asked.1));
      few = c.in-Ended.ensures.few;
      origin = c.in-Ended.ensures.origin ∙ c.turns.invariant.origin;
    }

pub unreachable-requires : goal.unreachable-requires
unreachable-requires g c =
    none_left c.args.plan.now c.args.mode c.args.working.now c.args.len.now (g.B.Board.state c.args.board.now) c.requires.ends.0 c.turns.working c.turns.len (g.B.Board.state c.turns.board) c.turns.counter c.turns-test.false
    (c.turns.invariant.onward c.requires.ends.0 c.requires.ends.1)

pub returns-in_default-clause-keeps : goal.returns-in_default-clause-keeps
returns-in_default-clause-keeps g c = λ p f. c.step_fetched-did.ensures.keeps p (c.turns.invariant.fits p f)

pub returns-then-is_over-clause-keeps : goal.returns-then-is_over-clause-keeps
returns-then-is_over-clause-keeps g c = λ p f. c.step_fetched-did.ensures.keeps p (c.turns.invariant.fits p f)

pub returns-then-is_too_low-clause-keeps : goal.returns-then-is_too_low-clause-keeps
returns-then-is_too_low-clause-keeps g c = c.turns.invariant.fits

pub returns-in_default-clause-image : goal.returns-in_default-clause-image
returns-in_default-clause-image g c = omega (arith, c.ask.ensures.size, c.turns.invariant.image)

pub returns-then-is_over-clause-image : goal.returns-then-is_over-clause-image
returns-then-is_over-clause-image g c = omega (arith, c.in-Ended.ensures.size, c.turns.invariant.image)

pub returns-then-is_too_low-clause-image : goal.returns-then-is_too_low-clause-image
returns-then-is_too_low-clause-image g c = c.turns.invariant.image
