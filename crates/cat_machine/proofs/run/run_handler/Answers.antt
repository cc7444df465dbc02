use Rattle.std.proofs.Common.{w32, SFits, rules}
use Rattle.std.proofs.lemmas.Int.{to_z-of_z}
use Rattle.std.proofs.Common.{◌+◌, Some, ap, ◌∙◌, sym, subst}
use Rattle.cat_machine.specs.declared.instr.Mode.TheVariants.{Handler}
use Rattle.cat_machine.specs.Machine.{Stepping, goes_on}
use Rattle.cat_machine.specs.declared.instr.Did.{Did}
use Rattle.cat_machine.proofs.Going.{HandlerGoing, handler_starts, handler_steps, handler_went, handler_room, handler_emitted, handler_ends, handler_over}
use Rattle.cat_machine.proofs.run.run_handler.Goals as goal
use Rattle.cat_machine.proofs.run.run_handler.Goals.{in-Went, in-Emitted}

pub turns-init : goal.turns-init
turns-init c = handler_starts c.args.code.now c.args.working.now c.args.outs.now c.requires.0 c.requires.1 c.requires.2

pub advance-requires : goal.advance-requires
advance-requires c = handler_steps c.args.code.now c.args.working.now c.turns.working c.args.outs.now c.turns.outs c.turns.counter c.turns-test.true c.turns.invariant

pub push-requires : goal.push-requires
push-requires c =
    handler_room c.args.code.now c.args.working.now c.turns.working c.args.outs.now c.turns.outs c.turns.counter c.turns-test.true c.turns.invariant c.advance.new.working c.in-Emitted.channel c.in-Emitted.value
    (c.advance.ensures ∙ ap (λ (d : Did). Some (let s : Stepping = record { did = d; after = c.advance.new.working } in s)) c.in-Emitted.is)

pub returns-in-Acted : goal.returns-in-Acted
returns-in-Acted c =
    handler_ends c.args.code.now c.args.working.now c.turns.working c.args.outs.now c.turns.outs c.turns.counter c.turns-test.true c.turns.invariant c.advance.result c.advance.new.working c.advance.ensures (ap (goes_on Handler) c.in-Acted.is)

pub returns-in-Ended : goal.returns-in-Ended
returns-in-Ended c =
    handler_ends c.args.code.now c.args.working.now c.turns.working c.args.outs.now c.turns.outs c.turns.counter c.turns-test.true c.turns.invariant c.advance.result c.advance.new.working c.advance.ensures (ap (goes_on Handler) c.in-Ended.is)

pub turns-preserved : goal.turns-preserved
turns-preserved c =
    elim c.match-advance.branch [
      | in-Went w ↦ subst (λ o. HandlerGoing c.args.code.now c.args.working.now c.advance.new.working c.args.outs.now o (c.turns.counter + 1)) (sym w.outs-is)
          (handler_went c.args.code.now c.args.working.now c.turns.working c.args.outs.now c.turns.outs c.turns.counter c.turns-test.true c.turns.invariant c.advance.new.working
          (c.advance.ensures ∙ ap (λ (d : Did). Some (let s : Stepping = record { did = d; after = c.advance.new.working } in s)) w.in-Went.is))
      | in-Emitted w ↦
          let within : SFits w32 w.in-Emitted.value = search rules in
          let pushed = simp to_z-of_z at w.push.ensures in
          handler_emitted c.args.code.now c.args.working.now c.turns.working c.args.outs.now c.turns.outs c.turns.counter c.turns-test.true c.turns.invariant c.advance.new.working w.in-Emitted.channel w.in-Emitted.value c.match-advance.outs
          (c.advance.ensures ∙ ap (λ (d : Did). Some (let s : Stepping = record { did = d; after = c.advance.new.working } in s)) w.in-Emitted.is) (w.outs-is ∙ pushed)
    ]

pub unreachable-requires : goal.unreachable-requires
unreachable-requires c = handler_over c.args.code.now c.args.working.now c.turns.working c.args.outs.now c.turns.outs c.turns.counter c.turns-test.false c.turns.invariant
