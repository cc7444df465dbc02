use Rattle.std.proofs.Common.{◌-◌, ◌<◌, ◌%◌, ℕ, true, false, refl, sym, ◌∙◌, ap, arith}
use Rattle.cn_base.specs.declared.TheConstants.{MOST_TICKS}
use Rattle.nv_memory.specs.declared.board.Answer.TheVariants.{Done, Lost}
use Rattle.nv_memory.specs.Board.{IsSound, Start, State}
use Rattle.migration.specs.Moves.{IsInOld}
use Rattle.migration.specs.Stretch.{Ended, Further, Moved}
use Rattle.migration.proofs.Stretching.{can_again, even, next_later, next_size}
use Rattle.migration.proofs.stretch.move_on.Goals as goal

less : (start first : Start) (s t : State) → IsSound start s → IsSound first t → s.tick < t.tick → MOST_TICKS - t.tick < MOST_TICKS - s.tick
less start first s t sound later past = omega (arith, sound.in_life, sound.life_in_range, later.in_life, later.life_in_range, past)

pub returns-then-read-eq1-clause-moves : goal.returns-then-read-eq1-clause-moves
returns-then-read-eq1-clause-moves g c =
    let s = g.B.Board.state c.moving.board in
    let is_new = ap (λ (byte : ℕ). byte % 2) (sym c.read.ensures.value) ∙ c.if-read-eq1.true in
    c.moving.invariant.so_far s true (Moved s s is_new refl)

pub moving-smaller-in-Done : goal.moving-smaller-in-Done
moving-smaller-in-Done g c =
    let s = g.B.Board.state c.moving.board in
    let t = g.B.Board.state c.ask_next-answer.new.board in
    less (g.B.Board.start (g.B.Board.origin c.moving.board)) (g.B.Board.start (g.B.Board.origin c.ask_next-answer.new.board)) s t c.moving.invariant.sound c.tick-tick-in-moving.ensures.sound
    (next_later c.operations_are_bounded.ensures c.args.old.now c.args.new.now s t Done c.moving.invariant.sound.some_ticks (λ same. cc) c.args.enough c.in-Done.ensures.runs)

pub moving-preserved-in-Done : goal.moving-preserved-in-Done
moving-preserved-in-Done g c =
    let s = g.B.Board.state c.moving.board in
    let t = g.B.Board.state c.ask_next-answer.new.board in
    let o = c.args.old.now in
    let n = c.args.new.now in
    let is_old : IsInOld s.image = ap (λ (byte : ℕ). byte % 2) (sym c.read.ensures.value) ∙ even c.read.result c.if-read-eq1.false in
    let run = c.in-Done.ensures.runs in
    let can = c.moving.invariant.can in
    record {
      so_far = λ u moved later. c.moving.invariant.so_far u moved (Further s t u Done moved is_old (λ same. cc) run later);
      can = can_again c.moves_are_safe.ensures o n c.args.enough s t Done is_old can run;
      size = (let same = next_size c.moves_are_safe.ensures o n can.program can.value s is_old can.stands c.args.enough t Done run in omega (arith, same, c.moving.invariant.size));
      sound = c.tick-tick-in-moving.ensures.sound;
      same_origin = c.in-Done.ensures.origin ∙ c.moving.invariant.same_origin;
    }

pub moving-smaller : goal.moving-smaller
moving-smaller g c =
    let s = g.B.Board.state c.moving.board in
    let t = g.B.Board.state c.ask_next-answer.new.board in
    less (g.B.Board.start (g.B.Board.origin c.moving.board)) (g.B.Board.start (g.B.Board.origin c.ask_next-answer.new.board)) s t c.moving.invariant.sound c.tick-tick-in-moving.ensures.sound
    (next_later c.operations_are_bounded.ensures c.args.old.now c.args.new.now s t Lost c.moving.invariant.sound.some_ticks (λ same. cc) c.args.enough c.in-Lost.ensures.runs)

pub moving-preserved : goal.moving-preserved
moving-preserved g c =
    let s = g.B.Board.state c.moving.board in
    let t = g.B.Board.state c.ask_next-answer.new.board in
    let o = c.args.old.now in
    let n = c.args.new.now in
    let is_old : IsInOld s.image = ap (λ (byte : ℕ). byte % 2) (sym c.read.ensures.value) ∙ even c.read.result c.if-read-eq1.false in
    let run = c.in-Lost.ensures.runs in
    let can = c.moving.invariant.can in
    record {
      so_far = λ u moved later. c.moving.invariant.so_far u moved (Further s t u Lost moved is_old (λ same. cc) run later);
      can = can_again c.moves_are_safe.ensures o n c.args.enough s t Lost is_old can run;
      size = (let same = next_size c.moves_are_safe.ensures o n can.program can.value s is_old can.stands c.args.enough t Lost run in omega (arith, same, c.moving.invariant.size));
      sound = c.tick-tick-in-moving.ensures.sound;
      same_origin = c.in-Lost.ensures.origin ∙ c.moving.invariant.same_origin;
    }

pub returns-in-Over-clause-moves : goal.returns-in-Over-clause-moves
returns-in-Over-clause-moves g c =
    let s = g.B.Board.state c.moving.board in
    let t = g.B.Board.state c.ask_next-answer.new.board in
    let is_old : IsInOld s.image = ap (λ (byte : ℕ). byte % 2) (sym c.read.ensures.value) ∙ even c.read.result c.if-read-eq1.false in
    c.moving.invariant.so_far t false (Ended s t is_old c.in-Over.ensures.runs)
