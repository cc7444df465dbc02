use Rattle.std.proofs.Common.{List, refl, subst}
use Rattle.nv_memory.specs.declared.board.Answer.{Answer}
use Rattle.nv_memory.specs.declared.board.Answer.TheVariants.{Done, Lost, Over}
use Rattle.nv_memory.specs.declared.entry.Op.{Op}
use Rattle.nv_memory.specs.Board.{Runs}
use Rattle.migration.specs.Moves.{lines_in, records_of, writes_of}
use Rattle.migration.proofs.Lines.{lines_by}
use Rattle.migration.proofs.Whole.{in_records, in_lines, at_format}
use Rattle.migration.proofs.moving.migrate.Goals as goal

pub returns-in-Lost-clause-runs : goal.returns-in-Lost-clause-runs
returns-in-Lost-clause-runs g c =
    let o = c.args.old.now in
    let n = c.args.new.now in
    let start = g.B.Board.state c.args.board.now in
    let mid = g.B.Board.state c.bring_records.new.board in
    let J = c.runs_are_joined.ensures in
    in_records J o n start Lost mid (λ no. cc) (subst (λ (answer : Answer). Runs start (writes_of start.image (records_of o n start.image)) answer mid) c.in-Lost.is c.bring_records.ensures.runs)

pub returns-in-Over-clause-runs : goal.returns-in-Over-clause-runs
returns-in-Over-clause-runs g c =
    let o = c.args.old.now in
    let n = c.args.new.now in
    let start = g.B.Board.state c.args.board.now in
    let mid = g.B.Board.state c.bring_records.new.board in
    let J = c.runs_are_joined.ensures in
    in_records J o n start Over mid (λ no. cc) (subst (λ (answer : Answer). Runs start (writes_of start.image (records_of o n start.image)) answer mid) c.in-Over.is c.bring_records.ensures.runs)

pub returns-in-Lost-bring_lines-clause-runs : goal.returns-in-Lost-bring_lines-clause-runs
returns-in-Lost-bring_lines-clause-runs g c =
    let o = c.args.old.now in
    let n = c.args.new.now in
    let start = g.B.Board.state c.args.board.now in
    let mid = g.B.Board.state c.bring_records.new.board in
    let J = c.runs_are_joined.ensures in
    let records = subst (λ (answer : Answer). Runs start (writes_of start.image (records_of o n start.image)) answer mid) c.in-Done.is c.bring_records.ensures.runs in
    let same = lines_by c.writes_are_local.ensures c.parts_are_apart.ensures o n mid.image start.image c.requires.can.layouts c.requires.can.size (c.in-Done.ensures.front refl) in
    let late = g.B.Board.state c.bring_lines.new.board in
    let run = subst (λ (answer : Answer). Runs mid (writes_of mid.image (lines_in o n mid.image)) answer late) c.in-Lost-bring_lines.is c.bring_lines.ensures.runs in
    in_lines J o n start mid records Lost late (λ no. cc) (subst (λ (ops : List Op). Runs mid ops Lost late) same run)

pub returns-in-Over-bring_lines-clause-runs : goal.returns-in-Over-bring_lines-clause-runs
returns-in-Over-bring_lines-clause-runs g c =
    let o = c.args.old.now in
    let n = c.args.new.now in
    let start = g.B.Board.state c.args.board.now in
    let mid = g.B.Board.state c.bring_records.new.board in
    let J = c.runs_are_joined.ensures in
    let records = subst (λ (answer : Answer). Runs start (writes_of start.image (records_of o n start.image)) answer mid) c.in-Done.is c.bring_records.ensures.runs in
    let same = lines_by c.writes_are_local.ensures c.parts_are_apart.ensures o n mid.image start.image c.requires.can.layouts c.requires.can.size (c.in-Done.ensures.front refl) in
    let late = g.B.Board.state c.bring_lines.new.board in
    let run = subst (λ (answer : Answer). Runs mid (writes_of mid.image (lines_in o n mid.image)) answer late) c.in-Over-bring_lines.is c.bring_lines.ensures.runs in
    in_lines J o n start mid records Over late (λ no. cc) (subst (λ (ops : List Op). Runs mid ops Over late) same run)

pub returns-clause-runs : goal.returns-clause-runs
returns-clause-runs g c =
    let o = c.args.old.now in
    let n = c.args.new.now in
    let start = g.B.Board.state c.args.board.now in
    let mid = g.B.Board.state c.bring_records.new.board in
    let J = c.runs_are_joined.ensures in
    let records = subst (λ (answer : Answer). Runs start (writes_of start.image (records_of o n start.image)) answer mid) c.in-Done.is c.bring_records.ensures.runs in
    let same = lines_by c.writes_are_local.ensures c.parts_are_apart.ensures o n mid.image start.image c.requires.can.layouts c.requires.can.size (c.in-Done.ensures.front refl) in
    let late = g.B.Board.state c.bring_lines.new.board in
    let run = subst (λ (answer : Answer). Runs mid (writes_of mid.image (lines_in o n mid.image)) answer late) c.in-Done-bring_lines.is c.bring_lines.ensures.runs in
    at_format J o n start mid records late (g.B.Board.state c.write.new.self) c.write.result (subst (λ (ops : List Op). Runs mid ops Done late) same run) c.write.ensures.step
