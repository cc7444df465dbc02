use Rattle.std.proofs.Common.{Bor, List, ℕ, Some}
use Rattle.csv.specs.Records.{fields_of}
use Rattle.cn_tables.proofs.NextRow.{known_source, read-goes, read-more, read-none, ready_is}
use Rattle.cn_tables.proofs.reading.read_next.Goals as goal

pub returns-clause-going : goal.returns-clause-going
returns-clause-going c found =
    let h = c.requires in
    let (y, known) = known_source c.args.reader.now h.going in
    let read = rw found at (c.in-Ok.ensures.reads h.trim (ready_is c.args.reader.now h.ready)) in
    read-goes (λ (s : Bor (List ℕ)). Some s.now) c.args.reader.now c.read_byte_record.new.self (fields_of c.read_byte_record.new.row) y h known read c.in-Ok.ensures.goes c.in-Ok.ensures.flexible (c.in-Ok.ensures.ready h.trim)

pub returns-clause-row : goal.returns-clause-row
returns-clause-row c found =
    let h = c.requires in
    let (y, known) = known_source c.args.reader.now h.going in
    let read = rw found at (c.in-Ok.ensures.reads h.trim (ready_is c.args.reader.now h.ready)) in
    (read-more (λ (s : Bor (List ℕ)). Some s.now) c.args.reader.now c.read_byte_record.new.self (fields_of c.read_byte_record.new.row) y h.config h.between known read).0

pub returns-clause-end : goal.returns-clause-end
returns-clause-end c found =
    let h = c.requires in
    let (y, known) = known_source c.args.reader.now h.going in
    let read = rw found at (c.in-Ok.ensures.reads h.trim (ready_is c.args.reader.now h.ready)) in
    read-none (λ (s : Bor (List ℕ)). Some s.now) c.args.reader.now c.read_byte_record.new.self (fields_of c.read_byte_record.new.row) y h.config known read
