use Rattle.std.proofs.Common.{◌≡◌, ◌+◌, ◌*◌, ◌≤◌, ◌<◌, ◌^◌, ℕ, Bool, List, length, sym, ◌∙◌, ap, arith}
use Rattle.std.specs.Prelude.{if◌then◌else◌}
use Rattle.nv_memory.specs.Bytes.{bytes_at}
use Rattle.nv_memory.specs.Layout.{record_at, record_len, size_of}
use Rattle.nv_log.specs.Record.{record_of, record_bytes, short_record, long_record}
use Rattle.nv_log.proofs.EntryLemmas.{short_parts, moved}
use Rattle.nv_log.proofs.log.moved_record.Goals as goal

pub returns : goal.returns
returns g c = λ entry fits is.
    let old = c.args.old.now in
    let image = (g.B.Board.state c.args.board.now).image in
    let at : ℕ = c.log_at.result + c.record_len.result * c.args.place in
    let at_is : at ≡ record_at old c.args.place = cc in
    let sixteen : record_len old ≡ 16 = ap (λ (short : Bool). if short then 16 else 24) c.requires.from in
    let within : at + 16 ≤ length image = omega (arith, at_is, sixteen, c.requires.image, (c.parts_are_apart.ensures old).size c.args.place c.requires.place) in
    let stands = short_parts image at c.read.result c.read-2.result c.read-3.result c.read-4.result c.number-first.result c.number-second.result c.number-third.result within
    c.read.ensures.value c.read-2.ensures.value c.read-3.ensures.value c.read-4.ensures.value c.number-first.ensures c.number-second.ensures c.number-third.ensures in
    c.long_record.ensures.bytes ∙ ap (λ (second : ℕ). long_record c.read.result c.read-2.result c.read-3.result c.read-4.result c.number-first.result second c.number-third.result 0) c.from.ensures ∙ moved old c.args.new.now entry c.read.result c.read-2.result c.read-3.result c.read-4.result c.number-first.result c.number-second.result c.number-third.result
    c.requires.from c.requires.to (omega arith) (omega arith) (omega arith) fits (stands ∙ ap (λ (p : ℕ). bytes_at p 16 image) at_is ∙ ap (λ (n : ℕ). bytes_at (record_at old c.args.place) n image) (sym sixteen) ∙ is)
