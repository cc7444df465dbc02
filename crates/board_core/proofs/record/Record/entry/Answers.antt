use Rattle.std.proofs.Common.{ℕ, ◌+◌, ◌≤◌, ◌<◌, Some, ◌∙◌, sym, ap, false, subst}
use Rattle.std.specs.Prelude.{slice_get}
use Rattle.nv_memory.specs.declared.entry.Op.TheVariants as op
use Rattle.board_core.specs.declared.record.Record.{Record}
use Rattle.board_core.specs.Records.{entries_by, sleep_stored, width}
use Rattle.board_core.proofs.RecordLemmas.{sleep_at}
use Rattle.board_core.proofs.record.Record.entry.Goals as goal

pub returns-in-Slept : goal.returns-in-Slept
returns-in-Slept c =
    let s = c.in-Slept in
    let in_cap : s.stored ≤ c.args.cap = subst (λ (r : Record). sleep_stored r ≤ c.args.cap) s.is c.requires.held.in_cap in
    let within : c.args.nth < s.ticks = subst (λ (r : Record). c.args.nth < width r) s.is c.requires.nth in
    ap (λ (r : Record). slice_get (entries_by c.args.cap c.args.left.now r) c.args.nth) s.is
    ∙ sleep_at c.args.cap s.tick s.stored s.harvest s.ticks c.args.nth in_cap within
    ∙ ap (λ (n : ℕ). Some (record { tick = s.tick + c.args.nth; stored = n; drawn = 0; ticks = 1; op = op.Sleep; lost = false })) (sym c.refilled.ensures.at_once)
