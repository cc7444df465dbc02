use Rattle.std.proofs.Common.{ℕ, ap, ◌∙◌, subst}
use Rattle.cn_base.specs.Writing.{Writes}
use Rattle.event_arrivals.specs.Arrivals.{Lists}
use Rattle.cn_report.specs.Tallied.{tally_of}
use Rattle.cn_report.specs.declared.counts.Tally.{Tally}
use Rattle.catnap_top.specs.Bench.{summary_text, tally_in}
use Rattle.catnap_top.specs.Headline.{past_in}
use Rattle.catnap_top.specs.Replayed.{lived_of}
use Rattle.catnap_top.proofs.bench.write_bench.Goals as goal

pub returns-clause-text : goal.returns-clause-text
returns-clause-text g c =
    let r = c.args.replayed in
    let life = (lived_of r).life in
    let text = λ (tick : ℕ) (counts : Tally) (stored : ℕ). Writes (g.K.Sink.written c.args.sink.now) (g.K.Sink.written c.put_summary.new.sink) (summary_text c.args.size tick counts stored r.end) c.put_summary.result in
    let counted = c.tally-counts.ensures.tally ∙ ap (λ (lists : Lists). tally_of r.prepared.program.headers lists (past_in life)) c.arrivals.ensures in
    subst (λ (stored : ℕ). text life.state.tick (tally_in (lived_of r)) stored) c.stored.ensures.value
    (subst (λ (counts : Tally). text life.state.tick counts c.stored.result) counted
    (subst (λ (tick : ℕ). text tick c.tally-counts.result c.stored.result) c.tick.ensures.value c.put_summary.ensures.text))
