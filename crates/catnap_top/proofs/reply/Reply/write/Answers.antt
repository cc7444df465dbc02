use Rattle.std.proofs.Common.{sym, subst}
use Rattle.cn_base.specs.Writing.{Writes}
use Rattle.catnap_top.specs.declared.reply.Reply.{Reply}
use Rattle.catnap_top.specs.Reply.{reply_answer}
use Rattle.catnap_top.proofs.reply.Reply.write.Goals as goal

pub returns-in-Run-clause-text : goal.returns-in-Run-clause-text
returns-in-Run-clause-text g c =
    subst (λ (r : Reply). Writes (g.K.Sink.written c.args.sink.now) (g.K.Sink.written c.write_run.new.sink) (reply_answer r).text c.write_run.result) (sym c.in-Run.is) c.write_run.ensures.text

pub returns-in-List-clause-text : goal.returns-in-List-clause-text
returns-in-List-clause-text g c =
    subst (λ (r : Reply). Writes (g.K.Sink.written c.args.sink.now) (g.K.Sink.written c.write_list.new.sink) (reply_answer r).text c.write_list.result) (sym c.in-List.is) c.write_list.ensures.text

pub returns-in-Object-clause-text : goal.returns-in-Object-clause-text
returns-in-Object-clause-text g c =
    subst (λ (r : Reply). Writes (g.K.Sink.written c.args.sink.now) (g.K.Sink.written c.write_file.new.sink) (reply_answer r).text c.write_file.result) (sym c.in-Object.is) c.write_file.ensures.text

pub returns-in-Check-clause-text : goal.returns-in-Check-clause-text
returns-in-Check-clause-text g c =
    subst (λ (r : Reply). Writes (g.K.Sink.written c.args.sink.now) (g.K.Sink.written c.write_check.new.sink) (reply_answer r).text c.write_check.result) (sym c.in-Check.is) c.write_check.ensures.text

pub returns-in-Plan-clause-text : goal.returns-in-Plan-clause-text
returns-in-Plan-clause-text g c =
    subst (λ (r : Reply). Writes (g.K.Sink.written c.args.sink.now) (g.K.Sink.written c.write_planned.new.sink) (reply_answer r).text c.write_planned.result) (sym c.in-Plan.is) c.write_planned.ensures.text

pub returns-in-Replay-clause-text : goal.returns-in-Replay-clause-text
returns-in-Replay-clause-text g c =
    subst (λ (r : Reply). Writes (g.K.Sink.written c.args.sink.now) (g.K.Sink.written c.write_replay.new.sink) (reply_answer r).text c.write_replay.result) (sym c.in-Replay.is) c.write_replay.ensures.text

pub returns-in-Image-clause-text : goal.returns-in-Image-clause-text
returns-in-Image-clause-text g c =
    subst (λ (r : Reply). Writes (g.K.Sink.written c.args.sink.now) (g.K.Sink.written c.write_image.new.sink) (reply_answer r).text c.write_image.result) (sym c.in-Image.is) c.write_image.ensures.text

pub returns-in-Resume-clause-text : goal.returns-in-Resume-clause-text
returns-in-Resume-clause-text g c =
    subst (λ (r : Reply). Writes (g.K.Sink.written c.args.sink.now) (g.K.Sink.written c.write_rest.new.sink) (reply_answer r).text c.write_rest.result) (sym c.in-Resume.is) c.write_rest.ensures.text

pub returns-in-RunObject-clause-text : goal.returns-in-RunObject-clause-text
returns-in-RunObject-clause-text g c =
    subst (λ (r : Reply). Writes (g.K.Sink.written c.args.sink.now) (g.K.Sink.written c.write_sections.new.sink) (reply_answer r).text c.write_sections.result) (sym c.in-RunObject.is) c.write_sections.ensures.text

pub returns-in-Bench-clause-text : goal.returns-in-Bench-clause-text
returns-in-Bench-clause-text g c =
    subst (λ (r : Reply). Writes (g.K.Sink.written c.args.sink.now) (g.K.Sink.written c.write_bench.new.sink) (reply_answer r).text c.write_bench.result) (sym c.in-Bench.is) c.write_bench.ensures.text

pub returns-in-Uplink-clause-text : goal.returns-in-Uplink-clause-text
returns-in-Uplink-clause-text g c =
    subst (λ (r : Reply). Writes (g.K.Sink.written c.args.sink.now) (g.K.Sink.written c.write_uplinked.new.sink) (reply_answer r).text c.write_uplinked.result) (sym c.in-Uplink.is) c.write_uplinked.ensures.text
