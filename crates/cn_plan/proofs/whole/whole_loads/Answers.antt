use Rattle.std.proofs.Common.{◌≡◌, ◌<◌, ◌≤◌, List, [], length, All, ap, sym, ◌∙◌, subst, arith}
use Rattle.std.proofs.lemmas.List.Elements.{All-push}
use Rattle.demand_core.specs.declared.Load.{Load}
use Rattle.feasibility.specs.Chosen.{loads_of}
use Rattle.degradation.specs.Choice.{tables_of}
use Rattle.cn_plan.proofs.Undegraded.{has_job, jobs_count, loads_length, loads_more, loads_none, tables_count}
use Rattle.cn_plan.proofs.whole.whole_loads.Goals as goal

pub loop-e-init : goal.loop-e-init
loop-e-init c =
    let none = c.new-loads.ensures.items in
    record {
      loads = none ∙ sym (loads_none (tables_of c.args.program.now.headers c.args.bounds.now.jobs) []);
      spacings = λ k d lt. absurd (omega (arith, ap (λ (l : List Load). length l) none));
      within = λ k d lt. absurd (omega (arith, ap (λ (l : List Load). length l) none));
    }

pub job-requires : goal.job-requires
job-requires c =
    let p = c.args.program.now in
    let b = c.args.bounds.now in
    let count = jobs_count p b c.requires in
    let some = c.event.ensures.declared.some in
    (omega (arith, count, c.events-e-end.ensures.count), has_job b.jobs p.events c.loop-e.e c.requires (omega (arith, c.events-e-end.ensures.count)) (omega (arith, some)))

pub loop-e-preserved : goal.loop-e-preserved
loop-e-preserved c =
    let items = c.in_ok-push.ensures.items in
    let declared = c.event.ensures.declared in
    let due = declared.due in
    let in_time = declared.in_time in
    let more = loads_more c.args.program.now c.args.bounds.now c.loop-e.e c.event.result.now c.job.result c.event.ensures.header c.job.ensures in
    let spacing = ap (λ (x : Load). x.spacing) c.load_of.ensures in
    let deadline = ap (λ (x : Load). x.deadline) c.load_of.ensures in
    record {
      loads = cc (items, more, c.load_of.ensures, c.loop-e.invariant.loads);
      spacings = subst (All (λ (x : Load). 0 < x.spacing)) (sym items) (All-push (λ (x : Load). 0 < x.spacing) c.loop-e.loads.items c.load_of.result c.loop-e.invariant.spacings (omega (arith, due, in_time, spacing)));
      within = subst (All (λ (x : Load). x.deadline ≤ x.spacing)) (sym items) (All-push (λ (x : Load). x.deadline ≤ x.spacing) c.loop-e.loads.items c.load_of.result c.loop-e.invariant.within (omega (arith, in_time, spacing, deadline)));
    }

pub returns-clause-loads : goal.returns-clause-loads
returns-clause-loads c =
    let tables = tables_of c.args.program.now.headers c.args.bounds.now.jobs in
    let count = tables_count c.events_have_headers.ensures c.args.program.now c.args.bounds.now c.bodies-checked.ensures.checked c.requires in
    let all : c.loop-e.e ≡ length (tables_of c.args.program.now.headers c.args.bounds.now.jobs) = omega (arith, count, c.events-e-end.ensures.count) in
    c.loop-e.invariant.loads ∙ ap (loads_of tables []) all

pub returns-clause-few : goal.returns-clause-few
returns-clause-few c =
    let tables = tables_of c.args.program.now.headers c.args.bounds.now.jobs in
    omega (arith, ap (λ (l : List Load). length l) c.loop-e.invariant.loads, loads_length tables [] c.loop-e.e, c.events-e-end.ensures.few)
