use Rattle.std.proofs.Common.{◌≡◌, ◌≤◌, length, sym, ◌∙◌, ap, subst, arith}
use Rattle.cn_object.specs.Regions.{all_entries, AreEntriesOf}
use Rattle.cn_object.proofs.Files.{few_by}
use Rattle.cn_object.proofs.Spanning.{span_is, begins_below, end_within, regions_begin, regions_go, regions_break, regions_end}
use Rattle.cn_object.proofs.regions.region_fault.Goals as goal

pub span_fault-requires-clause-order : goal.span_fault-requires-clause-order
span_fault-requires-clause-order c =
    let es = c.deref-in-loop-k.result.now in
    let same : c.deref.result.now ≡ es = c.deref.ensures.value ∙ sym c.deref-in-loop-k.ensures.value in
    let s = span_is c.args.code.now es (length c.tasks-tasks.result.now) c.len-count.result c.loop-k.k c.span_of-span.result
    (c.deref-in-loop-k.ensures.value ∙ c.in_ok-entries.ensures) (ap length c.tasks-tasks.ensures) c.len-count.ensures
    (subst (λ l. AreEntriesOf l c.len-count.result) same (few_by c.are_entries.result _ c.are_entries.ensures c.if-not-are_entries.false))
    (omega (arith, c.loop-k-test.true, c.len-k-end.ensures, c.deref-in-loop-k.ensures.len)) c.span_of-span.ensures in
    begins_below c.args.code.now c.loop-k.k c.span_of-span.result s

pub span_fault-requires-clause-within : goal.span_fault-requires-clause-within
span_fault-requires-clause-within c =
    let es = c.deref-in-loop-k.result.now in
    let same : c.deref.result.now ≡ es = c.deref.ensures.value ∙ sym c.deref-in-loop-k.ensures.value in
    let s = span_is c.args.code.now es (length c.tasks-tasks.result.now) c.len-count.result c.loop-k.k c.span_of-span.result
    (c.deref-in-loop-k.ensures.value ∙ c.in_ok-entries.ensures) (ap length c.tasks-tasks.ensures) c.len-count.ensures
    (subst (λ l. AreEntriesOf l c.len-count.result) same (few_by c.are_entries.result _ c.are_entries.ensures c.if-not-are_entries.false))
    (omega (arith, c.loop-k-test.true, c.len-k-end.ensures, c.deref-in-loop-k.ensures.len)) c.span_of-span.ensures in
    end_within c.args.code.now c.loop-k.k c.span_of-span.result s

pub loop-k-init : goal.loop-k-init
loop-k-init c = regions_begin c.args.code.now (subst (λ l. AreEntriesOf l (length c.args.code.now.instrs)) (c.deref.ensures.value ∙ c.in_ok-entries.ensures) (subst (λ n. AreEntriesOf c.deref.result.now n) c.len-count.ensures (few_by c.are_entries.result _ c.are_entries.ensures c.if-not-are_entries.false)))

pub loop-k-preserved : goal.loop-k-preserved
loop-k-preserved c =
    let es = c.deref-in-loop-k.result.now in
    let same : c.deref.result.now ≡ es = c.deref.ensures.value ∙ sym c.deref-in-loop-k.ensures.value in
    let s = span_is c.args.code.now es (length c.tasks-tasks.result.now) c.len-count.result c.loop-k.k c.span_of-span.result
    (c.deref-in-loop-k.ensures.value ∙ c.in_ok-entries.ensures) (ap length c.tasks-tasks.ensures) c.len-count.ensures
    (subst (λ l. AreEntriesOf l c.len-count.result) same (few_by c.are_entries.result _ c.are_entries.ensures c.if-not-are_entries.false))
    (omega (arith, c.loop-k-test.true, c.len-k-end.ensures, c.deref-in-loop-k.ensures.len)) c.span_of-span.ensures in
    regions_go c.args.code.now c.loop-k.k c.span_of-span.result s c.loop-k.invariant c.in_default.ensures

pub returns-in-Some : goal.returns-in-Some
returns-in-Some c =
    let es = c.deref-in-loop-k.result.now in
    let same : c.deref.result.now ≡ es = c.deref.ensures.value ∙ sym c.deref-in-loop-k.ensures.value in
    let s = span_is c.args.code.now es (length c.tasks-tasks.result.now) c.len-count.result c.loop-k.k c.span_of-span.result
    (c.deref-in-loop-k.ensures.value ∙ c.in_ok-entries.ensures) (ap length c.tasks-tasks.ensures) c.len-count.ensures
    (subst (λ l. AreEntriesOf l c.len-count.result) same (few_by c.are_entries.result _ c.are_entries.ensures c.if-not-are_entries.false))
    (omega (arith, c.loop-k-test.true, c.len-k-end.ensures, c.deref-in-loop-k.ensures.len)) c.span_of-span.ensures in
    let found = c.in-Some.ensures in
    regions_break c.args.code.now c.loop-k.k c.span_of-span.result s c.requires.targets c.loop-k.invariant c.in-Some.place found.0 found.1 found.2 found.3

pub returns : goal.returns
returns c =
    let most : length (all_entries c.args.code.now) ≤ c.loop-k.k = omega (arith, c.loop-k-test.false, c.len-k-end.ensures, ap length c.in_ok-entries.ensures, c.in_ok-entries.entries.ok.0) in (
      (subst (λ l. AreEntriesOf l (length c.args.code.now.instrs)) (c.deref.ensures.value ∙ c.in_ok-entries.ensures) (subst (λ n. AreEntriesOf c.deref.result.now n) c.len-count.ensures (few_by c.are_entries.result _ c.are_entries.ensures c.if-not-are_entries.false))),
      regions_end c.args.code.now c.loop-k.k most c.loop-k.invariant,
    )
