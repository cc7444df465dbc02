use Rattle.std.proofs.Common.{◌≡◌, length, ap, sym, ◌∙◌, subst, drop, arith}
use Rattle.std.specs.List.{All}
use Rattle.cn_object.specs.declared.object.Object.{Object}
use Rattle.cn_object.specs.Reading.{read_parts, words_in, tasks_in, count_in, after_head, after_words, AreWhole, HasFewParts}
use Rattle.cn_object.specs.Spelling.{HasVersions}
use Rattle.cn_object.proofs.Files.{as_has_few, as_is_read, as_whole, as_again, read_is_as, few_by, elim_false}
use Rattle.cn_object.proofs.Ranges.{length-words, length-started, length-numbers}
use Rattle.cn_object.proofs.reading.read.Goals as goal

pub returns-then-not-has_few_parts : goal.returns-then-not-has_few_parts
returns-then-not-has_few_parts c = λ o h. elim_false c.has_few_parts.result _ c.has_few_parts.ensures c.if-not-has_few_parts.true (as_has_few o c.args.bytes.now h)

pub returns-then-not-have_versions : goal.returns-then-not-have_versions
returns-then-not-have_versions c =
    λ o h.
    let same : c.in_ok-object.object ≡ o = c.in_ok-object.ensures ∙ as_is_read o c.args.bytes.now h in
    absurd (elim_false c.have_versions.result _ c.have_versions.ensures c.if-not-have_versions.true (subst (λ (x : Object). All HasVersions x.code.versions) (sym same) h.small.versions))

pub after_events-requires : goal.after_events-requires
after_events-requires c = few_by _ _ c.has_few_parts.ensures c.if-not-has_few_parts.false

pub returns-then-not-all_whole : goal.returns-then-not-all_whole
returns-then-not-all_whole c =
    λ o h.
    let parts : c.deref.result.now ≡ read_parts (count_in c.args.bytes.now) _ = c.deref.ensures.value ∙ c.in_ok-all.ensures ∙ ap (λ n. read_parts n c.after_events.result.now) c.instr_count.ensures ∙ ap (read_parts (count_in c.args.bytes.now)) c.after_events.ensures in
    absurd (elim_false c.all_whole.result _ c.all_whole.ensures c.if-not-all_whole.true (subst (All AreWhole) (sym parts) (as_whole o c.args.bytes.now h)))

pub is_again-requires-clause-words : goal.is_again-requires-clause-words
is_again-requires-clause-words c =
    let few : HasFewParts c.args.bytes.now = few_by _ _ c.has_few_parts.ensures c.if-not-has_few_parts.false in
    omega (arith, ap (λ (x : Object). length x.words) c.in_ok-object.ensures, length-words (words_in c.args.bytes.now) (after_head c.args.bytes.now), few.words)

pub is_again-requires-clause-tasks : goal.is_again-requires-clause-tasks
is_again-requires-clause-tasks c =
    let few : HasFewParts c.args.bytes.now = few_by _ _ c.has_few_parts.ensures c.if-not-has_few_parts.false in
    omega (arith, ap (λ (x : Object). length x.code.tasks) c.in_ok-object.ensures, length-numbers 8 (tasks_in c.args.bytes.now) (drop 4 (after_words c.args.bytes.now)), few.tasks)

pub is_again-requires-clause-started : goal.is_again-requires-clause-started
is_again-requires-clause-started c =
    omega (arith, ap (λ (x : Object). length x.started) c.in_ok-object.ensures, ap (λ (x : Object). length x.code.tasks) c.in_ok-object.ensures, length-started (tasks_in c.args.bytes.now) (after_words c.args.bytes.now), length-numbers 8 (tasks_in c.args.bytes.now) (drop 4 (after_words c.args.bytes.now)))

pub returns-then-again : goal.returns-then-again
returns-then-again c =
    let few : HasFewParts c.args.bytes.now = few_by _ _ c.has_few_parts.ensures c.if-not-has_few_parts.false in
    let parts : c.deref.result.now ≡ read_parts (count_in c.args.bytes.now) _ = c.deref.ensures.value ∙ c.in_ok-all.ensures ∙ ap (λ n. read_parts n c.after_events.result.now) c.instr_count.ensures ∙ ap (read_parts (count_in c.args.bytes.now)) c.after_events.ensures in
    let parts' : c.deref-2.result.now ≡ c.deref.result.now = c.deref-2.ensures.value ∙ sym c.deref.ensures.value in
    read_is_as c.in_ok-object.object c.deref-2.result.now c.args.bytes.now c.in_ok-object.ensures c.are_bytes.ensures few (few_by _ _ c.have_versions.ensures c.if-not-have_versions.false) (parts' ∙ parts)
    (subst (All AreWhole) (sym parts') (few_by _ _ c.all_whole.ensures c.if-not-all_whole.false)) (c.in_ok-again.ensures.0 c.if-again.true)

pub returns-else-again : goal.returns-else-again
returns-else-again c =
    λ o h.
    let parts : c.deref.result.now ≡ read_parts (count_in c.args.bytes.now) _ = c.deref.ensures.value ∙ c.in_ok-all.ensures ∙ ap (λ n. read_parts n c.after_events.result.now) c.instr_count.ensures ∙ ap (read_parts (count_in c.args.bytes.now)) c.after_events.ensures in
    let parts' : c.deref-2.result.now ≡ c.deref.result.now = c.deref-2.ensures.value ∙ sym c.deref.ensures.value in
    elim_false _ _ c.in_ok-again.ensures c.if-again.false (as_again o c.in_ok-object.object c.deref-2.result.now c.args.bytes.now h c.in_ok-object.ensures (parts' ∙ parts))
