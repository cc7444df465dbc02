-- A whole file is read again.
use Rattle.std.proofs.Common.{◌≡◌, ℕ, ◌*◌, ℤ, List, [], ◌++◌, length, drop, get_or, sym, ◌∙◌, ap, subst, append-nil, Bool, true, false, arith}
use Rattle.std.specs.Prelude.{◌↔◌, IsTrue, map}
use Rattle.std.proofs.lemmas.List.{length-map}
use Rattle.std.proofs.lemmas.Option.{slice_get-get_or}
use Rattle.cn_object.proofs.Ranges.{read_in_range, read_parts_fit, length-words, length-numbers, length-started, length-versions, length-instrs}
use Rattle.std.specs.List.{All, flat_map}
use Rattle.std.proofs.lemmas.Nat.{from_le_bytes-to_le_bytes_2, from_le_bytes-to_le_bytes_4}
use Rattle.std.proofs.Math.Seq.{drop-append_seam}
use Rattle.cat_machine.specs.declared.instr.Instr.{Instr}
use Rattle.cn_object.specs.declared.object.Object.{Object}
use Rattle.cn_object.specs.declared.parts.Parts.{Parts}
use Rattle.cn_object.specs.Spelling.{word_bytes, tasks_bytes, event_bytes, parts_bytes, parts_of, spelled_with, cut, PartsFit, HasVersions, IsSmall, IsInRange, IsFileOf, IsReadAs}
use Rattle.cn_object.specs.Verdict.{IsVerifiedObject}
use Rattle.cn_object.specs.Reading.{words_in, tasks_in, events_in, count_in, after_head, after_words, after_tasks, after_events, read_numbers, read_words, read_started, read_versions, after_versions, read_instrs, read_parts, read_object, AreBytes, AreWhole, HasFewParts}
use Rattle.cn_object.proofs.RoundTrip.{words_spelled, words_length, entries_spelled, started_spelled, tasks_length, versions_spelled, versions_passed, instrs_read, parts_read, parts_whole, whole_parts, own_parts_cut, own_parts_fit, own_parts_spell, parts_same}

abbrev object_by : List Instr → List ℕ → List (List ℕ) → List ℤ → List ℕ → Object
object_by instrs tasks versions words started = record { code = record { instrs = instrs; tasks = tasks; versions = versions }; words = words; started = started }

words_counted : (o : Object) (tail : List ℕ) → IsSmall o → words_in (spelled_with o tail) ≡ length o.words
words_counted o tail small = from_le_bytes-to_le_bytes_2 (length o.words) (omega (arith, small.words))

instrs_counted : (o : Object) (tail : List ℕ) → IsSmall o → count_in (spelled_with o tail) ≡ length o.code.instrs
instrs_counted o tail small = from_le_bytes-to_le_bytes_4 (length o.code.instrs) (omega (arith, small.count))

abbrev events_part : Object → List ℕ → List ℕ
events_part o tail = flat_map event_bytes o.code.versions ++ tail

abbrev tasks_part : Object → List ℕ → List ℕ
tasks_part o tail = tasks_bytes o.started o.code.tasks ++ events_part o tail

words_passed : (o : Object) (tail : List ℕ) → IsSmall o → after_words (spelled_with o tail) ≡ tasks_part o tail
words_passed o tail small =
    let rest = flat_map word_bytes o.words ++ tasks_part o tail in
    ap (λ n. drop (4 * n) rest) (words_counted o tail small)
    ∙ ap (λ n. drop n rest) (sym (words_length o.words))
    ∙ drop-append_seam (flat_map word_bytes o.words) (tasks_part o tail)

tasks_passed : (o : Object) (tail : List ℕ) → IsSmall o → after_tasks (spelled_with o tail) ≡ events_part o tail
tasks_passed o tail small =
    ap (λ l. drop (8 * length o.code.tasks) l) (words_passed o tail small)
    ∙ ap (λ n. drop n (tasks_part o tail)) (sym (tasks_length o.started o.code.tasks small.started))
    ∙ drop-append_seam (tasks_bytes o.started o.code.tasks) (events_part o tail)

events_passed : (o : Object) (tail : List ℕ) → IsSmall o → after_events (spelled_with o tail) ≡ tail
events_passed o tail small =
    ap (λ l. after_versions (length o.code.versions) l) (tasks_passed o tail small) ∙ versions_passed o.code.versions tail

read_spelled : (o : Object) (ps : List Parts) → IsSmall o → IsInRange o → All PartsFit ps → map cut ps ≡ map parts_of o.code.instrs → read_object (spelled_with o (flat_map parts_bytes ps)) ≡ o
read_spelled o ps small range fit same =
    let tail = flat_map parts_bytes ps in
    let bs = spelled_with o tail in
    let instrs : read_instrs (count_in bs) (after_events bs) ≡ o.code.instrs =
    ap (λ n. read_instrs n (after_events bs)) (instrs_counted o tail small)
    ∙ ap (λ l. read_instrs (length o.code.instrs) l) (events_passed o tail small ∙ sym (append-nil tail))
    ∙ instrs_read ps o.code.instrs [] fit same range.instrs in
    let tasks : read_numbers 8 (length o.code.tasks) (drop 4 (after_words bs)) ≡ o.code.tasks =
    ap (λ l. read_numbers 8 (length o.code.tasks) (drop 4 l)) (words_passed o tail small)
    ∙ entries_spelled o.started o.code.tasks (events_part o tail) small.started range.tasks in
    let versions : read_versions (length o.code.versions) (after_tasks bs) ≡ o.code.versions =
    ap (λ l. read_versions (length o.code.versions) l) (tasks_passed o tail small)
    ∙ versions_spelled o.code.versions tail range.versions in
    let words : read_words (words_in bs) (flat_map word_bytes o.words ++ tasks_part o tail) ≡ o.words =
    ap (λ n. read_words n (flat_map word_bytes o.words ++ tasks_part o tail)) (words_counted o tail small)
    ∙ words_spelled o.words (tasks_part o tail) range.words in
    let started : read_started (length o.code.tasks) (after_words bs) ≡ o.started =
    ap (λ l. read_started (length o.code.tasks) l) (words_passed o tail small)
    ∙ ap (λ n. read_started n (tasks_part o tail)) (sym small.started)
    ∙ started_spelled o.started o.code.tasks (events_part o tail) small.started range.started in
    ap (λ x. object_by x (read_numbers 8 (length o.code.tasks) (drop 4 (after_words bs))) (read_versions (length o.code.versions) (after_tasks bs)) (read_words (words_in bs) (flat_map word_bytes o.words ++ tasks_part o tail)) (read_started (length o.code.tasks) (after_words bs))) instrs
    ∙ ap (λ x. object_by o.code.instrs x (read_versions (length o.code.versions) (after_tasks bs)) (read_words (words_in bs) (flat_map word_bytes o.words ++ tasks_part o tail)) (read_started (length o.code.tasks) (after_words bs))) tasks
    ∙ ap (λ x. object_by o.code.instrs o.code.tasks x (read_words (words_in bs) (flat_map word_bytes o.words ++ tasks_part o tail)) (read_started (length o.code.tasks) (after_words bs))) versions
    ∙ ap (λ x. object_by o.code.instrs o.code.tasks o.code.versions x (read_started (length o.code.tasks) (after_words bs))) words
    ∙ ap (λ x. object_by o.code.instrs o.code.tasks o.code.versions o.words x) started

few_spelled : (o : Object) (tail : List ℕ) → IsSmall o → HasFewParts (spelled_with o tail)
few_spelled o tail small = record {
  words = omega (arith, words_counted o tail small, small.words);
  tasks = small.tasks;
  events = small.events;
  count = omega (arith, instrs_counted o tail small, small.count);
}

-- ---- bytes that are read as an object

pub read_is_small : (o : Object) (bytes : List ℕ) → o ≡ read_object bytes → HasFewParts bytes → All HasVersions o.code.versions → IsSmall o
read_is_small o bytes e few versions = record {
  words = omega (arith, ap (λ (x : Object). length x.words) e, length-words (words_in bytes) (after_head bytes), few.words);
  tasks = omega (arith, ap (λ (x : Object). length x.code.tasks) e, length-numbers 8 (tasks_in bytes) (drop 4 (after_words bytes)), few.tasks);
  events = omega (arith, ap (λ (x : Object). length x.code.versions) e, length-versions (events_in bytes) (after_tasks bytes), few.events);
  versions = versions;
  count = omega (arith, ap (λ (x : Object). length x.code.instrs) e, length-instrs (count_in bytes) (after_events bytes), few.count);
  started = omega (arith, ap (λ (x : Object). length x.started) e, ap (λ (x : Object). length x.code.tasks) e, length-started (tasks_in bytes) (after_words bytes), length-numbers 8 (tasks_in bytes) (drop 4 (after_words bytes)));
}

pub as_has_few : (o : Object) (bytes : List ℕ) → IsReadAs o bytes → HasFewParts bytes
as_has_few o bytes h = subst HasFewParts h.spelled (few_spelled o (flat_map parts_bytes h.spelled_by) h.small)

pub as_is_read : (o : Object) (bytes : List ℕ) → IsReadAs o bytes → read_object bytes ≡ o
as_is_read o bytes h = ap read_object (sym h.spelled) ∙ read_spelled o h.spelled_by h.small h.in_range h.fit h.instrs

pub as_parts : (o : Object) (bytes : List ℕ) (h : IsReadAs o bytes) → read_parts (count_in bytes) (after_events bytes) ≡ h.spelled_by
as_parts o bytes h =
    let ps = h.spelled_by in
    let tail = flat_map parts_bytes ps in
    let bs = spelled_with o tail in
    let size : length o.code.instrs ≡ length ps = sym (length-map o.code.instrs parts_of) ∙ ap length (sym h.instrs) ∙ length-map ps cut in
    let found : read_parts (count_in bs) (after_events bs) ≡ ps =
    ap (λ n. read_parts n (after_events bs)) (instrs_counted o tail h.small ∙ size)
    ∙ ap (λ l. read_parts (length ps) l) (events_passed o tail h.small ∙ sym (append-nil tail))
    ∙ parts_read ps [] h.fit in
    ap (λ l. read_parts (count_in l) (after_events l)) (sym h.spelled) ∙ found

pub as_whole : (o : Object) (bytes : List ℕ) → IsReadAs o bytes → All AreWhole (read_parts (count_in bytes) (after_events bytes))
as_whole o bytes h = subst (All AreWhole) (sym (as_parts o bytes h)) (parts_whole h.spelled_by o.code.instrs h.instrs h.in_range.instrs)

pub as_again : (o read : Object) (all : List Parts) (bytes : List ℕ) → IsReadAs o bytes → read ≡ read_object bytes → all ≡ read_parts (count_in bytes) (after_events bytes) → spelled_with read (flat_map parts_bytes all) ≡ bytes
as_again o read all bytes h e f =
    ap (λ x. spelled_with x (flat_map parts_bytes all)) (e ∙ as_is_read o bytes h) ∙ ap (λ ps. spelled_with o (flat_map parts_bytes ps)) (f ∙ as_parts o bytes h) ∙ h.spelled

pub read_is_as : (o : Object) (all : List Parts) (bytes : List ℕ) → o ≡ read_object bytes → AreBytes bytes → HasFewParts bytes → All HasVersions o.code.versions → all ≡ read_parts (count_in bytes) (after_events bytes) → All AreWhole all
    → spelled_with o (flat_map parts_bytes all) ≡ bytes → IsReadAs o bytes
read_is_as o all bytes e bs few versions f whole again = record {
  small = read_is_small o bytes e few versions;
  in_range = subst IsInRange (sym e) (read_in_range bytes bs);
  spelled_by = all;
  fit = subst (All PartsFit) (sym f) (read_parts_fit bytes bs);
  instrs = subst (λ ps. map cut ps ≡ map parts_of o.code.instrs) (sym f)
      (whole_parts (count_in bytes) (after_events bytes) (subst (All AreWhole) f whole) ∙ ap (λ (x : Object). map parts_of x.code.instrs) (sym e));
  spelled = again;
}

-- ---- files

pub file_is_as : (o : Object) (bytes : List ℕ) → IsFileOf o bytes → IsReadAs o bytes
file_is_as o bytes file = record {
  small = file.small;
  in_range = file.in_range;
  spelled_by = map parts_of o.code.instrs;
  fit = own_parts_fit o.code.instrs file.in_range.instrs;
  instrs = own_parts_cut o.code.instrs file.in_range.instrs;
  spelled = ap (spelled_with o) (own_parts_spell o.code.instrs) ∙ file.spelled;
}

-- where all words exist, none was cut
pub as_is_file : (o : Object) (bytes : List ℕ) → IsReadAs o bytes → IsVerifiedObject o → IsFileOf o bytes
as_is_file o bytes h v = record {
  small = h.small;
  in_range = h.in_range;
  spelled =
      ap (spelled_with o) (sym (parts_same (length o.words) (length o.code.tasks) (length o.code.instrs) h.spelled_by o.code.instrs h.small.words
      (λ k d low. v.operands k low (get_or o.code.instrs k d) (slice_get-get_or o.code.instrs k d low)) h.instrs)) ∙ h.spelled;
}

-- the bytes are one object's file at most
pub one_object : (a b : Object) (bytes : List ℕ) → IsFileOf a bytes → IsFileOf b bytes → a ≡ b
one_object a b bytes x y = sym (as_is_read a bytes (file_is_as a bytes x)) ∙ as_is_read b bytes (file_is_as b bytes y)

pub few_by : (b : Bool) (P : Type 0) → (IsTrue b ↔ P) → b ≡ true → P
few_by b P h e = h.0 e

pub elim_false : (b : Bool) (P : Type 0) → (IsTrue b ↔ P) → b ≡ false → P → ⊥
elim_false b P h e p = let t : b ≡ true = h.1 p in cc

pub slices_spell : (o : Object) (words : List ℤ) (started tail : List ℕ) → words ≡ o.words → started ≡ o.started → spelled_with (object_by o.code.instrs o.code.tasks o.code.versions words started) tail ≡ spelled_with o tail
slices_spell o words started tail e f =
    ap (λ w. spelled_with (object_by o.code.instrs o.code.tasks o.code.versions w started) tail) e ∙ ap (λ n. spelled_with (object_by o.code.instrs o.code.tasks o.code.versions o.words n) tail) f
