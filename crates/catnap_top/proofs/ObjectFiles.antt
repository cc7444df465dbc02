-- A file that is longer than any object file is none, and so is its front.
use Rattle.std.proofs.Common.{◌≡◌, ℕ, suc, ◌+◌, ◌*◌, ◌<◌, ◌≤◌, ℤ, List, [], ◌∷◌, ◌++◌, length, Result, Ok, Err, refl, sym, ap, ◌∙◌, arith}
use Rattle.std.specs.List.{All, flat_map}
use Rattle.std.specs.Int.{w32, to_le_bytes}
use Rattle.std.proofs.lemmas.List.{length-append, length-map}
use Rattle.cat_machine.specs.declared.instr.Instr.{Instr}
use Rattle.cn_object.specs.Spelling.{HasVersions, IsFileOf, IsReadAs, IsSmall, cut, event_bytes, instr_bytes, parts_bytes, parts_of, tasks_bytes, spelled_with, word_bytes}
use Rattle.cn_object.specs.Verdict.{IsBad, NoFile, Broken}
use Rattle.cn_object.specs.declared.object.Kind.{Kind}
use Rattle.cn_object.specs.declared.object.Object.{Object}
use Rattle.cn_object.specs.declared.parts.Parts.{Parts}
use Rattle.catnap_top.specs.declared.file_fault.BadObject.{BadObject}
use Rattle.catnap_top.specs.Answer.{most_bytes}
use Rattle.catnap_top.specs.RunObject.{IsObject}

-- ---- how long a file is

words_long : (words : List ℤ) → length (flat_map word_bytes words) ≡ 4 * length words
words_long [] = refl
words_long (w ∷ ws) = omega (arith, words_long ws)

numbers_long : (ns : List ℕ) → length (flat_map (to_le_bytes w32) ns) ≡ 4 * length ns
numbers_long [] = refl
numbers_long (n ∷ ns) = omega (arith, numbers_long ns)

tasks_long : (started entries : List ℕ) → length (tasks_bytes started entries) ≤ 8 * length entries
tasks_long [] entries = omega arith
tasks_long (n ∷ ns) [] = omega arith
tasks_long (n ∷ ns) (e ∷ es) = omega (arith, tasks_long ns es)

events_long : (versions : List (List ℕ)) → All HasVersions versions → length (flat_map event_bytes versions) ≤ 20 * length versions
events_long [] few = omega arith
events_long (v ∷ vs) few =
    let here : HasVersions v = few 0 v (omega arith) in
    let rest : All HasVersions vs = λ k d l. few (suc k) d (omega arith) in
    omega (arith, length-append (flat_map (to_le_bytes w32) v) (flat_map event_bytes vs), numbers_long v, here.1, events_long vs rest)

parts_long : (ps : List Parts) → length (flat_map parts_bytes ps) ≡ 8 * length ps
parts_long [] = refl
parts_long (p ∷ ps) = omega (arith, parts_long ps)

instrs_long : (xs : List Instr) → length (flat_map instr_bytes xs) ≡ 8 * length xs
instrs_long [] = refl
instrs_long (x ∷ xs) = omega (arith, instrs_long xs)

-- an object file is short
short_spelled : (o : Object) (instrs bytes : List ℕ) → IsSmall o → spelled_with o instrs ≡ bytes → length instrs ≤ 480000 → length bytes ≤ most_bytes
short_spelled o instrs bytes small spelled few =
    let words = flat_map word_bytes o.words in
    let tasks = tasks_bytes o.started o.code.tasks in
    let events = flat_map event_bytes o.code.versions in
    let whole : length (spelled_with o instrs) ≡ 12 + length (words ++ (tasks ++ (events ++ instrs))) = omega arith in
    let sum : length bytes ≡ 12 + (length words + (length tasks + (length events + length instrs))) =
    sym (ap length spelled) ∙ whole
    ∙ ap (λ n. 12 + n) (length-append words (tasks ++ (events ++ instrs)) ∙ ap (λ n. length words + n) (length-append tasks (events ++ instrs) ∙ ap (λ n. length tasks + n) (length-append events instrs))) in
    omega (
      arith,
      sum,
      words_long o.words,
      tasks_long o.started o.code.tasks,
      events_long o.code.versions small.versions,
      few,
      small.words,
      small.tasks,
      small.events,
    )

short_read : (o : Object) (bytes : List ℕ) → IsReadAs o bytes → length bytes ≤ most_bytes
short_read o bytes is =
    short_spelled o (flat_map parts_bytes is.spelled_by) bytes is.small is.spelled
    (omega (arith, parts_long is.spelled_by, length-map is.spelled_by cut, ap length is.instrs, length-map o.code.instrs parts_of, is.small.count))

short_file : (o : Object) (bytes : List ℕ) → IsFileOf o bytes → length bytes ≤ most_bytes
short_file o bytes is = short_spelled o (flat_map instr_bytes o.code.instrs) bytes is.small is.spelled (omega (arith, instrs_long o.code.instrs, is.small.count))

-- ---- a file that is longer

not_object : (bytes : List ℕ) (o : Object) → most_bytes < length bytes → IsReadAs o bytes → ⊥
not_object bytes o long is = let short = short_read o bytes is in omega (arith, short, long)

bad_long : (one other : List ℕ) (kind : Kind) (place : ℕ) → most_bytes < length one → most_bytes < length other → IsBad one kind place → IsBad other kind place
bad_long one other kind place long more (NoFile none) = NoFile (λ o is. not_object other o more is)
bad_long one other kind place long more (Broken o is breaks) = absurd (not_object one o long is)

pub object_long : (one other : List ℕ) (came : Result Object BadObject) → most_bytes < length one → most_bytes < length other → IsObject one came → IsObject other came
object_long one other (Err bad) long more is = bad_long one other bad.kind bad.place long more is
object_long one other (Ok o) long more is = let short : length one ≤ most_bytes = short_file o one is.file in absurd (omega (arith, short, long))
