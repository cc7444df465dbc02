-- A tree that stands for a block of fine pieces works, where names are known.
use Rattle.std.proofs.Common.{◌≡◌, ℕ, ◌+◌, ◌-◌, ◌<◌, ◌≤◌, Bool, true, false, [], ◌++◌, refl, sym, subst, arith}
use Rattle.std.specs.Prelude.{max, not, ◌&&◌, nat_le, nat_lt}
use Rattle.std.proofs.Math.Dec.{ltb}
use Rattle.std.proofs.lemmas.Bool.{ltb-false, leb-true}
use Rattle.cat_program.specs.declared.syntax.Expr.{Expr}
use Rattle.cat_program.specs.Body.{Body}
use Rattle.cat_program.specs.Checked.{expr_need, Works, TestWorks, TaskWorks, EventWorks}
use Rattle.cat_conditions.specs.declared.sort.ValueType.TheVariants as type
use Rattle.cat_conditions.specs.Plain.{Term, Furthers, no_further, further, Actions, no_action, action, no_else, otherwise}
use Rattle.cat_conditions.specs.Plain as plain
use Rattle.cat_conditions.specs.Pieces.{further_terms, term_pieces, inner_pieces, block_pieces}
use Rattle.cat_conditions.specs.Names.{Name, Sorts}
use Rattle.cat_conditions.specs.Types.{is_plain, is_array, is_task, plain_type, type_of, agrees, is_of}
use Rattle.cat_conditions.specs.Counts.{need}
use Rattle.cat_resolve.specs.Names.{Meanings}
use Rattle.cat_resolve.specs.Form.{form}
use Rattle.cat_resolve.specs.Resolved.{formula_of, operands_from, truth_form}
use Rattle.cat_resolve.proofs.Targets.{word_of, base_of, len_of, task_of, name_is, element_is}
use Rattle.cat_resolve.proofs.Measures.{FormReads, OperandsRead, FormIsFree, OperandsAreFree, same_need, reads_as, free_as}
use Rattle.cat_resolve.proofs.Fine.{AllFine, parts_fine}
use Rattle.cat_resolve.proofs.Standing.{Stands, ends, sets, sets_at, emits, raises, whens, chooses, loops, turning}

-- what a name stands for is as it is declared
pub record Knows (sorts : Sorts) (names : Meanings) (words tasks : ℕ) : Type 0 where
  pub word : (x : Name) → is_plain (sorts x) ≡ true → word_of (names x) < words
  pub array : (x : Name) → is_array (sorts x) ≡ true → (0 < len_of (names x)) × (base_of (names x) + len_of (names x) ≤ words)
  pub task : (x : Name) → is_task (sorts x) ≡ true → task_of (names x) < tasks

met : (b : Bool) → not b ≡ false → b ≡ true
met true h = refl
met false h = absurd (cc)

pub left_met : (a b : Bool) → not (a && b) ≡ false → a ≡ true
left_met true b h = refl
left_met false b h = absurd (cc)

left_of_three : (a b c : Bool) → not (a && b && c) ≡ false → a ≡ true
left_of_three true b c h = refl
left_of_three false b c h = absurd (cc)

-- ---- expressions

truth_reads : (words : ℕ) (b : Bool) → FormReads words (truth_form b)
truth_reads words true = tt
truth_reads words false = tt

truth_free : (b : Bool) → FormIsFree (truth_form b)
truth_free true = tt
truth_free false = tt

mutual
  term_reads : (sorts : Sorts) (names : Meanings) (words tasks : ℕ) → Knows sorts names words tasks → (event : Bool) (t : Term) → AllFine sorts (term_pieces event t)
      → FormReads words (formula_of names t)
  term_reads sorts names words tasks known event (plain.number n) h = tt
  term_reads sorts names words tasks known event (plain.truth b) h = truth_reads words b
  term_reads sorts names words tasks known event plain.payload h = tt
  term_reads sorts names words tasks known event (plain.variable x) h =
      let within : word_of (names x) < words = known.word x (met (is_plain (sorts x)) h.0.agrees) in
      subst (FormReads words) (sym (name_is (names x))) within
  term_reads sorts names words tasks known event (plain.element x index) h =
      let array = known.array x (left_met (is_array (sorts x)) (is_of sorts type.Int index) h.0.agrees) in
      subst (FormReads words) (sym (element_is (names x) (formula_of names index))) (array.0, array.1, term_reads sorts names words tasks known event index h.1)
  term_reads sorts names words tasks known event (plain.signed s e) h = term_reads sorts names words tasks known event e h.1
  term_reads sorts names words tasks known event (plain.chain first others) h =
      let r = parts_fine sorts (term_pieces event first) (further_terms event others) h.1 in
      (term_reads sorts names words tasks known event first r.0, furthers_read sorts names words tasks known event others r.1)
  term_reads sorts names words tasks known event (plain.compare first c second) h =
      let r = parts_fine sorts (term_pieces event first) (term_pieces event second) h.1 in
      (term_reads sorts names words tasks known event first r.0, (term_reads sorts names words tasks known event second r.1, tt))

  furthers_read : (sorts : Sorts) (names : Meanings) (words tasks : ℕ) → Knows sorts names words tasks → (event : Bool) (ts : Furthers) → AllFine sorts (further_terms event ts)
      → OperandsRead words (operands_from names ts)
  furthers_read sorts names words tasks known event no_further h = tt
  furthers_read sorts names words tasks known event (further o e others) h =
      let r = parts_fine sorts (term_pieces event e) (further_terms event others) h in
      (term_reads sorts names words tasks known event e r.0, furthers_read sorts names words tasks known event others r.1)

mutual
  term_free : (sorts : Sorts) (names : Meanings) (t : Term) → AllFine sorts (term_pieces false t) → FormIsFree (formula_of names t)
  term_free sorts names (plain.number n) h = tt
  term_free sorts names (plain.truth b) h = truth_free b
  term_free sorts names plain.payload h = let none : true ≡ false = h.0.no_payload in absurd (cc)
  term_free sorts names (plain.variable x) h = subst FormIsFree (sym (name_is (names x))) tt
  term_free sorts names (plain.element x index) h = subst FormIsFree (sym (element_is (names x) (formula_of names index))) (term_free sorts names index h.1)
  term_free sorts names (plain.signed s e) h = term_free sorts names e h.1
  term_free sorts names (plain.chain first others) h =
      let r = parts_fine sorts (term_pieces false first) (further_terms false others) h.1 in
      (term_free sorts names first r.0, furthers_free sorts names others r.1)
  term_free sorts names (plain.compare first c second) h =
      let r = parts_fine sorts (term_pieces false first) (term_pieces false second) h.1 in
      (term_free sorts names first r.0, (term_free sorts names second r.1, tt))

  furthers_free : (sorts : Sorts) (names : Meanings) (ts : Furthers) → AllFine sorts (further_terms false ts) → OperandsAreFree (operands_from names ts)
  furthers_free sorts names no_further h = tt
  furthers_free sorts names (further o e others) h =
      let r = parts_fine sorts (term_pieces false e) (further_terms false others) h in
      (term_free sorts names e r.0, furthers_free sorts names others r.1)

-- ---- statements

-- a number that the room has
has_room : (room n : ℕ) → nat_lt room n ≡ false → n ≤ room
has_room room n h = ltb-false room n h

few_turns : (count : ℕ) → not (nat_le count 1000) ≡ false → count ≤ 1000
few_turns count h = leb-true count 1000 (met (nat_le count 1000) h)

module _ (sorts : Sorts) (names : Meanings) (words tasks : ℕ) (known : Knows sorts names words tasks) where
  value_works : (event : Bool) (d : ℕ) (t : Term) (e : Expr) → form e ≡ formula_of names t → d + need t ≤ 32 → AllFine sorts (term_pieces event t) → Works words d e
  value_works event d t e is fits h =
      let same : expr_need e ≡ need t = same_need names t e is in
      (omega (arith, same, fits), reads_as names t e is words (term_reads sorts names words tasks known event t h))

  test_works : (t : Term) (e : Expr) → form e ≡ formula_of names t → need t ≤ 32 → AllFine sorts (term_pieces false t) → TestWorks words e
  test_works t e is fits h = (value_works false 0 t e is (omega (arith, fits)) h, free_as names t e is (term_free sorts names t h))

  pub task_works : {b : Actions} {k : Body} → Stands names b k → AllFine sorts (block_pieces false 32 b) → TaskWorks words tasks k
  task_works ends h = tt
  task_works (sets {x = x} {t = t} {rest = rest} {w = w} {e = e} is f r) h =
      let parts = parts_fine sorts (term_pieces false t) (block_pieces false 32 rest) h.1 in
      let fits : need t ≤ 32 = has_room 32 (need t) h.0.operands in
      let there : word_of (names x) < words = known.word x (left_met (is_plain (sorts x)) (agrees (plain_type (sorts x)) (type_of sorts t)) h.0.agrees) in
      ((omega (arith, is, there), value_works false 0 t e f (omega (arith, fits)) parts.0), free_as names t e f (term_free sorts names t parts.0), task_works r parts.1)
  task_works (sets_at {x = x} {i = i} {t = t} {rest = rest} {base = base} {len = len} {d = d} {e = e} base_is len_is f g r) h =
      let parts = parts_fine sorts (term_pieces false i ++ term_pieces false t) (block_pieces false 32 rest) h.1 in
      let both = parts_fine sorts (term_pieces false i) (term_pieces false t) parts.0 in
      let fits : max (need i) (need t + 1) ≤ 32 = has_room 32 (max (need i) (need t + 1)) h.0.operands in
      let there = known.array x (left_of_three (is_array (sorts x)) (is_of sorts type.Int i) (is_of sorts type.Int t) h.0.agrees) in (
        (omega (arith, len_is, there.0), omega (arith, base_is, len_is, there.1), value_works false 0 i d f (omega (arith, fits)) both.0, value_works false 1 t e g (omega (arith, fits)) both.1),
        (free_as names i d f (term_free sorts names i both.0), free_as names t e g (term_free sorts names t both.1)),
        task_works r parts.1,
      )
  task_works (emits {t = t} {rest = rest} {e = e} f r) h =
      let parts = parts_fine sorts (term_pieces false t) (block_pieces false 32 rest) h.1 in
      let fits : need t ≤ 32 = has_room 32 (need t) h.0.operands in
      (value_works false 0 t e f (omega (arith, fits)) parts.0, free_as names t e f (term_free sorts names t parts.0), task_works r parts.1)
  task_works (raises {x = x} is r) h =
      let there : task_of (names x) < tasks = known.task x (met (is_task (sorts x)) h.0.agrees) in
      (omega (arith, is, there), tt, task_works r h.1)
  task_works (whens {t = t} {first = first} {rest = rest} {e = e} f on r) h =
      let parts = parts_fine sorts (inner_pieces false 32 (plain.choose t first no_else)) (block_pieces false 32 rest) h.1 in
      let inner = parts_fine sorts (term_pieces false t) (block_pieces false 32 first ++ []) parts.0 in
      let within = parts_fine sorts (block_pieces false 32 first) [] inner.1 in
      let fits : need t ≤ 32 = has_room 32 (need t) h.0.operands in
      (test_works t e f fits inner.0, task_works on within.0, task_works r parts.1)
  task_works (chooses {t = t} {first = first} {second = second} {rest = rest} {e = e} f on off r) h =
      let parts = parts_fine sorts (inner_pieces false 32 (plain.choose t first (otherwise second))) (block_pieces false 32 rest) h.1 in
      let inner = parts_fine sorts (term_pieces false t) (block_pieces false 32 first ++ block_pieces false 32 second) parts.0 in
      let within = parts_fine sorts (block_pieces false 32 first) (block_pieces false 32 second) inner.1 in
      let fits : need t ≤ 32 = has_room 32 (need t) h.0.operands in
      (test_works t e f fits inner.0, task_works on within.0, task_works off within.1, task_works r parts.1)
  task_works (loops {t = t} {body = body} {rest = rest} {e = e} f within r) h =
      let parts = parts_fine sorts (inner_pieces false 32 (plain.loop t body)) (block_pieces false 32 rest) h.1 in
      let inner = parts_fine sorts (term_pieces false t) (block_pieces false 32 body) parts.0 in
      let fits : need t ≤ 32 = has_room 32 (need t) h.0.operands in
      (test_works t e f fits inner.0, task_works within inner.1, task_works r parts.1)
  task_works (turning is within r) h = let none : true ≡ false = h.0.no_turns in absurd (cc)

  pub event_works : {b : Actions} {k : Body} → Stands names b k → (d room : ℕ) → d + room ≡ 32 → AllFine sorts (block_pieces true room b) → EventWorks words tasks d k
  event_works ends d room all h = tt
  event_works (sets {x = x} {t = t} {rest = rest} {w = w} {e = e} is f r) d room all h =
      let parts = parts_fine sorts (term_pieces true t) (block_pieces true room rest) h.1 in
      let fits : need t ≤ room = has_room room (need t) h.0.operands in
      let there : word_of (names x) < words = known.word x (left_met (is_plain (sorts x)) (agrees (plain_type (sorts x)) (type_of sorts t)) h.0.agrees) in
      ((omega (arith, is, there), value_works true d t e f (omega (arith, fits, all)) parts.0), event_works r d room all parts.1)
  event_works (sets_at {x = x} {i = i} {t = t} {rest = rest} {base = base} {len = len} {d = index} {e = e} base_is len_is f g r) d room all h =
      let parts = parts_fine sorts (term_pieces true i ++ term_pieces true t) (block_pieces true room rest) h.1 in
      let both = parts_fine sorts (term_pieces true i) (term_pieces true t) parts.0 in
      let fits : max (need i) (need t + 1) ≤ room = has_room room (max (need i) (need t + 1)) h.0.operands in
      let there = known.array x (left_of_three (is_array (sorts x)) (is_of sorts type.Int i) (is_of sorts type.Int t) h.0.agrees) in (
        (
          omega (arith, len_is, there.0),
          omega (arith, base_is, len_is, there.1),
          value_works true d i index f (omega (arith, fits, all)) both.0,
          value_works true (d + 1) t e g (omega (arith, fits, all)) both.1,
        ),
        event_works r d room all parts.1,
      )
  event_works (emits {t = t} {rest = rest} {e = e} f r) d room all h =
      let parts = parts_fine sorts (term_pieces true t) (block_pieces true room rest) h.1 in
      let fits : need t ≤ room = has_room room (need t) h.0.operands in
      (value_works true d t e f (omega (arith, fits, all)) parts.0, event_works r d room all parts.1)
  event_works (raises {x = x} is r) d room all h =
      let there : task_of (names x) < tasks = known.task x (met (is_task (sorts x)) h.0.agrees) in
      (omega (arith, is, there), event_works r d room all h.1)
  event_works (whens {t = t} {first = first} {rest = rest} {e = e} f on r) d room all h =
      let parts = parts_fine sorts (inner_pieces true room (plain.choose t first no_else)) (block_pieces true room rest) h.1 in
      let inner = parts_fine sorts (term_pieces true t) (block_pieces true room first ++ []) parts.0 in
      let within = parts_fine sorts (block_pieces true room first) [] inner.1 in
      let fits : need t ≤ room = has_room room (need t) h.0.operands in
      (value_works true d t e f (omega (arith, fits, all)) inner.0, event_works on d room all within.0, event_works r d room all parts.1)
  event_works (chooses {t = t} {first = first} {second = second} {rest = rest} {e = e} f on off r) d room all h =
      let parts = parts_fine sorts (inner_pieces true room (plain.choose t first (otherwise second))) (block_pieces true room rest) h.1 in
      let inner = parts_fine sorts (term_pieces true t) (block_pieces true room first ++ block_pieces true room second) parts.0 in
      let within = parts_fine sorts (block_pieces true room first) (block_pieces true room second) inner.1 in
      let fits : need t ≤ room = has_room room (need t) h.0.operands in
      (value_works true d t e f (omega (arith, fits, all)) inner.0, event_works on d room all within.0, event_works off d room all within.1, event_works r d room all parts.1)
  event_works (loops f within r) d room all h = let none : true ≡ false = h.0.no_loop in absurd (cc)
  event_works (turning {count = count} {body = body} {rest = rest} {n = n} is within r) d room all h =
      let parts = parts_fine sorts (block_pieces true (room - 1) body) (block_pieces true room rest) h.1 in
      let fits : 1 ≤ room = has_room room 1 h.0.operands in
      let count_fits : count ≤ 1000 = few_turns count h.0.in_range in
      (omega (arith, is, count_fits), omega (arith, fits, all), event_works within (d + 1) (room - 1) (omega (arith, fits, all)) parts.0, event_works r d room all parts.1)
