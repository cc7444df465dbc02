-- Where a program's variables stand, and when its events come.
use Rattle.std.proofs.Common.{◌≡◌, ℕ, suc, ◌+◌, ◌≤◌, true, false, List, [], ◌∷◌, ◌++◌, length, refl, ap, sym, ◌∙◌, subst, arith}
use Rattle.std.specs.Prelude.{◌&&◌, nat_le}
use Rattle.std.proofs.lemmas.Bool.{false≢true, not-false, and_parts, leb-true, ltb-false}
use Rattle.cn_base.specs.declared.tree.Stmt.{Stmt as SourceStmt}
use Rattle.cn_base.specs.declared.tree.Item.{Item}
use Rattle.cn_base.specs.declared.tree.Item.TheVariants as item
use Rattle.cn_base.specs.declared.tree.Timing.{Timing as SourceTiming}
use Rattle.cn_base.specs.declared.tree.Timing.TheVariants as source
use Rattle.cn_base.specs.declared.tree.Tree.{Tree}
use Rattle.cn_base.specs.Versions.{has_version, all_have_versions}
use Rattle.cat_program.specs.declared.headers.Variable.{Variable}
use Rattle.cat_program.specs.declared.headers.Event.{Event}
use Rattle.cat_program.specs.Checked.{Checked}
use Rattle.cat_program.specs.Declares.{IsLaidOut, EventIs, EachEventIs, spacing_of, offset_of}
use Rattle.cat_conditions.specs.Plain.{block_of}
use Rattle.cat_conditions.specs.Pieces.{an_item}
use Rattle.cat_conditions.specs.Local.{is_within, has_timing_in_range, least_gap, is_out_of_range, is_late}
use Rattle.cat_conditions.specs.Conditions.{MeetsConditions}
use Rattle.cat_resolve.specs.Names.{Meanings, names_of, words_of}
use Rattle.cat_resolve.specs.Header.{item_variables, variables_in, event, timing_of, item_events, events_in, word_count, HasFewVersions, AllHaveFewVersions}
use Rattle.cat_resolve.specs.Blocks.{block_blocks}
use Rattle.cat_resolve.specs.Content.{versions_numbers, item_versions, item_blocks, versions_from}
use Rattle.cat_resolve.specs.Program.{IsProgramOf}
use Rattle.cat_resolve.proofs.Small.{is_small}
use Rattle.cat_resolve.proofs.Counted.{words_length}
use Rattle.cat_resolve.proofs.ByItem.{EachFails, each_fails}
use Rattle.cat_resolve.proofs.Sorts.{in_range}

-- ---- variables

item_laid : (at end : ℕ) (i : Item) (more : List Variable) → is_out_of_range (an_item i) ≡ false → IsLaidOut (at + words_of i) more end → IsLaidOut at (item_variables at i ++ more) end
item_laid at end (item.Int x minus n) more range rest = (refl, refl, rest)
item_laid at end (item.Bool x b) more range rest = (refl, refl, rest)
item_laid at end (item.Array x n) more range rest = (refl, in_range 1 1024 n range, rest)
item_laid at end (item.Task x body) more range rest = subst (λ k. IsLaidOut k more end) (omega arith) rest
item_laid at end (item.Event x t d vs) more range rest = subst (λ k. IsLaidOut k more end) (omega arith) rest
item_laid at end (item.Degrade xs) more range rest = subst (λ k. IsLaidOut k more end) (omega arith) rest
item_laid at end (item.Start x) more range rest = subst (λ k. IsLaidOut k more end) (omega arith) rest

all_laid : (at end : ℕ) (items : List Item) → EachFails is_out_of_range items → end ≡ at + word_count items → IsLaidOut at (variables_in at items) end
all_laid at end [] range e = omega (arith, e)
all_laid at end (i ∷ items) range e =
    item_laid at end i (variables_in (at + words_of i) items) range.0 (all_laid (at + words_of i) end items range.1 (omega (arith, e)))

pub laid_out : (tree : Tree) (p : Checked) → MeetsConditions tree → IsProgramOf tree p → IsLaidOut 0 p.variables (length p.words)
laid_out tree p checked of =
    let range = each_fails is_out_of_range tree.items checked.0 in
    let words : length p.words ≡ word_count tree.items = ap length of.words ∙ words_length tree.items in
    let all = all_laid 0 (length p.words) tree.items range (omega (arith, words)) in
    subst (λ (vs : List Variable). IsLaidOut 0 vs (length p.words)) (sym of.variables) all

-- ---- events

same_spacing : (t : SourceTiming) → spacing_of (timing_of t) ≡ least_gap t
same_spacing (source.Every period offset) = refl
same_spacing (source.Spacing least) = refl

spaced_in : (t : SourceTiming) → has_timing_in_range t ≡ true → spacing_of (timing_of t) ≤ 1000000
spaced_in (source.Every period offset) h =
    let parts = and_parts (is_within 1 1000000 period) (nat_le offset 1000000) h in
    leb-true period 1000000 (and_parts (nat_le 1 period) (nat_le period 1000000) parts.0).1
spaced_in (source.Spacing least) h = leb-true least 1000000 (and_parts (nat_le 1 least) (nat_le least 1000000) h).1

begins_in : (t : SourceTiming) → has_timing_in_range t ≡ true → offset_of (timing_of t) ≤ 1000000
begins_in (source.Every period offset) h = leb-true offset 1000000 (and_parts (is_within 1 1000000 period) (nat_le offset 1000000) h).1
begins_in (source.Spacing least) h = omega arith

pub numbers_length : (names : Meanings) (n : ℕ) (vs : List (List SourceStmt)) → length (versions_numbers names n vs) ≡ length vs
numbers_length names n [] = refl
numbers_length names n (v ∷ vs) = ap suc (numbers_length names (n + length (block_blocks names n (block_of v))) vs)

some_version : (names : Meanings) (n : ℕ) (x : List ℕ) (t : SourceTiming) (d : ℕ) (vs : List (List SourceStmt)) → has_version (item.Event x t d vs) ≡ true → 1 ≤ length (versions_numbers names n vs)
some_version names n x t d [] h = absurd (false≢true h)
some_version names n x t d (v ∷ vs) h = omega arith

event_is : (names : Meanings) (n : ℕ) (x : List ℕ) (t : SourceTiming) (d : ℕ) (vs : List (List SourceStmt)) → is_out_of_range (an_item (item.Event x t d vs)) ≡ false
    → is_late (an_item (item.Event x t d vs)) ≡ false → length vs ≤ 4 → has_version (item.Event x t d vs) ≡ true → EventIs (event x t d (length vs)) (versions_numbers names n vs)
event_is names n x t d vs range early few some =
    let same : length (versions_numbers names n vs) ≡ length vs = numbers_length names n vs in
    let parts = and_parts (has_timing_in_range t) (is_within 1 1000000 d) (not-false (has_timing_in_range t && is_within 1 1000000 d) range) in
    let gap : spacing_of (timing_of t) ≡ least_gap t = same_spacing t in
    let in_time : d ≤ least_gap t = ltb-false (least_gap t) d early in
    record {
      versions_are = sym same;
      some = some_version names n x t d vs some;
      few = omega (arith, same, few);
      spaced = spaced_in t parts.0;
      begins = begins_in t parts.0;
      due = leb-true 1 d (and_parts (nat_le 1 d) (nat_le d 1000000) parts.1).0;
      in_time = omega (arith, gap, in_time);
    }

item_declares : (names : Meanings) (n : ℕ) (i : Item) (headers : List Event) (events : List (List ℕ)) → is_out_of_range (an_item i) ≡ false → is_late (an_item i) ≡ false
    → HasFewVersions i → has_version i ≡ true → EachEventIs headers events → EachEventIs (item_events i ++ headers) (item_versions names n i ++ events)
item_declares names n (item.Int x minus k) headers events range early few some rest = rest
item_declares names n (item.Bool x b) headers events range early few some rest = rest
item_declares names n (item.Array x k) headers events range early few some rest = rest
item_declares names n (item.Task x body) headers events range early few some rest = rest
item_declares names n (item.Event x t d vs) headers events range early few some rest = (event_is names n x t d vs range early few some, rest)
item_declares names n (item.Degrade xs) headers events range early few some rest = rest
item_declares names n (item.Start x) headers events range early few some rest = rest

all_declare : (names : Meanings) (n : ℕ) (items : List Item) → EachFails is_out_of_range items → EachFails is_late items
    → AllHaveFewVersions items → all_have_versions items ≡ true → EachEventIs (events_in items) (versions_from names n items)
all_declare names n [] range early few some = tt
all_declare names n (i ∷ items) range early few some =
    let both = and_parts (has_version i) (all_have_versions items) some in
    let m = n + length (item_blocks names n i) in
    item_declares names n i (events_in items) (versions_from names m items) range.0 early.0 few.0 both.0
    (all_declare names m items range.1 early.1 few.1 both.1)

pub declares : (tree : Tree) (p : Checked) → MeetsConditions tree → IsProgramOf tree p → EachEventIs p.headers p.events
declares tree p checked of =
    let range = each_fails is_out_of_range tree.items checked.0 in
    let early = each_fails is_late tree.items checked.1.1.1.1.1.1.1.1.1.1.1.0 in
    let all = all_declare (names_of tree.items) 0 tree.items range early (is_small tree checked).few_versions tree.versioned in
    subst (λ (hs : List Event). EachEventIs hs p.events) (sym of.headers)
    (subst (λ (es : List (List ℕ)). EachEventIs (events_in tree.items) es) (sym of.events) all)
