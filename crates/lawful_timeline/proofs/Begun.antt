-- When the jobs of a run began.
use Rattle.std.proofs.Common.{◌≡◌, inl, inr, ℕ, zero, suc, ◌<◌, ◌≤◌, List, [], ◌∷◌, ◌++◌, reverse, Some, slice_get, refl, sym, ap, ◌∙◌, subst, arith}
use Rattle.std.specs.Prelude.{◌⊎◌}
use Rattle.std.proofs.lemmas.List.{reverse-append, reverse-reverse}
use Rattle.cat_program.specs.declared.outs.LogEntry.{LogEntry}
use Rattle.cat_program.specs.declared.outs.LogEntry.TheVariants.{Out, Ran}
use Rattle.reference_run.specs.declared.schedule.Item.{Item}
use Rattle.reference_run.specs.Reference.{Moment, last_start}
use Rattle.logged_runs.specs.Reference.{IsRun, Setting}
use Rattle.logged_runs.specs.Own.{IsOwn, IsPrefixOf, items_in}
use Rattle.logged_runs.specs.Laws.{counts_of, last_start_of}
use Rattle.lawful_timeline.specs.Points.{BeganBefore}

-- ---- no job began later than the last one

-- an item begins at a tick
abbrev Has : List Item → ℕ → Type 0
Has [] t = ⊥
Has (item ∷ items) t = (item.start ≡ t) ⊎ Has items t

has_front : (xs ys : List Item) (t : ℕ) → Has xs t → Has (xs ++ ys) t
has_front [] ys t has = absurd has
has_front (x ∷ xs) ys t (inl is) = inl is
has_front (x ∷ xs) ys t (inr has) = inr (has_front xs ys t has)

has_back : (xs ys : List Item) (t : ℕ) → Has ys t → Has (xs ++ ys) t
has_back [] ys t has = has
has_back (x ∷ xs) ys t has = inr (has_back xs ys t has)

has_turned : (xs : List Item) (t : ℕ) → Has xs t → Has (reverse xs) t
has_turned [] t has = absurd has
has_turned (x ∷ xs) t (inl is) = subst (λ (items : List Item). Has items t) (sym (reverse-append (x ∷ []) xs)) (has_back (reverse xs) (x ∷ []) t (inl is))
has_turned (x ∷ xs) t (inr has) = subst (λ (items : List Item). Has items t) (sym (reverse-append (x ∷ []) xs)) (has_front (reverse xs) (x ∷ []) t (has_turned xs t has))

told : (entries : List LogEntry) (i event version steps start index : ℕ) → slice_get entries i ≡ Some (Ran event version steps start index) → Has (items_in entries) start
told [] i event version steps start index is = cc
told (Out channel value ∷ entries) zero event version steps start index is = cc
told (Out channel value ∷ entries) (suc i) event version steps start index is = told entries i event version steps start index is
told (Ran e v n t k ∷ entries) zero event version steps start index is = inl (cc)
told (Ran e v n t k ∷ entries) (suc i) event version steps start index is = inr (told entries i event version steps start index is)

in_order : (s : Setting) (earlier : List Item) (m : Moment) (t : ℕ) → IsRun s earlier m → Has earlier t → t ≤ last_start earlier
in_order s [] m t run has = absurd has
in_order s (item ∷ earlier) m t run (inl is) = omega arith
in_order s (item ∷ earlier) m t run (inr has) =
    let before = in_order s earlier run.0 t run.1 has in
    let after = run.2.may.in_order in
    omega arith

-- what began by a tick began before each later one
pub began_by : (s : Setting) (m : Moment) (since tick : ℕ) → IsOwn s m → last_start_of m.entries ≤ since → since < tick → BeganBefore tick m.entries
began_by s m since tick own begun later i event version steps start index is =
    let last = in_order s (reverse (items_in m.entries)) own.begun start own.items (has_turned (items_in m.entries) start (told m.entries i event version steps start index is)) in
    omega arith

-- ---- parts of a log

kept : (xs rest : List LogEntry) (i : ℕ) (e : LogEntry) → slice_get xs i ≡ Some e → slice_get (xs ++ rest) i ≡ Some e
kept [] rest i e is = cc
kept (x ∷ xs) rest zero e is = is
kept (x ∷ xs) rest (suc i) e is = kept xs rest i e is

pub began_earlier : (xs ys : List LogEntry) (tick : ℕ) → IsPrefixOf xs ys → BeganBefore tick ys → BeganBefore tick xs
began_earlier xs ys tick longer before i event version steps start index is =
    before i event version steps start index
    (subst (λ (es : List LogEntry). slice_get es i ≡ Some (Ran event version steps start index)) (sym longer.1) (kept xs longer.0 i (Ran event version steps start index) is))

pub began_later : (xs : List LogEntry) (tick later : ℕ) → tick ≤ later → BeganBefore tick xs → BeganBefore later xs
began_later xs tick later le before i event version steps start index is = let less = before i event version steps start index is in omega arith

-- ---- the last job

last_keeps : (items : List Item) (item : Item) → (items ≡ []) ⊎ (last_start (reverse (item ∷ items)) ≡ last_start (reverse items))
last_keeps items item = by (reverse items) refl
  where
    by : (turned : List Item) → reverse items ≡ turned → (items ≡ []) ⊎ (last_start (reverse (item ∷ items)) ≡ last_start (reverse items))
    by [] is = inl (sym (reverse-reverse items) ∙ ap reverse is)
    by (x ∷ xs) is = inr (ap last_start (reverse-append (item ∷ []) items) ∙ ap (λ (l : List Item). last_start (l ++ item ∷ [])) is ∙ ap last_start (sym is))

-- the entry that tells it
record IsLast (entries : List LogEntry) : Type 0 where
  place : ℕ
  event : ℕ
  version : ℕ
  steps : ℕ
  index : ℕ
  there : slice_get entries place ≡ Some (Ran event version steps (last_start_of entries) index)

abbrev item_of : ℕ → ℕ → ℕ → ℕ → Item
item_of event version steps start = record { steps = steps; event = event; version = version; start = start }

find_last : (entries : List LogEntry) → (items_in entries ≡ []) ⊎ IsLast entries
find_last [] = inl refl
find_last (Out channel value ∷ entries) = by (find_last entries)
  where
    by : (items_in entries ≡ []) ⊎ IsLast entries → (items_in entries ≡ []) ⊎ IsLast (Out channel value ∷ entries)
    by (inl none) = inl none
    by (inr last) = inr (record { place = suc last.place; event = last.event; version = last.version; steps = last.steps; index = last.index; there = last.there })
find_last (Ran event version steps start index ∷ entries) = by (last_keeps (items_in entries) (item_of event version steps start)) (find_last entries)
  where
    first : items_in entries ≡ [] → IsLast (Ran event version steps start index ∷ entries)
    first none = record {
      place = 0;
      event = event;
      version = version;
      steps = steps;
      index = index;
      there = ap (λ (t : ℕ). Some (Ran event version steps t index)) (sym (ap (λ (items : List Item). last_start (reverse (item_of event version steps start ∷ items))) none));
    }

    by : (items_in entries ≡ []) ⊎ (last_start (reverse (item_of event version steps start ∷ items_in entries)) ≡ last_start (reverse (items_in entries))) → (items_in entries ≡ []) ⊎ IsLast entries
        → (item_of event version steps start ∷ items_in entries ≡ []) ⊎ IsLast (Ran event version steps start index ∷ entries)
    by (inl none) found = inr (first none)
    by (inr keeps) (inl none) = inr (first none)
    by (inr keeps) (inr last) = inr (record {
      place = suc last.place;
      event = last.event;
      version = last.version;
      steps = last.steps;
      index = last.index;
      there = last.there ∙ ap (λ (t : ℕ). Some (Ran last.event last.version last.steps t last.index)) (sym keeps);
    })

none_told : (entries : List LogEntry) → items_in entries ≡ [] → (event : ℕ) → counts_of entries event ≡ 0
none_told [] none event = refl
none_told (Out channel value ∷ entries) none event = none_told entries none event
none_told (Ran e version steps start index ∷ entries) none event = cc

-- where each began before a tick, the last one did, or there is none
pub none_or_before : (entries : List LogEntry) (tick : ℕ) → BeganBefore tick entries → ((event : ℕ) → counts_of entries event ≡ 0) ⊎ (last_start_of entries < tick)
none_or_before entries tick before = by (find_last entries)
  where
    by : (items_in entries ≡ []) ⊎ IsLast entries → ((event : ℕ) → counts_of entries event ≡ 0) ⊎ (last_start_of entries < tick)
    by (inl none) = inl (none_told entries none)
    by (inr last) = inr (before last.place last.event last.version last.steps (last_start_of entries) last.index last.there)

pub last_began : (entries : List LogEntry) (tick : ℕ) → BeganBefore tick entries → last_start_of entries ≤ tick
last_began entries tick before = by (find_last entries)
  where
    by : (items_in entries ≡ []) ⊎ IsLast entries → last_start_of entries ≤ tick
    by (inl none) = let zero_is : last_start_of entries ≡ 0 = ap (λ (items : List Item). last_start (reverse items)) none in omega arith
    by (inr last) = let less = before last.place last.event last.version last.steps (last_start_of entries) last.index last.there in omega arith
