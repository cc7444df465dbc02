-- The harvest of ticks that follow one another.
use Rattle.std.proofs.Common.{◌≡◌, ℕ, zero, suc, ◌+◌, ◌-◌, ◌≤◌, List, [], ◌∷◌, ◌++◌, length, refl, ◌∙◌, ap, arith, min}
use Rattle.std.proofs.lemmas.List.FromFn.{length-map-range_with_len, map-range_with_len_more}
use Rattle.harvest_trace.specs.declared.row.TraceRow.{TraceRow}
use Rattle.harvest_trace.specs.Timeline.{harvest_at}
use Rattle.nv_memory.specs.Board.{filled}
use Rattle.board_core.specs.Rules.{harvests}

pub length-harvests : (trace : List TraceRow) (tick n : ℕ) → length (harvests trace tick n) ≡ n
length-harvests trace tick n = length-map-range_with_len (harvest_at trace) tick n

pub harvests-append : (trace : List TraceRow) (tick n m : ℕ) → harvests trace tick (n + m) ≡ harvests trace tick n ++ harvests trace (tick + n) m
harvests-append trace tick zero m =
    let e : 0 + m ≡ m = omega arith in
    let f : tick ≡ tick + 0 = omega arith in
    ap (harvests trace tick) e ∙ ap (λ (k : ℕ). harvests trace k m) f
harvests-append trace tick (suc n) m =
    let e : suc n + m ≡ suc (n + m) = omega arith in
    let f : (tick + 1) + n ≡ tick + suc n = omega arith in
    ap (harvests trace tick) e
    ∙ ap (λ (l : List ℕ). harvest_at trace tick ∷ l) (harvests-append trace (tick + 1) n m)
    ∙ ap (λ (k : ℕ). harvests trace tick (suc n) ++ harvests trace k m) f

-- what has been harvested since a tick, and the next ticks
pub harvests-since : (trace : List TraceRow) (start tick n : ℕ) → start ≤ tick → harvests trace start ((tick + n) - start) ≡ harvests trace start (tick - start) ++ harvests trace tick n
harvests-since trace start tick n le =
    let e : (tick + n) - start ≡ (tick - start) + n = omega arith in
    let f : start + (tick - start) ≡ tick = omega arith in
    ap (harvests trace start) e
    ∙ harvests-append trace start (tick - start) n
    ∙ ap (λ (k : ℕ). harvests trace start (tick - start) ++ harvests trace k n) f

pub filled-append : (cap stored : ℕ) (xs ys : List ℕ) → filled cap stored (xs ++ ys) ≡ filled cap (filled cap stored xs) ys
filled-append cap stored [] ys = refl
filled-append cap stored (x ∷ xs) ys = filled-append cap (min cap (stored + x)) xs ys

-- one tick more
pub filled-more : (trace : List TraceRow) (cap stored tick n : ℕ) → filled cap stored (harvests trace tick (n + 1)) ≡ min cap (filled cap stored (harvests trace tick n) + harvest_at trace (tick + n))
filled-more trace cap stored tick n =
    ap (filled cap stored) (map-range_with_len_more (harvest_at trace) tick n (tick + n) refl)
    ∙ filled-append cap stored (harvests trace tick n) (harvest_at trace (tick + n) ∷ [])
