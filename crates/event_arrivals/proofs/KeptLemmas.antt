-- One row after those before it: whether it is kept, and its event's last kept tick then.
use Rattle.std.proofs.Common.{◌≡◌, ◌≢◌, ℕ, ◌+◌, ◌≤◌, ◌<◌, ◌⊎◌, nat_eq, List, [], ◌∷◌, ◌++◌, drop, take, reverse, get_or, length, map, Option, Some, None, true, false, refl, sym, ap, ◌∙◌, append_assoc, arith, inl, inr, set}
use Rattle.std.proofs.lemmas.Bool.Decides.{nat_tests}
use Rattle.std.proofs.lemmas.List.{drop_all, drop_more, get_or-set_other, get_or-set_same, reverse-append, take_more}
use Rattle.cat_program.specs.declared.headers.Timing.{Timing}
use Rattle.event_arrivals.specs.Arrivals.{dropped_of}
use Rattle.event_arrivals.specs.Kept.{dropped_rows, is_kept, kept_rows, last_kept}
use Rattle.event_arrivals.specs.declared.arrival.Dropped.{Dropped}
use Rattle.event_arrivals.specs.declared.row.ArrivalRow.{ArrivalRow}

pub earlier-more : (rows : List ArrivalRow) (i : ℕ) (d : ArrivalRow) → i < length rows → reverse (take (i + 1) rows) ≡ get_or rows i d ∷ reverse (take i rows)
earlier-more rows i d within = ap reverse (take_more rows i d within) ∙ reverse-append (take i rows) (get_or rows i d ∷ [])

pub kept-taken : (timings : List Timing) (rows found : List ArrivalRow) (i : ℕ) (d : ArrivalRow) → i < length rows → is_kept timings (reverse (take i rows)) (get_or rows i d) ≡ true
    → found ++ kept_rows timings (reverse (take i rows)) (drop i rows) ≡ (found ++ get_or rows i d ∷ []) ++ kept_rows timings (reverse (take (i + 1) rows)) (drop (i + 1) rows)
unfolding kept_rows
kept-taken timings rows found i d within holds =
    let row = get_or rows i d in
    rw (earlier-more rows i d within)
    (ap (λ rest. found ++ kept_rows timings (reverse (take i rows)) rest) (drop_more rows i d within)
    ∙ rw holds (sym (append_assoc found (row ∷ []) (kept_rows timings (row ∷ reverse (take i rows)) (drop (i + 1) rows)))))

pub kept-passed : (timings : List Timing) (rows found : List ArrivalRow) (i : ℕ) (d : ArrivalRow) → i < length rows → is_kept timings (reverse (take i rows)) (get_or rows i d) ≡ false
    → found ++ kept_rows timings (reverse (take i rows)) (drop i rows) ≡ found ++ kept_rows timings (reverse (take (i + 1) rows)) (drop (i + 1) rows)
unfolding kept_rows
kept-passed timings rows found i d within fails =
    rw (earlier-more rows i d within)
    (ap (λ rest. found ++ kept_rows timings (reverse (take i rows)) rest) (drop_more rows i d within) ∙ rw fails refl)

pub dropped-taken : (timings : List Timing) (rows : List ArrivalRow) (found : List Dropped) (i : ℕ) (d : ArrivalRow) → i < length rows → is_kept timings (reverse (take i rows)) (get_or rows i d) ≡ true
    → found ++ map dropped_of (dropped_rows timings (reverse (take i rows)) (drop i rows)) ≡ found ++ map dropped_of (dropped_rows timings (reverse (take (i + 1) rows)) (drop (i + 1) rows))
unfolding dropped_rows
dropped-taken timings rows found i d within holds =
    rw (earlier-more rows i d within)
    (ap (λ rest. found ++ map dropped_of (dropped_rows timings (reverse (take i rows)) rest)) (drop_more rows i d within) ∙ rw holds refl)

pub dropped-passed : (timings : List Timing) (rows : List ArrivalRow) (found : List Dropped) (i : ℕ) (d : ArrivalRow) → i < length rows → is_kept timings (reverse (take i rows)) (get_or rows i d) ≡ false
    → found ++ map dropped_of (dropped_rows timings (reverse (take i rows)) (drop i rows))
    ≡ (found ++ dropped_of (get_or rows i d) ∷ []) ++ map dropped_of (dropped_rows timings (reverse (take (i + 1) rows)) (drop (i + 1) rows))
unfolding dropped_rows
dropped-passed timings rows found i d within fails =
    let row = get_or rows i d in
    rw (earlier-more rows i d within)
    (ap (λ rest. found ++ map dropped_of (dropped_rows timings (reverse (take i rows)) rest)) (drop_more rows i d within)
    ∙ rw fails (sym (append_assoc found (dropped_of row ∷ []) (map dropped_of (dropped_rows timings (row ∷ reverse (take i rows)) (drop (i + 1) rows))))))

pub kept-end : (timings : List Timing) (earlier rows found : List ArrivalRow) (i : ℕ) → length rows ≤ i → found ++ kept_rows timings earlier (drop i rows) ≡ found ++ []
unfolding kept_rows
kept-end timings earlier rows found i past = ap (λ rest. found ++ kept_rows timings earlier rest) (drop_all i rows past)

pub dropped-end : (timings : List Timing) (earlier rows : List ArrivalRow) (found : List Dropped) (i : ℕ) → length rows ≤ i → found ++ map dropped_of (dropped_rows timings earlier (drop i rows)) ≡ found ++ []
unfolding dropped_rows
dropped-end timings earlier rows found i past = ap (λ rest. found ++ map dropped_of (dropped_rows timings earlier rest)) (drop_all i rows past)

-- what is known of each event's last kept tick
abbrev pub Remembers : List (Option ℕ) → List Timing → List ArrivalRow → Type 0
Remembers lasts timings earlier = (event : ℕ) → event < 256 → get_or lasts event None ≡ last_kept timings event earlier

pub equal_or_not : (a b : ℕ) → (a ≡ b) ⊎ (a ≢ b)
equal_or_not a b = grind arith

pub nat_eq-same : (a : ℕ) → nat_eq a a ≡ true
nat_eq-same a = grind (arith, nat_tests)

pub nat_eq-other : (a b : ℕ) → a ≢ b → nat_eq a b ≡ false
nat_eq-other a b h = grind (arith, nat_tests)

pub last_kept-taken : (timings : List Timing) (earlier : List ArrivalRow) (row : ArrivalRow) → is_kept timings earlier row ≡ true → last_kept timings row.event (row ∷ earlier) ≡ Some row.tick
unfolding last_kept
last_kept-taken timings earlier row holds = rw (nat_eq-same row.event, holds) refl

pub last_kept-passed : (timings : List Timing) (earlier : List ArrivalRow) (row : ArrivalRow) → is_kept timings earlier row ≡ false → last_kept timings row.event (row ∷ earlier) ≡ last_kept timings row.event earlier
unfolding last_kept
last_kept-passed timings earlier row fails = rw (nat_eq-same row.event, fails) refl

pub last_kept-other : (timings : List Timing) (earlier : List ArrivalRow) (row : ArrivalRow) (event : ℕ) → row.event ≢ event → last_kept timings event (row ∷ earlier) ≡ last_kept timings event earlier
unfolding last_kept
last_kept-other timings earlier row event ne = rw (nat_eq-other row.event event ne) refl

pub Remembers-taken : (timings : List Timing) (earlier : List ArrivalRow) (row : ArrivalRow) (lasts : List (Option ℕ)) → Remembers lasts timings earlier → row.event < length lasts → is_kept timings earlier row ≡ true
    → Remembers (set lasts row.event (Some row.tick)) timings (row ∷ earlier)
Remembers-taken timings earlier row lasts known within holds event small =
    elim (equal_or_not row.event event) [
      | inl same ↦ rw (← same) (get_or-set_same lasts row.event (Some row.tick) None within ∙ sym (last_kept-taken timings earlier row holds))
      | inr other ↦ (let ne : event ≢ row.event = λ e. other (sym e) in get_or-set_other lasts row.event event (Some row.tick) None ne ∙ known event small ∙ sym (last_kept-other timings earlier row event other))
    ]

pub Remembers-passed : (timings : List Timing) (earlier : List ArrivalRow) (row : ArrivalRow) (lasts : List (Option ℕ)) → Remembers lasts timings earlier → is_kept timings earlier row ≡ false → Remembers lasts timings (row ∷ earlier)
Remembers-passed timings earlier row lasts known fails event small =
    elim (equal_or_not row.event event) [
      | inl same ↦ known event small ∙ rw (← same) (sym (last_kept-passed timings earlier row fails))
      | inr other ↦ known event small ∙ sym (last_kept-other timings earlier row event other)
    ]
