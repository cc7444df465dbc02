use Rattle.std.proofs.Common.{◌≡◌, ◌∙◌, ◌<◌, None, refl, ap, sym, get_or, length, reverse, take, pos, true, false, arith, append-nil, length-set}
use Rattle.std.proofs.lemmas.List.{get_or-replicate}
use Rattle.event_arrivals.specs.Kept.{is_apart, is_kept, last_kept, spacing_at}
use Rattle.event_arrivals.specs.declared.row.ArrivalRow.{ArrivalRow}
use Rattle.event_arrivals.proofs.KeptLemmas.{Remembers-passed, Remembers-taken, dropped-end, dropped-passed, dropped-taken, earlier-more, kept-end, kept-passed, kept-taken}
use Rattle.event_arrivals.proofs.spacing.part.Goals as goal
use Rattle.event_arrivals.proofs.spacing.part.Goals.{then-is_taken+in_ok-push, else-is_taken+in_ok-push-2}

pub rows-init : goal.rows-init
unfolding last_kept
rows-init c = rw (c.new-kept.ensures.items, c.new-dropped.ensures.items) (record { kept = refl; dropped = refl; lasts = λ event small. get_or-replicate 256 event None None small; sized = refl })

pub is_taken-requires : goal.is_taken-requires
is_taken-requires c = omega (arith, c.rows.invariant.sized)

pub rows-preserved : goal.rows-preserved
rows-preserved c =
    let timings = c.args.timings.now in
    let rows = c.args.rows.now in
    let i = c.rows.row-index in
    let d : ArrivalRow = record { tick = 0; event = 0; payload = pos 0 } in
    let row = get_or rows i d in
    let earlier = reverse (take i rows) in
    let lasts = c.rows.lasts in
    let within = c.rows-test.true in
    let small = c.is_taken.ensures.small in
    let decided : c.is_taken.result ≡ is_kept timings earlier row =
    c.is_taken.ensures.taken ∙ ap (λ l. is_apart (spacing_at timings row.event) l row.tick) (c.rows.invariant.lasts row.event small) in
    let inside : row.event < length lasts = omega (arith, small, c.rows.invariant.sized) in
    elim c.if-is_taken.branch [
      | then-is_taken+in_ok-push w ↦ (
          let holds : is_kept timings earlier row ≡ true = sym decided ∙ w.if-is_taken.true in
          let now = rw w.if-is_taken.true at c.is_taken.ensures.lasts in
          rw (w.kept-is, w.dropped-is, w.in_ok-push.ensures.items, now) (record {
            kept = c.rows.invariant.kept ∙ kept-taken timings rows c.rows.kept.items i d within holds;
            dropped = c.rows.invariant.dropped ∙ dropped-taken timings rows c.rows.dropped.items i d within holds;
            lasts = rw (earlier-more rows i d within) (Remembers-taken timings earlier row lasts c.rows.invariant.lasts inside holds);
            sized = simp length-set c.rows.invariant.sized;
          })
          )
      | else-is_taken+in_ok-push-2 w ↦ (
          let fails : is_kept timings earlier row ≡ false = sym decided ∙ w.if-is_taken.false in
          let now = rw w.if-is_taken.false at c.is_taken.ensures.lasts in
          rw (w.kept-is, w.dropped-is, w.in_ok-push-2.ensures.items, now) (record {
            kept = c.rows.invariant.kept ∙ kept-passed timings rows c.rows.kept.items i d within fails;
            dropped = c.rows.invariant.dropped ∙ dropped-passed timings rows c.rows.dropped.items i d within fails;
            lasts = rw (earlier-more rows i d within) (Remembers-passed timings earlier row lasts c.rows.invariant.lasts fails);
            sized = c.rows.invariant.sized;
          })
          )
    ]

pub returns-clause-kept : goal.returns-clause-kept
returns-clause-kept c =
    sym (c.rows.invariant.kept ∙ kept-end c.args.timings.now (reverse (take c.rows.row-index c.args.rows.now)) c.args.rows.now c.rows.kept.items c.rows.row-index c.rows-test.false ∙ append-nil c.rows.kept.items)

pub returns-clause-dropped : goal.returns-clause-dropped
returns-clause-dropped c =
    sym (c.rows.invariant.dropped ∙ dropped-end c.args.timings.now (reverse (take c.rows.row-index c.args.rows.now)) c.args.rows.now c.rows.dropped.items c.rows.row-index c.rows-test.false ∙ append-nil c.rows.dropped.items)
