use Rattle.std.proofs.Common.{◌++◌, ◌∷◌, [], Some, ap, ◌∙◌, length, sym, subst}
use Rattle.std.specs.Prelude.{slice_get, map}
use Rattle.std.proofs.Common.{ℕ, Vec, Global}
use Rattle.std.proofs.lemmas.List.{map-append}
use Rattle.std.proofs.lemmas.Option.{slice_get-get_or}
use Rattle.cat_machine.specs.CodeValue.{entries_of}
use Rattle.cat_program.specs.Checked.{EachBelow}
use Rattle.cat_program.specs.Body.{tree_of}
use Rattle.cat_machine.specs.Code.{versions_code, versions_entries}
use Rattle.cat_compile.proofs.Regions.{EventsLoop, lists_below_at, events_start, events_go}
use Rattle.cat_compile.proofs.whole.emit_events.Goals as goal

pub loop-event-init : goal.loop-event-init
loop-event-init c = subst (λ l. EventsLoop c.args.program.now c.args.code.now.items c.args.code.now.items (entries_of l) 0) (sym c.new-all.ensures.items) (events_start c.code_is_laid_out.ensures.sizes c.args.program.now c.args.code.now.items c.requires.checked c.requires.tasks)

pub emit_event-requires-clause-blocks : goal.emit_event-requires-clause-blocks
emit_event-requires-clause-blocks c =
    let item = ap (λ l. slice_get l c.loop-event.event-index) (sym c.versions-events.ensures.versions) ∙ slice_get-get_or c.versions-events.result.now c.loop-event.event-index c.event-item.result c.loop-event-test.true ∙ ap Some (sym c.event-item.is) in
    subst (EachBelow (length c.args.program.now.blocks)) (sym c.as_slice.ensures) (lists_below_at (length c.args.program.now.blocks) c.args.program.now.events c.loop-event.event-index c.event-item.result c.requires.checked.events_in item)

pub loop-event-preserved : goal.loop-event-preserved
loop-event-preserved c =
    let item = ap (λ l. slice_get l c.loop-event.event-index) (sym c.versions-events.ensures.versions) ∙ slice_get-get_or c.versions-events.result.now c.loop-event.event-index c.event-item.result c.loop-event-test.true ∙ ap Some (sym c.event-item.is) in
    events_go c.args.program.now c.args.code.now.items c.loop-event.code.items (entries_of c.loop-event.all.items) c.loop-event.event-index c.event-item.result item c.loop-event.invariant c.code_is_laid_out.ensures.sizes
    c.emit_event.new.code.items c.in_ok-entries.entries.items (entries_of c.push.new.self.items)
    (c.in_ok-entries.ensures.code ∙ ap (λ l. c.loop-event.code.items ++ versions_code (length c.loop-event.code.items) (map (tree_of c.args.program.now.blocks) l)) c.as_slice.ensures)
    (c.in_ok-entries.ensures.entries ∙ ap (λ l. versions_entries (length c.loop-event.code.items) (map (tree_of c.args.program.now.blocks) l)) c.as_slice.ensures)
    (ap entries_of c.in_ok-push.ensures.items ∙ map-append (λ (v : Vec ℕ Global). v.items) c.loop-event.all.items (c.in_ok-entries.entries ∷ []))
