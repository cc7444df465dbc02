use Rattle.std.proofs.Common.{◌≡◌, ℕ, ◌<◌, ◌==◌, List, [], get_or, length, arith, ap, ◌∙◌}
use Rattle.std.proofs.lemmas.List.{get_or_default}
use Rattle.std.proofs.lemmas.List.Sums.{count_by-le-length}
use Rattle.demand_core.specs.declared.Load.{Load}
use Rattle.feasibility.specs.Chosen.{load_of, version_of, no_load}
use Rattle.feasibility.proofs.Vectors.{loads_of-zero, loads_of-suc}
use Rattle.feasibility.proofs.choose.loads_of.Goals as goal

-- what the code reads is the load of the event in its version
load_read : (tables : List (List Load)) (front : List ℕ) (event i version : ℕ) (table seen : List Load) → event < length tables →
    i ≡ event → seen ≡ get_or tables i seen → table ≡ seen → version ≡ version_of front event → get_or table version no_load ≡ load_of tables front event
load_read tables front event i version table seen within at is same counted =
    let found : seen ≡ get_or tables event [] = is ∙ (ap (λ (k : ℕ). get_or tables k seen) at ∙ get_or_default tables event seen [] within) in
    ap (λ (xs : List Load). get_or xs version no_load) (same ∙ found) ∙ ap (λ (k : ℕ). get_or (get_or tables event []) k no_load) counted

pub loop-event-init : goal.loop-event-init
loop-event-init c = c.new-loads.ensures.items ∙ loads_of-zero c.args.tables.now c.args.front.now

pub offset_bounds-table-mentions : goal.offset_bounds-table-mentions
offset_bounds-table-mentions c =
    omega (arith, count_by-le-length (λ (m : ℕ). m == c.loop-event.event) c.args.front.now, c.mentions.ensures, c.requires.short)

pub loop-event-preserved : goal.loop-event-preserved
loop-event-preserved c =
    let pushed = c.in_ok-push.ensures.items in
    let more = loads_of-suc c.args.tables.now c.args.front.now c.loop-event.event in
    let read = load_read c.args.tables.now c.args.front.now c.loop-event.event c.from.result c.mentions.result c.as_slice-table.result.now c.index-tables-from.result
    (omega arith) c.from.ensures c.index-tables-from.is c.as_slice-table.ensures c.mentions.ensures in
    cc
