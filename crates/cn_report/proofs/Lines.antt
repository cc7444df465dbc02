-- Lines by what is read of them.
use Rattle.std.proofs.Common.{◌≡◌, ℕ, List, ◌++◌, Some, refl, sym, ap, ◌∙◌}
use Rattle.std.specs.Prelude.{codes, decimal, slice_get, slice_index, slice_index_or}
use Rattle.cat_program.specs.declared.headers.Event.{Event}
use Rattle.cat_program.specs.Checked.{Checked}
use Rattle.demand_core.specs.declared.Load.{Load}
use Rattle.demand_core.specs.declared.Numbers.{Numbers}
use Rattle.feasibility.specs.Chosen.{no_load}
use Rattle.degradation.specs.declared.chosen.Chosen.{Chosen}
use Rattle.cn_report.specs.Report.{name_of, version_line, event_line, numbers_line}

-- the line of an event by what is read of it
pub event_line_is : (p : Checked) (chosen : Chosen) (e : ℕ) (versions : List ℕ) (loads : List Load) (event : Event) (name : List ℕ)
    → versions ≡ chosen.versions → loads ≡ chosen.loads → slice_get p.headers e ≡ Some event → name ≡ event.name
    → version_line name (slice_index versions e) (slice_index_or loads e no_load) ≡ event_line p chosen e
event_line_is p chosen e versions loads event name v l h n =
    ap (λ x. version_line x (slice_index versions e) (slice_index_or loads e no_load)) n
    ∙ ap (λ x. version_line event.name (slice_index x e) (slice_index_or loads e no_load)) v
    ∙ ap (λ x. version_line event.name (slice_index chosen.versions e) (slice_index_or x e no_load)) l
    ∙ ap (λ o. version_line (name_of o) (slice_index chosen.versions e) (slice_index_or chosen.loads e no_load)) (sym h)

-- ---- lines by their numbers

pub numbers_is : (n : Numbers) (lines checkpoint section kept level window : List ℕ) → lines ≡ decimal n.lines → checkpoint ≡ decimal n.checkpoint → section ≡ decimal n.section
    → kept ≡ decimal n.reserve → level ≡ decimal n.level → window ≡ decimal n.window
    → codes "numbers lines " ++ (lines ++ (codes " checkpoint " ++ (checkpoint ++ (codes " section " ++ (section
    ++ (codes " reserve " ++ (kept ++ (codes " level " ++ (level ++ (codes " window " ++ (window ++ codes "\n")))))))))))
    ≡ numbers_line n
numbers_is n lines checkpoint section kept level window a b c d e f = rw (a, b, c, d, e, f) refl
