-- The parts of a page, by name, and what is added to it.
use Rattle.std.specs.Prelude.{ℕ, List, Option, Result}
use Rattle.cn_base.specs.declared.page.Page.{Page}
use Rattle.cn_base.specs.Pages.{Adds}

-- what is held
abbrev pub held_in : {K : Type 0} → Page K → List ℕ
held_in page = page.held.items

-- the sink as it is now
abbrev pub sink_in : {K : Type 0} → Page K → K
sink_in page = page.sink.now

-- which sink it is
abbrev pub sink_name : {K : Type 0} → Page K → ℕ
sink_name page = page.sink.ghost_name

-- a text was added to a page, by what its sink tells of what was written
abbrev pub AddsTo : {K T E : Type 0} → (K → Option (List ℕ)) → Page K → Page K → List ℕ → Result T E → Type 0
AddsTo written before now text result = Adds (written (sink_in before)) (written (sink_in now)) (held_in before) (held_in now) text result
