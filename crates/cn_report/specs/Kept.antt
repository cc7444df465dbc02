-- What a shadow keeps of the image with which a run begins.
use Rattle.std.specs.Prelude.{ℕ, List}
use Rattle.nv_memory.specs.declared.layout.Layout.{Layout}
use Rattle.cn_report.specs.declared.shadow.Shadow.{Shadow}
use Rattle.cn_report.specs.Windows.{AreHeads}

-- the gate, and the length and steps of both slots
abbrev pub HasKept : Layout → List ℕ → Shadow → Type 0
HasKept l image shadow = AreHeads l image shadow.heads
