use Rattle.std.proofs.Common.{◌≡◌, ◌++◌, ◌<◌, ℕ, drop}
use Rattle.std.specs.Prelude.{slice_index_or}
use Rattle.std.specs.List.{flat_map}
use Rattle.cat_machine.specs.declared.instr.Instr.{Instr}
use Rattle.cn_object.specs.Spelling.{HasRoom, instr_bytes}
use Rattle.cn_object.proofs.writing.put_instrs.Given as goal

abbrev pub invariant-loop-pc : goal.invariant-loop-pc
invariant-loop-pc l =
    (l.out.items ++ flat_map instr_bytes (drop l.pc l.code.instrs) ≡ l.fn.out.items ++ flat_map instr_bytes l.code.instrs)
    × ((k : ℕ) (d : Instr) → k < l.pc → HasRoom (slice_index_or l.code.instrs k d))
