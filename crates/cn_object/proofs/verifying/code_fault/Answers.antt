use Rattle.std.proofs.Common.{rules}
use Rattle.cn_object.specs.Verdict.{LoopsHold}
use Rattle.cn_object.proofs.Spanning.{targets_exist}
use Rattle.cn_object.proofs.verifying.code_fault.Goals as goal

pub region_fault-requires-clause-targets : goal.region_fault-requires-clause-targets
region_fault-requires-clause-targets c = targets_exist c.args.words _ c.args.code.now c.in_default.ensures

pub loop_fault-requires-clause-targets : goal.loop_fault-requires-clause-targets
loop_fault-requires-clause-targets c = targets_exist c.args.words _ c.args.code.now c.in_default.ensures

pub length_fault-requires : goal.length_fault-requires
length_fault-requires c = let loops : LoopsHold c.args.words c.args.code.now = search rules in (c.args.words, loops)
