use Rattle.cn_object.specs.Looping.{IsLatest}
use Rattle.cn_object.proofs.Inner.{outward}
use Rattle.cn_object.proofs.loops.still_around.Given as goal

abbrev pub decreases-loop-around : goal.decreases-loop-around
decreases-loop-around l = outward l.around

abbrev pub invariant-loop-around : goal.invariant-loop-around
invariant-loop-around l = IsLatest l.code l.pc l.around
