use Rattle.std.proofs.Common.{take}
use Rattle.cat_conditions.specs.Offences.{NoneOf}
use Rattle.cat_conditions.specs.Conditions.{DeclaresTwice}
use Rattle.cat_types.specs.Shown.{all_shown}
use Rattle.cat_types.specs.Sorts.{AreOf}
use Rattle.cat_types.proofs.names.declared.Given as goal

abbrev pub invariant-loop-place : goal.invariant-loop-place
invariant-loop-place l = record {
  sorts : AreOf (take l.place (all_shown l.pieces)) l.names;
  none : NoneOf l.place (DeclaresTwice (all_shown l.pieces));
}
