use Rattle.std.proofs.Common.{get_or, refl}
use Rattle.std.proofs.lemmas.Option.{slice_get-get_or}
use Rattle.demand_core.specs.declared.Load.{Load}
use Rattle.demand_core.proofs.Windows.{window_first, window_more, too_long}
use Rattle.demand_core.proofs.repeat.window.Goals as goal

abbrev none : Load
none = record { spacing = 0; deadline = 0; units = 0; ticks = 0 }

pub loop-x-init : goal.loop-x-init
loop-x-init c = record { is = window_first c.args.p c.args.loads.now c.requires.p; short = c.requires.short }

pub loop-x-preserved : goal.loop-x-preserved
loop-x-preserved c =
    record {
      is = window_more c.args.p c.args.loads.now c.loop-x.x-index c.loop-x.whole c.in-Some.next none c.loop-x-test.true c.loop-x.invariant.is c.in-Some.ensures.1;
      short = c.in-Some.ensures.0;
    }

pub returns-in-None : goal.returns-in-None
returns-in-None c =
    record {
      index = c.loop-x.x-index;
      load = get_or c.args.loads.now c.loop-x.x-index none;
      is = slice_get-get_or c.args.loads.now c.loop-x.x-index none c.loop-x-test.true;
      within = c.loop-x-test.true;
      spacing_is = refl;
      before = c.loop-x.whole;
      before_is = c.loop-x.invariant.is;
      before_short = c.loop-x.invariant.short;
      exceeds = too_long c.args.p c.args.loads.now c.loop-x.x-index c.loop-x.whole 1000000 none c.loop-x-test.true c.loop-x.invariant.is c.in-None.ensures;
    }
