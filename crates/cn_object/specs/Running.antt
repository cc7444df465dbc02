-- The working state with which the run of an object begins.
use Rattle.std.specs.Prelude.{pos, [], None}
use Rattle.cat_machine.specs.Held.{Held}
use Rattle.cn_object.specs.declared.object.Object.{Object}

-- no task is current, and no handler runs
abbrev pub first_of : Object → Held
first_of o = record { words = o.words; posts = o.started; place = None; kept = None; stack = []; payload = pos 0 }
