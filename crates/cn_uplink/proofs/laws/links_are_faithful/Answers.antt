use Rattle.cn_uplink.proofs.Rounds.{course-few, course-sound, course-whole, finish-once}
use Rattle.cn_uplink.proofs.laws.links_are_faithful.Goals as goal

pub returns : goal.returns
returns c = record { always = λ log steps. (course-sound log steps).sound.faithful; few = course-few; whole = course-whole; once = finish-once }
