-- Being alike goes both ways, and on from one to the next.
use Rattle.std.proofs.Common.{sym, ◌∙◌}
use Rattle.cat_program.specs.Body.{Simple, Body}
use Rattle.cat_program.specs.Meaning.{TaskState}
use Rattle.std.specs.Prelude.{Option}
use Rattle.same_program.specs.Alike.{SimpleIsLike, sets, sets_at, emits, raises, IsLike, ends, simple, when, choice, loop, turns, ListIsLike, neither, both, StateIsLike}

simple_turned : {s t : Simple} → SimpleIsLike s t → SimpleIsLike t s
simple_turned (sets a b) = sets (sym a) (sym b)
simple_turned (sets_at a b c d) = sets_at (sym a) (sym b) (sym c) (sym d)
simple_turned (emits a b) = emits (sym a) (sym b)
simple_turned (raises a) = raises (sym a)

body_turned : {k l : Body} → IsLike k l → IsLike l k
body_turned ends = ends
body_turned (simple a rest) = simple (simple_turned a) (body_turned rest)
body_turned (when a on rest) = when (sym a) (body_turned on) (body_turned rest)
body_turned (choice a on off rest) = choice (sym a) (body_turned on) (body_turned off) (body_turned rest)
body_turned (loop a body rest) = loop (sym a) (body_turned body) (body_turned rest)
body_turned (turns a body rest) = turns (sym a) (body_turned body) (body_turned rest)

list_turned : {k l : Option Body} → ListIsLike k l → ListIsLike l k
list_turned neither = neither
list_turned (both like) = both (body_turned like)

pub state_turned : (s t : TaskState) → StateIsLike s t → StateIsLike t s
state_turned s t like = record { store = sym like.store; current = list_turned like.current }

-- ---- on from one to the next

simple_onward : {r s t : Simple} → SimpleIsLike r s → SimpleIsLike s t → SimpleIsLike r t
simple_onward (sets a b) (sets x y) = sets (a ∙ x) (b ∙ y)
simple_onward (sets_at a b c d) (sets_at w x y z) = sets_at (a ∙ w) (b ∙ x) (c ∙ y) (d ∙ z)
simple_onward (emits a b) (emits x y) = emits (a ∙ x) (b ∙ y)
simple_onward (raises a) (raises x) = raises (a ∙ x)

body_onward : {j k l : Body} → IsLike j k → IsLike k l → IsLike j l
body_onward ends ends = ends
body_onward (simple a rest) (simple x more) = simple (simple_onward a x) (body_onward rest more)
body_onward (when a on rest) (when x in_it more) = when (a ∙ x) (body_onward on in_it) (body_onward rest more)
body_onward (choice a on off rest) (choice x in_it other more) = choice (a ∙ x) (body_onward on in_it) (body_onward off other) (body_onward rest more)
body_onward (loop a body rest) (loop x in_it more) = loop (a ∙ x) (body_onward body in_it) (body_onward rest more)
body_onward (turns a body rest) (turns x in_it more) = turns (a ∙ x) (body_onward body in_it) (body_onward rest more)

list_onward : {j k l : Option Body} → ListIsLike j k → ListIsLike k l → ListIsLike j l
list_onward neither neither = neither
list_onward (both a) (both b) = both (body_onward a b)

pub state_onward : (r s t : TaskState) → StateIsLike r s → StateIsLike s t → StateIsLike r t
state_onward r s t one other = record { store = one.store ∙ other.store; current = list_onward one.current other.current }
