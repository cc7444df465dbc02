-- Origins that say the same have the same rules.
use Rattle.std.proofs.Common.{◌≡◌, ℕ, ◌+◌, nat_lt, false, List, [], ◌∷◌, Some, refl, ◌∙◌, ap}
use Rattle.std.specs.Prelude.{if◌then◌else◌}
use Rattle.std.specs.Option.{is_some}
use Rattle.harvest_trace.specs.Failures.{first_in}
use Rattle.harvest_trace.specs.Timeline.{extra_at, life_of}
use Rattle.nv_memory.specs.declared.device.Class.TheVariants as class
use Rattle.nv_memory.specs.declared.entry.Entry.{Entry}
use Rattle.nv_memory.specs.declared.entry.Op.{Op}
use Rattle.nv_memory.specs.declared.entry.Op.TheVariants.{Instr, Emit, Write, Wake, Sleep}
use Rattle.nv_memory.specs.declared.board.Answer.TheVariants.{Done, Lost, Over}
use Rattle.nv_memory.specs.Board.{State, after, ticks_of}
use Rattle.board_core.specs.declared.origin.ModelOrigin.{ModelOrigin}
use Rattle.board_core.specs.Laws.{HaveSameRules, SaySame}
use Rattle.board_core.specs.Reached.{first_state, replayed}
use Rattle.board_core.specs.Rules.{class_ticks, cost_at, failure_in, fate_of, harvests, left_by, model_answer, model_next, unless_failing}

module _ (a b : ModelOrigin) (h : SaySame a b) where
  cost_same : (tick : ℕ) (op : Op) → cost_at a tick op ≡ cost_at b tick op
  cost_same tick (Instr kind pc) = λ i. h.units kind i + extra_at (h.trace i) tick
  cost_same tick (Emit pc at left) = λ i. h.units class.Out i + extra_at (h.trace i) tick
  cost_same tick (Write at left) = λ i. h.units class.Write i + extra_at (h.trace i) tick
  cost_same tick Wake = λ i. h.units class.Wake i + extra_at (h.trace i) tick
  cost_same tick Sleep = refl

  ticks_same : (op : Op) → ticks_of (class_ticks a.device) op ≡ ticks_of (class_ticks b.device) op
  ticks_same (Instr kind pc) = h.ticks kind
  ticks_same (Emit pc at left) = h.ticks class.Out
  ticks_same (Write at left) = h.ticks class.Write
  ticks_same Wake = h.ticks class.Wake
  ticks_same Sleep = refl

  failure_same : (tick : ℕ) (op : Op) → failure_in a tick op ≡ failure_in b tick op
  failure_same tick (Instr kind pc) = λ i. first_in tick (tick + h.ticks kind i) (h.fails i)
  failure_same tick (Emit pc at left) = λ i. first_in tick (tick + h.ticks class.Out i) (h.fails i)
  failure_same tick (Write at left) = λ i. first_in tick (tick + h.ticks class.Write i) (h.fails i)
  failure_same tick Wake = λ i. first_in tick (tick + h.ticks class.Wake i) (h.fails i)
  failure_same tick Sleep = refl

  fate_same : (tick stored : ℕ) (op : Op) → fate_of a tick stored op ≡ fate_of b tick stored op
  fate_same tick stored op = λ i. if nat_lt stored (cost_same tick op i)
      then record { drawn = stored; ticks = 1; torn = Some (h.fill i) }
      else unless_failing tick (cost_same tick op i) (ticks_same op i) (failure_same tick op i)

  next_same : (s : State) (op : Op) → model_next a s op ≡ model_next b s op
  next_same s op = λ i. if nat_lt s.life (s.tick + ticks_of s.ticks op) then s
      else after s (left_by (fate_same s.tick s.stored op i).torn op) (is_some (fate_same s.tick s.stored op i).torn) (fate_same s.tick s.stored op i).drawn (harvests (h.trace i) s.tick (fate_same s.tick s.stored op i).ticks)

  answer_same : (s : State) (op : Op) → model_answer a s op ≡ model_answer b s op
  answer_same s op = λ i. if nat_lt s.life (s.tick + ticks_of s.ticks op) then Over else (if is_some (fate_same s.tick s.stored op i).torn then Lost else Done)

  first_same : first_state a ≡ first_state b
  first_same = λ i. record {
    image = h.image i;
    tick = h.tick i;
    life = life_of (h.trace i);
    stored = h.stored i;
    cap = h.cap i;
    ticks = λ kind. h.ticks kind i;
    harvest = [];
    on = false;
    timeline = [];
    losses = 0;
  }

  replayed_same : (es : List Entry) (s : State) → replayed a es s ≡ replayed b es s
  unfolding replayed
  replayed_same [] s = refl
  replayed_same (e ∷ es) s = replayed_same es (model_next a s e.op) ∙ ap (replayed b es) (next_same s e.op)

  pub same_rules : HaveSameRules a b
  same_rules = record {
    first = first_same;
    next = next_same;
    answer = answer_same;
    reached = λ s reached. reached ∙ replayed_same s.timeline (first_state a) ∙ ap (replayed b s.timeline) first_same;
  }
