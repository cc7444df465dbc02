-- What an operation leaves that is done for certain.
use Rattle.std.proofs.Common.{◌≡◌, ◌≢◌, ℕ, ◌+◌, ◌-◌, ◌≤◌, ◌<◌, Bool, false, List, [], ◌∷◌, ◌++◌, length, get_or, Option, Some, None, refl, sym, ◌∙◌, ap, subst, arith}
use Rattle.std.specs.Prelude.{if◌then◌else◌}
use Rattle.std.specs.Option.{is_some}
use Rattle.harvest_trace.specs.Timeline.{life_of}
use Rattle.nv_memory.specs.declared.device.Class.{Class}
use Rattle.nv_memory.specs.declared.device.Device.{Device}
use Rattle.nv_memory.specs.declared.entry.Op.{Op}
use Rattle.nv_memory.specs.declared.entry.Op.TheVariants.{Instr, Sleep}
use Rattle.nv_memory.specs.declared.entry.Entry.{Entry}
use Rattle.nv_memory.specs.declared.board.Answer.{Answer}
use Rattle.nv_memory.specs.declared.board.Answer.TheVariants.{Done, Lost, Over}
use Rattle.nv_memory.specs.Bytes.{written}
use Rattle.nv_memory.specs.AnyBoard.{actual_of, cost_of}
use Rattle.nv_memory.specs.Board.{State, Steps, IsIn, IsSound, image_after, on_after, ticks_of}
use Rattle.nv_memory.specs.Laws.{BoardsStaySound, OperationsAreBounded}
use Rattle.board_core.specs.declared.fate.Fate.{Fate}
use Rattle.board_core.specs.declared.origin.ModelOrigin.{ModelOrigin}
use Rattle.board_core.specs.declared.outlook.Outlook.{Outlook}
use Rattle.board_core.specs.declared.sure.Sure.{Sure}
use Rattle.board_core.specs.ModelState.{model_state}
use Rattle.board_core.specs.Outlook.{IsOutlook}
use Rattle.board_core.specs.Reached.{IsReached, model_start}
use Rattle.board_core.specs.Rules.{class_ticks, fate_answer, fate_of, left_by, model_after}
use Rattle.board_core.specs.Run.{IsRun}
use Rattle.board_core.specs.Sure.{IsSure, write_class, write_of}
use Rattle.board_core.proofs.ModelLemmas.{acts, acts_sound, fits_not_over, next_after, reached_after, stands}
use Rattle.board_core.proofs.Outlooks.{fate_foreseen, stored_foreseen}

-- the operation of a class, which leaves the board on where it is
pub record IsOf (d : Device) (kind : Class) (op : Op) : Type 0 where
  pub awake : op ≢ Sleep
  pub ticks : (cost_of d kind).ticks ≡ ticks_of (class_ticks d) op
  pub actual : (cost_of d kind).actual ≡ actual_of d op
  pub stays : (on : Bool) → on ≡ on_after op on

pub instr_of : (d : Device) (kind : Class) (pc : ℕ) → IsOf d kind (Instr kind pc)
instr_of d kind pc = record { awake = λ same. cc; ticks = refl; actual = refl; stays = λ on. refl }

pub write_of_class : (d : Device) (pc : Option ℕ) (at : ℕ) (bytes : List ℕ) → IsOf d (write_class pc) (write_of pc at bytes)
write_of_class d (Some pc) at bytes = record { awake = λ same. cc; ticks = refl; actual = refl; stays = λ on. refl }
write_of_class d None at bytes = record { awake = λ same. cc; ticks = refl; actual = refl; stays = λ on. refl }

pub write_in : (pc : Option ℕ) (at : ℕ) (bytes image : List ℕ) → at + length bytes ≤ length image → IsIn (write_of pc at bytes) image
write_in (Some pc) at bytes image within = within
write_in None at bytes image within = within

pub write_image : (pc : Option ℕ) (at : ℕ) (bytes image : List ℕ) → written at bytes image ≡ image_after (write_of pc at bytes) image
write_image (Some pc) at bytes image = refl
write_image None at bytes image = refl

module _ (law : OperationsAreBounded) (o : ModelOrigin) (image image' : List ℕ) (es es' : List Entry) (tick stored losses : ℕ) (on : Bool) (kind : Class) (op : Op) (sure : Sure) (outlook : Outlook)
    (of : IsOf o.device kind op) (is_sure : IsSure o outlook tick stored kind sure) (ahead : IsOutlook o tick outlook) (begun : o.tick ≤ tick) (within : IsIn op image)
    (image_is : image' ≡ image_after op image)
    (es_is : es' ≡ es ++ record { tick = tick; stored = stored; drawn = sure.drawn; ticks = sure.ticks; op = op; lost = false } ∷ []) where
  abbrev before : State
  before = model_state o image es tick stored losses on

  abbrev now : State
  now = model_state o image' es' (tick + sure.ticks) sure.left losses on

  abbrev fate : Fate
  fate = record { drawn = sure.drawn; ticks = sure.ticks; torn = None }

  ticks_are : sure.ticks ≡ ticks_of (class_ticks o.device) op
  ticks_are = is_sure.ticks ∙ of.ticks

  drawn_is : sure.drawn ≡ actual_of o.device op + outlook.extra
  drawn_is = is_sure.drawn ∙ ap (λ (n : ℕ). n + outlook.extra) of.actual

  some : 1 ≤ ticks_of (class_ticks o.device) op
  some = omega (arith, of.ticks, law.some o.device kind)

  fate_is : fate ≡ fate_of o tick stored op
  fate_is =
      (λ i. record { drawn = drawn_is i; ticks = ticks_are i; torn = None })
      ∙ sym (fate_foreseen o tick stored op outlook ahead of.awake some (omega (arith, ticks_are, is_sure.until)) (omega (arith, ticks_are, is_sure.calm)) (omega (arith, drawn_is, is_sure.affordable)))

  fits : tick + ticks_of (class_ticks o.device) op ≤ life_of o.trace
  fits = omega (arith, ticks_are, is_sure.until, ahead.in_life)

  pub after_is : now ≡ model_after o before op
  after_is =
      stands o image es tick stored losses on op fate false op image' es' sure.left losses on begun fate_is refl refl image_is es_is
      (is_sure.left ∙ sym (stored_foreseen o tick (stored - sure.drawn) sure.ticks outlook ahead is_sure.until))
      refl
      (of.stays on)

  done : fate_answer o before op ≡ Done
  done = ap (λ (f : Fate). if is_some f.torn then Lost else Done) (sym fate_is)

  -- it was run
  pub run_is : IsRun o before now op
  run_is = record {
    next = after_is ∙ sym (next_after o before op fits);
    answer = ap (λ (b : Bool). if b then Over else fate_answer o before op) (fits_not_over (life_of o.trace) (tick + ticks_of (class_ticks o.device) op) fits) ∙ done;
    step = subst (λ (t : State). Steps before op Done t) (sym after_is)
        (subst (λ (a : Answer). Steps before op a (model_after o before op)) done (acts law o image es tick stored losses on op fits));
  }

  -- and what always holds of a board still does
  pub run_sound : BoardsStaySound → ((k : ℕ) → get_or image' k 0 < 256) → IsSound (model_start o) before → IsSound (model_start o) now
  run_sound stay bytes sound =
      let left_bytes = subst (λ (l : List ℕ). (k : ℕ) → get_or l k 0 < 256) image_is bytes in
      let same = subst (λ (f : Fate). (k : ℕ) → get_or (image_after (left_by f.torn op) image) k 0 < 256) fate_is left_bytes in
      subst (λ (t : State). IsSound (model_start o) t) (sym after_is) (acts_sound law o image es tick stored losses on op stay sound within fits same)

  pub run_reached : IsReached o before → IsReached o now
  run_reached reached = subst (λ (t : State). IsReached o t) (sym after_is) (reached_after law o before op reached fits)
