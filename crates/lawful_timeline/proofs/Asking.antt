-- Operations that are asked in turn and write no more than records behind the first ones.
use Rattle.std.proofs.Common.{◌≡◌, inl, inr, ℕ, ◌+◌, ◌<◌, ◌≤◌, true, false, List, [], ◌∷◌, ◌++◌, length, map, Option, Some, None, refl, sym, ap, ◌∙◌, subst, arith, append_assoc, append-nil, length-append}
use Rattle.cat_program.specs.declared.outs.LogEntry.{LogEntry}
use Rattle.cat_program.specs.declared.outs.LogEntry.TheVariants.{Out}
use Rattle.cat_program.specs.Meaning.{Output}
use Rattle.cat_program.specs.OutsValue.{entry_of}
use Rattle.cat_program.specs.Checked.{Checked}
use Rattle.nv_memory.specs.declared.device.Class.{Class}
use Rattle.nv_memory.specs.declared.layout.Layout.{Layout}
use Rattle.nv_memory.specs.declared.entry.Op.{Op}
use Rattle.nv_memory.specs.declared.entry.Entry.{Entry}
use Rattle.nv_memory.specs.Layout.{size_of}
use Rattle.nv_memory.specs.Board.{State, IsDone, IsLost, image_after, image_by, left_of, leaving}
use Rattle.nv_log.specs.declared.log.By.{By}
use Rattle.nv_log.specs.declared.log.By.TheVariants as by
use Rattle.nv_log.specs.Append.{append_op}
use Rattle.nv_log.specs.Record.{EntryFits, IsOf}
use Rattle.recovery.specs.Committed.{Committed, IsCommitted}
use Rattle.image_meaning.specs.Standing.{Spells, IsBehind}
use Rattle.image_meaning.specs.Laws.{OperationsAreSafe}
use Rattle.cn_scheduler.specs.declared.engine.Chunk.{Chunk}
use Rattle.cn_scheduler.specs.declared.engine.Chunk.TheVariants.{Ended, Dropped, Lost, Over, Full}
use Rattle.cn_scheduler.specs.Paths.{Act}
use Rattle.cn_scheduler.specs.Asked.{Ask, HasRoom, Limits, Asked, ask_with, listed, outs_in, path_asks, recording}
use Rattle.cn_scheduler.specs.Chunks.{AreFit}
use Rattle.lawful_timeline.specs.Claims.{AreAbove}

-- an operation that was done or lost, by the bytes that it left
pub record Went (old : State) (op : Op) (new : State) : Type 0 where
  pub bytes : List ℕ
  pub same_length : length bytes ≡ length (left_of op)
  pub entry : Entry
  pub op_is : entry.op ≡ leaving op bytes
  pub tick_is : entry.tick ≡ old.tick
  pub stored_is : entry.stored ≡ old.stored
  pub timeline : new.timeline ≡ old.timeline ++ entry ∷ []
  pub image : new.image ≡ image_after (leaving op bytes) old.image
  pub tick : old.tick ≤ new.tick

-- the image after each entry has committed a value
abbrev pub Along : Layout → Checked → Committed → List ℕ → List Entry → Type 0
Along l program v image [] = Unit {0}
Along l program v image (entry ∷ entries) = IsCommitted l program (image_after entry.op image) v × Along l program v (image_after entry.op image) entries

-- what operations behind the first n records leave
pub record Left (l : Layout) (program : Checked) (n : ℕ) (floor : ℕ → ℕ) (old new : State) : Type 0 where
  pub entries : List Entry
  pub timeline : new.timeline ≡ old.timeline ++ entries
  pub image : new.image ≡ image_by entries old.image
  pub tick : old.tick ≤ new.tick
  pub size : length new.image ≡ length old.image
  pub above : AreAbove floor entries
  pub along : (v : Committed) → v.slot.len ≤ n → IsCommitted l program old.image v → Along l program v old.image entries
  pub keeps : (v : Committed) → v.slot.len ≤ n → IsCommitted l program old.image v → IsCommitted l program new.image v
  pub spells : (es : List LogEntry) → length es ≤ n → Spells l program old.image es → Spells l program new.image es

-- each of these operations is behind the first n records, where its own record has a place
abbrev pub EachBehind : Layout → ℕ → List Ask → Type 0
EachBehind l n [] = Unit {0}
EachBehind l n (a ∷ asks) = (HasRoom l.log a.place → IsBehind l n a.op) × EachBehind l n asks

abbrev pub limits_with : Layout → (ℕ → ℕ) → Limits
limits_with l floor = record { floor = floor; size = l.log }

pub behind-append : (l : Layout) (n : ℕ) (xs ys : List Ask) → EachBehind l n xs → EachBehind l n ys → EachBehind l n (xs ++ ys)
behind-append l n [] ys one two = two
behind-append l n (x ∷ xs) ys one two = (one.0, behind-append l n xs ys one.1 two)

-- ---- parts

pub asked_parts : (limits : Limits) (xs ys : List Ask) (old new : State) → Asked limits old (xs ++ ys) Ended new → (mid : State) × Asked limits old xs Ended mid × Asked limits mid ys Ended new
asked_parts limits [] ys old new asked = (old, refl, asked)
asked_parts limits (x ∷ xs) ys old new (inl stops) = absurd stops
asked_parts limits (x ∷ xs) ys old new (inr goes) = let rest = asked_parts limits xs ys goes.0 new goes.2 in (rest.0, inr (goes.0, goes.1, rest.1), rest.2)

module _ (program : Checked) (l : Layout) (safe : OperationsAreSafe l program) where
  pub went_done : (old new : State) (op : Op) → IsDone old op new → Went old op new
  went_done old new op done = record {
    bytes = left_of op;
    same_length = refl;
    entry = record { tick = old.tick; stored = old.stored; drawn = done.drawn; ticks = length done.passed; op = op; lost = false };
    op_is = sym (safe.own_bytes op);
    tick_is = refl;
    stored_is = refl;
    timeline = ap (λ (s : State). s.timeline) done.becomes;
    image = ap (λ (s : State). s.image) done.becomes ∙ ap (λ (o : Op). image_after o old.image) (sym (safe.own_bytes op));
    tick = (let later : new.tick ≡ old.tick + length done.passed = ap (λ (s : State). s.tick) done.becomes in omega arith);
  }

  pub went_lost : (old new : State) (op : Op) → IsLost old op new → Went old op new
  went_lost old new op lost = record {
    bytes = lost.left;
    same_length = lost.same_length;
    entry = record { tick = old.tick; stored = old.stored; drawn = lost.drawn; ticks = length lost.passed; op = leaving op lost.left; lost = true };
    op_is = refl;
    tick_is = refl;
    stored_is = refl;
    timeline = ap (λ (s : State). s.timeline) lost.becomes;
    image = ap (λ (s : State). s.image) lost.becomes;
    tick = (let later : new.tick ≡ old.tick + length lost.passed = ap (λ (s : State). s.tick) lost.becomes in omega arith);
  }

  module _ (n : ℕ) (floor : ℕ → ℕ) where
    pub left_none : (s : State) → Left l program n floor s s
    left_none s = record {
      entries = [];
      timeline = sym (append-nil s.timeline);
      image = refl;
      tick = omega arith;
      size = refl;
      above = tt;
      along = λ v low is. tt;
      keeps = λ v low is. is;
      spells = λ es low spell. spell;
    }

    pub left_same : (old new : State) → new ≡ old → Left l program n floor old new
    left_same old new same = subst (λ (s : State). Left l program n floor old s) (sym same) (left_none old)

    pub left_then : (old mid new : State) (op : Op) → Went old op mid → IsBehind l n op → floor old.tick ≤ old.stored → size_of l ≤ length old.image → Left l program n floor mid new → Left l program n floor old new
    left_then old mid new op went behind above large rest =
        let step : image_after went.entry.op old.image ≡ mid.image = ap (λ (o : Op). image_after o old.image) went.op_is ∙ sym went.image in
        let committed : (v : Committed) → v.slot.len ≤ n → IsCommitted l program old.image v → IsCommitted l program mid.image v =
        λ v low is. subst (λ (b : List ℕ). IsCommitted l program b v) (sym went.image) (safe.committed n op went.bytes old.image v large behind went.same_length low is) in
        record {
          entries = went.entry ∷ rest.entries;
          timeline = rest.timeline ∙ ap (λ (es : List Entry). es ++ rest.entries) went.timeline ∙ append_assoc old.timeline (went.entry ∷ []) rest.entries;
          image = rest.image ∙ ap (λ (b : List ℕ). image_by rest.entries b) (sym step);
          tick = (let a = went.tick in let b = rest.tick in omega arith);
          size = rest.size ∙ ap length went.image ∙ safe.size n op went.bytes old.image large behind went.same_length;
          above = ((let a = went.tick_is in let b = went.stored_is in let f : floor went.entry.tick ≡ floor old.tick = ap floor went.tick_is in omega arith), rest.above);
          along = λ v low is. (
            subst (λ (b : List ℕ). IsCommitted l program b v) (sym step) (committed v low is),
            subst (λ (b : List ℕ). Along l program v b rest.entries) (sym step) (rest.along v low (committed v low is)),
          );
          keeps = λ v low is. rest.keeps v low (committed v low is);
          spells = λ es low spell. rest.spells es low (subst (λ (b : List ℕ). Spells l program b es) (sym went.image) (safe.spells n op went.bytes old.image es large behind went.same_length low spell));
        }

    pub asked_left : (asks : List Ask) (outcome : Chunk) (old new : State) → EachBehind l n asks → size_of l ≤ length old.image → Asked (limits_with l floor) old asks outcome new → Left l program n floor old new
    asked_left [] Ended old new behind large asked = left_same old new asked
    asked_left [] Dropped old new behind large asked = absurd asked
    asked_left [] Lost old new behind large asked = absurd asked
    asked_left [] Over old new behind large asked = absurd asked
    asked_left [] Full old new behind large asked = absurd asked
    asked_left (a ∷ asks) Ended old new behind large (inl stops) = absurd stops
    asked_left (a ∷ asks) Dropped old new behind large (inl stops) = left_same old new stops.1
    asked_left (a ∷ asks) Full old new behind large (inl stops) = left_same old new stops.2
    asked_left (a ∷ asks) Over old new behind large (inl stops) = left_same old new stops.2.same
    asked_left (a ∷ asks) Lost old new behind large (inl stops) = left_then old new new a.op (went_lost old new a.op stops.2) (behind.0 stops.1) stops.0 large (left_none new)
    asked_left (a ∷ asks) outcome old new behind large (inr goes) =
        let went = went_done old goes.0 a.op goes.1.done in
        let same : length goes.0.image ≡ length old.image = ap length went.image ∙ safe.size n a.op went.bytes old.image large (behind.0 goes.1.room) went.same_length in
        left_then old goes.0 new a.op (went_done old goes.0 a.op goes.1.done) (behind.0 goes.1.room) goes.1.above large (asked_left asks outcome goes.0 new behind.1 (omega arith) goes.2)

  -- ---- the instructions of a path

  pub path_behind : (n at : ℕ) (acts : List Act) → n ≤ at → EachBehind l n (path_asks l at acts)
  path_behind n at [] low = tt
  path_behind n at (a ∷ acts) low = (by_out a.out, path_behind n (at + length (listed a.out)) acts (omega arith))
    where
      by_out : (o : Option Output) → HasRoom l.log (ask_with l at a.pc a.class o).place → IsBehind l n (ask_with l at a.pc a.class o).op
      by_out None room = tt
      by_out (Some o) room = safe.behind n at (Out o.0 o.1) (by.Instr a.pc) low room

  -- once a path was done the log spells its outputs too
  abbrev PathSpells : List Act → Type 0
  PathSpells acts = (floor : ℕ → ℕ) (at : ℕ) (es : List LogEntry) (old new : State) → at ≡ length es → AreFit (outs_in acts) → size_of l ≤ length old.image
      → Asked (limits_with l floor) old (path_asks l at acts) Ended new → Spells l program old.image es → Spells l program new.image (es ++ map entry_of (outs_in acts))

  -- an instruction, and then the others
  instr_spells : (pc : ℕ) (class : Class) (o : Option Output) (acts : List Act) → PathSpells acts → (floor : ℕ → ℕ) (at : ℕ) (es : List LogEntry) (old new : State) → at ≡ length es
      → AreFit (listed o ++ outs_in acts) → size_of l ≤ length old.image → Asked (limits_with l floor) old (ask_with l at pc class o ∷ path_asks l (at + length (listed o)) acts) Ended new
      → Spells l program old.image es → Spells l program new.image (es ++ map entry_of (listed o ++ outs_in acts))
  instr_spells pc class o acts rest floor at es old new place fits large (inl stops) spell = absurd stops
  instr_spells pc class None acts rest floor at es old new place fits large (inr goes) spell =
      let same : goes.0.image ≡ old.image = ap (λ (s : State). s.image) goes.1.done.becomes in
      rest floor (at + 0) es goes.0 new (omega arith) fits (let long : length goes.0.image ≡ length old.image = ap length same in omega arith) goes.2 (subst (λ (b : List ℕ). Spells l program b es) (sym same) spell)
  instr_spells pc class (Some o) acts rest floor at es old new place fits large (inr goes) spell =
      let entry : LogEntry = Out o.0 o.1 in
      let within : length es < l.log = (let room : at < l.log = goes.1.room in omega arith) in
      let image : goes.0.image ≡ image_after (append_op l at (Out o.0 o.1) (by.Instr pc)) old.image = ap (λ (s : State). s.image) goes.1.done.becomes in
      let moved : goes.0.image ≡ image_after (append_op l (length es) (Out o.0 o.1) (by.Instr pc)) old.image = image ∙ ap (λ (j : ℕ). image_after (append_op l j (Out o.0 o.1) (by.Instr pc)) old.image) place in
      let one : Spells l program goes.0.image (es ++ Out o.0 o.1 ∷ []) = subst (λ (b : List ℕ). Spells l program b (es ++ Out o.0 o.1 ∷ [])) (sym moved) (safe.appended (Out o.0 o.1) (by.Instr pc) old.image es within large tt fits.0 spell) in
      let longer : length (es ++ Out o.0 o.1 ∷ []) ≡ length es + 1 = length-append es (Out o.0 o.1 ∷ []) in
      let size : length goes.0.image ≡ length old.image = ap length moved ∙ same_size (length es) (Out o.0 o.1) (by.Instr pc) old.image within large in
      subst (λ (xs : List LogEntry). Spells l program new.image xs) (append_assoc es (Out o.0 o.1 ∷ []) (map entry_of (outs_in acts)))
      (rest floor (at + 1) (es ++ Out o.0 o.1 ∷ []) goes.0 new (omega arith) fits.1 (omega arith) goes.2 one)
    where
      same_size : (place : ℕ) (entry : LogEntry) (kind : By) (image : List ℕ) → place < l.log → size_of l ≤ length image → length (image_after (append_op l place entry kind) image) ≡ length image
      same_size place entry kind image within large =
          let op = append_op l place entry kind in
          ap (λ (o : Op). length (image_after o image)) (sym (safe.own_bytes (append_op l place entry kind)))
          ∙ safe.size 0 (append_op l place entry kind) (left_of (append_op l place entry kind)) image large (safe.behind 0 place entry kind (omega arith) within) refl

  pub path_spells : (acts : List Act) → PathSpells acts
  path_spells [] floor at es old new place fits large asked spell =
      subst (λ (xs : List LogEntry). Spells l program new.image xs) (sym (append-nil es)) (subst (λ (s : State). Spells l program s.image es) (sym asked) spell)
  path_spells (a ∷ acts) floor at es old new place fits large asked spell = instr_spells a.pc a.class a.out acts (path_spells acts) floor at es old new place fits large asked spell

  -- one record more
  pub record_spells : (floor : ℕ → ℕ) (at : ℕ) (entry : LogEntry) (kind : By) (es : List LogEntry) (old new : State) → at ≡ length es → IsOf program entry → EntryFits l entry → size_of l ≤ length old.image
      → Asked (limits_with l floor) old (recording l at entry kind ∷ []) Ended new → Spells l program old.image es → Spells l program new.image (es ++ entry ∷ [])
  record_spells floor at entry kind es old new place exists fits large (inl stops) spell = absurd stops
  record_spells floor at entry kind es old new place exists fits large (inr goes) spell =
      let same : new ≡ goes.0 = goes.2 in
      let image : new.image ≡ image_after (append_op l (length es) entry kind) old.image =
      ap (λ (s : State). s.image) (same ∙ goes.1.done.becomes) ∙ ap (λ (j : ℕ). image_after (append_op l j entry kind) old.image) place in
      let within : length es < l.log = (let room : at < l.log = goes.1.room in omega arith) in
      subst (λ (b : List ℕ). Spells l program b (es ++ entry ∷ [])) (sym image) (safe.appended entry kind old.image es within large exists fits spell)
