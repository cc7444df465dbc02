-- The writes of a commit, each done or lost, in a run that goes on from what is committed to what is saved.
use Rattle.std.proofs.Common.{◌≡◌, inl, inr, ℕ, ◌≤◌, true, List, [], ◌∷◌, ◌++◌, length, map, refl, sym, ap, ◌∙◌, subst, arith, append_assoc, append-nil}
use Rattle.std.specs.Prelude.{◌⊎◌}
use Rattle.cat_program.specs.declared.outs.LogEntry.{LogEntry}
use Rattle.nv_memory.specs.declared.layout.Layout.{Layout}
use Rattle.nv_memory.specs.declared.entry.Op.{Op}
use Rattle.nv_memory.specs.declared.entry.Entry.{Entry}
use Rattle.nv_memory.specs.Layout.{size_of}
use Rattle.nv_memory.specs.Board.{State, IsDone, image_after, image_by, leaving}
use Rattle.checkpoint_slots.specs.Commit.{commit_lines, commit_writes, gate_write, line_write, other_at}
use Rattle.checkpoint_slots.specs.Writes.{CommitsAreSafe, IsUnderWay}
use Rattle.recovery.specs.Committed.{Committed, IsCommitted}
use Rattle.logged_runs.specs.Reference.{Setting}
use Rattle.logged_runs.specs.Own.{IsOwn, IsEarlier}
use Rattle.logged_runs.specs.Laws.{EarlierRunsAreOrdered}
use Rattle.image_meaning.specs.Standing.{IsReady, Spells, moment_of}
use Rattle.image_meaning.specs.Laws.{CommitsAreKept, OperationsAreSafe}
use Rattle.cn_scheduler.specs.declared.engine.Chunk.{Chunk}
use Rattle.cn_scheduler.specs.declared.engine.Chunk.TheVariants.{Ended, Dropped, Lost, Over, Full}
use Rattle.cn_scheduler.specs.Asked.{Asked, plain}
use Rattle.cn_scheduler.specs.Chunks.{is_last}
use Rattle.lawful_timeline.proofs.Asking.{Along, Went, limits_with, went_done, went_lost}

-- after each entry the image has committed a moment of a run of its own, an earlier one of the next
abbrev pub Grows : Layout → Setting → Committed → List ℕ → List Entry → Committed → Type 0
Grows l s v image [] w = v ≡ w
Grows l s v image (entry ∷ entries) w =
    (mid : Committed) × IsCommitted l s.program (image_after entry.op image) mid × IsOwn s (moment_of mid) × IsEarlier s (moment_of v) (moment_of mid) × Grows l s mid (image_after entry.op image) entries w

pub grows_along : (l : Layout) (s : Setting) → EarlierRunsAreOrdered s → (v : Committed) (image : List ℕ) (entries : List Entry) → IsOwn s (moment_of v) → Along l s.program v image entries → Grows l s v image entries v
grows_along l s ordered v image [] own along = refl
grows_along l s ordered v image (entry ∷ entries) own along = (v, along.0, own, ordered.itself (moment_of v) own, grows_along l s ordered v (image_after entry.op image) entries own along.1)

pub grows-append : (l : Layout) (s : Setting) (u v w : Committed) (image : List ℕ) (xs ys : List Entry) → Grows l s u image xs v → Grows l s v (image_by xs image) ys w → Grows l s u image (xs ++ ys) w
grows-append l s u v w image [] ys one two = subst (λ (x : Committed). Grows l s x image ys w) (sym one) two
grows-append l s u v w image (x ∷ xs) ys one two = (one.0, one.1, one.2, one.3, grows-append l s one.0 v w (image_after x.op image) xs ys one.4 two)

pub image_by-append : (xs ys : List Entry) (image : List ℕ) → image_by (xs ++ ys) image ≡ image_by ys (image_by xs image)
image_by-append [] ys image = refl
image_by-append (x ∷ xs) ys image = image_by-append xs ys (image_after x.op image)

-- what the writes of a commit that began at an image leave, from one state to another
pub record Saved (l : Layout) (s : Setting) (before after : Committed) (start : List ℕ) (outcome : Chunk) (old new : State) : Type 0 where
  pub value : Committed
  pub committed : IsCommitted l s.program new.image value
  pub one_of : (value ≡ before) ⊎ (value ≡ after)
  pub ended : outcome ≡ Ended → value ≡ after
  pub stays : is_last outcome ≡ true → value ≡ before
  pub entries : List Entry
  pub timeline : new.timeline ≡ old.timeline ++ entries
  pub image : new.image ≡ image_by entries old.image
  pub tick : old.tick ≤ new.tick
  pub size : length new.image ≡ length start
  pub grows : Grows l s before old.image entries value
  pub spells : (es : List LogEntry) → Spells l s.program start es → Spells l s.program new.image es

module _ (l : Layout) (s : Setting) (safe : OperationsAreSafe l s.program) (writes : CommitsAreSafe) (kept : CommitsAreKept l s.program) (before after : Committed)
    (own : IsOwn s (moment_of before)) (own_after : IsOwn s (moment_of after)) (itself : IsEarlier s (moment_of before) (moment_of before)) (ahead : IsEarlier s (moment_of before) (moment_of after))
    (start : List ℕ) (large : size_of l ≤ length start) (committed : IsCommitted l s.program start before) (ready : IsReady l s.program start after) where
  -- the image stands for what it did, and no more was asked
  still : (outcome : Chunk) (left : List ℕ) (old new : State) → IsUnderWay l after.slot start left old.image → (outcome ≡ Ended → ⊥) → new ≡ old → Saved l s before after start outcome old new
  still outcome left old new under not same = subst (λ (x : State). Saved l s before after start outcome old x) (sym same) (record {
    value = before;
    committed = kept.lines start left old.image before after under committed;
    one_of = inl refl;
    ended = λ is. absurd (not is);
    stays = λ is. refl;
    entries = [];
    timeline = sym (append-nil old.timeline);
    image = refl;
    tick = omega arith;
    size = under.elsewhere.size;
    grows = refl;
    spells = λ es spell. kept.lines_spell start left old.image after es under spell;
  })

  -- a write of the gate, after which a value is committed
  gated : (outcome : Chunk) (old new : State) (went : Went old (gate_write start) new) (value : Committed) → IsUnderWay l after.slot start [] old.image → IsCommitted l s.program new.image value
      → (value ≡ before) ⊎ (value ≡ after) → (outcome ≡ Ended → value ≡ after) → (is_last outcome ≡ true → value ≡ before) → Saved l s before after start outcome old new
  gated outcome old new went value under is one ended stays =
      let step : image_after went.entry.op old.image ≡ new.image = ap (λ (o : Op). image_after o old.image) went.op_is ∙ sym went.image in
      record {
        value = value;
        committed = is;
        one_of = one;
        ended = ended;
        stays = stays;
        entries = went.entry ∷ [];
        timeline = went.timeline;
        image = sym step;
        tick = went.tick;
        size = ap length went.image ∙ kept.gate_size start old.image went.bytes after large under went.same_length;
        grows = (value, subst (λ (b : List ℕ). IsCommitted l s.program b value) (sym step) is, own_of one, ahead_of one, refl);
        spells = λ es spell. subst (λ (b : List ℕ). Spells l s.program b es) (sym went.image) (kept.gate_spells start old.image went.bytes after es large under went.same_length spell);
      }
    where
      own_of : (value ≡ before) ⊎ (value ≡ after) → IsOwn s (moment_of value)
      own_of (inl same) = subst (λ (v : Committed). IsOwn s (moment_of v)) (sym same) own
      own_of (inr same) = subst (λ (v : Committed). IsOwn s (moment_of v)) (sym same) own_after

      ahead_of : (value ≡ before) ⊎ (value ≡ after) → IsEarlier s (moment_of before) (moment_of value)
      ahead_of (inl same) = subst (λ (v : Committed). IsEarlier s (moment_of before) (moment_of v)) (sym same) itself
      ahead_of (inr same) = subst (λ (v : Committed). IsEarlier s (moment_of before) (moment_of v)) (sym same) ahead

  gate_lost : (old new : State) → IsUnderWay l after.slot start [] old.image → Went old (gate_write start) new → Saved l s before after start Lost old new
  gate_lost old new under went = by_value (kept.torn_gate start old.image went.bytes before after large under went.same_length committed ready)
    where
      by_value : IsCommitted l s.program (image_after (leaving (gate_write start) went.bytes) old.image) before ⊎ IsCommitted l s.program (image_after (leaving (gate_write start) went.bytes) old.image) after
          → Saved l s before after start Lost old new
      by_value (inl is) = gated Lost old new went before under (subst (λ (b : List ℕ). IsCommitted l s.program b before) (sym went.image) is) (inl refl) (λ never. cc) (λ never. cc)
      by_value (inr is) = gated Lost old new went after under (subst (λ (b : List ℕ). IsCommitted l s.program b after) (sym went.image) is) (inr refl) (λ never. cc) (λ never. cc)

  gate_done : (old new : State) → IsUnderWay l after.slot start [] old.image → IsDone old (gate_write start) new → Saved l s before after start Ended old new
  gate_done old new under done =
      let image : new.image ≡ image_after (gate_write start) old.image = ap (λ (x : State). x.image) done.becomes in
      gated Ended old new (went_done s.program l safe old new (gate_write start) done) after under
      (subst (λ (b : List ℕ). IsCommitted l s.program b after) (sym image) (kept.done_gate start old.image after large under ready)) (inr refl) (λ is. refl) (λ never. cc)

  -- a write of a line, and then what came of the others
  then_saved : (outcome : Chunk) (left : List ℕ) (op : Op) (old mid new : State) → Went old op mid → IsUnderWay l after.slot start left mid.image → Saved l s before after start outcome mid new → Saved l s before after start outcome old new
  then_saved outcome left op old mid new went under rest =
      let step : image_after went.entry.op old.image ≡ mid.image = ap (λ (o : Op). image_after o old.image) went.op_is ∙ sym went.image in
      record {
        value = rest.value;
        committed = rest.committed;
        one_of = rest.one_of;
        ended = rest.ended;
        stays = rest.stays;
        entries = went.entry ∷ rest.entries;
        timeline = rest.timeline ∙ ap (λ (es : List Entry). es ++ rest.entries) went.timeline ∙ append_assoc old.timeline (went.entry ∷ []) rest.entries;
        image = rest.image ∙ ap (λ (b : List ℕ). image_by rest.entries b) (sym step);
        tick = (let a = went.tick in let b = rest.tick in omega arith);
        size = rest.size;
        grows = (
          before,
          subst (λ (b : List ℕ). IsCommitted l s.program b before) (sym step) (kept.lines start left mid.image before after under committed),
          own,
          itself,
          subst (λ (b : List ℕ). Grows l s before b rest.entries rest.value) (sym step) rest.grows,
        );
        spells = rest.spells;
      }

  abbrev line_of : ℕ → Op
  line_of i = line_write after.slot (other_at l start) i

  pub saving : (floor : ℕ → ℕ) (left : List ℕ) (outcome : Chunk) (old new : State) → IsUnderWay l after.slot start left old.image
      → Asked (limits_with l floor) old (map plain (map (line_write after.slot (other_at l start)) left ++ gate_write start ∷ [])) outcome new → Saved l s before after start outcome old new
  saving floor [] Ended old new under (inl stops) = absurd stops
  saving floor [] Dropped old new under (inl stops) = still Dropped [] old new under (λ never. cc) stops.1
  saving floor [] Full old new under (inl stops) = still Full [] old new under (λ never. cc) stops.2
  saving floor [] Over old new under (inl stops) = still Over [] old new under (λ never. cc) stops.2.same
  saving floor [] Lost old new under (inl stops) = gate_lost old new under (went_lost s.program l safe old new (gate_write start) stops.2)
  saving floor [] Ended old new under (inr goes) = subst (λ (x : State). Saved l s before after start Ended old x) (sym goes.2) (gate_done old goes.0 under goes.1.done)
  saving floor [] Dropped old new under (inr goes) = absurd goes.2
  saving floor [] Full old new under (inr goes) = absurd goes.2
  saving floor [] Over old new under (inr goes) = absurd goes.2
  saving floor [] Lost old new under (inr goes) = absurd goes.2
  saving floor (i ∷ left) Ended old new under (inl stops) = absurd stops
  saving floor (i ∷ left) Dropped old new under (inl stops) = still Dropped (i ∷ left) old new under (λ never. cc) stops.1
  saving floor (i ∷ left) Full old new under (inl stops) = still Full (i ∷ left) old new under (λ never. cc) stops.2
  saving floor (i ∷ left) Over old new under (inl stops) = still Over (i ∷ left) old new under (λ never. cc) stops.2.same
  saving floor (i ∷ left) Lost old new under (inl stops) =
      let went = went_lost s.program l safe old new (line_write after.slot (other_at l start) i) stops.2 in
      let torn : IsUnderWay l after.slot start (i ∷ left) new.image = subst (λ (b : List ℕ). IsUnderWay l after.slot start (i ∷ left) b) (sym went.image) (writes.torn_line l after.slot start i left old.image went.bytes large under went.same_length) in
      then_saved Lost (i ∷ left) (line_write after.slot (other_at l start) i) old new new (went_lost s.program l safe old new (line_write after.slot (other_at l start) i) stops.2) torn (still Lost (i ∷ left) new new torn (λ never. cc) refl)
  saving floor (i ∷ left) outcome old new under (inr goes) =
      let image : goes.0.image ≡ image_after (line_write after.slot (other_at l start) i) old.image = ap (λ (x : State). x.image) goes.1.done.becomes in
      let done : IsUnderWay l after.slot start left goes.0.image = subst (λ (b : List ℕ). IsUnderWay l after.slot start left b) (sym image) (writes.done_line l after.slot start i left old.image large under) in
      then_saved outcome left (line_write after.slot (other_at l start) i) old goes.0 new (went_done s.program l safe old goes.0 (line_write after.slot (other_at l start) i) goes.1.done) done
      (saving floor left outcome goes.0 new done goes.2)

  -- a whole commit from where it begins
  pub saved : (floor : ℕ → ℕ) (outcome : Chunk) (old new : State) → old.image ≡ start → Asked (limits_with l floor) old (map plain (commit_writes l after.slot start)) outcome new → Saved l s before after start outcome old new
  saved floor outcome old new here asked =
      saving floor (commit_lines l after.slot start) outcome old new (subst (λ (b : List ℕ). IsUnderWay l after.slot start (commit_lines l after.slot start) b) (sym here) (writes.begins l after.slot start)) asked
