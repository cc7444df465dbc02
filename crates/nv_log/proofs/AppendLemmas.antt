-- What an append leaves alone.
use Rattle.std.proofs.Common.{◌≡◌, inl, inr, ℕ, ◌+◌, ◌<◌, ◌≤◌, List, length, Bool, true, false, refl, sym, ◌∙◌, ap, subst, arith}
use Rattle.std.proofs.lemmas.Bool.{cases_lt}
use Rattle.std.specs.Prelude.{◌==◌, if◌then◌else◌}
use Rattle.std.specs.Int.{w32, cast_unsigned}
use Rattle.cat_program.specs.declared.outs.LogEntry.{LogEntry}
use Rattle.cat_program.specs.declared.outs.LogEntry.TheVariants.{Out, Ran}
use Rattle.nv_memory.specs.declared.layout.Layout.{Layout}
use Rattle.nv_memory.specs.declared.entry.Op.{Op}
use Rattle.nv_memory.specs.declared.board.Answer.{Answer}
use Rattle.nv_memory.specs.declared.board.Answer.TheVariants as answer
use Rattle.nv_memory.specs.Layout.{log_at, record_len, record_at, size_of}
use Rattle.nv_memory.specs.Bytes.{written, bytes_at}
use Rattle.nv_memory.specs.Board.{State, Steps, image_after, leaving, left_of}
use Rattle.nv_memory.specs.Laws.{WritesAreLocal, PartsAreApart}
use Rattle.nv_log.specs.declared.log.By.{By}
use Rattle.nv_log.specs.declared.log.By.TheVariants as by
use Rattle.nv_log.specs.declared.log.Put.TheVariants as put
use Rattle.nv_log.specs.PutOf.{put_of_answer}
use Rattle.nv_log.specs.Record.{record_of, record_bytes, short_record, long_record}
use Rattle.nv_log.specs.Append.{op_of, append_op, Puts, ChangesRecord}

length-with : (short : Bool) (kind a b c first second third last : ℕ)
    → length (if short then short_record kind a b c first second third else long_record kind a b c first second third last) ≡ (if short then 16 else 24)
length-with true kind a b c first second third last = refl
length-with false kind a b c first second third last = refl

pub length-record : (l : Layout) (entry : LogEntry) → length (record_of l entry) ≡ record_len l
length-record l (Out channel value) = length-with (l.format == 1) 1 channel 0 0 (cast_unsigned w32 value) 0 0 0
length-record l (Ran event version steps start index) = length-with (l.format == 1) 2 event version 0 steps start index 0

image-op : (kind : By) (at : ℕ) (bytes image : List ℕ) → image_after (op_of kind at bytes) image ≡ written at bytes image
image-op by.Write at bytes image = refl
image-op (by.Instr pc) at bytes image = refl

image-leaving : (kind : By) (at : ℕ) (bytes left image : List ℕ) → image_after (leaving (op_of kind at bytes) left) image ≡ written at left image
image-leaving by.Write at bytes left image = refl
image-leaving (by.Instr pc) at bytes left image = refl

left-op : (kind : By) (at : ℕ) (bytes : List ℕ) → left_of (op_of kind at bytes) ≡ bytes
left-op by.Write at bytes = refl
left-op (by.Instr pc) at bytes = refl

pub puts : (old new : State) (op : Op) (a : Answer) → Steps old op a new → Puts old op (put_of_answer a) new
puts old new op answer.Done step = step
puts old new op answer.Lost step = step
puts old new op answer.Over step = step

pub changes_none : (l : Layout) (place : ℕ) (image : List ℕ) → ChangesRecord l place image image
changes_none l place image = record { size = refl; front = refl; others = λ k other. refl }

module _ (writes : WritesAreLocal) (parts : (l : Layout) → PartsAreApart l) where
  changes : (l : Layout) (place : ℕ) (image left : List ℕ) → place < l.log → size_of l ≤ length image → length left ≡ record_len l → ChangesRecord l place image (written (record_at l place) left image)
  changes l place image left room within long =
      let end : record_at l place + length left ≤ length image = omega (arith, (parts l).size place room) in
      record {
        size = writes.size (record_at l place) left image end;
        front = writes.front (log_at l) (record_at l place) left image ((parts l).begin place) (omega (arith, end));
        others = λ k other. elim (cases_lt k place) [
          | inl early ↦ writes.before (record_at l k) (record_len l) (record_at l place) left image ((parts l).records k place early) (omega (arith, end))
          | inr late ↦
              let behind : place < k = omega arith in
              writes.behind (record_at l k) (record_len l) (record_at l place) left image (omega (arith, (parts l).records place k behind)) end
        ];
      }

  pub torn : (l : Layout) (place : ℕ) (entry : LogEntry) (kind : By) (image bytes : List ℕ) → place < l.log → size_of l ≤ length image
      → length bytes ≡ length (left_of (append_op l place entry kind)) → ChangesRecord l place image (image_after (leaving (append_op l place entry kind) bytes) image)
  torn l place entry kind image bytes room within same =
      let long : length bytes ≡ record_len l = same ∙ ap length (left-op kind (record_at l place) (record_of l entry)) ∙ length-record l entry in
      subst (ChangesRecord l place image) (sym (image-leaving kind (record_at l place) (record_of l entry) bytes image)) (changes l place image bytes room within long)

  pub done : (l : Layout) (place : ℕ) (entry : LogEntry) (kind : By) (image : List ℕ) → place < l.log → size_of l ≤ length image
      → ChangesRecord l place image (image_after (append_op l place entry kind) image) × (record_bytes l place (image_after (append_op l place entry kind) image) ≡ record_of l entry)
  done l place entry kind image room within =
      let long = length-record l entry in
      let is = image-op kind (record_at l place) (record_of l entry) image in
      let end : record_at l place + length (record_of l entry) ≤ length image = omega (arith, (parts l).size place room) in (
        subst (ChangesRecord l place image) (sym is) (changes l place image (record_of l entry) room within long),
        ap (record_bytes l place) is
            ∙ ap (λ (n : ℕ). bytes_at (record_at l place) n (written (record_at l place) (record_of l entry) image)) (sym long)
            ∙ writes.own (record_at l place) (record_of l entry) image end,
      )

  pub keeps_step : (l : Layout) (place : ℕ) (kind : By) (entry : LogEntry) (old new : State) (a : Answer) → place < l.log → size_of l ≤ length old.image → Steps old (append_op l place entry kind) a new → ChangesRecord l place old.image new.image
  keeps_step l place kind entry old new answer.Done room within step =
      subst (ChangesRecord l place old.image) (sym (ap (λ (t : State). t.image) step.becomes)) (done l place entry kind old.image room within).0
  keeps_step l place kind entry old new answer.Lost room within step =
      subst (ChangesRecord l place old.image) (sym (ap (λ (t : State). t.image) step.becomes)) (torn l place entry kind old.image step.left room within step.same_length)
  keeps_step l place kind entry old new answer.Over room within step =
      subst (ChangesRecord l place old.image) (sym (ap (λ (t : State). t.image) step.same)) (changes_none l place old.image)

  pub done_step : (l : Layout) (place : ℕ) (kind : By) (entry : LogEntry) (old new : State) (a : Answer) → place < l.log → size_of l ≤ length old.image → Steps old (append_op l place entry kind) a new → put_of_answer a ≡ put.Done → record_bytes l place new.image ≡ record_of l entry
  done_step l place kind entry old new answer.Done room within step same =
      ap (record_bytes l place) (ap (λ (t : State). t.image) step.becomes) ∙ (done l place entry kind old.image room within).1
  done_step l place kind entry old new answer.Lost room within step same = absurd (cc)
  done_step l place kind entry old new answer.Over room within step same = absurd (cc)
