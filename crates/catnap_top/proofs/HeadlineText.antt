-- The report is that of the run that the last image stands for.
use Rattle.std.proofs.Common.{◌≡◌, ℕ, ℤ, pos, zero, suc, ◌+◌, ◌<◌, ◌≤◌, List, [], ◌∷◌, ◌++◌, length, map, take, drop, get_or, Option, Some, refl, sym, ap, ◌∙◌, subst, arith, Bool, false}
use Rattle.std.specs.Prelude.{slice_get, slice_index_or, codes, decimal, if◌then◌else◌}
use Rattle.std.specs.Fmt.{signed_decimal}
use Rattle.std.specs.List.{range_with_len}
use Rattle.std.specs.Option.{option_map_or}
use Rattle.std.specs.Int.{cast_signed, w32}
use Rattle.std.proofs.lemmas.List.{drop_more, length-map}
use Rattle.std.proofs.lemmas.List.FromFn.{length-range_with_len}
use Rattle.std.proofs.lemmas.Option.{slice_get-get_or}
use Rattle.cat_program.specs.Checked.{Checked, IsChecked}
use Rattle.cat_program.specs.Declares.{IsLaidOut}
use Rattle.cat_program.specs.declared.headers.Variable.{Variable}
use Rattle.cat_program.specs.declared.outs.LogEntry.{LogEntry}
use Rattle.cat_program.specs.declared.outs.LogEntry.TheVariants.{Out}
use Rattle.degradation.specs.declared.chosen.Chosen.{Chosen}
use Rattle.nv_memory.specs.declared.entry.Entry.{Entry}
use Rattle.nv_memory.specs.declared.entry.Op.{Op}
use Rattle.nv_memory.specs.declared.entry.Op.TheVariants.{Wake, Write}
use Rattle.nv_memory.specs.declared.layout.Layout.{Layout}
use Rattle.checkpoint_slots.specs.Image.{committed_bytes}
use Rattle.checkpoint_slots.specs.Numbers.{number_at}
use Rattle.checkpoint_slots.specs.Slot.{variables_of, read_slot}
use Rattle.checkpoint_slots.specs.declared.slot.Slot.{Slot}
use Rattle.nv_log.specs.Record.{record_bytes, record_of, entry_of, EntryFits, IsSpelled}
use Rattle.recovery.specs.Committed.{Committed, IsCommitted}
use Rattle.reference_run.specs.Reference.{Moment}
use Rattle.image_meaning.specs.Standing.{StandsFor, moment_of}
use Rattle.cn_report.specs.Outcome.{end_line, known_at, log_line, log_text, record_line, variables_text}
use Rattle.cn_report.specs.Whole.{resumed_text}
use Rattle.recovery.specs.Past.{Past, committed_at, end_of, entry_in, image_at, last_image, last_slot}
use Rattle.cn_base.specs.Texts.{in_turn, line}
use Rattle.cn_report.specs.Report.{rows_text}
use Rattle.cn_report.specs.Story.{done_line, dropped_text, entry_line, lost_line, moment_line, slot_line, story_text}
use Rattle.catnap_top.specs.declared.files.ReplayFiles.{ReplayFiles}
use Rattle.catnap_top.specs.Headline.{line_at, past_in, run_log, run_text, run_variables, words_in}
use Rattle.catnap_top.specs.Lives.{Life}

in_turn-same : (f g : ℕ → List ℕ) (n : ℕ) → ((k : ℕ) → k < n → f k ≡ g k) → in_turn f n ≡ in_turn g n
in_turn-same f g zero same = refl
in_turn-same f g (suc n) same = λ i. in_turn-same f g n (λ k less. same k (omega arith)) i ++ same n (omega arith) i

-- ---- the slot that an image has committed

pub slot-is : (program : Checked) (past : Past) (n : ℕ) (v : Committed) → IsCommitted past.layout program (image_at past n) v → committed_at past n ≡ v.slot
unfolding committed_at
slot-is program past n v committed = committed.slot_is

-- ---- the log

abbrev pub ReadsAgain : Type 0
ReadsAgain = (l : Layout) (entry : LogEntry) → EntryFits l entry → entry_of l (record_of l entry) ≡ entry

log-is : ReadsAgain → (files : ReplayFiles) (past : Past) (from : ℕ) (v : Committed) → IsCommitted past.layout files.program (last_image past) v
    → log_text files.program.headers files.arrivals past from ≡ run_log files (known_at past from) v.entries
unfolding record_line
log-is again files past from v committed =
    let headers = files.program.headers in
    let lists = files.arrivals in
    let many : (last_slot past).len ≡ length v.entries =
    ap (λ (s : Slot). s.len) (slot-is files.program past (length past.timeline) v committed) ∙ sym committed.recorded.many in
    let each : (k : ℕ) → k < length v.entries
    → record_line headers lists past from k ≡ option_map_or (log_line headers lists (known_at past from k)) (slice_get v.entries k) [] =
    λ k less.
    let e : LogEntry = get_or v.entries k (Out 0 (pos 0)) in
    let there : slice_get v.entries k ≡ Some e = slice_get-get_or v.entries k (Out 0 (pos 0)) less in
    let spelled : IsSpelled past.layout files.program (record_bytes past.layout k (last_image past)) e = committed.recorded.entries_are k e there in
    let same : entry_in past k ≡ e = ap (entry_of past.layout) spelled.bytes_are ∙ again past.layout e spelled.fits in
    ap (log_line headers lists (known_at past from k)) same ∙ sym (ap (λ (o : Option LogEntry). option_map_or (log_line headers lists (known_at past from k)) o []) there)
    in
    ap (λ (n : ℕ). in_turn (record_line headers lists past from) n) many
    ∙ in_turn-same (record_line headers lists past from) (λ k. option_map_or (log_line headers lists (known_at past from k)) (slice_get v.entries k) []) (length v.entries) each

-- ---- the variables

values-are : (words : List ℤ) (base n : ℕ) → base + n ≤ length words
    → map (λ word. slice_index_or words word (pos 0)) (range_with_len base n) ≡ take n (drop base words)
values-are words base zero within = refl
values-are words base (suc n) within =
    let next : base + 1 ≡ suc base = omega arith in
    ap (λ rest. slice_index_or words base (pos 0) ∷ rest) (values-are words (base + 1) n (omega arith))
    ∙ sym (ap (take (suc n)) (drop_more words base (pos 0) (omega arith)))

laid_end : (at : ℕ) (variables : List Variable) (words : ℕ) → IsLaidOut at variables words → at ≤ words
laid_end at [] words laid = omega (arith, laid)
laid_end at (v ∷ vs) words laid = omega (arith, laid_end (at + v.len) vs words laid.2)

variables-are : (slot : Slot) (variables : List Variable) (at : ℕ) → IsLaidOut at variables (length (variables_of slot))
    → variables_text slot variables ≡ run_variables variables (variables_of slot)
variables-are slot [] at laid = refl
variables-are slot (v ∷ vs) at laid =
    let end = laid_end (at + v.len) vs (length (variables_of slot)) laid.2 in
    let here : map (λ word. slice_index_or (variables_of slot) word (pos 0)) (range_with_len v.base v.len) ≡ words_in (variables_of slot) v =
    values-are (variables_of slot) v.base v.len (omega (arith, laid.0, end)) in
    λ i. line (codes "var" ∷ v.name ∷ map signed_decimal (here i)) ++ variables-are slot vs (at + v.len) laid.2 i

-- ---- the whole

-- a slot that is committed has as many words as the layout
slot-words : (program : Checked) (l : Layout) (image : List ℕ) (v : Committed) → IsCommitted l program image v → length (variables_of v.slot) ≡ l.words
slot-words program l image v committed =
    ap (λ (s : Slot). length (variables_of s)) (sym committed.slot_is)
    ∙ length-map (read_slot l (committed_bytes l image)).words (cast_signed w32)
    ∙ length-map (range_with_len 3 l.words) (number_at (committed_bytes l image))
    ∙ length-range_with_len 3 l.words

module _ (again : ReadsAgain) (files : ReplayFiles) (checked : IsChecked files.program) (chosen : List Chosen) (life : Life)
    (words : life.layout.words ≡ length files.program.words) (from : ℕ) where
  -- the text of its report
  abbrev pub told_text : List ℕ
  told_text = resumed_text files.program.headers files.program.variables files.given files.forecast chosen files.arrivals (past_in life) from life.state.tick life.state.stored life.end

  shows_value : (v : Committed) → IsCommitted life.layout files.program (last_image (past_in life)) v → told_text ≡ run_text files chosen life from (moment_of v)
  shows_value v committed =
      let past = past_in life in
      let slot : last_slot past ≡ v.slot = slot-is files.program past (length past.timeline) v committed in
      let log = log-is again files past from v committed in
      let size : length (variables_of v.slot) ≡ length files.program.words = slot-words files.program life.layout (last_image past) v committed ∙ words in
      let variables : variables_text (last_slot past) files.program.variables ≡ run_variables files.program.variables (variables_of v.slot) =
      ap (λ (s : Slot). variables_text s files.program.variables) slot
      ∙ variables-are v.slot files.program.variables 0 (subst (λ n. IsLaidOut 0 files.program.variables n) (sym size) checked.laid_out) in
      λ i. rows_text files.program.headers files.given files.forecast chosen
      ++ (dropped_text files.program.headers files.arrivals.dropped
      ++ (story_text past ++ (log i ++ (end_line life.state.tick life.state.stored (slot i).steps life.end ++ variables i))))

  pub shows_text : (m : Moment) → StandsFor life.layout files.program (last_image (past_in life)) m → told_text ≡ run_text files chosen life from m
  shows_text m stands = subst (λ (n : Moment). told_text ≡ run_text files chosen life from n) stands.is (shows_value stands.value stands.committed)

-- ---- a line of what happened

module _ (program : Checked) (past : Past) (k : ℕ) (entry : Entry) (m : Moment) (is : slice_get past.timeline k ≡ Some entry)
    (stands : StandsFor past.layout program (image_at past (k + 1)) m) (done : entry.lost ≡ false) where
  counts : (word : List ℕ) → slot_line word (end_of entry) (committed_at past (k + 1)) ≡ line_at word (end_of entry) m
  counts word =
      let slot : committed_at past (k + 1) ≡ stands.value.slot = slot-is program past (k + 1) stands.value stands.committed in
      let len : (committed_at past (k + 1)).len ≡ length m.entries =
      ap (λ (s : Slot). s.len) slot ∙ sym stands.committed.recorded.many ∙ ap (λ (n : Moment). length n.entries) stands.is in
      let steps : (committed_at past (k + 1)).steps ≡ m.steps = ap (λ (s : Slot). s.steps) slot ∙ ap (λ (n : Moment). n.steps) stands.is in
      λ i. line (word ∷ decimal (end_of entry) ∷ decimal (len i) ∷ decimal (steps i) ∷ [])

  line-is : (op : Op) → entry.op ≡ op → moment_line past k ≡ done_line op (end_of entry) (committed_at past (k + 1))
  unfolding moment_line
  line-is op same =
      let slot : Slot = committed_at past (k + 1) in
      ap (λ (o : Option Entry). option_map_or (entry_line slot) o []) is
      ∙ ap (λ (b : Bool). if b then lost_line (end_of entry) else done_line entry.op (end_of entry) slot) done
      ∙ ap (λ (o : Op). done_line o (end_of entry) slot) same

  pub boot-is : entry.op ≡ Wake → moment_line past k ≡ line_at (codes "boot") (end_of entry) m
  boot-is op = line-is Wake op ∙ counts (codes "boot")

  pub commit-is : (left : List ℕ) → entry.op ≡ Write 0 left → moment_line past k ≡ line_at (codes "commit") (end_of entry) m
  commit-is left op = line-is (Write 0 left) op ∙ counts (codes "commit")
