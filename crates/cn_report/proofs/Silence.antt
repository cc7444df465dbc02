-- Silent entries change neither the image nor the text.
use Rattle.std.proofs.Common.{◌≡◌, ℕ, zero, suc, ◌+◌, ◌-◌, ◌≤◌, ◌<◌, List, [], ◌++◌, inl, inr, false, sym, ap, ◌∙◌, arith}
use Rattle.std.proofs.lemmas.List.{append-nil}
use Rattle.std.specs.Prelude.{◌⊎◌, if◌then◌else◌}
use Rattle.cn_base.specs.Texts.{in_turn}
use Rattle.nv_memory.specs.Silent.{IsSilent}
use Rattle.nv_memory.specs.Board.{image_after}
use Rattle.nv_memory.specs.declared.entry.Entry.{Entry}
use Rattle.nv_memory.specs.declared.entry.Op.{Op}
use Rattle.nv_memory.specs.declared.entry.Op.TheVariants.{Instr, Sleep}
use Rattle.nv_memory.specs.declared.device.Class.{Class}
use Rattle.checkpoint_slots.specs.declared.slot.Slot.{Slot}
use Rattle.recovery.specs.Past.{Past, image_at, committed_at, end_of}
use Rattle.cn_report.specs.Story.{done_line, entry_line, lost_line, moment_line}
use Rattle.cn_report.proofs.Moments.{image-more, moment-is}

entry-silent : (slot : Slot) (entry : Entry) → entry.lost ≡ false → (entry.op ≡ Sleep) ⊎ ((kind : Class) × (pc : ℕ) × (entry.op ≡ Instr kind pc)) → entry_line slot entry ≡ []
entry-silent slot entry done (inl sleep) =
    ap (λ b. if b then lost_line (end_of entry) else done_line entry.op (end_of entry) slot) done
    ∙ ap (λ (o : Op). done_line o (end_of entry) slot) sleep
entry-silent slot entry done (inr instr) =
    ap (λ b. if b then lost_line (end_of entry) else done_line entry.op (end_of entry) slot) done
    ∙ ap (λ (o : Op). done_line o (end_of entry) slot) instr.2

moment-silent : (past : Past) (k : ℕ) → IsSilent past.timeline k → moment_line past k ≡ []
moment-silent past k one = sym (moment-is past k one.entry one.at) ∙ entry-silent (committed_at past (k + 1)) one.entry one.done one.silent

leaves-image : (op : Op) (image : List ℕ) → (op ≡ Sleep) ⊎ ((kind : Class) × (pc : ℕ) × (op ≡ Instr kind pc)) → image_after op image ≡ image
leaves-image op image (inl sleep) = ap (λ (o : Op). image_after o image) sleep
leaves-image op image (inr instr) = ap (λ (o : Op). image_after o image) instr.2

image-silent : (past : Past) (k : ℕ) → IsSilent past.timeline k → image_at past (k + 1) ≡ image_at past k
image-silent past k one = sym (image-more past k one.entry one.at) ∙ leaves-image one.entry.op (image_at past k) one.silent

image-rests : (past : Past) (k n : ℕ) → ((j : ℕ) → k ≤ j → j < k + n → IsSilent past.timeline j) → image_at past (k + n) ≡ image_at past k
image-rests past k zero each = let e : k + 0 ≡ k = omega arith in ap (λ (m : ℕ). image_at past m) e
image-rests past k (suc n) each =
    let e : k + suc n ≡ (k + n) + 1 = omega arith in
    ap (λ (m : ℕ). image_at past m) e
    ∙ image-silent past (k + n) (each (k + n) (omega arith) (omega arith))
    ∙ image-rests past k n (λ j from until. each j from (omega (arith, until)))

text-rests : (past : Past) (k n : ℕ) → ((j : ℕ) → k ≤ j → j < k + n → IsSilent past.timeline j) → in_turn (moment_line past) (k + n) ≡ in_turn (moment_line past) k
text-rests past k zero each = let e : k + 0 ≡ k = omega arith in ap (λ (m : ℕ). in_turn (moment_line past) m) e
text-rests past k (suc n) each =
    let e : k + suc n ≡ suc (k + n) = omega arith in
    ap (λ (m : ℕ). in_turn (moment_line past) m) e
    ∙ ap (λ t. in_turn (moment_line past) (k + n) ++ t) (moment-silent past (k + n) (each (k + n) (omega arith) (omega arith)))
    ∙ append-nil (in_turn (moment_line past) (k + n))
    ∙ text-rests past k n (λ j from until. each j from (omega (arith, until)))

-- ---- from a place up to another

module _ (past : Past) (place last : ℕ) (later : place ≤ last) (each : (k : ℕ) → place ≤ k → k < last → IsSilent past.timeline k) where
  width : place + (last - place) ≡ last
  width = omega arith

  all : (j : ℕ) → place ≤ j → j < place + (last - place) → IsSilent past.timeline j
  all j from until = each j from (omega (arith, until, width))

  pub same_image : image_at past place ≡ image_at past last
  same_image = sym (image-rests past place (last - place) all) ∙ ap (λ (m : ℕ). image_at past m) width

  pub same_text : in_turn (moment_line past) place ≡ in_turn (moment_line past) last
  same_text = sym (text-rests past place (last - place) all) ∙ ap (λ (m : ℕ). in_turn (moment_line past) m) width
