-- One byte more than the greatest saved image has tells as much as the whole file.
use Rattle.std.proofs.Common.{◌≡◌, ℕ, ◌+◌, ◌*◌, ◌<◌, ◌≤◌, List, length, take, Result, Ok, Err, sym, ◌∙◌, ap, arith}
use Rattle.std.proofs.lemmas.List.{length-take, take-take}
use Rattle.cn_resume.specs.Fit.{HasSize, HoldsBefore, IsFirstFault, IsFit, Purpose, counted_length}
use Rattle.cn_resume.specs.declared.fault.ImageKind.{ImageKind}
use Rattle.cn_resume.specs.declared.fault.ImageKind.TheVariants as kind
use Rattle.degradation.specs.declared.chosen.Chosen.{Chosen}
use Rattle.nv_memory.specs.declared.layout.Layout.{Layout}
use Rattle.nv_memory.specs.Formats.{record_size}
use Rattle.nv_memory.specs.declared.device.Device.{Device}
use Rattle.nv_memory.specs.Layout.{lines_of, record_len, size_of}
use Rattle.cat_program.specs.Checked.{Checked}
use Rattle.degradation.specs.Placed.{IsLayoutOf}
use Rattle.catnap_top.specs.declared.file_fault.BadImage.{BadImage}
use Rattle.catnap_top.specs.declared.files.ReplayFiles.{ReplayFiles}
use Rattle.catnap_top.specs.Answer.{most_bytes}
use Rattle.catnap_top.specs.Resume.{IsImage, Start, purpose_in}

abbrev front : List ℕ → List ℕ
front file = take (most_bytes + 1) file

front_length : (file : List ℕ) → most_bytes < length file → length (front file) ≡ most_bytes + 1
front_length file lt = simp length-take (omega arith)

-- a saved image of the first format is short
few_lines : (l : Layout) → lines_of l ≤ 67
few_lines l = omega (arith, l.words_in_range, l.tasks_in_range, l.events_in_range)

abbrev IsShort : Layout → Type 0
IsShort l = 16 + size_of l ≤ most_bytes

short_image : (p : Checked) (d : Device) (l : Layout) → IsLayoutOf p d l → IsShort l
short_image p d l is =
    let few = few_lines l in
    let log : record_len l * l.log ≡ 16 * l.log = ap (λ (format : ℕ). record_size format * l.log) is.format in
    omega (arith, few, log, is.base, l.log_in_range)

-- a file that is longer has not the size
not_size : (l : Layout) (file : List ℕ) → IsShort l → most_bytes < length file → HasSize l file → ⊥
not_size l file short lt is = omega (arith, short, lt, is.size)

front_more : (file : List ℕ) → most_bytes < length file → most_bytes < length (front file)
front_more file lt = let long = front_length file lt in omega (arith, long)

-- the first bytes of the front are those of the file
head_front : (file : List ℕ) → take 4 (front file) ≡ take 4 file
head_front file = take-take 4 (most_bytes + 1) file (omega arith)

counted : (file : List ℕ) → most_bytes < length file → counted_length (front file) ≡ counted_length file
counted file lt = let long = front_length file lt in omega (arith, long, lt)

module _ (p : Purpose) (file : List ℕ) (short : IsShort p.layout) (lt : most_bytes < length file) where
  no_size : HoldsBefore p (front file) kind.Tick → ⊥
  no_size before = not_size p.layout (front file) short (front_more file lt) (before kind.Size (omega arith))

  before_head : HoldsBefore p file kind.Head
  before_head kind.Head less = absurd (omega (arith, less))
  before_head kind.Size less = absurd (omega (arith, less))
  before_head kind.Tick less = absurd (omega (arith, less))
  before_head kind.Stored less = absurd (omega (arith, less))
  before_head kind.Slot less = absurd (omega (arith, less))
  before_head kind.Steps less = absurd (omega (arith, less))
  before_head kind.Place less = absurd (omega (arith, less))
  before_head kind.Record less = absurd (omega (arith, less))
  before_head kind.Done less = absurd (omega (arith, less))
  before_head kind.Schedule less = absurd (omega (arith, less))
  before_head kind.State less = absurd (omega (arith, less))

  before_size : HoldsBefore p (front file) kind.Size → HoldsBefore p file kind.Size
  before_size before kind.Head less = sym (head_front file) ∙ before kind.Head (omega arith)
  before_size before kind.Size less = absurd (omega (arith, less))
  before_size before kind.Tick less = absurd (omega (arith, less))
  before_size before kind.Stored less = absurd (omega (arith, less))
  before_size before kind.Slot less = absurd (omega (arith, less))
  before_size before kind.Steps less = absurd (omega (arith, less))
  before_size before kind.Place less = absurd (omega (arith, less))
  before_size before kind.Record less = absurd (omega (arith, less))
  before_size before kind.Done less = absurd (omega (arith, less))
  before_size before kind.Schedule less = absurd (omega (arith, less))
  before_size before kind.State less = absurd (omega (arith, less))

  fault_long : (kind : ImageKind) (at : ℕ) → IsFirstFault p (front file) kind at → IsFirstFault p file kind at
  fault_long kind.Head at is = record { earlier = before_head; fails = (λ h. is.fails.0 (head_front file ∙ h), is.fails.1) }
  fault_long kind.Size at is =
      record { earlier = before_size is.earlier; fails = (λ h. not_size p.layout file short lt h, is.fails.1 ∙ counted file lt) }
  fault_long kind.Tick at is = absurd (no_size is.earlier)
  fault_long kind.Stored at is = absurd (no_size (λ k less. is.earlier k (omega (arith, less))))
  fault_long kind.Slot at is = absurd (no_size (λ k less. is.earlier k (omega (arith, less))))
  fault_long kind.Steps at is = absurd (no_size (λ k less. is.earlier k (omega (arith, less))))
  fault_long kind.Place at is = absurd (no_size (λ k less. is.earlier k (omega (arith, less))))
  fault_long kind.Record at is = absurd (no_size (λ k less. is.earlier k (omega (arith, less))))
  fault_long kind.Done at is = absurd (no_size (λ k less. is.earlier k (omega (arith, less))))
  fault_long kind.Schedule at is = absurd (no_size (λ k less. is.earlier k (omega (arith, less))))
  fault_long kind.State at is = absurd (no_size (λ k less. is.earlier k (omega (arith, less))))

pub image_long : (files : ReplayFiles) (chosen : List Chosen) (file : List ℕ) (came : Result Start BadImage) → most_bytes < length file
    → IsImage files chosen (front file) came → IsImage files chosen file came
image_long files chosen file (Ok start) lt is =
    let fit : IsFit (purpose_in files is.one is.l) (front file) = is.verdict.0 in
    absurd (not_size is.l (front file) (short_image files.program files.device is.l is.layout) (front_more file lt) (fit kind.Size))
image_long files chosen file (Err bad) lt is =
    record { one = is.one; alone = is.alone; l = is.l; layout = is.layout; verdict = fault_long (purpose_in files is.one is.l) file (short_image files.program files.device is.l is.layout) lt bad.kind bad.at is.verdict }
