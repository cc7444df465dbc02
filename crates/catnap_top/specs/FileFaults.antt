-- Why a file of bytes is refused, and the line of each fault.
use Rattle.std.specs.Prelude.{ℕ, List, [], ◌∷◌, codes, decimal}
use Rattle.cn_object.specs.declared.object.Kind.{Kind}
use Rattle.cn_object.specs.declared.object.Kind.TheVariants as object
use Rattle.cn_resume.specs.declared.fault.ImageKind.{ImageKind}
use Rattle.cn_resume.specs.declared.fault.ImageKind.TheVariants as image
use Rattle.catnap_top.specs.Answer.{line}

-- ---- an object file

abbrev pub object_kind_name : Kind → List ℕ
object_kind_name object.Form = codes "Form"
object_kind_name object.Operand = codes "Operand"
object_kind_name object.Region = codes "Region"
object_kind_name object.Stack = codes "Stack"
object_kind_name object.Loop = codes "Loop"
object_kind_name object.Long = codes "Long"

-- the lowest rule that is broken, and the first place that breaks it
abbrev pub object_line : Kind → ℕ → List ℕ
object_line kind place = line (codes "fault object " ∷ object_kind_name kind ∷ codes " " ∷ decimal place ∷ codes "\n" ∷ [])

-- ---- a saved image

abbrev pub image_kind_name : ImageKind → List ℕ
image_kind_name image.Head = codes "Head"
image_kind_name image.Size = codes "Size"
image_kind_name image.Tick = codes "Tick"
image_kind_name image.Stored = codes "Stored"
image_kind_name image.Slot = codes "Slot"
image_kind_name image.Steps = codes "Steps"
image_kind_name image.Place = codes "Place"
image_kind_name image.Record = codes "Record"
image_kind_name image.Done = codes "Done"
image_kind_name image.Schedule = codes "Schedule"
image_kind_name image.State = codes "State"

-- the first condition that fails, and the number that tells where
abbrev pub image_line : ImageKind → ℕ → List ℕ
image_line kind at = line (codes "fault image " ∷ image_kind_name kind ∷ codes " " ∷ decimal at ∷ codes "\n" ∷ [])
