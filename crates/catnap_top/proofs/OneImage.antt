-- Bytes are one saved image of files that tell the same, or fail one condition with one number.
use Rattle.std.proofs.Common.{◌≡◌, ℕ, List, [], ◌∷◌, length, Ok, Err, refl, sym, ap, ◌∙◌, subst}
use Rattle.std.specs.Prelude.{◌↔◌}
use Rattle.cn_resume.specs.Fit.{IsFirstFault, IsFit, Purpose}
use Rattle.cn_resume.specs.declared.fault.ImageKind.{ImageKind}
use Rattle.degradation.specs.Placed.{IsLayoutOf}
use Rattle.degradation.specs.declared.chosen.Chosen.{Chosen}
use Rattle.harvest_trace.specs.Timeline.{life_of}
use Rattle.nv_memory.specs.Laws.{LayoutsAreNumbers}
use Rattle.nv_memory.specs.declared.device.Device.{Device}
use Rattle.nv_memory.specs.declared.layout.Layout.{Layout}
use Rattle.same_runs.specs.Alike.{AreSamePurposes}
use Rattle.catnap_top.specs.declared.files.ReplayFiles.{ReplayFiles}
use Rattle.catnap_top.specs.Alike.{Agree, AreSameFiles}
use Rattle.catnap_top.specs.Resume.{IsImage, Start, purpose_in}

module _ (layouts : LayoutsAreNumbers) (either : (p : Purpose) (file : List ℕ) (kind : ImageKind) (at : ℕ) → IsFit p file → IsFirstFault p file kind at → ⊥)
    (refused : (p : Purpose) (file : List ℕ) (k j : ImageKind) (at by : ℕ) → IsFirstFault p file k at → IsFirstFault p file j by → (k ≡ j) × (at ≡ by))
    (fit : (p q : Purpose) (file : List ℕ) → AreSamePurposes p q → IsFit p file ↔ IsFit q file)
    (fault : (p q : Purpose) (file : List ℕ) (kind : ImageKind) (at : ℕ) → AreSamePurposes p q → IsFirstFault p file kind at ↔ IsFirstFault q file kind at) where
  module _ (x y : ReplayFiles) (chosen : Chosen) (bytes : List ℕ) (same : AreSameFiles x y) where
    layout_same : (a b : Layout) → IsLayoutOf x.program x.device a → IsLayoutOf y.program y.device b → a ≡ b
    layout_same a b h k =
        let alike = same.program.same in
        layouts a b (h.words ∙ ap (λ words. length words) alike.words ∙ sym k.words) (h.tasks ∙ ap (λ tasks. length tasks) alike.tasks ∙ sym k.tasks)
        (h.events ∙ ap (λ events. length events) alike.events ∙ sym k.events) (h.log ∙ ap (λ (d : Device). d.log) same.device ∙ sym k.log) (h.format ∙ sym k.format) (h.base ∙ sym k.base)

    purposes : (a b : Layout) → IsLayoutOf x.program x.device a → IsLayoutOf y.program y.device b → AreSamePurposes (purpose_in x chosen a) (purpose_in y chosen b)
    purposes a b h k =
        record {
          settings = record { programs = same.program.same; versions = refl; arrivals = same.arrivals };
          layout = layout_same a b h k;
          cap = ap (λ (d : Device). d.cap) same.device;
          life = ap life_of same.trace;
        }

  -- for one list there is one choice
  same_one : (chosen : List Chosen) (a b : Chosen) → chosen ≡ a ∷ [] → chosen ≡ b ∷ [] → a ≡ b
  same_one chosen a b e f = let both = sym e ∙ f in cc

  pub one_image : (x y : ReplayFiles) (chosen : List Chosen) (bytes : List ℕ) → AreSameFiles x y → Agree (λ (s t : Start). s ≡ t) (IsImage x chosen bytes) (IsImage y chosen bytes)
  one_image x y chosen bytes same (Ok s) (Ok t) h k = h.verdict.1 ∙ sym k.verdict.1
  one_image x y chosen bytes same (Ok s) (Err g) h k =
      let one : k.one ≡ h.one = same_one chosen k.one h.one k.alone h.alone in
      let bad : IsFirstFault (purpose_in y h.one k.l) bytes g.kind g.at = subst (λ (c : Chosen). IsFirstFault (purpose_in y c k.l) bytes g.kind g.at) one k.verdict in
      let also = (fit (purpose_in x h.one h.l) (purpose_in y h.one k.l) bytes (purposes x y h.one bytes same h.l k.l h.layout k.layout)).0 h.verdict.0 in
      either (purpose_in y h.one k.l) bytes g.kind g.at also bad
  one_image x y chosen bytes same (Err f) (Ok t) h k =
      let one : k.one ≡ h.one = same_one chosen k.one h.one k.alone h.alone in
      let good : IsFit (purpose_in y h.one k.l) bytes = subst (λ (c : Chosen). IsFit (purpose_in y c k.l) bytes) one k.verdict.0 in
      let also = (fault (purpose_in x h.one h.l) (purpose_in y h.one k.l) bytes f.kind f.at (purposes x y h.one bytes same h.l k.l h.layout k.layout)).0 h.verdict in
      either (purpose_in y h.one k.l) bytes f.kind f.at good also
  one_image x y chosen bytes same (Err f) (Err g) h k =
      let one : k.one ≡ h.one = same_one chosen k.one h.one k.alone h.alone in
      let bad : IsFirstFault (purpose_in y h.one k.l) bytes g.kind g.at = subst (λ (c : Chosen). IsFirstFault (purpose_in y c k.l) bytes g.kind g.at) one k.verdict in
      let also = (fault (purpose_in x h.one h.l) (purpose_in y h.one k.l) bytes f.kind f.at (purposes x y h.one bytes same h.l k.l h.layout k.layout)).0 h.verdict in
      let both = refused (purpose_in y h.one k.l) bytes f.kind g.kind f.at g.at also bad in
      λ i. record { kind = both.0 i; at = both.1 i }
