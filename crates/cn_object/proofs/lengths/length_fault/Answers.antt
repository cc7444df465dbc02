use Rattle.std.proofs.Common.{◌≡◌, ◌∙◌, List, ℕ, subst, sym, length}
use Rattle.std.specs.Prelude.{MatchOption, Option, Some, None}
use Rattle.cat_machine.specs.CodeValue.{CodeValue}
use Rattle.cn_object.specs.Regions.{version_entries}
use Rattle.cn_object.specs.Lengths.{AreLengths, AreShort, HasSoundLoops, IsFirstLong}
use Rattle.cn_object.specs.Verified.{Everywhere, ShortAt}
use Rattle.cn_object.specs.Verdict.{FailsFirst}
use Rattle.cn_object.proofs.Counting.{all_short, first_fails}
use Rattle.cn_object.proofs.lengths.length_fault.Goals as goal

found : (code : CodeValue) (lengths entries : List ℕ) (o : Option ℕ) → HasSoundLoops code → AreLengths code 0 lengths → entries ≡ version_entries code → MatchOption o (AreShort entries lengths (length entries)) (IsFirstLong entries lengths)
    → MatchOption o (Everywhere code (ShortAt code)) (λ place. FailsFirst code (ShortAt code) place)
found code lengths entries None sound are e short = all_short code lengths entries sound are e short
found code lengths entries (Some place) sound are e first = first_fails code lengths entries place sound are e first

pub returns : goal.returns
returns c =
    let lengths : AreLengths c.args.code.now 0 c.deref-2.result.now = subst (AreLengths c.args.code.now 0) (sym c.deref-2.ensures.value) c.in_ok-lengths.ensures in
    found c.args.code.now c.deref-2.result.now c.deref.result.now c.first_long.result c.requires lengths (c.deref.ensures.value ∙ c.in_ok-entries.ensures) c.first_long.ensures
