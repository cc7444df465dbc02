-- A profile tells one device, or is refused for one kind.
use Rattle.std.proofs.Common.{◌≡◌, ℕ, List, Ok, Err, Some, refl, ap, sym, ◌∙◌, arith}
use Rattle.nv_memory.specs.declared.device.Device.{Device}
use Rattle.device_profile.specs.Profile.{profile_of}
use Rattle.device_profile.specs.Told.{profile_told}
use Rattle.device_profile.specs.Answer.{ComesTo}
use Rattle.catnap_top.specs.declared.fault.ProfileFault.{ProfileFault}
use Rattle.catnap_top.specs.declared.fault.ProfileFault.TheVariants as profile
use Rattle.catnap_top.specs.Files.{IsProfile}
use Rattle.catnap_top.specs.Alike.{Agree}

-- a text comes to one table, and so to one outcome
comes_to_one : (bytes : List ℕ) (r s : _) → ComesTo bytes r → ComesTo bytes s → r ≡ s
comes_to_one bytes r s first second =
    let some : Some first.2.0 ≡ Some second.2.0 = sym first.2.1 ∙ second.2.1 in
    let same : first.2.0 ≡ second.2.0 = cc in
    sym first.2.2 ∙ ap profile_of same ∙ second.2.2

comes_or_not : (bytes : List ℕ) (r : _) → ComesTo bytes r → IsProfile bytes (Err profile.Syntax) → ⊥
comes_or_not bytes r is none = let same = sym is.2.1 ∙ none.1 is.1 in absurd (cc)

abbrev pub OneDevice : Type 0
OneDevice = (d e : Device) → profile_told d ≡ profile_told e → d ≡ e

one_device : OneDevice → (bytes : List ℕ) (d e : Device) → IsProfile bytes (Ok d) → IsProfile bytes (Ok e) → d ≡ e
one_device law bytes d e first second = let same = comes_to_one bytes _ _ first second in law d e (cc)

device_or_not : (bytes : List ℕ) (d : Device) (kind : ProfileFault) → IsProfile bytes (Ok d) → IsProfile bytes (Err kind) → ⊥
device_or_not bytes d profile.Long first second = let short = first.0 in absurd (omega arith)
device_or_not bytes d profile.Syntax first second = comes_or_not bytes _ first second
device_or_not bytes d (profile.Missing k) first second = let same = comes_to_one bytes _ _ first second in absurd (cc)
device_or_not bytes d profile.Extra first second = let same = comes_to_one bytes _ _ first second in absurd (cc)
device_or_not bytes d (profile.Range k) first second = let same = comes_to_one bytes _ _ first second in absurd (cc)

one_bad_device : (bytes : List ℕ) (a b : ProfileFault) → IsProfile bytes (Err a) → IsProfile bytes (Err b) → a ≡ b
one_bad_device bytes profile.Long profile.Long first second = refl
one_bad_device bytes profile.Syntax profile.Syntax first second = refl
one_bad_device bytes profile.Extra profile.Extra first second = refl
one_bad_device bytes (profile.Missing k) (profile.Missing l) first second = let same = comes_to_one bytes _ _ first second in (cc)
one_bad_device bytes (profile.Range k) (profile.Range l) first second = let same = comes_to_one bytes _ _ first second in (cc)
one_bad_device bytes profile.Long profile.Syntax first second = let short = second.0 in absurd (omega arith)
one_bad_device bytes profile.Long (profile.Missing l) first second = let short = second.0 in absurd (omega arith)
one_bad_device bytes profile.Long profile.Extra first second = let short = second.0 in absurd (omega arith)
one_bad_device bytes profile.Long (profile.Range l) first second = let short = second.0 in absurd (omega arith)
one_bad_device bytes profile.Syntax profile.Long first second = let short = first.0 in absurd (omega arith)
one_bad_device bytes (profile.Missing k) profile.Long first second = let short = first.0 in absurd (omega arith)
one_bad_device bytes profile.Extra profile.Long first second = let short = first.0 in absurd (omega arith)
one_bad_device bytes (profile.Range k) profile.Long first second = let short = first.0 in absurd (omega arith)
one_bad_device bytes profile.Syntax (profile.Missing l) first second = absurd (comes_or_not bytes _ second first)
one_bad_device bytes profile.Syntax profile.Extra first second = absurd (comes_or_not bytes _ second first)
one_bad_device bytes profile.Syntax (profile.Range l) first second = absurd (comes_or_not bytes _ second first)
one_bad_device bytes (profile.Missing k) profile.Syntax first second = absurd (comes_or_not bytes _ first second)
one_bad_device bytes profile.Extra profile.Syntax first second = absurd (comes_or_not bytes _ first second)
one_bad_device bytes (profile.Range k) profile.Syntax first second = absurd (comes_or_not bytes _ first second)
one_bad_device bytes (profile.Missing k) profile.Extra first second = let same = comes_to_one bytes _ _ first second in absurd (cc)
one_bad_device bytes (profile.Missing k) (profile.Range l) first second = let same = comes_to_one bytes _ _ first second in absurd (cc)
one_bad_device bytes profile.Extra (profile.Missing l) first second = let same = comes_to_one bytes _ _ first second in absurd (cc)
one_bad_device bytes profile.Extra (profile.Range l) first second = let same = comes_to_one bytes _ _ first second in absurd (cc)
one_bad_device bytes (profile.Range k) (profile.Missing l) first second = let same = comes_to_one bytes _ _ first second in absurd (cc)
one_bad_device bytes (profile.Range k) profile.Extra first second = let same = comes_to_one bytes _ _ first second in absurd (cc)

pub one_profile : OneDevice → (bytes : List ℕ) → Agree (λ (d e : Device). d ≡ e) (IsProfile bytes) (IsProfile bytes)
one_profile law bytes (Ok d) (Ok e) first second = one_device law bytes d e first second
one_profile law bytes (Ok d) (Err g) first second = device_or_not bytes d g first second
one_profile law bytes (Err f) (Ok e) first second = device_or_not bytes e f second first
one_profile law bytes (Err f) (Err g) first second = one_bad_device bytes f g first second
