-- Bytes are one object, or break one rule at one place.
use Rattle.std.proofs.Common.{◌≡◌, ℕ, List, Ok, Err}
use Rattle.cn_object.specs.Spelling.{IsFileOf}
use Rattle.cn_object.specs.Verdict.{IsBad, IsGood}
use Rattle.cn_object.specs.declared.object.Kind.{Kind}
use Rattle.cn_object.specs.declared.object.Object.{Object}
use Rattle.catnap_top.specs.Alike.{Agree}
use Rattle.catnap_top.specs.RunObject.{IsObject}

pub one_object : ((a b : Object) (bytes : List ℕ) → IsFileOf a bytes → IsFileOf b bytes → a ≡ b)
    → ((bytes : List ℕ) (kind also : Kind) (place other : ℕ) → IsBad bytes kind place → IsBad bytes also other → (kind ≡ also) × (place ≡ other))
    → ((bytes : List ℕ) (o : Object) (kind : Kind) (place : ℕ) → IsGood bytes o → ¬ IsBad bytes kind place)
    → (bytes : List ℕ) → Agree (λ (o p : Object). o ≡ p) (IsObject bytes) (IsObject bytes)
one_object same refused either bytes (Ok a) (Ok b) h k = same a b bytes h.file k.file
one_object same refused either bytes (Ok a) (Err g) h k = either bytes a g.kind g.place h k
one_object same refused either bytes (Err f) (Ok b) h k = either bytes b f.kind f.place k h
one_object same refused either bytes (Err f) (Err g) h k =
    let both = refused bytes f.kind g.kind f.place g.place h k in
    λ i. record { kind = both.0 i; place = both.1 i }
