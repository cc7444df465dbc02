use Rattle.std.proofs.Common.{◌≡◌, ◌∙◌, sym, refl, map, List, ℕ, Bor, string_bytes, [], ◌∷◌, true, false, arith}
use Rattle.std.proofs.lemmas.Grind.{common_steps}
use Rattle.toml.proofs.Views.{Entry}
use Rattle.device_profile.specs.Profile.{has_only, is_among}
use Rattle.device_profile.proofs.extra.has_only.Goals as goal

pub returns-then-not-is_among : goal.returns-then-not-is_among
unfolding has_only
returns-then-not-is_among c =
    let (can, finite, same) = c.members.invariant in
    let e : Entry = (c.in-Some.key.now, c.in-Some._member.now) in
    let iter : c.members.key-iterator ≡ e ∷ c.next.new.self = grind (arith, common_steps) in
    let bad : is_among (string_bytes e.0) (map (λ (s : Bor (List ℕ)). s.now) c.args.names.now) ≡ false = grind (arith, common_steps) in
    sym (rw (iter, bad) refl) ∙ same

pub members-preserved : goal.members-preserved
unfolding has_only
members-preserved c =
    let (can, finite, same) = c.members.invariant in
    let e : Entry = (c.in-Some.key.now, c.in-Some._member.now) in
    let iter : c.members.key-iterator ≡ e ∷ c.next.new.self = grind (arith, common_steps) in
    let good : is_among (string_bytes e.0) (map (λ (s : Bor (List ℕ)). s.now) c.args.names.now) ≡ true = grind (arith, common_steps) in
    (tt, tt, sym (rw (iter, good) refl) ∙ same)

pub returns : goal.returns
unfolding has_only
returns c =
    let (can, finite, same) = c.members.invariant in
    let none : c.members.key-iterator ≡ [] = grind (arith, common_steps) in
    sym (rw none refl) ∙ same
