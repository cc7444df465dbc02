-- Sound loops nest: the innermost one tells of all.
use Rattle.std.proofs.Common.{◌≡◌, ℕ, ◌+◌, ◌<◌, ◌≤◌, inl, inr, refl, sym, ◌∙◌, ap, subst, arith}
use Rattle.std.specs.Prelude.{Option, Some, None, slice_get}
use Rattle.std.proofs.lemmas.Option.{slice_get_within}
use Rattle.cat_machine.specs.declared.instr.Instr.{Instr}
use Rattle.cat_machine.specs.declared.instr.Instr.TheVariants as i
use Rattle.cat_machine.specs.CodeValue.{CodeValue}
use Rattle.cn_object.specs.Operands.{target_of}
use Rattle.cn_object.specs.Regions.{RegionAt}
use Rattle.cn_object.specs.Depths.{taken, IsDepth}
use Rattle.cn_object.specs.Loops.{GoesTo, TurnsAt, IsBetween, IsBackOf, CrossesNone, VersionLoopsAt, LoopsAt}
use Rattle.cn_object.specs.Looping.{InnerIs, AllJumpWell, TurnsWell, TakesAboveAt}
use Rattle.cn_object.specs.Verified.{Everywhere}
use Rattle.cn_object.proofs.Inner.{order, split, turns_same}

some_same : {X : Type 0} (x y : X) → Some x ≡ Some y → x ≡ y
some_same x y e = cc

-- a turn goes on to a later place
pub turn_ahead : (code : CodeValue) (turn end : ℕ) → Everywhere code (RegionAt code) → TurnsAt code turn end → turn < end
turn_ahead code turn end regions is =
    elim (order turn end) [
      | inl h ↦ h
      | inr h ↦ absurd (let back : i.Turn end ≡ i.Jump end = (regions turn (slice_get_within code.instrs turn (i.Turn end) is) (i.Turn end) is).forward end refl h in cc)
    ]

-- the turns before a place are sound
pub record Sound (code : CodeValue) (pc : ℕ) : Type 0 where
  pub regions : Everywhere code (RegionAt code)
  pub turns : (turn end : ℕ) → turn < pc → TurnsAt code turn end → VersionLoopsAt code turn

pub sound_before : (code : CodeValue) (pc : ℕ) → Everywhere code (RegionAt code) → ((q : ℕ) → q < pc → LoopsAt code q) → Sound code pc
sound_before code pc regions before = record {
  regions = regions;
  turns = λ turn end h is. (before turn h).version ((regions turn (slice_get_within code.instrs turn (i.Turn end) is) (i.Turn end) is).turn end refl);
}

-- a loop within another ends before it
pub nests : (code : CodeValue) (pc outer far turn end : ℕ) → Sound code pc → TurnsAt code outer far → TurnsAt code turn end → turn < pc → IsBetween outer far turn → end < far
nests code pc outer far turn end s out is h b =
    let goes : GoesTo code turn end = (i.Turn end, is, refl) in
    let ahead = turn_ahead code turn end s.regions is in
    let cross = (s.turns turn end h is).jump end goes outer far out (λ back. let a : end ≡ outer = back.1 in let low : outer < turn = b.0 in omega (arith, a, low, ahead)) in
    (cross.0 b).1

-- a jump forward is no loop's own
pub not_back : (code : CodeValue) (pc to turn end : ℕ) → Everywhere code (RegionAt code) → TurnsAt code turn end → pc < to → ¬ IsBackOf turn end pc to
not_back code pc to turn end regions is ahead = λ back. let on = turn_ahead code turn end regions is in let a : end ≡ pc + 1 = back.0 in let b : to ≡ turn = back.1 in omega (arith, on, a, b, ahead)

-- the same loop is innermost at both ends of a jump forward: so all loops are around both or none
pub same_crosses : (code : CodeValue) (pc to : ℕ) (o : Option ℕ) → Sound code pc → pc < to → InnerIs code pc o → InnerIs code to o → CrossesNone code pc to
same_crosses code pc to None s ahead here there = λ turn end is back. (λ b. absurd (here turn end is b), λ b. absurd (there turn end is b))
same_crosses code pc to (Some inner) s ahead here there =
    λ turn end is back. (
      λ b. (
        omega (arith, b.0, ahead),
        split turn inner
            (λ h. let far = nests code pc turn end inner there.end s is there.turns here.around.0 (h, omega (arith, b.1, here.around.0)) in omega (arith, far, there.around.1))
            (λ same. let e : end ≡ there.end = turns_same code turn end there.end is (subst (λ t. TurnsAt code t there.end) (sym same) there.turns) in omega (arith, e, there.around.1))
            (λ h. absurd (let low = here.last turn end is b in omega (arith, low, h))),
      ),
      λ b. (let low = there.last turn end is b in omega (arith, low, here.around.0), omega (arith, b.1, ahead)),
    )

pub crosses_same : (code : CodeValue) (pc to : ℕ) (a b : Option ℕ) → Everywhere code (RegionAt code) → pc < to → InnerIs code pc a → InnerIs code to b → CrossesNone code pc to → b ≡ a
crosses_same code pc to None None regions ahead here there cross = refl
crosses_same code pc to None (Some v) regions ahead here there cross =
    absurd (here v there.end there.turns ((cross v there.end there.turns (not_back code pc to v there.end regions there.turns ahead)).1 there.around))
crosses_same code pc to (Some u) None regions ahead here there cross =
    absurd (there u here.end here.turns ((cross u here.end here.turns (not_back code pc to u here.end regions here.turns ahead)).0 here.around))
crosses_same code pc to (Some u) (Some v) regions ahead here there cross =
    let up : u ≤ v = there.last u here.end here.turns ((cross u here.end here.turns (not_back code pc to u here.end regions here.turns ahead)).0 here.around) in
    let down : v ≤ u = here.last v there.end there.turns ((cross v there.end there.turns (not_back code pc to v there.end regions there.turns ahead)).1 there.around) in
    let same : v ≡ u = omega (arith, up, down) in
    ap Some same

-- a jump back to a sound turn is that turn's own, and crosses no other loop
pub back_crosses : (code : CodeValue) (pc to end : ℕ) → Sound code pc → to < pc → GoesTo code pc to → TurnsAt code to end → CrossesNone code pc to
back_crosses code pc to end s low goes at =
    let repeat = (s.turns to end low at).turn end at in
    let own : end ≡ pc + 1 = let last = repeat.only pc goes in omega (arith, last, repeat.just_after) in
    λ turn far is not. split turn to
    (λ h. (
      λ b. (h, omega (arith, b.1, low)),
      λ b. (omega (arith, h, low), let on = nests code pc turn far to end s is at low b in omega (arith, on, own)),
    ))
    (λ same. let e : far ≡ end = turns_same code turn far end is (subst (λ t. TurnsAt code t end) (sym same) at) in absurd (not (omega (arith, e, own), sym same)))
    (λ h. (
      λ b. absurd (let on = nests code pc to end turn far s at is b.0 (h, omega (arith, b.0, own)) in omega (arith, on, own, b.1)),
      λ b. absurd (omega (arith, h, b.0)),
    ))

-- one that goes back to a turn
pub back_turn : (code : CodeValue) (pc to end : ℕ) → Sound code pc → to ≤ pc → GoesTo code pc to → TurnsAt code to end → CrossesNone code pc to
back_turn code pc to end s low goes at =
    split to pc (λ h. back_crosses code pc to end s h goes at)
    (λ same. absurd (let turn : goes.0 ≡ i.Turn end = some_same goes.0 (i.Turn end) (sym goes.1 ∙ ap (slice_get code.instrs) (sym same) ∙ at) in
    let to_end : end ≡ to = some_same end to (sym (ap target_of turn) ∙ goes.2) in
    let ahead = turn_ahead code to end s.regions at in
    omega (arith, ahead, to_end)))
    (λ h. absurd (omega (arith, h, low)))

-- ---- operands

pub depth_same : (code : CodeValue) (p a b : ℕ) → IsDepth code p a → IsDepth code p b → a ≡ b
depth_same code p a b x y = y.agreed a x.brought

pub takes_none : (code : CodeValue) (pc : ℕ) → InnerIs code pc None → TakesAboveAt code pc
takes_none code pc none = λ x at turn end under depth is b u d. absurd (none turn end is b)

pub takes_some : (code : CodeValue) (pc inner a d n : ℕ) (x : Instr) → Sound code pc → InnerIs code pc (Some inner) → slice_get code.instrs pc ≡ Some x → n ≡ taken x → IsDepth code inner a → IsDepth code pc d → a + n ≤ d → TakesAboveAt code pc
takes_some code pc inner a d n x s in_it at size at_turn at_place h =
    λ y other turn end under depth is b u v.
    let same : x ≡ y = some_same x y (sym at ∙ other) in
    let takes : n ≡ taken y = size ∙ ap taken same in
    let deep : depth ≡ d = depth_same code pc depth d v at_place in
    split turn inner
    (λ g. let above = (s.turns inner in_it.end in_it.around.0 in_it.turns).above (i.Turn in_it.end) turn end under a in_it.turns is (g, omega (arith, b.1, in_it.around.0)) u at_turn in
    omega (arith, above, h, takes, deep))
    (λ e. let low : under ≡ a = depth_same code inner under a (subst (λ t. IsDepth code t under) e u) at_turn in omega (arith, low, h, takes, deep))
    (λ g. absurd (let low = in_it.last turn end is b in omega (arith, low, g)))

pub takes_back : (code : CodeValue) (pc inner a d n : ℕ) (x : Instr) → InnerIs code pc (Some inner) → slice_get code.instrs pc ≡ Some x → n ≡ taken x → IsDepth code inner a → IsDepth code pc d → TakesAboveAt code pc → a + n ≤ d
takes_back code pc inner a d n x in_it at size at_turn at_place t =
    let above = t x at inner in_it.end a d in_it.turns in_it.around at_turn at_place in omega (arith, above, size)

-- ---- a place of a version

pub version_by : (code : CodeValue) (pc : ℕ) (x : Instr) → slice_get code.instrs pc ≡ Some x → AllJumpWell code pc x → TurnsWell code pc x → TakesAboveAt code pc → VersionLoopsAt code pc
version_by code pc x is jumps turns takes = record {
  turn = λ end at. turns end (some_same x (i.Turn end) (sym is ∙ at));
  back = λ to at low. (jumps to (ap target_of (some_same x (i.Jump to) (sym is ∙ at)))).0 low;
  jump = λ to goes. (jumps to (ap target_of (some_same x goes.0 (sym is ∙ goes.1)) ∙ goes.2)).1;
  above = λ y turn end under depth at. takes y at turn end under depth;
}

pub version_jumps : (code : CodeValue) (pc : ℕ) (x : Instr) → Everywhere code (RegionAt code) → slice_get code.instrs pc ≡ Some x → VersionLoopsAt code pc → AllJumpWell code pc x
version_jumps code pc x regions is v =
    λ to goes. (
      λ low. let jump : x ≡ i.Jump to = (regions pc (slice_get_within code.instrs pc x is) x is).forward to goes low in v.back to (is ∙ ap Some jump) low,
      v.jump to (x, is, goes),
    )

pub version_turns : (code : CodeValue) (pc : ℕ) (x : Instr) → slice_get code.instrs pc ≡ Some x → VersionLoopsAt code pc → TurnsWell code pc x
version_turns code pc x is v = λ end e. v.turn end (is ∙ ap Some e)

pub version_takes : (code : CodeValue) (pc : ℕ) → VersionLoopsAt code pc → TakesAboveAt code pc
version_takes code pc v = λ x at turn end under depth. v.above x turn end under depth at
