-- The loops around the places of a version's code, where all loops are sound.
use Rattle.std.proofs.Common.{◌≡◌, ◌≢◌, ℕ, ◌+◌, ◌<◌, ◌≤◌, inl, inr, length, refl, sym, ◌∙◌, ap, arith}
use Rattle.std.specs.Prelude.{◌↔◌, pos, Some, None, slice_get}
use Rattle.std.proofs.lemmas.Option.{slice_get_within}
use Rattle.cat_machine.specs.declared.instr.Instr.{Instr}
use Rattle.cat_machine.specs.declared.instr.Instr.TheVariants as i
use Rattle.cat_machine.specs.CodeValue.{CodeValue}
use Rattle.cn_object.specs.Regions.{IsEntry, AreEntries, HasTargets, versions_begin, RegionAt}
use Rattle.cn_object.specs.Loops.{GoesTo, TurnsAt, IsBetween, IsRepeat, VersionLoopsAt, LoopsAt}
use Rattle.cn_object.specs.Looping.{IsInner, InnerIs}
use Rattle.cn_object.specs.Verified.{Everywhere}
use Rattle.cn_object.specs.Verdict.{LoopsHold}
use Rattle.cn_object.proofs.Spanning.{targets_exist, begins_entry}
use Rattle.cn_object.proofs.Inner.{order, split}
use Rattle.cn_object.proofs.Nesting.{Sound, turn_ahead, nests, not_back}

some_same : {X : Type 0} (x y : X) → Some x ≡ Some y → x ≡ y
some_same x y e = cc

-- code whose loops are sound
pub record Looped (code : CodeValue) : Type 0 where
  pub targets : HasTargets code
  pub entries : AreEntries code
  pub regions : Everywhere code (RegionAt code)
  pub loops : Everywhere code (LoopsAt code)

pub looped : (words : ℕ) (code : CodeValue) → LoopsHold words code → Looped code
looped words code h = record { targets = targets_exist words (length code.tasks) code h.0.0.0; entries = h.0.0.1; regions = h.0.0.2; loops = h.1 }

-- a place of a version
abbrev pub InVersions : CodeValue → ℕ → Type 0
InVersions code pc = (versions_begin code ≤ pc) × (pc < length code.instrs)

pub sound_at : (code : CodeValue) (pc : ℕ) → Looped code → InVersions code pc → VersionLoopsAt code pc
sound_at code pc l v = (l.loops pc v.1).version v.0

turn_in : (code : CodeValue) (turn end : ℕ) → Looped code → TurnsAt code turn end → InVersions code turn
turn_in code turn end l is =
    let low = slice_get_within code.instrs turn (i.Turn end) is in
    ((l.regions turn low (i.Turn end) is).turn end refl, low)

pub repeat_at : (code : CodeValue) (turn end : ℕ) → Looped code → TurnsAt code turn end → IsRepeat code turn end
repeat_at code turn end l is = (sound_at code turn l (turn_in code turn end l is)).turn end is

sound : (code : CodeValue) → Looped code → Sound code (length code.instrs)
sound code l = record { regions = l.regions; turns = λ turn end low is. sound_at code turn l (turn_in code turn end l is) }

-- ---- where instructions lead

pub next_in : (code : CodeValue) (pc : ℕ) (x : Instr) → Looped code → InVersions code pc → slice_get code.instrs pc ≡ Some x → x ≢ i.End → InVersions code (pc + 1)
next_in code pc x l v is on =
    elim (order (pc + 1) (length code.instrs)) [
      | inl h ↦ (omega (arith, v.0), h)
      | inr h ↦ absurd (let last : pc + 1 ≡ length code.instrs = omega (arith, v.1, h) in on ((l.regions pc v.1 x is).ends.1 (inr last)))
    ]

pub target_in : (code : CodeValue) (pc to : ℕ) → Looped code → InVersions code pc → GoesTo code pc to → InVersions code to
target_in code pc to l v goes = (
  ((((l.regions pc v.1 goes.0 goes.1).stays to goes.2).region (versions_begin code) (begins_entry code (omega (arith, v.0, v.1)))).0 v.0),
  l.targets pc to goes.0 goes.1 goes.2,
)

-- the same loops are around two places
pub record SameLoops (code : CodeValue) (a b : ℕ) : Type 0 where
  pub each : (turn end : ℕ) → TurnsAt code turn end → (IsBetween turn end a ↔ IsBetween turn end b)

pub same_inner : (code : CodeValue) (a b turn : ℕ) → SameLoops code a b → IsInner code a turn → IsInner code b turn
same_inner code a b turn s inner = record {
  end = inner.end;
  turns = inner.turns;
  around = (s.each turn inner.end inner.turns).0 inner.around;
  last = λ other far is x. inner.last other far is ((s.each other far is).1 x);
}

pub same_none : (code : CodeValue) (a b : ℕ) → SameLoops code a b → InnerIs code a None → InnerIs code b None
same_none code a b s none = λ turn end is x. none turn end is ((s.each turn end is).1 x)

pub ahead_same : (code : CodeValue) (pc to : ℕ) → Looped code → InVersions code pc → GoesTo code pc to → pc < to → SameLoops code pc to
ahead_same code pc to l v goes ahead = record { each = λ turn end is. (sound_at code pc l v).jump to goes turn end is (not_back code pc to turn end l.regions is ahead) }

-- an instruction that only goes on, or to a later place, and is no turn
pub record GoesOn (x : Instr) (pc : ℕ) : Type 0 where
  pub no_turn : (end : ℕ) → x ≢ i.Turn end
  pub ahead : (to : ℕ) → x ≡ i.Jump to → pc < to

pub next_same : (code : CodeValue) (pc : ℕ) (x : Instr) → Looped code → slice_get code.instrs pc ≡ Some x → GoesOn x pc → SameLoops code pc (pc + 1)
next_same code pc x l is on = record {
  each = λ turn end at. (
    λ b. (
      omega (arith, b.0),
      elim (order (pc + 1) end) [
        | inl h ↦ h
        | inr h ↦ absurd (let r = repeat_at code turn end l at in
            let place : r.last ≡ pc = omega (arith, r.just_after, h, b.1) in
            let jump : x ≡ i.Jump turn = some_same x (i.Jump turn) (sym is ∙ ap (slice_get code.instrs) (sym place) ∙ r.back) in
            let ahead = on.ahead turn jump in omega (arith, ahead, b.0))
      ],
    ),
    λ b. (split turn pc (λ h. h) (λ same. absurd (on.no_turn end (some_same x (i.Turn end) (sym is ∙ ap (slice_get code.instrs) (sym same) ∙ at)))) (λ h. absurd (omega (arith, h, b.0))), omega (arith, b.1)),
  );
}

-- a jump back is that of the innermost loop around it
pub back_inner : (code : CodeValue) (pc to : ℕ) → Looped code → InVersions code pc → slice_get code.instrs pc ≡ Some (i.Jump to) → to ≤ pc → IsInner code pc to
back_inner code pc to l v is low =
    let back = (sound_at code pc l v).back to is low in
    let r = repeat_at code to back.0 l back.1 in
    let here : pc ≡ r.last = r.only pc (i.Jump to, is, refl) in
    let end : back.0 ≡ pc + 1 = omega (arith, here, r.just_after) in
    let before : to < pc = split to pc (λ h. h) (λ same. absurd (let clash : Some (i.Jump to) ≡ Some (i.Turn back.0) = sym is ∙ ap (slice_get code.instrs) (sym same) ∙ back.1 in cc)) (λ h. omega (arith, h, low)) in
    record {
      end = back.0;
      turns = back.1;
      around = (before, omega (arith, end));
      last = λ other far at b. elim (order to other) [
        | inl h ↦ absurd (let inner = nests code (length code.instrs) to back.0 other far (sound code l) back.1 at (slice_get_within code.instrs other (i.Turn far) at) (h, omega (arith, b.0, end)) in omega (arith, inner, end, b.1))
        | inr h ↦ h
      ];
    }

-- a turn's loop is the innermost around the next place
pub turn_inner : (code : CodeValue) (pc end : ℕ) → Looped code → TurnsAt code pc end → IsInner code (pc + 1) pc
turn_inner code pc end l is =
    let r = repeat_at code pc end l is in
    let ahead = turn_ahead code pc end l.regions is in
    let later : pc + 1 < end = split pc r.last (λ h. omega (arith, h, r.just_after)) (λ same. absurd (let clash : Some (i.Turn end) ≡ Some (i.Jump pc) = sym is ∙ ap (slice_get code.instrs) same ∙ r.back in cc)) (λ h. absurd (omega (arith, h, ahead, r.just_after))) in
    record {
      end = end;
      turns = is;
      around = (omega arith, later);
      last = λ other far at b. omega (arith, b.0);
    }

pub entry_none : (code : CodeValue) (pc : ℕ) → Looped code → IsEntry code pc → InnerIs code pc None
entry_none code pc l entry =
    λ turn end is b.
    let low = slice_get_within code.instrs turn (i.Turn end) is in
    let same = ((l.regions turn low (i.Turn end) is).stays end refl).region pc entry in
    let before : pc ≤ turn = same.1 (omega (arith, b.1)) in omega (arith, before, b.0)

pub end_none : (code : CodeValue) (pc : ℕ) → Looped code → slice_get code.instrs pc ≡ Some i.End → InnerIs code pc None
end_none code pc l is =
    λ turn end at b.
    let low = slice_get_within code.instrs turn (i.Turn end) at in
    let far : end < length code.instrs = l.targets turn end (i.Turn end) at refl in
    elim ((l.regions pc (slice_get_within code.instrs pc i.End is) i.End is).ends.0 refl) [
      | inl entry ↦ (let same = ((l.regions turn low (i.Turn end) at).stays end refl).region (pc + 1) entry in
          let before : pc + 1 ≤ turn = same.1 (omega (arith, b.1)) in omega (arith, before, b.0))
      | inr whole ↦ omega (arith, whole, far, b.1)
    ]

pub inner_same : (code : CodeValue) (pc a b : ℕ) → IsInner code pc a → IsInner code pc b → a ≡ b
inner_same code pc a b x y = let up = y.last a x.end x.turns x.around in let down = x.last b y.end y.turns y.around in omega (arith, up, down)

-- ---- where a turn stands

-- nothing goes on to a turn but the push before it, and nothing goes ahead to it
pub turn_pushed : (code : CodeValue) (pc end : ℕ) (x : Instr) → Looped code → slice_get code.instrs pc ≡ Some x → TurnsAt code (pc + 1) end → (n : ℕ) × (n ≤ 1000) × (x ≡ i.Push (pos n))
turn_pushed code pc end x l is at =
    let r = repeat_at code (pc + 1) end l at in
    let place : r.before ≡ pc = omega (arith, r.just_before) in
    (r.turns, r.few, some_same x (i.Push (pos r.turns)) (sym is ∙ ap (slice_get code.instrs) (sym place) ∙ r.pushed))

pub no_turn_ahead : (code : CodeValue) (pc to : ℕ) → Looped code → GoesTo code pc to → pc < to → (end : ℕ) → TurnsAt code to end → ⊥
no_turn_ahead code pc to l goes ahead end at =
    let r = repeat_at code to end l at in
    let here = r.only pc goes in
    let on = turn_ahead code to end l.regions at in
    omega (arith, here, r.just_after, on, ahead)
