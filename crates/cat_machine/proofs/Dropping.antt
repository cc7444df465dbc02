-- What an instruction that goes on leaves as it was in a task.
use Rattle.std.proofs.Common.{◌≡◌, ℕ, ◌+◌, [], ◌∷◌, length, Option, Some, None, refl, sym, ap, ◌∙◌, subst}
use Rattle.std.specs.Prelude.{nat_lt, ℤ, slice_set}
use Rattle.cat_program.specs.Value.{index_of, word_at}
use Rattle.cat_program.specs.Meaning.{raised, lowered}
use Rattle.cat_machine.specs.declared.instr.Instr.{Instr}
use Rattle.cat_machine.specs.declared.instr.Instr.TheVariants as i
use Rattle.cat_machine.specs.declared.instr.Mode.TheVariants.{Task}
use Rattle.cat_machine.specs.declared.instr.Did.{Did}
use Rattle.cat_machine.specs.declared.instr.Did.TheVariants.{Went}
use Rattle.cat_machine.specs.CodeValue.{CodeValue}
use Rattle.cat_machine.specs.Held.{Held}
use Rattle.cat_machine.specs.Machine.{Stepping, moved, stored, if_so, went, acted, on_top, on_two, is_array, ended, act, step_of, Unacted, Begun, Further}
use Rattle.cat_machine.specs.Fits.{IsBefore}
use Rattle.cat_machine.proofs.Keeps.{AllSome, if_all, top_all, two_all}
use Rattle.cat_machine.proofs.Fitting.{fetched_of}

-- the same but for the place and the stack
abbrev placed : Held → Held → Held
placed h after = record { words = h.words; posts = h.posts; place = after.place; kept = h.kept; stack = after.stack; payload = h.payload }

abbrev SameIf : Held → Did → Held → Type 0
SameIf h Went after = after ≡ placed h after
SameIf h _ after = Unit {0}

abbrev Same : Held → Stepping → Type 0
Same h s = SameIf h s.did s.after

end_same : (h : Held) (kept : Option (Option ℕ)) → AllSome (Same h) (ended Task h kept)
end_same h None = tt
end_same h (Some kept) = tt

act_same : (instr : Instr) (pc : ℕ) (h : Held) → AllSome (Same h) (act Task instr pc h)
unfolding act
act_same (i.Push n) pc h = if_all (Same h) (nat_lt (length {A = ℤ} h.stack) 32) (went (moved h (pc + 1) (n ∷ h.stack))) refl
act_same (i.Load w) pc h = if_all (Same h) (nat_lt w (length {A = ℤ} h.words)) (if_so (nat_lt (length {A = ℤ} h.stack) 32) (went (moved h (pc + 1) (word_at h.words w ∷ h.stack)))) (if_all (Same h) (nat_lt (length {A = ℤ} h.stack) 32) (went (moved h (pc + 1) (word_at h.words w ∷ h.stack))) refl)
act_same i.Payload pc h = if_all (Same h) (nat_lt (length {A = ℤ} h.stack) 32) (went (moved h (pc + 1) (h.payload ∷ h.stack))) refl
act_same (i.Signed s) pc h = top_all (Same h) h.stack _ (λ x below. refl)
act_same (i.Operate o) pc h = two_all (Same h) h.stack _ (λ x y below. refl)
act_same (i.Jump to) pc h = refl
act_same (i.JumpZero to) pc h = top_all (Same h) h.stack _ (λ x below. tt)
act_same (i.Turn to) pc h = tt
act_same (i.Begin t) pc h = if_all (Same h) (nat_lt t (length {A = ℕ} h.posts)) (acted Task (stored h h.words (lowered h.posts t) (pc + 1) h.stack)) tt
act_same i.End pc h = end_same h h.kept
act_same (i.LoadAt base len) pc h = if_all (Same h) (is_array h.words base len) (on_top h.stack (λ x' x''. went (moved h (pc + 1) (word_at h.words (base + index_of x' len) ∷ x'')))) (top_all (Same h) h.stack (λ x' x''. went (moved h (pc + 1) (word_at h.words (base + index_of x' len) ∷ x''))) (λ x below. refl))
act_same (i.Store w) pc h = if_all (Same h) (nat_lt w (length {A = ℤ} h.words)) (on_top h.stack (λ x' x''. acted Task (stored h (slice_set {A = ℤ} h.words w x') h.posts (pc + 1) x''))) (top_all (Same h) h.stack (λ x' x''. acted Task (stored h (slice_set {A = ℤ} h.words w x') h.posts (pc + 1) x'')) (λ x below. tt))
act_same (i.StoreAt base len) pc h = if_all (Same h) (is_array h.words base len) (on_two h.stack (λ x' x'' x3. acted Task (stored h (slice_set {A = ℤ} h.words (base + index_of x' len) x'') h.posts (pc + 1) x3))) (two_all (Same h) h.stack (λ x' x'' x3. acted Task (stored h (slice_set {A = ℤ} h.words (base + index_of x' len) x'') h.posts (pc + 1) x3)) (λ x y below. tt))
act_same (i.Post t) pc h = if_all (Same h) (nat_lt t (length {A = ℕ} h.posts)) (acted Task (stored h h.words (raised h.posts t) (pc + 1) h.stack)) tt
act_same (i.Out c) pc h = top_all (Same h) h.stack _ (λ x below. tt)

step_same : (code : CodeValue) (h after : Held) → step_of Task code h ≡ Some (record { did = Went; after = after }) → after ≡ placed h after
step_same code h after step =
    let found = fetched_of Task code h (record { did = Went; after = after }) step in
    subst (AllSome (Same h)) found.does (act_same found.instr found.pc h)

-- a section that has not acted has changed only the place and the stack
pub unacted_same : (code : CodeValue) (before now : Held) → Unacted code before now → now ≡ placed before now
unacted_same code before now Begun = refl
unacted_same code before now (Further {h} {after} u step) = step_same code h now step ∙ ap (λ (x : Held). placed x now) (unacted_same code before h u)

abbrev standing : Held → Option ℕ → Held
standing h from = record { words = h.words; posts = h.posts; place = from; kept = None; stack = []; payload = h.payload }

before_is : (from : Option ℕ) (h : Held) → IsBefore from h → standing h from ≡ h
before_is from h b =
    ap (λ x. let v : Held = record { words = h.words; posts = h.posts; place = x; kept = None; stack = []; payload = h.payload } in v) (sym b.place)
    ∙ ap (λ x. let v : Held = record { words = h.words; posts = h.posts; place = h.place; kept = x; stack = []; payload = h.payload } in v) (sym b.free)
    ∙ ap (λ x. let v : Held = record { words = h.words; posts = h.posts; place = h.place; kept = h.kept; stack = x; payload = h.payload } in v) (sym b.empty)

pub dropped : (code : CodeValue) (from : Option ℕ) (before now new : Held) → Unacted code before now → IsBefore from before → new ≡ standing now from → new ≡ before
dropped code from before now new u b e = e ∙ ap (λ (x : Held). standing x from) (unacted_same code before now u) ∙ before_is from before b
