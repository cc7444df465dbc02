-- What each instruction leaves as it was.
use Rattle.std.proofs.Common.{◌≡◌, ℕ, ◌+◌, ◌<◌, ◌⊎◌, Bool, true, false, List, [], ◌∷◌, length, Option, Some, None, refl, sym, inl, inr, arith}
use Rattle.std.specs.Prelude.{nat_lt, if◌then◌else◌, ℤ, pos, slice_set}
use Rattle.std.specs.Int.{w32, int_wrapping_sub}
use Rattle.std.proofs.Math.ListN.{length-set}
use Rattle.cat_program.specs.Value.{index_of, is_nought, word_at}
use Rattle.cat_program.specs.Meaning.{raised, lowered}
use Rattle.cat_machine.specs.declared.instr.Instr.{Instr}
use Rattle.cat_machine.specs.declared.instr.Instr.TheVariants as i
use Rattle.cat_machine.specs.declared.instr.Mode.{Mode}
use Rattle.cat_machine.specs.declared.instr.Mode.TheVariants.{Task, Handler}
use Rattle.cat_machine.specs.declared.instr.Did.{Did}
use Rattle.cat_machine.specs.declared.instr.Did.TheVariants.{Went, Acted, Ended, Emitted}
use Rattle.cat_machine.specs.Held.{Held}
use Rattle.cat_machine.specs.Fits.{HasPlace}
use Rattle.cat_machine.specs.Machine.{Stepping, moved, stored, if_so, went, acted, on_top, on_two, is_array, ended, act}

-- the place that is kept aside, at which a handler ends
abbrev pub KeptIf : Did → Held → Held → Type 0
KeptIf Ended h after = h.kept ≡ Some after.place
KeptIf Went h after = after.kept ≡ h.kept
KeptIf Acted h after = after.kept ≡ h.kept
KeptIf (Emitted c v) h after = after.kept ≡ h.kept

-- in a task, an instruction that goes on leaves an operand, or is a jump
abbrev pub WentOn : Mode → Instr → Held → Did → Held → Type 0
WentOn Task instr h Went after = (0 < length after.stack) ⊎ ((to : ℕ) × (instr ≡ i.Jump to) × (after ≡ moved h to h.stack))
WentOn _ instr h _ after = Unit {0}

-- what goes on is at a place, and each way of ending is that of its mode
abbrev pub Lands : Mode → Did → Held → Type 0
Lands Task Ended after = ⊥
Lands Handler Acted after = ⊥
Lands Task Went after = HasPlace after
Lands Handler Went after = HasPlace after
Lands Handler (Emitted c v) after = HasPlace after
Lands _ _ after = Unit {0}

pub record Keeps (mode : Mode) (instr : Instr) (h : Held) (s : Stepping) : Type 0 where
  pub words_len : length s.after.words ≡ length h.words
  pub posts_len : length s.after.posts ≡ length h.posts
  pub kept : KeptIf s.did h s.after
  pub went : WentOn mode instr h s.did s.after
  pub lands : Lands mode s.did s.after

abbrev pub AllSome : (Stepping → Type 0) → Option Stepping → Type 0
AllSome P None = Unit {0}
AllSome P (Some s) = P s

pub if_all : (P : Stepping → Type 0) (b : Bool) (o : Option Stepping) → AllSome P o → AllSome P (if_so b o)
if_all P true o h = h
if_all P false o h = tt

pub top_all : (P : Stepping → Type 0) (stack : List ℤ) (g : ℤ → List ℤ → Option Stepping) → ((x : ℤ) (below : List ℤ) → AllSome P (g x below)) → AllSome P (on_top stack g)
top_all P [] g h = tt
top_all P (x ∷ below) g h = h x below

pub two_all : (P : Stepping → Type 0) (stack : List ℤ) (g : ℤ → ℤ → List ℤ → Option Stepping) → ((x y : ℤ) (below : List ℤ) → AllSome P (g x y below)) → AllSome P (on_two stack g)
two_all P [] g h = tt
two_all P (y ∷ []) g h = tt
two_all P (y ∷ x ∷ below) g h = h x y below

acts_all : (mode : Mode) (instr : Instr) (h after : Held) → length after.words ≡ length h.words → length after.posts ≡ length h.posts → after.kept ≡ h.kept → HasPlace after → AllSome (Keeps mode instr h) (acted mode after)
acts_all Task instr h after e d k at = record { words_len = e; posts_len = d; kept = k; went = tt; lands = tt }
acts_all Handler instr h after e d k at = record { words_len = e; posts_len = d; kept = k; went = tt; lands = at }

goes_all : (mode : Mode) (instr : Instr) (h : Held) (pc : ℕ) (x : ℤ) (below : List ℤ) → AllSome (Keeps mode instr h) (went (moved h pc (x ∷ below)))
goes_all Task instr h pc x below = record { words_len = refl; posts_len = refl; kept = refl; went = inl (omega arith); lands = (pc, refl) }
goes_all Handler instr h pc x below = record { words_len = refl; posts_len = refl; kept = refl; went = tt; lands = (pc, refl) }

handler_all : (instr : Instr) (h : Held) (pc : ℕ) (stack : List ℤ) → AllSome (Keeps Handler instr h) (went (moved h pc stack))
handler_all instr h pc stack = record { words_len = refl; posts_len = refl; kept = refl; went = tt; lands = (pc, refl) }

turn_all : (t : Bool) (instr : Instr) (h : Held) (to pc : ℕ) (x : ℤ) (below : List ℤ) → AllSome (Keeps Handler instr h) (went (if t then moved h to below else moved h pc (x ∷ below)))
turn_all true instr h to pc x below = handler_all instr h to below
turn_all false instr h to pc x below = handler_all instr h pc (x ∷ below)

end_all : (mode : Mode) (h : Held) (kept : Option (Option ℕ)) → kept ≡ h.kept → AllSome (Keeps mode i.End h) (ended mode h kept)
end_all Task h None e = record { words_len = refl; posts_len = refl; kept = e; went = tt; lands = tt }
end_all Task h (Some kept) e = tt
end_all Handler h None e = tt
end_all Handler h (Some kept) e = record { words_len = refl; posts_len = refl; kept = sym e; went = tt; lands = tt }

pub act_keeps : (mode : Mode) (instr : Instr) (pc : ℕ) (h : Held) → AllSome (Keeps mode instr h) (act mode instr pc h)
unfolding act
act_keeps mode (i.Push n) pc h = if_all (Keeps mode (i.Push n) h) (nat_lt (length {A = ℤ} h.stack) 32) (went (moved h (pc + 1) (n ∷ h.stack))) (goes_all mode (i.Push n) h (pc + 1) n h.stack)
act_keeps mode (i.Load w) pc h = if_all (Keeps mode (i.Load w) h) (nat_lt w (length {A = ℤ} h.words)) (if_so (nat_lt (length {A = ℤ} h.stack) 32) (went (moved h (pc + 1) (word_at h.words w ∷ h.stack)))) (if_all (Keeps mode (i.Load w) h) (nat_lt (length {A = ℤ} h.stack) 32) (went (moved h (pc + 1) (word_at h.words w ∷ h.stack))) (goes_all mode (i.Load w) h (pc + 1) (word_at h.words w) h.stack))
act_keeps mode i.Payload pc h = if_all (Keeps mode i.Payload h) (nat_lt (length {A = ℤ} h.stack) 32) (went (moved h (pc + 1) (h.payload ∷ h.stack))) (goes_all mode i.Payload h (pc + 1) h.payload h.stack)
act_keeps mode (i.Signed s) pc h = top_all _ h.stack _ (λ x below. goes_all mode (i.Signed s) h (pc + 1) _ below)
act_keeps mode (i.Operate o) pc h = two_all _ h.stack _ (λ x y below. goes_all mode (i.Operate o) h (pc + 1) _ below)
act_keeps Task (i.Jump to) pc h = record { words_len = refl; posts_len = refl; kept = refl; went = inr (to, refl, refl); lands = (to, refl) }
act_keeps Handler (i.Jump to) pc h = handler_all (i.Jump to) h to h.stack
act_keeps mode (i.JumpZero to) pc h = top_all _ h.stack _ (λ x below. acts_all mode (i.JumpZero to) h (moved h _ below) refl refl refl (_, refl))
act_keeps Task (i.Turn to) pc h = tt
act_keeps Handler (i.Turn to) pc h = top_all _ h.stack _ (λ x below. turn_all (is_nought x) (i.Turn to) h to (pc + 1) (int_wrapping_sub w32 x (pos 1)) below)
act_keeps mode (i.Begin t) pc h = if_all (Keeps mode (i.Begin t) h) (nat_lt t (length {A = ℕ} h.posts)) (acted mode (stored h h.words (lowered h.posts t) (pc + 1) h.stack)) (acts_all mode (i.Begin t) h (stored h h.words (lowered h.posts t) (pc + 1) h.stack) refl (length-set h.posts t _) refl (pc + 1, refl))
act_keeps mode i.End pc h = end_all mode h h.kept refl
act_keeps mode (i.LoadAt base len) pc h = if_all (Keeps mode (i.LoadAt base len) h) (is_array h.words base len) (on_top h.stack (λ x' x''. went (moved h (pc + 1) (word_at h.words (base + index_of x' len) ∷ x'')))) (top_all (Keeps mode (i.LoadAt base len) h) h.stack (λ x' x''. went (moved h (pc + 1) (word_at h.words (base + index_of x' len) ∷ x''))) (λ x below. goes_all mode (i.LoadAt base len) h (pc + 1) (word_at h.words (base + index_of x len)) below))
act_keeps mode (i.Store w) pc h = if_all (Keeps mode (i.Store w) h) (nat_lt w (length {A = ℤ} h.words)) (on_top h.stack (λ x' x''. acted mode (stored h (slice_set {A = ℤ} h.words w x') h.posts (pc + 1) x''))) (top_all (Keeps mode (i.Store w) h) h.stack (λ x' x''. acted mode (stored h (slice_set {A = ℤ} h.words w x') h.posts (pc + 1) x'')) (λ x below. acts_all mode (i.Store w) h (stored h (slice_set h.words w x) h.posts (pc + 1) below) (length-set h.words w x) refl refl (pc + 1, refl)))
act_keeps mode (i.StoreAt base len) pc h =
    if_all (Keeps mode (i.StoreAt base len) h) (is_array h.words base len) (on_two h.stack (λ x' x'' x3. acted mode (stored h (slice_set {A = ℤ} h.words (base + index_of x' len) x'') h.posts (pc + 1) x3))) (two_all (Keeps mode (i.StoreAt base len) h) h.stack (λ x' x'' x3. acted mode (stored h (slice_set {A = ℤ} h.words (base + index_of x' len) x'') h.posts (pc + 1) x3)) (λ x y below. acts_all mode (i.StoreAt base len) h (stored h (slice_set h.words (base + index_of x len) y) h.posts (pc + 1) below) (length-set h.words (base + index_of x len) y) refl refl (pc + 1, refl)))
act_keeps mode (i.Post t) pc h = if_all (Keeps mode (i.Post t) h) (nat_lt t (length {A = ℕ} h.posts)) (acted mode (stored h h.words (raised h.posts t) (pc + 1) h.stack)) (acts_all mode (i.Post t) h (stored h h.words (raised h.posts t) (pc + 1) h.stack) refl (length-set h.posts t _) refl (pc + 1, refl))
act_keeps Task (i.Out c) pc h = top_all _ h.stack _ (λ x below. record { words_len = refl; posts_len = refl; kept = refl; went = tt; lands = tt })
act_keeps Handler (i.Out c) pc h = top_all _ h.stack _ (λ x below. record { words_len = refl; posts_len = refl; kept = refl; went = tt; lands = (pc + 1, refl) })
