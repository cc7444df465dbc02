-- What one instruction leaves: the place, the stack, and what it did.
use Rattle.std.proofs.Common.{◌≡◌, ℕ, suc, ◌+◌, ◌⊎◌, inl, inr, ℤ, pos, List, [], ◌∷◌, length, refl, sym, ◌∙◌, ap, subst, Bool, true, false, arith}
use Rattle.std.specs.Prelude.{Option, Some, None, nat_lt, if◌then◌else◌, slice_get, slice_set}
use Rattle.std.specs.Int.{w32, int_wrapping_sub}
use Rattle.std.proofs.Math.ListN.{length-set}
use Rattle.cat_program.specs.Value.{index_of, is_nought, signed_value, operator_value, word_at}
use Rattle.cat_program.specs.Meaning.{Output, raised, lowered}
use Rattle.cat_machine.specs.declared.instr.Instr.{Instr}
use Rattle.cat_machine.specs.declared.instr.Instr.TheVariants as i
use Rattle.cat_machine.specs.declared.instr.Mode.{Mode}
use Rattle.cat_machine.specs.declared.instr.Mode.TheVariants.{Task, Handler}
use Rattle.cat_machine.specs.declared.instr.Did.{Did}
use Rattle.cat_machine.specs.declared.instr.Did.TheVariants.{Went, Acted, Ended, Emitted}
use Rattle.cat_machine.specs.Held.{Held}
use Rattle.cat_machine.specs.Machine.{Stepping, moved, stored, if_so, went, acting, acted, on_top, on_two, is_array, ended, act, goes_on}
use Rattle.cost_bounds.specs.Paths.{acts}
use Rattle.cost_bounds.specs.Pass.{is_straight}
use Rattle.cn_object.specs.Depths.{taken, given}

-- ---- the stack

-- so many operands are taken from a stack, and so many are put on it
pub record StackMoves (took gave : ℕ) (old new : List ℤ) : Type 0 where
  pub size : length new + took ≡ length old + gave
  pub same : (j : ℕ) → slice_get new (gave + j) ≡ slice_get old (took + j)

past_none : (xs : List ℤ) (j : ℕ) → slice_get xs (0 + j) ≡ slice_get xs j
past_none xs j = let same : 0 + j ≡ j = omega arith in ap (slice_get xs) same

past_one : (x : ℤ) (xs : List ℤ) (j : ℕ) → slice_get (x ∷ xs) (1 + j) ≡ slice_get xs j
past_one x xs j = let same : 1 + j ≡ suc j = omega arith in ap (slice_get (x ∷ xs)) same

past_two : (x y : ℤ) (xs : List ℤ) (j : ℕ) → slice_get (x ∷ y ∷ xs) (2 + j) ≡ slice_get xs j
past_two x y xs j = let same : 2 + j ≡ suc (suc j) = omega arith in ap (slice_get (x ∷ y ∷ xs)) same

puts : (w : ℤ) (rest : List ℤ) → StackMoves 0 1 rest (w ∷ rest)
puts w rest = record { size = omega arith; same = λ j. past_one w rest j ∙ sym (past_none rest j) }

changes : (stack : List ℤ) (x w : ℤ) (rest : List ℤ) → stack ≡ x ∷ rest → StackMoves 1 1 stack (w ∷ rest)
changes stack x w rest e = subst (λ z. StackMoves 1 1 z (w ∷ rest)) (sym e) (record { size = omega arith; same = λ j. past_one w rest j ∙ sym (past_one x rest j) })

joins : (stack : List ℤ) (x y w : ℤ) (rest : List ℤ) → stack ≡ y ∷ x ∷ rest → StackMoves 2 1 stack (w ∷ rest)
joins stack x y w rest e = subst (λ z. StackMoves 2 1 z (w ∷ rest)) (sym e) (record { size = omega arith; same = λ j. past_one w rest j ∙ sym (past_two y x rest j) })

drops : (stack : List ℤ) (x : ℤ) (rest : List ℤ) → stack ≡ x ∷ rest → StackMoves 1 0 stack rest
drops stack x rest e = subst (λ z. StackMoves 1 0 z rest) (sym e) (record { size = omega arith; same = λ j. past_none rest j ∙ sym (past_one x rest j) })

drops_two : (stack : List ℤ) (x y : ℤ) (rest : List ℤ) → stack ≡ y ∷ x ∷ rest → StackMoves 2 0 stack rest
drops_two stack x y rest e = subst (λ z. StackMoves 2 0 z rest) (sym e) (record { size = omega arith; same = λ j. past_none rest j ∙ sym (past_two y x rest j) })

pub rests : (stack : List ℤ) → StackMoves 0 0 stack stack
rests stack = record { size = omega arith; same = λ j. refl }

-- ---- what stays

pub record Stays (h new : Held) : Type 0 where
  pub words : length new.words ≡ length h.words
  pub posts : length new.posts ≡ length h.posts
  pub kept : new.kept ≡ h.kept

stays_moved : (h : Held) (pc : ℕ) (stack : List ℤ) → Stays h (moved h pc stack)
stays_moved h pc stack = record { words = refl; posts = refl; kept = refl }

-- ---- what was done

-- a task ends its section where the instruction acts, and goes on elsewhere; a handler goes on
abbrev pub GoesBy : Mode → Bool → Did → Type 0
GoesBy Task true did = goes_on Task did ≡ None
GoesBy Task false did = did ≡ Went
GoesBy Handler acts did = (outs : List Output) × (goes_on Handler did ≡ Some outs)

abbrev pub EndsBy : Mode → Held → Stepping → Type 0
EndsBy Task h s = (s.did ≡ Acted) × (s.after.place ≡ None)
EndsBy Handler h s = (s.did ≡ Ended) × (h.kept ≡ Some s.after.place)

went_goes : (mode : Mode) → GoesBy mode false Went
went_goes Task = refl
went_goes Handler = ([], refl)

acted_goes : (mode : Mode) → GoesBy mode true (acting mode)
acted_goes Task = refl
acted_goes Handler = ([], refl)

out_goes : (mode : Mode) (c : ℕ) (v : ℤ) → GoesBy mode true (Emitted c v)
out_goes Task c v = refl
out_goes Handler c v = ((c, v) ∷ [], refl)

pub data Does (mode : Mode) (pc : ℕ) (h : Held) (x : Instr) (s : Stepping) : Type 0 where
  Passes : is_straight x ≡ true → s.after.place ≡ Some (pc + 1) → StackMoves (taken x) (given x) h.stack s.after.stack → Stays h s.after → GoesBy mode (acts x) s.did → ((n : ℤ) → x ≡ i.Push n → slice_get s.after.stack 0 ≡ Some n) → Does mode pc h x s
  Jumps : (to : ℕ) → x ≡ i.Jump to → s.after.place ≡ Some to → s.after.stack ≡ h.stack → Stays h s.after → GoesBy mode false s.did → Does mode pc h x s
  Tests : (to next : ℕ) → x ≡ i.JumpZero to → (next ≡ to) ⊎ (next ≡ pc + 1) → s.after.place ≡ Some next → StackMoves 1 0 h.stack s.after.stack → Stays h s.after → GoesBy mode true s.did → Does mode pc h x s
  Leaves : (to : ℕ) (top : ℤ) → x ≡ i.Turn to → mode ≡ Handler → slice_get h.stack 0 ≡ Some top → is_nought top ≡ true → s.after.place ≡ Some to → StackMoves 1 0 h.stack s.after.stack → Stays h s.after → GoesBy mode false s.did → Does mode pc h x s
  TurnsIn : (to : ℕ) (top : ℤ) → x ≡ i.Turn to → mode ≡ Handler → slice_get h.stack 0 ≡ Some top → is_nought top ≡ false → slice_get s.after.stack 0 ≡ Some (int_wrapping_sub w32 top (pos 1)) → s.after.place ≡ Some (pc + 1) → StackMoves 1 1 h.stack s.after.stack → Stays h s.after → GoesBy mode false s.did → Does mode pc h x s
  Ends : x ≡ i.End → s.after.stack ≡ h.stack → s.after.kept ≡ None → length s.after.words ≡ length h.words → length s.after.posts ≡ length h.posts → EndsBy mode h s → Does mode pc h x s

-- ---- each instruction

abbrev AllSome : (Stepping → Type 0) → Option Stepping → Type 0
AllSome P None = Unit {0}
AllSome P (Some s) = P s

if_all : (P : Stepping → Type 0) (b : Bool) (o : Option Stepping) → AllSome P o → AllSome P (if_so b o)
if_all P true o h = h
if_all P false o h = tt

top_all : (P : Stepping → Type 0) (stack : List ℤ) (g : ℤ → List ℤ → Option Stepping) → ((x : ℤ) (below : List ℤ) → stack ≡ x ∷ below → AllSome P (g x below)) → AllSome P (on_top stack g)
top_all P [] g h = tt
top_all P (x ∷ below) g h = h x below refl

two_all : (P : Stepping → Type 0) (stack : List ℤ) (g : ℤ → ℤ → List ℤ → Option Stepping) → ((x y : ℤ) (below : List ℤ) → stack ≡ y ∷ x ∷ below → AllSome P (g x y below)) → AllSome P (on_two stack g)
two_all P [] g h = tt
two_all P (y ∷ []) g h = tt
two_all P (y ∷ x ∷ below) g h = h x y below refl

top_is : (stack : List ℤ) (x : ℤ) (below : List ℤ) → stack ≡ x ∷ below → slice_get stack 0 ≡ Some x
top_is stack x below e = ap (λ z. slice_get z 0) e

pushed_same : (n m : ℤ) → i.Push n ≡ i.Push m → Some n ≡ Some m
pushed_same n m e = let same : n ≡ m = cc in ap Some same

end_does : (mode : Mode) (pc : ℕ) (h : Held) (kept : Option (Option ℕ)) → kept ≡ h.kept → AllSome (Does mode pc h i.End) (ended mode h kept)
end_does Task pc h None e = Ends refl refl refl refl refl (refl, refl)
end_does Task pc h (Some kept) e = tt
end_does Handler pc h None e = tt
end_does Handler pc h (Some kept) e = Ends refl refl refl refl refl (refl, sym e)

turn_does : (pc to : ℕ) (h : Held) (top : ℤ) (below : List ℤ) → h.stack ≡ top ∷ below → (b : Bool) → is_nought top ≡ b
    → AllSome (Does Handler pc h (i.Turn to)) (went (if b then moved h to below else moved h (pc + 1) (int_wrapping_sub w32 top (pos 1) ∷ below)))
turn_does pc to h top below e true nought = Leaves to top refl refl (top_is h.stack top below e) nought refl (drops h.stack top below e) (stays_moved h to below) (went_goes Handler)
turn_does pc to h top below e false nought =
    TurnsIn to top refl refl (top_is h.stack top below e) nought refl refl (changes h.stack top (int_wrapping_sub w32 top (pos 1)) below e) (stays_moved h (pc + 1) (int_wrapping_sub w32 top (pos 1) ∷ below)) (went_goes Handler)

test_does : (mode : Mode) (pc to : ℕ) (h : Held) (top : ℤ) (below : List ℤ) → h.stack ≡ top ∷ below → (b : Bool) → AllSome (Does mode pc h (i.JumpZero to)) (acted mode (moved h (if b then to else pc + 1) below))
test_does mode pc to h top below e true = Tests to to refl (inl refl) refl (drops h.stack top below e) (stays_moved h to below) (acted_goes mode)
test_does mode pc to h top below e false = Tests to (pc + 1) refl (inr refl) refl (drops h.stack top below e) (stays_moved h (pc + 1) below) (acted_goes mode)

act_does : (mode : Mode) (pc : ℕ) (h : Held) (x : Instr) → AllSome (Does mode pc h x) (act mode x pc h)
unfolding act
act_does mode pc h (i.Push n) = if_all (Does mode pc h (i.Push n)) (nat_lt (length {A = ℤ} h.stack) 32) (went (moved h (pc + 1) (n ∷ h.stack))) (Passes refl refl (puts n h.stack) (stays_moved h (pc + 1) (n ∷ h.stack)) (went_goes mode) (λ m e. pushed_same n m e))
act_does mode pc h (i.Load w) = if_all (Does mode pc h (i.Load w)) (nat_lt w (length {A = ℤ} h.words)) (if_so (nat_lt (length {A = ℤ} h.stack) 32) (went (moved h (pc + 1) (word_at h.words w ∷ h.stack))))
    (if_all (Does mode pc h (i.Load w)) (nat_lt (length {A = ℤ} h.stack) 32) (went (moved h (pc + 1) (word_at h.words w ∷ h.stack))) (Passes refl refl (puts (word_at h.words w) h.stack) (stays_moved h (pc + 1) (word_at h.words w ∷ h.stack)) (went_goes mode) (λ m e. cc)))
act_does mode pc h i.Payload = if_all (Does mode pc h i.Payload) (nat_lt (length {A = ℤ} h.stack) 32) (went (moved h (pc + 1) (h.payload ∷ h.stack))) (Passes refl refl (puts h.payload h.stack) (stays_moved h (pc + 1) (h.payload ∷ h.stack)) (went_goes mode) (λ m e. cc))
act_does mode pc h (i.Signed sign) = top_all (Does mode pc h (i.Signed sign)) h.stack _ (λ x below e. Passes refl refl (changes h.stack x (signed_value sign x) below e) (stays_moved h (pc + 1) (signed_value sign x ∷ below)) (went_goes mode) (λ m d. cc))
act_does mode pc h (i.Operate operator) = two_all (Does mode pc h (i.Operate operator)) h.stack _ (λ x y below e. Passes refl refl (joins h.stack x y (operator_value operator x y) below e) (stays_moved h (pc + 1) (operator_value operator x y ∷ below)) (went_goes mode) (λ m d. cc))
act_does mode pc h (i.Jump to) = Jumps to refl refl refl (stays_moved h to h.stack) (went_goes mode)
act_does mode pc h (i.JumpZero to) = top_all (Does mode pc h (i.JumpZero to)) h.stack _ (λ x below e. test_does mode pc to h x below e (is_nought x))
act_does Task pc h (i.Turn to) = tt
act_does Handler pc h (i.Turn to) = top_all (Does Handler pc h (i.Turn to)) h.stack _ (λ x below e. turn_does pc to h x below e (is_nought x) refl)
act_does mode pc h (i.Begin t) = if_all (Does mode pc h (i.Begin t)) (nat_lt t (length {A = ℕ} h.posts)) (acted mode (stored h h.words (lowered h.posts t) (pc + 1) h.stack))
    (Passes refl refl (rests h.stack) (record { words = refl; posts = length-set h.posts t _; kept = refl }) (acted_goes mode) (λ m e. cc))
act_does mode pc h i.End = end_does mode pc h h.kept refl
act_does mode pc h (i.LoadAt base len) = if_all (Does mode pc h (i.LoadAt base len)) (is_array h.words base len) (on_top h.stack (λ x' x''. went (moved h (pc + 1) (word_at h.words (base + index_of x' len) ∷ x''))))
    (top_all (Does mode pc h (i.LoadAt base len)) h.stack (λ x' x''. went (moved h (pc + 1) (word_at h.words (base + index_of x' len) ∷ x'')))
    (λ x below e. Passes refl refl (changes h.stack x (word_at h.words (base + index_of x len)) below e) (stays_moved h (pc + 1) (word_at h.words (base + index_of x len) ∷ below)) (went_goes mode) (λ m d. cc)))
act_does mode pc h (i.Store w) = if_all (Does mode pc h (i.Store w)) (nat_lt w (length {A = ℤ} h.words)) (on_top h.stack (λ x' x''. acted mode (stored h (slice_set {A = ℤ} h.words w x') h.posts (pc + 1) x'')))
    (top_all (Does mode pc h (i.Store w)) h.stack (λ x' x''. acted mode (stored h (slice_set {A = ℤ} h.words w x') h.posts (pc + 1) x''))
    (λ x below e. Passes refl refl (drops h.stack x below e) (record { words = length-set h.words w x; posts = refl; kept = refl }) (acted_goes mode) (λ m d. cc)))
act_does mode pc h (i.StoreAt base len) = if_all (Does mode pc h (i.StoreAt base len)) (is_array h.words base len) (on_two h.stack (λ x' x'' x3. acted mode (stored h (slice_set {A = ℤ} h.words (base + index_of x' len) x'') h.posts (pc + 1) x3)))
    (two_all (Does mode pc h (i.StoreAt base len)) h.stack (λ x' x'' x3. acted mode (stored h (slice_set {A = ℤ} h.words (base + index_of x' len) x'') h.posts (pc + 1) x3))
    (λ x y below e. Passes refl refl (drops_two h.stack x y below e) (record { words = length-set h.words (base + index_of x len) y; posts = refl; kept = refl }) (acted_goes mode) (λ m d. cc)))
act_does mode pc h (i.Post t) = if_all (Does mode pc h (i.Post t)) (nat_lt t (length {A = ℕ} h.posts)) (acted mode (stored h h.words (raised h.posts t) (pc + 1) h.stack))
    (Passes refl refl (rests h.stack) (record { words = refl; posts = length-set h.posts t _; kept = refl }) (acted_goes mode) (λ m e. cc))
act_does mode pc h (i.Out c) = top_all (Does mode pc h (i.Out c)) h.stack _ (λ x below e. Passes refl refl (drops h.stack x below e) (stays_moved h (pc + 1) below) (out_goes mode c x) (λ m d. cc))

pub does : (mode : Mode) (pc : ℕ) (h : Held) (x : Instr) (s : Stepping) → act mode x pc h ≡ Some s → Does mode pc h x s
does mode pc h x s e = subst (AllSome (Does mode pc h x)) e (act_does mode pc h x)
