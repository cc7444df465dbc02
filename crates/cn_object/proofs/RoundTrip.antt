-- What is spelled is read again.
use Rattle.std.proofs.Common.{◌≡◌, ℕ, zero, suc, ◌+◌, ◌*◌, ◌%◌, ◌^◌, ◌<◌, ◌≤◌, ℤ, List, [], ◌∷◌, ◌++◌, length, drop, refl, sym, ◌∙◌, ap, append_assoc, arith}
use Rattle.std.specs.Prelude.{FitsSigned, Bool, true, false, map, min, if◌then◌else◌}
use Rattle.std.specs.List.{All, flat_map}
use Rattle.std.specs.Int.{w32, to_le_bytes, cast_signed, cast_unsigned}
use Rattle.std.proofs.lemmas.Nat.{from_le_bytes-to_le_bytes_2, from_le_bytes-to_le_bytes_4}
use Rattle.std.proofs.lemmas.Int.{to_z-of_z}
use Rattle.std.proofs.Math.Seq.{drop-append_seam}
use mir.ValLaws as laws
use Rattle.cat_program.specs.declared.syntax.Operator.{Operator}
use Rattle.cat_program.specs.declared.syntax.Operator.TheVariants as o
use Rattle.cat_program.specs.declared.syntax.Sign.{Sign}
use Rattle.cat_program.specs.declared.syntax.Sign.TheVariants as s
use Rattle.cat_machine.specs.declared.instr.Instr.{Instr}
use Rattle.cat_machine.specs.declared.instr.Instr.TheVariants as i
use Rattle.cn_object.specs.declared.parts.Parts.{Parts}
use Rattle.cn_object.specs.Spelling.{parts, parts_of, parts_bytes, instr_bytes, word_bytes, tasks_bytes, event_bytes, IsPlace, HasRoom, operator_number, sign_number, names_word, cut, PartsFit}
use Rattle.cn_object.specs.Operands.{HasOperands}
use Rattle.cn_object.specs.Reading.{number_of, read_numbers, read_words, read_started, read_event, after_event, read_versions, after_versions, parts_in, instr_in, read_instrs, read_parts, AreWhole}

-- ---- elements

pub all_first : {X : Type 0} (P : X → Type 0) (x : X) (xs : List X) → All P (x ∷ xs) → P x
all_first P x xs h = h 0 x (omega arith)

pub all_rest : {X : Type 0} (P : X → Type 0) (x : X) (xs : List X) → All P (x ∷ xs) → All P xs
all_rest P x xs h = λ k d l. h (suc k) d (omega arith)

pub word_small : (z : ℤ) → FitsSigned w32 z → cast_unsigned w32 z < 2 ^ 32
word_small z h = (laws.of_z_fits w32 z h).fits

-- ---- the parts of a file

pub words_spelled : (ws : List ℤ) (rest : List ℕ) → All (FitsSigned w32) ws → read_words (length ws) (flat_map word_bytes ws ++ rest) ≡ ws
words_spelled [] rest h = refl
words_spelled (z ∷ ws) rest h =
    let fits = all_first (FitsSigned w32) z ws h in
    ap (λ x. cast_signed w32 x ∷ read_words (length ws) (flat_map word_bytes ws ++ rest)) (from_le_bytes-to_le_bytes_4 (cast_unsigned w32 z) (word_small z fits))
    ∙ ap (λ x. x ∷ read_words (length ws) (flat_map word_bytes ws ++ rest)) (to_z-of_z w32 z fits)
    ∙ ap (λ xs. z ∷ xs) (words_spelled ws rest (all_rest (FitsSigned w32) z ws h))

pub words_length : (ws : List ℤ) → length (flat_map word_bytes ws) ≡ 4 * length ws
words_length [] = refl
words_length (z ∷ ws) = omega (arith, words_length ws)

pub numbers_spelled : (ns : List ℕ) (rest : List ℕ) → All IsPlace ns → read_numbers 4 (length ns) (flat_map (to_le_bytes w32) ns ++ rest) ≡ ns
numbers_spelled [] rest h = refl
numbers_spelled (n ∷ ns) rest h =
    ap (λ x. x ∷ read_numbers 4 (length ns) (flat_map (to_le_bytes w32) ns ++ rest)) (from_le_bytes-to_le_bytes_4 n (all_first IsPlace n ns h))
    ∙ ap (λ xs. n ∷ xs) (numbers_spelled ns rest (all_rest IsPlace n ns h))

pub numbers_length : (ns : List ℕ) → length (flat_map (to_le_bytes w32) ns) ≡ 4 * length ns
numbers_length [] = refl
numbers_length (n ∷ ns) = omega (arith, numbers_length ns)

pub entries_spelled : (started entries rest : List ℕ) → length started ≡ length entries → All IsPlace entries → read_numbers 8 (length entries) (drop 4 (tasks_bytes started entries ++ rest)) ≡ entries
entries_spelled [] [] rest same h = refl
entries_spelled [] (e ∷ es) rest same h = absurd (omega (arith, same))
entries_spelled (n ∷ ns) [] rest same h = refl
entries_spelled (n ∷ ns) (e ∷ es) rest same h =
    ap (λ x. x ∷ read_numbers 8 (length es) (drop 4 (tasks_bytes ns es ++ rest))) (from_le_bytes-to_le_bytes_4 e (all_first IsPlace e es h))
    ∙ ap (λ xs. e ∷ xs) (entries_spelled ns es rest (omega (arith, same)) (all_rest IsPlace e es h))

abbrev pub IsCount : ℕ → Type 0
IsCount n = n < 2 ^ 16

pub started_spelled : (started entries rest : List ℕ) → length started ≡ length entries → All IsCount started → read_started (length started) (tasks_bytes started entries ++ rest) ≡ started
started_spelled [] entries rest same h = refl
started_spelled (n ∷ ns) [] rest same h = absurd (omega (arith, same))
started_spelled (n ∷ ns) (e ∷ es) rest same h =
    ap (λ x. x ∷ read_started (length ns) (tasks_bytes ns es ++ rest)) (from_le_bytes-to_le_bytes_2 n (all_first IsCount n ns h))
    ∙ ap (λ xs. n ∷ xs) (started_spelled ns es rest (omega (arith, same)) (all_rest IsCount n ns h))

pub tasks_length : (started entries : List ℕ) → length started ≡ length entries → length (tasks_bytes started entries) ≡ 8 * length entries
tasks_length [] [] same = refl
tasks_length [] (e ∷ es) same = absurd (omega (arith, same))
tasks_length (n ∷ ns) [] same = absurd (omega (arith, same))
tasks_length (n ∷ ns) (e ∷ es) same = let k : length ns ≡ length es = omega (arith, same) in omega (arith, tasks_length ns es k)

event_rest : (entries later rest : List ℕ) → (event_bytes entries ++ later) ++ rest ≡ length entries ∷ 0 ∷ 0 ∷ 0 ∷ (flat_map (to_le_bytes w32) entries ++ (later ++ rest))
event_rest entries later rest = ap (λ xs. length entries ∷ 0 ∷ 0 ∷ 0 ∷ xs) (append_assoc (flat_map (to_le_bytes w32) entries) later rest)

event_spelled : (entries rest : List ℕ) → All IsPlace entries → read_event (length entries ∷ 0 ∷ 0 ∷ 0 ∷ (flat_map (to_le_bytes w32) entries ++ rest)) ≡ entries
event_spelled entries rest h = numbers_spelled entries rest h

event_passed : (entries rest : List ℕ) → after_event (length entries ∷ 0 ∷ 0 ∷ 0 ∷ (flat_map (to_le_bytes w32) entries ++ rest)) ≡ rest
event_passed entries rest =
    let four : 4 + 4 * length entries ≡ suc (suc (suc (suc (4 * length entries)))) = omega arith in
    ap (λ n. drop n (length entries ∷ 0 ∷ 0 ∷ 0 ∷ (flat_map (to_le_bytes w32) entries ++ rest))) four
    ∙ ap (λ n. drop n (flat_map (to_le_bytes w32) entries ++ rest)) (sym (numbers_length entries))
    ∙ drop-append_seam (flat_map (to_le_bytes w32) entries) rest

pub versions_spelled : (vs : List (List ℕ)) (rest : List ℕ) → All (All IsPlace) vs → read_versions (length vs) (flat_map event_bytes vs ++ rest) ≡ vs
versions_spelled [] rest h = refl
versions_spelled (v ∷ vs) rest h =
    ap (λ bs. read_versions (suc (length vs)) bs) (event_rest v (flat_map event_bytes vs) rest)
    ∙ ap (λ x. x ∷ read_versions (length vs) (after_event (length v ∷ 0 ∷ 0 ∷ 0 ∷ (flat_map (to_le_bytes w32) v ++ (flat_map event_bytes vs ++ rest))))) (event_spelled v (flat_map event_bytes vs ++ rest) (all_first (All IsPlace) v vs h))
    ∙ ap (λ bs. v ∷ read_versions (length vs) bs) (event_passed v (flat_map event_bytes vs ++ rest))
    ∙ ap (λ xs. v ∷ xs) (versions_spelled vs rest (all_rest (All IsPlace) v vs h))

pub versions_passed : (vs : List (List ℕ)) (rest : List ℕ) → after_versions (length vs) (flat_map event_bytes vs ++ rest) ≡ rest
versions_passed [] rest = refl
versions_passed (v ∷ vs) rest =
    ap (λ bs. after_versions (suc (length vs)) bs) (event_rest v (flat_map event_bytes vs) rest)
    ∙ ap (λ bs. after_versions (length vs) bs) (event_passed v (flat_map event_bytes vs ++ rest))
    ∙ versions_passed vs rest

-- ---- instructions

parts_spelled : (p : Parts) (rest : List ℕ) → p.b < 2 ^ 16 → p.c < 2 ^ 32 → parts_in (parts_bytes p ++ rest) ≡ p
parts_spelled p rest h k =
    ap (λ x. parts p.number p.a x (number_of (to_le_bytes w32 p.c ++ rest))) (from_le_bytes-to_le_bytes_2 p.b h)
    ∙ ap (λ x. parts p.number p.a p.b x) (from_le_bytes-to_le_bytes_4 p.c k)

record AreSmall (p : Parts) : Type 0 where
  b : p.b < 2 ^ 16
  c : p.c < 2 ^ 32

parts_small : (x : Instr) → HasRoom x → AreSmall (parts_of x)
parts_small (i.Push n) h = record { b = omega arith; c = word_small n h }
parts_small (i.Load w) h = record { b = omega arith; c = omega (arith, h) }
parts_small i.Payload h = record { b = omega arith; c = omega arith }
parts_small (i.Signed sign) h = record { b = omega arith; c = omega arith }
parts_small (i.Operate operator) h = record { b = omega arith; c = omega arith }
parts_small (i.Jump to) h = record { b = omega arith; c = h }
parts_small (i.JumpZero to) h = record { b = omega arith; c = h }
parts_small (i.Turn to) h = record { b = omega arith; c = h }
parts_small (i.Begin t) h = record { b = omega arith; c = omega arith }
parts_small i.End h = record { b = omega arith; c = omega arith }
parts_small (i.LoadAt base len) h = record { b = h.1; c = omega (arith, h.0) }
parts_small (i.Store w) h = record { b = omega arith; c = omega (arith, h) }
parts_small (i.StoreAt base len) h = record { b = h.1; c = omega (arith, h.0) }
parts_small (i.Post t) h = record { b = omega arith; c = omega arith }
parts_small (i.Out c) h = record { b = omega arith; c = omega arith }

instr_again : (x : Instr) → HasRoom x → instr_in (parts_of x) ≡ x
instr_again (i.Push n) h = ap i.Push (to_z-of_z w32 n h)
instr_again (i.Load w) h = ap i.Load (omega (arith, h))
instr_again i.Payload h = refl
instr_again (i.Signed s.Neg) h = refl
instr_again (i.Signed s.Not) h = refl
instr_again (i.Operate o.Add) h = refl
instr_again (i.Operate o.Sub) h = refl
instr_again (i.Operate o.Mul) h = refl
instr_again (i.Operate o.Div) h = refl
instr_again (i.Operate o.Rem) h = refl
instr_again (i.Operate o.Eq) h = refl
instr_again (i.Operate o.Ne) h = refl
instr_again (i.Operate o.Lt) h = refl
instr_again (i.Operate o.Le) h = refl
instr_again (i.Operate o.Gt) h = refl
instr_again (i.Operate o.Ge) h = refl
instr_again (i.Operate o.And) h = refl
instr_again (i.Operate o.Or) h = refl
instr_again (i.Jump to) h = refl
instr_again (i.JumpZero to) h = refl
instr_again (i.Turn to) h = refl
instr_again (i.Begin t) h = refl
instr_again i.End h = refl
instr_again (i.LoadAt base len) h = let low : base % 2 ^ 16 ≡ base = omega (arith, h.0) in ap (λ b. i.LoadAt b len) low
instr_again (i.Store w) h = ap i.Store (omega (arith, h))
instr_again (i.StoreAt base len) h = let low : base % 2 ^ 16 ≡ base = omega (arith, h.0) in ap (λ b. i.StoreAt b len) low
instr_again (i.Post t) h = refl
instr_again (i.Out c) h = refl

cons_head : {X : Type 0} (x y : X) (xs ys : List X) → x ∷ xs ≡ y ∷ ys → x ≡ y
cons_head x y xs ys e = cc

cons_tail : {X : Type 0} (x y : X) (xs ys : List X) → x ∷ xs ≡ y ∷ ys → xs ≡ ys
cons_tail x y xs ys e = cc

nil_cons : {X : Type 0} (x : X) (xs : List X) → [] ≡ x ∷ xs → ⊥
nil_cons x xs e = cc

-- the instructions that are read of parts, up to words that no object has
pub instrs_read : (ps : List Parts) (xs : List Instr) (rest : List ℕ) → All PartsFit ps → map cut ps ≡ map parts_of xs → All HasRoom xs → read_instrs (length xs) (flat_map parts_bytes ps ++ rest) ≡ xs
instrs_read [] [] rest fit same room = refl
instrs_read [] (x ∷ xs) rest fit same room = absurd (nil_cons (parts_of x) (map parts_of xs) same)
instrs_read (p ∷ ps) [] rest fit same room = absurd (nil_cons (cut p) (map cut ps) (sym same))
instrs_read (p ∷ ps) (x ∷ xs) rest fit same room =
    let here = all_first PartsFit p ps fit in
    let head : cut p ≡ parts_of x = cons_head (cut p) (parts_of x) (map cut ps) (map parts_of xs) same in
    let tail : map cut ps ≡ map parts_of xs = cons_tail (cut p) (parts_of x) (map cut ps) (map parts_of xs) same in
    ap (λ q. instr_in (cut q) ∷ read_instrs (length xs) (flat_map parts_bytes ps ++ rest)) (parts_spelled p (flat_map parts_bytes ps ++ rest) here.0 here.1)
    ∙ ap (λ q. instr_in q ∷ read_instrs (length xs) (flat_map parts_bytes ps ++ rest)) head
    ∙ ap (λ y. y ∷ read_instrs (length xs) (flat_map parts_bytes ps ++ rest)) (instr_again x (all_first HasRoom x xs room))
    ∙ ap (λ ys. x ∷ ys) (instrs_read ps xs rest (all_rest PartsFit p ps fit) tail (all_rest HasRoom x xs room))

pub parts_read : (ps : List Parts) (rest : List ℕ) → All PartsFit ps → read_parts (length ps) (flat_map parts_bytes ps ++ rest) ≡ ps
parts_read [] rest fit = refl
parts_read (p ∷ ps) rest fit =
    let here = all_first PartsFit p ps fit in
    ap (λ q. q ∷ read_parts (length ps) (flat_map parts_bytes ps ++ rest)) (parts_spelled p (flat_map parts_bytes ps ++ rest) here.0 here.1)
    ∙ ap (λ qs. p ∷ qs) (parts_read ps rest (all_rest PartsFit p ps fit))

all_cons : {X : Type 0} (P : X → Type 0) (x : X) (xs : List X) → P x → All P xs → All P (x ∷ xs)
all_cons P x xs p h zero d l = p
all_cons P x xs p h (suc k) d l = h k d (omega (arith, l))

-- parts that are read as instructions are whole
pub parts_whole : (ps : List Parts) (xs : List Instr) → map cut ps ≡ map parts_of xs → All HasRoom xs → All AreWhole ps
parts_whole [] xs same room = λ k d low. absurd (omega (arith, low))
parts_whole (p ∷ ps) [] same room = absurd (nil_cons (cut p) (map cut ps) (sym same))
parts_whole (p ∷ ps) (x ∷ xs) same room =
    let head : cut p ≡ parts_of x = cons_head (cut p) (parts_of x) (map cut ps) (map parts_of xs) same in
    let tail : map cut ps ≡ map parts_of xs = cons_tail (cut p) (parts_of x) (map cut ps) (map parts_of xs) same in
    let here : AreWhole p = ap (λ q. parts_of (instr_in q)) head ∙ ap parts_of (instr_again x (all_first HasRoom x xs room)) ∙ sym head in
    all_cons AreWhole p ps here (parts_whole ps xs tail (all_rest HasRoom x xs room))

-- and whole ones are
pub whole_parts : (n : ℕ) (rest : List ℕ) → All AreWhole (read_parts n rest) → map cut (read_parts n rest) ≡ map parts_of (read_instrs n rest)
whole_parts zero rest h = refl
whole_parts (suc n) rest h =
    let here : AreWhole (parts_in rest) = all_first AreWhole (parts_in rest) (read_parts n (drop 8 rest)) h in
    ap (λ q. q ∷ map cut (read_parts n (drop 8 rest))) (sym here)
    ∙ ap (λ qs. parts_of (instr_in (cut (parts_in rest))) ∷ qs) (whole_parts n (drop 8 rest) (all_rest AreWhole (parts_in rest) (read_parts n (drop 8 rest)) h))

-- ---- an instruction's own parts

cut_false : (p : Parts) → names_word p.number ≡ false → cut p ≡ p
cut_false p e = ap (λ (b : Bool). if b then parts p.number p.a p.b (min p.c 65535) else p) e

cut_true : (p : Parts) → names_word p.number ≡ true → cut p ≡ parts p.number p.a p.b (min p.c 65535)
cut_true p e = ap (λ (b : Bool). if b then parts p.number p.a p.b (min p.c 65535) else p) e

bool_cases : {P : Type 0} (b : Bool) → (b ≡ true → P) → (b ≡ false → P) → P
bool_cases true f g = f refl
bool_cases false f g = g refl

cut_own : (p : Parts) → p.c ≤ 65535 → cut p ≡ p
cut_own p h = bool_cases (names_word p.number) (λ e. let same : min p.c 65535 ≡ p.c = omega (arith, h) in cut_true p e ∙ ap (λ z. parts p.number p.a p.b z) same) (λ e. cut_false p e)

operator_names : (op : Operator) → names_word (operator_number op) ≡ false
operator_names o.Add = refl
operator_names o.Sub = refl
operator_names o.Mul = refl
operator_names o.Div = refl
operator_names o.Rem = refl
operator_names o.Eq = refl
operator_names o.Ne = refl
operator_names o.Lt = refl
operator_names o.Le = refl
operator_names o.Gt = refl
operator_names o.Ge = refl
operator_names o.And = refl
operator_names o.Or = refl

sign_names : (sign : Sign) → names_word (sign_number sign) ≡ false
sign_names s.Neg = refl
sign_names s.Not = refl

-- an instruction that has room keeps its parts
cut_of : (x : Instr) → HasRoom x → cut (parts_of x) ≡ parts_of x
cut_of (i.Push n) h = refl
cut_of (i.Load w) h = cut_own (parts_of (i.Load w)) (omega (arith, h))
cut_of i.Payload h = refl
cut_of (i.Signed sign) h = cut_false (parts_of (i.Signed sign)) (sign_names sign)
cut_of (i.Operate op) h = cut_false (parts_of (i.Operate op)) (operator_names op)
cut_of (i.Jump to) h = refl
cut_of (i.JumpZero to) h = refl
cut_of (i.Turn to) h = refl
cut_of (i.Begin t) h = refl
cut_of i.End h = refl
cut_of (i.LoadAt base len) h = cut_own (parts_of (i.LoadAt base len)) (let low : base < 2 ^ 16 = h.0 in omega (arith, low))
cut_of (i.Store w) h = cut_own (parts_of (i.Store w)) (omega (arith, h))
cut_of (i.StoreAt base len) h = cut_own (parts_of (i.StoreAt base len)) (let low : base < 2 ^ 16 = h.0 in omega (arith, low))
cut_of (i.Post t) h = refl
cut_of (i.Out c) h = refl

pub own_parts_cut : (xs : List Instr) → All HasRoom xs → map cut (map parts_of xs) ≡ map parts_of xs
own_parts_cut [] h = refl
own_parts_cut (x ∷ xs) h =
    ap (λ q. q ∷ map cut (map parts_of xs)) (cut_of x (all_first HasRoom x xs h)) ∙ ap (λ qs. parts_of x ∷ qs) (own_parts_cut xs (all_rest HasRoom x xs h))

pub own_parts_fit : (xs : List Instr) → All HasRoom xs → All PartsFit (map parts_of xs)
own_parts_fit [] h = λ k d low. absurd (omega (arith, low))
own_parts_fit (x ∷ xs) h =
    let small = parts_small x (all_first HasRoom x xs h) in
    all_cons PartsFit (parts_of x) (map parts_of xs) (small.b, small.c) (own_parts_fit xs (all_rest HasRoom x xs h))

pub own_parts_spell : (xs : List Instr) → flat_map parts_bytes (map parts_of xs) ≡ flat_map instr_bytes xs
own_parts_spell [] = refl
own_parts_spell (x ∷ xs) = ap (λ bs. parts_bytes (parts_of x) ++ bs) (own_parts_spell xs)

-- words that exist are below those that are cut
word_low : (words tasks count : ℕ) (x : Instr) → names_word (parts_of x).number ≡ true → words ≤ 1024 → HasOperands words tasks count x → (parts_of x).c < 65535
word_low words tasks count (i.Load w) e few h = omega (arith, few, h)
word_low words tasks count (i.Store w) e few h = omega (arith, few, h)
word_low words tasks count (i.LoadAt base len) e few h = let low : base + len ≤ words = h.1 in omega (arith, few, low)
word_low words tasks count (i.StoreAt base len) e few h = let low : base + len ≤ words = h.1 in omega (arith, few, low)
word_low words tasks count (i.Signed sign) e few h = absurd (let clash : false ≡ true = sym (sign_names sign) ∙ e in cc)
word_low words tasks count (i.Operate op) e few h = absurd (let clash : false ≡ true = sym (operator_names op) ∙ e in cc)
word_low words tasks count _ e few h = absurd (let clash : false ≡ true = e in cc)

whole_part : (words tasks count : ℕ) (p : Parts) (x : Instr) → words ≤ 1024 → HasOperands words tasks count x → cut p ≡ parts_of x → p ≡ parts_of x
whole_part words tasks count p x few h e = bool_cases (names_word p.number)
    (λ t. let same : parts p.number p.a p.b (min p.c 65535) ≡ parts_of x = sym (cut_true p t) ∙ e in
    let number : p.number ≡ (parts_of x).number = ap (λ (q : Parts). q.number) same in
    let word : min p.c 65535 ≡ (parts_of x).c = ap (λ (q : Parts). q.c) same in
    let low = word_low words tasks count x (ap names_word (sym number) ∙ t) few h in
    let kept : p.c ≡ min p.c 65535 = omega (arith, word, low) in
    ap (λ z. parts p.number p.a p.b z) kept ∙ same)
    (λ f. sym (cut_false p f) ∙ e)

pub parts_same : (words tasks count : ℕ) (ps : List Parts) (xs : List Instr) → words ≤ 1024 → All (HasOperands words tasks count) xs → map cut ps ≡ map parts_of xs → flat_map parts_bytes ps ≡ flat_map instr_bytes xs
parts_same words tasks count [] [] few h same = refl
parts_same words tasks count [] (x ∷ xs) few h same = absurd (nil_cons (parts_of x) (map parts_of xs) same)
parts_same words tasks count (p ∷ ps) [] few h same = absurd (nil_cons (cut p) (map cut ps) (sym same))
parts_same words tasks count (p ∷ ps) (x ∷ xs) few h same =
    let head : cut p ≡ parts_of x = cons_head (cut p) (parts_of x) (map cut ps) (map parts_of xs) same in
    let tail : map cut ps ≡ map parts_of xs = cons_tail (cut p) (parts_of x) (map cut ps) (map parts_of xs) same in
    ap (λ q. parts_bytes q ++ flat_map parts_bytes ps) (whole_part words tasks count p x few (all_first (HasOperands words tasks count) x xs h) head)
    ∙ ap (λ bs. parts_bytes (parts_of x) ++ bs) (parts_same words tasks count ps xs few (all_rest (HasOperands words tasks count) x xs h) tail)
