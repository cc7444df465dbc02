-- How far the parts of a move have been brought to their places.
use Rattle.std.proofs.Common.{◌≡◌, ◌≢◌, ℕ, zero, suc, ◌+◌, ◌-◌, ◌≤◌, ◌<◌, true, List, [], ◌∷◌, ◌++◌, length, map, take, drop, refl, sym, ◌∙◌, ap, subst, arith, append_assoc}
use Rattle.std.specs.Prelude.{if◌then◌else◌}
use Rattle.std.specs.List.{range_with_len}
use Rattle.std.proofs.lemmas.List.{drop-drop, append-nil}
use Rattle.std.proofs.lemmas.List.FromFn.{map-range_with_len_more}
use Rattle.nv_memory.specs.declared.entry.Op.{Op}
use Rattle.nv_memory.specs.declared.entry.Op.TheVariants.{Write}
use Rattle.nv_memory.specs.declared.board.Answer.{Answer}
use Rattle.nv_memory.specs.declared.board.Answer.TheVariants.{Done}
use Rattle.nv_memory.specs.Bytes.{written, bytes_at}
use Rattle.nv_memory.specs.Board.{State, Runs}
use Rattle.nv_memory.specs.Laws.{WritesAreLocal, RunsAreJoined}
use Rattle.checkpoint_slots.specs.Commit.{same_bytes}
use Rattle.migration.specs.Moves.{Part, missing, writes_of}

pub writes-append : (image : List ℕ) (ps qs : List Part) → writes_of image (ps ++ qs) ≡ writes_of image ps ++ writes_of image qs
writes-append image [] qs = refl
writes-append image (p ∷ ps) qs = ap (λ (ops : List Op). missing image p ++ ops) (writes-append image ps qs) ∙ sym (append_assoc (missing image p) (writes_of image ps) (writes_of image qs))

-- what stands at a part's place decides whether it is missing
pub missing_by : (one other : List ℕ) (p : Part) → bytes_at p.at (length p.bytes) one ≡ bytes_at p.at (length p.bytes) other → missing one p ≡ missing other p
missing_by one other p same = ap (λ (l : List ℕ). if same_bytes l p.bytes then [] else Write p.at p.bytes ∷ []) same

-- the same parts are missing where the same bytes stand
pub writes_by : (one other : List ℕ) (f g : ℕ → Part) (from n : ℕ) → ((i : ℕ) → i < from + n → missing one (f i) ≡ missing other (g i))
    → writes_of one (map f (range_with_len from n)) ≡ writes_of other (map g (range_with_len from n))
writes_by one other f g from zero same = refl
writes_by one other f g from (suc n) same =
    let head = same from (omega arith) in
    let tail = writes_by one other f g (from + 1) n (λ i below. same i (omega (arith, below))) in
    λ i. head i ++ tail i

writes-split : (image : List ℕ) (f : ℕ → Part) (from n m : ℕ) → writes_of image (map f (range_with_len from (n + m))) ≡ writes_of image (map f (range_with_len from n)) ++ writes_of image (map f (range_with_len (from + n) m))
writes-split image f from zero m =
    let start : from ≡ from + 0 = omega arith in
    let many : 0 + m ≡ m = omega arith in
    ap (λ (n : ℕ). writes_of image (map f (range_with_len from n))) many ∙ ap (λ (k : ℕ). writes_of image (map f (range_with_len k m))) start
writes-split image f from (suc n) m =
    let many : suc n + m ≡ suc (n + m) = omega arith in
    let start : from + 1 + n ≡ from + suc n = omega arith in
    ap (λ (n : ℕ). writes_of image (map f (range_with_len from n))) many
    ∙ ap (λ (ops : List Op). missing image (f from) ++ ops) (writes-split image f (from + 1) n m)
    ∙ sym (append_assoc (missing image (f from)) (writes_of image (map f (range_with_len (from + 1) n))) (writes_of image (map f (range_with_len (from + 1 + n) m))))
    ∙ ap (λ (k : ℕ). (missing image (f from) ++ writes_of image (map f (range_with_len (from + 1) n))) ++ writes_of image (map f (range_with_len k m))) start

-- k parts were brought over, in ascending order: what stands before the first of them, and from the next one on, is as it was
pub record IsUpto (f : ℕ → Part) (old : State) (k : ℕ) (now : State) : Type 0 where
  pub runs : Runs old (writes_of old.image (map f (range_with_len 0 k))) Done now
  pub front : take (f 0).at now.image ≡ take (f 0).at old.image
  pub back : drop (f k).at now.image ≡ drop (f k).at old.image
  pub size : length now.image ≡ length old.image
  pub on : now.on ≡ true

pub none_yet : (f : ℕ → Part) (old : State) → old.on ≡ true → IsUpto f old 0 old
none_yet f old on = record { runs = refl; front = refl; back = refl; size = refl; on = on }

module _ (writes : WritesAreLocal) (joins : RunsAreJoined) (f : ℕ → Part) (old : State) (k : ℕ) (now : State) (upto : IsUpto f old k now) where
  -- the bytes at the next part's place are as they were
  next_is : missing now.image (f k) ≡ missing old.image (f k)
  next_is = missing_by now.image old.image (f k) (ap (take (length (f k).bytes)) upto.back)

  runs_on : (answer : Answer) (new : State) → Runs now (missing now.image (f k)) answer new → Runs old (writes_of old.image (map f (range_with_len 0 (k + 1)))) answer new
  runs_on answer new run =
      let more : map f (range_with_len 0 (k + 1)) ≡ map f (range_with_len 0 k) ++ f k ∷ [] = map-range_with_len_more f 0 k k (omega arith) in
      let all : writes_of old.image (map f (range_with_len 0 (k + 1))) ≡ writes_of old.image (map f (range_with_len 0 k)) ++ missing now.image (f k) =
      ap (writes_of old.image) more ∙ writes-append old.image (map f (range_with_len 0 k)) (f k ∷ []) ∙ ap (λ (ops : List Op). writes_of old.image (map f (range_with_len 0 k)) ++ ops) (append-nil (missing old.image (f k)) ∙ sym next_is) in
      subst (λ (ops : List Op). Runs old ops answer new) (sym all) (joins.joined (writes_of old.image (map f (range_with_len 0 k))) (missing now.image (f k)) old now new answer upto.runs run)

  -- one part more
  pub one_more : (new : State) → (f 0).at ≤ (f k).at → (f k).at + length (f k).bytes ≤ (f (k + 1)).at → (f k).at + length (f k).bytes ≤ length now.image
      → Runs now (missing now.image (f k)) Done new → new.image ≡ written (f k).at (f k).bytes now.image → new.on ≡ true → IsUpto f old (k + 1) new
  one_more new first next within run image_is on =
      let p = f k in
      let next_at : ℕ = (f (k + 1)).at in
      let gap : p.at + (next_at - p.at) ≡ next_at = omega (arith, next) in
      let behind : (image : List ℕ) → drop next_at image ≡ drop (next_at - p.at) (drop p.at image) = λ image. sym (drop-drop (next_at - p.at) p.at image ∙ ap (λ (n : ℕ). drop n image) gap) in
      record {
        runs = runs_on Done new run;
        front = ap (take (f 0).at) image_is ∙ writes.front (f 0).at p.at p.bytes now.image first (omega (arith, within)) ∙ upto.front;
        back = ap (drop next_at) image_is ∙ writes.back next_at p.at p.bytes now.image next within ∙ behind now.image ∙ ap (drop (next_at - p.at)) upto.back ∙ sym (behind old.image);
        size = ap length image_is ∙ writes.size p.at p.bytes now.image within ∙ upto.size;
        on = on;
      }

  -- a part whose write was not done is the last one
  pub stopped : (n : ℕ) (answer : Answer) (new : State) → k < n → answer ≢ Done → Runs now (missing now.image (f k)) answer new → Runs old (writes_of old.image (map f (range_with_len 0 n))) answer new
  stopped n answer new below stops run =
      let rest : ℕ = n - (k + 1) in
      let all : (k + 1) + rest ≡ n = omega (arith, below) in
      let split : writes_of old.image (map f (range_with_len 0 n)) ≡ writes_of old.image (map f (range_with_len 0 (k + 1))) ++ writes_of old.image (map f (range_with_len (0 + (k + 1)) rest)) =
      ap (λ (count : ℕ). writes_of old.image (map f (range_with_len 0 count))) (sym all) ∙ writes-split old.image f 0 (k + 1) rest in
      subst (λ (ops : List Op). Runs old ops answer new) (sym split)
      (joins.stopped (writes_of old.image (map f (range_with_len 0 (k + 1)))) (writes_of old.image (map f (range_with_len (0 + (k + 1)) rest))) old new answer stops (runs_on answer new run))
