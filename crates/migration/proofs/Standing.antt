-- Each part stands at its place after a move's writes of them all.
use Rattle.std.proofs.Common.{◌≡◌, inl, inr, ℕ, zero, suc, ◌+◌, ◌-◌, ◌*◌, ◌≤◌, ◌<◌, Bool, true, false, List, [], ◌∷◌, ◌++◌, length, map, take, drop, refl, sym, ◌∙◌, ap, subst, arith}
use Rattle.std.specs.Prelude.{if◌then◌else◌}
use Rattle.std.specs.List.{range_with_len}
use Rattle.std.proofs.Math.Seq.{take-add}
use Rattle.std.proofs.lemmas.List.{drop-drop}
use Rattle.nv_memory.specs.declared.layout.Layout.{Layout}
use Rattle.nv_memory.specs.declared.entry.Op.{Op}
use Rattle.nv_memory.specs.declared.entry.Op.TheVariants.{Write}
use Rattle.nv_memory.specs.declared.board.Answer.TheVariants.{Done}
use Rattle.nv_memory.specs.Bytes.{bytes_at, written}
use Rattle.nv_memory.specs.Board.{State, Runs}
use Rattle.nv_memory.specs.Layout.{lines_of, log_at, record_at, record_len, slot_at, size_of}
use Rattle.nv_memory.specs.Laws.{WritesAreLocal, PartsAreApart}
use Rattle.nv_log.specs.Append.{EntriesAreSpelledOnce}
use Rattle.nv_log.specs.Record.{entry_of, record_bytes, record_of}
use Rattle.checkpoint_slots.specs.Commit.{same_bytes}
use Rattle.checkpoint_slots.specs.Image.{selected_of, slot_bytes}
use Rattle.migration.specs.Moves.{CanMove, Part, len_in, line_part, lines_in, missing, parts_of, record_part, records_of, writes_of}
use Rattle.migration.proofs.Brought.{same_bytes_true}
use Rattle.migration.proofs.Upto.{writes-append}
use Rattle.migration.proofs.Records as records
use Rattle.migration.proofs.Records.{AreReadAgain}
use Rattle.migration.proofs.Lines as lines
use Rattle.migration.proofs.Lines.{lines_same}
use Rattle.migration.proofs.Kept.{IsClear, IsKept, PartsClear, clear_writes, kept_run, run_apart}

-- bytes side by side
bytes_more : (a m n : ℕ) (xs : List ℕ) → bytes_at a (m + n) xs ≡ bytes_at a m xs ++ bytes_at (a + m) n xs
bytes_more a m n xs = take-add m n (drop a xs) ∙ ap (λ (l : List ℕ). bytes_at a m xs ++ take n l) (drop-drop m a xs)

-- ranges of lines are the same ones where each line is
lines_joined : (a b n : ℕ) (xs ys : List ℕ) → ((i : ℕ) → i < n → bytes_at (a + 64 * i) 64 xs ≡ bytes_at (b + 64 * i) 64 ys) → bytes_at a (64 * n) xs ≡ bytes_at b (64 * n) ys
lines_joined a b zero xs ys same = refl
lines_joined a b (suc n) xs ys same =
    let all : 64 * suc n ≡ 64 * n + 64 = omega arith in
    let before = lines_joined a b n xs ys (λ i below. same i (omega (arith, below))) in
    let last = same n (omega arith) in
    ap (λ (m : ℕ). bytes_at a m xs) all ∙ bytes_more a (64 * n) 64 xs ∙ (λ j. before j ++ last j) ∙ sym (ap (λ (m : ℕ). bytes_at b m ys) all ∙ bytes_more b (64 * n) 64 ys)

map-split : (f : ℕ → Part) (from n m : ℕ) → map f (range_with_len from (n + m)) ≡ map f (range_with_len from n) ++ map f (range_with_len (from + n) m)
map-split f from zero m =
    let start : from ≡ from + 0 = omega arith in
    let many : 0 + m ≡ m = omega arith in
    ap (λ (n : ℕ). map f (range_with_len from n)) many ∙ ap (λ (k : ℕ). map f (range_with_len k m)) start
map-split f from (suc n) m =
    let many : suc n + m ≡ suc (n + m) = omega arith in
    let start : from + 1 + n ≡ from + suc n = omega arith in
    ap (λ (n : ℕ). map f (range_with_len from n)) many ∙ ap (λ (ps : List Part). f from ∷ ps) (map-split f (from + 1) n m) ∙ ap (λ (k : ℕ). f from ∷ (map f (range_with_len (from + 1) n) ++ map f (range_with_len k m))) start

-- one part among others
pub part_in : (f : ℕ → Part) (n k : ℕ) → k < n → map f (range_with_len 0 n) ≡ map f (range_with_len 0 k) ++ f k ∷ map f (range_with_len (k + 1) (n - (k + 1)))
part_in f n k below =
    let rest : ℕ = n - (k + 1) in
    let all : n ≡ k + suc rest = omega (arith, below) in
    let start : 0 + k ≡ k = omega arith in
    ap (λ (count : ℕ). map f (range_with_len 0 count)) all ∙ map-split f 0 k (suc rest) ∙ ap (λ (from : ℕ). map f (range_with_len 0 k) ++ map f (range_with_len from (suc rest))) start

pub clear_map : (size a n : ℕ) (f : ℕ → Part) (from m : ℕ) → ((i : ℕ) → from ≤ i → i < from + m → IsClear size a n (f i).at (length (f i).bytes)) → PartsClear size a n (map f (range_with_len from m))
clear_map size a n f from zero each = tt
clear_map size a n f from (suc m) each = (each from (omega arith) (omega arith), clear_map size a n f (from + 1) m (λ i low high. each i (omega (arith, low)) (omega (arith, high))))

pub clear_both : (size a n : ℕ) (ps qs : List Part) → PartsClear size a n ps → PartsClear size a n qs → PartsClear size a n (ps ++ qs)
clear_both size a n [] qs one other = other
clear_both size a n (p ∷ ps) qs (clear, one) other = (clear, clear_both size a n ps qs one other)

module _ (writes : WritesAreLocal) (old new : State) (ps qs : List Part) (q : Part) (within : q.at + length q.bytes ≤ length old.image) where
  -- a part among others that leave its range alone stands after all of them
  pub stands_among : PartsClear (length old.image) q.at (length q.bytes) ps → PartsClear (length old.image) q.at (length q.bytes) qs → Runs old (writes_of old.image (ps ++ q ∷ qs)) Done new
      → bytes_at q.at (length q.bytes) new.image ≡ q.bytes
  stands_among before behind run =
      let (one, first, late) = run_apart (writes_of old.image ps) (writes_of old.image (q ∷ qs)) old new (subst (λ (ops : List Op). Runs old ops Done new) (writes-append old.image ps (q ∷ qs)) run) in
      let (two, own, last) = run_apart (missing old.image q) (writes_of old.image qs) one new late in
      let k1 = kept_run writes q.at (length q.bytes) (writes_of old.image ps) old one Done (clear_writes (length old.image) q.at (length q.bytes) old.image ps before) first in
      let is = same_bytes (bytes_at q.at (length q.bytes) old.image) q.bytes in
      let mid = brought one two k1 is refl own in
      let k3 = kept_run writes q.at (length q.bytes) (writes_of old.image qs) two new Done (clear_writes (length two.image) q.at (length q.bytes) old.image qs (subst (λ (size : ℕ). PartsClear size q.at (length q.bytes) qs) (sym mid.1) behind)) last in
      k3.bytes ∙ mid.0
    where
      brought : (one two : State) → IsKept q.at (length q.bytes) old.image one.image → (b : Bool) → same_bytes (bytes_at q.at (length q.bytes) old.image) q.bytes ≡ b
          → Runs one (if b then [] else Write q.at q.bytes ∷ []) Done two → (bytes_at q.at (length q.bytes) two.image ≡ q.bytes) × (length two.image ≡ length old.image)
      brought one two kept true is run =
          (ap (λ (s : State). bytes_at q.at (length q.bytes) s.image) run ∙ kept.bytes ∙ same_bytes_true (bytes_at q.at (length q.bytes) old.image) q.bytes is, ap (λ (s : State). length s.image) run ∙ kept.size)
      brought one two kept false is (inl stops) = absurd stops
      brought one two kept false is (inr (end, done, same)) =
          let image_is : two.image ≡ written q.at q.bytes one.image = ap (λ (s : State). s.image) same ∙ ap (λ (s : State). s.image) done.becomes in
          let fits : q.at + length q.bytes ≤ length one.image = omega (arith, kept.size, within) in
          (ap (bytes_at q.at (length q.bytes)) image_is ∙ writes.own q.at q.bytes one.image fits, ap length image_is ∙ writes.size q.at q.bytes one.image fits ∙ kept.size)

module _ (writes : WritesAreLocal) (parts : (l : Layout) → PartsAreApart l) (spelled : EntriesAreSpelledOnce) (again : AreReadAgain) (old new : Layout) (start : State) (can : CanMove old new start.image) where
  abbrev image : List ℕ
  image = start.image

  abbrev s : ℕ
  s = selected_of image

  few : selected_of image ≤ 1
  few = omega arith

  -- where records and lines are
  record_low : (k : ℕ) → log_at new ≤ (record_part old new image k).at
  record_low k = (parts new).begin k

  line_low : (i : ℕ) → size_of old ≤ (line_part old new image i).at
  line_low i = omega (arith, can.layouts.behind)

  line_size : (i : ℕ) → i < lines_of old → length (line_part old new image i).bytes ≡ 64
  line_size i below = lines.long writes parts old new image can.layouts can.size s refl few i below

  line_high : (i : ℕ) → i < lines_of old → (line_part old new image i).at + 64 ≤ log_at new
  line_high i below = omega (arith, below, lines_same old new can.layouts, (parts new).log s few)

  record_within : (k : ℕ) → k < len_in old image → (record_part old new image k).at + length (record_part old new image k).bytes ≤ length image
  record_within k below = records.within writes parts spelled again old new image can k below

  record_size : (k : ℕ) → k < len_in old image → length (record_part old new image k).bytes ≡ record_len new
  record_size k below = records.long writes parts spelled again old new image can k below

  line_within : (i : ℕ) → i < lines_of old → (line_part old new image i).at + length (line_part old new image i).bytes ≤ length image
  line_within i below = lines.within writes parts old new image can.layouts can.size s refl few i below

  -- what lies in the image of the first format is left alone
  pub clear_old : (a n : ℕ) → a + n ≤ size_of old → PartsClear (length image) a n (parts_of old new image)
  clear_old a n low =
      clear_both (length image) a n (records_of old new image) (lines_in old new image)
      (clear_map (length image) a n (record_part old new image) 0 (len_in old image) (λ k from below. let at : k < len_in old image = omega (arith, below) in
      (record_within k at, inl (omega (arith, low, record_low k, records.old_before old new can.layouts (size_of old) (omega arith))))))
      (clear_map (length image) a n (line_part old new image) 0 (lines_of old) (λ i from below. let at : i < lines_of old = omega (arith, below) in (line_within i at, inl (omega (arith, low, line_low i)))))

  module _ (mid : State) (run : Runs start (writes_of image (parts_of old new image)) Done mid) where
    -- a record
    pub record_stands : (k : ℕ) → k < len_in old image → record_bytes new k mid.image ≡ record_of new (entry_of old (record_bytes old k image))
    record_stands k below =
        let f = record_part old new image in
        let q = f k in
        let n = length q.bytes in
        let long = record_size k below in
        let before = map f (range_with_len 0 k) in
        let behind = map f (range_with_len (k + 1) (len_in old image - (k + 1))) in
        let all : parts_of old new image ≡ before ++ q ∷ (behind ++ lines_in old new image) = ap (λ (ps : List Part). ps ++ lines_in old new image) (part_in f (len_in old image) k below) ∙ assoc before q behind (lines_in old new image) in
        let clear_before = clear_map (length image) q.at n f 0 k (λ j from less. let at : j < len_in old image = omega (arith, less, below) in
        (record_within j at, inr (omega (arith, record_size j at, (parts new).records j k (omega (arith, less)))))) in
        let clear_behind = clear_map (length image) q.at n f (k + 1) (len_in old image - (k + 1)) (λ j from less. let at : j < len_in old image = omega (arith, less, below, from) in
        (record_within j at, inl (omega (arith, long, (parts new).records k j (omega (arith, from)))))) in
        let clear_lines = clear_map (length image) q.at n (line_part old new image) 0 (lines_of old) (λ i from less. let at : i < lines_of old = omega (arith, less) in
        (line_within i at, inr (omega (arith, line_size i at, line_high i at, record_low k)))) in
        let stands = stands_among writes start mid before (behind ++ lines_in old new image) q (record_within k below) clear_before (clear_both (length image) q.at n behind (lines_in old new image) clear_behind clear_lines)
        (subst (λ (ps : List Part). Runs start (writes_of image ps) Done mid) all run) in
        ap (λ (len : ℕ). bytes_at (record_at new k) len mid.image) (sym long) ∙ stands
      where
        assoc : (ps : List Part) (q : Part) (qs rs : List Part) → (ps ++ q ∷ qs) ++ rs ≡ ps ++ q ∷ (qs ++ rs)
        assoc [] q qs rs = refl
        assoc (p ∷ ps) q qs rs = ap (λ (l : List Part). p ∷ l) (assoc ps q qs rs)

    -- a line of the selected slot
    line_stands : (i : ℕ) → i < lines_of old → bytes_at (slot_at new s + 64 * i) 64 mid.image ≡ bytes_at (slot_at old s + 64 * i) 64 image
    line_stands i below =
        let g = line_part old new image in
        let q = g i in
        let n = length q.bytes in
        let long = line_size i below in
        let before = map g (range_with_len 0 i) in
        let behind = map g (range_with_len (i + 1) (lines_of old - (i + 1))) in
        let all : parts_of old new image ≡ (records_of old new image ++ before) ++ q ∷ behind = ap (λ (ps : List Part). records_of old new image ++ ps) (part_in g (lines_of old) i below) ∙ assoc (records_of old new image) before (q ∷ behind) in
        let clear_records = clear_map (length image) q.at n (record_part old new image) 0 (len_in old image) (λ k from less. let at : k < len_in old image = omega (arith, less) in
        (record_within k at, inl (omega (arith, long, line_high i below, record_low k)))) in
        let clear_before = clear_map (length image) q.at n g 0 i (λ j from less. let at : j < lines_of old = omega (arith, less, below) in
        (line_within j at, inr (omega (arith, line_size j at, less)))) in
        let clear_behind = clear_map (length image) q.at n g (i + 1) (lines_of old - (i + 1)) (λ j from less. let at : j < lines_of old = omega (arith, less, below, from) in
        (line_within j at, inl (omega (arith, long, from)))) in
        let stands = stands_among writes start mid (records_of old new image ++ before) behind q (line_within i below) (clear_both (length image) q.at n (records_of old new image) before clear_records clear_before) clear_behind
        (subst (λ (ps : List Part). Runs start (writes_of image ps) Done mid) all run) in
        ap (λ (len : ℕ). bytes_at (slot_at new s + 64 * i) len mid.image) (sym long) ∙ stands
      where
        assoc : (ps qs rs : List Part) → ps ++ (qs ++ rs) ≡ (ps ++ qs) ++ rs
        assoc [] qs rs = refl
        assoc (p ∷ ps) qs rs = ap (λ (l : List Part). p ∷ l) (assoc ps qs rs)

    -- the whole slot
    pub slot_stands : slot_bytes new s mid.image ≡ slot_bytes old s image
    slot_stands = ap (λ (n : ℕ). bytes_at (slot_at new s) (64 * n) mid.image) (lines_same old new can.layouts) ∙ lines_joined (slot_at new s) (slot_at old s) (lines_of old) mid.image image line_stands
