-- From the reads to what is due.
use Rattle.std.proofs.Common.{◌≡◌, ℕ, ◌+◌, ◌<◌, ◌≤◌, List, length, map, Option, Some, Ok, Err, refl, sym, ap, subst, arith, Vec}
use Rattle.std.specs.Prelude.{IfSome}
use Rattle.std.specs.declared.alloc.Global.{Global}
use Rattle.cn_base.specs.Reading.{Files, Asked}
use Rattle.catnap_words.specs.declared.form.Form.{Form}
use Rattle.catnap_top.specs.declared.reading.ReadStop.TheVariants.{Failed, NoMemory}
use Rattle.catnap_top.specs.declared.status.Status.TheVariants as status
use Rattle.catnap_top.specs.Answer.{Answer, read_fault}
use Rattle.catnap_words.specs.Words.{form_of, names_of}
use Rattle.catnap_top.specs.Reply.{CallsFor}
use Rattle.catnap_top.specs.Reads.{ReadsInOrder, AsksInVain, Asks}
use Rattle.catnap_top.specs.Course.{outside, IsDue, of_files, of_failure, Answers, gave_up}
use Rattle.catnap_top.proofs.Cut.{form_cut}

module _ (words names : List (List ℕ)) (form : Form) (files : Option Files) (a0 a1 : Option (List Asked)) (r0 r1 : ℕ)
    (is : Some form ≡ form_of words) (same : names ≡ names_of form words) where
  pub due_failed : (w0 w1 : Option (List ℕ)) (x0 x1 count : ℕ) → ReadsInOrder names files a0 a1 r0 r1 (Err (Failed count))
      → IsDue words files (outside a0 r0 w0 x0) (outside a1 r1 w1 x1) (read_fault (count + 1))
  due_failed w0 w1 x0 x1 count read =
      let e : count + 1 ≡ 1 + count = omega arith in
      of_failure form count (sym is) (subst (λ n. count < length n) same read.0)
      (subst (λ n. AsksInVain n count a0 a1) same read.1) read.2 read.3 (ap (λ n. read_fault n) e)

  pub stopped : (w : Option (List ℕ)) (x : ℕ) → ReadsInOrder names files a0 a1 r0 r1 (Err NoMemory)
      → Answers words files (outside a0 r0 w x) (outside a1 r1 w x) status.NoMemory
  stopped w x read =
      gave_up form read.0 (sym is) (subst (λ n. read.0 ≤ length n) same read.1)
      (subst (λ n. Asks n read.0 a0 a1) same read.2) read.3 refl refl refl

  pub stopped_later : (w : Option (List ℕ)) (x : ℕ) (v : Vec (Vec ℕ Global) Global) → ReadsInOrder names files a0 a1 r0 r1 (Ok v)
      → Answers words files (outside a0 r0 w x) (outside a1 r1 w x) status.NoMemory
  stopped_later w x v read =
      let le : length names ≤ length names = omega arith in
      gave_up form (length names) (sym is) (subst (λ n. length names ≤ length n) same le)
      (subst (λ n. Asks n (length names) a0 a1) same read.1) read.2 refl refl refl

  pub due_read : (w0 w1 : Option (List ℕ)) (x0 x1 : ℕ) (v : Vec (Vec ℕ Global) Global) (due : Answer)
      → ReadsInOrder names files a0 a1 r0 r1 (Ok v) → CallsFor form (map (λ (file : Vec ℕ Global). file.items) v.items) due
      → IsDue words files (outside a0 r0 w0 x0) (outside a1 r1 w1 x1) due
  due_read w0 w1 x0 x1 v due read h =
      of_files form read.0.bytes (sym is)
      (subst (λ n. IfSome files (λ known. read.0.bytes ≡ map known n)) same read.0.told)
      (subst (λ n. Asks n (length n) a0 a1) same read.1) read.2
      (form_cut form read.0.bytes due (subst (λ b. CallsFor form b due) read.0.cut h))
