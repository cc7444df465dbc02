-- How a call goes, whatever the command.
use Rattle.std.specs.Prelude.{◌≡◌, ℕ, ◌+◌, ◌≤◌, ◌<◌, List, length, map, Option, Some, None, IfSome}
use Rattle.std.specs.Io.KnownBytes.{append_known}
use Rattle.cn_base.specs.Causes.{Rose}
use Rattle.cn_base.specs.Reading.{Files, Asked}
use Rattle.cn_base.specs.Writing.{IsCut}
use Rattle.catnap_top.specs.declared.status.Status.{Status}
use Rattle.catnap_top.specs.declared.status.Status.TheVariants.{WriteFault, NoMemory}
use Rattle.catnap_top.specs.Answer.{Answer, usage, read_fault}
use Rattle.catnap_words.specs.Words.{form_of, names_of}
use Rattle.catnap_words.specs.declared.form.Form.{Form}
use Rattle.catnap_top.specs.Reply.{CallsFor}
use Rattle.catnap_top.specs.Reads.{Asks, AsksInVain}

-- what is known of the inputs and the sink at a moment
pub record Outside : Type 0 where
  pub asked : Option (List Asked)
  pub reads : ℕ
  pub written : Option (List ℕ)
  pub writes : ℕ

abbrev pub outside : Option (List Asked) → ℕ → Option (List ℕ) → ℕ → Outside
outside asked reads written writes = record { asked = asked; reads = reads; written = written; writes = writes }

-- What is to be answered: usage; the answer to the form over the files' bytes, all of which were read;
-- or that a read failed.
pub data IsDue (words : List (List ℕ)) (files : Option Files) (before now : Outside) (due : Answer) : Type 0 where
  of_words : form_of words ≡ None → now.asked ≡ before.asked → now.reads ≡ before.reads → due ≡ usage
      → IsDue words files before now due
  of_files : (form : Form) (bytes : List (List ℕ)) → form_of words ≡ Some form
      → IfSome files (λ known. bytes ≡ map known (names_of form words))
      → Asks (names_of form words) (length (names_of form words)) before.asked now.asked
      → now.reads ≡ before.reads → CallsFor form bytes due
      → IsDue words files before now due
  of_failure : (form : Form) (count : ℕ) → form_of words ≡ Some form
      → count < length (names_of form words)
      → AsksInVain (names_of form words) count before.asked now.asked
      → before.reads ≤ now.reads → Rose before.reads now.reads → due ≡ read_fault (1 + count)
      → IsDue words files before now due

-- the whole text was written; or a proper prefix of it, where a write failed
pub data Ends (due : Answer) (written0 written1 : Option (List ℕ)) (writes0 writes1 : ℕ) (status : Status) : Type 0 where
  whole : status ≡ due.status → written1 ≡ append_known written0 due.text → writes1 ≡ writes0
      → Ends due written0 written1 writes0 writes1 status
  cut : status ≡ WriteFault → IsCut written0 written1 due.text → writes0 ≤ writes1 → Rose writes0 writes1
      → Ends due written0 written1 writes0 writes1 status

-- What was to be answered was written, or memory ran out before the first write.
pub data Answers (words : List (List ℕ)) (files : Option Files) (before now : Outside) (status : Status) : Type 0 where
  answered : (due : Answer) → IsDue words files before now due
      → Ends due before.written now.written before.writes now.writes status
      → Answers words files before now status
  gave_up : (form : Form) (count : ℕ) → form_of words ≡ Some form → count ≤ length (names_of form words)
      → Asks (names_of form words) count before.asked now.asked → now.reads ≡ before.reads
      → now.written ≡ before.written → now.writes ≡ before.writes → status ≡ NoMemory
      → Answers words files before now status
