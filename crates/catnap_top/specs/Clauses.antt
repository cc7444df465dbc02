-- What a caller may rely on, one cause or promise at a time.
use Rattle.std.specs.Prelude.{◌≡◌, ℕ, ◌+◌, ◌≤◌, ◌<◌, true, List, length, map, Option, Some, None, IfSome, ◌⊎◌}
use Rattle.std.specs.Io.KnownBytes.{append_known}
use Rattle.cn_base.specs.Causes.{Rose, Rests}
use Rattle.cn_base.specs.Reading.{Files}
use Rattle.catnap_top.specs.declared.status.Status.{Status}
use Rattle.catnap_top.specs.declared.status.Status.TheVariants.{Usage, ReadFault, WriteFault, NoMemory}
use Rattle.catnap_words.specs.declared.form.Form.{Form}
use Rattle.catnap_words.specs.Words.{form_of, names_of}
use Rattle.catnap_top.specs.Answer.{Answer, is_own, read_fault}
use Rattle.catnap_top.specs.Reads.{Asks, AsksInVain}
use Rattle.catnap_top.specs.Reply.{CallsFor}
use Rattle.catnap_top.specs.Course.{Outside, Ends}

-- faults of reading and writing come only where a count rose, and none is passed over
pub record HasCauses (words : List (List ℕ)) (before now : Outside) (status : Status) : Type 0 where
  pub usage : status ≡ Usage → form_of words ≡ None
  pub read : status ≡ ReadFault → Rose before.reads now.reads
  pub read_kept : before.reads < now.reads → (status ≡ ReadFault) ⊎ (status ≡ WriteFault)
  pub write : status ≡ WriteFault → Rose before.writes now.writes
  pub write_kept : before.writes < now.writes → status ≡ WriteFault

-- Of the reads that were added only the last may have failed.
pub data AsksInOrder (names : List (List ℕ)) (before now : Outside) (status : Status) : Type 0 where
  -- the first names in order, and all of them where the files call for the status
  none_failed : (count : ℕ) → count ≤ length names → Asks names count before.asked now.asked
      → (is_own status ≡ true → count ≡ length names) → AsksInOrder names before now status
  -- the last one failed, and the fault line has its place among the words
  last_failed : (count : ℕ) → count < length names → AsksInVain names count before.asked now.asked
      → Ends (read_fault (1 + count)) before.written now.written before.writes now.writes status
      → AsksInOrder names before now status

-- which reads were asked
pub record HasAsked (words : List (List ℕ)) (before now : Outside) (status : Status) : Type 0 where
  pub no_form : form_of words ≡ None → now.asked ≡ before.asked
  pub of_form : (form : Form) → form_of words ≡ Some form → AsksInOrder (names_of form words) before now status

-- the whole of an answer that the files call for
pub record IsWhole (form : Form) (files : List (List ℕ)) (before now : Outside) (status : Status) : Type 0 where
  pub due : Answer
  pub called_for : CallsFor form files due
  pub ended : status ≡ due.status
  pub written : now.written ≡ append_known before.written due.text

-- over told files, where neither count rises, the whole answer is given, or memory ran out
abbrev pub IsComplete : List (List ℕ) → Option Files → Outside → Outside → Status → Type 0
IsComplete words files before now status =
    (form : Form) → form_of words ≡ Some form → Rests before.reads now.reads → Rests before.writes now.writes
    → IfSome files (λ known. (status ≡ NoMemory) ⊎ IsWhole form (map known (names_of form words)) before now status)
