-- What the words and the files call for. Each command adds a case to both definitions.
use Rattle.std.specs.Prelude.{ℕ, List, [], Some, None, get_or}
use Rattle.catnap_words.specs.declared.form.Form.{Form}
use Rattle.catnap_words.specs.declared.form.Form.TheVariants.{Run, List as Listing, Check, CheckForecast, Plan, Replay, ReplayForecast, Image, Resume, Uplink, Object, RunObject, Bench}
use Rattle.catnap_top.specs.declared.reply.Reply.{Reply}
use Rattle.catnap_top.specs.declared.reply.Reply.TheVariants as reply
use Rattle.catnap_top.specs.Answer.{Answer, usage, read_fault}
use Rattle.catnap_top.specs.Faults.{fault_answer}
use Rattle.catnap_top.specs.Look.{Look, ComesTo}
use Rattle.catnap_top.specs.Run.{running}
use Rattle.catnap_top.specs.ReadyValue.{ready_answer}
use Rattle.catnap_top.specs.Listed.{listing, listed}
use Rattle.catnap_top.specs.Object.{compiling, filed}
use Rattle.catnap_top.specs.RunObject.{running_object}
use Rattle.catnap_top.specs.Loaded.{CanRun, loaded_answer}
use Rattle.catnap_top.specs.Check.{checking, checking_rows, checked}
use Rattle.catnap_top.specs.SelectedValue.{SelectedValue}
use Rattle.catnap_top.specs.Plan.{planning, planned}
use Rattle.catnap_top.specs.Replay.{replaying}
use Rattle.catnap_top.specs.Replayed.{lived_of, replayed_answer, IsReadyToTell}
use Rattle.catnap_top.specs.Image.{saving, saved}
use Rattle.catnap_top.specs.Resume.{resuming}
use Rattle.catnap_top.specs.Resumed.{CanTellRest, resumed_answer}
use Rattle.catnap_top.specs.Bench.{benching, summed}
use Rattle.catnap_top.specs.Uplink.{uplinking}
use Rattle.catnap_top.specs.Uplinked.{uplinked_answer}

-- the looks of a form at the bytes of its files in order
abbrev pub looks_of : Form → List (List ℕ) → Look Answer
looks_of (Run steps) files = running steps (get_or files 0 [])
looks_of Listing files = listing (get_or files 0 [])
looks_of Object files = compiling (get_or files 0 [])
looks_of Check files = checking (get_or files 0 []) (get_or files 1 [])
looks_of CheckForecast files = checking_rows (get_or files 0 []) (get_or files 1 []) (get_or files 2 [])
looks_of Plan files = planning (get_or files 0 []) (get_or files 1 [])
looks_of Replay files = replaying (get_or files 0 []) (get_or files 1 []) (get_or files 2 []) (get_or files 3 []) (get_or files 4 []) None
looks_of ReplayForecast files =
    replaying (get_or files 0 []) (get_or files 1 []) (get_or files 2 []) (get_or files 3 []) (get_or files 4 []) (Some (get_or files 5 []))
looks_of Image files = saving (get_or files 0 []) (get_or files 1 []) (get_or files 2 []) (get_or files 3 []) (get_or files 4 [])
looks_of Resume files =
    resuming (get_or files 0 []) (get_or files 1 []) (get_or files 2 []) (get_or files 3 []) (get_or files 4 []) (get_or files 5 [])
looks_of (RunObject steps) files = running_object steps (get_or files 0 [])
looks_of (Bench size) files = benching size
looks_of Uplink files =
    uplinking (get_or files 0 []) (get_or files 1 []) (get_or files 2 []) (get_or files 3 []) (get_or files 4 []) (get_or files 5 [])

-- the answer to a form over the bytes of its files in order
abbrev pub CallsFor : Form → List (List ℕ) → Answer → Type 0
CallsFor form files due = ComesTo (looks_of form files) due

abbrev pub selected_answer : SelectedValue → Answer
selected_answer selected = checked selected.program selected.given selected.rows selected.chosen

-- the answer that a value of the code stands for
abbrev pub reply_answer : Reply → Answer
reply_answer reply.Usage = usage
reply_answer (reply.ReadFault place) = read_fault place
reply_answer (reply.Refused why) = fault_answer why
reply_answer (reply.Run ready) = ready_answer ready
reply_answer (reply.List compiled) = listed compiled.program
reply_answer (reply.Object file) = filed file.items
reply_answer (reply.Check selected) = selected_answer selected
reply_answer (reply.Plan given) = planned given.program given.plan
reply_answer (reply.Replay replayed) = replayed_answer replayed
reply_answer (reply.Image replayed) = saved (lived_of replayed)
reply_answer (reply.Resume resumed) = resumed_answer resumed
reply_answer (reply.RunObject loaded) = loaded_answer loaded
reply_answer (reply.Bench size replayed) = summed size (lived_of replayed)
reply_answer (reply.Uplink uplinked) = uplinked_answer uplinked

-- what has to be true for it to be written
abbrev pub CanBeWritten : Reply → Type 0
CanBeWritten (reply.Replay replayed) = IsReadyToTell replayed
CanBeWritten (reply.Bench size replayed) = IsReadyToTell replayed
CanBeWritten (reply.Resume resumed) = CanTellRest resumed
CanBeWritten (reply.RunObject loaded) = CanRun loaded
CanBeWritten _ = Unit {0}
