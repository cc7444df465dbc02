-- `uplink SRC DEVICE TRACE ARRIVALS FAILS LINK`: the committed log of a replay over a link that loses, repeats and reorders.
use Rattle.std.specs.Prelude.{ℕ, List, None}
use Rattle.board_core.specs.Reached.{model_start}
use Rattle.cat_program.specs.declared.outs.LogEntry.{LogEntry}
use Rattle.cn_uplink.specs.Log.{log_of}
use Rattle.cn_uplink.specs.Table.{links_of}
use Rattle.cn_uplink.specs.Text.{IsUplinkText}
use Rattle.cn_uplink.specs.declared.link_step.LinkStep.{LinkStep}
use Rattle.recovery.specs.Past.{past_of}
use Rattle.catnap_top.specs.declared.fault.Table.TheVariants as table
use Rattle.catnap_top.specs.declared.files.ReplayFiles.{ReplayFiles}
use Rattle.catnap_top.specs.Answer.{Answer}
use Rattle.catnap_top.specs.Files.{files_in, table_in}
use Rattle.catnap_top.specs.Lives.{Lived, status_of}
use Rattle.catnap_top.specs.Look.{Look, ◌>>=◌, found, Finding}
use Rattle.catnap_top.specs.Replay.{living}

-- the steps of a link
abbrev pub links_in : List ℕ → Look (List LinkStep)
links_in bytes = table_in table.Link (links_of bytes)

-- what a life has committed in the end
abbrev pub log_in : Lived → List LogEntry
log_in lived = log_of (past_of lived.life.layout (model_start lived.life.origin) lived.life.state)

-- the text of that log over a link of these steps
abbrev pub uplink_in : Lived → List LinkStep → Look (List ℕ)
uplink_in lived steps = Finding (IsUplinkText lived.files.program.headers (log_in lived) steps)

-- the life that files call for, and then the text
abbrev pub sending : ReplayFiles → List LinkStep → Look Answer
sending files steps = do
  lived ← living files
  text ← uplink_in lived steps
  found (record { status = status_of lived.life.end; text = text })

-- the files of a replay in their order, the link, and then the rest
abbrev pub uplinking : List ℕ → List ℕ → List ℕ → List ℕ → List ℕ → List ℕ → Look Answer
uplinking source profile trace arrivals failures link = do
  files ← files_in source profile trace arrivals failures None
  steps ← links_in link
  sending files steps
