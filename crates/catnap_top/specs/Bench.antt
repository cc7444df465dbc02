-- `bench N`: how many lines of each kind a report has, and how it ends, where the program makes the files of the replay itself.
use Rattle.std.specs.Prelude.{ℕ, List, None, [], ◌∷◌, ◌++◌, codes, decimal}
use Rattle.bench_input.specs.Input.{source_text, profile_text, trace_text, arrivals_text, failures_text}
use Rattle.board_core.specs.Reached.{model_start}
use Rattle.cn_base.specs.Texts.{line}
use Rattle.cn_report.specs.Outcome.{end_word}
use Rattle.cn_report.specs.Tallied.{tally_of}
use Rattle.cn_report.specs.declared.counts.Tally.{Tally}
use Rattle.cn_scheduler.specs.declared.engine.End.{End}
use Rattle.recovery.specs.Past.{past_of}
use Rattle.catnap_top.specs.Answer.{Answer}
use Rattle.catnap_top.specs.Files.{files_in}
use Rattle.catnap_top.specs.Lives.{Lived, status_of}
use Rattle.catnap_top.specs.Look.{Look, ◌>>=◌, found}
use Rattle.catnap_top.specs.Replay.{living}

-- how many lines of each kind the report of a life has
abbrev pub tally_in : Lived → Tally
tally_in lived =
    tally_of lived.files.program.headers lived.files.arrivals (past_of lived.life.layout (model_start lived.life.origin) lived.life.state)

abbrev pub count_line : List ℕ → ℕ → List ℕ
count_line word count = line (word ∷ decimal count ∷ [])

abbrev pub ending_line : ℕ → End → List ℕ
ending_line stored end = line (codes "end" ∷ decimal stored ∷ end_word end ∷ [])

abbrev pub summary_text : ℕ → ℕ → Tally → ℕ → End → List ℕ
summary_text size tick tally stored end =
    count_line (codes "bench") size
    ++ (count_line (codes "ticks") tick
    ++ (count_line (codes "ran") tally.ran
    ++ (count_line (codes "met") tally.met
    ++ (count_line (codes "lost") tally.lost
    ++ (count_line (codes "dropped") tally.dropped
    ++ (count_line (codes "outs") tally.outs
    ++ ending_line stored end))))))

-- the summary of a life
abbrev pub summed : ℕ → Lived → Answer
summed size lived =
    record {
      status = status_of lived.life.end;
      text = summary_text size lived.life.state.tick (tally_in lived) lived.life.state.stored lived.life.end;
    }

-- `bench` of a size, over the texts of that size
abbrev pub benching : ℕ → Look Answer
benching size = do
  files ← files_in source_text profile_text (trace_text size) (arrivals_text size) (failures_text size) None
  lived ← living files
  found (summed size lived)
