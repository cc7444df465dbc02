-- The committed log of a replay, sent over a link.
use Rattle.std.proofs.Common.{◌≡◌, List, Ok, refl, ap, ◌∙◌, subst}
use Rattle.cat_program.specs.declared.outs.LogEntry.{LogEntry}
use Rattle.cn_uplink.specs.Link.{Link, IsFinish, course, first}
use Rattle.cn_uplink.specs.Text.{counts_of, uplink_text}
use Rattle.cn_uplink.specs.Wire.{WorldValue}
use Rattle.cn_uplink.specs.declared.counts.Counts.{Counts}
use Rattle.cn_uplink.specs.declared.link_step.LinkStep.{LinkStep}
use Rattle.catnap_top.specs.declared.files.ReplayFiles.{ReplayFiles}
use Rattle.catnap_top.specs.declared.replay.Replayed.{Replayed}
use Rattle.catnap_top.specs.declared.uplink.Uplinked.{Uplinked}
use Rattle.catnap_top.specs.Lives.{status_of}
use Rattle.catnap_top.specs.Look.{goes}
use Rattle.catnap_top.specs.Replay.{living}
use Rattle.catnap_top.specs.Replayed.{lived_of}
use Rattle.catnap_top.specs.Uplink.{log_in, sending}
use Rattle.catnap_top.specs.Uplinked.{uplinked_answer, HasSent}

-- a world that began with the log has gone through the steps and the rounds
pub has_sent : (replayed : Replayed) (steps : List LinkStep) (counts : Counts) (before now : WorldValue) → before.link ≡ first (log_in (lived_of replayed))
    → IsFinish (course steps before.link) counts.rounds now.link → counts ≡ counts_of (course steps before.link) counts.rounds
    → HasSent replayed steps (record { replayed = replayed; counts = counts; world = now })
has_sent replayed steps counts before now began finish is =
    let log : List LogEntry = log_in (lived_of replayed) in
    record {
      replayed_is = refl;
      sent = record {
        n = counts.rounds;
        end = now.link;
        finish = subst (λ (l : Link). IsFinish (course steps l) counts.rounds now.link) began finish;
        text_is = ap (λ (c : Counts). uplink_text replayed.prepared.program.headers c now.link.host) (is ∙ ap (λ (l : Link). counts_of (course steps l) counts.rounds) began);
      };
    }

pub sends : (files : ReplayFiles) (steps : List LinkStep) (replayed : Replayed) (u : Uplinked) → living files (Ok (lived_of replayed)) → HasSent replayed steps u
    → sending files steps (Ok (uplinked_answer u))
sends files steps replayed u looks h =
    goes (lived_of replayed) looks
    (goes (uplinked_answer u).text (record { x = (uplinked_answer u).text; holds = h.sent; came_is = refl })
    (λ i. Ok (record { status = status_of (h.replayed_is i).end; text = (uplinked_answer u).text })))
