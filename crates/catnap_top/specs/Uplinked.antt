-- A log that was sent over a link, and the answer for which it stands.
use Rattle.std.specs.Prelude.{◌≡◌, List}
use Rattle.cn_uplink.specs.Text.{uplink_text, IsUplinkText}
use Rattle.cn_uplink.specs.declared.link_step.LinkStep.{LinkStep}
use Rattle.catnap_top.specs.declared.replay.Replayed.{Replayed}
use Rattle.catnap_top.specs.declared.uplink.Uplinked.{Uplinked}
use Rattle.catnap_top.specs.Answer.{Answer}
use Rattle.catnap_top.specs.Lives.{status_of}
use Rattle.catnap_top.specs.Replayed.{lived_of}
use Rattle.catnap_top.specs.Uplink.{log_in}

abbrev pub uplinked_answer : Uplinked → Answer
uplinked_answer u =
    record { status = status_of u.replayed.end; text = uplink_text u.replayed.prepared.program.headers u.counts u.world.link.host }

-- the committed log of a replay was sent by the steps of a link
pub record HasSent (replayed : Replayed) (steps : List LinkStep) (u : Uplinked) : Type 0 where
  pub replayed_is : u.replayed ≡ replayed
  pub sent : IsUplinkText replayed.prepared.program.headers (log_in (lived_of replayed)) steps (uplinked_answer u).text
