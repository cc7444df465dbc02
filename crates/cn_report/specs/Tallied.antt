-- How many lines of each kind a report has.
use Rattle.std.specs.Prelude.{List, length, count_by}
use Rattle.cat_program.specs.declared.headers.Event.{Event}
use Rattle.event_arrivals.specs.Arrivals.{Lists}
use Rattle.cn_report.specs.declared.counts.Tally.{Tally}
use Rattle.recovery.specs.Past.{Past}
use Rattle.cn_report.specs.Counts.{outs_in, ran_in, met_in}

abbrev pub tally_of : List Event → Lists → Past → Tally
tally_of headers lists past =
    record {
      ran = ran_in past;
      met = met_in headers lists past;
      lost = count_by (λ entry. entry.lost) past.timeline;
      dropped = length lists.dropped;
      outs = outs_in past;
    }
