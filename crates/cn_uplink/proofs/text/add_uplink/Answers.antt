use Rattle.std.proofs.Common.{refl}
use Rattle.cn_base.specs.PageSums.{adds_on}
use Rattle.cn_base.specs.PageWords.{held_in}
use Rattle.cn_base.specs.TextSums.{cut_behind_held}
use Rattle.cn_uplink.specs.Text.{counts_text, records_text}
use Rattle.cn_uplink.proofs.text.add_uplink.Goals as goal

pub returns-in-Ok-clause-text : goal.returns-in-Ok-clause-text
returns-in-Ok-clause-text g c = adds_on _ _ _ _ _ _ _ _ _ c.add_records.result refl c.in-Ok.ensures.text c.add_records.ensures.text

pub returns-in-Err-clause-text : goal.returns-in-Err-clause-text
returns-in-Err-clause-text g c =
    cut_behind_held _ _ (held_in c.args.page.now) (counts_text c.args.counts) (records_text c.args.program.now.headers c.args.host.now) c.in-Err.ensures.text
