use Rattle.std.proofs.Common.{◌∙◌}
use Rattle.checkpoint_slots.specs.Image.{selected_of}
use Rattle.cn_report.proofs.Committing.{first_is, selected_shows}
use Rattle.cn_report.proofs.heads.Heads.len.Goals as goal

pub returns : goal.returns
returns c l image heads = c.first_number.ensures ∙ first_is l image (selected_of image) c.selected.result (selected_shows l image c.args.self.now c.selected.result heads c.selected.ensures)
