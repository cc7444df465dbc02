use Rattle.cn_resume.proofs.saving.add_head.Goals as goal

pub returns-clause-text : goal.returns-clause-text
returns-clause-text g c = rw (c.to_le_bytes.ensures, c.to_le_bytes-2.ensures) at c.line.ensures.text
