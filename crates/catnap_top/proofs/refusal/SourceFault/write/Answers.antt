use Rattle.catnap_top.proofs.refusal.SourceFault.write.Goals as goal

pub returns-clause-text : goal.returns-clause-text
returns-clause-text g c = rw (c.name-name.ensures, c.from.ensures) at c.put_refusal.ensures.text
