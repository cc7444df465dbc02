use Rattle.catnap_top.proofs.uplink.write_uplinked.Goals as goal

pub returns-clause-text : goal.returns-clause-text
returns-clause-text g c = rw c.host.ensures.host at c.write_uplink.ensures.text
