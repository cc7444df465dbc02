use Rattle.catnap_top.proofs.file_fault.put_object_fault.Goals as goal

pub returns-clause-text : goal.returns-clause-text
returns-clause-text g c = rw (c.as_bytes.ensures.value, c.object_kind_name.ensures, c.from.ensures) at c.put_refusal.ensures.text
