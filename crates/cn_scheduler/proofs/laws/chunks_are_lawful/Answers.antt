use Rattle.cn_scheduler.proofs.Told.{chunk_lawful, sleeps_lawful}
use Rattle.cn_scheduler.proofs.laws.chunks_are_lawful.Goals as goal

pub returns-clause-one : goal.returns-clause-one
returns-clause-one c = chunk_lawful

pub returns-clause-sleeping : goal.returns-clause-sleeping
returns-clause-sleeping c = sleeps_lawful
