use Rattle.std.proofs.Common.{◌≡◌, subst}
use Rattle.std.specs.Prelude.{IfOk}
use Rattle.cn_uplink.specs.Link.{first}
use Rattle.catnap_top.proofs.uplink.world_of.Goals as goal

pub committed_log-requires-clause-fresh : goal.committed_log-requires-clause-fresh
committed_log-requires-clause-fresh c = c.requires.ready.fresh

pub committed_log-requires-clause-committed : goal.committed_log-requires-clause-committed
committed_log-requires-clause-committed c = record { value = c.requires.ready.replayed.value; is = c.requires.ready.replayed.committed }

pub returns : goal.returns
returns c = subst (λ entries. IfOk c.start.result (λ w. w ≡ record { link = first entries; left = c.args.rows })) c.in_ok-log.ensures.log c.start.ensures
