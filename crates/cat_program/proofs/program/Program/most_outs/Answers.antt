use Rattle.std.proofs.Common.{arith}
use Rattle.cat_program.specs.Body.{tree_of}
use Rattle.cat_program.proofs.Counting.{outs_few}
use Rattle.cat_program.proofs.Members.{version_short}
use Rattle.cat_program.proofs.program.Program.most_outs.Goals as goal

pub block_outs-requires-clause-short : goal.block_outs-requires-clause-short
block_outs-requires-clause-short c =
    version_short c.args.self.now c.args.e c.args.v c.version.result c.bodies-checked.ensures.checked c.requires c.version.ensures.version

pub returns-clause-few : goal.returns-clause-few
returns-clause-few c =
    let short = version_short c.args.self.now c.args.e c.args.v c.version.result c.bodies-checked.ensures.checked c.requires c.version.ensures.version in
    omega (arith, c.block_outs.ensures, outs_few (tree_of c.args.self.now.blocks c.version.result), short)
