use Rattle.std.proofs.Common.{arith}
use Rattle.cat_program.specs.Body.{block_at}
use Rattle.cat_program.proofs.Trees.{lower_at, stmt_lower, tree_is}
use Rattle.cat_program.proofs.laws.blocks_law.Goals as goal

pub returns : goal.returns
returns c = record {
  lower = λ blocks b n s lower item. stmt_lower b (block_at blocks b) n s (lower_at blocks 0 b b (omega arith) lower) item;
  tree = tree_is;
}
