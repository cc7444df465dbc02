-- What the conditions on a program say of each of its parts, by its number.
use Rattle.std.specs.Prelude.{◌≡◌, ℕ, ◌+◌, ◌<◌, ◌≤◌, ℤ, List, [], length, Some, slice_get, slice_index, unwrap_or}
use Rattle.cat_program.specs.declared.headers.Variable.{Variable}
use Rattle.cat_program.specs.declared.headers.Event.{Event}
use Rattle.cat_program.specs.declared.syntax.Stmt.{Stmt}
use Rattle.cat_program.specs.Declares.{HasWords, EventIs}
use Rattle.cat_program.specs.Body.{Body, with_stmts, tree_of, block_at}
use Rattle.cat_program.specs.Meaning.{Store, handled}
use Rattle.cat_program.specs.Checked.{Checked, HasVersion, NamesLower, EachLower, TaskWorks, VersionWorks, body_at, version_at, depth_of, most_outs}

-- a variable's words are among all words
pub record VariableIs (words : ℕ) (v : Variable) : Type 0 where
  pub sized : HasWords v.array v.len
  pub within : v.base + v.len ≤ words

pub record TaskIs (p : Checked) (t : ℕ) : Type 0 where
  pub block : slice_index p.tasks t < length p.blocks
  pub shallow : depth_of (body_at p t) ≤ 32
  pub works : TaskWorks (length p.words) (length p.tasks) (body_at p t)

pub record VersionIs (p : Checked) (e v : ℕ) : Type 0 where
  pub block : slice_index (unwrap_or (slice_get p.events e) []) v < length p.blocks
  pub shallow : depth_of (version_at p e v) ≤ 32
  pub works : VersionWorks (length p.words) (length p.tasks) (version_at p e v)

pub record EachPart (p : Checked) : Type 0 where
  pub variables : (i : ℕ) (v : Variable) → slice_get p.variables i ≡ Some v → VariableIs (length p.words) v
  pub tasks : (t : ℕ) → t < length p.tasks → TaskIs p t
  pub events : (e : ℕ) (header : Event) → slice_get p.headers e ≡ Some header → EventIs header (unwrap_or (slice_get p.events e) [])
  pub versions : (e v : ℕ) → HasVersion p e v → VersionIs p e v

-- where blocks name lower ones: each statement does, and a block's tree is its statements, over the trees of the blocks that they name
pub record BlocksAreTrees : Type 0 where
  pub lower : (blocks : List (List Stmt)) (b n : ℕ) (s : Stmt) → EachLower 0 blocks → slice_get (block_at blocks b) n ≡ Some s → NamesLower b s
  pub tree : (blocks : List (List Stmt)) (b : ℕ) → EachLower 0 blocks → b < length blocks → tree_of blocks b ≡ with_stmts (tree_of blocks) b 0 (block_at blocks b)

-- what a list of an event puts out is no more than its greatest count
abbrev pub OutputsAreFew : Type 0
OutputsAreFew = (body : Body) (payload : ℤ) (store : Store) → length (handled body payload store).outs ≤ most_outs body
