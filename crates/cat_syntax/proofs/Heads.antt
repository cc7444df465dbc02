-- What is read behind the keyword that begins a statement, an item or a timing.
use Rattle.std.proofs.Common.{ℕ, suc, List}
use Rattle.cat_tokens.specs.declared.token.Keyword.TheVariants as k
use Rattle.cat_tokens.specs.declared.token.Symbol.TheVariants as s
use Rattle.cn_base.specs.declared.tree.Stmt.{Stmt}
use Rattle.cn_base.specs.declared.tree.Stmt.TheVariants as stmt
use Rattle.cn_base.specs.declared.tree.Timing.{Timing}
use Rattle.cn_base.specs.declared.tree.Timing.TheVariants as timing
use Rattle.cn_base.specs.declared.tree.Item.{Item}
use Rattle.cn_base.specs.declared.tree.Item.TheVariants as item
use Rattle.cat_syntax.specs.Reader.{Reader, ◌>>=◌, ◌>>◌, pure, expect, expect_keyword, read_name, read_number}
use Rattle.cat_syntax.specs.Reading.{nested}
use Rattle.cat_syntax.specs.Statements.{value, otherwise, block}
use Rattle.cat_syntax.specs.Items.{declared, truth, timed, versions, name_list}

abbrev pub after_out : ℕ → Reader Stmt
after_out room = read_number >>= λ n. expect s.Comma >> value room >>= λ e. pure (stmt.Out n e)

abbrev pub after_post : Reader Stmt
after_post = read_name >>= λ x. expect s.Semicolon >> pure (stmt.Post x)

module _ (room : ℕ) (block : Reader (List Stmt)) where
  abbrev pub after_if : Reader Stmt
  after_if = nested (suc room) >>= λ e. block >>= λ xs. otherwise room block >>= λ ys. pure (stmt.If e xs ys)

  abbrev pub after_while : Reader Stmt
  after_while = nested (suc room) >>= λ e. block >>= λ xs. pure (stmt.While e xs)

  abbrev pub after_repeat : Reader Stmt
  after_repeat = read_number >>= λ n. block >>= λ xs. pure (stmt.Repeat n xs)

abbrev pub after_int : Reader Item
after_int = read_name >>= declared

abbrev pub after_length : List ℕ → Reader Item
after_length x = read_number >>= λ n. expect s.RightBracket >> expect s.Semicolon >> pure (item.Array x n)

abbrev pub after_bool : Reader Item
after_bool = read_name >>= λ x. expect s.Assign >> truth >>= λ b. expect s.Semicolon >> pure (item.Bool x b)

abbrev pub after_task : ℕ → Reader Item
after_task room = read_name >>= λ x. block room >>= λ xs. pure (item.Task x xs)

abbrev pub after_every : Reader Timing
after_every = read_number >>= λ n. expect_keyword k.Offset >> read_number >>= λ m. pure (timing.Every n m)

abbrev pub after_spacing : Reader Timing
after_spacing = read_number >>= λ n. pure (timing.Spacing n)

-- behind a deadline
abbrev pub event_versions : ℕ → List ℕ → Timing → ℕ → Reader Item
event_versions room x t n = versions room >>= λ yss. pure (item.Event x t n yss)

-- behind a timing
abbrev pub event_deadline : ℕ → List ℕ → Timing → Reader Item
event_deadline room x t = expect_keyword k.Deadline >> read_number >>= λ n. event_versions room x t n

abbrev pub after_event : ℕ → Reader Item
after_event room = read_name >>= λ x. timed >>= λ t. event_deadline room x t

abbrev pub after_degrade : Reader Item
after_degrade = name_list >>= λ xs. expect s.Semicolon >> pure (item.Degrade xs)

abbrev pub after_start : Reader Item
after_start = read_name >>= λ x. expect s.Semicolon >> pure (item.Start x)
