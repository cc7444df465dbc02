use Rattle.cn_tables.proofs.TableRows.{read_rows-bad, read_rows-end, read_rows-more}
use Rattle.cn_tables.proofs.laws.rows_are_read.Goals as goal

pub returns : goal.returns
returns g c = record { end = read_rows-end; more = read_rows-more; bad = read_rows-bad }
