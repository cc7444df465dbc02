use Rattle.std.proofs.Common.{◌≡◌, drop, map, length}
use Rattle.cn_tables.specs.Table.{same_fields}
use Rattle.cn_tables.proofs.reading.Rows.is.Given as goal

abbrev pub invariant-loop-place : goal.invariant-loop-place
invariant-loop-place l = (same_fields l.self.current (map (λ f. f.now) l.header) ≡ same_fields (drop l.place l.self.current) (drop l.place (map (λ f. f.now) l.header))) × (length l.self.current ≡ length l.header)
