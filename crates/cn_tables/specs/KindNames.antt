-- What the faults of a table are called.
use Rattle.std.specs.Prelude.{ℕ, List, codes}
use Rattle.cn_tables.specs.declared.fault.RowKind.{RowKind}
use Rattle.cn_tables.specs.declared.fault.RowKind.TheVariants as row

abbrev pub row_kind_name : RowKind → List ℕ
row_kind_name row.Long = codes "Long"
row_kind_name row.Header = codes "Header"
row_kind_name row.Many = codes "Many"
row_kind_name row.Fields = codes "Fields"
row_kind_name row.Number = codes "Number"
row_kind_name row.Range = codes "Range"
row_kind_name row.Name = codes "Name"
row_kind_name row.Fill = codes "Fill"
row_kind_name row.Order = codes "Order"
row_kind_name row.Total = codes "Total"
row_kind_name row.Few = codes "Few"
