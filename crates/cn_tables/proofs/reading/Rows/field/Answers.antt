use Rattle.std.proofs.Common.{◌∙◌, ap, unwrap_or, [], List, ℕ, Option, get_or}
use Rattle.csv.specs.Records.{fields_of}
use Rattle.cn_tables.specs.RowsValue.{RowsLeft}
use Rattle.cn_tables.proofs.NextRow.{field_at-or}
use Rattle.cn_tables.proofs.reading.Rows.field.Goals as goal

pub returns-in-Some : goal.returns-in-Some
returns-in-Some c =
    let is = rw c.in-Some.is at c.get.ensures.value in
    ap (λ (o : Option (List ℕ)). unwrap_or o []) is ∙ field_at-or (fields_of c.self.inside.fields) c.args.place ∙ ap (λ (v : RowsLeft). get_or v.current c.args.place []) c.self.view_is

pub returns-in-None : goal.returns-in-None
returns-in-None c =
    let is = rw c.in-None.is at c.get.ensures.value in
    ap (λ (o : Option (List ℕ)). unwrap_or o []) is ∙ field_at-or (fields_of c.self.inside.fields) c.args.place ∙ ap (λ (v : RowsLeft). get_or v.current c.args.place []) c.self.view_is
