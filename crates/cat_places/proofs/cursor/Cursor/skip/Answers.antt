use Rattle.cat_places.proofs.Cursors.{skipped}
use Rattle.cat_places.proofs.cursor.Cursor.skip.Goals as goal

pub returns : goal.returns
returns c = rw (← c.self.view_is, c.min.ensures) (skipped (λ t. t.what) c.args.count c.self.inside.rest.now)
