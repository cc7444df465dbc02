use Rattle.std.proofs.Common.{◌≡◌, length, get_or}
use Rattle.cat_program.proofs.Members.{version_below}
use Rattle.cat_program.proofs.program.Program.version.Goals as goal

pub returns-clause-within : goal.returns-clause-within
returns-clause-within c =
    let events = c.args.self.now.events in
    let blocks = c.as_slice-blocks.result.now in
    let is : blocks ≡ get_or events c.args.e blocks = cc in
    version_below (length c.args.self.now.blocks) events c.args.e c.args.v blocks c.versions-versions.ensures.checked.events_in is c.requires.0 c.requires.1
