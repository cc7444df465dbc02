use Rattle.cat_program.specs.Body.{tree_of}
use Rattle.cat_eval.proofs.Handling.{version_ready, handled_fits}
use Rattle.cat_eval.proofs.events.run_event.Goals as goal

pub run_block-requires-clause-ready : goal.run_block-requires-clause-ready
run_block-requires-clause-ready c =
    version_ready c.args.program.now (c.parts_law.ensures c.args.program.now c.requires.fits.checked) c.args.state.now c.args.outs.now c.args.event c.args.version c.version-block.result c.requires.fits c.requires.there c.version-block.ensures.version c.requires.room

pub returns-clause-fits : goal.returns-clause-fits
returns-clause-fits c =
    handled_fits c.args.program.now (tree_of c.args.program.now.blocks c.version-block.result) _ c.args.state.now c.run_block.new.state c.args.outs.now c.run_block.new.outs c.requires.fits c.run_block.ensures
