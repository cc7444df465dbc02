use Rattle.cat_machine.proofs.Ends.{section_ends, handler_ends, place_kept, puts_by, unacted_rest, place_in_code, entry_there}
use Rattle.cat_machine.proofs.run.runs_end.Goals as goal

pub returns : goal.returns
returns c = record {
  section = section_ends;
  handler = handler_ends;
  keeps = place_kept;
  puts = puts_by;
  unacted = unacted_rest;
  places = place_in_code;
  entries = entry_there;
}
