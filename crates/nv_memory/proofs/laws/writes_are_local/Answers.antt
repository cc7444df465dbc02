use Rattle.nv_memory.proofs.BytesLemmas.{length-written, take-written, drop-written, bytes_at-written, bytes_at-written_before, bytes_at-written_behind, written-written, written_same, written_none, range_within}
use Rattle.nv_memory.proofs.laws.writes_are_local.Goals as goal

pub returns : goal.returns
returns c = record {
  size = length-written;
  front = take-written;
  back = drop-written;
  own = bytes_at-written;
  before = bytes_at-written_before;
  behind = bytes_at-written_behind;
  joined = written-written;
  same = written_same;
  none = written_none;
  range = range_within;
}
