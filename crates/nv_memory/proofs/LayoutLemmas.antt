-- Where the parts of an image stand.
use Rattle.std.proofs.Common.{ℕ, zero, suc, ◌+◌, ◌*◌, ◌<◌, ◌≤◌, arith, mul-le-mul_left, mul-suc}
use Rattle.nv_memory.specs.declared.layout.Layout.{Layout}
use Rattle.nv_memory.specs.Layout.{lines_of, slot_at, log_at, record_len}
use Rattle.nv_memory.specs.Laws.{PartsAreApart}

slot_ends : (l : Layout) (s : ℕ) → s ≤ 1 → slot_at l s + 64 * lines_of l ≤ log_at l
slot_ends l zero low = omega arith
slot_ends l (suc zero) low = omega arith
slot_ends l (suc (suc n)) low = absurd (omega arith)

-- records behind each other, each of so many bytes
record_ends : (at size k place : ℕ) → k < place → at + size * k + size ≤ at + size * place
record_ends at size k place below = omega (arith, mul-le-mul_left size below, mul-suc size k)

pub apart : (l : Layout) → PartsAreApart l
apart l = record {
  gate = λ s. omega (arith, l.base_some);
  slots = omega arith;
  log = slot_ends l;
  records = λ k place below. record_ends (log_at l) (record_len l) k place below;
  size = λ place below. record_ends (log_at l) (record_len l) place l.log below;
  begin = λ place. omega arith;
  fits = omega arith;
  some_lines = omega arith;
  cells = omega arith;
}
