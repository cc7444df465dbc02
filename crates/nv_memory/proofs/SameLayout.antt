-- A layout is its numbers: what its type keeps of them has one proof.
use Rattle.std.proofs.Common.{◌≡◌, ◌≤◌, ℕ, refl, ap}
use Rattle.std.proofs.Math.Path.{PathP, to_path_p}
use Rattle.std.specs.Coded.{le_prop}
use Rattle.nv_memory.specs.Formats.{most_base}
use Rattle.nv_memory.specs.Laws.{LayoutsAreNumbers}

le_path : (a b c d : ℕ) (e : a ≡ c) (f : b ≡ d) (h : a ≤ b) (k : c ≤ d) → PathP (λ i. e i ≤ f i) h k
le_path a b c d e f h k = to_path_p (λ i. e i ≤ f i) (le_prop _ k)

pub layout_same : LayoutsAreNumbers
layout_same a b words tasks events log format base =
    λ i. record {
      words = words i;
      tasks = tasks i;
      events = events i;
      log = log i;
      format = format i;
      base = base i;
      words_in_range = le_path a.words 1024 b.words 1024 words refl a.words_in_range b.words_in_range i;
      tasks_in_range = le_path a.tasks 16 b.tasks 16 tasks refl a.tasks_in_range b.tasks_in_range i;
      events_in_range = le_path a.events 16 b.events 16 events refl a.events_in_range b.events_in_range i;
      log_some = le_path 1 a.log 1 b.log refl log a.log_some b.log_some i;
      log_in_range = le_path a.log 1000000 b.log 1000000 log refl a.log_in_range b.log_in_range i;
      format_some = le_path 1 a.format 1 b.format refl format a.format_some b.format_some i;
      format_known = le_path a.format 2 b.format 2 format refl a.format_known b.format_known i;
      base_some = le_path 64 a.base 64 b.base refl base a.base_some b.base_some i;
      base_in_range = le_path a.base (most_base a.format) b.base (most_base b.format) base (ap most_base format) a.base_in_range b.base_in_range i;
    }
