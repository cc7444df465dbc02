-- The input of the benchmark, as a function of its size: a node that samples, averages and answers taps, on a device whose power fails.
use Rattle.std.specs.Prelude.{ℕ, ◌+◌, ◌*◌, ◌%◌, List, ◌++◌, codes, decimal}
use Rattle.cn_base.specs.Texts.{in_turn}

unfoldable pub source_text : List ℕ
source_text =
    codes "int n = 0; int acc = 0; int k = 0; int a[4];\n"
    ++ (codes "task blur { n = 0; acc = 0; while n < 4 { acc = acc + a[n]; n = n + 1; } out 2, acc / 4; }\n"
    ++ (codes "event sample every 200 offset 0 deadline 100\n"
    ++ (codes "  { a[k] = payload; k = k + 1; out 3, payload; post blur; }\n"
    ++ (codes "  else { a[k] = payload; k = k + 1; post blur; }\n"
    ++ (codes "event tap spacing 300 deadline 150 { out 1, payload; }\n"
    ++ codes "degrade sample;\n")))))

unfoldable pub profile_text : List ℕ
profile_text =
    codes "cap = 200\nstart = 200\nresume = 80\nlog = 100000\np = 100\nq = 20\nfill = \"00\"\n"
    ++ (codes "basic = { ticks = 1, bound = 1, actual = 1 }\n"
    ++ (codes "memory = { ticks = 1, bound = 2, actual = 2 }\n"
    ++ (codes "out = { ticks = 1, bound = 4, actual = 4 }\n"
    ++ (codes "write = { ticks = 1, bound = 3, actual = 3 }\n"
    ++ codes "wake = { ticks = 2, bound = 5, actual = 5 }\n"))))

-- ---- the tables: a header, and a round of rows for each number from 0 to the size; a round takes 600 ticks

abbrev pub table : List ℕ → (ℕ → List ℕ) → ℕ → List ℕ
table header round size = header ++ in_turn round (size + 1)

-- light for half a round, and then a glimpse every 100 ticks; the first sample differs from round to round
abbrev pub trace_round : ℕ → List ℕ
trace_round i =
    codes "300,1,0," ++ (decimal (40 + i % 10) ++ codes "\n80,0,0,12\n20,1,0,12\n80,0,0,12\n20,1,0,12\n80,0,0,12\n20,1,0,12\n")

unfoldable pub trace_text : ℕ → List ℕ
trace_text = table (codes "ticks,harvest,extra,sample\n") trace_round

-- two taps, of which the first comes too soon after the last one of the round before
abbrev pub arrivals_round : ℕ → List ℕ
arrivals_round i = decimal (600 * i + 130) ++ (codes ",tap,9\n" ++ (decimal (600 * i + 450) ++ codes ",tap,8\n"))

unfoldable pub arrivals_text : ℕ → List ℕ
arrivals_text = table (codes "tick,event,payload\n") arrivals_round

abbrev pub failures_round : ℕ → List ℕ
failures_round i =
    decimal (600 * i + 50) ++ (codes ",00\n" ++ (decimal (600 * i + 137) ++ (codes ",FF\n" ++ (decimal (600 * i + 350) ++ codes ",00\n"))))

unfoldable pub failures_text : ℕ → List ℕ
failures_text = table (codes "tick,fill\n") failures_round
