-- `lookup_benchmark::benchmark_ten_logs_to` meets its contract. The loop's invariant: `last` is what the numbers so far give.
use Rattle.std.proofs.Common.{◌≡◌, ◌+◌, ◌-◌, ◌≤◌}
use Rattle.lookup_benchmark.specs.Last.{last_of}
use Rattle.lookup_benchmark.proofs.benchmark_ten_logs_to.Given as goal

abbrev pub invariant-loop-n : goal.invariant-loop-n
invariant-loop-n l = (l.n ≤ l.count + 1) × (l.last ≡ last_of (l.n - 1))
