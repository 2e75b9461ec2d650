-- "With every stop the answer also gives transfers, device bytes used and written, and working states."
use Rattle.std.specs.Prelude.{ℕ, ◌+◌}
use Rattle.am9517_service.specs.declared.Counts.{Counts}

-- these transfers, device bytes used, device bytes written and states
abbrev pub counts : ℕ → ℕ → ℕ → ℕ → Counts
counts t u w s = record { transfers = t; used = u; written = w; states = s }

abbrev pub none : Counts
none = counts 0 0 0 0

-- both together
abbrev pub plus : Counts → Counts → Counts
plus a b = counts (a.transfers + b.transfers) (a.used + b.used) (a.written + b.written) (a.states + b.states)
