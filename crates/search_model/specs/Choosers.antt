-- Costs, and the choosers: what each decides from a summary.
use Rattle.std.specs.Prelude.{ℕ, ◌+◌, ◌*◌, Bool, false, ◌||◌, nat_le}
use Rattle.search_model.specs.declared.Summary.{Summary}

abbrev pub read_cost : ℕ → ℕ
read_cost len = 64 + 4 * len

abbrev pub probe_cost : ℕ → ℕ
probe_cost rest = 64 + rest

-- a probe costs no more than the next list, or than the lists that it would save
abbrev pub profile : Summary → Bool
profile s = nat_le (probe_cost s.rest) (read_cost s.next_len) || nat_le (probe_cost s.rest) s.gain

abbrev pub never : Summary → Bool
never s = false
