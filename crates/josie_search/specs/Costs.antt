-- What a chooser sees, computed from what the code keeps.
use Rattle.std.specs.Prelude.{ℕ, ◌≡◌, ◌≤◌, ◌+◌, ◌-◌, List, get_or, length, map, nat_le, if◌then◌else◌, Option, None, Some, slice_index, sum_by, take}
use Rattle.search_model.specs.declared.Summary.{Summary}
use Rattle.search_model.specs.Choosers.{read_cost}
use Rattle.search_model.specs.Looks.{estimate, spared}
use Rattle.search_model.specs.Segment.{Segment}
use Rattle.part_columns.specs.declared.tally.Tally.{Tally}
use Rattle.part_columns.specs.Tallies.{most_of}

-- the lengths of the lists of these tokens
abbrev pub lengths_of : Segment → List ℕ → List ℕ
lengths_of segment tokens = map (λ token. get_or (map (λ t. t.frequency) segment.tokens) token 0) tokens

-- for each number of lists from 0 on, what it costs to read so many of the first
pub record AreSums (lengths sums : List ℕ) : Type 0 where
  pub long : length sums ≡ length lengths + 1
  pub sum : (n : ℕ) → n ≤ length lengths → get_or sums n 0 ≡ sum_by read_cost (take n lengths)

abbrev pub threshold_of : Option ℕ → ℕ
threshold_of None = 1
threshold_of (Some worst) = worst

abbrev pub gain_of : Option ℕ → List ℕ → ℕ → ℕ → ℕ
gain_of None lengths i est = 0
gain_of (Some worst) lengths i est = if nat_le est worst then 0 else spared lengths i worst est

abbrev pub summary_of : List ℕ → ℕ → Tally → Option ℕ → Summary
summary_of lengths read tally worst =
    let left = length lengths - read in
    record {
      next_len = slice_index lengths read;
      left = left;
      c = tally.count;
      u = most_of left tally;
      rest = tally.rest;
      t = threshold_of worst;
      gain = gain_of worst lengths read (estimate tally.count (most_of left tally) (length lengths) read);
    }
