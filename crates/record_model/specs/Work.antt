-- How much a search of a layout reads if the costs decide what is probed, and how much a search for the columns that
-- hold a fraction of a query reads.
use Rattle.std.specs.Prelude.{ℕ, not, List, count_by}
use Rattle.lake_model.specs.Texts.{Text}
use Rattle.lake_model.specs.Answer.{Query}
use Rattle.lake_model.specs.Layout.{Part}
use Rattle.search_model.specs.Choosers.{profile}
use Rattle.search_model.specs.Looks.{is_read, log}
use Rattle.search_model.specs.Contain.{contain_log}

-- the number of posting lists that are read
unfoldable pub lists_read : Query → List Part → ℕ
lists_read query parts = count_by is_read (log profile query parts)

-- the number of sets that are probed
unfoldable pub sets_probed : Query → List Part → ℕ
sets_probed query parts = count_by (λ look. not (is_read look)) (log profile query parts)

-- the same for a search for the columns that hold at least a of b parts of the keys
unfoldable pub contain_reads : List Text → ℕ → ℕ → List Part → ℕ
contain_reads keys a b parts = count_by is_read (contain_log keys a b parts)

unfoldable pub contain_probes : List Text → ℕ → ℕ → List Part → ℕ
contain_probes keys a b parts = count_by (λ look. not (is_read look)) (contain_log keys a b parts)
