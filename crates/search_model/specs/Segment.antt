-- The inverted index of a list of tables: its columns, its tokens in token order, each column's tokens, and each
-- token's postings.
use Rattle.std.specs.Prelude.{ℕ, ◌-◌, List, [], length, map, filter, flat_map, get_or, count_by, nat_eq, nat_lt}
use Rattle.std.specs.List.{list_any, enumerate_from}
use Rattle.std.specs.Ordering.{ordering_then, nat_cmp}
use Rattle.std.specs.declared.cmp.Ordering.{Ordering}
use Rattle.std.specs.Cmp.Lexicographic.{slice_cmp}
use Rattle.search_model.specs.declared.Posting.{Posting}
use Rattle.lake_model.specs.Sorting.{in_order}
use Rattle.lake_model.specs.Texts.{Text}
use Rattle.lake_model.specs.Tables.{Column, Table, column_with, has_key, distinct}

-- a column of the list: the index of its table, the table's name, its place there from 1, and the column itself
pub record Titled : Type 0 where
  pub from : ℕ
  pub table : Text
  pub place : ℕ
  pub column : Column

abbrev pub titled : ℕ → Text → ℕ → Column → Titled
titled from table place column = record { from = from; table = table; place = place; column = column }

-- the columns by table, and then by place
abbrev pub columns_of : List Table → List Titled
columns_of tables = flat_map (λ t. map (λ c. titled t.0 t.1.name c.0 c.1) (enumerate_from 1 t.1.columns)) (enumerate_from 0 tables)

-- the columns of the table with an index
abbrev pub columns_in : ℕ → Table → List Titled
columns_in from table = map (λ c. titled from table.name c.0 c.1) (enumerate_from 1 table.columns)

-- the column at a place of that table
abbrev pub titled_in : ℕ → Table → ℕ → Titled
titled_in from table place = titled from table.name place (get_or table.columns (place - 1) (column_with [] []))

-- a key, and the number of columns that hold it
pub record Token : Type 0 where
  pub key : Text
  pub frequency : ℕ

-- the lower frequency first, and then by key
abbrev pub token_cmp : Token → Token → Ordering
token_cmp a b = ordering_then (nat_cmp a.frequency b.frequency) (slice_cmp nat_cmp a.key b.key)

abbrev pub token_of : List Titled → Text → Token
token_of columns key = record { key = key; frequency = count_by (λ c. has_key c.column.keys key) columns }

-- the distinct keys in token order; a token is a key's index in this list, from 0
unfoldable pub tokens_of : List Titled → List Token
tokens_of columns = in_order token_cmp (map (token_of columns) (distinct (flat_map (λ c. c.column.keys) columns)))

-- the tokens whose keys are in the set, increasing
abbrev pub tokens_in : List Token → List Text → List ℕ
tokens_in tokens keys = map (λ t. t.0) (filter (λ t. has_key keys t.1.key) (enumerate_from 0 tokens))

-- the number of tokens of the set that come before this one
abbrev pub rank : List ℕ → ℕ → ℕ
rank set token = count_by (λ other. nat_lt other token) set

-- the posting of a token in a column: how many tokens of the column's set come after it
abbrev pub posting : ℕ → ℕ → List ℕ → Posting
posting token column set = record { column = column; rest = length set - 1 - rank set token }

-- the columns that hold the token, by increasing number
abbrev pub postings_of : List (List ℕ) → ℕ → List Posting
postings_of sets token = map (λ s. posting token s.0 s.1) (filter (λ s. list_any (nat_eq token) s.1) (enumerate_from 0 sets))

pub record Segment : Type 0 where
  pub columns : List Titled
  pub tokens : List Token
  pub sets : List (List ℕ)
  pub lists : List (List Posting)

-- the segment, from its columns and its tokens, and then from its sets
abbrev pub segment_with : List Titled → List Token → List (List ℕ) → Segment
segment_with columns tokens sets = record { columns = columns; tokens = tokens; sets = sets; lists = map (λ t. postings_of sets t.0) (enumerate_from 0 tokens) }

abbrev pub segment_by : List Titled → List Token → Segment
segment_by columns tokens = segment_with columns tokens (map (λ c. tokens_in tokens c.column.keys) columns)

unfoldable pub segment : List Table → Segment
segment tables = segment_by (columns_of tables) (tokens_of (columns_of tables))
