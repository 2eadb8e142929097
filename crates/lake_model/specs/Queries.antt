-- The query of a body: one value a line.
use Rattle.std.specs.Prelude.{ℕ, ◌+◌, if◌then◌else◌, nat_lt, List, [], ◌∷◌, length, filter_map, Option, Some, None}
use Rattle.std.specs.Str.{is_utf8}
use Rattle.lake_model.specs.declared.Keys.{Keys}
use Rattle.lake_model.specs.declared.QueryRefused.{QueryRefused}
use Rattle.lake_model.specs.declared.QueryRefused.TheVariants as query
use Rattle.lake_model.specs.Texts.{Text, all_lines}
use Rattle.lake_model.specs.Keys.{key}
use Rattle.lake_model.specs.Tables.{distinct}

-- the distinct keys of the lines, in order of first occurrence
abbrev pub keys_of_lines : Keys → List Text → List Text
keys_of_lines keys lines = distinct (filter_map (key keys) lines)

abbrev pub query_of : Keys → List ℕ → List Text
query_of keys body = keys_of_lines keys (all_lines body)

-- the first line that is not UTF-8, among the lines from the one numbered n on
unfoldable pub line_fault : ℕ → List Text → Option QueryRefused
line_fault n [] = None
line_fault n (line ∷ lines) = if is_utf8 line then line_fault (n + 1) lines else Some (query.NotUtf8 n)

-- more keys than a query may have
abbrev pub count_fault : List Text → Option QueryRefused
count_fault found = if nat_lt 4194304 (length found) then Some query.TooManyValues else None

abbrev pub first_fault : Option QueryRefused → Option QueryRefused → Option QueryRefused
first_fault None later = later
first_fault (Some first) later = Some first

-- what keeps a body from being a query
abbrev pub query_fault : Keys → List ℕ → Option QueryRefused
query_fault keys body = first_fault (line_fault 1 (all_lines body)) (count_fault (query_of keys body))
