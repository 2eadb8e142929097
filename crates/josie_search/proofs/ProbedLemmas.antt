-- The row of a probed column.
use Rattle.std.proofs.Common.{◌≡◌, ap, ◌∙◌, ℕ, ◌<◌, List, [], get_or, length, arith}
use Rattle.std.specs.Prelude.{bytes_eq}
use Rattle.std.specs.List.{IsDistinct}
use Rattle.lake_model.specs.Answer.{Query, Row}
use Rattle.search_model.specs.Arrays.{titled_at}
use Rattle.search_model.specs.Looks.{hits, row_with, searched}
use Rattle.segment_core.proofs.SegmentLemmas.{length-sets}
use Rattle.segment_core.specs.Versions.{part_at, segment_at, tables_of, VersionOf}
use Rattle.josie_search.specs.Offers.{shared_row}
use Rattle.part_columns.proofs.AskedLemmas.{hits_overlap}

-- the row of as many keys as the column has of these tokens
abbrev pub row_of_hits : VersionOf → ℕ → ℕ → List ℕ → Row
row_of_hits version part x tokens = row_with (length (hits (get_or (segment_at version.parts part).sets x []) tokens)) (titled_at (segment_at version.parts part).columns x)

pub probed_row : (now version : VersionOf) (query : Query) (part x : ℕ) (tokens : List ℕ) → now ≡ version → IsDistinct bytes_eq query.keys → x < length (segment_at version.parts part).sets → tokens ≡ (searched query (part_at version.parts part)).query
    → row_of_hits now part x tokens ≡ shared_row query (searched query (part_at version.parts part)) x
probed_row now version query part x tokens same distinct h is =
    let whole = part_at version.parts part in
    let within : x < length (searched query whole).segment.columns = omega (arith, length-sets (tables_of whole), h) in
    (λ i. row_of_hits (same i) part x (is i)) ∙ ap (λ (n : ℕ). row_with n (titled_at (segment_at version.parts part).columns x)) (hits_overlap query whole x distinct within)
