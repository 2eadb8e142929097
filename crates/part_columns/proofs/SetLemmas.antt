-- The set of a column and the query's tokens rise.
use Rattle.std.proofs.Common.{◌≡◌, sym, subst, ℕ, ◌<◌, List, [], length, get_or, arith}
use Rattle.std.proofs.lemmas.List.{get_or-map}
use Rattle.lake_model.specs.Tables.{Table}
use Rattle.lake_model.specs.Texts.{Text}
use Rattle.search_model.specs.Arrays.{no_titled}
use Rattle.search_model.specs.Segment.{columns_of, segment, Titled, Token, tokens_in, tokens_of}
use Rattle.segment_core.proofs.SegmentLemmas.{length-sets}
use Rattle.search_model.proofs.FilterLemmas.{rising as tokens_rise}
use Rattle.list_laws.specs.Distinct.{Rises}

pub set_rises : (tables : List Table) (column : ℕ) → column < length (segment tables).sets → Rises (get_or (segment tables).sets column [])
unfolding segment
set_rises tables column h =
    let columns = columns_of tables in
    let tokens = tokens_of columns in
    let n = length-sets tables in
    let is = get_or-map (λ (c : Titled). tokens_in tokens c.column.keys) columns column no_titled [] (omega (arith, n, h)) in
    subst Rises (sym is) (tokens_rise tokens (get_or columns column no_titled).column.keys)

pub query_rises : (tokens : List Token) (qs : List ℕ) → (keys : List Text) × (qs ≡ tokens_in tokens keys) → Rises qs
query_rises tokens qs e = subst Rises (sym e.1) (tokens_rise tokens e.0)
