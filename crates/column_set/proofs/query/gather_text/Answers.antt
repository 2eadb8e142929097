use Rattle.std.proofs.Common.{◌∙◌, ◌≡◌, [], ◌∷◌, List, ap, arith, sym, true, Bool, length}
use Rattle.std.specs.Prelude.{fold, ◌==◌}
use Rattle.std.specs.List.{filter_map}
use Rattle.std.proofs.lemmas.Bool.{eqb-true}
use Rattle.lake_model.specs.declared.Keys.{Keys}
use Rattle.lake_model.specs.Texts.{Text, all_lines}
use Rattle.lake_model.specs.Keys.{key}
use Rattle.lake_model.specs.Tables.{add_key}
use Rattle.lake_model.specs.Queries.{query_of}
use Rattle.column_set.proofs.LineLemmas.{no_lines, text_ends}
use Rattle.column_set.proofs.query.gather_text.Goals as goal

nothing_left : (rest : Text) (empty : Bool) → empty ≡ (length rest == 0) → empty ≡ true → all_lines rest ≡ []
nothing_left [] empty e t = no_lines
nothing_left (byte ∷ rest) empty e t = absurd (omega (arith, eqb-true (length (byte ∷ rest)) 0 (sym e ∙ t)))

all_keys : (kind : Keys) (body rest : Text) (seen : List Text) → query_of kind body ≡ fold add_key seen (filter_map (key kind) (all_lines rest)) → all_lines rest ≡ [] → query_of kind body ≡ seen
all_keys kind body rest seen keys none = keys ∙ ap (λ (lines : List Text). fold add_key seen (filter_map (key kind) lines)) none

pub range-requires-clause-end_boundary : goal.range-requires-clause-end_boundary
range-requires-clause-end_boundary c =
    (text_ends c.loop-rest.rest.now c.as_bytes-in-loop-rest.result.now c.first_line-end.result.0 c.first_line-end.result.1 c.as_bytes-in-loop-rest.ensures.value c.as_bytes-in-loop-rest.ensures.utf8 c.first_line-end.ensures.within c.first_line-end.ensures.texts).0

pub range_from-rest-requires : goal.range_from-rest-requires
range_from-rest-requires c _ =
    (text_ends c.loop-rest.rest.now c.as_bytes-in-loop-rest.result.now c.first_line-end.result.0 c.first_line-end.result.1 c.as_bytes-in-loop-rest.ensures.value c.as_bytes-in-loop-rest.ensures.utf8 c.first_line-end.ensures.within c.first_line-end.ensures.texts).1

pub returns-clause-keys : goal.returns-clause-keys
returns-clause-keys c =
    let none = nothing_left c.loop-rest.rest.now c.is_empty.result c.is_empty.ensures c.loop-rest-test.false in
    sym (all_keys c.args.keys c.args.text.now c.loop-rest.rest.now c.loop-rest.lists.current c.loop-rest.invariant.keys none)
