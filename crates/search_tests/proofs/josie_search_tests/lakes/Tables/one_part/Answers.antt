use Rattle.std.proofs.Common.{◌∙◌, [], ◌∷◌, ap, List, map}
use Rattle.std.specs.List.{flat_map}
use Rattle.lake_model.specs.Layout.{Part}
use Rattle.search_tests.proofs.LakeLemmas.{lake_apart}
use Rattle.search_tests.proofs.josie_search_tests.lakes.Tables.one_part.Goals as goal

pub new-requires-clause-names : goal.new-requires-clause-names
new-requires-clause-names c =
    let apart = c.if-not-differ.ensures in
    let all = c.in_ok-vec.ensures.items ∙ (λ i. c.in_ok-all.ensures i ∷ []) in
    lake_apart _ _ _ _ c.in_ok-vec.field-0.items (ap (λ (parts : List Part). map (λ place. place.table.name) (flat_map (λ part. part.places) parts)) all) apart.first_second apart.first_third apart.first_fourth apart.second_third apart.second_fourth apart.third_fourth
