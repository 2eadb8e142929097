use Rattle.std.proofs.Common.{◌≡◌, ap, sym, ◌∙◌, subst, List, [], ◌∷◌, ◌++◌, Bool, true, false, length, map, take}
use Rattle.std.proofs.lemmas.List.{append-nil}
use Rattle.script_model.specs.Commands.{Batch, Command}
use Rattle.script_model.specs.Lanes.{IsOfLanes}
use Rattle.trace_laws.specs.Hints.{Hint}
use Rattle.trace_groups.specs.declared.groups.Group.{Group}
use Rattle.trace_hints.specs.Told.{hint_as}
use Rattle.trace_numbers.specs.Positions.{numbers_pass}
use Rattle.trace_ends.specs.Within.{ArePositions, PositionsWithin}
use Rattle.batch_work.specs.Works.{works_of}
use Rattle.trace_tests.proofs.trace_replay_tests.replays.Goals as goal

-- for one batch without a merger
positions_of : PositionsWithin → (batch : Batch) (batches : List Batch) (commands : List Command) (told hints : List Hint) (passed : Bool) → batches ≡ batch ∷ [] → IsOfLanes 2 batch → commands ≡ batch ++ []
    → passed ≡ true → passed ≡ numbers_pass 2 false batches told → told ≡ hints → ArePositions commands hints
positions_of law batch batches commands told hints passed one lanes works pass tests same =
    let all = ap (λ (bs : List Batch). numbers_pass 2 false bs told) (sym one) ∙ sym tests ∙ pass in
    subst (ArePositions commands) same (law 2 false (batch ∷ []) commands told (lanes, tt) (works ∙ sym (append-nil (batch ++ []))) all)

pub replay-requires-clause-positions : goal.replay-requires-clause-positions
replay-requires-clause-positions c =
    let hint = λ (group : Group). hint_as group.hint in
    let groups = c.deref-2.ensures.value ∙ sym c.deref-5.ensures.value in
    let many = c.len-3.ensures ∙ sym c.deref-4.ensures.len in
    let same = ap (map hint_as) c.deref-3.ensures.value ∙ c.in_ok-hints.ensures ∙ (λ i. take (many i) (map hint (groups i))) in
    positions_of c.within_law.ensures.within c.args.batch.now c.from_ref-batches.result.now (works_of c.deref-4.result.now) _ _ _ c.from_ref-batches.ensures.value c.requires
    (ap works_of c.deref-4.ensures.value ∙ c.in_ok-works.ensures.works) (sym c.in_ok-owners.ensures.variant) c.in_ok-find_owners.ensures.tests same
