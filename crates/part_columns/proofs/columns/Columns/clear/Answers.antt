use Rattle.std.proofs.Common.{◌≡◌, ap, sym, ◌∙◌, ℕ, ◌<◌, List, Bool, false, get_or, length, take, arith}
use Rattle.lake_model.specs.Layout.{is_among}
use Rattle.part_columns.specs.declared.tally.Tally.{Tally}
use Rattle.part_columns.specs.Tallies.{tally_at}
use Rattle.part_columns.proofs.TouchedLemmas.{kept_cleared, lent_whole, listed_within, unlisted_there, view_cleared}
use Rattle.part_columns.proofs.columns.Columns.clear.Goals as goal

pub forget-requires-clause-within : goal.forget-requires-clause-within
forget-requires-clause-within c = λ k d h.
    let is = ap (take c.self.inside.touched) c.deref.ensures.value in
    let within : k < length (take c.self.inside.touched c.self.inside.list.items) = omega (arith, h, ap length is) in
    omega (
      arith,
      listed_within c.self.inside.tallies.items (take c.self.inside.touched c.self.inside.list.items) c.self.invariant.are_touched.listed k d within,
      ap (λ (xs : List ℕ). get_or xs k d) is,
      ap (λ (ts : List Tally). length ts) c.deref_mut.ensures.value,
    )

pub forget-requires-clause-others : goal.forget-requires-clause-others
forget-requires-clause-others c = λ x none.
    ap (λ (ts : List Tally). tally_at ts x) c.deref_mut.ensures.value ∙ (unlisted_there _ _ _ _ c.self.invariant x (ap (λ (xs : List ℕ). is_among xs x) (ap (take c.self.inside.touched) (sym c.deref.ensures.value)) ∙ none)).0

pub forget-requires-clause-unknown : goal.forget-requires-clause-unknown
forget-requires-clause-unknown c = λ x none.
    ap (λ (ms : List Bool). get_or ms x false) c.deref_mut-2.ensures.value ∙ (unlisted_there _ _ _ _ c.self.invariant x (ap (λ (xs : List ℕ). is_among xs x) (ap (take c.self.inside.touched) (sym c.deref.ensures.value)) ∙ none)).1

pub invariant_of-self : goal.invariant_of-self
invariant_of-self c =
    let kept = c.self.invariant in
    let tallies : length c.forget.new.tallies ≡ length c.self.inside.tallies.items = omega (arith, c.forget.auto.tallies, ap (λ (ts : List Tally). length ts) c.deref_mut.ensures.value) in
    let known : length c.forget.new.known ≡ length c.self.inside.known.items = omega (arith, c.forget.auto.known, ap length c.deref_mut-2.ensures.value) in
    let whole = lent_whole c.self.inside.tallies.len c.forget.new.tallies c.self.inside.tallies.items (omega (arith, tallies, c.self.inside.tallies.ok.0)) (omega (arith, c.self.inside.tallies.ok.0)) in
    let marks = lent_whole c.self.inside.known.len c.forget.new.known c.self.inside.known.items (omega (arith, known, c.self.inside.known.ok.0)) (omega (arith, c.self.inside.known.ok.0)) in
    kept_cleared c.forget.new.tallies _ c.forget.new.known _ c.self.inside.list.items whole marks c.forget.ensures.tallies c.forget.ensures.known
    (omega (arith, tallies, kept.listed_room)) (omega (arith, tallies, kept.few)) (omega (arith, tallies, known, kept.marks))

pub returns-clause-clean : goal.returns-clause-clean
returns-clause-clean c =
    let tallies : length c.forget.new.tallies ≡ length c.self.inside.tallies.items = omega (arith, c.forget.auto.tallies, ap (λ (ts : List Tally). length ts) c.deref_mut.ensures.value) in
    let known : length c.forget.new.known ≡ length c.self.inside.known.items = omega (arith, c.forget.auto.known, ap length c.deref_mut-2.ensures.value) in
    let whole = lent_whole c.self.inside.tallies.len c.forget.new.tallies c.self.inside.tallies.items (omega (arith, tallies, c.self.inside.tallies.ok.0)) (omega (arith, c.self.inside.tallies.ok.0)) in
    let marks = lent_whole c.self.inside.known.len c.forget.new.known c.self.inside.known.items (omega (arith, known, c.self.inside.known.ok.0)) (omega (arith, c.self.inside.known.ok.0)) in
    view_cleared c.forget.new.tallies _ c.forget.new.known _ _ whole marks c.forget.ensures.tallies c.forget.ensures.known
