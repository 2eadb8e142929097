use Rattle.std.proofs.Common.{◌≡◌, ◌<◌, ◌+◌, ap, sym, ◌∙◌, inl, inr, length, arith}
use Rattle.std.proofs.lemmas.Bool.{cases_lt}
use Rattle.std.proofs.lemmas.List.{get_or_default}
use Rattle.part_columns.specs.Columns.{ColumnsOf}
use Rattle.part_columns.specs.declared.tally.Tally.{Tally}
use Rattle.part_columns.specs.Tallies.{no_tally, tally_at, tally_with}
use Rattle.part_columns.proofs.TouchedLemmas.{kept_again, kept_first}
use Rattle.part_columns.proofs.columns.Columns.raise.Goals as goal

pub invariant_of-self : goal.invariant_of-self
invariant_of-self c =
    let x = c.args.posting.now.column in
    let tallies = c.self.inside.tallies.items in
    let kept = c.self.invariant in
    let within : x < length tallies = omega (arith, c.requires.within, ap (λ (v : ColumnsOf). length v.tallies) c.self.view_is) in
    let is : c.index-tally.result.now ≡ tally_at tallies x = c.index-tally.ensures ∙ get_or_default tallies x c.index-tally.result.now no_tally within in
    let count = ap (λ (t : Tally). t.count) is in
    let tally = tally_with (c.index-tally.result.now.count + 1) c.args.posting.now.rest in
    elim (cases_lt 0 c.index-tally.result.now.count) [
      | inl some ↦ kept_again _ _ _ _ kept x tally within (omega arith) _ (c.more_touched-self-inside.ensures.again some) (omega (arith, count, some))
      | inr least ↦
          let none : c.index-tally.result.now.count ≡ 0 = omega (arith, least) in
          kept_first _ _ _ _ kept x tally within (omega arith) _ (c.more_touched-self-inside.ensures.first none) (sym count ∙ none)
    ]
