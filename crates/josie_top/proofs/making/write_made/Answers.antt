use Rattle.std.proofs.Common.{rules, ◌≡◌, ◌∙◌, ℕ, List, ap, subst, take, ◌++◌, false}
use Rattle.std.specs.Prelude.{is_err}
use Rattle.option_model.specs.Generator.{summary}
use Rattle.record_model.specs.Statuses.{IsPrefix}
use Rattle.josie_top.proofs.StreamFacts.{on_ok}
use Rattle.josie_top.proofs.TextFacts.{prefix_take}
use Rattle.josie_top.proofs.making.write_made.Goals as goal

pub returns-clause-part : goal.returns-clause-part
returns-clause-part g c =
    let (count, below, wrote) = c.in-Err.ensures.part in
    let written : c.write_summary.new.into.items ≡ c.new-text.result.items ++ summary c.args.made.now.made = on_ok c.write_summary.result _ (let fine : is_err c.write_summary.result ≡ false = search rules in fine) c.write_summary.ensures.ok in
    let text : c.as_slice.result.now ≡ summary c.args.made.now.made = c.as_slice.ensures.value ∙ written ∙ ap (λ (t : List ℕ). t ++ summary c.args.made.now.made) c.new-text.ensures.items in
    (take count c.as_slice.result.now, subst (IsPrefix (take count c.as_slice.result.now)) text (prefix_take count c.as_slice.result.now), wrote)
