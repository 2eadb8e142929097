use Rattle.std.proofs.Common.{rules, ◌≡◌, [], subst, take}
use Rattle.record_model.specs.Statuses.{IsPrefix}
use Rattle.record_model.specs.Texts.{text_behind}
use Rattle.josie_top.proofs.TextFacts.{prefix_take}
use Rattle.josie_top.proofs.writing.write_record.Goals as goal

pub returns-clause-part : goal.returns-clause-part
returns-clause-part g c =
    let (count, below, wrote) = c.in-Err.ensures.part in
    let all : c.new-text.result.items ≡ [] = search rules in
    let text : c.as_slice.result.now ≡ text_behind c.args.made.now.made.options.trace c.args.first c.args.made.now.made = search rules in
    (take count c.as_slice.result.now, subst (IsPrefix (take count c.as_slice.result.now)) text (prefix_take count c.as_slice.result.now), wrote)
