use Rattle.std.proofs.Common.{take}
use Rattle.josie_top.proofs.TextFacts.{prefix_take}
use Rattle.josie_top.proofs.watching.write_text.Goals as goal

pub returns-in-Err-clause-part : goal.returns-in-Err-clause-part
returns-in-Err-clause-part g c =
    let (count, below, wrote) = c.in-Err.ensures.part in
    (take count c.args.text.now, prefix_take count c.args.text.now, wrote)
