use Rattle.std.proofs.Common.{ap, sym, ◌∙◌, [], get_or}
use Rattle.lake_model.specs.Texts.{Lines}
use Rattle.script_model.proofs.ScriptLemmas.{lines_none}
use Rattle.trace_groups.proofs.GroupLemmas.{lines_split}
use Rattle.trace_groups.proofs.lines.first_line.Goals as goal

pub returns-in-Some-clause-line : goal.returns-in-Some-clause-line
returns-in-Some-clause-line c = sym (ap (λ (ls : Lines). get_or ls.ended 0 []) (lines_split c.args.text.now c.in-Some.pair.0.now c.in-Some.pair.1.now c.in-Some.ensures.line))

pub returns-in-Some-clause-next : goal.returns-in-Some-clause-next
returns-in-Some-clause-next c = sym (ap (λ (ls : Lines). get_or ls.ended 1 []) (lines_split c.args.text.now c.in-Some.pair.0.now c.in-Some.pair.1.now c.in-Some.ensures.line))

pub returns-in-None-clause-line : goal.returns-in-None-clause-line
returns-in-None-clause-line c = sym (ap (λ (ls : Lines). get_or ls.ended 0 []) (lines_none c.args.text.now c.in-None.ensures.none))

pub returns-in-None-clause-next : goal.returns-in-None-clause-next
returns-in-None-clause-next c = ap (λ (ls : Lines). get_or ls.ended 0 []) (lines_none [] tt) ∙ sym (ap (λ (ls : Lines). get_or ls.ended 1 []) (lines_none c.args.text.now c.in-None.ensures.none))
