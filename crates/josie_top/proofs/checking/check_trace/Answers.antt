use Rattle.std.proofs.Common.{rules, ◌≡◌, ◌∙◌, ap, false, subst}
use Rattle.std.specs.Prelude.{None, is_err}
use Rattle.script_model.specs.Options.{Options}
use Rattle.record_model.specs.Rules.{Rules, limits_of, rules_with, standard_rules}
use Rattle.trace_check.specs.Checking.{CheckerOf}
use Rattle.josie_top.specs.Checking.{IsReadWhole, IsStoppedAt, IsVerdict}
use Rattle.josie_top.specs.World.{World, world_of}
use Rattle.josie_top.proofs.CheckFacts.{judged, unjudged, unjudged_still, verdict_by}
use Rattle.josie_top.proofs.StreamFacts.{on_ok}
use Rattle.josie_top.proofs.checking.check_trace.Goals as goal

pub returns-in_default-clause-checked : goal.returns-in_default-clause-checked
returns-in_default-clause-checked g c =
    unjudged_still (standard_rules c.args.options.keys) c.args.options c.args.trace.now
    (world_of (g.S.Source.left c.args.source.now) (g.S.Source.faults c.args.source.now) (g.K.Sink.written c.args.sink.now) (g.K.Sink.faults c.args.sink.now) (g.F.Shelf.files c.args.shelf.now) (g.F.Shelf.faults c.args.shelf.now))

pub returns-in-Err-clause-checked : goal.returns-in-Err-clause-checked
returns-in-Err-clause-checked g c =
    let before : World = world_of (g.S.Source.left c.args.source.now) (g.S.Source.faults c.args.source.now) None 0 (g.F.Shelf.files c.args.shelf.now) (g.F.Shelf.faults c.args.shelf.now) in
    let now : World = world_of (g.S.Source.left c.read_script.new.source) (g.S.Source.faults c.read_script.new.source) None 0 (g.F.Shelf.files c.read_script.new.shelf) (g.F.Shelf.faults c.read_script.new.shelf) in
    let same : c.new-checker.result.options ≡ c.args.options = ap (λ (checker : CheckerOf). checker.options) c.new-checker.ensures in
    unjudged (standard_rules c.args.options.keys) c.args.options c.args.trace.now before now c.in-Err.status (g.K.Sink.written c.args.sink.now) (g.K.Sink.faults c.args.sink.now) (g.K.Sink.faults c.args.sink.now)
    (subst (λ (o : Options). IsStoppedAt o c.in-Err.status before now) same c.in-Err.ensures.stopped)

pub returns-in-Ok-verdict-clause-checked : goal.returns-in-Ok-verdict-clause-checked
returns-in-Ok-verdict-clause-checked g c =
    let before : World = world_of (g.S.Source.left c.args.source.now) (g.S.Source.faults c.args.source.now) None 0 (g.F.Shelf.files c.args.shelf.now) (g.F.Shelf.faults c.args.shelf.now) in
    let now : World = world_of (g.S.Source.left c.read_script.new.source) (g.S.Source.faults c.read_script.new.source) None 0 (g.F.Shelf.files c.read_script.new.shelf) (g.F.Shelf.faults c.read_script.new.shelf) in
    let fine : is_err c.read_script.result ≡ false = search rules in
    let same : c.new-checker.result.options ≡ c.args.options = ap (λ (checker : CheckerOf). checker.options) c.new-checker.ensures in
    let whole = subst (λ (o : Options). IsReadWhole o before now c.read_script.new.checker.batches) same (on_ok c.read_script.result _ fine c.read_script.ensures.whole) in
    let keys : c.options.inside.keys ≡ c.args.options.keys = search rules in
    let rules_are : c.read_script.new.checker.rules ≡ standard_rules c.args.options.keys =
    c.read_script.ensures.same.0 ∙ ap (λ (checker : CheckerOf). checker.rules) c.new-checker.ensures ∙ ap (rules_with c.args.options.keys) (c.limits_of-limits.ensures.value ∙ ap limits_of keys) in
    let options_are : c.read_script.new.checker.options ≡ c.args.options = c.read_script.ensures.same.1 ∙ same in
    let is = verdict_by c.read_script.new.checker.rules c.read_script.new.checker.options c.read_script.new.checker.batches c.args.trace.now c.in-Ok-verdict.verdict c.in-Ok-verdict.ensures.right c.in-Ok-verdict.ensures.none in
    judged (standard_rules c.args.options.keys) c.args.options c.args.trace.now before now c.in-Ok-verdict.verdict c.write_verdict.result c.read_script.new.checker.batches
    (g.K.Sink.written c.args.sink.now) (g.K.Sink.written c.write_verdict.new.sink) (g.K.Sink.faults c.args.sink.now) (g.K.Sink.faults c.write_verdict.new.sink) whole
    (subst (λ (r : Rules). IsVerdict r c.args.options c.read_script.new.checker.batches c.args.trace.now c.in-Ok-verdict.verdict) rules_are
    (subst (λ (o : Options). IsVerdict c.read_script.new.checker.rules o c.read_script.new.checker.batches c.args.trace.now c.in-Ok-verdict.verdict) options_are is))
    c.write_verdict.ensures.written
