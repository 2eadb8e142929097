use Rattle.std.proofs.Common.{◌≡◌, ◌∙◌, ap, subst}
use Rattle.std.specs.Prelude.{IfOk}
use Rattle.contain_search.specs.Contained.{contain_with}
use Rattle.segment_core.specs.Versions.{LooksOf, VersionOf}
use Rattle.record_model.specs.Replies.{Reply}
use Rattle.run_record.specs.Replies.{reply_of}
use Rattle.command_replies.proofs.SearchLemmas.{contained_here}
use Rattle.command_replies.proofs.searching.find_holding.Goals as goal

pub returns : goal.returns
returns c =
    subst (λ (said : Reply). IfOk c.found.result (λ reply. reply_of reply ≡ said))
    (contained_here c.args.pin.now c.args.query.now c.args.a c.args.b c.in_ok-prepared.prepared c.run.result.rows c.run.result.looks.log c.in_ok-layout.layout
    (c.in_ok-prepared.ensures ∙ ap (λ (looks : LooksOf). contain_with looks.version c.args.query.now c.args.a c.args.b) c.looks.ensures ∙ ap (λ (version : VersionOf). contain_with version c.args.query.now c.args.a c.args.b) c.in_ok-indexed.ensures) c.run.ensures.rows c.run.ensures.log c.in_ok-layout.ensures)
    c.found.ensures
