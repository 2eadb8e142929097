use Rattle.std.proofs.Common.{◌≡◌, ◌++◌, ◌∙◌, ap, sym, subst, List, append-nil, flat_map, length}
use Rattle.std.specs.Prelude.{OnOk}
use Rattle.lake_model.specs.Texts.{Text}
use Rattle.script_model.specs.Words.{line_text}
use Rattle.column_watch.specs.Watching.{answer_of, before_last, watch_at}
use Rattle.reply_text.proofs.KeepingLemmas.{keeps_all}
use Rattle.watch_text.proofs.ToldLemmas.{told_changed, told_unchanged}
use Rattle.watch_text.proofs.told.tell_query.Goals as goal

pub returns-then-not-changed-clause-ok : goal.returns-then-not-changed-clause-ok
returns-then-not-changed-clause-ok c =
    let journal = c.args.watches.now.journal in
    let query = watch_at c.args.watches.now.queries c.args.number in
    let told = told_unchanged c.changed.result (length journal) c.args.number (answer_of (before_last journal) query) (answer_of journal query) c.if-not-changed.true c.changed.ensures in
    sym (ap (λ (lines : List Text). c.args.into.now.items ++ flat_map line_text lines) told ∙ append-nil c.args.into.now.items)

pub returns-clause-ok : goal.returns-clause-ok
returns-clause-ok c =
    let journal = c.args.watches.now.journal in
    let query = watch_at c.args.watches.now.queries c.args.number in
    let told = told_changed c.changed.result (length journal) c.args.number (answer_of (before_last journal) query) (answer_of journal query) c.if-not-changed.false c.changed.ensures in
    subst (λ (lines : List Text). OnOk c.push_change.result (c.push_change.new.into.items ≡ c.args.into.now.items ++ flat_map line_text lines)) (sym told) c.push_change.ensures.ok

pub returns-then-not-changed-clause-kept : goal.returns-then-not-changed-clause-kept
returns-then-not-changed-clause-kept c = keeps_all c.args.into.now.items
