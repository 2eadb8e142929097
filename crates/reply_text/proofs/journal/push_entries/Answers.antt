use Rattle.std.proofs.Common.{arith}
use Rattle.record_model.specs.Texts.{entry_line}
use Rattle.script_model.specs.Words.{line_text}
use Rattle.reply_text.proofs.KeepingLemmas.{keeps_behind}
use Rattle.reply_text.proofs.NumberedLemmas.{numbered_more}
use Rattle.reply_text.proofs.journal.push_entries.Goals as goal

pub loop-index-preserved : goal.loop-index-preserved
loop-index-preserved c =
    numbered_more entry_line line_text _ _ _ c.args.entries.now c.loop-index.index c.index-entries-index.result (omega arith) c.index-entries-index.is c.loop-index.invariant c.in_ok-push_entry.ensures.ok

pub returns-in_err-push_entry-clause-kept : goal.returns-in_err-push_entry-clause-kept
returns-in_err-push_entry-clause-kept c = keeps_behind _ _ _ _ c.loop-index.invariant c.push_entry.ensures.kept
