use Rattle.std.proofs.Common.{◌++◌, ◌∙◌, ap, sym, List, append-nil, arith}
use Rattle.lake_model.specs.Texts.{Text}
use Rattle.lake_model.specs.Journal.{Entry}
use Rattle.record_model.proofs.WatchLemmas.{watch_text_none}
use Rattle.column_watch.specs.Watching.{watches_with}
use Rattle.reply_text.proofs.KeepingLemmas.{keeps_all, keeps_on}
use Rattle.watch_text.proofs.ToldLemmas.{begun_more, taken_more, text_more}
use Rattle.watch_text.proofs.told.tell_entries.Goals as goal

pub loop-entry-init : goal.loop-entry-init
loop-entry-init c =
    let start = c.args.watches.now in
    let text = c.args.into.now.items in
    record {
      taken = ap (λ (entries : List Entry). watches_with entries start.queries) (sym (append-nil start.journal));
      text = λ k queries listed. sym (ap (λ (t : Text). text ++ t) (watch_text_none k queries start.journal) ∙ append-nil text);
      kept = keeps_all text;
    }

pub loop-entry-preserved : goal.loop-entry-preserved
loop-entry-preserved c =
    let start = c.args.watches.now in
    let before = c.loop-entry.watches in
    let entry = c.entry-item.result in
    record {
      taken = taken_more start.journal c.args.entries.now start.queries before c.tell_entry.new.watches c.loop-entry.entry-index entry (omega arith) c.entry-item.is c.loop-entry.invariant.taken c.in_ok-tell_entry.ensures.taken;
      text = λ k queries listed. text_more k queries start.journal c.args.entries.now start.queries before c.loop-entry.entry-index entry c.args.into.now.items c.loop-entry.into.items c.tell_entry.new.into.items
          (omega arith) c.entry-item.is listed c.loop-entry.invariant.taken (c.loop-entry.invariant.text k queries listed) c.in_ok-tell_entry.ensures.text;
      kept = keeps_on _ _ _ c.loop-entry.invariant.kept c.tell_entry.ensures.kept;
    }

pub returns-in_err-tell_entry-clause-kept : goal.returns-in_err-tell_entry-clause-kept
returns-in_err-tell_entry-clause-kept c = keeps_on _ _ _ c.loop-entry.invariant.kept c.tell_entry.ensures.kept

pub returns-in_err-tell_entry-clause-begun : goal.returns-in_err-tell_entry-clause-begun
returns-in_err-tell_entry-clause-begun c = begun_more c.args.watches.now c.loop-entry.watches c.tell_entry.new.watches c.args.entries.now c.loop-entry.entry-index c.entry-item.result
    (omega arith) c.entry-item.is c.loop-entry.invariant.taken c.tell_entry.ensures.begun
