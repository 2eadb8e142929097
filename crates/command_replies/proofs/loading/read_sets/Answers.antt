use Rattle.std.proofs.Common.{◌≡◌, ap, sym, ◌∙◌, subst}
use Rattle.lake_model.specs.Records.{table_of}
use Rattle.record_model.specs.Replies.{csv_reply, sets_reply}
use Rattle.record_model.specs.Answered.{table_read, IsTable}
use Rattle.command_replies.specs.Loads.{IsRefusal}
use Rattle.command_replies.proofs.LoadLemmas.{csv_refusal, sets_refusal, table_made}
use Rattle.command_replies.proofs.loading.read_sets.Goals as goal

pub returns-in-Err-clause-refused : goal.returns-in-Err-clause-refused
returns-in-Err-clause-refused c =
    let name = c.args.name.now in
    let refused = c.in-Err.refused in
    let here : IsRefusal (table_read c.args.keys name c.bytes.result.now) (csv_reply refused) = csv_refusal c.args.keys name c.bytes.result.now c.most_columns.result c.most_columns.ensures.value refused c.in-Err.ensures.refused in
    subst (IsRefusal (table_read c.args.keys name c.args.body.now)) (sym c.reply_to_csv.ensures) (subst (λ bytes. IsRefusal (table_read c.args.keys name bytes) (csv_reply refused)) c.bytes.ensures.value here)

pub returns-in-Err-build-clause-refused : goal.returns-in-Err-build-clause-refused
returns-in-Err-build-clause-refused c =
    let name = c.args.name.now in
    let refused = c.in-Err-build.refused in
    let here : IsRefusal (table_read c.args.keys name c.bytes.result.now) (sets_reply refused) =
    sets_refusal c.args.keys name c.bytes.result.now c.most_columns.result c.most_columns.ensures.value c.in-Ok.raw refused c.in-Ok.ensures.sound c.in-Ok.ensures.table c.in-Err-build.ensures.refused in
    subst (IsRefusal (table_read c.args.keys name c.args.body.now)) (sym c.reply_to_sets.ensures) (subst (λ bytes. IsRefusal (table_read c.args.keys name bytes) (sets_reply refused)) c.bytes.ensures.value here)

pub returns-in-Ok-new-clause-table : goal.returns-in-Ok-new-clause-table
returns-in-Ok-new-clause-table c =
    let name = c.args.name.now in
    let raw = c.in-Ok.raw in
    let made : table_read c.args.keys name c.bytes.result.now ≡ IsTable (table_of c.args.keys name raw) = table_made c.args.keys name c.bytes.result.now c.most_columns.result c.most_columns.ensures.value raw c.in-Ok.ensures.sound c.in-Ok.ensures.table c.in-Ok-build.ensures.sound in
    ap (table_read c.args.keys name) (sym c.bytes.ensures.value) ∙ made
    ∙ ap (λ n. IsTable (table_of c.args.keys n raw)) (sym c.copy.ensures) ∙ ap IsTable (sym (c.in-Ok-new.ensures ∙ c.in-Ok-build.ensures.table))
