use Rattle.std.proofs.Common.{◌∙◌, ap, ℕ, List}
use Rattle.csv.specs.Reading.{default_config, records, strip_bom}
use Rattle.lake_model.specs.Records.{records_of}
use Rattle.csv_table.specs.WideRecords.{first_wide}
use Rattle.csv_table.proofs.WideLemmas.{found_by}
use Rattle.csv_table.proofs.widths.wide_record.Goals as goal

pub returns : goal.returns
returns c =
    let bytes = c.behind_mark-2.ensures ∙ ap strip_bom c.behind_mark.ensures in
    found_by (first_wide c.args.most 1 (records_of c.args.bytes.now)) _
    (c.first_wide_record.ensures ∙ ap (λ (text : List ℕ). first_wide c.args.most 1 (records default_config text)) bytes)
