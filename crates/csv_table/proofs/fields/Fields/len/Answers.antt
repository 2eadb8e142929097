use Rattle.std.proofs.Common.{◌∙◌, ap, length, string_bytes, subst, sym}
use Rattle.std.proofs.lemmas.Str.{IsUtf8-string_bytes}
use Rattle.csv.specs.Records.{AllText}
use Rattle.csv_table.proofs.CutLemmas.{length-cut_from, parts_text}
use Rattle.csv_table.proofs.fields.Fields.len.Goals as goal

pub returns-clause-value : goal.returns-clause-value
returns-clause-value c =
    let fields = c.self.inside in
    c.len.ensures ∙ fields.ends.ok.0 ∙ sym (length-cut_from 0 fields.ends.items (string_bytes fields.text)) ∙ ap length c.self.view_is

pub returns-clause-texts : goal.returns-clause-texts
returns-clause-texts c =
    let fields = c.self.inside in
    subst AllText c.self.view_is (parts_text fields.ends.items (string_bytes fields.text) (IsUtf8-string_bytes fields.text) c.self.invariant)
