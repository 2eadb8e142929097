use Rattle.std.proofs.Common.{◌≡◌, ◌∙◌, sym, ap, subst, ◌<◌, List, length, Some, None}
use Rattle.std.specs.Prelude.{find, IfNone, IfSome}
use Rattle.lake_model.specs.Journal.{has_name}
use Rattle.lake_model.specs.Tables.{Table}
use Rattle.search_model.specs.Arrays.{table_at}
use Rattle.segment_core.specs.LiveColumn.{tables_without, unmarked_in}
use Rattle.segment_core.specs.Versions.{tables_of}
use Rattle.segment_core.proofs.ColumnLemmas.{unmarked_places}
use Rattle.segment_core.proofs.PartLemmas.{tables_with}
use Rattle.segment_core.proofs.version.Part.live_table.Goals as goal

pub returns : goal.returns
returns c =
    let name = c.args.name.now in
    let found = c.unmarked_of.ensures in
    let all : c.tables.result.now ≡ tables_of c.args.self.now =
    c.tables.ensures ∙ c.deref.ensures ∙ sym (tables_with c.self.inside.number c.self.inside.positions c.self.inside.segment.value c.self.inside.marked c.self.invariant.0 c.self.invariant.1) ∙ ap tables_of c.self.view_is in
    let kept : tables_without c.tables.result.now c.list.result.now ≡ unmarked_in c.args.self.now =
    rw (c.tables.ensures, c.deref.ensures, c.list.ensures) (sym (unmarked_places c.self.inside.positions c.self.inside.segment.value c.self.inside.marked c.self.invariant.0 c.self.invariant.1)) ∙ ap unmarked_in c.self.view_is in
    record {
      there = subst (λ (ts : List Table). IfSome c.unmarked_of.result (λ i. i < length ts)) all found.there;
      found =
          subst (λ (ts : List Table). IfSome c.unmarked_of.result (λ i. find (has_name name) ts ≡ Some (table_at (tables_of c.args.self.now) i))) kept
          (subst (λ (ts : List Table). IfSome c.unmarked_of.result (λ i. find (has_name name) (tables_without c.tables.result.now c.list.result.now) ≡ Some (table_at ts i))) all found.found);
      lacking = subst (λ (ts : List Table). IfNone c.unmarked_of.result (find (has_name name) ts ≡ None)) kept found.lacking;
    }
