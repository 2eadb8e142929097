use Rattle.std.proofs.Common.{◌≡◌, ◌∙◌, sym, ap, subst, ◌+◌, ◌⊎◌, List, drop, IfErr, IfOk, None, OnOk, Option, Some}
use Rattle.std.specs.Prelude.{find}
use Rattle.std.specs.Option.{option_or}
use Rattle.lake_model.specs.Journal.{has_name}
use Rattle.lake_model.specs.Layout.{Part}
use Rattle.lake_model.specs.Tables.{Table}
use Rattle.search_model.specs.Arrays.{table_at}
use Rattle.segment_core.specs.LiveColumn.{fault_in, keys_in, live_named, unmarked_in}
use Rattle.segment_core.specs.declared.column.ColumnRefused.TheVariants.{NoMemory}
use Rattle.segment_core.proofs.ColumnLemmas.{part_more}
use Rattle.segment_core.proofs.column.live_column.Goals as goal

pub returns-in-Some : goal.returns-in-Some
returns-in-Some c =
    let name = c.args.name.now in
    let i = c.loop-part.part-index in
    let later : Option Table = live_named (drop (i + 1) c.args.parts.now) name in
    let named : live_named c.args.parts.now name ≡ Some (table_at c.segment.result.now c.in-Some.table) =
    sym c.loop-part.invariant ∙ part_more name c.args.parts.now i c.part-item.result c.loop-part-test.true ∙ ap (λ (part : Part). option_or (find (has_name name) (unmarked_in part)) later) (sym c.part-item.is) ∙ ap (λ (found : Option Table). option_or found later) c.in-Some.ensures.found
    ∙ ap (λ (ts : List Table). Some (table_at ts c.in-Some.table)) (sym c.segment.ensures) in
    record {
      keys = subst (λ (found : Option Table). IfOk c.column.result (λ query. query ≡ keys_in c.args.place found)) (sym named) c.column.ensures.keys;
      sound = subst (λ (found : Option Table). OnOk c.column.result (fault_in c.args.place found ≡ None)) (sym named) c.column.ensures.sound;
      refused = subst (λ (found : Option Table). IfErr c.column.result (λ e. (e ≡ NoMemory) ⊎ (fault_in c.args.place found ≡ Some e))) (sym named) c.column.ensures.refused;
    }

pub loop-part-preserved : goal.loop-part-preserved
loop-part-preserved c =
    let name = c.args.name.now in
    let i = c.loop-part.part-index in
    let later : Option Table = live_named (drop (i + 1) c.args.parts.now) name in
    let here : live_named (drop i c.args.parts.now) name ≡ later =
    part_more name c.args.parts.now i c.part-item.result c.loop-part-test.true ∙ ap (λ (part : Part). option_or (find (has_name name) (unmarked_in part)) later) (sym c.part-item.is) ∙ ap (λ (found : Option Table). option_or found later) c.in_default.ensures.lacking in
    sym here ∙ c.loop-part.invariant
