use Rattle.std.proofs.Common.{◌∙◌, ap, List, Option, ℕ, is_some}
use Rattle.std.specs.List.{list_any}
use Rattle.std.specs.BTreeMap.{get_by_text}
use Rattle.lake_model.specs.Texts.{Text}
use Rattle.lake_model.specs.Tables.{Table}
use Rattle.lake_model.specs.Journal.{has_name, is_live}
use Rattle.lake_model.specs.Layout.{layout, unmarked_of}
use Rattle.catalogue.proofs.PlaceLemmas.{load_is_named}
use Rattle.catalogue.proofs.catalogue.Catalogue.live.Goals as goal

pub returns : goal.returns
returns c =
    let kept = c.self.invariant in
    c.contains_key.ensures ∙ ap (λ (name : Text). is_some (get_by_text c.self.inside.positions name)) c.text.ensures ∙ ap (λ (o : Option ℕ). is_some o) (kept.placed c.args.name.now)
    ∙ load_is_named c.args.name.now (unmarked_of (layout c.self.inside.journal.items)) ∙ ap (λ (ts : List Table). list_any (has_name c.args.name.now) ts) kept.searched
    ∙ ap (λ k. is_live k.journal c.args.name.now) c.self.view_is
