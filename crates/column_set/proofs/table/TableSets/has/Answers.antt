use Rattle.std.proofs.Common.{◌∙◌, ap, List}
use Rattle.lake_model.specs.Texts.{Text}
use Rattle.lake_model.specs.Tables.{has_key}
use Rattle.column_set.proofs.ColumnLemmas.{keys_held, place_held}
use Rattle.column_set.proofs.table.TableSets.has.Goals as goal

pub has-requires : goal.has-requires
has-requires c = place_held c.self.invariant c.args.self.now c.self.view_is c.args.place c.requires.low c.requires.high

pub returns : goal.returns
returns c = c.has.ensures ∙ ap (λ (keys : List Text). has_key keys c.args.key.now) (keys_held c.self.invariant c.args.self.now c.self.view_is c.args.place c.requires.low c.requires.high)
