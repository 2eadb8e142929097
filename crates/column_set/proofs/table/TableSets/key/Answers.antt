use Rattle.std.proofs.Common.{◌∙◌, ap, List, get_or, []}
use Rattle.lake_model.specs.Texts.{Text}
use Rattle.column_set.proofs.ColumnLemmas.{keys_held, place_held}
use Rattle.column_set.proofs.table.TableSets.key.Goals as goal

pub key-requires : goal.key-requires
key-requires c = place_held c.self.invariant c.args.self.now c.self.view_is c.args.place c.requires.low c.requires.high

pub returns : goal.returns
returns c = c.key.ensures ∙ ap (λ (keys : List Text). get_or keys c.args.i []) (keys_held c.self.invariant c.args.self.now c.self.view_is c.args.place c.requires.low c.requires.high)
