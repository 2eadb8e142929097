use Rattle.std.proofs.Common.{◌∙◌, ap}
use Rattle.lake_model.specs.Tables.{overlap}
use Rattle.column_set.proofs.ColumnLemmas.{different_at, keys_held, place_held}
use Rattle.column_set.proofs.table.TableSets.overlap.Goals as goal

pub shared_with-requires : goal.shared_with-requires
shared_with-requires c = record {
  there = place_held c.self.invariant c.args.self.now c.self.view_is c.args.place c.requires.low c.requires.high;
  different = different_at c.self.invariant c.args.self.now c.self.view_is c.args.place c.requires.low c.requires.high;
}

pub returns : goal.returns
returns c = record { value = c.shared_with.ensures ∙ ap (overlap c.args.query.now) (keys_held c.self.invariant c.args.self.now c.self.view_is c.args.place c.requires.low c.requires.high) }
