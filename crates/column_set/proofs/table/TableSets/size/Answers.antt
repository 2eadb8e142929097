use Rattle.std.proofs.Common.{◌∙◌, ap, arith, length, subst}
use Rattle.std.specs.Prelude.{bytes_eq}
use Rattle.std.specs.List.{IsDistinct}
use Rattle.column_set.proofs.ColumnLemmas.{different_at, keys_held, place_held, small_held}
use Rattle.column_set.proofs.table.TableSets.size.Goals as goal

pub size-requires : goal.size-requires
size-requires c = place_held c.self.invariant c.args.self.now c.self.view_is c.args.place c.requires.low c.requires.high

pub returns-clause-value : goal.returns-clause-value
returns-clause-value c = c.size.ensures ∙ ap length (keys_held c.self.invariant c.args.self.now c.self.view_is c.args.place c.requires.low c.requires.high)

pub returns-clause-small : goal.returns-clause-small
returns-clause-small c = omega (arith, small_held c.self.invariant c.args.self.now c.self.view_is c.args.place c.requires.low c.requires.high, c.size.ensures)

pub returns-clause-different : goal.returns-clause-different
returns-clause-different c = subst (IsDistinct bytes_eq) (keys_held c.self.invariant c.args.self.now c.self.view_is c.args.place c.requires.low c.requires.high) (different_at c.self.invariant c.args.self.now c.self.view_is c.args.place c.requires.low c.requires.high)
