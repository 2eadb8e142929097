use Rattle.std.proofs.Common.{◌≤◌, List, length, subst}
use Rattle.std.specs.Prelude.{bytes_eq}
use Rattle.std.specs.List.{IsDistinct}
use Rattle.lake_model.specs.Texts.{Text}
use Rattle.column_set.proofs.ColumnLemmas.{different_at, keys_held, place_held, small_held}
use Rattle.column_set.proofs.table.TableSets.copied_keys.Goals as goal

pub copied-requires : goal.copied-requires
copied-requires c = place_held c.self.invariant c.args.self.now c.self.view_is c.args.place c.requires.low c.requires.high

pub returns-clause-keys : goal.returns-clause-keys
returns-clause-keys c = rw (← keys_held c.self.invariant c.args.self.now c.self.view_is c.args.place c.requires.low c.requires.high) c.copied.ensures

pub returns-clause-small : goal.returns-clause-small
returns-clause-small c =
    let same = keys_held c.self.invariant c.args.self.now c.self.view_is c.args.place c.requires.low c.requires.high in
    subst (λ (keys : List Text). length keys ≤ 4194304) same (small_held c.self.invariant c.args.self.now c.self.view_is c.args.place c.requires.low c.requires.high)

pub returns-clause-different : goal.returns-clause-different
returns-clause-different c =
    let same = keys_held c.self.invariant c.args.self.now c.self.view_is c.args.place c.requires.low c.requires.high in
    subst (IsDistinct bytes_eq) same (different_at c.self.invariant c.args.self.now c.self.view_is c.args.place c.requires.low c.requires.high)
