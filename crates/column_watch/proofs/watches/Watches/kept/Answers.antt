use Rattle.std.proofs.Common.{◌≤◌, ◌∙◌, ap, arith, length}
use Rattle.std.proofs.lemmas.List.{length-map}
use Rattle.column_watch.specs.Watching.{WatchesOf, rows_of, watch_at}
use Rattle.column_watch.specs.Held.{watch_of}
use Rattle.column_watch.proofs.StateLemmas.{kept_rows}
use Rattle.column_watch.proofs.watches.Watches.kept.Goals as goal

pub returns : goal.returns
returns c =
    let states = c.self.inside.queries.items in
    let high : c.args.w ≤ length states = omega (arith, c.requires.high, ap (λ (v : WatchesOf). length v.queries) c.self.view_is, length-map states watch_of) in
    c.kept.ensures ∙ kept_rows c.self.inside.journal.items states c.self.inside.holders c.args.w c.index.result.now c.self.invariant c.requires.low high c.index.ensures
    ∙ ap (λ (v : WatchesOf). length (rows_of v.journal (watch_at v.queries c.args.w))) c.self.view_is
