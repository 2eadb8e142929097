use Rattle.std.proofs.Common.{◌<◌, ◌∙◌, ◌∷◌, [], ℕ, ap, map, arith, length}
use Rattle.std.specs.Global.{Vec}
use Rattle.std.proofs.lemmas.List.{map-append}
use Rattle.column_watch.proofs.CountLemmas.{overlaps_more}
use Rattle.column_watch.proofs.HolderLemmas.{keys_of}
use Rattle.column_watch.proofs.overlaps.overlaps.Goals as goal

pub loop-i-preserved : goal.loop-i-preserved
loop-i-preserved c =
    let more = c.in_ok-count_column.field-0 in
    let within : c.loop-i.i < length c.args.table.now.columns = omega (arith, c.columns-i-end.ensures.value) in
    ap (map (λ (v : Vec ℕ). v.items)) c.in_ok-push.ensures.items ∙ map-append (λ (v : Vec ℕ). v.items) c.loop-i.overlaps.items (more ∷ [])
    ∙ overlaps_more (keys_of c.args.queries.now) c.args.table.now c.loop-i.i (map (λ (v : Vec ℕ). v.items) c.loop-i.overlaps.items) more.items within c.loop-i.invariant c.in_ok-count_column.ensures
