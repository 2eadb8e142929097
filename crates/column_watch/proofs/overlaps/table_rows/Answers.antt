use Rattle.std.proofs.Common.{◌≡◌, ◌<◌, ◌+◌, ◌∙◌, [], ℕ, List, ap, sym, map, arith, get_or, length}
use Rattle.std.specs.Global.{Vec}
use Rattle.std.proofs.lemmas.List.{get_or_default, length-map}
use Rattle.lake_model.specs.Answer.{Row, rows_of_table}
use Rattle.lake_model.specs.Tables.{keys_at, overlap}
use Rattle.column_watch.proofs.CountLemmas.{number_at, numbers_at, row_passed, row_taken}
use Rattle.column_watch.proofs.overlaps.table_rows.Goals as goal
use Rattle.column_watch.proofs.overlaps.table_rows.Goals.{then-overlap-gt0+in_ok-of+in_ok-push, else-overlap-gt0}

pub index-overlap-requires : goal.index-overlap-requires
index-overlap-requires c =
    let i = c.loop-i.i in
    let vectors = c.args.overlaps.now in
    let within : i < length vectors = omega arith in
    let numbers = numbers_at vectors i c.index-overlaps-i.result within c.index-overlaps-i.is in
    let some = c.requires.within i [] (omega (arith, within, length-map vectors (λ (v : Vec ℕ). v.items))) in
    omega (arith, some, ap length numbers, c.index-overlaps-i.result.ok.0)

pub loop-i-preserved : goal.loop-i-preserved
loop-i-preserved c = λ query same.
    let i = c.loop-i.i in
    let w = c.args.w in
    let table = c.args.table.now in
    let vectors = c.args.overlaps.now in
    let within : i < length vectors = omega arith in
    let inside : i < length table.columns = omega (arith, within, c.requires.as_many) in
    let enough : i < length (map (λ (v : Vec ℕ). v.items) vectors) = omega (arith, within, length-map vectors (λ (v : Vec ℕ). v.items)) in
    let numbers = numbers_at vectors i c.index-overlaps-i.result within c.index-overlaps-i.is in
    let some = c.requires.within i [] enough in
    let wide : w < length c.index-overlaps-i.result.items = omega (arith, some, ap length numbers) in
    let is : c.index-overlap.result.now ≡ overlap query (keys_at table (i + 1)) =
    c.index-overlap.ensures ∙ get_or_default c.index-overlaps-i.result.items w c.index-overlap.result.now 0 wide ∙ ap (λ (us : List ℕ). get_or us w 0) (sym numbers)
    ∙ number_at (map (λ (v : Vec ℕ). v.items) vectors) table w query i [] inside enough same in
    elim c.if-overlap-gt0.branch [
      | then-overlap-gt0+in_ok-of+in_ok-push b ↦ row_taken query table i c.loop-i.rows.items (rows_of_table query table) c.if-overlap-gt0.rows.items b.in_ok-of.field-0 b.titles.result.now.value c.index-overlap.result.now inside (c.loop-i.invariant query same) is
          b.titles.ensures (omega arith) b.in_ok-of.ensures (ap (λ (v : Vec Row). v.items) b.rows-is ∙ b.in_ok-push.ensures.items)
      | else-overlap-gt0 b ↦ row_passed query table i c.loop-i.rows.items (rows_of_table query table) c.if-overlap-gt0.rows.items c.index-overlap.result.now inside (c.loop-i.invariant query same) is (omega arith) (ap (λ (v : Vec Row). v.items) b.rows-is)
    ]
