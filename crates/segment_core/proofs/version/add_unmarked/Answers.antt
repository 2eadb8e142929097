use Rattle.std.proofs.Common.{◌≡◌, ◌∙◌, sym, ap, ◌<◌, List, [], ◌∷◌, ◌++◌, Bool, true, false, cond, map, length, get_or, take, arith, append-nil, append_assoc}
use Rattle.std.proofs.lemmas.List.{map-append, get_or_default}
use Rattle.lake_model.specs.Tables.{Table, members, Line, line_of, line_with}
use Rattle.search_model.specs.Arrays.{no_table, table_at}
use Rattle.segment_core.specs.Lines.{line_from, lines_without}
use Rattle.segment_core.proofs.ShownLemmas.{without_more}
use Rattle.segment_core.proofs.version.add_unmarked.Goals as goal
use Rattle.segment_core.proofs.version.add_unmarked.Goals.{then-not-marks-i+in_ok-push, else-not-marks-i}

pub loop-i-preserved : goal.loop-i-preserved
loop-i-preserved c =
    let i = c.loop-i.i in
    let tables = c.args.tables.now in
    let marks = c.args.marks.now in
    let first = map line_from c.args.lines.now.items in
    let before = lines_without (take i tables) (take i marks) in
    let within : i < length tables = omega arith in
    let more = λ (b : Bool) (e : get_or marks i false ≡ b). without_more tables marks i within c.requires ∙ ap (λ (b : Bool). before ++ cond b [] (line_of (table_at tables i) ∷ [])) e in
    let table : c.table-table.result.now ≡ table_at tables i = c.table-table.ensures ∙ c.index-tables-i.is ∙ get_or_default tables i c.index-tables-i.result no_table within in
    elim c.if-not-marks-i.branch [
      | then-not-marks-i+in_ok-push w ↦
          let name : w.copy.result ≡ (table_at tables i).name = w.copy.ensures ∙ w.name.ensures ∙ ap (λ (t : Table). t.name) table in
          let columns : w.columns.result ≡ length (table_at tables i).columns = w.columns.ensures.value ∙ ap (λ (t : Table). length t.columns) table in
          let count : w.members.result ≡ members (table_at tables i) = w.members.ensures ∙ ap members table in
          let line : line_with w.copy.result w.columns.result w.members.result ≡ line_of (table_at tables i) = (λ j. line_with (name j) (columns j) (count j)) in
          ap (λ v. map line_from v.items) w.lines-is
          ∙ ap (map line_from) w.in_ok-push.ensures.items
          ∙ map-append line_from c.loop-i.lines.items ((w.copy.result, w.columns.result, w.members.result) ∷ [])
          ∙ ap (λ (ls : List Line). ls ++ line_with w.copy.result w.columns.result w.members.result ∷ []) c.loop-i.invariant
          ∙ append_assoc first before (line_with w.copy.result w.columns.result w.members.result ∷ [])
          ∙ ap (λ (l : Line). first ++ (before ++ l ∷ [])) line
          ∙ ap (λ (ls : List Line). first ++ ls) (sym (more false w.if-not-marks-i.true))
      | else-not-marks-i w ↦
          ap (λ v. map line_from v.items) w.lines-is ∙ c.loop-i.invariant ∙ ap (λ (ls : List Line). first ++ ls) (sym (append-nil before) ∙ sym (more true w.if-not-marks-i.false))
    ]
