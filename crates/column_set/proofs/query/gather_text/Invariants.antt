use Rattle.std.proofs.Common.{◌≡◌, [], length}
use Rattle.std.specs.Prelude.{fold}
use Rattle.std.specs.List.{filter_map}
use Rattle.lake_model.specs.Texts.{all_lines}
use Rattle.lake_model.specs.Keys.{key}
use Rattle.lake_model.specs.Tables.{add_key}
use Rattle.lake_model.specs.Queries.{query_of}
use Rattle.column_set.proofs.query.gather_text.Given as goal
use denote.Shadow.{shadow}
use denote.Text.{Utf8}

-- the keys so far with those of the remaining lines are the query's
abbrev pub invariant-loop-rest : goal.invariant-loop-rest
invariant-loop-rest l = record {
  text : shadow (Utf8 l.rest);
  none : l.lists.finished ≡ [];
  keys : query_of l.fn.keys l.fn.text ≡ fold add_key l.lists.current (filter_map (key l.fn.keys) (all_lines l.rest));
}

abbrev pub decreases-loop-rest : goal.decreases-loop-rest
decreases-loop-rest l = length l.rest
