use Rattle.std.proofs.Common.{◌≡◌, ◌<◌, ◌≤◌, length, map, drop, sum_by, vec_capacity}
use Rattle.std.specs.Prelude.{IfSome}
use Rattle.search_model.specs.Looks.{searched}
use Rattle.part_columns.specs.Room.{IsMost, looks_in}
use Rattle.josie_search.specs.Ready.{IsFree, IsReadySet}
use Rattle.josie_search.proofs.PartsLemmas.{Through}
use Rattle.josie_search.proofs.search.Prepared.run.Given as goal

abbrev pub invariant-loop-part : goal.invariant-loop-part
invariant-loop-part g l = record {
  end : l.part-end ≡ length l.fn.self.version.parts;
  version : l.looks.version ≡ l.fn.self.version;
  through : Through (g.C.Chooser.says l.chooser) l.fn.self.query (map (searched l.fn.self.query) l.fn.self.version.parts) l.part l.looks.log l.top.rows;
  k : l.top.k ≡ l.fn.self.query.k;
  wide : IsMost l.fn.self.version.parts (length l.seats.columns.tallies);
  free : IsFree l.seats.most l.seats.columns l.seats.candidates;
  sums : length l.fn.self.query.keys < vec_capacity l.sums;
  set : IfSome l.set (λ set. IsReadySet set (map (λ v. v.items) l.tokens.items));
  room : sum_by (looks_in l.fn.self.query.keys) (drop l.part l.fn.self.version.parts) ≤ l.looks.spare;
}
