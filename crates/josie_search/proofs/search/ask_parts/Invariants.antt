use Rattle.std.proofs.Common.{◌≡◌, ◌≤◌, length, take, sum_by}
use Rattle.part_columns.specs.Room.{looks_in}
use Rattle.josie_search.proofs.search.ask_parts.Given as goal

abbrev pub invariant-loop-part : goal.invariant-loop-part
invariant-loop-part l = record {
  end : l.part-end ≡ length l.fn.looks.version.parts;
  version : l.looks.version ≡ l.fn.looks.version;
  log : l.looks.log ≡ l.fn.looks.log;
  room : sum_by (looks_in l.query) (take l.part l.fn.looks.version.parts) ≤ l.looks.spare;
}
