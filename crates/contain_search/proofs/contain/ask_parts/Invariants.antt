use Rattle.std.proofs.Common.{◌≡◌, ◌≤◌, length, take, sum_by}
use Rattle.contain_search.specs.Met.{looks_for, rows_for}
use Rattle.contain_search.proofs.contain.ask_parts.Given as goal

abbrev pub invariant-loop-part : goal.invariant-loop-part
invariant-loop-part l = record {
  end : l.part-end ≡ length l.fn.looks.version.parts;
  version : l.looks.version ≡ l.fn.looks.version;
  log : l.looks.log ≡ l.fn.looks.log;
  looks : sum_by (looks_for l.query l.least) (take l.part l.fn.looks.version.parts) ≤ l.looks.spare;
  rows : sum_by (rows_for l.query l.least) (take l.part l.fn.looks.version.parts) ≤ l.rows;
  few : l.rows ≤ l.looks.spare;
}
