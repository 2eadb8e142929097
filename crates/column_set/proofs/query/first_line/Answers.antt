use Rattle.std.proofs.Common.{sym}
use Rattle.std.proofs.Math.Seq.{drop-length, take-length}
use Rattle.column_set.proofs.LineLemmas.{all_lines-feed, all_lines-no_feed, text_cut}
use Rattle.column_set.proofs.query.first_line.Goals as goal

pub returns-in-Some-clause-lines : goal.returns-in-Some-clause-lines
returns-in-Some-clause-lines c = all_lines-feed c.args.body.now c.in-Some.at (sym c.in-Some.ensures)

pub returns-in-Some-clause-texts : goal.returns-in-Some-clause-texts
returns-in-Some-clause-texts c = text_cut c.args.body.now c.in-Some.at (sym c.in-Some.ensures)

pub returns-in-None-clause-lines : goal.returns-in-None-clause-lines
returns-in-None-clause-lines c = rw (take-length c.args.body.now, drop-length c.args.body.now) (all_lines-no_feed c.args.body.now c.requires (sym c.in-None.ensures))
