use Rattle.std.proofs.Common.{rules, ◌≡◌, sym, subst, false}
use Rattle.std.specs.Prelude.{is_err}
use Rattle.lake_model.specs.declared.Keys.TheVariants.{Canonical}
use Rattle.record_model.specs.Rules.{standard_rules}
use Rattle.record_model.specs.declared.Status.{Status}
use Rattle.record_model.specs.Record.{empty}
use Rattle.script_model.specs.Options.{plain}
use Rattle.option_model.specs.Makes.{IsLakeMade}
use Rattle.josie_top.specs.Meets.{Makes}
use Rattle.josie_top.specs.World.{with_sink}
use Rattle.josie_top.proofs.MakingFacts.{nothing_made_of, whole_summary, part_of_summary}
use Rattle.josie_top.proofs.RunFacts.{done_moves, memory_moves, sink_moved, still}
use Rattle.josie_top.proofs.StreamFacts.{on_ok}
use Rattle.josie_top.proofs.making.make_lake.Goals as goal

pub returns-then-is_err-clause-table : goal.returns-then-is_err-clause-table
returns-then-is_err-clause-table g c = λ outside.
    let none : c.fill_record.new.out.made ≡ empty plain = search rules in nothing_made_of (standard_rules Canonical) c.args.seed c.args.tables c.args.rows _ c.fill_record.new.out.made none

pub returns-then-is_err-clause-moves : goal.returns-then-is_err-clause-moves
returns-then-is_err-clause-moves g c = λ outside. memory_moves (still _)

pub returns-in-Ok-clause-table : goal.returns-in-Ok-clause-table
returns-in-Ok-clause-table g c = λ outside.
    let made : IsLakeMade (standard_rules Canonical) c.args.seed c.args.tables c.args.rows c.fill_record.new.out.made = on_ok c.fill_record.result _ (let fine : is_err c.fill_record.result ≡ false = search rules in fine) c.fill_record.ensures.made in
    whole_summary (standard_rules Canonical) c.args.seed c.args.tables c.args.rows _ _ c.fill_record.new.out.made made c.in-Ok.ensures.all

pub returns-in-Ok-clause-moves : goal.returns-in-Ok-clause-moves
returns-in-Ok-clause-moves g c = λ outside. done_moves (sink_moved _ _ _ c.write_made.ensures.later)

pub returns-in-Err-clause-table : goal.returns-in-Err-clause-table
returns-in-Err-clause-table g c = λ outside.
    let made : IsLakeMade (standard_rules Canonical) c.args.seed c.args.tables c.args.rows c.fill_record.new.out.made = on_ok c.fill_record.result _ (let fine : is_err c.fill_record.result ≡ false = search rules in fine) c.fill_record.ensures.made in
    subst (λ (s : Status). Makes (standard_rules Canonical) c.args.seed c.args.tables c.args.rows s (with_sink (g.K.Sink.written c.args.sink.now) (g.K.Sink.faults c.args.sink.now) outside) (with_sink (g.K.Sink.written c.write_made.new.sink) (g.K.Sink.faults c.write_made.new.sink) outside) c.fill_record.new.out.made) (sym c.status_of_stop.ensures)
    (part_of_summary (standard_rules Canonical) c.args.seed c.args.tables c.args.rows c.in-Err.stop _ _ c.fill_record.new.out.made made c.in-Err.ensures.part)
