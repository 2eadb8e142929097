use Rattle.clap.specs.Words.{found_of, rows_of}
use Rattle.clap.proofs.TakesLemmas.{passed_up}
use Rattle.command_line.proofs.CommandLemmas.{no_paths}
use Rattle.command_line.proofs.words.watch_held.Goals as goal

pub returns-in_err-paths-clause-refused : goal.returns-in_err-paths-clause-refused
returns-in_err-paths-clause-refused c =
    passed_up c.from_residual.result c.in_err-paths.field-0.0 _ c.from_residual.ensures.1
    (no_paths (rows_of (found_of c.args.matches.now)) c.in_err-paths.field-0.0 c.in_err-paths.ensures.refused)
