use Rattle.std.proofs.Common.{◌+◌, ◌<◌, ◌≤◌, ◌∙◌, ◌∷◌, ◌++◌, [], ℕ, arith, ap, refl, sym}
use Rattle.std.proofs.lemmas.Result.{err_from_is_err_and}
use Rattle.script_model.specs.Commands.{LoadFile}
use Rattle.script_model.specs.Reading.{Goes, file_size, with_command}
use Rattle.script_text.specs.Gathering.{reading_at}
use Rattle.commands.specs.Tasks.{file_of}
use Rattle.script_text.proofs.TurnLemmas.{fetch_full, fetch_goes, fetch_passes, fetched_one, no_memory, unfetched}
use Rattle.script_text.proofs.reader.Reader.load_file.Goals as goal

pub returns-in_err-refuse_full-clause-turn : goal.returns-in_err-refuse_full-clause-turn
returns-in_err-refuse_full-clause-turn g c =
    let p = err_from_is_err_and c.from_residual.result c.from_residual.ensures.1 in
    let full = c.in_err-refuse_full.ensures.full in
    rw (p.1, p.2, full.0)
    (unfetched _ _ _ _ _ _ _ (λ paths later. (refl, fetch_full c.args.self.now.rules.limits c.args.self.now.rules.lanes c.args.lane c.args.name c.args.path.now c.args.self.now.reading paths later full.1)))

pub returns-in_err-file-clause-turn : goal.returns-in_err-file-clause-turn
returns-in_err-file-clause-turn g c =
    let p = err_from_is_err_and c.from_residual-in_err-file.result c.from_residual-in_err-file.ensures.1 in
    rw (p.1, p.2, c.in_err-file.ensures.refused) (no_memory _ _ _ _ _ _ _ (omega (arith, c.in_err-file.ensures.later)))

pub returns-in_err-refuse_bytes-clause-turn : goal.returns-in_err-refuse_bytes-clause-turn
returns-in_err-refuse_bytes-clause-turn g c =
    let rules = c.args.self.now.rules in
    let reading = c.args.self.now.reading in
    let file = file_of c.in_ok-file.file in
    let full = c.in_err-refuse_bytes.ensures.full in
    let p = err_from_is_err_and c.from_residual-in_err-refuse_bytes.result c.from_residual-in_err-refuse_bytes.ensures.1 in
    let passes : rules.limits.bytes < reading.bytes + file_size file = omega (arith, full.1, c.size-size.ensures) in
    rw (p.1, p.2, full.0)
    (fetched_one rules.limits rules.lanes c.args.lane c.args.name c.args.path.now reading _ _ _ _ _ _ file c.in_ok-file.ensures.came
    (λ paths later. (refl, fetch_passes rules.limits rules.lanes c.args.lane c.args.name c.args.path.now reading file paths later c.in_ok-refuse_full.ensures.room passes)))

pub returns-in_err-push_command-clause-turn : goal.returns-in_err-push_command-clause-turn
returns-in_err-push_command-clause-turn g c =
    let p = err_from_is_err_and c.from_residual-in_err-push_command.result c.from_residual-in_err-push_command.ensures.1 in
    rw (p.1, p.2) (no_memory _ _ _ _ _ _ _ (omega (arith, c.in_ok-file.ensures.later)))

pub returns-clause-turn : goal.returns-clause-turn
returns-clause-turn g c =
    let rules = c.args.self.now.rules in
    let reading = c.args.self.now.reading in
    let file = file_of c.in_ok-file.file in
    let fits : reading.bytes + file_size file ≤ rules.limits.bytes = omega (arith, c.in_ok-refuse_bytes.ensures.room, c.size-size.ensures) in
    rw c.in_ok-push_command.ensures.pushed
    (fetched_one rules.limits rules.lanes c.args.lane c.args.name c.args.path.now reading _ _ _ _ _ _ file c.in_ok-file.ensures.came
    (λ paths later. fetch_goes rules.limits rules.lanes c.args.lane c.args.name c.args.path.now reading file paths later c.in_ok-refuse_full.ensures.room fits
    ∙ ap (λ (n : ℕ). Goes (reading_at (with_command c.args.lane (LoadFile c.args.name file) n reading) (paths ++ c.args.path.now ∷ []) later)) (sym c.size-size.ensures)))
