use Rattle.std.proofs.Common.{refl}
use Rattle.std.proofs.lemmas.Result.{err_from_is_err_and}
use Rattle.script_text.proofs.TurnLemmas.{unfetched}
use Rattle.script_text.proofs.reader.Reader.obey.Goals as goal

pub returns-in_err-open_block-in-Opens-clause-turn : goal.returns-in_err-open_block-in-Opens-clause-turn
returns-in_err-open_block-in-Opens-clause-turn g c =
    let p = err_from_is_err_and c.from_residual.result c.from_residual.ensures.1 in
    rw (c.in-Opens.is, p.1, p.2) (unfetched _ _ _ _ _ _ _ c.in_err-open_block-in-Opens.ensures.turn)

pub returns-in_err-add_command-in-Does-clause-turn : goal.returns-in_err-add_command-in-Does-clause-turn
returns-in_err-add_command-in-Does-clause-turn g c =
    let p = err_from_is_err_and c.from_residual-in_err-add_command-in-Does.result c.from_residual-in_err-add_command-in-Does.ensures.1 in
    rw (c.in-Does.is, p.1, p.2) (unfetched _ _ _ _ _ _ _ c.in_err-add_command-in-Does.ensures.turn)

pub returns-in-Nothing-clause-turn : goal.returns-in-Nothing-clause-turn
returns-in-Nothing-clause-turn g c = rw c.in-Nothing.is (unfetched _ _ _ _ _ _ _ (λ paths later. refl))

pub returns-in-Sync-clause-turn : goal.returns-in-Sync-clause-turn
returns-in-Sync-clause-turn g c = rw (c.in-Sync.is, c.take_batch.ensures.batch, c.take_batch.ensures.ended) (unfetched _ _ _ _ _ _ _ (λ paths later. refl))

pub returns-in_ok-open_block-in-Opens-clause-turn : goal.returns-in_ok-open_block-in-Opens-clause-turn
returns-in_ok-open_block-in-Opens-clause-turn g c = rw c.in-Opens.is (unfetched _ _ _ _ _ _ _ c.in_ok-open_block-in-Opens.ensures.turn)

pub returns-in_ok-add_command-in-Does-clause-turn : goal.returns-in_ok-add_command-in-Does-clause-turn
returns-in_ok-add_command-in-Does-clause-turn g c = rw c.in-Does.is (unfetched _ _ _ _ _ _ _ c.in_ok-add_command-in-Does.ensures.turn)
