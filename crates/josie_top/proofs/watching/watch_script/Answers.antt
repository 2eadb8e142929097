use Rattle.josie_top.proofs.WatchFacts.{watched_nothing}
use Rattle.josie_top.proofs.watching.watch_script.Goals as goal

pub returns-in_default-clause-watched : goal.returns-in_default-clause-watched
returns-in_default-clause-watched g c = λ k queries same. watched_nothing k queries _ c.args.out.now.made c.requires.empty

pub returns-in_default-new-clause-watched : goal.returns-in_default-new-clause-watched
returns-in_default-new-clause-watched g c = λ k queries same. watched_nothing k queries _ c.args.out.now.made c.requires.empty

pub returns-in_default-made_options-clause-watched : goal.returns-in_default-made_options-clause-watched
returns-in_default-made_options-clause-watched g c = λ k queries same. watched_nothing k queries _ c.args.out.now.made c.requires.empty
