use Rattle.std.proofs.Common.{◌+◌, ◌*◌, refl, sym, arith}
use Rattle.std.proofs.lemmas.List.{append-nil}
use Rattle.lake_maker.proofs.StepLemmas.{searches_step, state_none, state_step}
use Rattle.lake_maker.proofs.batch.push_searches.Goals as goal

pub loop-search-init : goal.loop-search-init
loop-search-init c = record { tasks = sym (append-nil c.args.into.now); state = state_none c.args.draws.now 0 refl }

pub loop-search-preserved : goal.loop-search-preserved
loop-search-preserved c = record {
  tasks = searches_step c.args.draws.now c.args.tables c.loop-search._search c.loop-search.draws c.args.into.now c.loop-search.into c.push_search.new.into c.loop-search.invariant.state c.loop-search.invariant.tasks c.in_ok-push_search.ensures.tasks;
  state = state_step c.args.draws.now (2 * c.loop-search._search) 2 (2 * (c.loop-search._search + 1)) c.loop-search.draws c.push_search.new.draws c.loop-search.invariant.state c.in_ok-push_search.ensures.state (omega arith);
}
