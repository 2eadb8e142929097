-- The law of fronts.
use Rattle.trace_ends.proofs.FrontLemmas.{fronts_are_taken, fronts_are_whole, next_put, next_rebuilt, reply_made, unplanned_now}
use Rattle.trace_ends.proofs.fronts_law.Goals as goal

pub returns : goal.returns
returns c = record { unplanned = unplanned_now; reply = reply_made; rebuilt = next_rebuilt; next = next_put; taken = fronts_are_taken; whole = fronts_are_whole }
