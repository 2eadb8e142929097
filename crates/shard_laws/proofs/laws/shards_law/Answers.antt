use Rattle.shard_laws.proofs.ShardLemmas.{merged_is_answer, placed_is_answer}
use Rattle.shard_laws.proofs.laws.shards_law.Goals as goal

pub returns : goal.returns
returns c = record { joined = merged_is_answer; placed = placed_is_answer }
