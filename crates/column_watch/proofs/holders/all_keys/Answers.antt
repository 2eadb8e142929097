use Rattle.std.proofs.Common.{◌<◌, ◌≡◌, ◌∙◌, List, ap, arith, length, sym, subst, take}
use Rattle.std.proofs.Math.Seq.{take-length}
use Rattle.std.proofs.lemmas.List.{length-append}
use Rattle.column_watch.specs.Held.{StateOf}
use Rattle.column_watch.specs.Index.{AreKeysOf, all_from, keys_from}
use Rattle.column_watch.proofs.HolderLemmas.{keys_of}
use Rattle.column_watch.proofs.IndexLemmas.{all_are_keys, all_more, length-keys_from}
use Rattle.column_watch.proofs.holders.all_keys.Goals as goal

pub loop-w-preserved : goal.loop-w-preserved
loop-w-preserved c =
    let within : c.loop-w.w < length c.args.queries.now = omega arith in
    let query = c.keys.result.now in
    let before = c.loop-w.keys.items in
    record {
      keys = all_more c.args.queries.now c.loop-w.w c.index-queries-w.result query before c.add_keys.new.keys.items within c.index-queries-w.is c.keys.ensures c.loop-w.invariant.keys c.in_ok-add_keys.ensures.keys;
      few = omega (arith, ap length c.in_ok-add_keys.ensures.keys, length-append before (keys_from c.loop-w.w 0 query), length-keys_from c.loop-w.w 0 query, c.in_ok-add_keys.ensures.few, c.loop-w.invariant.few);
    }

pub returns-clause-keys : goal.returns-clause-keys
returns-clause-keys c =
    let queries = c.args.queries.now in
    let all : c.loop-w.w ≡ length queries = omega arith in
    let whole = c.loop-w.invariant.keys ∙ ap (λ (states : List StateOf). all_from 0 (keys_of states)) (ap (λ n. take n queries) all ∙ take-length queries) in
    subst (AreKeysOf (keys_of queries)) (sym whole) (all_are_keys (keys_of queries))
