use Rattle.std.proofs.Common.{◌≡◌, ◌<◌, ◌≤◌, ◌∷◌, [], ℕ, ap, sym, subst, arith, length, ltb, rules}
use Rattle.std.specs.List.Sorted.{IsPartitionPoint}
use Rattle.std.proofs.lemmas.List.{length-append}
use Rattle.std.proofs.lemmas.List.Sorted.{IsPartitionPoint-from_clause}
use Rattle.column_watch.specs.Index.{part_of}
use Rattle.column_watch.specs.declared.holders.KeyAt.{KeyAt}
use Rattle.column_watch.proofs.PartLemmas.{parted, point, starts_more}
use Rattle.column_watch.proofs.holders.starts_of.Goals as goal

pub loop-part-preserved : goal.loop-part-preserved
loop-part-preserved c =
    let keys = c.args.keys.now in
    let shift = c.args.shift in
    let part = c.loop-part.part-counter in
    let starts = c.loop-part.starts.items in
    let start = c.partition_point.result in
    let here = point shift part keys start (IsPartitionPoint-from_clause (λ (at : KeyAt). ltb (part_of shift at.hash) part) keys start c.partition_point.ensures.partitioned (parted shift part keys c.requires.rising) (λ a r f' called. search rules)) in
    let last : part ≡ length starts = sym c.loop-part.invariant.len in
    record {
      len = omega (arith, ap length c.in_ok-push.ensures.items, length-append starts (start ∷ []), last);
      starts = starts_more shift keys starts c.push.new.self.items start c.loop-part.invariant.starts c.partition_point.ensures.bound
          (subst (λ (n : ℕ). IsPartitionPoint (λ (at : KeyAt). part_of shift at.hash < n) (λ (at : KeyAt). n ≤ part_of shift at.hash) keys start) last here) c.in_ok-push.ensures.items;
    }
