use Rattle.std.proofs.Common.{◌≡◌, ◌∙◌, sym, ap, subst, ℕ, ◌<◌, List, [], ◌∷◌, length, length-append, get_or, count_by, take, arith}
use Rattle.std.specs.List.{All}
use Rattle.std.proofs.Math.Seq.{take-length}
use Rattle.std.proofs.lemmas.List.Elements.{All-append, All-from_recursion}
use Rattle.column_set.proofs.OverlapLemmas.{overlap_both_ways}
use Rattle.lake_model.specs.Tables.{has_key, keys_at}
use Rattle.column_set.specs.Hashes.{sip_of}
use Rattle.column_watch.specs.Hits.{hit_keys, IsHit}
use Rattle.column_watch.specs.declared.overlaps.Hit.{Hit}
use Rattle.column_watch.proofs.CountLemmas.{hits_more, hits_same}
use Rattle.column_watch.proofs.IndexLemmas.{none_holds}
use Rattle.column_watch.proofs.overlaps.column_hits.Goals as goal
use Rattle.column_watch.proofs.overlaps.column_hits.Goals.{then-has_hash+in_ok-push, else-has_hash}

pub loop-index-preserved : goal.loop-index-preserved
loop-index-preserved c =
    let keys = keys_at c.args.table.now c.args.place in
    let i = c.loop-index.index in
    let before = c.loop-index.hits.items in
    let kept = c.loop-index.invariant in
    let within : i < length keys = omega (arith, c.size-index-end.ensures.value) in
    let hash = c.sip_hash-hash.result in
    let own = c.sip_hash-hash.ensures ∙ ap sip_of c.key.ensures in
    elim c.if-has_hash.branch [
      | then-has_hash+in_ok-push w ↦
          let hit : Hit = record { hash = hash; index = i } in
          let is = ap (λ v. v.items) w.hits-is ∙ w.in_ok-push.ensures.items in
          let one : All (IsHit keys) (hit ∷ []) = All-from_recursion (IsHit keys) (hit ∷ []) ((within, own), tt) in
          record {
            hits = subst (All (IsHit keys)) (sym is) (All-append (IsHit keys) before (hit ∷ []) kept.hits one);
            few = omega (arith, kept.few, w.in_ok-push.ensures.len, ap length is, length-append before (hit ∷ []));
            all = λ queries v indexed. ap (λ (hs : List Hit). count_by (has_key (get_or queries v [])) (hit_keys keys hs)) is ∙ hits_more (has_key (get_or queries v [])) keys before hit within (kept.all queries v indexed);
          }
      | else-has_hash w ↦
          let is = ap (λ v. v.items) w.hits-is in
          record {
            hits = subst (All (IsHit keys)) (sym is) kept.hits;
            few = omega (arith, kept.few, ap length is);
            all = λ queries v indexed.
                let none = none_holds queries (get_or keys i []) hash own c.args.holders.now indexed (c.has_hash.ensures w.if-has_hash.false) v in
                ap (λ (hs : List Hit). count_by (has_key (get_or queries v [])) (hit_keys keys hs)) is ∙ hits_same (has_key (get_or queries v [])) keys (count_by (has_key (get_or queries v [])) (hit_keys keys before)) i within none (kept.all queries v indexed);
          }
    ]

pub returns-clause-all : goal.returns-clause-all
returns-clause-all c = λ queries w indexed different.
    let keys = keys_at c.args.table.now c.args.place in
    let end : c.loop-index.index ≡ length keys = omega (arith, c.size-index-end.ensures.value) in
    let all : take c.loop-index.index keys ≡ keys = ap (λ (n : ℕ). take n keys) end ∙ take-length keys in
    c.loop-index.invariant.all queries w indexed ∙ ap (count_by (has_key (get_or queries w []))) all ∙ overlap_both_ways keys (get_or queries w []) c.size-index-end.ensures.different different
