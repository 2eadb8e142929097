use Rattle.std.proofs.Common.{◌≡◌, ◌∙◌, sym, ap, subst, ℕ, ◌<◌, List, [], ◌∷◌, ◌++◌, length, get_or, take, arith}
use Rattle.std.proofs.Math.Seq.{take-length}
use Rattle.std.specs.Prelude.{bytes_eq}
use Rattle.std.specs.List.{All, IsDistinct}
use Rattle.std.specs.List.Sorted.{IsPermutation}
use Rattle.std.proofs.lemmas.List.{map-append}
use Rattle.std.proofs.lemmas.List.Elements.{All-append, All-from_recursion}
use Rattle.search_model.specs.Segment.{segment, tokens_in}
use Rattle.segment_core.specs.Among.{found_by, hit_keys, AreNear, IsHit}
use Rattle.segment_core.specs.declared.finding.Hit.{Hit}
use Rattle.segment_core.proofs.FoundLemmas.{each_key, found_more, found_none, tokens_differ}
use Rattle.segment_core.proofs.HashLemmas.{lacks_hash}
use Rattle.segment_core.proofs.hashes.HashOrder.hits.Goals as goal
use Rattle.segment_core.proofs.hashes.HashOrder.hits.Goals.{in-Some+in_ok-push, in_default}

pub first_in-requires : goal.first_in-requires
first_in-requires c =
    c.near_of-near.ensures c.args.query.now (subst (AreNear c.args.self.now c.args.query.now) (sym c.deref.ensures.value) c.in_ok-ranges.ensures) c.hash-hash.ensures

pub loop-index-preserved : goal.loop-index-preserved
loop-index-preserved c =
    let order = c.args.self.now in
    let keys = c.args.query.now in
    let i = c.loop-index.index in
    let before = c.loop-index.hits.items in
    let same = c.query.ensures in
    let within : i < length keys = omega (arith, ap length same) in
    elim c.match-first_in.branch [
      | in-Some+in_ok-push w ↦
          let hit : Hit = record { at = w.in-Some.at; index = i } in
          let is = ap (λ v. v.items) w.hits-is ∙ w.in_ok-push.ensures.items in
          let one : All (IsHit order keys) (hit ∷ []) = All-from_recursion (IsHit order keys) (hit ∷ []) ((w.in-Some.ensures.there, within), tt) in
          let keyed : hit_keys keys (before ++ hit ∷ []) ≡ hit_keys keys before ++ get_or keys i [] ∷ [] = map-append (λ (h : Hit). get_or keys h.index []) before (hit ∷ []) in
          record {
            hits = subst (All (IsHit order keys)) (sym is) (All-append (IsHit order keys) before (hit ∷ []) c.loop-index.invariant.hits one);
            all = λ tables by_hash. ap (λ (hs : List Hit). found_by (segment tables).tokens (hit_keys keys hs)) is ∙ ap (found_by (segment tables).tokens) keyed
                ∙ found_more (segment tables).tokens keys (hit_keys keys before) i within (c.loop-index.invariant.all tables by_hash);
          }
      | in_default w ↦
          let is = ap (λ v. v.items) w.hits-is in
          record {
            hits = subst (All (IsHit order keys)) (sym is) c.loop-index.invariant.hits;
            all = λ tables by_hash. ap (λ (hs : List Hit). found_by (segment tables).tokens (hit_keys keys hs)) is
                ∙ found_none (segment tables).tokens keys (hit_keys keys before) i within (tokens_differ tables) (lacks_hash tables order by_hash c.hash-hash.result (get_or keys i []) c.hash-hash.ensures w.in_default.ensures.lacking)
                (c.loop-index.invariant.all tables by_hash);
          }
    ]

pub returns-clause-all : goal.returns-clause-all
returns-clause-all c tables is =
    let tokens = (segment tables).tokens in
    let keys = c.args.query.now in
    let same = c.query.ensures in
    let all : c.loop-index.index ≡ length keys = omega (arith, ap length same) in
    let found : found_by tokens (hit_keys keys c.loop-index.hits.items) ≡ found_by tokens keys = c.loop-index.invariant.all tables is ∙ ap (λ (n : ℕ). found_by tokens (take n keys)) all ∙ ap (found_by tokens) (take-length keys) in
    subst (IsPermutation (tokens_in tokens keys)) (sym found) (each_key tokens keys (subst (IsDistinct bytes_eq) same c.len-index-end.ensures.different))
