use Rattle.std.proofs.Common.{◌≡◌, ◌∙◌, ap, sym, subst, List, ◌+◌, ◌<◌, length, map, arith}
use Rattle.std.specs.List.{slice_range, All}
use Rattle.std.specs.List.Sorted.{IsNonDecreasingBy}
use Rattle.std.proofs.lemmas.List.{get_or_default, length-map}
use Rattle.hash_directory.specs.Buckets.{IsNear}
use Rattle.segment_core.specs.Hashes.{KeyedToken, entry_hash, hash_of, token_hash, IsSplit}
use Rattle.segment_core.specs.declared.hashes.HashedToken.{HashedToken}
use Rattle.segment_core.proofs.HashLemmas.{entries_rise, length-keyed, none_at, rise_in}
use Rattle.segment_core.proofs.hashes.HashOrder.first_in.Goals as goal
use Rattle.segment_core.proofs.hashes.HashOrder.first_in.Goals.{then-at-near-via-then-at-near, then-at-near-via-else-at-near+then-index-hash}

pub split_of-requires : goal.split_of-requires
split_of-requires c =
    rise_in c.deref.result.now c.args.near.from c.args.near.to (subst (IsNonDecreasingBy entry_hash) (sym c.deref.ensures.value) (entries_rise c.self.inside.keys c.self.inside.entries.items c.self.invariant.1))

pub returns-then-at-near-clause-lacking : goal.returns-then-at-near-clause-lacking
returns-then-at-near-clause-lacking c =
    let keys = c.self.inside.keys in
    let entries = c.self.inside.entries.items in
    let hash = c.args.hash in
    let from = c.args.near.from in
    let to = c.args.near.to in
    let at = c.split_of.result in
    let near = subst (λ (order : List KeyedToken). IsNear (map token_hash order) hash from to) (sym c.self.view_is) c.requires in
    let split = subst (λ (es : List HashedToken). IsSplit (slice_range es from to) hash at) c.deref.ensures.value c.split_of.ensures in
    let lacking = none_at keys entries hash from to at c.self.invariant.1 near split (λ d there e. elim c.then-at-near.branch [
      | then-at-near-via-then-at-near w ↦ absurd (omega (arith, w.if-at-near.true, there))
      | then-at-near-via-else-at-near+then-index-hash w ↦
          let h : from + at < length entries = omega (arith, there, c.requires.within, length-map c.args.self.now token_hash, length-keyed keys entries, ap length c.self.view_is) in
          w.if-index-hash.true (ap entry_hash (w.index.ensures ∙ get_or_default entries (from + at) w.index.result.now d h) ∙ e)
    ]) in
    subst (All (λ entry. hash_of entry.key ≡ hash → ⊥)) c.self.view_is lacking
