use Rattle.std.proofs.Common.{◌∙◌, ap, sym, subst, ℕ, List, map}
use Rattle.hash_directory.specs.Buckets.{IsNear}
use Rattle.segment_core.specs.Hashes.{entry_hash, token_hash}
use Rattle.segment_core.proofs.HashLemmas.{hashes_same}
use Rattle.segment_core.proofs.hashes.HashOrder.near.Goals as goal

pub returns-then-is_likely : goal.returns-then-is_likely
returns-then-is_likely c =
    let entries = c.self.inside.entries.items in
    let near = c.bucket.ensures (map entry_hash entries) c.self.invariant.2 in
    subst (λ (hs : List ℕ). IsNear hs c.args.hash c.bucket.result.from c.bucket.result.to) (sym (hashes_same c.self.inside.keys entries) ∙ ap (map token_hash) c.self.view_is) near

pub returns-else-is_likely : goal.returns-else-is_likely
returns-else-is_likely c =
    let entries = c.self.inside.entries.items in
    let near = c.near.ensures (map entry_hash entries) c.self.invariant.2 in
    subst (λ (hs : List ℕ). IsNear hs c.args.hash c.near.result.from c.near.result.to) (sym (hashes_same c.self.inside.keys entries) ∙ ap (map token_hash) c.self.view_is) near
