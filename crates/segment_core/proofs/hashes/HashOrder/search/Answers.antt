use Rattle.std.proofs.Common.{◌≡◌, ◌∙◌, ap, sym, subst, ◌∷◌, ◌<◌, List, length, get_or, arith, rules}
use Rattle.std.specs.List.{All}
use Rattle.std.specs.List.Sorted.{IsNonDecreasingBy, IsPartitionPoint}
use Rattle.std.specs.Ordering.{nat_cmp, ordering_index}
use Rattle.std.specs.Cmp.Lexicographic.{slice_cmp}
use Rattle.std.specs.declared.cmp.Ordering.TheVariants.{Less, Equal, Greater}
use Rattle.std.proofs.lemmas.List.{get_or_default}
use Rattle.std.proofs.lemmas.Fn.{always_returns_same}
use Rattle.segment_core.specs.Hashes.{KeyedToken, keyed_at, keyed_from, keyed_in, sorted_by}
use Rattle.segment_core.specs.declared.hashes.HashedToken.{HashedToken}
use Rattle.segment_core.proofs.HashLemmas.{found, length-keyed, no_entry, none, rising}
use Rattle.segment_core.proofs.hashes.HashOrder.search.Goals as goal

pub returns-in-Ok : goal.returns-in-Ok
returns-in-Ok c =
    let keys = c.self.inside.keys in
    let entries = c.self.inside.entries.items in
    let hash = c.args.hash in
    let key = c.args.key.now in
    let at = c.in-Ok.at in
    let is = c.in-Ok.ensures.position (λ e. slice_cmp nat_cmp (sorted_by (keyed_in keys e)) (hash ∷ key)) (always_returns_same _ (λ a r. r ≡ slice_cmp nat_cmp (sorted_by (keyed_in keys a.0.now)) (hash ∷ key)) _ (λ a r f' called. search rules)) in
    let h : at < length entries = omega (arith, c.in-Ok.ensures.bound, ap length c.deref.ensures.value) in
    let here : slice_cmp nat_cmp (sorted_by (keyed_in keys (get_or entries at no_entry))) (hash ∷ key) ≡ Equal = ap (λ (es : List HashedToken). slice_cmp nat_cmp (sorted_by (keyed_in keys (get_or es at no_entry))) (hash ∷ key)) (sym c.deref.ensures.value) ∙ is no_entry in
    let entry : get_or entries at no_entry ≡ c.index.result.now = get_or_default entries at no_entry c.index.result.now h ∙ sym c.index.ensures in
    let same = ap (λ (order : List KeyedToken). keyed_at order at) (sym c.self.view_is) ∙ found keys entries c.self.invariant.1 hash key at h here ∙ ap (λ (e : HashedToken). keyed_from hash e.token key) entry in
    record { found = (at, omega (arith, h, length-keyed keys entries, ap length c.self.view_is), same); lacking = tt }

pub returns-in-Err : goal.returns-in-Err
returns-in-Err c =
    let keys = c.self.inside.keys in
    let entries = c.self.inside.entries.items in
    let hash = c.args.hash in
    let key = c.args.key.now in
    let at = c.in-Err.field-0 in
    let is = c.in-Err.ensures.position (λ e. slice_cmp nat_cmp (sorted_by (keyed_in keys e)) (hash ∷ key)) (always_returns_same _ (λ a r. r ≡ slice_cmp nat_cmp (sorted_by (keyed_in keys a.0.now)) (hash ∷ key)) _ (λ a r f' called. search rules)) in
    let up = subst (IsNonDecreasingBy (λ e. ordering_index (slice_cmp nat_cmp (sorted_by (keyed_in keys e)) (hash ∷ key)))) (sym c.deref.ensures.value) (rising keys entries c.self.invariant.1 hash key) in
    let parted = subst (λ (es : List HashedToken). IsPartitionPoint (λ e. slice_cmp nat_cmp (sorted_by (keyed_in keys e)) (hash ∷ key) ≡ Less) (λ e. slice_cmp nat_cmp (sorted_by (keyed_in keys e)) (hash ∷ key) ≡ Greater) es at) c.deref.ensures.value (is up) in
    let lacking = none keys entries c.self.invariant.1 hash key c.requires at (λ k d l. parted.0 k d (omega arith) l) (λ k d g h. parted.1 k d g h) in
    record { found = tt; lacking = subst (All (λ entry. entry.key ≡ key → ⊥)) c.self.view_is lacking }
