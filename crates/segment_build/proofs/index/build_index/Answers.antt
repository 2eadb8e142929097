use Rattle.std.proofs.Common.{◌≡◌, ◌∙◌, sym, subst, ℕ, ◌-◌, true, List, length, arith}
use Rattle.std.specs.List.{All}
use Rattle.lake_model.specs.Tables.{Table}
use Rattle.search_model.specs.Arrays.{all_of, AreArrays, IsAt, IsByKey}
use Rattle.search_model.specs.Ranks.{ranked, AreRanks, AreRising}
use Rattle.search_model.specs.Segment.{segment}
use Rattle.segment_core.specs.Hashes.{all_keyed, AreKeyedTokens}
use Rattle.segment_build.specs.Holding.{all_tokens}
use Rattle.segment_build.specs.Inverse.{lists_from, sets_in}
use Rattle.segment_build.proofs.BuildLemmas.{arrays, bounds_ready, is_made, length-sets, one_more, sets_ready}
use Rattle.segment_build.proofs.index.build_index.Goals as goal

pub order_by_hash-requires-clause-hashes : goal.order_by_hash-requires-clause-hashes
order_by_hash-requires-clause-hashes c = c.in_ok-entries.ensures.tokens.hashes

pub posting_lists-requires-clause-lists : goal.posting_lists-requires-clause-lists
posting_lists-requires-clause-lists c =
    let made = is_made c.args.tables.items c.in_ok-sets.sets.owners.items c.into_lists-frequencies.result.tokens.items c.in_ok-list_starts.list_starts.items c.in_ok-sets.sets.starts.items c.in_ok-sets.sets.tokens.items _ _ _ _ (c.in_ok-vocab.ensures ∙ c.deref-2.ensures.value) c.deref-3.ensures.value c.deref-5.ensures.value c.in_ok-sets.ensures c.into_lists-frequencies.ensures.tokens c.into_lists-frequencies.ensures.frequencies c.in_ok-list_starts.ensures in
    omega (arith, one_more _ _ _ _ _ _ made)

pub posting_lists-requires-clause-bounds : goal.posting_lists-requires-clause-bounds
posting_lists-requires-clause-bounds c =
    let made = is_made c.args.tables.items c.in_ok-sets.sets.owners.items c.into_lists-frequencies.result.tokens.items c.in_ok-list_starts.list_starts.items c.in_ok-sets.sets.starts.items c.in_ok-sets.sets.tokens.items _ _ _ _ (c.in_ok-vocab.ensures ∙ c.deref-2.ensures.value) c.deref-3.ensures.value c.deref-5.ensures.value c.in_ok-sets.ensures c.into_lists-frequencies.ensures.tokens c.into_lists-frequencies.ensures.frequencies c.in_ok-list_starts.ensures in
    rw (c.deref-6.ensures.value, c.deref-7.ensures.value) (bounds_ready _ _ _ _ _ _ made)

pub posting_lists-requires-clause-sets : goal.posting_lists-requires-clause-sets
posting_lists-requires-clause-sets c =
    let made = is_made c.args.tables.items c.in_ok-sets.sets.owners.items c.into_lists-frequencies.result.tokens.items c.in_ok-list_starts.list_starts.items c.in_ok-sets.sets.starts.items c.in_ok-sets.sets.tokens.items _ _ _ _ (c.in_ok-vocab.ensures ∙ c.deref-2.ensures.value) c.deref-3.ensures.value c.deref-5.ensures.value c.in_ok-sets.ensures c.into_lists-frequencies.ensures.tokens c.into_lists-frequencies.ensures.frequencies c.in_ok-list_starts.ensures in
    rw (c.deref-6.ensures.value, c.deref-7.ensures.value) (sets_ready _ _ _ _ _ _ made)

pub posting_lists-requires-clause-few : goal.posting_lists-requires-clause-few
posting_lists-requires-clause-few c =
    let made = is_made c.args.tables.items c.in_ok-sets.sets.owners.items c.into_lists-frequencies.result.tokens.items c.in_ok-list_starts.list_starts.items c.in_ok-sets.sets.starts.items c.in_ok-sets.sets.tokens.items _ _ _ _ (c.in_ok-vocab.ensures ∙ c.deref-2.ensures.value) c.deref-3.ensures.value c.deref-5.ensures.value c.in_ok-sets.ensures c.into_lists-frequencies.ensures.tokens c.into_lists-frequencies.ensures.frequencies c.in_ok-list_starts.ensures in
    rw (c.deref-6.ensures.value, c.deref-7.ensures.value) (omega (arith, length-sets _ _ _ _ _ _ made, c.requires.columns))

pub new-requires-clause-arrays : goal.new-requires-clause-arrays
new-requires-clause-arrays c =
    let is = c.in_ok-vocab.ensures ∙ c.deref-2.ensures.value in
    let tokens = c.into_lists-frequencies.result.tokens.items in
    let by_key = c.into_lists-frequencies.result.by_key.items in
    let made = is_made c.args.tables.items c.in_ok-sets.sets.owners.items c.into_lists-frequencies.result.tokens.items c.in_ok-list_starts.list_starts.items c.in_ok-sets.sets.starts.items c.in_ok-sets.sets.tokens.items _ _ _ _ (c.in_ok-vocab.ensures ∙ c.deref-2.ensures.value) c.deref-3.ensures.value c.deref-5.ensures.value c.in_ok-sets.ensures c.into_lists-frequencies.ensures.tokens c.into_lists-frequencies.ensures.frequencies c.in_ok-list_starts.ensures in
    let within = subst (λ (ts : List Table). All (IsAt ts) tokens) is c.into_lists-frequencies.ensures.within in
    let sorted = subst (λ (ts : List Table). IsByKey (all_tokens ts) by_key) is c.into_lists-frequencies.ensures.by_key in
    let postings = c.in_ok-starts.field-0.postings.items in
    let starts = c.in_ok-list_starts.list_starts.items in
    let posted = c.in_ok-starts.ensures.postings ∙ (λ i. all_of (lists_from (sets_in (c.deref-6.ensures.value i) (c.deref-7.ensures.value i)) 0 (length starts - 1))) in
    let are = arrays _ _ _ _ _ _ made by_key postings within sorted c.requires.columns c.into_lists-frequencies.ensures.few posted in
    record {
      tokens = tokens;
      by_key = by_key;
      arrays = subst (λ (ns : List ℕ). AreArrays c.args.tables.items c.in_ok-sets.sets.owners.items tokens by_key ns postings c.in_ok-sets.sets.starts.items c.in_ok-sets.sets.tokens.items) (sym c.in_ok-starts.ensures.starts) are;
      order = c.in_ok-by_hash.ensures c.args.tables.items (subst (λ (ts : List Table). AreKeyedTokens ts (all_keyed c.in_ok-entries.field-0.keys c.in_ok-entries.field-0.entries.items)) c.deref-4.ensures.value c.in_ok-entries.ensures.tokens);
    }

pub new-requires-clause-ranks : goal.new-requires-clause-ranks
new-requires-clause-ranks c = subst (λ (ts : List Table). AreRanks (segment ts).columns c.in_ok-ranks.field-0.ranks.items) c.deref.ensures.value c.in_ok-ranks.ensures.ranks

pub new-requires-clause-strict : goal.new-requires-clause-strict
new-requires-clause-strict c = subst (λ (ts : List Table). c.in_ok-ranks.field-0.is_strict ≡ true → AreRising (ranked (segment ts).columns c.in_ok-ranks.field-0.by_rank.items)) c.deref.ensures.value c.in_ok-ranks.ensures.strict
