use Rattle.std.proofs.Common.{◌≡◌, ◌∙◌, sym, ap, subst, ◌+◌, ◌<◌, [], Some, get_or, length, set, arith}
use Rattle.std.proofs.lemmas.List.{get_or_default}
use Rattle.lake_model.specs.Texts.{Text}
use Rattle.lake_model.specs.Tables.{keys_at}
use Rattle.search_model.specs.Arrays.{IsToken}
use Rattle.segment_core.specs.declared.hashes.HashedToken.{HashedToken}
use Rattle.segment_core.specs.Hashes.{hash_of, keyed_from, keyed_in}
use Rattle.segment_build.specs.Hashing.{AreHashed}
use Rattle.segment_build.specs.declared.hashing.HashedTokens.{HashedTokens}
use Rattle.segment_build.specs.Holding.{all_tokens}
use Rattle.segment_build.proofs.HashingLemmas.{met_again, met_first}
use Rattle.token_order.specs.Places.{keys_of}
use Rattle.segment_build.proofs.hashing.hash_column.Goals.{then-index-token+in_ok-hashed, else-index-token}
use Rattle.segment_build.proofs.hashing.hash_column.Goals as goal

pub loop-i-preserved : goal.loop-i-preserved
loop-i-preserved c =
    let tables = c.args.vocab.now in
    let keys = keys_at c.args.table.now c.args.place in
    let i = c.loop-i.i in
    let token = c.token_of_member-token.result in
    let within : i < length keys = omega (arith, c.size-size.ensures.value, c.loop-i-test.true) in
    let member : get_or (keys_of tables) (c.args.first + i) [] ≡ get_or keys i [] = c.requires.stretch.each i within in
    let is : IsToken (all_tokens tables) (get_or keys i []) (Some token) = subst (λ (key : Text). IsToken (all_tokens tables) key (Some token)) member c.token_of_member-token.ensures in
    let entries = c.loop-i.hashed.entries.items in
    let key = get_or keys i [] in
    let inside : token < length entries = omega (arith, is.0, c.loop-i.invariant.long) in
    let more : c.args.first + i + 1 ≡ c.args.first + (i + 1) = omega arith in
    elim c.if-index-token.branch [
      | then-index-token+in_ok-hashed w ↦
          let entry = w.in_ok-hashed.field-0 in
          let made = w.in_ok-hashed.ensures in
          let text = w.key-key.ensures in
          let is_keyed = subst (λ (key : Text). keyed_in w.new.new.keys entry ≡ keyed_from (hash_of key) token key) text made.key in
          subst (λ (h : HashedTokens). AreHashed tables h.keys h.entries.items (c.args.first + (i + 1))) (sym w.hashed-is)
          (subst (AreHashed tables w.new.new.keys (set entries token entry)) more
          (met_first tables c.loop-i.hashed.keys entries (c.args.first + i) token key c.loop-i.invariant is.0 is.1 member w.new.new.keys entry made.kept made.span is_keyed))
      | else-index-token w ↦
          subst (λ (h : HashedTokens). AreHashed tables h.keys h.entries.items (c.args.first + (i + 1))) (sym w.hashed-is)
          (subst (AreHashed tables c.loop-i.hashed.keys entries) more
          (met_again tables c.loop-i.hashed.keys entries (c.args.first + i) token key c.loop-i.invariant is.0 is.1 member
          (λ d. ap (λ (e : HashedToken). e.token) (sym (c.index.ensures ∙ get_or_default entries token c.index.result.now d inside)) ∙ w.if-index-token.false)))
    ]
