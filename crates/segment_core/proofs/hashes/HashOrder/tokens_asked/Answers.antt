use Rattle.std.proofs.Common.{◌≡◌, ◌∙◌, ap, sym, subst, ℕ, ◌<◌, [], ◌∷◌, ◌++◌, length, take, arith}
use Rattle.std.proofs.Math.Seq.{take-length}
use Rattle.std.specs.List.Sorted.{IsPermutation}
use Rattle.lake_model.specs.Tables.{has_key}
use Rattle.search_model.specs.Segment.{segment, tokens_in}
use Rattle.segment_core.specs.Among.{found_by}
use Rattle.segment_core.specs.Hashes.{keyed_at}
use Rattle.segment_core.proofs.AskedLemmas.{asked_all, asked_in, asked_keys, asked_more, asked_out}
use Rattle.segment_core.proofs.HashLemmas.{blank}
use Rattle.segment_core.proofs.hashes.HashOrder.tokens_asked.Goals as goal
use Rattle.segment_core.proofs.hashes.HashOrder.tokens_asked.Goals.{then-is_asked+in_ok-push, else-is_asked}

pub loop-at-preserved : goal.loop-at-preserved
loop-at-preserved c tables is =
    let tokens = (segment tables).tokens in
    let keys = c.args.query.now in
    let order = c.args.self.now in
    let i = c.loop-at.at in
    let there : i < length order = omega arith in
    let entry = keyed_at order i in
    let own = ap (has_key keys) (sym (is.hashed i blank there).key) in
    let more = asked_more tables keys order i blank there in
    elim c.if-is_asked.branch [
      | then-is_asked+in_ok-push w ↦
          ap (λ v. v.items) w.tokens-is ∙ w.in_ok-push.ensures.items ∙ (λ j. c.loop-at.invariant tables is j ++ w.token.ensures j ∷ [])
          ∙ sym (asked_in tables keys (asked_keys tokens keys (take i order)) _ entry (is.hashed i blank there) (own ∙ sym c.is_asked.ensures ∙ w.if-is_asked.true) more)
      | else-is_asked w ↦
          ap (λ v. v.items) w.tokens-is ∙ c.loop-at.invariant tables is
          ∙ sym (asked_out tables keys (asked_keys tokens keys (take i order)) _ entry (own ∙ sym c.is_asked.ensures ∙ w.if-is_asked.false) more)
    ]

pub returns : goal.returns
returns c tables is =
    let tokens = (segment tables).tokens in
    let keys = c.args.query.now in
    let order = c.args.self.now in
    let all : c.loop-at.at ≡ length order = omega arith in
    let found = c.loop-at.invariant tables is ∙ ap (λ (n : ℕ). found_by tokens (asked_keys tokens keys (take n order))) all ∙ ap (λ es. found_by tokens (asked_keys tokens keys es)) (take-length order) in
    subst (IsPermutation (tokens_in tokens keys)) (sym found) (asked_all tables keys order is)
