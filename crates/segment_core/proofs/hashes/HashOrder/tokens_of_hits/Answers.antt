use Rattle.std.proofs.Common.{◌∙◌, sym, ap, subst, ℕ, ◌<◌, List, get_or, [], ◌∷◌, ◌++◌, Bor, Some, None, length, take, arith, append-nil}
use Rattle.std.proofs.lemmas.List.{get_or-map, length-map, take_all}
use Rattle.lake_model.specs.Texts.{Text}
use Rattle.search_model.specs.Arrays.{IsToken}
use Rattle.search_model.specs.Segment.{segment}
use Rattle.segment_core.specs.declared.finding.Hit.{Hit}
use Rattle.segment_core.specs.Among.{found_by, hit_keys}
use Rattle.segment_core.specs.Hashes.{keyed_at}
use Rattle.segment_core.proofs.FoundLemmas.{hit_more, tokens_differ}
use Rattle.segment_core.proofs.hashes.HashOrder.tokens_of_hits.Goals as goal
use Rattle.segment_core.proofs.hashes.HashOrder.tokens_of_hits.Goals.{in-Some+in_ok-push, in_default}

abbrev no_hit : Hit
no_hit = record { at = 0; index = 0 }

pub token_of-requires-clause-first : goal.token_of-requires-clause-first
token_of-requires-clause-first c =
    let hits = c.args.hits.now in
    let keys = c.args.keys.now in
    let i = c.loop-i.i in
    let there : i < length hits = omega arith in
    let text : Bor Text → Text = λ key. key.now in
    let own : Hit → Text = λ hit. (keyed_at c.args.self.now hit.at).key in
    let within : i < length keys = omega (arith, there, length-map keys text, length-map hits own, ap length c.requires.keys) in
    sym (get_or-map text keys i (record { ref_ptr = (0, 0); now = [] }) [] within)
    ∙ ap (λ (ts : List Text). get_or ts i []) c.requires.keys
    ∙ get_or-map own hits i no_hit [] there

pub loop-i-preserved : goal.loop-i-preserved
loop-i-preserved c tables is =
    let tokens = (segment tables).tokens in
    let keys = c.args.query.now in
    let hits = c.args.hits.now in
    let i = c.loop-i.i in
    let there : i < length hits = omega arith in
    let apart = tokens_differ tables in
    let hit : Hit = get_or hits i no_hit in
    let key = c.key-key.ensures ∙ ap (λ (ks : List Text). get_or ks hit.index []) c.query.ensures in
    elim c.match-token_of.branch [
      | in-Some+in_ok-push w ↦
          ap (λ v. v.items) w.tokens-is ∙ w.in_ok-push.ensures.items ∙ ap (λ (ns : List ℕ). ns ++ w.in-Some.token ∷ []) (c.loop-i.invariant tables is)
          ∙ sym (hit_more tokens keys hits i no_hit (Some w.in-Some.token) there apart (subst (λ (k : Text). IsToken tokens k (Some w.in-Some.token)) key (w.in-Some.ensures tables is)))
      | in_default w ↦
          ap (λ v. v.items) w.tokens-is ∙ c.loop-i.invariant tables is ∙ sym (append-nil (found_by tokens (take i (hit_keys keys hits))))
          ∙ sym (hit_more tokens keys hits i no_hit None there apart (subst (λ (k : Text). IsToken tokens k None) key (w.in_default.ensures tables is)))
    ]

pub returns : goal.returns
returns c tables is =
    let keys = c.args.query.now in
    let hits = c.args.hits.now in
    let long = length-map hits (λ (hit : Hit). get_or keys hit.index []) in
    c.loop-i.invariant tables is ∙ ap (found_by (segment tables).tokens) (take_all c.loop-i.i (hit_keys keys hits) (omega (arith, long)))
