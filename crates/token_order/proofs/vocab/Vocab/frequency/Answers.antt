use Rattle.std.proofs.Common.{◌≡◌, ◌∙◌, ap, ℕ, ◌<◌, List, length, get_or, arith}
use Rattle.std.proofs.lemmas.Grind.{get_or_default_zero}
use Rattle.std.proofs.lemmas.List.{length-map}
use Rattle.lake_model.specs.Tables.{Table}
use Rattle.search_model.specs.Segment.{Token, columns_of, tokens_of}
use Rattle.token_order.specs.Vocabulary.{frequencies_of}
use Rattle.token_order.proofs.vocab.Vocab.frequency.Goals as goal

pub index-requires : goal.index-requires
index-requires c =
    let frequent = c.self.invariant.frequent ∙ ap (λ (ts : List Table). frequencies_of (tokens_of (columns_of ts))) c.self.view_is in
    omega (arith, ap length frequent, length-map (tokens_of (columns_of c.args.self.now)) (λ (t : Token). t.frequency), c.requires)

pub returns : goal.returns
returns c =
    let frequencies = c.self.inside.frequencies.items in
    let tokens = tokens_of (columns_of c.args.self.now) in
    let frequent : frequencies ≡ frequencies_of tokens = c.self.invariant.frequent ∙ ap (λ (ts : List Table). frequencies_of (tokens_of (columns_of ts))) c.self.view_is in
    let within : c.args.token < length frequencies = omega (arith, ap length frequent, length-map tokens (λ (t : Token). t.frequency), c.requires) in
    c.index.ensures ∙ get_or_default_zero frequencies c.args.token c.index.result.now within ∙ ap (λ (ns : List ℕ). get_or ns c.args.token 0) frequent
