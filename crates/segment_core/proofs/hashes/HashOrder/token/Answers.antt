use Rattle.std.proofs.Common.{◌∙◌, ap, sym, arith, ◌<◌, length, List}
use Rattle.segment_core.specs.Hashes.{KeyedToken, keyed_at, token_number}
use Rattle.segment_core.proofs.HashLemmas.{keyed_there, length-keyed}
use Rattle.segment_core.proofs.hashes.HashOrder.token.Goals as goal

pub index-requires : goal.index-requires
index-requires c = omega (arith, c.requires, length-keyed c.self.inside.keys c.self.inside.entries.items, ap length c.self.view_is)

pub returns : goal.returns
returns c =
    let keys = c.self.inside.keys in
    let entries = c.self.inside.entries.items in
    let entry = c.index.result.now in
    let h : c.args.at < length entries = omega (arith, c.requires, length-keyed keys entries, ap length c.self.view_is) in
    ap (λ e. e.token) c.index.ensures ∙ sym (ap token_number (keyed_there keys entries c.args.at entry h)) ∙ ap (λ (order : List KeyedToken). (keyed_at order c.args.at).token) c.self.view_is
