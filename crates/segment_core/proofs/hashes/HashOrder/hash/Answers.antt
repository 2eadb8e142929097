use Rattle.std.proofs.Common.{◌∙◌, ap, sym, arith, ◌<◌, length, List}
use Rattle.segment_core.specs.Hashes.{KeyedToken, hash_of, keyed_at, token_hash}
use Rattle.segment_core.proofs.HashLemmas.{blank, keyed_there, length-keyed}
use Rattle.segment_core.proofs.hashes.HashOrder.hash.Goals as goal

pub index-requires : goal.index-requires
index-requires c = omega (arith, c.requires, length-keyed c.self.inside.keys c.self.inside.entries.items, ap length c.self.view_is)

pub returns : goal.returns
returns c =
    let keys = c.self.inside.keys in
    let entries = c.self.inside.entries.items in
    let entry = c.index.result.now in
    let h : c.args.at < length entries = omega (arith, c.requires, length-keyed keys entries, ap length c.self.view_is) in
    let value = ap (λ e. e.hash) c.index.ensures ∙ sym (ap token_hash (keyed_there keys entries c.args.at entry h)) ∙ ap (λ (order : List KeyedToken). (keyed_at order c.args.at).hash) c.self.view_is in
    let own = ap (λ (order : List KeyedToken). (keyed_at order c.args.at).hash) (sym c.self.view_is) ∙ c.self.invariant.1.hashes c.args.at blank (omega (arith, h, length-keyed keys entries)) ∙ ap (λ (order : List KeyedToken). hash_of (keyed_at order c.args.at).key) c.self.view_is in
    record { value = value; own = value ∙ own }
