use Rattle.std.proofs.Common.{◌∙◌, ap, sym, arith, ◌<◌, length, List, subst}
use Rattle.text_region.specs.Spans.{IsSpan, text_at}
use Rattle.segment_core.specs.Hashes.{KeyedToken, keyed_at}
use Rattle.segment_core.specs.declared.hashes.HashedToken.{HashedToken}
use Rattle.segment_core.proofs.HashLemmas.{keyed_there, length-keyed}
use Rattle.segment_core.proofs.hashes.HashOrder.key.Goals as goal

pub index-requires : goal.index-requires
index-requires c = omega (arith, c.requires, length-keyed c.self.inside.keys c.self.inside.entries.items, ap length c.self.view_is)

pub text-requires : goal.text-requires
text-requires c =
    let keys = c.self.inside.keys in
    let entries = c.self.inside.entries.items in
    let entry = c.index.result.now in
    let h : c.args.at < length entries = omega (arith, c.requires, length-keyed keys entries, ap length c.self.view_is) in
    subst (λ (e : HashedToken). IsSpan keys e.key) (sym c.index.ensures) (c.self.invariant.0 c.args.at entry h)

pub returns : goal.returns
returns c =
    let keys = c.self.inside.keys in
    let entries = c.self.inside.entries.items in
    let entry = c.index.result.now in
    let h : c.args.at < length entries = omega (arith, c.requires, length-keyed keys entries, ap length c.self.view_is) in
    c.text.ensures ∙ ap (λ (e : HashedToken). text_at keys e.key) c.index.ensures ∙ sym (ap (λ (t : KeyedToken). t.key) (keyed_there keys entries c.args.at entry h)) ∙ ap (λ (order : List KeyedToken). (keyed_at order c.args.at).key) c.self.view_is
