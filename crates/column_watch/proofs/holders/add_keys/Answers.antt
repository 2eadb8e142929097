use Rattle.std.proofs.Common.{◌≡◌, ◌∙◌, ◌++◌, ℕ, ap, sym, arith, append-nil, length, take}
use Rattle.std.proofs.Math.Seq.{take-length}
use Rattle.std.proofs.lemmas.Nat.{one_shl}
use Rattle.column_set.specs.Hashes.{sip_of}
use Rattle.column_watch.specs.Index.{keys_from}
use Rattle.column_watch.proofs.IndexLemmas.{keys_more}
use Rattle.column_watch.proofs.holders.add_keys.Goals as goal

pub loop-index-init : goal.loop-index-init
loop-index-init c = c.reserve.ensures.items ∙ sym (append-nil c.args.keys.now.items)

pub loop-index-preserved : goal.loop-index-preserved
loop-index-preserved c =
    keys_more c.args.w c.args.query.now c.loop-index.index c.sip_hash-hash.result _ c.args.keys.now.items c.loop-index.keys.items c.push.new.self.items (omega (arith, c.len-index-end.ensures.value)) (c.sip_hash-hash.ensures ∙ ap sip_of c.key.ensures) (one_shl c.args.w 16 (omega (arith, c.requires))) c.loop-index.invariant c.in_ok-push.ensures.items

pub returns-clause-keys : goal.returns-clause-keys
returns-clause-keys c =
    let all : c.loop-index.index ≡ length c.args.query.now = omega (arith, c.len-index-end.ensures.value) in
    c.loop-index.invariant ∙ ap (λ keys. c.args.keys.now.items ++ keys_from c.args.w 0 keys) (ap (λ (n : ℕ). take n c.args.query.now) all ∙ take-length c.args.query.now)
