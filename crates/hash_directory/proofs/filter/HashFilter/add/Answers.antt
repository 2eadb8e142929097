use Rattle.std.proofs.Common.{◌∙◌, ◌^◌, ◌-◌, ap, arith}
use Rattle.std.proofs.lemmas.List.{get_or_default}
use Rattle.hash_directory.specs.Buckets.{are_set, bucket_of}
use Rattle.hash_directory.proofs.FilterLemmas.{set_kept, set_outside, set_same}
use Rattle.hash_directory.proofs.filter.HashFilter.add.Goals as goal

pub returns-then-place-len-clause-added : goal.returns-then-place-len-clause-added
returns-then-place-len-clause-added c = set_same c.self.inside.shift c.self.inside.words.items c.args.hash c.with_bits.result (omega arith) c.with_bits.ensures.set

pub returns-then-place-len-clause-kept : goal.returns-then-place-len-clause-kept
returns-then-place-len-clause-kept c = λ other was.
    let words = c.self.inside.words.items in
    let bucket = bucket_of c.self.inside.shift c.args.hash in
    let read = c.index.ensures ∙ get_or_default words bucket _ (2 ^ 64 - 1) (omega arith) in
    set_kept c.self.inside.shift words c.args.hash c.with_bits.result other (omega arith) (λ set. c.with_bits.ensures.kept other (ap (λ word. are_set word other) read ∙ set)) (rw (← c.self.view_is) at was)

pub returns-else-place-len-clause-added : goal.returns-else-place-len-clause-added
returns-else-place-len-clause-added c = rw (← c.self.view_is) (set_outside c.self.inside.shift c.self.inside.words.items c.args.hash (omega arith))
