use Rattle.std.proofs.Common.{◌≡◌, ◌∙◌, ◌+◌, ℕ, List, ap, sym, subst, get_or, length}
use Rattle.hash_directory.specs.Buckets.{IsDirectoryOf, bucket_of}
use Rattle.hash_directory.proofs.StartLemmas.{near_is}
use Rattle.hash_directory.proofs.directory.HashDirectory.bucket.Goals as goal

pub returns : goal.returns
returns c = λ hashes is.
    let own = subst (IsDirectoryOf hashes) (sym c.self.view_is) is in
    let starts = c.self.inside.starts.items in
    let bucket = bucket_of c.self.inside.shift c.args.hash in
    let first : c.start_at-from.result ≡ get_or starts bucket 0 = c.start_at-from.ensures ∙ ap (λ (s : List ℕ). get_or s bucket 0) c.deref.ensures.value in
    let last : c.start_at-to.result ≡ get_or starts (bucket + 1) (length hashes) = rw (← own.count) (c.start_at-to.ensures ∙ ap (λ (s : List ℕ). get_or s (bucket + 1) c.self.inside.count) c.deref-2.ensures.value) in
    near_is c.self.inside.shift c.args.hash hashes starts own.starts c.start_at-from.result c.start_at-to.result first last
