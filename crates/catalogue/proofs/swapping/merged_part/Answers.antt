use Rattle.std.proofs.Common.{◌≡◌, ◌∙◌, ap, ◌∷◌, [], List, ℕ, length}
use Rattle.lake_model.specs.Layout.{Part}
use Rattle.catalogue.specs.Swaps.{kept_marks}
use Rattle.segment_core.specs.Versions.{part_with, places_with}
use Rattle.catalogue.proofs.SwapLemmas.{lengths, one_part_is}
use Rattle.catalogue.proofs.swapping.merged_part.Goals as goal

pub new-requires : goal.new-requires
new-requires c =
    let kept = c.args.kept.now in
    let run = c.args.run.now in
    let are = rw c.in-Some.is at c.requires.tables in
    let marked : c.new-marked.result ≡ kept_marks c.args.kept.now c.args.run.now = c.new-marked.ensures ∙ c.in_ok-carried.ensures ∙ ap (λ (ns : List ℕ). kept_marks ns c.args.run.now) c.list.ensures in
    let l = lengths kept run c.in-Some.segment.value c.new-marked.result c.requires.taken are marked in
    record { positions = ap (λ (ns : List ℕ). length ns) c.in_ok-positions.ensures ∙ l.0; marks = l.1 }

pub returns : goal.returns
returns c =
    let kept = c.args.kept.now in
    let run = c.args.run.now in
    let are = rw c.in-Some.is at c.requires.tables in
    let some = rw c.in-Some.is at c.requires.some in
    let marked : c.new-marked.result ≡ kept_marks c.args.kept.now c.args.run.now = c.new-marked.ensures ∙ c.in_ok-carried.ensures ∙ ap (λ (ns : List ℕ). kept_marks ns c.args.run.now) c.list.ensures in
    let is = c.new.ensures ∙ ap (λ (ns : List ℕ). part_with c.args.at (places_with ns c.in-Some.segment.value c.new-marked.result)) c.in_ok-positions.ensures in
    ap (λ (part : Part). part ∷ []) is ∙ one_part_is c.args.at kept run c.in-Some.segment.value c.new-marked.result c.requires.taken are marked some
