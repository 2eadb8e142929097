use Rattle.std.proofs.Common.{◌≡◌, ◌∙◌, ap, subst}
use Rattle.std.specs.Str.{IsUtf8}
use Rattle.text_region.proofs.SpanLemmas.{starts_at, ends_at}
use Rattle.text_region.proofs.region.Region.text.Goals as goal

pub range-requires-clause-start_boundary : goal.range-requires-clause-start_boundary
range-requires-clause-start_boundary c _ =
    let same : c.as_str.result.now ≡ c.args.self.now.bytes = c.as_str.ensures.value ∙ ap (λ r. r.bytes) c.self.view_is in
    rw same (starts_at c.args.self.now c.args.at (subst IsUtf8 same c.as_str.utf8) c.requires)

pub range-requires-clause-end_boundary : goal.range-requires-clause-end_boundary
range-requires-clause-end_boundary c =
    let same : c.as_str.result.now ≡ c.args.self.now.bytes = c.as_str.ensures.value ∙ ap (λ r. r.bytes) c.self.view_is in
    rw same (ends_at c.args.self.now c.args.at (subst IsUtf8 same c.as_str.utf8) c.requires)
