use Rattle.std.proofs.Common.{◌≡◌, ◌∙◌, ◌++◌, List, ℕ, ap, refl, string_bytes, sym}
use Rattle.text_region.proofs.SpanLemmas.{span_put}
use Rattle.text_region.proofs.region.Region.take_over.Goals as goal

pub returns-clause-span : goal.returns-clause-span
returns-clause-span c =
    let old = c.as_str-start.result.now in
    let text = c.as_str-len.result.now in
    let bytes : string_bytes c.swap.new.x ≡ old ++ text =
    ap string_bytes c.swap.ensures.x_after ∙ c.in-Ok.ensures.bytes
    ∙ ap (λ (front : List ℕ). front ++ string_bytes c.reserve_exact.new.self) (c.as_str.ensures.value ∙ sym c.as_str-start.ensures.value)
    ∙ ap (λ (back : List ℕ). old ++ back) (c.reserve_exact.ensures.bytes ∙ sym c.as_str-len.ensures.value) in
    span_put _ _ old text bytes refl refl c.as_str-start.utf8 c.as_str-len.utf8
