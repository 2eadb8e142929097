use Rattle.std.proofs.Common.{◌≡◌, ◌∙◌, ◌++◌, ◌∷◌, [], ap, arith, length-append, map}
use Rattle.std.specs.Prelude.{Err, Ok, OnErr, Result}
use Rattle.std.proofs.lemmas.List.{map-append}
use Rattle.text_region.specs.Spans.{IsSpan, text_at}
use Rattle.column_set.proofs.ReadLemmas.{all-more}
use Rattle.column_set.proofs.RegionLemmas.{same_texts, still_stand}
use Rattle.column_set.proofs.texts.Texts.push_buffer.Goals as goal

on_err : {P : Type 0} {T E : Type 0} (r : Result T E) → P → OnErr r P
on_err (Ok x) p = tt
on_err (Err x) p = p

pub invariant_of-self-in_err-push : goal.invariant_of-self-in_err-push
invariant_of-self-in_err-push c =
    rw c.in_err-push.ensures.items (record { stand = still_stand _ _ c.self.inside.spans.items c.in_ok-span.ensures.kept c.self.invariant.stand; few = c.self.invariant.few })

pub returns-in_err-push-clause-refused : goal.returns-in_err-push-clause-refused
returns-in_err-push-clause-refused c =
    on_err c.from_residual-in_err-push.result (
    ap (map (text_at c.put_buffer.new.self)) c.in_err-push.ensures.items ∙ same_texts _ _ c.self.inside.spans.items c.in_ok-span.ensures.kept c.self.invariant.stand ∙ c.self.view_is)

pub invariant_of-self-2 : goal.invariant_of-self-2
invariant_of-self-2 c =
    let spans = c.self.inside.spans.items in
    let span = c.in_ok-span.span in
    rw c.in_ok-push.ensures.items (record {
      stand = all-more (IsSpan c.put_buffer.new.self) spans span (still_stand _ _ spans c.in_ok-span.ensures.kept c.self.invariant.stand) c.in_ok-span.ensures.span;
      few = omega (arith, length-append spans (span ∷ []));
    })

pub returns-clause-added : goal.returns-clause-added
returns-clause-added c =
    let spans = c.self.inside.spans.items in
    let new = c.put_buffer.new.self in
    let before : map (text_at new) spans ≡ c.args.self.now = same_texts _ _ spans c.in_ok-span.ensures.kept c.self.invariant.stand ∙ c.self.view_is in
    ap (map (text_at new)) c.in_ok-push.ensures.items ∙ map-append (text_at new) spans (c.in_ok-span.span ∷ []) ∙ (λ j. before j ++ c.in_ok-span.ensures.text j ∷ [])
