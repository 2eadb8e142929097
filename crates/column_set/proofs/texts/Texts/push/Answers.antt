use Rattle.std.proofs.Common.{◌≡◌, ◌∙◌, ◌++◌, ◌∷◌, [], ap, arith, length-append, map}
use Rattle.std.specs.Prelude.{Err, Ok, OnErr, Result}
use Rattle.std.proofs.lemmas.List.{map-append}
use Rattle.text_region.specs.Spans.{IsSpan, text_at}
use Rattle.column_set.proofs.ReadLemmas.{all-more}
use Rattle.column_set.proofs.RegionLemmas.{same_texts, still_stand}
use Rattle.column_set.proofs.texts.Texts.push.Goals as goal

pub invariant_of-self-in_err-push : goal.invariant_of-self-in_err-push
invariant_of-self-in_err-push c =
    let reserved = still_stand _ _ c.self.inside.spans.items c.reserve.ensures.kept c.self.invariant.stand in
    rw c.in_err-push.ensures.items (record { stand = still_stand _ _ c.self.inside.spans.items c.put-span.ensures.kept reserved; few = c.self.invariant.few })

on_err : {P : Type 0} {T E : Type 0} (r : Result T E) → P → OnErr r P
on_err (Ok x) p = tt
on_err (Err x) p = p

pub returns-in_err-push-clause-refused : goal.returns-in_err-push-clause-refused
returns-in_err-push-clause-refused c =
    let spans = c.self.inside.spans.items in
    let reserved = still_stand _ _ spans c.reserve.ensures.kept c.self.invariant.stand in
    on_err c.from_residual-in_err-push.result (
    ap (map (text_at c.put-span.new.self)) c.in_err-push.ensures.items ∙ same_texts _ _ spans c.put-span.ensures.kept reserved ∙ same_texts _ _ spans c.reserve.ensures.kept c.self.invariant.stand ∙ c.self.view_is)

pub invariant_of-self-2 : goal.invariant_of-self-2
invariant_of-self-2 c =
    let spans = c.self.inside.spans.items in
    let reserved = still_stand _ _ spans c.reserve.ensures.kept c.self.invariant.stand in
    rw c.in_ok-push.ensures.items (record {
      stand = all-more (IsSpan c.put-span.new.self) spans c.put-span.result (still_stand _ _ spans c.put-span.ensures.kept reserved) c.put-span.ensures.span;
      few = omega (arith, length-append spans (c.put-span.result ∷ []));
    })

pub returns-clause-added : goal.returns-clause-added
returns-clause-added c =
    let spans = c.self.inside.spans.items in
    let new = c.put-span.new.self in
    let reserved = still_stand _ _ spans c.reserve.ensures.kept c.self.invariant.stand in
    let before : map (text_at new) spans ≡ c.args.self.now = same_texts _ _ spans c.put-span.ensures.kept reserved ∙ same_texts _ _ spans c.reserve.ensures.kept c.self.invariant.stand ∙ c.self.view_is in
    ap (map (text_at new)) c.in_ok-push.ensures.items ∙ map-append (text_at new) spans (c.put-span.result ∷ []) ∙ (λ j. before j ++ c.put-span.ensures.text j ∷ [])
