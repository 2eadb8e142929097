use Rattle.std.proofs.Common.{◌≡◌, ◌+◌, ◌-◌, ◌≤◌, ◌++◌, ◌∙◌, ap, arith, drop, length, List, ℕ, subst, sym, take}
use Rattle.std.proofs.KnownBytes.{Keeps-refl}
use Rattle.std.proofs.lemmas.List.{length-drop, length-take-le, take_at}
use Rattle.script_text.specs.Inputs.{IsHeld}
use Rattle.script_text.proofs.HeldLemmas.{held_kept, held_more, held_on, held_same, on_err}
use Rattle.script_text.proofs.input.Input.read.Goals as goal

pub invariant_of-self : goal.invariant_of-self
invariant_of-self g c =
    held_kept c.self.inside.start c.self.inside.filled c.self.inside.searched c.self.inside.bytes.items c.lengthen.new.bytes.items c.self.invariant c.in_err-lengthen.ensures.same (omega (arith, c.in_err-lengthen.ensures.filled))

pub returns-in_err-lengthen-clause-kept : goal.returns-in_err-lengthen-clause-kept
returns-in_err-lengthen-clause-kept g c =
    on_err _ c.from_residual.result (
      Keeps-refl (g.S.Source.left c.args.source.now),
      held_same c.self.inside.start c.self.inside.filled c.self.inside.bytes.items c.lengthen.new.bytes.items (omega (arith, c.self.invariant.ordered)) c.in_err-lengthen.ensures.same ∙ c.self.view_is ∙ c.move_for.ensures,
    )

pub invariant_of-self-in_err-count : goal.invariant_of-self-in_err-count
invariant_of-self-in_err-count g c =
    let now = c.read_behind.new.bytes in
    let was = c.lengthen.new.bytes in
    let size : was.len ≡ length now = cc in
    let same : take was.len (now ++ drop (length now) was.items) ≡ now = take_at now (drop (length now) was.items) was.len (sym size) in
    let first : take c.self.inside.filled now ≡ take c.self.inside.filled c.self.inside.bytes.items = c.in_err-count.ensures.same ∙ ap (take c.self.inside.filled) c.as_mut_slice.ensures.value ∙ c.in_ok-lengthen.ensures.same in
    subst (IsHeld c.self.inside.start c.self.inside.filled c.self.inside.searched) (sym same)
    (held_kept c.self.inside.start c.self.inside.filled c.self.inside.searched c.self.inside.bytes.items now c.self.invariant first (omega (arith, size, c.in_ok-lengthen.ensures.filled)))

pub returns-in_err-count-clause-kept : goal.returns-in_err-count-clause-kept
returns-in_err-count-clause-kept g c =
    let s = c.self.inside.start in
    let f = c.self.inside.filled in
    let now = c.read_behind.new.bytes in
    let was = c.lengthen.new.bytes in
    let size : was.len ≡ length now = cc in
    let same : take was.len (now ++ drop (length now) was.items) ≡ now = take_at now (drop (length now) was.items) was.len (sym size) in
    let first : take f now ≡ take f c.self.inside.bytes.items = c.in_err-count.ensures.same ∙ ap (take f) c.as_mut_slice.ensures.value ∙ c.in_ok-lengthen.ensures.same in
    on_err _ c.from_residual-in_err-count.result (
      c.in_err-count.ensures.kept,
      ap (λ (xs : List ℕ). take (f - s) (drop s xs)) same ∙ held_same s f c.self.inside.bytes.items now (omega (arith, c.self.invariant.ordered)) first ∙ c.self.view_is ∙ c.move_for.ensures,
    )

pub invariant_of-self-2 : goal.invariant_of-self-2
invariant_of-self-2 g c =
    let now = c.read_behind.new.bytes in
    let was = c.lengthen.new.bytes in
    let size : was.len ≡ length now = cc in
    let same : take was.len (now ++ drop (length now) was.items) ≡ now = take_at now (drop (length now) was.items) was.len (sym size) in
    let first : take c.self.inside.filled now ≡ take c.self.inside.filled c.self.inside.bytes.items = c.in_ok-count.ensures.same ∙ ap (take c.self.inside.filled) c.as_mut_slice.ensures.value ∙ c.in_ok-lengthen.ensures.same in
    subst (IsHeld c.self.inside.start (c.self.inside.filled + c.in_ok-count.count) c.self.inside.searched) (sym same)
    (held_on c.self.inside.start c.self.inside.filled c.self.inside.searched c.in_ok-count.count c.self.inside.bytes.items now c.self.invariant first (omega (arith, size, c.in_ok-lengthen.ensures.room, c.in_ok-count.ensures.within)))

pub returns-clause-came : goal.returns-clause-came
returns-clause-came g c =
    let s = c.self.inside.start in
    let f = c.self.inside.filled in
    let count = c.in_ok-count.count in
    let now = c.read_behind.new.bytes in
    let was = c.lengthen.new.bytes in
    let size : was.len ≡ length now = cc in
    let same : take was.len (now ++ drop (length now) was.items) ≡ now = take_at now (drop (length now) was.items) was.len (sym size) in
    let first : take f now ≡ take f c.self.inside.bytes.items = c.in_ok-count.ensures.same ∙ ap (take f) c.as_mut_slice.ensures.value ∙ c.in_ok-lengthen.ensures.same in
    let view : take (f - s) (drop s c.self.inside.bytes.items) ≡ c.args.self.now = c.self.view_is ∙ c.move_for.ensures in
    let ordered : s ≤ f = omega (arith, c.self.invariant.ordered) in
    let few : count ≤ length (drop f now) = omega (arith, size, c.in_ok-lengthen.ensures.room, c.in_ok-count.ensures.within, length-drop f now) in
    record {
      piece = take count (drop f now);
      size = length-take-le count (drop f now) few;
      gave = c.in_ok-count.ensures.gave;
      held = ap (λ (xs : List ℕ). take (f + count - s) (drop s xs)) same ∙ held_more s f count c.self.inside.bytes.items now ordered first ∙ ap (λ (xs : List ℕ). xs ++ take count (drop f now)) view;
      end = c.in_ok-count.ensures.end;
    }
