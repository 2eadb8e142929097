-- What a pass keeps through the calls that change it, and what a seat knows after the lock was won or lost.
use Rattle.std.proofs.Common.{◌≡◌, ◌≢◌, ℕ, ◌+◌, ◌-◌, ◌*◌, ◌/◌, ◌%◌, ◌<◌, ◌^◌, List, [], ◌∷◌, ◌++◌, Some, None, sym, ap, ◌∙◌, subst, inl, inr, ⊎_elim, arith}
use Rattle.std.specs.Prelude.{IfSome}
use Rattle.std.specs.declared.option.Option.{Option}
use Rattle.atomic_table.specs.declared.shared.Seat.{Seat}
use Rattle.atomic_table.specs.Table.{Step, rest}
use Rattle.turn_lock.specs.declared.view.View.{View}
use Rattle.turn_lock.specs.History.{IsOfGiven, Follows}
use Rattle.turn_lock.specs.Rule.{next_number, view_of, giving_view, holding_view, free_view, Seated, Takes}
use Rattle.turn_lock.specs.Passes.{IsPass, HasWon, FollowsOwn, slots_in_hand}
use Rattle.turn_lock.proofs.Histories.{given_more, given_append}
use Rattle.turn_lock.proofs.Looks.{same_number}

pub even_half : (n : ℕ) → n % 2 ≡ 0 → n ≡ 2 * (n / 2)
even_half n e = omega arith

module _ {V E : Type 0} (list : V → List E) (caller_of : E → ℕ) where
  -- ---- giving back

  -- an entry of the pass's caller is the seat's own
  pub follows_own : (v : View E) (caller : ℕ) (after : List E) → v.caller ≡ Some caller → Follows caller_of caller v.seen after → FollowsOwn caller_of v after
  follows_own v caller after is f = ⊎_elim (λ (same : after ≡ v.seen). inl same)
      (λ (one : (entry : E) × (caller_of entry ≡ caller) × (after ≡ v.seen ++ entry ∷ [])). inr (one.0, is ∙ ap (λ (n : ℕ). Some n) (sym one.1), one.2)) f

  -- the list after adding an entry of a given number has entries of given numbers only
  given_follows : (caller given : ℕ) (before after : List E) → Follows caller_of caller before after → IsOfGiven caller_of given before → caller < given → IsOfGiven caller_of given after
  given_follows caller given before after f b l = ⊎_elim (λ (e : after ≡ before). subst (IsOfGiven caller_of given) (sym e) b)
      (λ (one : (entry : E) × (caller_of entry ≡ caller) × (after ≡ before ++ entry ∷ [])).
      subst (IsOfGiven caller_of given) (sym one.2) (given_append caller_of given before (one.0 ∷ []) b (subst (λ k. k < given) (sym one.1) l, tt))) f

  pub pass_after_give : (before after : Seat (Option V) (View E)) (caller : ℕ) (given : Option ℕ) (left : ℕ) (seen : List E) → IsPass caller_of before caller given left → Follows caller_of caller before.me.0.seen seen
      → after.me ≡ (free_view (holding_view before.me.0 seen), []) → IsPass caller_of after caller given left
  pass_after_give before after caller given left seen p f e = record {
    caller_is = ap (λ (m : Seated list caller_of). m.0.caller) e ∙ p.caller_is;
    given_is = ap (λ (m : Seated list caller_of). m.0.given) e ∙ p.given_is;
    told = ap (λ (m : Seated list caller_of). m.0.earlier) e;
    hand = ap (λ (m : Seated list caller_of). m.1) e ∙ sym (ap (λ (m : Seated list caller_of). slots_in_hand m.0.holds None) e);
    room = p.room;
    seen_given = λ count is. subst (IsOfGiven caller_of count) (sym (ap (λ (m : Seated list caller_of). m.0.seen) e)) (given_follows caller count before.me.0.seen seen f (p.seen_given count is) (p.caller_given count is));
    caller_given = p.caller_given;
  }

  -- ---- giving a number

  pub pass_after_number : (before after : Seat (Option V) (View E)) (caller : ℕ) (given : Option ℕ) (left number : ℕ) → IsPass caller_of before caller given left → given ≡ Some number → 0 < left
      → after.me ≡ (giving_view before.me.0, before.me.1) → IsPass caller_of after caller (Some (number + 1)) (left - 1)
  pass_after_number before after caller given left number p is some_left e = record {
    caller_is = ap (λ (m : Seated list caller_of). m.0.caller) e ∙ p.caller_is;
    given_is = ap (λ (m : Seated list caller_of). m.0.given) e ∙ ap next_number (p.given_is ∙ is);
    told = ap (λ (m : Seated list caller_of). m.0.earlier) e ∙ p.told;
    hand = ap (λ (m : Seated list caller_of). m.1) e ∙ (p.hand ∙ sym (ap (λ (m : Seated list caller_of). slots_in_hand m.0.holds None) e));
    room = let r : number + left < 2 ^ 32 = subst (λ o. IfSome o (λ count. count + left < 2 ^ 32)) is p.room in omega arith;
    seen_given = λ count j. subst (IsOfGiven caller_of count) (sym (ap (λ (m : Seated list caller_of). m.0.seen) e)) (given_more caller_of number count before.me.0.seen (let q = same_number (number + 1) count j in omega arith) (p.seen_given number is));
    caller_given = λ count j. let q = same_number (number + 1) count j in let l = p.caller_given number is in omega arith;
  }

  -- ---- taking

  -- after a win the slot is in hand,
  pub hand_of : (s : Step (Option V)) (before after : Seated list caller_of) (found : ℕ) → Takes list caller_of s before found after → found ≡ s.first → (content : Option V) × (after.1 ≡ (0, content) ∷ rest after.1)
  hand_of s before after found t is = let w = t.0 is in (Some w.value, ap (λ (z : Seated list caller_of). z.1) w.holds ∙ ap (λ (z : Seated list caller_of). (0, Some w.value) ∷ rest z.1) (sym w.holds))

  abbrev first_content : List (ℕ × Option V) → Option V
  first_content [] = None
  first_content (first ∷ others) = first.1

  -- and so is the value, once it is taken out of the slot
  pub won : (s : Step (Option V)) (before after last : Seated list caller_of) (found : ℕ) (content : Option V) → Takes list caller_of s before found after → found ≡ s.first → before.1 ≡ [] → after.1 ≡ (0, content) ∷ rest after.1
      → last ≡ (after.0, (0, None) ∷ rest after.1) → (value : V) × (content ≡ Some value) × HasWon list caller_of before.0 value last
  won s before after last found content t is empty here out = let w = t.0 is in let value : V = w.value in (
    value,
    ap first_content (sym here ∙ ap (λ (z : Seated list caller_of). z.1) w.holds),
    record {
      holds = out ∙ ap (λ (z : Seated list caller_of). (z.0, (0, None) ∷ rest z.1)) w.holds ∙ ap (λ (c : List (ℕ × Option V)). (holding_view before.0 (list value), (0, None) ∷ c)) empty;
      grows = w.grows;
      given = w.given;
    },
  )

  -- after a loss nothing has changed
  pub lost : (s : Step (Option V)) (before after : Seated list caller_of) (found : ℕ) → Takes list caller_of s before found after → found ≢ s.first → before.0.earlier ≡ [] → after ≡ before
  lost s before after found t miss told = t.1 miss ∙ (λ i. (view_of before.0.caller before.0.ended before.0.given before.0.seen (sym told i) before.0.holds, before.1))
