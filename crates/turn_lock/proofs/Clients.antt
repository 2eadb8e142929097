-- What the crates above cite besides the laws of histories: what may be given back, and which callers' entries a pass has.
use Rattle.std.proofs.Common.{◌≡◌, ℕ, true, List, [], ◌∷◌, ◌++◌, refl, sym, subst, inl, inr, ⊎_elim}
use Rattle.std.specs.Prelude.{OnOk, OnErr, Ok, Err}
use Rattle.std.specs.declared.result.Result.{Result}
use Rattle.turn_lock.specs.History.{Has, Follows}
use Rattle.turn_lock.specs.Passes.{Known, callers_of, after_seeing, after_ending}
use Rattle.turn_lock.proofs.Histories.{has_left, has_right}

-- ---- what `give` requires of the list, after a change that adds one entry of the pass's own or none

module _ {E : Type 0} (caller_of : E → ℕ) where
  pub follows_on_ok : {T F : Type 0} (added : Result T F) (before after : List E) (entry : E) → OnOk added (after ≡ before ++ entry ∷ []) → OnErr added (after ≡ before) → Follows caller_of (caller_of entry) before after
  follows_on_ok (Ok value) before after entry ok err = inr (entry, refl, ok)
  follows_on_ok (Err error) before after entry ok err = inl err

  -- the same in the form in which `give` requires it: for the pass as `take` left it, the turn's list, the value's list before and after
  -- the change, and the entry
  pub may_give : {T F : Type 0} (added : Result T F) (pass holder : Known E) (taken before after : List E) (entry : E) → holder ≡ after_seeing pass taken true → before ≡ taken → caller_of entry ≡ pass.caller
      → OnOk added (after ≡ before ++ entry ∷ []) → OnErr added (after ≡ before) → Follows caller_of holder.caller holder.seen after
  may_give added pass holder taken before after entry held is mine ok err =
      let f : Follows caller_of (caller_of entry) before after = follows_on_ok added before after entry ok err in
      let g : Follows caller_of pass.caller taken after = subst (λ (k : ℕ × List E). Follows caller_of k.0 k.1 after) (λ i. (mine i, is i)) f in
      subst (λ (p : Known E). Follows caller_of p.caller p.seen after) (sym held) g

-- ---- after another pass ended into this one, it still has its own callers, and has the other's

module _ {E : Type 0} (pass other : Known E) (number : ℕ) where
  pub keeps_callers : Has (callers_of pass) number → Has (callers_of (after_ending pass other)) number
  keeps_callers h = ⊎_elim (λ (e : pass.caller ≡ number). inl e) (λ (t : Has pass.ended number). inr (has_right (callers_of other) pass.ended number t)) h

  pub gets_callers : Has (callers_of other) number → Has (callers_of (after_ending pass other)) number
  gets_callers h = inr (has_left (callers_of other) pass.ended number h)
