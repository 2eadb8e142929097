-- The list of the seats' views, when one is set, two are set, or one is added.
use Rattle.std.proofs.Common.{◌≡◌, ◌≢◌, ◌⊎◌, ℕ, zero, suc, ◌<◌, List, [], ◌∷◌, ◌++◌, length, set, refl, sym, ap, ◌∙◌, subst, inl, inr, ⊎_elim, arith}
use mathlib.Core.Option as maybe
use mathlib.Core.Logic.{dite}
use native.Mathlib.Decide.{ℕ_discrete}
use lib.ListN.{get_elem?}
use Rattle.atomic_table.proofs.Lists.{at_set, at_longer, set_here, set_else}
use Rattle.turn_lock.specs.Rule.{SomeSeat}

module _ {W : Type 0} where
  pub at_inside : (views : List W) (seat : ℕ) (v : W) → get_elem? views seat ≡ maybe.some v → seat < length views
  at_inside [] seat v e = absurd (maybe.some-ne-none v (sym e))
  at_inside (first ∷ views) zero v e = omega arith
  at_inside (first ∷ views) (suc seat) v e = let h = at_inside views seat v e in omega arith

  -- a seat of a list with one more view is a seat of the list, or the new one
  pub at_end : (views : List W) (new v : W) (seat : ℕ) → get_elem? (views ++ new ∷ []) seat ≡ maybe.some v → (get_elem? views seat ≡ maybe.some v) ⊎ ((length views ≡ seat) × (new ≡ v))
  at_end [] new v zero e = inr (refl, maybe.some-injective new v e)
  at_end [] new v (suc seat) e = absurd (maybe.some-ne-none v (sym e))
  at_end (first ∷ views) new v zero e = inl e
  at_end (first ∷ views) new v (suc seat) e = ⊎_elim (λ h. inl h) (λ t. inr (ap suc t.0, t.1)) (at_end views new v seat e)

  -- ---- some seat has a view with the property

  -- when one view is set
  pub some_set : {P Q : ℕ → W → Type 0} {v : W} (views : List W) (me : ℕ) (w : W) → get_elem? views me ≡ maybe.some v → (P me v → Q me w) → ((seat : ℕ) (u : W) → P seat u → Q seat u)
      → SomeSeat P views → SomeSeat Q (set views me w)
  some_set {P} {Q} {v} views me w at mine others s = dite (ℕ_discrete s.0 me)
      (λ (e : s.0 ≡ me).
      let there : get_elem? views me ≡ maybe.some s.1 = subst (λ k. get_elem? views k ≡ maybe.some s.1) e s.2 in
      let same : s.1 ≡ v = maybe.some-injective s.1 v (sym there ∙ at) in
      (me, w, set_here views me w (at_inside views me v at), mine (subst (λ (x : ℕ × W). P x.0 x.1) (λ i. (e i, same i)) s.3)))
      (λ (n : s.0 ≢ me). (s.0, s.1, set_else views me s.0 w n ∙ s.2, others s.0 s.1 s.3))

  -- when one view is added
  pub some_more : {P Q : ℕ → W → Type 0} (views : List W) (new : W) → ((seat : ℕ) (u : W) → P seat u → Q seat u) → SomeSeat P views → SomeSeat Q (views ++ new ∷ [])
  some_more {P} {Q} views new others s = (s.0, s.1, at_longer views (new ∷ []) s.0 s.1 s.2, others s.0 s.1 s.3)

  -- when two views are set
  pub some_joined : {P Q : ℕ → W → Type 0} {v w : W} (views : List W) (me other : ℕ) (both spent : W) → get_elem? views me ≡ maybe.some v → get_elem? views other ≡ maybe.some w → other ≢ me
      → (P me v → Q me both) → (P other w → Q me both) → ((seat : ℕ) (u : W) → seat ≢ other → P seat u → Q seat u) → SomeSeat P views → SomeSeat Q (set (set views me both) other spent)
  some_joined {P} {Q} {v} {w} views me other both spent at there apart mine theirs others s =
      let here : get_elem? (set (set views me both) other spent) me ≡ maybe.some both = set_else (set views me both) other me spent (λ e. apart (sym e)) ∙ set_here views me both (at_inside views me v at) in
      dite (ℕ_discrete s.0 other)
      (λ (e : s.0 ≡ other).
      let now : get_elem? views other ≡ maybe.some s.1 = subst (λ k. get_elem? views k ≡ maybe.some s.1) e s.2 in
      let same : s.1 ≡ w = maybe.some-injective s.1 w (sym now ∙ there) in
      (me, both, here, theirs (subst (λ (x : ℕ × W). P x.0 x.1) (λ i. (e i, same i)) s.3)))
      (λ (far : s.0 ≢ other). dite (ℕ_discrete s.0 me)
      (λ (e : s.0 ≡ me).
      let now : get_elem? views me ≡ maybe.some s.1 = subst (λ k. get_elem? views k ≡ maybe.some s.1) e s.2 in
      let same : s.1 ≡ v = maybe.some-injective s.1 v (sym now ∙ at) in
      (me, both, here, mine (subst (λ (x : ℕ × W). P x.0 x.1) (λ i. (e i, same i)) s.3)))
      (λ (n : s.0 ≢ me). (s.0, s.1, set_else (set views me both) other s.0 spent far ∙ (set_else views me s.0 both n ∙ s.2), others s.0 s.1 far s.3)))

  -- ---- each seat has a view with the property

  -- when one view is set
  pub each_set : (F : ℕ → W → Type 0) (views : List W) (me : ℕ) (w : W) → F me w → ((seat : ℕ) (u : W) → seat ≢ me → get_elem? views seat ≡ maybe.some u → F seat u)
      → (seat : ℕ) (u : W) → get_elem? (set views me w) seat ≡ maybe.some u → F seat u
  each_set F views me w mine others seat u e = ⊎_elim (λ (t : (seat ≡ me) × (w ≡ u)). subst (λ (x : ℕ × W). F x.0 x.1) (λ i. (sym t.0 i, t.1 i)) mine)
      (λ (t : (seat ≢ me) × (get_elem? views seat ≡ maybe.some u)). others seat u t.0 t.1) (at_set views me seat w u e)

  -- when one view is added
  pub each_more : (F : ℕ → W → Type 0) (views : List W) (new : W) → F (length views) new → ((seat : ℕ) (u : W) → get_elem? views seat ≡ maybe.some u → F seat u)
      → (seat : ℕ) (u : W) → get_elem? (views ++ new ∷ []) seat ≡ maybe.some u → F seat u
  each_more F views new mine others seat u e = ⊎_elim (others seat u) (λ (t : (length views ≡ seat) × (new ≡ u)). subst (λ (x : ℕ × W). F x.0 x.1) (λ i. (t.0 i, t.1 i)) mine) (at_end views new u seat e)
