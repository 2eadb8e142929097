-- Numbered lists by index.
use Rattle.std.proofs.Common.{◌≡◌, refl, subst, ℕ, zero, suc, ◌+◌, ◌<◌, List, [], ◌∷◌, length, get_or, arith}
use denote.Ref.{MutBor}
use denote.Param.Members.{Shared}
use Rattle.std.specs.Fork.{AcceptsAt, AcceptsEach, ChangesAt, ChangesEach}
use Rattle.lane_run.specs.Numbered.{AllChange, AllNumbered}

module _ {F T : Type 0} (g : Shared F (ℕ × (MutBor T × Unit {0})) ((Unit {0}) × (MutBor T × Unit {0}))) (f : F) where
  accepts_from : (first : ℕ) (xs : List T) → ((i : ℕ) (p : MutBor T) → i < length xs → p.now ≡ get_or xs i p.now → g.pre f (first + i, (p, tt))) → AllNumbered (AcceptsAt g f) first xs
  accepts_from first [] accepts = tt
  accepts_from first (x ∷ xs) accepts = (
    (λ p is. let e : first + 0 ≡ first = omega arith in subst (λ (n : ℕ). g.pre f (n, (p, tt))) e (accepts 0 p (omega arith) is)),
    accepts_from (first + 1) xs (λ i p within is. let e : first + suc i ≡ (first + 1) + i = omega arith in subst (λ (n : ℕ). g.pre f (n, (p, tt))) e (accepts (suc i) p (omega (arith, within)) is)),
  )

  -- the call at each place may be made with the number of the place
  pub accepts_numbered : (xs : List T) → AcceptsEach g f xs → AllNumbered (AcceptsAt g f) 0 xs
  accepts_numbered xs accepts = accepts_from 0 xs (λ i p within is. let e : i ≡ 0 + i = omega arith in subst (λ (n : ℕ). g.pre f (n, (p, tt))) e (accepts i p within is))

  changes_from : (first : ℕ) (xs ys : List T) → AllChange (ChangesAt g f) first xs ys → (i : ℕ) (d : T) → i < length xs → ChangesAt g f (first + i) (get_or xs i d) (get_or ys i d)
  changes_from first [] ys h i d within = absurd (omega (arith, within))
  changes_from first (x ∷ xs) [] h i d within = absurd h
  changes_from first (x ∷ xs) (y ∷ ys) h zero d within = let e : first ≡ first + 0 = omega arith in subst (λ (n : ℕ). ChangesAt g f n x y) e h.0
  changes_from first (x ∷ xs) (y ∷ ys) h (suc i) d within =
      let e : (first + 1) + i ≡ first + suc i = omega arith in subst (λ (n : ℕ). ChangesAt g f n (get_or xs i d) (get_or ys i d)) e (changes_from (first + 1) xs ys h.1 i d (omega (arith, within)))

  -- each element was changed by its call, with the number of its place
  pub changes_each : (xs ys : List T) → AllChange (ChangesAt g f) 0 xs ys → ChangesEach g f xs ys
  changes_each xs ys h i d within = let e : 0 + i ≡ i = omega arith in (refl, subst (λ (n : ℕ). ChangesAt g f n (get_or xs i d) (get_or ys i d)) e (changes_from 0 xs ys h i d within))
