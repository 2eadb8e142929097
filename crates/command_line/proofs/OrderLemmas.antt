-- How an order is read, and in what range its lanes are.
use Rattle.std.proofs.Common.{◌≡◌, ◌≤◌, ◌∙◌, refl, ap, sym, subst, ℕ, List, [], ◌∷◌, ◌++◌, Bool, true, false, map, drop, length, Option, Some, None, option_map, Result, Ok, Err, IfOk, arith}
use Rattle.std.specs.Prelude.{◌==◌}
use Rattle.std.specs.Borrow.{Bor}
use Rattle.std.specs.List.{AllByRecursion, slice_split}
use Rattle.std.proofs.lemmas.Simd.{map-map}
use Rattle.clap.specs.Walk.{Text}
use Rattle.option_model.specs.Plain.{all_there, lane_number, order_of, piece_of}
use Rattle.option_model.specs.Ranges.{IsPieceOf}
use Rattle.command_line.proofs.NumberLemmas.{number_bounds, number_or_zero_bounds}

module _ {X Y : Type 0} (f : X → Option Y) where
  -- the first i of the list are read as ys
  abbrev pub IsReadTo : List X → ℕ → List Y → Type 0
  IsReadTo xs i ys = option_map (λ more. ys ++ more) (all_there (map f (drop i xs))) ≡ all_there (map f xs)

  -- what holds of each element that is read holds of all
  pub all_keep : (P : Y → Type 0) → ((x : X) (y : Y) → f x ≡ Some y → P y) → (xs : List X) (ys : List Y) → all_there (map f xs) ≡ Some ys → AllByRecursion P ys
  all_keep P each [] ys e = subst (AllByRecursion P) (same [] ys e) tt
    where
      same : (a b : List Y) → Some a ≡ Some b → a ≡ b
      same a b e = cc e
  all_keep P each (x ∷ xs) ys e = first (f x) refl (all_there (map f xs)) refl e (all_keep P each xs)
    where
      first : (o : Option Y) → f x ≡ o → (more : Option (List Y)) → all_there (map f xs) ≡ more → all_there (o ∷ map f xs) ≡ Some ys
          → ((zs : List Y) → all_there (map f xs) ≡ Some zs → AllByRecursion P zs) → AllByRecursion P ys
      first None is more rest e below = cc e
      first (Some y) is None rest e below =
          let bad : None ≡ Some ys = ap (option_map (λ zs. y ∷ zs)) (sym rest) ∙ e in cc bad
      first (Some y) is (Some zs) rest e below =
          let all : y ∷ zs ≡ ys = let some : Some (y ∷ zs) ≡ Some ys = ap (option_map (λ zs. y ∷ zs)) (sym rest) ∙ e in cc some in
          subst (AllByRecursion P) all (each x y is, below zs rest)

-- ---- parts

-- what is read from the parts of a text
pub parts_read : {Y E : Type 0} (f : Text → Option Y) (r : Result (Option (List Y)) E) (parts : List (Bor Text)) (texts : List Text)
    → IfOk r (λ o. o ≡ all_there (map (λ part. f part.now) parts)) → map (λ part. part.now) parts ≡ texts → IfOk r (λ o. o ≡ all_there (map f texts))
parts_read f (Err e) parts texts read are = tt
parts_read f (Ok o) parts texts read are = read ∙ ap all_there (sym (map-map f (λ part. part.now) parts) ∙ ap (map f) are)

pub some_piece : (lanes : ℕ) (merge : Bool) (text : Text) → (length text == 0) ≡ false
    → all_there (map (lane_number lanes merge) (slice_split (λ b. b == 0x2C) text)) ≡ piece_of lanes merge text
some_piece lanes merge [] e = cc e
some_piece lanes merge (byte ∷ bytes) e = refl

-- ---- ranges

lane_in_range : (lanes : ℕ) (merge : Bool) (text : Text) (n : ℕ) → lane_number lanes merge text ≡ Some n → (n ≤ lanes) × (n ≡ 0 → merge ≡ true)
lane_in_range lanes true text n e = (number_or_zero_bounds lanes text n e, λ zero. refl)
lane_in_range lanes false text n e =
    let bounds = number_bounds lanes text n e in
    (bounds.1, λ zero. absurd (omega (arith, bounds.0, zero)))

piece_in_range : (lanes : ℕ) (merge : Bool) (text : Text) (piece : List ℕ) → piece_of lanes merge text ≡ Some piece → IsPieceOf lanes merge piece
piece_in_range lanes merge [] piece e = subst (IsPieceOf lanes merge) (let same : [] ≡ piece = cc e in same) tt
piece_in_range lanes merge (byte ∷ bytes) piece e =
    all_keep (lane_number lanes merge) (λ lane. (lane ≤ lanes) × (lane ≡ 0 → merge ≡ true)) (lane_in_range lanes merge) (slice_split (λ b. b == 0x2C) (byte ∷ bytes)) piece e

pub order_in_range : (lanes : ℕ) (merge : Bool) (text : Text) (pieces : List (List ℕ)) → order_of lanes merge text ≡ Some pieces → AllByRecursion (IsPieceOf lanes merge) pieces
order_in_range lanes merge text pieces e =
    all_keep (piece_of lanes merge) (IsPieceOf lanes merge) (piece_in_range lanes merge) (slice_split (λ b. b == 0x2F) text) pieces e
