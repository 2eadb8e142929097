-- The keys of values one at a time, and the columns of a table one place at a time.
use Rattle.std.proofs.Common.{◌≡◌, ◌<◌, ◌≤◌, ◌+◌, ◌-◌, ℕ, suc, List, [], ◌∷◌, ◌++◌, Option, Some, None, Bool, true, false, refl, ap, ◌∙◌, arith, cond}
use Rattle.std.specs.Prelude.{fold, find, option_map}
use Rattle.std.specs.Option.{option_map_or}
use Rattle.std.specs.List.{AllByRecursion, cons_option, filter_map, range_with_len}
use Rattle.lake_model.specs.declared.SetRefused.{SetRefused}
use Rattle.lake_model.specs.declared.SetRefused.TheVariants as sets
use Rattle.lake_model.specs.Texts.{Text}
use Rattle.lake_model.specs.Tables.{add_key}

-- one more key, if the value has one
pub fold-next : {X : Type 0} (f : X → Option Text) (x : X) (xs : List X) (seen : List Text) → fold add_key seen (filter_map f (x ∷ xs)) ≡ fold add_key (option_map_or (add_key seen) (f x) seen) (filter_map f xs)
fold-next f x xs seen = by (f x)
  where
    by : (found : Option Text) → fold add_key seen (cons_option found (filter_map f xs)) ≡ fold add_key (option_map_or (add_key seen) found seen) (filter_map f xs)
    by None = refl
    by (Some found) = refl

-- the places after i, up to n
abbrev pub places_behind : ℕ → ℕ → List ℕ
places_behind i n = range_with_len (i + 1) (n - i)

places_behind-more : (i n : ℕ) → i < n → places_behind i n ≡ (i + 1) ∷ places_behind (i + 1) n
places_behind-more i n h = let e : n - i ≡ suc (n - (i + 1)) = omega arith in ap (range_with_len (i + 1)) e

-- the first place at fault of those that are left
abbrev pub fault_behind : (ℕ → Bool) → ℕ → ℕ → Option SetRefused
fault_behind p i n = option_map sets.TooManyValues (find p (places_behind i n))

pub fault_behind-none : (p : ℕ → Bool) (n : ℕ) → option_map sets.TooManyValues (find p (range_with_len 1 n)) ≡ fault_behind p 0 n
fault_behind-none p n = let e : n ≡ n - 0 = omega arith in ap (λ (k : ℕ). option_map sets.TooManyValues (find p (range_with_len 1 k))) e

pub fault_behind-here : (p : ℕ → Bool) (i n : ℕ) → i < n → p (i + 1) ≡ true → fault_behind p i n ≡ Some (sets.TooManyValues (i + 1))
fault_behind-here p i n h e = ap (λ places. option_map sets.TooManyValues (find p places)) (places_behind-more i n h) ∙ ap (λ b. option_map sets.TooManyValues (cond b (Some (i + 1)) (find p (places_behind (i + 1) n)))) e

pub fault_behind-later : (p : ℕ → Bool) (i n : ℕ) → i < n → p (i + 1) ≡ false → fault_behind p i n ≡ fault_behind p (i + 1) n
fault_behind-later p i n h e = ap (λ places. option_map sets.TooManyValues (find p places)) (places_behind-more i n h) ∙ ap (λ b. option_map sets.TooManyValues (cond b (Some (i + 1)) (find p (places_behind (i + 1) n)))) e

pub fault_behind-end : (p : ℕ → Bool) (i n : ℕ) → n ≤ i → fault_behind p i n ≡ None
fault_behind-end p i n h = let e : n - i ≡ 0 = omega arith in ap (λ (k : ℕ). option_map sets.TooManyValues (find p (range_with_len (i + 1) k))) e

pub all-more : {X : Type 0} (P : X → Type 0) (xs : List X) (x : X) → AllByRecursion P xs → P x → AllByRecursion P (xs ++ x ∷ [])
all-more P [] x h p = (p, tt)
all-more P (y ∷ xs) x h p = (h.0, all-more P xs x h.1 p)
