-- A binary search among the tokens' numbers finds the token of a key.
use Rattle.std.proofs.Common.{◌≡◌, refl, ap, sym, ◌∙◌, subst, inl, inr, ℕ, suc, ◌+◌, ◌<◌, ◌≤◌, List, [], ◌∷◌, map, length, get_or, drop, false, ◌||◌, arith, Result, Ok, Err, Some, None, MatchResult}
use Rattle.std.specs.Prelude.{bytes_eq}
use Rattle.std.specs.Ordering.{is_eq, nat_cmp, ordering_index}
use Rattle.std.specs.declared.cmp.Ordering.{Ordering}
use Rattle.std.specs.declared.cmp.Ordering.TheVariants.{Less, Equal, Greater}
use Rattle.std.specs.Cmp.Lexicographic.{slice_cmp}
use Rattle.std.specs.List.{list_any, enumerate_from, All}
use Rattle.std.specs.List.Sorted.{IsSearchInRange, IsBinarySearchResult, IsNonDecreasingBy}
use Rattle.std.proofs.lemmas.Cmp.{nat_list_cmp_total}
use Rattle.std.proofs.lemmas.List.{get_or-map, get_or-drop, length-map, length-drop}
use Rattle.std.proofs.lemmas.List.Folds.{list_any_none}
use Rattle.std.proofs.lemmas.List.FromFn.{get_or-enumerate_from, length-enumerate_from}
use Rattle.std.proofs.lemmas.List.Sorted.{searchable_from_sorted, list_any-IsPermutation, All-permutation}
use Rattle.std.proofs.lemmas.Bool.{cases_lt}
use Rattle.std.proofs.lemmas.Map.Lookups.{exact_bytes}
use Rattle.std.proofs.lemmas.Map.Text.{is_eq-slice_cmp}
use Rattle.std.proofs.Math.Seq.{drop-cons}
use Rattle.lake_model.specs.Texts.{Text}
use Rattle.search_model.specs.Segment.{Token}
use Rattle.search_model.specs.Arrays.{key_of, token_keys, numbers_of, IsByKey, IsToken, token_with}

-- the keys of the tokens from the n-th on
any_from : (all : List Token) (key : Text) (n : ℕ) (rest : List Token) → drop n all ≡ rest
    → list_any (λ m. bytes_eq (key_of all m) key) (map (λ t. t.0) (enumerate_from n rest)) ≡ list_any (λ t. bytes_eq t.key key) rest
any_from all key n [] e = refl
any_from all key n (t ∷ rest) e =
    let b : n < length all = omega (arith, length-drop n all, ap length e) in
    let z : n + 0 ≡ n = omega arith in
    let at : get_or all n t ≡ t = ap (λ (m : ℕ). get_or all m t) (sym z) ∙ sym (get_or-drop n all 0 t) ∙ ap (λ (ts : List Token). get_or ts 0 t) e in
    let first : key_of all n ≡ t.key = get_or-map (λ (u : Token). u.key) all n t [] b ∙ ap (λ (u : Token). u.key) at in
    let one : n + 1 ≡ suc n = omega arith in
    let split : (get_or all n t ∷ drop (suc n) all) ≡ (t ∷ rest) = sym (drop-cons all n t b) ∙ e in
    let next : drop (n + 1) all ≡ rest = rw one (cc) in
    ap (λ (k : Text). bytes_eq k key || list_any (λ m. bytes_eq (key_of all m) key) (map (λ t. t.0) (enumerate_from (n + 1) rest))) first
    ∙ ap (λ b. bytes_eq t.key key || b) (any_from all key (n + 1) rest next)

numbers_below : (tokens : List Token) → All (λ n. n < length tokens) (numbers_of tokens)
numbers_below tokens k d h =
    let b : k < length (enumerate_from 0 tokens) = omega (arith, length-map (enumerate_from 0 tokens) (λ (t : ℕ × Token). t.0)) in
    let c : k < length tokens = omega (arith, length-enumerate_from 0 tokens) in
    let e : get_or (numbers_of tokens) k d ≡ 0 + k = get_or-map (λ (t : ℕ × Token). t.0) (enumerate_from 0 tokens) k (0, token_with [] 0) d b ∙ ap (λ (t : ℕ × Token). t.0) (get_or-enumerate_from 0 tokens k (0, token_with [] 0) c) in
    omega arith

module _ (tokens : List Token) (numbers : List ℕ) (sorted : IsByKey tokens numbers) (key : Text) where
  abbrev compare : ℕ → Ordering
  compare n = slice_cmp nat_cmp (key_of tokens n) key

  pub rising : IsNonDecreasingBy (λ n. ordering_index (compare n)) numbers
  rising = searchable_from_sorted nat_list_cmp_total (key_of tokens) numbers key sorted.rising

  other : (n : ℕ) → is_eq (compare n) ≡ false → bytes_eq (key_of tokens n) key ≡ false
  other n e = sym (is_eq-slice_cmp (key_of tokens n) key) ∙ e

  pub found : (at : ℕ) (n : ℕ) → at < length numbers → n ≡ get_or numbers at n → compare n ≡ Equal → IsToken tokens key (Some n)
  found at n h e same = (subst (λ m. m < length tokens) (sym e) (All-permutation (λ m. m < length tokens) _ _ sorted.same (numbers_below tokens) at n h), exact_bytes _ _ same)

  pub none : (at : ℕ) → ((k : ℕ) (d : ℕ) → k < at → compare (get_or numbers k d) ≡ Less) → ((k : ℕ) (d : ℕ) → at ≤ k → k < length numbers → compare (get_or numbers k d) ≡ Greater) → IsToken tokens key None
  none at less greater =
      let each : All (λ n. bytes_eq (key_of tokens n) key ≡ false) numbers = λ k d h. elim (cases_lt k at) [
        | inl l ↦ other _ (ap is_eq (less k d l))
        | inr g ↦ other _ (ap is_eq (greater k d g h))
      ] in
      sym (any_from tokens key 0 tokens refl) ∙ list_any-IsPermutation _ _ _ sorted.same ∙ list_any_none _ numbers each

  pub searched : (r : Result ℕ ℕ) → IsSearchInRange r (length numbers) → IsBinarySearchResult compare numbers r → MatchResult r (λ at. (n : ℕ) → n ≡ get_or numbers at n → IsToken tokens key (Some n)) (λ at. IsToken tokens key None)
  searched (Ok at) bound is = λ n e. found at n bound e (ap compare e ∙ is n)
  searched (Err at) bound is = let p = is rising in none at (λ k d l. p.0 k d (omega arith) l) (λ k d g h. p.1 k d g h)

-- the key of a token, if these entries have the keys of the tokens
pub key_here : {X : Type 0} (key : X → Text) (places : List X) (tokens : List Token) (n : ℕ) (at : X) → map key places ≡ token_keys tokens → n < length places → at ≡ get_or places n at → key at ≡ key_of tokens n
key_here {X = X} key places tokens n at is h e =
    ap key e ∙ sym (get_or-map key places n at [] h) ∙ ap (λ (ks : List Text). get_or ks n []) is
