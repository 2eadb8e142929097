-- Laws of histories: lists of entries, and the callers they belong to.
use Rattle.std.proofs.Common.{◌≡◌, ℕ, ◌≤◌, ◌⊎◌, Bool, true, false, List, [], ◌∷◌, ◌++◌, length, cond, ltb, refl, ap, sym, ◌∙◌, subst, arith, inl, inr, ⊎_elim, append_assoc, length-append, ne_eqb}
use Rattle.std.specs.Prelude.{◌==◌, filter}
use Rattle.std.proofs.lemmas.List.{append-nil}
use Rattle.std.proofs.lemmas.List.Elements.{filter-append}
use Rattle.std.proofs.lemmas.Bool.Decides.{nat_tests}
use mathlib.Core.List.{IsPrefix}
use Rattle.turn_lock.specs.History.{Has, IsOfOthers, IsOfGiven, Grows, Adds, longer}

-- ---- numbers among numbers

pub has_append : (callers others : List ℕ) (number : ℕ) → Has (callers ++ others) number → Has callers number ⊎ Has others number
has_append [] others number h = inr h
has_append (first ∷ callers) others number h = ⊎_elim (λ e. inl (inl e)) (λ t. ⊎_elim (λ u. inl (inr u)) (λ u. inr u) (has_append callers others number t)) h

pub has_left : (callers others : List ℕ) (number : ℕ) → Has callers number → Has (callers ++ others) number
has_left [] others number h = absurd h
has_left (first ∷ callers) others number h = ⊎_elim (λ e. inl e) (λ t. inr (has_left callers others number t)) h

pub has_right : (callers others : List ℕ) (number : ℕ) → Has others number → Has (callers ++ others) number
has_right [] others number h = h
has_right (first ∷ callers) others number h = inr (has_right callers others number h)

-- ---- beginnings

-- a beginning that is as long as the whole is the whole
pub prefix_whole : {A : Type 0} (xs ys : List A) → IsPrefix xs ys → length ys ≤ length xs → xs ≡ ys
prefix_whole [] [] p le = refl
prefix_whole [] (y ∷ ys) p le = absurd (omega arith)
prefix_whole (x ∷ xs) [] p le = absurd (cc (p.1))
prefix_whole (x ∷ xs) (y ∷ ys) p le = let rest = prefix_whole xs ys (p.0, cc (p.1)) (omega arith) in cc (p.1, rest)

pub prefix_length : {A : Type 0} (xs ys : List A) → IsPrefix xs ys → length xs ≤ length ys
prefix_length xs ys p = omega (arith, sym (ap length p.1) ∙ length-append xs p.0)

module _ {E : Type 0} (caller_of : E → ℕ) where
  -- ---- entries of others

  -- if each caller is among the callers of one of two groups
  pub others_of_either : (callers some more : List ℕ) (xs : List E) → ((number : ℕ) → Has callers number → Has some number ⊎ Has more number) → IsOfOthers caller_of some xs → IsOfOthers caller_of more xs → IsOfOthers caller_of callers xs
  others_of_either callers some more [] either o p = tt
  others_of_either callers some more (x ∷ xs) either o p = ((λ h. ⊎_elim o.0 p.0 (either (caller_of x) h)), others_of_either callers some more xs either o.1 p.1)

  pub others_of_none : (xs : List E) → IsOfOthers caller_of [] xs
  others_of_none [] = tt
  others_of_none (x ∷ xs) = ((λ h. h), others_of_none xs)

  pub others_append : (callers : List ℕ) (xs ys : List E) → IsOfOthers caller_of callers xs → IsOfOthers caller_of callers ys → IsOfOthers caller_of callers (xs ++ ys)
  others_append callers [] ys o p = p
  others_append callers (x ∷ xs) ys o p = (o.0, others_append callers xs ys o.1 p)

  pub others_front : (callers : List ℕ) (xs ys : List E) → IsOfOthers caller_of callers (xs ++ ys) → IsOfOthers caller_of callers xs
  others_front callers [] ys o = tt
  others_front callers (x ∷ xs) ys o = (o.0, others_front callers xs ys o.1)

  pub others_back : (callers : List ℕ) (xs ys : List E) → IsOfOthers caller_of callers (xs ++ ys) → IsOfOthers caller_of callers ys
  others_back callers [] ys o = o
  others_back callers (x ∷ xs) ys o = others_back callers xs ys o.1

  -- a number that was not given has no entry
  pub others_of_new : (given number : ℕ) (xs : List E) → IsOfGiven caller_of given xs → given ≤ number → IsOfOthers caller_of (number ∷ []) xs
  others_of_new given number [] b le = tt
  others_of_new given number (x ∷ xs) b le = ((λ h. ⊎_elim (λ e. let below = b.0 in omega arith) (λ z. z) h), others_of_new given number xs b.1 le)

  -- ---- entries of given numbers

  pub given_more : (given more : ℕ) (xs : List E) → given ≤ more → IsOfGiven caller_of given xs → IsOfGiven caller_of more xs
  given_more given more [] le b = tt
  given_more given more (x ∷ xs) le b = ((let below = b.0 in omega arith), given_more given more xs le b.1)

  pub given_append : (given : ℕ) (xs ys : List E) → IsOfGiven caller_of given xs → IsOfGiven caller_of given ys → IsOfGiven caller_of given (xs ++ ys)
  given_append given [] ys b d = d
  given_append given (x ∷ xs) ys b d = (b.0, given_append given xs ys b.1 d)

  pub given_front : (given : ℕ) (xs ys : List E) → IsOfGiven caller_of given (xs ++ ys) → IsOfGiven caller_of given xs
  given_front given [] ys b = tt
  given_front given (x ∷ xs) ys b = (b.0, given_front given xs ys b.1)

  pub given_back : (given : ℕ) (xs ys : List E) → IsOfGiven caller_of given (xs ++ ys) → IsOfGiven caller_of given ys
  given_back given [] ys b = b
  given_back given (x ∷ xs) ys b = given_back given xs ys b.1

  -- ---- growth

  pub grows_self : (callers : List ℕ) (xs : List E) → Grows caller_of callers xs xs
  grows_self callers xs = record { rest = []; begins = append-nil xs; others = tt }

  -- what has grown twice has grown
  pub grows_trans : {callers : List ℕ} {xs ys zs : List E} → Grows caller_of callers xs ys → Grows caller_of callers ys zs → Grows caller_of callers xs zs
  grows_trans {callers} {xs} {ys} {zs} g h = record {
    rest = g.rest ++ h.rest;
    begins = sym (append_assoc xs g.rest h.rest) ∙ (ap (λ l. l ++ h.rest) g.begins ∙ h.begins);
    others = others_append callers g.rest h.rest g.others h.others;
  }

  -- what has grown begins with what it was before
  pub grows_prefix : {callers : List ℕ} {xs ys : List E} → Grows caller_of callers xs ys → IsPrefix xs ys
  grows_prefix g = (g.rest, g.begins)

  -- the same for fewer callers
  pub grows_of_fewer : {callers : List ℕ} {xs ys : List E} (fewer : List ℕ) → ((number : ℕ) → Has fewer number → Has callers number) → Grows caller_of callers xs ys → Grows caller_of fewer xs ys
  grows_of_fewer {callers} fewer among g = record { rest = g.rest; begins = g.begins; others = others_of_either fewer callers callers g.rest (λ n h. inl (among n h)) g.others g.others }

  -- what has grown, and has then grown for at least these callers, has grown
  pub grows_then : {callers later : List ℕ} {xs ys zs : List E} → ((number : ℕ) → Has callers number → Has later number) → Grows caller_of callers xs ys → Grows caller_of later ys zs → Grows caller_of callers xs zs
  grows_then {callers} {later} among g h = grows_trans g (grows_of_fewer callers among h)

  -- the same for no callers
  pub grows_of_none : {callers : List ℕ} {xs ys : List E} → Grows caller_of callers xs ys → Grows caller_of [] xs ys
  grows_of_none g = record { rest = g.rest; begins = g.begins; others = others_of_none g.rest }

  -- one more entry, of another caller
  pub grows_by_entry : {callers : List ℕ} {xs ys : List E} (entry : E) → Grows caller_of callers xs ys → ¬ (Has callers (caller_of entry)) → Grows caller_of callers xs (ys ++ entry ∷ [])
  grows_by_entry {callers} {xs} {ys} entry g other = record {
    rest = g.rest ++ entry ∷ [];
    begins = sym (append_assoc xs g.rest (entry ∷ [])) ∙ ap (λ l. l ++ entry ∷ []) g.begins;
    others = others_append callers g.rest (entry ∷ []) g.others (other, tt);
  }

  -- of two beginnings of one list, the longer one grows from the shorter one,
  pub grows_between : (callers : List ℕ) (xs ys whole : List E) → Grows caller_of callers xs whole → IsPrefix ys whole → length xs ≤ length ys → Grows caller_of callers xs ys
  grows_between callers [] ys whole g p le = record { rest = ys; begins = refl; others = others_front callers ys p.0 (subst (IsOfOthers caller_of callers) (g.begins ∙ sym p.1) g.others) }
  grows_between callers (x ∷ xs) [] whole g p le = absurd (omega arith)
  grows_between callers (x ∷ xs) (y ∷ ys) [] g p le = absurd (cc (p.1))
  grows_between callers (x ∷ xs) (y ∷ ys) (z ∷ zs) g p le =
      let heads : x ≡ y = cc (p.1, g.begins) in
      let r = grows_between callers xs ys zs record { rest = g.rest; begins = cc (g.begins); others = g.others } (p.0, cc (p.1)) (omega arith) in
      record { rest = r.rest; begins = cc (heads, r.begins); others = r.others }

  -- and what follows the longer one is a part of what follows the shorter one
  pub others_behind : (callers : List ℕ) (xs ys whole : List E) (p : IsPrefix ys whole) → Grows caller_of callers xs whole → length xs ≤ length ys → IsOfOthers caller_of callers p.0
  others_behind callers [] ys whole p g le = others_back callers ys p.0 (subst (IsOfOthers caller_of callers) (g.begins ∙ sym p.1) g.others)
  others_behind callers (x ∷ xs) [] whole p g le = absurd (omega arith)
  others_behind callers (x ∷ xs) (y ∷ ys) [] p g le = absurd (cc (p.1))
  others_behind callers (x ∷ xs) (y ∷ ys) (z ∷ zs) p g le = others_behind callers xs ys zs (p.0, cc (p.1)) record { rest = g.rest; begins = cc (g.begins); others = g.others } (omega arith)

  -- The longest of two beginnings of one list: the list grows from it, for both groups of callers, and it grows from each beginning.
  pub record IsLonger (callers some more : List ℕ) (xs ys whole longest : List E) : Type 0 where
    pub begins : Grows caller_of callers longest whole
    pub from_first : Grows caller_of some xs longest
    pub from_second : Grows caller_of more ys longest

  module _ (callers some more : List ℕ) (xs ys whole : List E) (either : (number : ℕ) → Has callers number → Has some number ⊎ Has more number) (g : Grows caller_of some xs whole) (h : Grows caller_of more ys whole) where
    chosen : (second : Bool) → ltb (length xs) (length ys) ≡ second → IsLonger callers some more xs ys whole (cond second ys xs)
    chosen true is = let le : length xs ≤ length ys = grind (arith, nat_tests) in record {
      begins = record { rest = h.rest; begins = h.begins; others = others_of_either callers some more h.rest either (others_behind some xs ys whole (h.rest, h.begins) g le) h.others };
      from_first = grows_between some xs ys whole g (h.rest, h.begins) le;
      from_second = grows_self more ys;
    }
    chosen false is = let le : length ys ≤ length xs = grind (arith, nat_tests) in record {
      begins = record { rest = g.rest; begins = g.begins; others = others_of_either callers some more g.rest either g.others (others_behind more ys xs whole (g.rest, g.begins) h le) };
      from_first = grows_self some xs;
      from_second = grows_between more ys xs whole h (g.rest, g.begins) le;
    }

    pub longer_grows : IsLonger callers some more xs ys whole (longer xs ys)
    longer_grows = chosen (ltb (length xs) (length ys)) refl

  -- the entries of each of the callers are unchanged
  filter_others : (callers : List ℕ) (xs : List E) (number : ℕ) → Has callers number → IsOfOthers caller_of callers xs → filter (λ entry. caller_of entry == number) xs ≡ []
  filter_others callers [] number h o = refl
  filter_others callers (x ∷ xs) number h o =
      rw (ne_eqb (caller_of x) number (λ e. o.0 (subst (Has callers) (sym e) h))) (filter_others callers xs number h o.1)

  pub filter_grown : {callers : List ℕ} {xs ys : List E} (number : ℕ) → Has callers number → Grows caller_of callers xs ys → filter (λ entry. caller_of entry == number) ys ≡ filter (λ entry. caller_of entry == number) xs
  filter_grown {callers} {xs} {ys} number h g =
      let own : E → Bool = λ entry. caller_of entry == number in
      ap (filter own) (sym g.begins) ∙ (filter-append own xs g.rest ∙ (ap (λ l. filter own xs ++ l) (filter_others callers g.rest number h g.others) ∙ append-nil (filter own xs)))

  -- after an addition they are those from before and the new one
  pub filter_added : {callers : List ℕ} {before after : List E} {entry : E} (number : ℕ) → Has callers number → Adds caller_of callers before entry after
      → filter (λ e. caller_of e == number) after ≡ filter (λ e. caller_of e == number) (before ++ entry ∷ [])
  filter_added {callers} {before} {after} {entry} number h a =
      let own : E → Bool = λ e. caller_of e == number in
      ap (filter own) a.ends ∙ (filter-append own a.found (entry ∷ []) ∙ (ap (λ l. l ++ filter own (entry ∷ [])) (filter_grown number h a.grows) ∙ sym (filter-append own before (entry ∷ []))))
