-- The desks of an unused lake are together.
use Rattle.std.proofs.Common.{◌≡◌, refl, ap, sym, ◌∙◌, subst, ℕ, zero, suc, ◌+◌, ◌-◌, List, [], ◌∷◌, ◌++◌, map, Option, Some, None, arith, false}
use Rattle.std.specs.Prelude.{slice_get, pred, IfSome}
use Rattle.std.specs.List.{range_with_len}
use Rattle.std.proofs.lemmas.List.FromFn.{length-map-range_with_len, map-range_with_len_more}
use Rattle.atomic_table.specs.Seated.{TableId}
use Rattle.lake_model.specs.Journal.{Entry}
use Rattle.turn_lock.specs.Passes.{Known, after_numbering, new_pass_of}
use Rattle.lake_desk.specs.Opened.{numbered, opened, opened_desks}
use Rattle.lake_desk.specs.Together.{AreTogether}

-- the desk at a place has the number of the place
numbered_at : (lock : TableId) (first count l : ℕ) (desk : Known Entry) → slice_get (map (numbered lock) (range_with_len first count)) l ≡ Some desk → desk ≡ numbered lock (first + l)
numbered_at lock first zero l desk at = absurd (let f : None ≡ Some desk = at in cc)
numbered_at lock first (suc count) zero desk at = (let is : desk ≡ numbered lock first = cc in is) ∙ ap (numbered lock) (let e : first ≡ first + 0 = omega arith in e)
numbered_at lock first (suc count) (suc l) desk at = numbered_at lock (first + 1) count l desk at ∙ ap (numbered lock) (let e : first + 1 + l ≡ first + suc l = omega arith in e)

pub opened_together : (lock : TableId) (lanes : ℕ) (desks : List (Known Entry)) → desks ≡ opened lock lanes 0 ∷ opened_desks lock lanes → AreTogether lanes [] desks
opened_together lock lanes desks are = subst (AreTogether lanes []) (sym are) (record {
  lock = lock;
  count = let size = length-map-range_with_len (numbered lock) 1 lanes in omega (arith, size);
  each = λ l desk at. at_each l desk at;
  opening = λ desk at. (let is : desk ≡ opened lock lanes 0 = cc in ap (λ (p : Known Entry). p.given) is);
})
  where
    at_each : (l : ℕ) (desk : Known Entry) → slice_get (opened lock lanes 0 ∷ opened_desks lock lanes) l ≡ Some desk → (desk.lock ≡ lock) × (desk.caller ≡ l) × (desk.holds ≡ false) × (desk.seen ≡ [])
    at_each zero desk at = let is : desk ≡ opened lock lanes 0 = cc in (ap (λ (p : Known Entry). p.lock) is, ap (λ (p : Known Entry). p.caller) is, ap (λ (p : Known Entry). p.holds) is, ap (λ (p : Known Entry). p.seen) is)
    at_each (suc l) desk at =
        let is = numbered_at lock 1 lanes l desk at in
        let number : 1 + l ≡ suc l = omega arith in
        (ap (λ (p : Known Entry). p.lock) is, ap (λ (p : Known Entry). p.caller) is ∙ number, ap (λ (p : Known Entry). p.holds) is, ap (λ (p : Known Entry). p.seen) is)

-- ---- one more desk

pred_minus : (n lanes : ℕ) → pred (lanes - n) ≡ lanes - (n + 1)
pred_minus n lanes = by (lanes - n) refl
  where
    by : (left : ℕ) → lanes - n ≡ left → pred left ≡ lanes - (n + 1)
    by zero is = omega (arith, is)
    by (suc left) is = omega (arith, is)

pub opened_next : (lock : TableId) (n lanes : ℕ) (before after new : Known Entry) → before ≡ opened lock n (lanes - n)
    → IfSome before.given (λ number. (after ≡ after_numbering before number) × (new ≡ new_pass_of before number))
    → (after ≡ opened lock (n + 1) (lanes - (n + 1))) × (new ≡ numbered lock (n + 1))
opened_next lock n lanes before after new is said =
    let at : IfSome (Some (n + 1)) (λ number. (after ≡ after_numbering before number) × (new ≡ new_pass_of before number)) =
    subst (λ (o : Option ℕ). IfSome o (λ number. (after ≡ after_numbering before number) × (new ≡ new_pass_of before number))) (ap (λ (p : Known Entry). p.given) is) said in (
      at.0 ∙ ap (λ (p : Known Entry). after_numbering p (n + 1)) is ∙ ap (opened lock (n + 1)) (pred_minus n lanes),
      at.1 ∙ ap (λ (p : Known Entry). new_pass_of p (n + 1)) is,
    )

pub desks_more : (lock : TableId) (n : ℕ) (desks more : List (Known Entry)) (desk : Known Entry) → desks ≡ opened_desks lock n → desk ≡ numbered lock (n + 1) → more ≡ desks ++ desk ∷ [] → more ≡ opened_desks lock (n + 1)
desks_more lock n desks more desk so_far is pushed =
    pushed ∙ ap (λ (ds : List (Known Entry)). ds ++ desk ∷ []) so_far ∙ ap (λ (d : Known Entry). opened_desks lock n ++ d ∷ []) is
    ∙ sym (map-range_with_len_more (numbered lock) 1 n (n + 1) (let e : 1 + n ≡ n + 1 = omega arith in e))

pub opened_all : (lock : TableId) (lanes : ℕ) (none first others all : List (Known Entry)) (opening : Known Entry) → all ≡ first ++ others → first ≡ none ++ opening ∷ [] → none ≡ [] → others ≡ opened_desks lock lanes → opening ≡ opened lock lanes 0
    → AreTogether lanes [] all
opened_all lock lanes none first others all opening is pushed nothing lanes_are last =
    opened_together lock lanes all (is ∙ ap (λ (ds : List (Known Entry)). ds ++ others) (pushed ∙ ap (λ (ds : List (Known Entry)). ds ++ opening ∷ []) nothing)
    ∙ ap (λ (d : Known Entry). d ∷ others) last ∙ ap (λ (ds : List (Known Entry)). opened lock lanes 0 ∷ ds) lanes_are)
