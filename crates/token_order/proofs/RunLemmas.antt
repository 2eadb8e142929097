-- The runs of tokens whose keys are sorted: each key has one run, which is as frequent as the key is among the tokens.
use Rattle.std.proofs.Common.{◌≡◌, refl, ap, sym, ◌∙◌, ℕ, ◌+◌, ◌<◌, ◌≤◌, List, [], ◌∷◌, length, Bool, true, false, ◌||◌, cond, arith}
use Rattle.std.specs.Prelude.{bytes_eq, nat_lt, sum_by}
use Rattle.std.specs.List.{AllByRecursion, IsDistinct, count_by, list_any}
use Rattle.std.proofs.lemmas.Bool.Decides.{Decides-ltb}
use Rattle.std.proofs.lemmas.List.Sums.{sum_by-cons}
use Rattle.std.proofs.lemmas.Slice.Eq.{bytes_eq-Decides}
use Rattle.lake_model.specs.Texts.{Text}
use Rattle.search_model.specs.Segment.{Token}
use Rattle.search_model.specs.Arrays.{token_keys}
use Rattle.token_order.specs.Groups.{often, often_as}
use Rattle.token_order.specs.Runs.{longer, runs_from, runs_of}
use Rattle.token_order.proofs.SortLemmas.{TextsRise, beyond_all, differ_back, less}
use Rattle.list_laws.proofs.TestLemmas.{once}

abbrev runs_then : Bool → Token → Token → List Token → List Token
runs_then b first t ts = cond b (runs_from (longer first t.frequency) ts) (first ∷ runs_from t ts)

all_from : (P : Text → Type 0) (first : Token) (ts : List Token) → P first.key → AllByRecursion P (token_keys ts) → AllByRecursion P (token_keys (runs_from first ts))
all_from P first [] p h = (p, tt)
all_from P first (t ∷ ts) p h = by (bytes_eq t.key first.key) (all_from P (longer first t.frequency) ts p h.1) (all_from P t ts h.0 h.1)
  where
    by : (b : Bool) → AllByRecursion P (token_keys (runs_from (longer first t.frequency) ts)) → AllByRecursion P (token_keys (runs_from t ts)) → AllByRecursion P (token_keys (runs_then b first t ts))
    by true u v = u
    by false u v = (p, v)

-- the keys after one that differs
others : (first t : Token) (ts : List Token) → TextsRise (first.key ∷ t.key ∷ token_keys ts) → bytes_eq t.key first.key ≡ false → AllByRecursion (λ y. bytes_eq first.key y ≡ false) (t.key ∷ token_keys ts)
others first t ts r e = (differ_back first.key t.key e, beyond_all first.key t.key (token_keys ts) r.0.0 e r.1.0)

-- ---- no key has two runs

differ_then : (first t : Token) (ts : List Token) (b : Bool) → bytes_eq t.key first.key ≡ b → TextsRise (first.key ∷ t.key ∷ token_keys ts) → IsDistinct bytes_eq (token_keys (runs_from (longer first t.frequency) ts)) → IsDistinct bytes_eq (token_keys (runs_from t ts))
    → IsDistinct bytes_eq (token_keys (runs_then b first t ts))
unfolding IsDistinct
differ_then first t ts true e r u v = u
differ_then first t ts false e r u v =
    let apart = others first t ts r e in
    (all_from (λ y. bytes_eq first.key y ≡ false) t ts apart.0 apart.1, v)

differ_from : (first : Token) (ts : List Token) → TextsRise (first.key ∷ token_keys ts) → IsDistinct bytes_eq (token_keys (runs_from first ts))
unfolding IsDistinct
differ_from first [] r = (tt, tt)
differ_from first (t ∷ ts) r = differ_then first t ts (bytes_eq t.key first.key) refl r (differ_from (longer first t.frequency) ts (r.0.1, r.1.1)) (differ_from t ts r.1)

pub runs_differ : (ts : List Token) → TextsRise (token_keys ts) → IsDistinct bytes_eq (token_keys (runs_of ts))
unfolding IsDistinct
runs_differ [] r = tt
runs_differ (t ∷ ts) r = differ_from t ts r

-- ---- the keys of the runs increase

rise_then : (first t : Token) (ts : List Token) (b : Bool) → TextsRise (first.key ∷ t.key ∷ token_keys ts) → TextsRise (token_keys (runs_from (longer first t.frequency) ts)) → TextsRise (token_keys (runs_from t ts))
    → TextsRise (token_keys (runs_then b first t ts))
rise_then first t ts true r u v = u
rise_then first t ts false r u v = (all_from (λ y. less y first.key ≡ false) t ts r.0.0 r.0.1, v)

rise_from : (first : Token) (ts : List Token) → TextsRise (first.key ∷ token_keys ts) → TextsRise (token_keys (runs_from first ts))
rise_from first [] r = (tt, tt)
rise_from first (t ∷ ts) r = rise_then first t ts (bytes_eq t.key first.key) r (rise_from (longer first t.frequency) ts (r.0.1, r.1.1)) (rise_from t ts r.1)

pub runs_rise : (ts : List Token) → TextsRise (token_keys ts) → TextsRise (token_keys (runs_of ts))
runs_rise [] r = tt
runs_rise (t ∷ ts) r = rise_from t ts r

-- ---- each key has one

twice : (a l : Bool) → (a || l) ≡ (a || (a || l))
twice true l = refl
twice false l = refl

has_from : (q : Text) (first : Token) (ts : List Token) → list_any (bytes_eq q) (token_keys (runs_from first ts)) ≡ (bytes_eq q first.key || list_any (bytes_eq q) (token_keys ts))
has_from q first [] = refl
has_from q first (t ∷ ts) = by (bytes_eq t.key first.key) refl (has_from q (longer first t.frequency) ts) (has_from q t ts)
  where
    by : (b : Bool) → bytes_eq t.key first.key ≡ b
        → list_any (bytes_eq q) (token_keys (runs_from (longer first t.frequency) ts)) ≡ (bytes_eq q first.key || list_any (bytes_eq q) (token_keys ts))
        → list_any (bytes_eq q) (token_keys (runs_from t ts)) ≡ (bytes_eq q t.key || list_any (bytes_eq q) (token_keys ts))
        → list_any (bytes_eq q) (token_keys (runs_then b first t ts)) ≡ (bytes_eq q first.key || (bytes_eq q t.key || list_any (bytes_eq q) (token_keys ts)))
    by true e u v =
        let same : first.key ≡ t.key = sym ((bytes_eq-Decides t.key first.key).0 e) in
        u ∙ twice (bytes_eq q first.key) (list_any (bytes_eq q) (token_keys ts)) ∙ ap (λ (k : Text). bytes_eq q first.key || (bytes_eq q k || list_any (bytes_eq q) (token_keys ts))) same
    by false e u v = ap (λ b. bytes_eq q first.key || b) v

pub runs_have : (q : Text) (ts : List Token) → list_any (bytes_eq q) (token_keys (runs_of ts)) ≡ list_any (bytes_eq q) (token_keys ts)
runs_have q [] = refl
runs_have q (t ∷ ts) = has_from q t ts

-- ---- as often as the tokens

abbrev times : ℕ → Bool → ℕ
times n b = cond b n 0

added : (f n : ℕ) (b : Bool) → times (f + n) b ≡ times f b + times n b
added f n true = refl
added f n false = refl

often_from : (q : Text) (first : Token) (ts : List Token) → often q (runs_from first ts) ≡ often_as q first + often q ts
often_from q first [] = omega (arith, sum_by-cons (often_as q) first [])
often_from q first (t ∷ ts) = by (bytes_eq t.key first.key) refl (often_from q (longer first t.frequency) ts) (often_from q t ts)
  where
    by : (b : Bool) → bytes_eq t.key first.key ≡ b → often q (runs_from (longer first t.frequency) ts) ≡ often_as q (longer first t.frequency) + often q ts → often q (runs_from t ts) ≡ often_as q t + often q ts
        → often q (runs_then b first t ts) ≡ often_as q first + often q (t ∷ ts)
    by true e u v =
        let same : times t.frequency (bytes_eq q first.key) ≡ often_as q t = ap (λ (k : Text). times t.frequency (bytes_eq q k)) (sym ((bytes_eq-Decides t.key first.key).0 e)) in
        omega (arith, u, added first.frequency t.frequency (bytes_eq q first.key), same, sum_by-cons (often_as q) t ts)
    by false e u v = omega (arith, v, sum_by-cons (often_as q) first (runs_from t ts), sum_by-cons (often_as q) t ts)

pub runs_often : (q : Text) (ts : List Token) → often q (runs_of ts) ≡ often q ts
runs_often q [] = refl
runs_often q (t ∷ ts) = often_from q t ts ∙ sym (sum_by-cons (often_as q) t ts)

often_none : (q : Text) (ts : List Token) → AllByRecursion (λ y. bytes_eq q y ≡ false) (token_keys ts) → often q ts ≡ 0
often_none q [] h = refl
often_none q (t ∷ ts) h = omega (arith, sum_by-cons (often_as q) t ts, often_none q ts h.1, ap (times t.frequency) h.0)

-- one token more, with another key
often_more : (t : Token) (ts us : List Token) → AllByRecursion (λ y. bytes_eq t.key y ≡ false) (token_keys us) → AllByRecursion (λ u. u.frequency ≡ often u.key ts) us → AllByRecursion (λ u. u.frequency ≡ often u.key (t ∷ ts)) us
often_more t ts [] apart h = tt
often_more t ts (u ∷ us) apart h = (
  omega (arith, h.0, sum_by-cons (often_as u.key) t ts, ap (times t.frequency) (differ_back u.key t.key apart.0)),
  often_more t ts us apart.1 h.1,
)

-- if no two have the same key, each occurs as often as it is frequent
pub often_alone : (ts : List Token) → IsDistinct bytes_eq (token_keys ts) → AllByRecursion (λ t. t.frequency ≡ often t.key ts) ts
unfolding IsDistinct
often_alone [] d = tt
often_alone (t ∷ ts) d = (
  omega (arith, sum_by-cons (often_as t.key) t ts, ap (times t.frequency) ((bytes_eq-Decides t.key t.key).1 refl), often_none t.key ts d.0),
  often_more t ts ts d.0 (often_alone ts d.1),
)

-- ---- a key is there exactly if it occurs

some_less : (n : ℕ) → 0 < n → true ≡ nat_lt 0 n
some_less n h = sym ((Decides-ltb 0 n).1 h)

any_counted_then : (b l : Bool) (n : ℕ) → l ≡ nat_lt 0 n → (b || l) ≡ nat_lt 0 (once b + n)
any_counted_then true l n h = some_less (1 + n) (omega arith)
any_counted_then false l n h = let e : n ≡ 0 + n = omega arith in h ∙ ap (nat_lt 0) e

pub any_counted : (q : Text) (keys : List Text) → list_any (bytes_eq q) keys ≡ nat_lt 0 (count_by (bytes_eq q) keys)
any_counted q [] = refl
any_counted q (key ∷ keys) = any_counted_then (bytes_eq q key) (list_any (bytes_eq q) keys) (count_by (bytes_eq q) keys) (any_counted q keys) ∙ ap (nat_lt 0) (sym (sum_by-cons (λ (y : Text). once (bytes_eq q y)) key keys))

any_often_then : (b l : Bool) (f n : ℕ) → 0 < f → l ≡ nat_lt 0 n → (b || l) ≡ nat_lt 0 (times f b + n)
any_often_then true l f n some h = some_less (f + n) (omega (arith, some))
any_often_then false l f n some h = let e : n ≡ 0 + n = omega arith in h ∙ ap (nat_lt 0) e

pub any_often : (q : Text) (ts : List Token) → AllByRecursion (λ t. 0 < t.frequency) ts → list_any (bytes_eq q) (token_keys ts) ≡ nat_lt 0 (often q ts)
any_often q [] some = refl
any_often q (t ∷ ts) some = any_often_then (bytes_eq q t.key) (list_any (bytes_eq q) (token_keys ts)) t.frequency (often q ts) some.0 (any_often q ts some.1) ∙ ap (nat_lt 0) (sym (sum_by-cons (often_as q) t ts))

-- ---- all runs together are as frequent as the tokens

total_from : (first : Token) (ts : List Token) → sum_by (λ t. t.frequency) (runs_from first ts) ≡ first.frequency + sum_by (λ t. t.frequency) ts
total_from first [] = omega (arith, sum_by-cons (λ (t : Token). t.frequency) first [])
total_from first (t ∷ ts) = by (bytes_eq t.key first.key) (total_from (longer first t.frequency) ts) (total_from t ts)
  where
    by : (b : Bool) → sum_by (λ t. t.frequency) (runs_from (longer first t.frequency) ts) ≡ first.frequency + t.frequency + sum_by (λ t. t.frequency) ts → sum_by (λ t. t.frequency) (runs_from t ts) ≡ t.frequency + sum_by (λ t. t.frequency) ts
        → sum_by (λ t. t.frequency) (runs_then b first t ts) ≡ first.frequency + sum_by (λ t. t.frequency) (t ∷ ts)
    by true u v = omega (arith, u, sum_by-cons (λ (t : Token). t.frequency) t ts)
    by false u v = omega (arith, v, sum_by-cons (λ (t : Token). t.frequency) first (runs_from t ts), sum_by-cons (λ (t : Token). t.frequency) t ts)

pub runs_total : (ts : List Token) → sum_by (λ t. t.frequency) (runs_of ts) ≡ sum_by (λ t. t.frequency) ts
runs_total [] = refl
runs_total (t ∷ ts) = total_from t ts ∙ sym (sum_by-cons (λ (t : Token). t.frequency) t ts)

pub run_total : (first : Token) (ts : List Token) → sum_by (λ t. t.frequency) (runs_from first ts) ≡ first.frequency + sum_by (λ t. t.frequency) ts
run_total = total_from

-- ---- there are no more runs than tokens

few_from : (first : Token) (ts : List Token) → length (runs_from first ts) ≤ length ts + 1
few_from first [] = omega arith
few_from first (t ∷ ts) = by (bytes_eq t.key first.key) (few_from (longer first t.frequency) ts) (few_from t ts)
  where
    by : (b : Bool) → length (runs_from (longer first t.frequency) ts) ≤ length ts + 1 → length (runs_from t ts) ≤ length ts + 1 → length (runs_then b first t ts) ≤ length (t ∷ ts) + 1
    by true u v = omega (arith, u)
    by false u v = omega (arith, v)

pub runs_few : (ts : List Token) → length (runs_of ts) ≤ length ts
runs_few [] = omega arith
runs_few (t ∷ ts) = omega (arith, few_from t ts)
