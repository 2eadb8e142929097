-- The cost of the lists that would be spared, as a difference of what the first lists cost.
use Rattle.std.proofs.Common.{◌≡◌, ap, sym, ◌∙◌, refl, ℕ, zero, suc, ◌+◌, ◌-◌, ◌<◌, ◌≤◌, max, List, [], ◌∷◌, ◌++◌, Bool, ◌&&◌, true, false, if◌then◌else◌, length, map, get_or, take, drop, arith, ltb as nat_lt, leb as nat_le, le-ltb, lt-ltb, le-leb, ⊎_elim}
use Rattle.std.proofs.Math.Seq.{drop-cons}
use Rattle.std.specs.List.{enumerate_from, filter, sum_by}
use Rattle.std.proofs.lemmas.Bool.{cases_lt, lt-leb}
use Rattle.std.proofs.lemmas.List.{drop_all, get_or-map, get_or_append_left, get_or_push, length-map}
use Rattle.std.proofs.lemmas.List.Sums.{sum_by_more}
use Rattle.search_model.specs.Choosers.{read_cost}
use Rattle.search_model.specs.Looks.{spared}
use Rattle.search_model.specs.Segment.{Segment, Token}
use Rattle.search_state.proofs.GainLemmas.{over-cons}
use Rattle.josie_search.specs.Costs.{AreSums, lengths_of}

-- ---- one list

spared_step : (lengths : List ℕ) (place t est : ℕ) → place < length lengths
    → spared lengths place t est ≡ (if nat_le t (length lengths - place) && nat_lt (length lengths - place) est then read_cost (get_or lengths place 0) else 0) + spared lengths (place + 1) t est
spared_step lengths place t est h =
    let m = length lengths in
    let test : ℕ → Bool = λ j. nat_le t (m - j) && nat_lt (m - j) est in
    let e : place + 1 ≡ suc place = omega arith in
    let front : drop place lengths ≡ get_or lengths place 0 ∷ drop (place + 1) lengths = drop-cons lengths place 0 h ∙ ap (λ (n : ℕ). get_or lengths place 0 ∷ drop n lengths) (sym e) in
    ap (λ (xs : List ℕ). sum_by (λ (l : ℕ × ℕ). read_cost l.1) (filter (λ l. test l.0) (enumerate_from place xs))) front
    ∙ over-cons test place (get_or lengths place 0) (drop (place + 1) lengths)

spared_end : (lengths : List ℕ) (place t est : ℕ) → length lengths ≤ place → spared lengths place t est ≡ 0
spared_end lengths place t est h = let m = length lengths in ap (λ (xs : List ℕ). sum_by (λ (l : ℕ × ℕ). read_cost l.1) (filter (λ l. nat_le t (m - l.0) && nat_lt (m - l.0) est) (enumerate_from place xs))) (drop_all place lengths h)

-- ---- lists in a row

-- none of n lists is spared
spared_none : (lengths : List ℕ) (n place t est : ℕ) → place + n ≤ length lengths → ((p : ℕ) → place ≤ p → p < place + n → (nat_le t (length lengths - p) && nat_lt (length lengths - p) est) ≡ false)
    → spared lengths place t est ≡ spared lengths (place + n) t est
spared_none lengths zero place t est within out = ap (λ (p : ℕ). spared lengths p t est) (omega arith)
spared_none lengths (suc n) place t est within out =
    let none = ap (λ (b : Bool). if b then read_cost (get_or lengths place 0) else 0) (out place (omega arith) (omega arith)) in
    let rest = spared_none lengths n (place + 1) t est (omega (arith, within)) (λ p h l. out p (omega (arith, h)) (omega (arith, l))) in
    let e : place + 1 + n ≡ place + suc n = omega arith in
    omega (arith, spared_step lengths place t est (omega (arith, within)), none, rest ∙ ap (λ (p : ℕ). spared lengths p t est) e)

-- all of n lists are spared
spared_all : (lengths : List ℕ) (n place t est : ℕ) → place + n ≤ length lengths → ((p : ℕ) → place ≤ p → p < place + n → (nat_le t (length lengths - p) && nat_lt (length lengths - p) est) ≡ true)
    → sum_by read_cost (take place lengths) + spared lengths place t est ≡ sum_by read_cost (take (place + n) lengths) + spared lengths (place + n) t est
spared_all lengths zero place t est within all = ap (λ (p : ℕ). sum_by read_cost (take p lengths) + spared lengths p t est) (omega arith)
spared_all lengths (suc n) place t est within all =
    let here = ap (λ (b : Bool). if b then read_cost (get_or lengths place 0) else 0) (all place (omega arith) (omega arith)) in
    let more = sum_by_more read_cost lengths place 0 (omega (arith, within)) in
    let rest = spared_all lengths n (place + 1) t est (omega (arith, within)) (λ p h l. all p (omega (arith, h)) (omega (arith, l))) in
    let e : place + 1 + n ≡ place + suc n = omega arith in
    omega (arith, spared_step lengths place t est (omega (arith, within)), here, more, rest ∙ ap (λ (p : ℕ). sum_by read_cost (take p lengths) + spared lengths p t est) e)

-- ---- which lists are spared

not_both : (b : Bool) → (b && false) ≡ false
not_both true = refl
not_both false = refl

too_early : (m t est p : ℕ) → est ≤ m - p → (nat_le t (m - p) && nat_lt (m - p) est) ≡ false
too_early m t est p h = rw (le-ltb (m - p) est h) (not_both (nat_le t (m - p)))

too_late : (m t est p : ℕ) → m - p < t → (nat_le t (m - p) && nat_lt (m - p) est) ≡ false
too_late m t est p h = rw (lt-leb t (m - p) h) refl

between : (m t est p : ℕ) → t ≤ m - p → m - p < est → (nat_le t (m - p) && nat_lt (m - p) est) ≡ true
between m t est p low high = rw (le-leb t (m - p) low, lt-ltb (m - p) est high) refl

-- the first list that an estimate spares, and the first behind it that a threshold does not, counted from the end
pub spared_sums : (lengths sums : List ℕ) (read t est first end : ℕ) → AreSums lengths sums → first ≡ max read (length sums - est) → end ≡ length sums - max t 1 → first < end
    → get_or sums end 0 - get_or sums first 0 ≡ spared lengths read t est
spared_sums lengths sums read t est first end are is_first is_end some =
    let m = length lengths in
    let skip = first - read in
    let run = end - first in
    let rest = m - end in
    let to_first : read + skip ≡ first = omega (arith, is_first) in
    let to_end : first + run ≡ end = omega (arith, some) in
    let to_m : end + rest ≡ m = omega (arith, is_end, are.long) in
    let early = spared_none lengths skip read t est (omega (arith, to_first, to_end, to_m)) (λ p h l. too_early m t est p (omega (arith, h, l, to_first, is_first, are.long)))
    ∙ ap (λ (p : ℕ). spared lengths p t est) to_first in
    let all = spared_all lengths run first t est (omega (arith, to_end, to_m)) (λ p h l. between m t est p (omega (arith, h, l, to_end, is_end, are.long)) (omega (arith, h, l, to_end, is_first, is_end, are.long)))
    ∙ ap (λ (p : ℕ). sum_by read_cost (take p lengths) + spared lengths p t est) to_end in
    let late = spared_none lengths rest end t est (omega (arith, to_m)) (λ p h l. too_late m t est p (omega (arith, h, l, to_m, is_end, are.long)))
    ∙ ap (λ (p : ℕ). spared lengths p t est) to_m
    ∙ spared_end lengths m t est (omega arith) in
    omega (arith, are.sum end (omega (arith, to_m)), are.sum first (omega (arith, some, to_m)), early, all, late)

pub spares_nothing : (lengths sums : List ℕ) (read t est first end : ℕ) → AreSums lengths sums → read < length sums → first ≡ max read (length sums - est) → end ≡ length sums - max t 1 → end ≤ first
    → 0 ≡ spared lengths read t est
spares_nothing lengths sums read t est first end are within is_first is_end none =
    let m = length lengths in
    let rest = m - read in
    let to_m : read + rest ≡ m = omega (arith, within, are.long) in
    sym (
    spared_none lengths rest read t est (omega (arith, to_m)) (λ p h l. ⊎_elim
    (λ (early : p < first). too_early m t est p (omega (arith, h, l, early, is_first, are.long)))
    (λ (late : first ≤ p). too_late m t est p (omega (arith, h, l, to_m, late, none, is_end, are.long)))
    (cases_lt p first))
    ∙ ap (λ (p : ℕ). spared lengths p t est) to_m
    ∙ spared_end lengths m t est (omega arith)
    )

-- the sums rise
pub sums_rise : (lengths sums : List ℕ) (first end : ℕ) → AreSums lengths sums → first ≤ end → end < length sums → get_or sums first 0 ≤ get_or sums end 0
sums_rise lengths sums first end are low within =
    let more = up lengths (end - first) first (omega (arith, low, within, are.long)) in
    let e : first + (end - first) ≡ end = omega (arith, low) in
    omega (arith, are.sum first (omega (arith, low, within, are.long)), are.sum end (omega (arith, within, are.long)), more, ap (λ (n : ℕ). sum_by read_cost (take n lengths)) e)
  where
    up : (xs : List ℕ) (n i : ℕ) → i + n ≤ length xs → sum_by read_cost (take i xs) ≤ sum_by read_cost (take (i + n) xs)
    up xs zero i h = let e : i + zero ≡ i = omega arith in omega (arith, ap (λ (j : ℕ). sum_by read_cost (take j xs)) e)
    up xs (suc n) i h =
        let one = sum_by_more read_cost xs i 0 (omega (arith, h)) in
        let rest = up xs n (i + 1) (omega (arith, h)) in
        let e : i + 1 + n ≡ i + suc n = omega arith in
        omega (arith, one, rest, ap (λ (j : ℕ). sum_by read_cost (take j xs)) e)

-- one more list
pub sums_more : (segment : Segment) (tokens sums : List ℕ) (i sum len cost : ℕ) → i < length tokens → length sums ≡ i + 1
    → ((n : ℕ) → n ≤ i → get_or sums n 0 ≡ sum_by read_cost (take n (lengths_of segment tokens))) → sum ≡ sum_by read_cost (take i (lengths_of segment tokens))
    → len ≡ get_or (map (λ t. t.frequency) segment.tokens) (get_or tokens i 0) 0 → cost ≡ read_cost len
    → (sum + cost ≡ sum_by read_cost (take (i + 1) (lengths_of segment tokens))) × ((n : ℕ) → n ≤ i + 1 → get_or (sums ++ (sum + cost) ∷ []) n 0 ≡ sum_by read_cost (take n (lengths_of segment tokens)))
sums_more segment tokens sums i sum len cost h long so_far so_much is costs = (next, by)
  where
    of : ℕ → ℕ
    of token = get_or (map (λ (t : Token). t.frequency) segment.tokens) token 0

    many : length (lengths_of segment tokens) ≡ length tokens
    many = length-map tokens of

    here : get_or (lengths_of segment tokens) i 0 ≡ len
    here = get_or-map of tokens i 0 0 h ∙ sym is

    next : sum + cost ≡ sum_by read_cost (take (i + 1) (lengths_of segment tokens))
    next = omega (arith, sum_by_more read_cost (lengths_of segment tokens) i 0 (omega (arith, many, h)), so_much, costs, ap read_cost here)

    by : (n : ℕ) → n ≤ i + 1 → get_or (sums ++ (sum + cost) ∷ []) n 0 ≡ sum_by read_cost (take n (lengths_of segment tokens))
    by n low = ⊎_elim
        (λ (before : n < i + 1). get_or_append_left sums ((sum + cost) ∷ []) 0 n (omega (arith, before, long)) ∙ so_far n (omega (arith, before)))
        (λ (last : i + 1 ≤ n). (let at : i + 1 ≡ n = omega (arith, last, low) in
        get_or_push sums (sum + cost) 0 n (long ∙ at) ∙ next ∙ ap (λ (m : ℕ). sum_by read_cost (take m (lengths_of segment tokens))) at))
        (cases_lt n (i + 1))
