-- Entries that are taken one after another.
use Rattle.std.proofs.Common.{◌≡◌, ap, sym, ◌∙◌, ℕ, ◌+◌, ◌<◌, ◌≤◌, List, [], ◌∷◌, ◌++◌, append_assoc, true, length, length-append, arith, drop, get_or, take}
use Rattle.std.specs.Prelude.{sum_by}
use Rattle.std.proofs.lemmas.List.{take-append-drop, take_all, take_more}
use Rattle.std.proofs.lemmas.List.Sums.{sum_by-append}
use mathlib.Core.List.{IsPrefix}
use Rattle.lake_model.specs.Tables.{members}
use Rattle.lake_model.specs.Journal.{Entry, loads_of}
use Rattle.lake_model.specs.Layout.{is_legal}
use Rattle.layout_laws.proofs.LaidLemmas.{legal_journal}
use Rattle.asof_search.proofs.HistoryLemmas.{loads_split}

-- i of the entries were taken after the first ones
module _ (first entries taken : List Entry) (i : ℕ) (is : taken ≡ first ++ take i entries) where
  pub taken_begins : IsPrefix taken (first ++ entries)
  taken_begins = (drop i entries, ap (λ (j : List Entry). j ++ drop i entries) is ∙ append_assoc first (take i entries) (drop i entries) ∙ ap (λ (es : List Entry). first ++ es) (take-append-drop i entries))

  pub taken_whole : length entries ≤ i → taken ≡ first ++ entries
  taken_whole h = is ∙ ap (λ (es : List Entry). first ++ es) (take_all i entries h)

  module _ (entry : Entry) (within : i < length entries) (at : entry ≡ get_or entries i entry) where
    pub one_taken : taken ++ entry ∷ [] ≡ first ++ take (i + 1) entries
    one_taken =
        ap (λ (j : List Entry). j ++ entry ∷ []) is ∙ append_assoc first (take i entries) (entry ∷ []) ∙ ap (λ (e : Entry). first ++ (take i entries ++ e ∷ [])) at
        ∙ ap (λ (es : List Entry). first ++ es) (sym (take_more entries i entry within))

    whole : (taken ++ entry ∷ []) ++ drop (i + 1) entries ≡ first ++ entries
    whole =
        ap (λ (j : List Entry). j ++ drop (i + 1) entries) one_taken ∙ append_assoc first (take (i + 1) entries) (drop (i + 1) entries)
        ∙ ap (λ (es : List Entry). first ++ es) (take-append-drop (i + 1) entries)

    pub still_legal : is_legal (first ++ entries) ≡ true → is_legal (taken ++ entry ∷ []) ≡ true
    still_legal legal = legal_journal (taken ++ entry ∷ []) (drop (i + 1) entries) (ap is_legal whole ∙ legal)

    pub still_few : (n : ℕ) → length (loads_of (first ++ entries)) < n → length (loads_of (taken ++ entry ∷ [])) < n
    still_few n few =
        omega (arith, few, ap (λ (j : List Entry). length (loads_of j)) whole, ap length (loads_split (taken ++ entry ∷ []) (drop (i + 1) entries)), length-append (loads_of (taken ++ entry ∷ [])) (loads_of (drop (i + 1) entries)))

    pub still_light : (n : ℕ) → sum_by members (loads_of (first ++ entries)) < n → sum_by members (loads_of (taken ++ entry ∷ [])) < n
    still_light n light =
        omega (arith, light, ap (λ (j : List Entry). sum_by members (loads_of j)) whole, ap (sum_by members) (loads_split (taken ++ entry ∷ []) (drop (i + 1) entries)), sum_by-append members (loads_of (taken ++ entry ∷ [])) (loads_of (drop (i + 1) entries)))
