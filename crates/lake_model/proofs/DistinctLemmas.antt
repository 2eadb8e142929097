-- Texts made distinct: none occurs twice, and each that was there is still there.
use Rattle.std.proofs.Common.{◌≡◌, refl, ap, sym, ◌∙◌, List, [], ◌∷◌, ◌++◌, Bool, true, false, ◌||◌, inl, inr}
use Rattle.std.specs.Prelude.{bytes_eq, fold}
use Rattle.std.specs.List.{IsDistinct}
use Rattle.std.proofs.lemmas.Bool.{cases_Bool}
use Rattle.std.proofs.lemmas.Cmp.{nat_list_eq_equiv}
use Rattle.std.proofs.lemmas.List.Folds.{list_any-append}
use Rattle.std.proofs.lemmas.Map.Keys.{IsDistinct-push}
use Rattle.std.proofs.lemmas.Map.Steps.{list_any_congr}
use Rattle.std.proofs.Math.Bool.{or-false}
use Rattle.lake_model.specs.Texts.{Text}
use Rattle.lake_model.specs.Tables.{add_key, distinct, has_key}

pub no_repeat : IsDistinct bytes_eq []
unfolding IsDistinct
no_repeat = tt

pub added_differ : (seen texts : List Text) → IsDistinct bytes_eq seen → IsDistinct bytes_eq (fold add_key seen texts)
added_differ seen [] d = d
added_differ seen (text ∷ texts) d =
    elim (cases_Bool (has_key seen text)) [
      | inl there ↦ rw there (added_differ seen texts d)
      | inr new ↦ rw new (added_differ (seen ++ text ∷ []) texts (IsDistinct-push nat_list_eq_equiv seen text d new))
    ]

pub distinct_differ : (texts : List Text) → IsDistinct bytes_eq (distinct texts)
distinct_differ texts = added_differ [] texts no_repeat

-- b adds nothing if it implies a
or_again : (a b c : Bool) → (b ≡ true → a ≡ true) → (a || c) ≡ (a || (b || c))
or_again true b c h = refl
or_again false true c h = cc (h refl)
or_again false false c h = refl

or_last : (a b c : Bool) → ((a || (b || false)) || c) ≡ (a || (b || c))
or_last true b c = refl
or_last false true c = refl
or_last false false c = refl

has_added : (text : Text) (seen texts : List Text) → has_key (fold add_key seen texts) text ≡ (has_key seen text || has_key texts text)
has_added text seen [] = sym (or-false (has_key seen text))
has_added text seen (first ∷ texts) =
    elim (cases_Bool (has_key seen first)) [
      | inl there ↦ rw there (has_added text seen texts ∙ or_again (has_key seen text) (bytes_eq text first) (has_key texts text) (λ same. list_any_congr nat_list_eq_equiv text first seen same ∙ there))
      | inr new ↦ rw new (has_added text (seen ++ first ∷ []) texts ∙ ap (λ (t : Bool). t || has_key texts text) (list_any-append (bytes_eq text) seen (first ∷ [])) ∙ or_last (has_key seen text) (bytes_eq text first) (has_key texts text))
    ]

pub distinct_keeps : (texts : List Text) (text : Text) → has_key (distinct texts) text ≡ has_key texts text
distinct_keeps texts text = has_added text [] texts
