-- Whether a key is there, one text after another.
use Rattle.std.proofs.Common.{◌≡◌, ap, sym, ◌∙◌, ℕ, ◌+◌, ◌<◌, List, [], ◌∷◌, get_or, length, take, Bool, true, false, ◌||◌}
use Rattle.std.specs.Prelude.{bytes_eq}
use Rattle.std.proofs.lemmas.List.{take_more}
use Rattle.std.proofs.lemmas.List.Folds.{list_any-append, list_any_at}
use Rattle.std.proofs.lemmas.Slice.Eq.{bytes_eq-Decides}
use Rattle.lake_model.specs.Texts.{Text}
use Rattle.lake_model.specs.Tables.{has_key}
use Rattle.column_set.proofs.OverlapLemmas.{flipped}

pub has_at : (keys : List Text) (key : Text) (i : ℕ) (text : Text) → i < length keys → text ≡ get_or keys i [] → (b : Bool) → b ≡ bytes_eq text key → b ≡ true → true ≡ has_key keys key
has_at keys key i text less is b test passed =
    let same : text ≡ key = (bytes_eq-Decides text key).0 (sym test ∙ passed) in
    sym (list_any_at (bytes_eq key) keys i [] less ((bytes_eq-Decides key (get_or keys i [])).1 (sym same ∙ is)))

pub has_more : (keys : List Text) (key : Text) (i : ℕ) (text : Text) → i < length keys → text ≡ get_or keys i [] → (b : Bool) → b ≡ bytes_eq text key → b ≡ false → has_key (take i keys) key ≡ false
    → has_key (take (i + 1) keys) key ≡ false
has_more keys key i text less is b test no_match before =
    let other : bytes_eq key (get_or keys i []) ≡ false = flipped (get_or keys i []) key false (ap (λ (t : Text). bytes_eq t key) (sym is) ∙ sym test ∙ no_match) in
    ap (λ (ks : List Text). has_key ks key) (take_more keys i [] less) ∙ list_any-append (bytes_eq key) (take i keys) (get_or keys i [] ∷ []) ∙ (λ j. before j || (other j || false))
