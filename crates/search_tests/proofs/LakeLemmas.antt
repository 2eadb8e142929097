-- Lakes of four tables whose names differ.
use Rattle.std.proofs.Common.{◌≡◌, sym, subst, List, [], ◌∷◌, Bool, true, false, not, cond, map}
use Rattle.std.specs.List.{filter, flat_map}
use Rattle.lake_model.specs.Layout.{Part, Place}
use Rattle.lake_model.specs.Texts.{Text}
use Rattle.segment_core.specs.Distinct.{unmarked_names}
use Rattle.list_laws.specs.Distinct.{AreDistinct, Lacks}

abbrev names_of : List Place → List Text
names_of places = map (λ place. place.table.name) places

abbrev unmarked : List Place → List Place
unmarked places = filter (λ place. not place.marked) places

still_lacks : (x : Text) (places : List Place) → Lacks (names_of places) x → Lacks (names_of (unmarked places)) x
still_lacks x [] h = tt
still_lacks x (place ∷ places) h = by (not place.marked) (still_lacks x places h.1)
  where
    by : (b : Bool) → Lacks (names_of (unmarked places)) x → Lacks (names_of (cond b (place ∷ unmarked places) (unmarked places))) x
    by true later = (h.0, later)
    by false later = later

still_apart : (places : List Place) → AreDistinct (names_of places) → AreDistinct (names_of (unmarked places))
still_apart [] h = tt
still_apart (place ∷ places) h = by (not place.marked) (still_apart places h.1)
  where
    by : (b : Bool) → AreDistinct (names_of (unmarked places)) → AreDistinct (names_of (cond b (place ∷ unmarked places) (unmarked places)))
    by true later = (still_lacks place.table.name places h.0, later)
    by false later = later

pub lake_apart : (a b c d : Text) (parts : List Part) → names_of (flat_map (λ part. part.places) parts) ≡ a ∷ b ∷ c ∷ d ∷ [] → (a ≡ b → ⊥) → (a ≡ c → ⊥) → (a ≡ d → ⊥) → (b ≡ c → ⊥) → (b ≡ d → ⊥) → (c ≡ d → ⊥)
    → AreDistinct (unmarked_names parts)
lake_apart a b c d parts e ab ac ad bc bd cd =
    let apart : AreDistinct (a ∷ b ∷ c ∷ d ∷ []) = ((λ f. ab (sym f), (λ f. ac (sym f), (λ f. ad (sym f), tt))), ((λ f. bc (sym f), (λ f. bd (sym f), tt)), ((λ f. cd (sym f), tt), (tt, tt)))) in
    still_apart (flat_map (λ part. part.places) parts) (subst AreDistinct (sym e) apart)
