-- A trace from which some groups were cut.
use Rattle.std.proofs.Common.{◌≡◌, refl, ap, sym, ◌∙◌, List, [], ◌∷◌, ◌++◌, append_assoc, flat_map, true, false, arith}
use Rattle.std.proofs.lemmas.Bool.{eqb-true}
use Rattle.std.specs.Prelude.{◌==◌, get_or, length, map}
use Rattle.std.proofs.lemmas.List.{append-nil, map-append}
use Rattle.std.proofs.lemmas.Grind.{flat_map-append}
use Rattle.lake_model.specs.Texts.{Text, lines_of}
use Rattle.trace_laws.specs.Hints.{Hint}
use Rattle.trace_laws.specs.Reading.{groups_of, hint_read, is_cut}
use Rattle.trace_groups.specs.Pieces.{IsGroup, group_text}

-- the groups so far have these hints and texts, which together are these bytes; the rest is still to be cut
pub record IsCutTo (trace : Text) (hints : List Hint) (texts : List Text) (bytes rest : Text) : Type 0 where
  pub hints_are : hints ++ map hint_read (groups_of rest) ≡ map hint_read (groups_of trace)
  pub texts_are : texts ++ map group_text (groups_of rest) ≡ map group_text (groups_of trace)
  pub whole : bytes ++ rest ≡ trace
  pub cut : is_cut trace ≡ is_cut rest
  pub first : (get_or rest 0 0 == 0x20) ≡ false

pub none_cut : (trace : Text) → (get_or trace 0 0 == 0x20) ≡ false → IsCutTo trace [] [] [] trace
none_cut trace first = record { hints_are = refl; texts_are = refl; whole = refl; cut = refl; first = first }

-- one more group
pub more_cut : {G : Type 0} (hint_of : G → Hint) (text_of : G → Text) (groups : List G) (group : G) (trace rest behind : Text)
    → IsCutTo trace (map hint_of groups) (map text_of groups) (flat_map text_of groups) rest → IsGroup rest (text_of group) behind → hint_of group ≡ hint_read (lines_of (text_of group)).ended
    → IsCutTo trace (map hint_of (groups ++ group ∷ [])) (map text_of (groups ++ group ∷ [])) (flat_map text_of (groups ++ group ∷ [])) behind
more_cut {G} hint_of text_of groups group trace rest behind before next hint = record {
  hints_are = ap (λ (hs : List Hint). hs ++ map hint_read (groups_of behind)) (map-append hint_of groups (group ∷ []))
      ∙ append_assoc (map hint_of groups) (hint_of group ∷ []) (map hint_read (groups_of behind))
      ∙ ap (λ (h : Hint). map hint_of groups ++ h ∷ map hint_read (groups_of behind)) hint
      ∙ ap (λ (gs : List (List Text)). map hint_of groups ++ map hint_read gs) (sym next.groups)
      ∙ before.hints_are;
  texts_are = ap (λ (ts : List Text). ts ++ map group_text (groups_of behind)) (map-append text_of groups (group ∷ []))
      ∙ append_assoc (map text_of groups) (text_of group ∷ []) (map group_text (groups_of behind))
      ∙ ap (λ (t : Text). map text_of groups ++ t ∷ map group_text (groups_of behind)) (sym next.lines)
      ∙ ap (λ (gs : List (List Text)). map text_of groups ++ map group_text gs) (sym next.groups)
      ∙ before.texts_are;
  whole = ap (λ (t : Text). t ++ behind) (flat_map-append text_of groups (group ∷ []) ∙ ap (λ (t : Text). flat_map text_of groups ++ t) (append-nil (text_of group)))
      ∙ append_assoc (flat_map text_of groups) (text_of group) behind
      ∙ ap (λ (t : Text). flat_map text_of groups ++ t) (sym next.is)
      ∙ before.whole;
  cut = before.cut ∙ next.cut;
  first = next.first;
}

no_groups : groups_of [] ≡ []
unfolding lines_of
no_groups = refl

emptied : (rest : Text) → (length rest == 0) ≡ true → rest ≡ []
emptied [] empty = refl
emptied (byte ∷ rest) empty = let none : length (byte ∷ rest) ≡ 0 = eqb-true (length (byte ∷ rest)) 0 empty in absurd (omega (arith, none))

-- nothing remains
pub all_cut : (trace : Text) (hints : List Hint) (texts : List Text) (bytes rest : Text) → IsCutTo trace hints texts bytes rest → (length rest == 0) ≡ true
    → (hints ≡ map hint_read (groups_of trace)) × (texts ≡ map group_text (groups_of trace)) × (bytes ≡ trace)
all_cut trace hints texts bytes rest done empty =
    let none : rest ≡ [] = emptied rest empty in
    let groups : groups_of rest ≡ [] = ap groups_of none ∙ no_groups in (
      sym (ap (λ (gs : List (List Text)). hints ++ map hint_read gs) groups ∙ append-nil hints) ∙ done.hints_are,
      sym (ap (λ (gs : List (List Text)). texts ++ map group_text gs) groups ∙ append-nil texts) ∙ done.texts_are,
      sym (ap (λ (t : Text). bytes ++ t) none ∙ append-nil bytes) ∙ done.whole,
    )
