-- What a load and a replace have in common: one more part, of one table, and the counts with that table.
use Rattle.std.proofs.Common.{◌≡◌, refl, ap, sym, ◌∙◌, ℕ, ◌+◌, ◌<◌, ◌≤◌, ◌^◌, List, [], ◌∷◌, ◌++◌, Bool, true, false, not, cond, map, length, Option, Some, None, arith}
use Rattle.std.specs.Prelude.{sum_by, find, option_map}
use Rattle.std.specs.List.{AllByRecursion}
use Rattle.std.proofs.lemmas.List.{map-append}
use Rattle.std.proofs.lemmas.List.Concat.{flat_map-append}
use Rattle.std.proofs.lemmas.List.Sums.{sum_by_push}
use Rattle.lake_model.specs.declared.Counts.{Counts}
use Rattle.lake_model.specs.Texts.{Text}
use Rattle.lake_model.specs.Tables.{Table, members, key_bytes}
use Rattle.lake_model.specs.Journal.{Entry, counts, loads_of, has_name}
use Rattle.lake_model.specs.Layout.{Place, Part, layout, positions_of, unmarked_of}
use Rattle.lake_model.specs.Limits.{is_passed, replace_bounds}
use Rattle.segment_core.specs.Distinct.{unmarked_names}
use Rattle.list_laws.specs.Distinct.{AreDistinct, Rises}
use Rattle.segment_core.specs.Versions.{VersionOf, part_with, place_with, places_with}
use Rattle.catalogue.specs.Kept.{IsKept}
use Rattle.catalogue.specs.Parts.{load_of, is_of}
use Rattle.list_laws.proofs.ListLemmas.{all_append, all_weaker, distinct_push, rises_push}
use Rattle.std.proofs.lemmas.List.Elements.{filter-append}
use Rattle.catalogue.proofs.ListLemmas.{le_from, map_none, find_push}
use Rattle.layout_laws.specs.Places.{places_of}
use Rattle.catalogue.proofs.PlaceLemmas.{names_append, names_in}
use Rattle.catalogue.proofs.KeptLemmas.{parts_kept, positions_differ}
use Rattle.layout_laws.proofs.LiveLemmas.{unmarked}

-- the part of one load or replace
abbrev pub loaded_part : ℕ → Table → Part
loaded_part at table = part_with at (place_with at table false ∷ [])

abbrev lone_place : ℕ → Table → Place
lone_place at table = place_with at table false

pub places_push : (parts : List Part) (at : ℕ) (table : Table) → places_of (parts ++ loaded_part at table ∷ []) ≡ places_of parts ++ lone_place at table ∷ []
places_push parts at table = flat_map-append (λ (part : Part). part.places) parts (loaded_part at table ∷ [])

pub positions_push : (parts : List Part) (at : ℕ) (table : Table) → positions_of (parts ++ loaded_part at table ∷ []) ≡ positions_of parts ++ at ∷ []
positions_push parts at table = ap (map (λ (place : Place). place.position)) (places_push parts at table) ∙ map-append (λ (place : Place). place.position) (places_of parts) (lone_place at table ∷ [])

pub names_push : (parts : List Part) (at : ℕ) (table : Table) → unmarked_names (parts ++ loaded_part at table ∷ []) ≡ unmarked_names parts ++ table.name ∷ []
names_push parts at table = ap (λ (places : List Place). names_in places) (places_push parts at table) ∙ names_append (places_of parts) (lone_place at table ∷ [])

pub unmarked_push : (parts : List Part) (at : ℕ) (table : Table) → unmarked_of (parts ++ loaded_part at table ∷ []) ≡ unmarked_of parts ++ lone_place at table ∷ []
unmarked_push parts at table = ap (λ (places : List Place). unmarked places) (places_push parts at table) ∙ filter-append (λ (place : Place). not place.marked) (places_of parts) (lone_place at table ∷ [])

map_cond : (b : Bool) (place : Place) (rest : Option Place) → option_map (λ (p : Place). p.position) (cond b (Some place) rest) ≡ cond b (Some place.position) (option_map (λ (p : Place). p.position) rest)
map_cond true place rest = refl
map_cond false place rest = refl

pub load_push : (parts : List Part) (at : ℕ) (table : Table) (q : Text) → (has_name q table ≡ true → load_of parts q ≡ None) → load_of (parts ++ loaded_part at table ∷ []) q ≡ cond (has_name q table) (Some at) (load_of parts q)
load_push parts at table q h =
    ap (λ (places : List Place). option_map (λ (p : Place). p.position) (find (is_of q) places)) (unmarked_push parts at table)
    ∙ ap (option_map (λ (p : Place). p.position)) (find_push (is_of q) (unmarked_of parts) (lone_place at table) (λ e. map_none (λ (p : Place). p.position) (find (is_of q) (unmarked_of parts)) (h e)))
    ∙ map_cond (has_name q table) (lone_place at table) (find (is_of q) (unmarked_of parts))

pub part_is : (part : Part) (at n : ℕ) (tables : List Table) (table : Table) → part ≡ part_with at (places_with (at ∷ []) tables (false ∷ [])) → tables ≡ table ∷ [] → at ≡ n → part ≡ loaded_part n table
part_is part at n tables table e f g = e ∙ ap (λ (ts : List Table). part_with at (places_with (at ∷ []) ts (false ∷ []))) f ∙ ap (λ (m : ℕ). loaded_part m table) g

-- a table fits within the limits that a replace could pass
pub record Fits (limits counted : Counts) (table : Table) : Type 0 where
  pub updates : counted.updates + 1 ≤ limits.updates
  pub members : counted.members + members table ≤ limits.members
  pub key_bytes : counted.key_bytes + key_bytes table ≤ limits.key_bytes

-- the positions of a layout, and one more
abbrev pub put_positions : List Entry → List ℕ
put_positions journal = positions_of (layout journal) ++ (length journal + 1) ∷ []

module _ (limits : Counts) (journal : List Entry) (version : VersionOf) (counted : Counts) (position : Text → Option ℕ) (kept : IsKept limits journal version counted position) where
  pub put_rise : Rises (put_positions journal)
  put_rise = rises_push (positions_of (layout journal)) (length journal + 1) kept.rising (all_weaker (λ n. n ≤ length journal) (λ n. n < length journal + 1) (positions_of (layout journal)) (λ n le. omega arith) kept.past)

  pub put_past : AllByRecursion (λ n. n ≤ length journal + 1) (put_positions journal)
  put_past =
      all_append (λ n. n ≤ length journal + 1) (positions_of (layout journal)) ((length journal + 1) ∷ []) (all_weaker (λ n. n ≤ length journal) (λ n. n ≤ length journal + 1) (positions_of (layout journal)) (λ n le. omega arith) kept.past) (omega arith, tt)

  pub put_differ : AreDistinct (put_positions journal)
  put_differ =
      distinct_push (positions_of (layout journal)) (length journal + 1) (positions_differ limits journal version counted position kept)
      (all_weaker (λ n. n ≤ length journal) (λ n. n ≡ length journal + 1 → ⊥) (positions_of (layout journal)) (λ n le e. omega arith) kept.past)

  module _ (table : Table) where
    pub fits_by : AllByRecursion (λ b. is_passed b ≡ false) (replace_bounds limits table (counts journal)) → Fits limits counted table
    fits_by n = record {
      updates = omega (arith, le_from _ _ n.0, ap (λ (c : Counts). c.updates) kept.count);
      members = omega (arith, le_from _ _ n.1.0, ap (λ (c : Counts). c.members) kept.count);
      key_bytes = omega (arith, le_from _ _ n.1.1.0, ap (λ (c : Counts). c.key_bytes) kept.count);
    }

    pub few_by : Fits limits counted table → length version.parts + 1 < 2 ^ 32
    few_by f = omega (arith, ap (λ (ps : List Part). length ps) (parts_kept limits journal version counted position kept), kept.few, f.updates, kept.narrow, ap (λ (c : Counts). c.updates) kept.count)

    -- the counts of a journal that also has this table
    module _ (longer : List Entry) (put : loads_of longer ≡ loads_of journal ++ table ∷ []) where
      pub put_members : counted.members + members table ≡ sum_by members (loads_of longer)
      put_members = ap (λ (c : Counts). c.members + members table) kept.count ∙ sym (sum_by_push members (loads_of journal) table) ∙ ap (sum_by members) (sym put)

      pub put_bytes : counted.key_bytes + key_bytes table ≡ sum_by key_bytes (loads_of longer)
      put_bytes = ap (λ (c : Counts). c.key_bytes + key_bytes table) kept.count ∙ sym (sum_by_push key_bytes (loads_of journal) table) ∙ ap (sum_by key_bytes) (sym put)
