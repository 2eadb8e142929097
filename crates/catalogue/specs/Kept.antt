-- What a catalogue is, and what it keeps besides its journal.
use Rattle.std.specs.Prelude.{◌≡◌, ◌≤◌, ◌<◌, ◌^◌, ℕ, List, true, length, map, Option}
use Rattle.std.specs.List.{AllByRecursion}
use Rattle.lake_model.specs.declared.Counts.{Counts}
use Rattle.lake_model.specs.Texts.{Text}
use Rattle.lake_model.specs.Journal.{Entry, live, counts}
use Rattle.lake_model.specs.Layout.{layout, is_legal, positions_of}
use Rattle.layout_laws.specs.Weight.{do_merge}
use Rattle.list_laws.specs.Distinct.{AreDistinct, Rises}
use Rattle.segment_core.specs.Positions.{AreFull}
use Rattle.segment_core.specs.Versions.{VersionOf, live_of, version_with}
use Rattle.catalogue.specs.Parts.{load_of}

-- a catalogue: the limits of its lake, and its journal
pub record CatalogueOf : Type 0 where
  pub limits : Counts
  pub journal : List Entry

abbrev pub catalogue_with : Counts → List Entry → CatalogueOf
catalogue_with limits journal = record { limits = limits; journal = journal }

-- none of the limits is passed
pub record IsWithin (limits counted : Counts) : Type 0 where
  pub live : counted.live ≤ limits.live
  pub updates : counted.updates ≤ limits.updates
  pub members : counted.members ≤ limits.members
  pub key_bytes : counted.key_bytes ≤ limits.key_bytes

-- The version, the counts and the positions by name are those of the journal, which is legal and within the limits. The
-- positions of the layout rise; its unmarked tables are the live ones, with distinct names; no part is empty; and there
-- are at most as many tables, and as many parts, as loads, drops and replaces. Each swap merges.
pub record IsKept (limits : Counts) (journal : List Entry) (version : VersionOf) (counted : Counts) (position : Text → Option ℕ) : Type 0 where
  pub current : version ≡ version_with (length journal) (layout journal)
  pub count : counted ≡ counts journal
  pub placed : (name : Text) → position name ≡ load_of (layout journal) name
  pub legal : is_legal journal ≡ true
  pub within : IsWithin limits counted
  pub narrow : limits.updates < 2 ^ 32
  pub searched : live_of (layout journal) ≡ live journal
  pub names : AreDistinct (map (λ table. table.name) (live journal))
  pub rising : Rises (positions_of (layout journal))
  pub past : AllByRecursion (λ n. n ≤ length journal) (positions_of (layout journal))
  pub filled : AreFull (layout journal)
  pub room : length (positions_of (layout journal)) ≤ (counts journal).updates
  pub few : length (layout journal) ≤ (counts journal).updates
  pub merging : do_merge journal ≡ true
