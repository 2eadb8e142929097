-- The keys of a column that may be keys of watched queries.
use Rattle.std.specs.Prelude.{◌≡◌, ◌<◌, List, [], get_or, length, map}
use Rattle.lake_model.specs.Texts.{Text}
use Rattle.column_set.specs.Hashes.{sip_of}
use Rattle.column_watch.specs.declared.overlaps.Hit.{Hit}

-- the index is that of one of the keys, and the hash is that key's hash
abbrev pub IsHit : List Text → Hit → Type 0
IsHit keys hit = (hit.index < length keys) × (hit.hash ≡ sip_of (get_or keys hit.index []))

-- the keys of hits
abbrev pub hit_keys : List Text → List Hit → List Text
hit_keys keys hits = map (λ hit. get_or keys hit.index []) hits
