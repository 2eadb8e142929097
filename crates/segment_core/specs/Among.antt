-- The tokens of a segment whose keys are in a query, found key by key.
use Rattle.std.specs.Prelude.{ℕ, ◌<◌, List, [], ◌∷◌, get_or, length, map}
use Rattle.std.specs.List.{flat_map}
use Rattle.lake_model.specs.Texts.{Text}
use Rattle.search_model.specs.Segment.{Token, tokens_in}
use Rattle.hash_directory.specs.Buckets.{IsNear}
use Rattle.hash_directory.specs.declared.directory.Near.{Near}
use Rattle.segment_core.specs.Hashes.{KeyedToken, hash_of, token_hash}
use Rattle.segment_core.specs.declared.finding.Hit.{Hit}

-- the tokens of these keys, in the order of the keys
abbrev pub found_by : List Token → List Text → List ℕ
found_by tokens keys = flat_map (λ key. tokens_in tokens (key ∷ [])) keys

-- the token and the key of a hit exist
abbrev pub IsHit : List KeyedToken → List Text → Hit → Type 0
IsHit order keys hit = (hit.at < length order) × (hit.index < length keys)

-- the keys of hits
abbrev pub hit_keys : List Text → List Hit → List Text
hit_keys keys hits = map (λ hit. get_or keys hit.index []) hits

-- ranges of the tokens for the first keys, outside of which none has the key's hash
abbrev pub AreNear : List KeyedToken → List Text → List Near → Type 0
AreNear order keys ranges = (i : ℕ) (d : Near) → i < length ranges → IsNear (map token_hash order) (hash_of (get_or keys i [])) (get_or ranges i d).from (get_or ranges i d).to
