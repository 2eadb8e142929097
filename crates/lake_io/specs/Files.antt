-- The files of a shelf, if they are known.
use Rattle.std.specs.Prelude.{ℕ, ◌≡◌, ◌<◌, List, [], ◌∷◌, length, Option, Some, None, MatchOption, bytes_eq, if◌then◌else◌}

-- a file, by the bytes of its path
pub record File : Type 0 where
  pub path : List ℕ
  pub bytes : List ℕ

-- the bytes of the file at a path
unfoldable pub file_at : List File → List ℕ → Option (List ℕ)
file_at [] path = None
file_at (file ∷ files) path = if bytes_eq file.path path then Some file.bytes else file_at files path

abbrev pub file_with : List ℕ → List ℕ → File
file_with path bytes = record { path = path; bytes = bytes }

-- the files, with these bytes at the path: in the place of the file there, or in a new file after all others
unfoldable pub put_file : List File → List ℕ → List ℕ → List File
put_file [] path bytes = file_with path bytes ∷ []
put_file (file ∷ files) path bytes =
    if bytes_eq file.path path then file_with path bytes ∷ files else file ∷ put_file files path bytes

-- if the files are known, the file at the path has these bytes
abbrev pub HasFile : Option (List File) → List ℕ → List ℕ → Type 0
HasFile None path bytes = Unit {0}
HasFile (Some files) path bytes = file_at files path ≡ Some bytes

-- if the files are known, no file has the path
abbrev pub LacksFile : Option (List File) → List ℕ → Type 0
LacksFile None path = Unit {0}
LacksFile (Some files) path = file_at files path ≡ None

-- if the files are known, the file at the path has more than `most` bytes
abbrev pub HasLongFile : Option (List File) → List ℕ → ℕ → Type 0
HasLongFile None path most = Unit {0}
HasLongFile (Some files) path most = MatchOption (file_at files path) ⊥ (λ bytes. most < length bytes)
