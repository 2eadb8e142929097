-- The models of the objects in memory. Their calls are counted from 1, and those listed in `failing` fail.
use Rattle.std.specs.Prelude.{ℕ, ◌-◌, Bool, ◌||◌, ◌&&◌, not, List, ◌++◌, length, take, drop, min, nat_eq, nat_lt, Option, Some, None, if◌then◌else◌}
use Rattle.std.specs.List.{list_any}
use Rattle.lake_io.specs.declared.ShelfRefused.{ShelfRefused}
use Rattle.lake_io.specs.declared.ShelfRefused.TheVariants.{Failed, Missing, TooLong}
use Rattle.lake_io.specs.Causes.{one_more}
use Rattle.lake_io.specs.Files.{File, file_at}

-- whether the call with this number is to fail
abbrev pub is_listed : ℕ → List ℕ → Bool
is_listed call failing = list_any (λ listed. nat_eq listed call) failing

-- a source: the bytes that it has not given, the most that it gives in a call, the calls that fail, and its counts
pub record SourceState : Type 0 where
  pub left : List ℕ
  pub piece : ℕ
  pub failing : List ℕ
  pub calls : ℕ
  pub faults : ℕ

-- whether the next read fails
abbrev pub read_fails : SourceState → Bool
read_fails s = is_listed (one_more s.calls) s.failing

-- how many bytes a read into `room` bytes gives
abbrev pub read_count : SourceState → ℕ → ℕ
read_count s room = min (min s.piece room) (length s.left)

-- the source after a read into `room` bytes
abbrev pub after_read : SourceState → ℕ → SourceState
after_read s room = if read_fails s
    then record s { calls = one_more s.calls; faults = one_more s.faults }
    else record s { calls = one_more s.calls; left = drop (read_count s room) s.left }

-- a sink: the bytes that it has taken, the most that it takes in all and in a call, the calls that fail, and its counts
pub record SinkState : Type 0 where
  pub written : List ℕ
  pub capacity : ℕ
  pub piece : ℕ
  pub failing : List ℕ
  pub calls : ℕ
  pub faults : ℕ

-- how many bytes a write of a piece of `len` bytes takes
abbrev pub write_count : SinkState → ℕ → ℕ
write_count s len = min (min s.piece len) (s.capacity - length s.written)

-- whether the next write, of a piece of `len` bytes, fails: it is to fail, or the piece is not empty and no room is
-- left
abbrev pub write_fails : SinkState → ℕ → Bool
write_fails s len = is_listed (one_more s.calls) s.failing || (not (nat_eq len 0) && nat_eq (s.capacity - length s.written) 0)

-- the sink after a write of the piece
abbrev pub after_write : SinkState → List ℕ → SinkState
after_write s piece = if write_fails s (length piece)
    then record s { calls = one_more s.calls; faults = one_more s.faults }
    else record s { calls = one_more s.calls; written = s.written ++ take (write_count s (length piece)) piece }

-- a shelf: its files, one for each path, the calls that fail, and its counts
pub record ShelfState : Type 0 where
  pub files : List File
  pub failing : List ℕ
  pub calls : ℕ
  pub faults : ℕ

-- whether the next fetch fails
abbrev pub fetch_fails : ShelfState → Bool
fetch_fails s = is_listed (one_more s.calls) s.failing

-- why the bytes of a file are not given, if at most `most` are wanted: there is no file, or it is too long
abbrev pub length_refusal : Option (List ℕ) → ℕ → Option ShelfRefused
length_refusal None most = Some Missing
length_refusal (Some bytes) most = if nat_lt most (length bytes) then Some TooLong else None

-- why the next fetch is refused, other than that memory runs out: it is to fail, or no file has the path, or the file
-- is too long
abbrev pub fetch_refusal : ShelfState → List ℕ → ℕ → Option ShelfRefused
fetch_refusal s path most = if fetch_fails s then Some Failed else length_refusal (file_at s.files path) most

-- the shelf after a fetch
abbrev pub after_fetch : ShelfState → ShelfState
after_fetch s = if fetch_fails s
    then record s { calls = one_more s.calls; faults = one_more s.faults }
    else record s { calls = one_more s.calls }
