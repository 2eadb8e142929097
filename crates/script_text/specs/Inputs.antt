-- The bytes at hand.
use Rattle.std.specs.Prelude.{ℕ, ◌≡◌, ◌<◌, ◌≤◌, ◌+◌, ◌-◌, List, ◌∷◌, ◌++◌, drop, length, take, Option}
use Rattle.std.specs.Io.KnownBytes.{Consumes, IsAtEnd}
use Rattle.lake_model.specs.Texts.{Text}
use Rattle.script_model.specs.Words.{NoFeed}

-- they lie from `start` to `filled`, and the first `searched` of them have no line feed
pub record IsHeld (start filled searched : ℕ) (bytes : List ℕ) : Type 0 where
  pub ordered : start + searched ≤ filled
  pub within : filled ≤ length bytes
  pub searched_none : NoFeed (take searched (take (filled - start) (drop start bytes)))

-- The text begins with a line of `at` bytes that a line feed ends.
pub record EndsLine (text : Text) (at : ℕ) : Type 0 where
  pub within : at < length text
  pub whole : NoFeed (take at text)
  pub cut : text ≡ take at text ++ 0x0A ∷ drop (at + 1) text

-- The source gave `count` bytes, which follow those at hand; it gave none only at its end.
pub record Came (left_before left_now : Option (List ℕ)) (before now : List ℕ) (count : ℕ) : Type 0 where
  pub piece : List ℕ
  pub size : length piece ≡ count
  pub gave : Consumes left_before left_now piece
  pub held : now ≡ before ++ piece
  pub end : count ≡ 0 → IsAtEnd left_now
