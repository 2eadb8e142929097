-- The spans of a region.
use Rattle.std.specs.Prelude.{ℕ, ◌≡◌, ◌+◌, ◌<◌, ◌≤◌, List, ◌++◌, length, take, drop, slice_range}
use Rattle.std.specs.Str.{IsUtf8}
use Rattle.text_region.specs.Written.{Written, HasGrown}
use Rattle.text_region.specs.declared.region.Span.{Span}

-- the index of a span's first byte
abbrev pub start_of : Span → ℕ
start_of span = span.start

-- the index after a span's last byte
abbrev pub end_of : Span → ℕ
end_of span = span.start + span.len

-- a span ends within the region, and both its ends are between characters
pub record IsSpan (region : Written) (span : Span) : Type 0 where
  pub within : end_of span ≤ length region.bytes
  pub before : IsUtf8 (take (start_of span) region.bytes)
  pub through : IsUtf8 (take (end_of span) region.bytes)

-- the text of a span
abbrev pub text_at : Written → Span → List ℕ
text_at region span = slice_range region.bytes (start_of span) (end_of span)

-- each span remains a span, and keeps its text
abbrev pub KeepsSpans : Written → Written → Type 0
KeepsSpans old new = (span : Span) → IsSpan old span → IsSpan new span × (text_at new span ≡ text_at old span)

-- the bytes of a region are those before the span, its text, and those after it
pub record StandsIn (region : Written) (span : Span) : Type 0 where
  pub parts : region.bytes ≡ take (start_of span) region.bytes ++ text_at region span ++ drop (end_of span) region.bytes
  pub ends : start_of span + length (text_at region span) ≡ end_of span

-- an index is that of a byte of the span's text
abbrev pub Covers : Span → ℕ → Type 0
Covers span place = (start_of span ≤ place) × (place < end_of span)

-- no byte belongs to both
abbrev pub AreDisjoint : Span → Span → Type 0
AreDisjoint first second = (place : ℕ) → Covers first place → ¬ (Covers second place)

-- the later span was put after the region of the earlier one had grown
pub record IsPutLater (region grown : Written) (earlier later : Span) : Type 0 where
  pub earlier_is_span : IsSpan region earlier
  pub has_grown : HasGrown region grown
  pub later_is_behind : start_of later ≡ length grown.bytes
