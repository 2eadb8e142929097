-- An appended text is a span, a span ends between characters, and spans are apart.
use Rattle.std.proofs.Common.{◌≡◌, ◌≢◌, ℕ, ◌+◌, ◌-◌, ◌≤◌, List, [], ◌++◌, length, take, drop, sym, ap, subst, arith, length-append, length-drop, append_assoc}
use Rattle.std.specs.Str.{IsUtf8, IsCharBoundary}
use Rattle.std.proofs.lemmas.Str.{IsUtf8-append, IsCharBoundary-from_take}
use Rattle.std.proofs.lemmas.List.{take-append-le, drop-append-le, take-append-drop, drop-drop, length-take-le}
use Rattle.std.proofs.Math.Seq.{take-append_seam, take-length}
use Rattle.text_region.specs.Written.{Written, HasGrown}
use Rattle.text_region.specs.Spans.{IsSpan, start_of, end_of, text_at, KeepsSpans, AreDisjoint, IsPutLater, StandsIn}
use Rattle.text_region.specs.declared.region.Span.{Span}

pub span_put : (region : Written) (span : Span) (old text : List ℕ) → region.bytes ≡ old ++ text → span.start ≡ length old → span.len ≡ length text → IsUtf8 old → IsUtf8 text → IsSpan region span
span_put region span old text bytes start len old_utf8 text_utf8 =
    let whole : length region.bytes ≡ length old + length text = rw bytes (length-append old text) in
    let front : take span.start region.bytes ≡ old = rw (bytes, start) (take-append_seam old text) in
    let last : span.start + span.len ≡ length (old ++ text) = omega (arith, length-append old text) in
    let all : take (span.start + span.len) region.bytes ≡ old ++ text = rw (bytes, last) (take-length (old ++ text)) in
    record { within = omega arith; before = subst IsUtf8 (sym front) old_utf8; through = subst IsUtf8 (sym all) (IsUtf8-append old text old_utf8 text_utf8) }

pub starts_at : (region : Written) (span : Span) → IsUtf8 region.bytes → IsSpan region span → IsCharBoundary region.bytes span.start
starts_at region span utf8 is_span = IsCharBoundary-from_take region.bytes span.start utf8 (omega (arith, is_span.within)) is_span.before

pub ends_at : (region : Written) (span : Span) → IsUtf8 region.bytes → IsSpan region span → IsCharBoundary region.bytes (span.start + span.len)
ends_at region span utf8 is_span = IsCharBoundary-from_take region.bytes (span.start + span.len) utf8 is_span.within is_span.through

-- what is within the old bytes stays
pub spans_kept : (region grown : Written) → HasGrown region grown → KeepsSpans region grown
spans_kept region grown (more, bytes) span is_span =
    let within : span.start + span.len ≤ length region.bytes = is_span.within in
    let starts : span.start ≤ length region.bytes = omega arith in
    let room : (span.start + span.len) - span.start ≤ length (drop span.start region.bytes) = omega (arith, length-drop span.start region.bytes) in
    let whole : length grown.bytes ≡ length region.bytes + length more = rw bytes (length-append region.bytes more) in
    let front : take span.start grown.bytes ≡ take span.start region.bytes = rw bytes (take-append-le span.start region.bytes more starts) in
    let all : take (span.start + span.len) grown.bytes ≡ take (span.start + span.len) region.bytes = rw bytes (take-append-le (span.start + span.len) region.bytes more within) in
    let back : drop span.start grown.bytes ≡ drop span.start region.bytes ++ more = rw bytes (drop-append-le span.start region.bytes more starts) in (
      record { within = omega arith; before = subst IsUtf8 (sym front) is_span.before; through = subst IsUtf8 (sym all) is_span.through },
      rw back (take-append-le ((span.start + span.len) - span.start) (drop span.start region.bytes) more room),
    )

-- a span ends before one that was put later starts
pub ends_before : (region grown : Written) (earlier later : Span) → IsPutLater region grown earlier later → end_of earlier ≤ start_of later
ends_before region grown earlier later put =
    let within : earlier.start + earlier.len ≤ length region.bytes = put.earlier_is_span.within in
    let whole : length grown.bytes ≡ length region.bytes + length put.has_grown.0 = rw put.has_grown.1 (length-append region.bytes put.has_grown.0) in
    let behind : later.start ≡ length grown.bytes = put.later_is_behind in
    omega arith

pub spans_disjoint : (region grown : Written) (earlier later : Span) → IsPutLater region grown earlier later → AreDisjoint earlier later
spans_disjoint region grown earlier later put place first second =
    omega (arith, ends_before region grown earlier later put, first.1, second.0)

-- an empty range has no bytes
no_bytes : (bytes : List ℕ) (start len : ℕ) → len ≡ 0 → take ((start + len) - start) (drop start bytes) ≡ []
no_bytes bytes start len none =
    let zero_long : (start + len) - start ≡ 0 = omega arith in
    rw zero_long

pub spans_different : (region grown : Written) (earlier later : Span) → IsPutLater region grown earlier later → text_at region earlier ≢ [] → earlier ≢ later
spans_different region grown earlier later put nonempty same =
    let starts : earlier.start ≡ later.start = ap (λ (span : Span). span.start) same in
    let none : earlier.len ≡ 0 = omega (arith, ends_before region grown earlier later put) in
    nonempty (no_bytes region.bytes earlier.start earlier.len none)

-- the parts around a range make up the whole
three_parts : (bytes : List ℕ) (start len : ℕ) → bytes ≡ take start bytes ++ take ((start + len) - start) (drop start bytes) ++ drop (start + len) bytes
three_parts bytes start len =
    let long : (start + len) - start ≡ len = omega arith in
    let behind : drop (start + len) bytes ≡ drop len (drop start bytes) = sym (drop-drop len start bytes) in
    rw (long, behind, append_assoc, take-append-drop len (drop start bytes)) (sym (take-append-drop start bytes))

length_of_range : (bytes : List ℕ) (start len : ℕ) → start + len ≤ length bytes → length (take ((start + len) - start) (drop start bytes)) ≡ len
length_of_range bytes start len within =
    let long : (start + len) - start ≡ len = omega arith in
    let room : len ≤ length (drop start bytes) = omega (arith, length-drop start bytes) in
    rw long (length-take-le len (drop start bytes) room)

pub span_stands : (region : Written) (span : Span) → IsSpan region span → StandsIn region span
span_stands region span is_span = record {
  parts = three_parts region.bytes span.start span.len;
  ends = omega (arith, length_of_range region.bytes span.start span.len is_span.within);
}
