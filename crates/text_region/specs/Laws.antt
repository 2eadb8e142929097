-- Laws of spans, as facts that the contracts of `laws` cite.
use Rattle.std.specs.Prelude.{◌≢◌, []}
use Rattle.text_region.specs.Written.{Written, HasGrown}
use Rattle.text_region.specs.Spans.{IsSpan, text_at, KeepsSpans, AreDisjoint, IsPutLater, StandsIn}
use Rattle.text_region.specs.declared.region.Span.{Span}

-- texts that were put at different times share no byte
abbrev pub SpansAreDisjoint : Type 0
SpansAreDisjoint = (region grown : Written) (earlier later : Span) → IsPutLater region grown earlier later → AreDisjoint earlier later

-- and their spans differ if the earlier text is not empty
abbrev pub SpansDiffer : Type 0
SpansDiffer = (region grown : Written) (earlier later : Span) → IsPutLater region grown earlier later → text_at region earlier ≢ [] → earlier ≢ later

-- a span is in its region
abbrev pub SpansAreOfTheirRegion : Type 0
SpansAreOfTheirRegion = (region : Written) (span : Span) → IsSpan region span → StandsIn region span

-- spans keep their texts while bytes are appended
abbrev pub SpansAreKept : Type 0
SpansAreKept = (region grown : Written) → HasGrown region grown → KeepsSpans region grown
