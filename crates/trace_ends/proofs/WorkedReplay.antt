-- Worked readings of a short trace with a merge, and worked replies that are made at the positions of their hints.
use Rattle.std.proofs.Common.{◌≡◌, refl, List, [], ◌∷◌, map, Some, None}
use Rattle.std.specs.Prelude.{codes, flat_map}
use Rattle.lake_model.specs.Texts.{Text, lines_of}
use Rattle.lake_model.specs.declared.Keys.TheVariants.{Canonical}
use Rattle.script_model.specs.Commands.{DropTable, Tables, command_with}
use Rattle.record_model.specs.Rules.{standard_rules}
use Rattle.record_model.specs.Replies.{Listed, NoMemory, Unknown}
use Rattle.record_model.specs.Answered.{Saw}
use Rattle.trace_laws.specs.Hints.{Hint, Stands, Wanting}
use Rattle.trace_laws.specs.Reading.{groups_of, hint_read}
use Rattle.trace_laws.specs.Rebuilt.{pinned_of}
use Rattle.trace_groups.specs.Pieces.{group_text}
use Rattle.trace_numbers.specs.Positions.{own_of}
use Rattle.trace_numbers.specs.Turns.{made_at, planned_at}
use Rattle.trace_ends.specs.Fronts.{reply_at}

-- ---- a load, and the merger's merge

abbrev loaded : List Text
loaded = codes "1 loaded t columns 1 members 1 at 1" ∷ []

abbrev merged : List Text
merged = codes "m1 merged 1 parts into 1 tables at 2" ∷ codes "  layout at 1 parts 1:1" ∷ []

abbrev journal : List Text
journal = codes "journal 2" ∷ codes "  1 load lane 1 command 1 t" ∷ codes "  2 swap lane 0 command m1 from 1 kept 1" ∷ []

abbrev trace : Text
trace = flat_map group_text (loaded ∷ merged ∷ journal ∷ [])

abbrev hints : List Hint
hints = map hint_read (groups_of trace)

texts : map group_text (groups_of trace) ≡ group_text loaded ∷ group_text merged ∷ group_text journal ∷ []
unfolding lines_of
texts = refl

-- the load is made when the journal has no entry, and the merge when it has one
made : map made_at hints ≡ 0 ∷ 1 ∷ 0 ∷ []
unfolding lines_of
made = refl

own : map own_of hints ≡ Some 1 ∷ Some 2 ∷ None ∷ []
unfolding lines_of
own = refl

planned : map planned_at hints ≡ None ∷ Some 1 ∷ None ∷ []
unfolding lines_of
planned = refl

pinned : map pinned_of hints ≡ 0 ∷ 1 ∷ 0 ∷ []
unfolding lines_of
pinned = refl

-- ---- replies at the empty journal

none_listed : reply_at (standard_rules Canonical) [] (command_with 1 1 Tables) (Stands (Saw 0)) ≡ Listed [] 0
none_listed = refl

none_dropped : reply_at (standard_rules Canonical) [] (command_with 1 1 (DropTable (codes "t"))) (Stands (Saw 0)) ≡ Unknown (codes "t") 0
none_dropped = refl

-- if the hint is that memory ran out, the reply says so
wanting : reply_at (standard_rules Canonical) [] (command_with 1 1 Tables) Wanting ≡ NoMemory
wanting = refl
