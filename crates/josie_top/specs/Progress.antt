-- How far a run is: what it has read, answered and written between two batches.
use Rattle.std.specs.Prelude.{ℕ, ◌+◌, ◌-◌, ◌≡◌, ◌≤◌, ◌⊎◌, Bool, false, List, [], ◌∷◌, ◌++◌, length, sum_by, Option, Some, Ok}
use Rattle.std.specs.List.{AllByRecursion}
use Rattle.std.specs.Io.KnownBytes.{Consumes, Appends}
use Rattle.record_model.specs.Rules.{Rules}
use Rattle.lake_model.specs.Texts.{Text}
use Rattle.script_model.specs.Commands.{File, Batch, updates}
use Rattle.script_model.specs.Reading.{Reading}
use Rattle.script_model.specs.Script.{grammar_of, standard, start}
use Rattle.record_model.specs.Record.{Answered, RunRecord, empty}
use Rattle.script_model.specs.Options.{Options}
use Rattle.record_model.specs.Play.{merger_commands, merges_of, played_from, pieces_of}
use Rattle.script_model.specs.Commands.{updates}
use Rattle.script_model.specs.Lanes.{IsOfLanes}
use Rattle.record_model.specs.Right.{IsRecordRight}
use Rattle.record_model.specs.Statuses.{IsStated}
use Rattle.record_model.specs.Texts.{answers_text}
use Rattle.script_model.specs.Words.{NoFeed}
use Rattle.script_text.specs.Outcomes.{AreFetched}
use Rattle.script_text.specs.Gathering.{Gathering, IsLate, IsSynced, IsWhole, ReadsOn}
use Rattle.script_text.specs.Gathers.{Taken}
use Rattle.josie_top.specs.World.{HasMoved, World}

-- The record is that of these batches, played one after another in the stated order; at each turn of each batch, memory
-- sufficed or ran out.
pub record IsPlayedSoFar (rules : Rules) (options : Options) (batches : List Batch) (made : RunRecord) : Type 0 where
  pub denials : List (List Bool)
  pub size : length denials ≡ length batches
  pub played : made ≡ played_from rules options.lanes options.merge 1 batches (pieces_of options.order) denials (empty options)

-- The record has these options and is right for these batches, and the source is not at its end. If an order is stated,
-- the batches were played in it.
pub record IsMade (rules : Rules) (options : Options) (batches : List Batch) (made : RunRecord) : Type 0 where
  pub options_are : made.options ≡ options
  pub unended : made.ended ≡ false
  pub right : IsRecordRight rules options.lanes options.merge batches made
  pub played : IsStated options → IsPlayedSoFar rules options batches made
  pub lanes : AllByRecursion (IsOfLanes options.lanes) batches

-- The gatherer has the standard limits and the lanes of these options, and has not passed the limit on the input.
pub record IsGoingOn (options : Options) (gathering : Gathering) : Type 0 where
  pub limits_are : gathering.limits ≡ standard
  pub lanes_are : gathering.lanes ≡ options.lanes
  pub within : gathering.reading.used ≤ gathering.limits.input

-- The batches were read from what the source gave, and no line so far is at fault.
pub record AreRead (options : Options) (before now : World) (gathering : Gathering) (batches : List Batch) : Type 0 where
  pub given : List ℕ
  pub asked : List Text
  pub outcomes : List File
  pub gave : Consumes before.left now.left given
  pub fetched : AreFetched before.files before.fetch_faults now.fetch_faults asked outcomes
  pub lines_read : ReadsOn (grammar_of standard options.lanes) (start []) given outcomes batches gathering.reading gathering.held asked

-- The bytes that were read before the last read, which gave at most 65,536 bytes, have at most `most` whole batches,
-- and no line at fault.
pub record IsLateSoFar (options : Options) (given : List ℕ) (outcomes : List File) (most : ℕ) : Type 0 where
  pub first : List ℕ
  pub last : List ℕ
  pub came : List File
  pub later : List File
  pub asked : List Text
  pub batches : List Batch
  pub reading : Reading
  pub held : List ℕ
  pub given_is : given ≡ first ++ last
  pub few : length last ≤ 65536
  pub outcomes_are : outcomes ≡ came ++ later
  pub lines_read : ReadsOn (grammar_of standard options.lanes) (start []) first came batches reading held asked
  pub rest : NoFeed held
  pub fewer : length batches ≤ most

-- The answers of the record were written.
pub record AreWritten (options : Options) (before now : World) (made : RunRecord) : Type 0 where
  pub taken : List ℕ
  pub took : Appends before.written now.written taken
  pub text_is : taken ≡ answers_text options.trace made.answers

-- `number` batches were read, and the merger's next number is `next`: it has had one number for each load, drop and
-- replace in the batches. There are at most as many of these as bytes that the batches used.
pub record AreCounted (batches : List Batch) (used number next : ℕ) : Type 0 where
  pub number_is : length batches ≡ number
  pub next_is : next ≡ 1 + sum_by updates batches
  pub few : sum_by updates batches ≤ used

-- A run between two batches.
pub record IsUnderWay (rules : Rules) (options : Options) (before now : World) (gathering : Gathering) (made : RunRecord) (number next : ℕ) : Type 0 where
  pub batches : List Batch
  pub moved : HasMoved before now
  pub been : AreRead options before now gathering batches
  pub goes : IsGoingOn options gathering
  pub is_made : IsMade rules options batches made
  pub writ : AreWritten options before now made
  pub counted : AreCounted batches gathering.reading.used number next
  pub late : IsLateSoFar options been.given been.outcomes (length batches - 1)

-- The new answers follow those that were there.
pub record AddsAnswers (before now : RunRecord) : Type 0 where
  pub new : List Answered
  pub are : now.answers ≡ before.answers ++ new

-- Whatever batches the record was made of, `number` of them, it is now made of these and one more batch, if the numbers
-- of the merger's commands in it follow those in the earlier batches.
abbrev pub HasOneMore : Rules → ℕ → Option ℕ → Batch → RunRecord → RunRecord → Type 0
HasOneMore rules number merger batch before now = (batches : List Batch) → length batches ≡ number
    → merges_of merger batch ≡ merger_commands before.options.merge (1 + sum_by updates batches) batch
    → IsMade rules before.options batches before → IsMade rules before.options (batches ++ batch ∷ []) now

-- A batch was gathered: what the source gave for it, what was fetched, and where the gatherer is. Nothing was written.
pub record IsBegun (before now : World) (gathering_before gathering_now : Gathering) (batch : Batch) : Type 0 where
  pub moved : HasMoved before now
  pub unwritten : now.written ≡ before.written
  pub taken : Taken (Ok (Some batch)) before.left now.left before.files before.fetch_faults now.fetch_faults
  pub gathered : IsSynced gathering_before gathering_now taken.given taken.asked taken.outcomes batch ⊎ IsWhole gathering_before gathering_now now.left taken.given taken.asked taken.outcomes (batch ∷ [])
  pub late : (taken.given ≡ []) ⊎ IsLate gathering_before taken.given taken.outcomes
  pub limits_are : gathering_now.limits ≡ gathering_before.limits
  pub lanes_are : gathering_now.lanes ≡ gathering_before.lanes
  pub of_lanes : IsOfLanes gathering_before.lanes batch
  pub within : gathering_now.reading.used ≤ gathering_now.limits.input
  pub grows : gathering_before.reading.used + length batch ≤ gathering_now.reading.used

-- A run after a batch that was gathered and answered, but not written: the answers of the batch follow the first
-- `first` answers. `mid` is the world before the batch.
pub record IsAnswered (rules : Rules) (options : Options) (before now : World) (gathering : Gathering) (made : RunRecord) (first number next : ℕ) : Type 0 where
  pub mid : World
  pub gathering_before : Gathering
  pub record_before : RunRecord
  pub number_before : ℕ
  pub next_before : ℕ
  pub batch : Batch
  pub way : IsUnderWay rules options before mid gathering_before record_before number_before next_before
  pub begun : IsBegun mid now gathering_before gathering batch
  pub is_made : IsMade rules options (way.batches ++ batch ∷ []) made
  pub adds : AddsAnswers record_before made
  pub first_is : first ≡ length record_before.answers
  pub number_is : number ≡ number_before + 1
  pub next_is : next ≡ next_before + updates batch
