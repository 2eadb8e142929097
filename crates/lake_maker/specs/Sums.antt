-- The sums of a summary.
use Rattle.std.specs.Prelude.{◌+◌, List, [], ◌∷◌, codes, decimal, flat_map}
use Rattle.lake_model.specs.Texts.{Text}
use Rattle.option_model.specs.Generator.{answers_in, loads_in, members_in, merges_in, overlap_in, probes_in, reads_in, rows_in, summed}
use Rattle.record_model.specs.Record.{Answered}
use Rattle.record_model.specs.Replies.{Reply}
use Rattle.script_model.specs.Words.{line_text}
use Rattle.record_model.specs.Texts.{spaced}
use Rattle.lake_maker.specs.declared.sums.Sums.{Sums}

-- what a reply adds to each sum
abbrev pub sums_in : Reply → Sums
sums_in reply =
    record { tables = loads_in reply; members = members_in reply; merges = merges_in reply; answers = answers_in reply; rows = rows_in reply; overlap = overlap_in reply; reads = reads_in reply; probes = probes_in reply }

abbrev pub sums_of : List Answered → Sums
sums_of answers =
    record { tables = summed loads_in answers; members = summed members_in answers; merges = summed merges_in answers; answers = summed answers_in answers; rows = summed rows_in answers; overlap = summed overlap_in answers; reads = summed reads_in answers; probes = summed probes_in answers }

-- sums added one by one
abbrev pub added : Sums → Sums → Sums
added these those =
    record { tables = these.tables + those.tables; members = these.members + those.members; merges = these.merges + those.merges; answers = these.answers + those.answers; rows = these.rows + those.rows; overlap = these.overlap + those.overlap; reads = these.reads + those.reads; probes = these.probes + those.probes }

abbrev pub sums_lines : Sums → List Text
sums_lines sums =
    spaced (codes "tables" ∷ decimal sums.tables ∷ [])
    ∷ spaced (codes "members" ∷ decimal sums.members ∷ [])
    ∷ spaced (codes "merges" ∷ decimal sums.merges ∷ [])
    ∷ spaced (codes "answers" ∷ decimal sums.answers ∷ codes "rows" ∷ decimal sums.rows ∷ codes "overlap" ∷ decimal sums.overlap ∷ [])
    ∷ spaced (codes "reads" ∷ decimal sums.reads ∷ codes "probes" ∷ decimal sums.probes ∷ [])
    ∷ []

abbrev pub sums_text : Sums → Text
sums_text sums = flat_map line_text (sums_lines sums)
