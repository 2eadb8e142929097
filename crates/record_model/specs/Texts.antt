-- The text of a record: its replies, what a trace adds, and its journal.
use Rattle.std.specs.Prelude.{ℕ, ◌+◌, ◌/◌, ◌%◌, ◌==◌, Bool, ◌&&◌, ◌||◌, nat_lt, not, if◌then◌else◌, List, [], ◌∷◌, ◌++◌, length, map, drop, flat_map, codes, decimal}
use Rattle.std.specs.List.{join_by, enumerate_from}
use Rattle.lake_model.specs.declared.Which.{Which}
use Rattle.lake_model.specs.declared.Which.TheVariants as which
use Rattle.lake_model.specs.Texts.{Text}
use Rattle.lake_model.specs.Answer.{Row}
use Rattle.lake_model.specs.declared.Who.{Who}
use Rattle.lake_model.specs.Journal.{What, Entry}
use Rattle.lake_model.specs.Journal as journal
use Rattle.lake_model.specs.Layout.{Shown}
use Rattle.lake_model.specs.Tables.{Line}
use Rattle.script_model.specs.Words.{line_text}
use Rattle.record_model.specs.Replies.{Reply, Loaded, Dropped, Replaced, Listed, Found, Past, Merged, Repeated, Unknown, NoColumn, Full, NothingToMerge, Later, Stale, NoHeader, TooManyColumns, Unequal, NotUtf8, TooManyValues, FileFailed, FileMissing, FileTooLong, QueryNotUtf8, QueryTooLarge, NoMemory}
use Rattle.record_model.specs.Record.{Answered, RunRecord}

-- texts with one space between them
abbrev pub spaced : List Text → Text
spaced words = join_by (λ word. word) (0x20 ∷ []) words

-- numbers with commas between them, or `none`
abbrev pub listed : (ℕ → Text) → List ℕ → Text
listed text [] = codes "none"
listed text (n ∷ ns) = join_by text (0x2C ∷ []) (n ∷ ns)

-- ---- a column's name

abbrev pub hexadecimal : ℕ → ℕ
hexadecimal digit = if nat_lt digit 10 then 48 + digit else 87 + digit

abbrev pub escaped_byte : ℕ → Text
escaped_byte byte =
    if byte == 0x22 then codes "\\\""
    else if byte == 0x5C then codes "\\\\"
    else if byte == 0x0A then codes "\\n"
    else if byte == 0x0D then codes "\\r"
    else if byte == 0x09 then codes "\\t"
    else if nat_lt byte 0x20 || byte == 0x7F then codes "\\x" ++ hexadecimal (byte / 16) ∷ hexadecimal (byte % 16) ∷ []
    else byte ∷ []

abbrev pub quoted : Text → Text
quoted name = 0x22 ∷ flat_map escaped_byte name ++ 0x22 ∷ []

-- ---- layouts

abbrev pub position_text : ℕ × Bool → Text
position_text place = decimal place.0 ++ (if place.1 then 0x2D ∷ [] else [])

abbrev pub part_text : ℕ × List (ℕ × Bool) → Text
part_text part = decimal part.0 ++ 0x3A ∷ join_by position_text (0x2C ∷ []) part.1

abbrev pub parts_text : List (ℕ × List (ℕ × Bool)) → List Text
parts_text [] = codes "none" ∷ []
parts_text (part ∷ parts) = map part_text (part ∷ parts)

abbrev pub layout_line : Shown → Text
layout_line layout = codes "  layout at " ++ spaced (decimal layout.at ∷ codes "parts" ∷ parts_text layout.parts)

-- ---- replies

abbrev pub which_text : Which → Text
which_text which.Live = codes "tables"
which_text which.Updates = codes "updates"
which_text which.Members = codes "members"
which_text which.KeyBytes = codes "key-bytes"

abbrev pub refused : List Text → List Text
refused words = codes "refused" ∷ words

abbrev pub at_words : ℕ → List Text
at_words at = codes "at" ∷ decimal at ∷ []

-- the texts of a reply's first line after its number, separated by spaces
abbrev pub reply_words : Reply → List Text
reply_words (Loaded name columns members at) = codes "loaded" ∷ name ∷ codes "columns" ∷ decimal columns ∷ codes "members" ∷ decimal members ∷ at_words at
reply_words (Dropped name at) = codes "dropped" ∷ name ∷ at_words at
reply_words (Replaced name columns members at) = codes "replaced" ∷ name ∷ codes "columns" ∷ decimal columns ∷ codes "members" ∷ decimal members ∷ at_words at
reply_words (Listed tables at) = codes "tables" ∷ decimal (length tables) ∷ at_words at
reply_words (Found query rows reads probes layout) = codes "answer" ∷ decimal (length rows) ∷ codes "of" ∷ decimal query ∷ at_words layout.at
reply_words (Past query rows asked at) = codes "answer" ∷ decimal (length rows) ∷ codes "of" ∷ decimal query ∷ codes "as of" ∷ decimal asked ∷ at_words at
reply_words (Merged layout parts tables at) = codes "merged" ∷ decimal parts ∷ codes "parts" ∷ codes "into" ∷ decimal tables ∷ codes "tables" ∷ at_words at
reply_words (Repeated name at) = refused (codes "repeated" ∷ name ∷ at_words at)
reply_words (Unknown name at) = refused (codes "unknown" ∷ name ∷ at_words at)
reply_words (NoColumn name place at) = refused (codes "column" ∷ name ∷ decimal place ∷ at_words at)
reply_words (Full which count more at) = refused (codes "full" ∷ which_text which ∷ decimal count ∷ codes "more" ∷ decimal more ∷ at_words at)
reply_words (NothingToMerge layout) = refused (codes "nothing to merge" ∷ at_words layout.at)
reply_words (Later asked at) = refused (codes "later" ∷ decimal asked ∷ at_words at)
reply_words (Stale layout gone at) = refused (codes "stale part" ∷ decimal gone ∷ at_words at)
reply_words NoHeader = refused (codes "csv no-header" ∷ [])
reply_words (TooManyColumns got) = refused (codes "csv columns" ∷ decimal got ∷ [])
reply_words (Unequal row want got) = refused (codes "csv record" ∷ decimal row ∷ codes "want" ∷ decimal want ∷ codes "got" ∷ decimal got ∷ [])
reply_words (NotUtf8 row field) = refused (codes "csv record" ∷ decimal row ∷ codes "field" ∷ decimal field ∷ codes "not UTF-8" ∷ [])
reply_words (TooManyValues place) = refused (codes "values column" ∷ decimal place ∷ [])
reply_words FileFailed = refused (codes "file failed" ∷ [])
reply_words FileMissing = refused (codes "file missing" ∷ [])
reply_words FileTooLong = refused (codes "file longer" ∷ [])
reply_words (QueryNotUtf8 line) = refused (codes "query line" ∷ decimal line ∷ codes "not UTF-8" ∷ [])
reply_words QueryTooLarge = refused (codes "query values" ∷ [])
reply_words NoMemory = codes "no memory" ∷ []

abbrev pub table_line : Line → Text
table_line table = codes "  " ++ spaced (table.name ∷ codes "columns" ∷ decimal table.columns ∷ codes "members" ∷ decimal table.members ∷ [])

abbrev pub row_line : Row → Text
row_line row = codes "  " ++ spaced (decimal row.overlap ∷ row.table ∷ decimal row.place ∷ quoted row.column ∷ [])

-- the lines after the first
abbrev pub more_lines : Reply → List Text
more_lines (Listed tables at) = map table_line tables
more_lines (Found query rows reads probes layout) = map row_line rows
more_lines (Past query rows asked at) = map row_line rows
more_lines reply = []

abbrev pub work_line : ℕ → ℕ → Text
work_line reads probes = codes "  work reads " ++ spaced (decimal reads ∷ codes "probes" ∷ decimal probes ∷ [])

-- the lines that a trace adds after a reply
abbrev pub trace_lines : Reply → List Text
trace_lines (Found query rows reads probes layout) = work_line reads probes ∷ layout_line layout ∷ []
trace_lines (Merged layout parts tables at) = layout_line layout ∷ []
trace_lines (NothingToMerge layout) = layout_line layout ∷ []
trace_lines (Stale layout gone at) = layout_line layout ∷ []
trace_lines reply = []

-- the number of a command, after `m` if it is the merger's
abbrev pub command_text : Who → Text
command_text who = (if who.caller == 0 then 0x6D ∷ [] else []) ++ decimal who.command

abbrev pub answer_lines : Bool → Answered → List Text
answer_lines trace answer = spaced (command_text answer.who ∷ reply_words answer.reply) ∷ more_lines answer.reply ++ (if trace then trace_lines answer.reply else [])

-- the merger's replies are written only in a trace
abbrev pub written_lines : Bool → Answered → List Text
written_lines trace answer = if answer.who.caller == 0 && not trace then [] else answer_lines trace answer

-- ---- the journal

abbrev pub what_words : What → Text × List Text
what_words (journal.Loaded table) = (codes "load", table.name ∷ [])
what_words (journal.Dropped name) = (codes "drop", name ∷ [])
what_words (journal.Replaced table) = (codes "replace", table.name ∷ [])
what_words (journal.Swapped planned kept) = (codes "swap", codes "from" ∷ listed decimal planned ∷ codes "kept" ∷ listed decimal kept ∷ [])

abbrev pub entry_line : ℕ × Entry → Text
entry_line entry =
    let what = what_words entry.1.what in
    codes "  " ++ spaced (decimal entry.0 ∷ what.0 ∷ codes "lane" ∷ decimal entry.1.who.caller ∷ codes "command" ∷ command_text entry.1.who ∷ what.1)

abbrev pub journal_lines : List Entry → List Text
journal_lines entries = spaced (codes "journal" ∷ decimal (length entries) ∷ []) ∷ map entry_line (enumerate_from 1 entries)

-- ---- the whole text

abbrev pub answers_text : Bool → List Answered → Text
answers_text trace answers = flat_map line_text (flat_map (written_lines trace) answers)

abbrev pub journal_text : Bool → List Entry → Text
journal_text due entries = if due then flat_map line_text (journal_lines entries) else []

-- the text of the answers from the given one on, and of the journal if it is due
abbrev pub text_behind : Bool → ℕ → RunRecord → Text
text_behind trace first made = answers_text trace (drop first made.answers) ++ journal_text (trace && made.ended) made.journal

abbrev pub text : RunRecord → Text
text made = text_behind made.options.trace 0 made
