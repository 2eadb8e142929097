-- The lines of a record's text, answer by answer.
use Rattle.std.proofs.Common.{◌≡◌, refl, ap, sym, ◌∙◌, ℕ, ◌+◌, ◌<◌, List, [], ◌∷◌, ◌++◌, append_assoc, map, flat_map, length, Bool, true, false, cond, arith}
use Rattle.std.specs.Prelude.{◌==◌, ◌&&◌, ◌||◌, ◌%◌, ◌/◌, nat_lt, not, codes, decimal}
use Rattle.std.specs.List.{AllByRecursion, list_all, join_by, enumerate_from}
use Rattle.std.proofs.lemmas.List.{append-nil}
use Rattle.std.proofs.lemmas.Grind.{flat_map-append}
use Rattle.std.proofs.lemmas.Bool.Decides.{nat_tests}
use Rattle.lake_model.specs.declared.Who.{Who}
use Rattle.lake_model.specs.declared.Which.{Which}
use Rattle.lake_model.specs.declared.Which.TheVariants as which
use Rattle.lake_model.specs.Texts.{Text, Lines, lines_of, lines_with}
use Rattle.lake_model.specs.Tables.{Line}
use Rattle.lake_model.specs.Answer.{Row}
use Rattle.lake_model.specs.Layout.{Shown}
use Rattle.lake_model.specs.Journal.{What, Entry}
use Rattle.lake_model.specs.Journal as journal
use Rattle.script_model.specs.Words.{NoFeed}
use Rattle.record_model.specs.Record.{Answered, RunRecord}
use Rattle.record_model.specs.Replies.{Reply, Loaded, Dropped, Replaced, Listed, Found, Past, Merged, Repeated, Unknown, NoColumn, Full, NothingToMerge, Later, Stale, NoHeader, TooManyColumns, Unequal, NotUtf8, TooManyValues, FileFailed, FileMissing, FileTooLong, QueryNotUtf8, QueryTooLarge, NoMemory}
use Rattle.record_model.specs.Texts.{spaced, listed, hexadecimal, escaped_byte, quoted, position_text, part_text, parts_text, layout_line, work_line, which_text, reply_words, table_line, row_line, more_lines, trace_lines, command_text, answer_lines, written_lines, what_words, entry_line, journal_lines, answers_text, journal_text, text}
use Rattle.script_model.specs.Words.{line_text}
use Rattle.script_model.proofs.LinesLemmas.{lines_whole}
use Rattle.list_laws.proofs.ListLemmas.{all_append, all_of, all_weaker}
use Rattle.trace_laws.specs.Reading.{is_clean, IsName, is_first, Groups, groups_with, onto_groups, grouped, groups_of, is_cut, is_nothing}
use Rattle.trace_laws.specs.Named.{IsReplyNamed, IsWhatNamed, IsRecordNamed}
use Rattle.trace_laws.proofs.TextLemmas.{clean_decimal, some_decimal, clean_command}

-- ---- texts without a line feed

abbrev pub is_whole : Text → Bool
is_whole line = list_all (λ byte. not (byte == 0x0A)) line

pub no_feed : (line : Text) → is_whole line ≡ true → NoFeed line
no_feed [] h = tt
no_feed (x ∷ line) h = (first (x == 0x0A) h, no_feed line (rest (not (x == 0x0A)) h))
  where
    first : (b : Bool) → (not b && is_whole line) ≡ true → b ≡ false
    first true h = cc
    first false h = refl

    rest : (b : Bool) → (b && is_whole line) ≡ true → is_whole line ≡ true
    rest true h = h
    rest false h = cc

whole_append : (a b : Text) → is_whole a ≡ true → is_whole b ≡ true → is_whole (a ++ b) ≡ true
whole_append [] b h k = k
whole_append (x ∷ a) b h k = by (not (x == 0x0A)) h (whole_append a b)
  where
    by : (t : Bool) → (t && is_whole a) ≡ true → (is_whole a ≡ true → is_whole b ≡ true → is_whole (a ++ b) ≡ true) → (t && is_whole (a ++ b)) ≡ true
    by true h rest = rest h k
    by false h rest = cc

clean_whole : (w : Text) → is_clean w ≡ true → is_whole w ≡ true
clean_whole [] h = refl
clean_whole (x ∷ w) h = by (not (x == 0x20)) (not (x == 0x0A)) h (clean_whole w)
  where
    by : (a b : Bool) → ((a && b) && is_clean w) ≡ true → (is_clean w ≡ true → is_whole w ≡ true) → (b && is_whole w) ≡ true
    by true true h rest = rest h
    by true false h rest = cc
    by false b h rest = cc

abbrev AreWhole : List Text → Type 0
AreWhole words = AllByRecursion (λ w. is_whole w ≡ true) words

whole_decimal : (n : ℕ) → is_whole (decimal n) ≡ true
whole_decimal n = clean_whole (decimal n) (clean_decimal n)

whole_joined : {X : Type 0} (f : X → Text) (sep : Text) (xs : List X) → is_whole sep ≡ true → AllByRecursion (λ x. is_whole (f x) ≡ true) xs → is_whole (flat_map (λ x. sep ++ f x) xs) ≡ true
whole_joined f sep [] h k = refl
whole_joined f sep (x ∷ xs) h k = whole_append (sep ++ f x) (flat_map (λ x. sep ++ f x) xs) (whole_append sep (f x) h k.0) (whole_joined f sep xs h k.1)

whole_spaced : (words : List Text) → AreWhole words → is_whole (spaced words) ≡ true
whole_spaced [] h = refl
whole_spaced (w ∷ words) h = whole_append w (flat_map (λ (y : Text). (0x20 ∷ []) ++ y) words) h.0 (whole_joined (λ (y : Text). y) (0x20 ∷ []) words refl h.1)

whole_listed : (ns : List ℕ) → is_whole (listed decimal ns) ≡ true
whole_listed [] = refl
whole_listed (n ∷ ns) = whole_append (decimal n) (flat_map (λ (m : ℕ). (0x2C ∷ []) ++ decimal m) ns) (whole_decimal n) (whole_joined decimal (0x2C ∷ []) ns refl (all_of (λ x. is_whole (decimal x) ≡ true) ns whole_decimal))

-- ---- a column's name

not_feed : (x : ℕ) → (x == 0x0A) ≡ false → is_whole (x ∷ []) ≡ true
not_feed x h = ap (λ (b : Bool). not b && true) h

whole_hexadecimal : (d : ℕ) → is_whole (hexadecimal d ∷ []) ≡ true
whole_hexadecimal d = by (nat_lt d 10)
  where
    by : (b : Bool) → is_whole (cond b (48 + d) (87 + d) ∷ []) ≡ true
    by true = not_feed (48 + d) (grind (arith, nat_tests))
    by false = not_feed (87 + d) (grind (arith, nat_tests))

whole_escaped : (byte : ℕ) → is_whole (escaped_byte byte) ≡ true
whole_escaped byte = by (byte == 0x22) (byte == 0x5C) (byte == 0x0A) refl (byte == 0x0D) (byte == 0x09) (nat_lt byte 0x20 || byte == 0x7F)
  where
    two : is_whole (hexadecimal (byte / 16) ∷ hexadecimal (byte % 16) ∷ []) ≡ true
    two = whole_append (hexadecimal (byte / 16) ∷ []) (hexadecimal (byte % 16) ∷ []) (whole_hexadecimal (byte / 16)) (whole_hexadecimal (byte % 16))

    by : (a b c : Bool) → (byte == 0x0A) ≡ c → (d e f : Bool)
        → is_whole (cond a (codes "\\\"") (cond b (codes "\\\\") (cond c (codes "\\n") (cond d (codes "\\r") (cond e (codes "\\t") (cond f (codes "\\x" ++ hexadecimal (byte / 16) ∷ hexadecimal (byte % 16) ∷ []) (byte ∷ []))))))) ≡ true
    by true b c is d e f = refl
    by false true c is d e f = refl
    by false false true is d e f = refl
    by false false false is true e f = refl
    by false false false is false true f = refl
    by false false false is false false true = two
    by false false false is false false false = not_feed byte is

whole_quoted : (name : Text) → is_whole (quoted name) ≡ true
whole_quoted name = whole_append (flat_map escaped_byte name) (0x22 ∷ []) (each name) refl
  where
    each : (name : Text) → is_whole (flat_map escaped_byte name) ≡ true
    each [] = refl
    each (x ∷ name) = whole_append (escaped_byte x) (flat_map escaped_byte name) (whole_escaped x) (each name)

-- ---- layouts

whole_position : (place : ℕ × Bool) → is_whole (position_text place) ≡ true
whole_position place = whole_append (decimal place.0) (cond place.1 (0x2D ∷ []) []) (whole_decimal place.0) (by place.1)
  where
    by : (b : Bool) → is_whole (cond b (0x2D ∷ []) []) ≡ true
    by true = refl
    by false = refl

whole_part : (part : ℕ × List (ℕ × Bool)) → is_whole (part_text part) ≡ true
whole_part part = whole_append (decimal part.0) (0x3A ∷ join_by position_text (0x2C ∷ []) part.1) (whole_decimal part.0) (places part.1)
  where
    places : (ps : List (ℕ × Bool)) → is_whole (join_by position_text (0x2C ∷ []) ps) ≡ true
    places [] = refl
    places (p ∷ ps) = whole_append (position_text p) (flat_map (λ (q : ℕ × Bool). (0x2C ∷ []) ++ position_text q) ps) (whole_position p) (whole_joined position_text (0x2C ∷ []) ps refl (all_of (λ x. is_whole (position_text x) ≡ true) ps whole_position))

whole_parts : (parts : List (ℕ × List (ℕ × Bool))) → AreWhole (parts_text parts)
whole_parts [] = (refl, tt)
whole_parts (part ∷ parts) = (whole_part part, each parts)
  where
    each : (parts : List (ℕ × List (ℕ × Bool))) → AreWhole (map part_text parts)
    each [] = tt
    each (part ∷ parts) = (whole_part part, each parts)

whole_layout : (layout : Shown) → is_whole (layout_line layout) ≡ true
whole_layout layout = whole_spaced (decimal layout.at ∷ codes "parts" ∷ parts_text layout.parts) (whole_decimal layout.at, (refl, whole_parts layout.parts))

-- ---- answers

whole_which : (w : Which) → is_whole (which_text w) ≡ true
whole_which which.Live = refl
whole_which which.Updates = refl
whole_which which.Members = refl
whole_which which.KeyBytes = refl

whole_at : (at : ℕ) → AreWhole (codes "at" ∷ decimal at ∷ [])
whole_at at = (refl, (whole_decimal at, tt))

whole_words : (reply : Reply) → IsReplyNamed reply → AreWhole (reply_words reply)
whole_words (Loaded name columns members at) h = (refl, (clean_whole name h, (refl, (whole_decimal columns, (refl, (whole_decimal members, whole_at at))))))
whole_words (Dropped name at) h = (refl, (clean_whole name h, whole_at at))
whole_words (Replaced name columns members at) h = (refl, (clean_whole name h, (refl, (whole_decimal columns, (refl, (whole_decimal members, whole_at at))))))
whole_words (Listed tables at) h = (refl, (whole_decimal (length tables), whole_at at))
whole_words (Found query rows reads probes layout) h = (refl, (whole_decimal (length rows), (refl, (whole_decimal query, whole_at layout.at))))
whole_words (Past query rows asked at) h = (refl, (whole_decimal (length rows), (refl, (whole_decimal query, (refl, (whole_decimal asked, whole_at at))))))
whole_words (Merged layout parts tables at) h = (refl, (whole_decimal parts, (refl, (refl, (whole_decimal tables, (refl, whole_at at))))))
whole_words (Repeated name at) h = (refl, (refl, (clean_whole name h, whole_at at)))
whole_words (Unknown name at) h = (refl, (refl, (clean_whole name h, whole_at at)))
whole_words (NoColumn name place at) h = (refl, (refl, (clean_whole name h, (whole_decimal place, whole_at at))))
whole_words (Full which count more at) h = (refl, (refl, (whole_which which, (whole_decimal count, (refl, (whole_decimal more, whole_at at))))))
whole_words (NothingToMerge layout) h = (refl, (refl, whole_at layout.at))
whole_words (Later asked at) h = (refl, (refl, (whole_decimal asked, whole_at at)))
whole_words (Stale layout gone at) h = (refl, (refl, (whole_decimal gone, whole_at at)))
whole_words NoHeader h = (refl, (refl, tt))
whole_words (TooManyColumns got) h = (refl, (refl, (whole_decimal got, tt)))
whole_words (Unequal row want got) h = (refl, (refl, (whole_decimal row, (refl, (whole_decimal want, (refl, (whole_decimal got, tt)))))))
whole_words (NotUtf8 row field) h = (refl, (refl, (whole_decimal row, (refl, (whole_decimal field, (refl, tt))))))
whole_words (TooManyValues place) h = (refl, (refl, (whole_decimal place, tt)))
whole_words FileFailed h = (refl, (refl, tt))
whole_words FileMissing h = (refl, (refl, tt))
whole_words FileTooLong h = (refl, (refl, tt))
whole_words (QueryNotUtf8 line) h = (refl, (refl, (whole_decimal line, (refl, tt))))
whole_words QueryTooLarge h = (refl, (refl, tt))
whole_words NoMemory h = (refl, tt)

-- lines after a first one
abbrev AreMore : List Text → Type 0
AreMore lines = AllByRecursion (λ l. (is_whole l ≡ true) × (is_first l ≡ false)) lines

tables_more : (tables : List Line) → AllByRecursion (λ (t : Line). IsName t.name) tables → AreMore (map table_line tables)
tables_more [] h = tt
tables_more (t ∷ tables) h =
    ((whole_spaced (t.name ∷ codes "columns" ∷ decimal t.columns ∷ codes "members" ∷ decimal t.members ∷ []) (clean_whole t.name h.0, (refl, (whole_decimal t.columns, (refl, (whole_decimal t.members, tt))))), refl), tables_more tables h.1)

rows_more : (rows : List Row) → AllByRecursion (λ (r : Row). IsName r.table) rows → AreMore (map row_line rows)
rows_more [] h = tt
rows_more (r ∷ rows) h =
    ((whole_spaced (decimal r.overlap ∷ r.table ∷ decimal r.place ∷ quoted r.column ∷ []) (whole_decimal r.overlap, (clean_whole r.table h.0, (whole_decimal r.place, (whole_quoted r.column, tt)))), refl), rows_more rows h.1)

layout_more : (layout : Shown) → AreMore (layout_line layout ∷ [])
layout_more layout = ((whole_layout layout, refl), tt)

work_more : (reads probes : ℕ) → (is_whole (work_line reads probes) ≡ true) × (is_first (work_line reads probes) ≡ false)
work_more reads probes = (whole_spaced (decimal reads ∷ codes "probes" ∷ decimal probes ∷ []) (whole_decimal reads, (refl, (whole_decimal probes, tt))), refl)

reply_more : (reply : Reply) → IsReplyNamed reply → AreMore (more_lines reply ++ trace_lines reply)
reply_more (Listed tables at) h = all_append (λ (l : Text). (is_whole l ≡ true) × (is_first l ≡ false)) (map table_line tables) [] (tables_more tables h) tt
reply_more (Found query rows reads probes layout) h = all_append (λ (l : Text). (is_whole l ≡ true) × (is_first l ≡ false)) (map row_line rows) (work_line reads probes ∷ layout_line layout ∷ []) (rows_more rows h) (work_more reads probes, layout_more layout)
reply_more (Past query rows asked at) h = all_append (λ (l : Text). (is_whole l ≡ true) × (is_first l ≡ false)) (map row_line rows) [] (rows_more rows h) tt
reply_more (Merged layout parts tables at) h = layout_more layout
reply_more (NothingToMerge layout) h = layout_more layout
reply_more (Stale layout gone at) h = layout_more layout
reply_more reply h = tt

-- a first line begins with the number of a command
number_first : (w rest : Text) → is_clean w ≡ true → 0 < length w → is_first (w ++ rest) ≡ true
number_first [] rest h some = absurd (omega (arith, some))
number_first (x ∷ w) rest h some = by (x == 0x20) h
  where
    by : (b : Bool) → ((not b && not (x == 0x0A)) && is_clean w) ≡ true → not b ≡ true
    by true h = cc
    by false h = refl

some_command : (who : Who) → 0 < length (command_text who)
some_command who = by (who.caller == 0)
  where
    by : (b : Bool) → 0 < length (cond b (0x6D ∷ []) [] ++ decimal who.command)
    by true = omega arith
    by false = some_decimal who.command

-- ---- groups

more_grouped : (more lines : List Text) → AreMore more → grouped (more ++ lines) ≡ groups_with (more ++ (grouped lines).opening) (grouped lines).groups
more_grouped [] lines h = refl
more_grouped (l ∷ more) lines h =
    ap (λ (g : Groups). onto_groups l g) (more_grouped more lines h.1)
    ∙ ap (λ (b : Bool). cond b (groups_with [] ((l ∷ (more ++ (grouped lines).opening)) ∷ (grouped lines).groups)) (groups_with (l ∷ (more ++ (grouped lines).opening)) (grouped lines).groups)) h.0.1

group_first : (first : Text) (more lines : List Text) → is_first first ≡ true → AreMore more → (grouped lines).opening ≡ []
    → grouped (first ∷ (more ++ lines)) ≡ groups_with [] ((first ∷ more) ∷ (grouped lines).groups)
group_first first more lines h k none =
    ap (λ (g : Groups). onto_groups first g) (more_grouped more lines k)
    ∙ ap (λ (b : Bool). cond b (groups_with [] ((first ∷ (more ++ (grouped lines).opening)) ∷ (grouped lines).groups)) (groups_with (first ∷ (more ++ (grouped lines).opening)) (grouped lines).groups)) h
    ∙ ap (λ (rest : List Text). groups_with [] ((first ∷ rest) ∷ (grouped lines).groups)) (ap (λ (os : List Text). more ++ os) none ∙ append-nil more)

answers_grouped : (answers : List Answered) (lines : List Text) → AllByRecursion (λ (a : Answered). IsReplyNamed a.reply) answers → (grouped lines).opening ≡ []
    → grouped (flat_map (answer_lines true) answers ++ lines) ≡ groups_with [] (map (answer_lines true) answers ++ (grouped lines).groups)
answers_grouped [] lines named none = ap (λ (os : List Text). groups_with os (grouped lines).groups) none
answers_grouped (a ∷ answers) lines named none =
    let first : Text = spaced (command_text a.who ∷ reply_words a.reply) in
    let more : List Text = more_lines a.reply ++ trace_lines a.reply in
    let rest : List Text = flat_map (answer_lines true) answers ++ lines in
    let later : grouped rest ≡ groups_with [] (map (answer_lines true) answers ++ (grouped lines).groups) = answers_grouped answers lines named.1 none in
    ap (λ (ls : List Text). grouped (first ∷ ls)) (append_assoc more (flat_map (answer_lines true) answers) lines)
    ∙ group_first first more rest (number_first (command_text a.who) (flat_map (λ (y : Text). (0x20 ∷ []) ++ y) (reply_words a.reply)) (clean_command a.who) (some_command a.who))
    (reply_more a.reply named.0) (ap (λ (g : Groups). g.opening) later)
    ∙ ap (λ (g : Groups). groups_with [] ((first ∷ more) ∷ g.groups)) later

-- ---- the journal's lines

what_whole : (what : What) → IsWhatNamed what → AreWhole (what_words what).1
what_whole (journal.Loaded table) h = (clean_whole table.name h, tt)
what_whole (journal.Dropped name) h = (clean_whole name h, tt)
what_whole (journal.Replaced table) h = (clean_whole table.name h, tt)
what_whole (journal.Swapped planned kept) h = (refl, (whole_listed planned, (refl, (whole_listed kept, tt))))

kind_whole : (what : What) → is_whole (what_words what).0 ≡ true
kind_whole (journal.Loaded table) = refl
kind_whole (journal.Dropped name) = refl
kind_whole (journal.Replaced table) = refl
kind_whole (journal.Swapped planned kept) = refl

entries_more : (n : ℕ) (entries : List Entry) → AllByRecursion (λ (e : Entry). IsWhatNamed e.what) entries → AreMore (map entry_line (enumerate_from n entries))
entries_more n [] h = tt
entries_more n (e ∷ entries) h = (
  (
    whole_spaced (decimal n ∷ (what_words e.what).0 ∷ codes "lane" ∷ decimal e.who.caller ∷ codes "command" ∷ command_text e.who ∷ (what_words e.what).1)
        (whole_decimal n, (kind_whole e.what, (refl, (whole_decimal e.who.caller, (refl, (clean_whole (command_text e.who) (clean_command e.who), what_whole e.what h.0)))))),
    refl,
  ),
  entries_more (n + 1) entries h.1,
)

journal_grouped : (entries : List Entry) → AllByRecursion (λ (e : Entry). IsWhatNamed e.what) entries → grouped (journal_lines entries) ≡ groups_with [] (journal_lines entries ∷ [])
journal_grouped entries h =
    let more : List Text = map entry_line (enumerate_from 1 entries) in
    ap (λ (ls : List Text). grouped (spaced (codes "journal" ∷ decimal (length entries) ∷ []) ∷ ls)) (sym (append-nil more))
    ∙ group_first (spaced (codes "journal" ∷ decimal (length entries) ∷ [])) more [] refl (entries_more 1 entries h) refl

-- ---- the whole text

more_whole : (lines : List Text) → AreMore lines → AllByRecursion NoFeed lines
more_whole lines h = all_weaker (λ (l : Text). (is_whole l ≡ true) × (is_first l ≡ false)) NoFeed lines (λ l k. no_feed l k.0) h

answer_whole : (a : Answered) → IsReplyNamed a.reply → AllByRecursion NoFeed (answer_lines true a)
answer_whole a named = (
  no_feed (spaced (command_text a.who ∷ reply_words a.reply)) (whole_spaced (command_text a.who ∷ reply_words a.reply) (clean_whole (command_text a.who) (clean_command a.who), whole_words a.reply named)),
  more_whole (more_lines a.reply ++ trace_lines a.reply) (reply_more a.reply named),
)

answers_whole : (answers : List Answered) → AllByRecursion (λ (a : Answered). IsReplyNamed a.reply) answers → AllByRecursion NoFeed (flat_map (answer_lines true) answers)
answers_whole [] h = tt
answers_whole (a ∷ answers) h = all_append NoFeed (answer_lines true a) (flat_map (answer_lines true) answers) (answer_whole a h.0) (answers_whole answers h.1)

journal_whole : (entries : List Entry) → AllByRecursion (λ (e : Entry). IsWhatNamed e.what) entries → AllByRecursion NoFeed (journal_lines entries)
journal_whole entries h = (
  no_feed (spaced (codes "journal" ∷ decimal (length entries) ∷ [])) (whole_spaced (codes "journal" ∷ decimal (length entries) ∷ []) (refl, (whole_decimal (length entries), tt))),
  more_whole (map entry_line (enumerate_from 1 entries)) (entries_more 1 entries h),
)

written_all : (answers : List Answered) → flat_map (written_lines true) answers ≡ flat_map (answer_lines true) answers
written_all [] = refl
written_all (a ∷ answers) = ap (λ (ls : List Text). written_lines true a ++ ls) (written_all answers) ∙ ap (λ (ls : List Text). ls ++ flat_map (answer_lines true) answers) (by (a.who.caller == 0))
  where
    by : (b : Bool) → cond (b && false) [] (answer_lines true a) ≡ answer_lines true a
    by true = refl
    by false = refl

unfoldable pub all_lines_of : RunRecord → List Text
all_lines_of made = flat_map (answer_lines true) made.answers ++ journal_lines made.journal

pub text_lines : (made : RunRecord) → made.options.trace ≡ true → made.ended ≡ true → text made ≡ flat_map line_text (all_lines_of made)
unfolding all_lines_of
text_lines made traced ended =
    ap (λ (b : Bool). answers_text b made.answers ++ journal_text (b && made.ended) made.journal) traced
    ∙ ap (λ (b : Bool). answers_text true made.answers ++ journal_text b made.journal) ended
    ∙ ap (λ (ls : List Text). flat_map line_text ls ++ flat_map line_text (journal_lines made.journal)) (written_all made.answers)
    ∙ sym (flat_map-append line_text (flat_map (answer_lines true) made.answers) (journal_lines made.journal))

-- The lines of the text of an ended record with a trace, grouped, are those of its answers and those of its journal.
pub text_grouped : (made : RunRecord) → made.options.trace ≡ true → made.ended ≡ true → IsRecordNamed made → groups_of (text made) ≡ map (answer_lines true) made.answers ++ journal_lines made.journal ∷ []
unfolding all_lines_of lines_of
text_grouped made traced ended named =
    let lines : List Text = all_lines_of made in
    let whole : AllByRecursion NoFeed lines = all_append NoFeed (flat_map (answer_lines true) made.answers) (journal_lines made.journal) (answers_whole made.answers named.replies) (journal_whole made.journal named.entries) in
    let read : (lines_of (flat_map line_text lines ++ [])).ended ≡ lines ++ [] = ap (λ (l : Lines). l.ended) (lines_whole lines [] whole) in
    let cut : (lines_of (text made)).ended ≡ lines = ap (λ (t : Text). (lines_of t).ended) (text_lines made traced ended ∙ sym (append-nil (flat_map line_text lines))) ∙ read ∙ append-nil lines in
    let last : grouped (journal_lines made.journal) ≡ groups_with [] (journal_lines made.journal ∷ []) = journal_grouped made.journal named.entries in
    ap (λ (ls : List Text). (grouped ls).groups) cut
    ∙ ap (λ (g : Groups). g.groups) (answers_grouped made.answers (journal_lines made.journal) named.replies (ap (λ (g : Groups). g.opening) last))
    ∙ ap (λ (g : Groups). map (answer_lines true) made.answers ++ g.groups) last

-- It has no line before its first answer, and no byte after its last line feed.
pub text_cut : (made : RunRecord) → made.options.trace ≡ true → made.ended ≡ true → IsRecordNamed made → is_cut (text made) ≡ true
unfolding all_lines_of lines_of
text_cut made traced ended named =
    let lines : List Text = all_lines_of made in
    let whole : AllByRecursion NoFeed lines = all_append NoFeed (flat_map (answer_lines true) made.answers) (journal_lines made.journal) (answers_whole made.answers named.replies) (journal_whole made.journal named.entries) in
    let all : lines_of (flat_map line_text lines ++ []) ≡ lines_with lines [] = lines_whole lines [] whole ∙ ap (λ (ls : List Text). lines_with ls []) (append-nil lines) in
    let read : lines_of (text made) ≡ lines_with lines [] = ap lines_of (text_lines made traced ended ∙ sym (append-nil (flat_map line_text lines))) ∙ all in
    let last : grouped (journal_lines made.journal) ≡ groups_with [] (journal_lines made.journal ∷ []) = journal_grouped made.journal named.entries in
    ap (λ (l : Lines). is_nothing l.rest && is_nothing (grouped l.ended).opening) read
    ∙ ap (λ (g : Groups). is_nothing g.opening) (answers_grouped made.answers (journal_lines made.journal) named.replies (ap (λ (g : Groups). g.opening) last))
