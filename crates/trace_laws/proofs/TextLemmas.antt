-- The lines of an answer give its hint.
use Rattle.std.proofs.Common.{◌≡◌, refl, ap, ◌∙◌, ℕ, zero, suc, ◌+◌, ◌≤◌, ◌<◌, ◌^◌, ◌-◌, List, [], ◌∷◌, ◌++◌, length, Bool, true, false, cond, arith}
use Rattle.std.specs.Fmt.{digits, digits_onto, digit_glyph}
use Rattle.std.specs.Prelude.{min, ◌*◌, ◌==◌, ◌&&◌, ◌%◌, ◌/◌, nat_lt, not, codes, decimal, get_or, ⊤}
use Rattle.std.specs.List.{AllByRecursion, onto_first}
use Rattle.std.proofs.lemmas.List.Sums.{fold_push}
use Rattle.std.proofs.lemmas.List.{append-nil}
use Rattle.std.proofs.lemmas.Bool.Decides.{nat_tests}
use Rattle.std.proofs.lemmas.Fmt.{decimal_by_steps}
use Rattle.script_model.specs.Words.{digits_value}
use Rattle.lake_model.specs.declared.Who.{Who}
use Rattle.lake_model.specs.declared.Which.{Which}
use Rattle.lake_model.specs.declared.Which.TheVariants as which
use Rattle.lake_model.specs.Texts.{Text}
use Rattle.lake_model.specs.Layout.{Shown}
use Rattle.record_model.specs.Record.{answered_with}
use Rattle.record_model.specs.Replies.{Reply, Loaded, Dropped, Replaced, Listed, Found, Past, Merged, Repeated, Unknown, NoColumn, Full, NothingToMerge, Later, Stale, NoHeader, TooManyColumns, Unequal, NotUtf8, TooManyValues, FileFailed, FileMissing, FileTooLong, QueryNotUtf8, QueryTooLarge, NoMemory}
use Rattle.record_model.specs.Answered.{Saw, Added, PlannedAndSaw, PlannedAndAdded}
use Rattle.record_model.specs.Texts.{spaced, reply_words, command_text, layout_line, parts_text, which_text, answer_lines}
use Rattle.trace_laws.specs.Hints.{Stands, hint_of}
use Rattle.trace_laws.specs.Reading.{read_number, cut, layout_at, hint_by, hint_read, is_clean, IsSmall, IsReadable}

-- ---- clean texts

clean_append : (a b : Text) → is_clean a ≡ true → is_clean b ≡ true → is_clean (a ++ b) ≡ true
clean_append [] b h k = k
clean_append (x ∷ a) b h k = by (not (x == 0x20) && not (x == 0x0A)) h (clean_append a b)
  where
    by : (t : Bool) → (t && is_clean a) ≡ true → (is_clean a ≡ true → is_clean b ≡ true → is_clean (a ++ b) ≡ true) → (t && is_clean (a ++ b)) ≡ true
    by true h rest = rest h k
    by false h rest = cc

clean_put : (x : ℕ) (w : Text) → is_clean (x ∷ []) ≡ true → is_clean w ≡ true → is_clean (x ∷ w) ≡ true
clean_put x w h k = clean_append (x ∷ []) w h k

clean_glyph : (d : ℕ) → is_clean (digit_glyph false d ∷ []) ≡ true
clean_glyph d = by (nat_lt d 10) (above 48 (omega arith)) (above 87 (omega arith))
  where
    above : (low : ℕ) → 48 ≤ low → is_clean ((low + d) ∷ []) ≡ true
    above low h =
        let a : (low + d == 0x20) ≡ false = grind (arith, nat_tests, h) in
        let b : (low + d == 0x0A) ≡ false = grind (arith, nat_tests, h) in
        ap (λ t. (not t && not (low + d == 0x0A)) && true) a ∙ ap (λ t. (true && not t) && true) b

    by : (b : Bool) → is_clean ((48 + d) ∷ []) ≡ true → is_clean ((87 + d) ∷ []) ≡ true → is_clean (cond b (48 + d) (87 + d) ∷ []) ≡ true
    by true h k = h
    by false h k = k

clean_onto : (k n : ℕ) (acc : Text) → is_clean acc ≡ true → is_clean (digits_onto k 10 false n acc) ≡ true
clean_onto zero n acc h = h
clean_onto (suc k) n acc h = by (n / 10 == 0) (clean_put (digit_glyph false (n % 10)) acc (clean_glyph (n % 10)) h) (clean_onto k (n / 10) (digit_glyph false (n % 10) ∷ acc) (clean_put (digit_glyph false (n % 10)) acc (clean_glyph (n % 10)) h))
  where
    by : (b : Bool) → is_clean (digit_glyph false (n % 10) ∷ acc) ≡ true → is_clean (digits_onto k 10 false (n / 10) (digit_glyph false (n % 10) ∷ acc)) ≡ true
        → is_clean (cond b (digit_glyph false (n % 10) ∷ acc) (digits_onto k 10 false (n / 10) (digit_glyph false (n % 10) ∷ acc))) ≡ true
    by true h k = h
    by false h k = k

some_onto : (k n : ℕ) (acc : Text) → 0 < length acc → 0 < length (digits_onto k 10 false n acc)
some_onto zero n acc h = h
some_onto (suc k) n acc h = by (n / 10 == 0) (some_onto k (n / 10) (digit_glyph false (n % 10) ∷ acc) (omega arith))
  where
    by : (b : Bool) → 0 < length (digits_onto k 10 false (n / 10) (digit_glyph false (n % 10) ∷ acc)) → 0 < length (cond b (digit_glyph false (n % 10) ∷ acc) (digits_onto k 10 false (n / 10) (digit_glyph false (n % 10) ∷ acc)))
    by true h = omega arith
    by false h = h

some_from : (k n : ℕ) → 0 < length (digits_onto (suc k) 10 false n [])
some_from k n = by (n / 10 == 0) (some_onto k (n / 10) (digit_glyph false (n % 10) ∷ []) (omega arith))
  where
    by : (b : Bool) → 0 < length (digits_onto k 10 false (n / 10) (digit_glyph false (n % 10) ∷ [])) → 0 < length (cond b (digit_glyph false (n % 10) ∷ []) (digits_onto k 10 false (n / 10) (digit_glyph false (n % 10) ∷ [])))
    by true h = omega arith
    by false h = h

-- a number in decimal is clean
pub clean_decimal : (n : ℕ) → is_clean (decimal n) ≡ true
unfolding digits
clean_decimal n = clean_onto 64 n [] refl

pub some_decimal : (n : ℕ) → 0 < length (decimal n)
unfolding digits
some_decimal n = some_from 63 n

decimal_value : (n : ℕ) → IsSmall n → digits_value (decimal n) ≡ n
decimal_value n h = decimal_by_steps (λ m ds. digits_value ds ≡ m) one more n h
  where
    one : (m : ℕ) → m < 10 → digits_value ((48 + m) ∷ []) ≡ m
    one m small = omega arith

    more : (m : ℕ) (ds : Text) → 10 ≤ m → digits_value ds ≡ m / 10 → digits_value (ds ++ (48 + m % 10) ∷ []) ≡ m
    more m ds le rest =
        let pushed : digits_value (ds ++ (48 + m % 10) ∷ []) ≡ digits_value ds * 10 + (48 + m % 10 - 48) = fold_push (λ n digit. n * 10 + (digit - 48)) 0 ds (48 + m % 10) in
        omega (arith, pushed, rest)

least : (n high : ℕ) → n ≤ high → min n high ≡ n
least n high h = omega (arith, h)

pub value_of : (n : ℕ) → IsSmall n → read_number (decimal n) ≡ n
value_of n h = ap (λ (m : ℕ). min m (2 ^ 64 - 1)) (decimal_value n h) ∙ least n (2 ^ 64 - 1) (omega (arith, h))

pub clean_command : (who : Who) → is_clean (command_text who) ≡ true
clean_command who = by (who.caller == 0)
  where
    by : (b : Bool) → is_clean (cond b (0x6D ∷ []) [] ++ decimal who.command) ≡ true
    by true = clean_decimal who.command
    by false = clean_decimal who.command

-- ---- words

clean_first : (x : ℕ) (w : Text) → is_clean (x ∷ w) ≡ true → (x == 0x20) ≡ false
clean_first x w h = by (x == 0x20) h
  where
    by : (b : Bool) → ((not b && not (x == 0x0A)) && is_clean w) ≡ true → b ≡ false
    by true h = cc
    by false h = refl

clean_rest : (x : ℕ) (w : Text) → is_clean (x ∷ w) ≡ true → is_clean w ≡ true
clean_rest x w h = by (not (x == 0x20) && not (x == 0x0A)) h
  where
    by : (b : Bool) → (b && is_clean w) ≡ true → is_clean w ≡ true
    by true h = h
    by false h = cc

pub cut_word : (w rest : Text) → is_clean w ≡ true → cut (w ++ 0x20 ∷ rest) ≡ w ∷ cut rest
cut_word [] rest h = refl
cut_word (x ∷ w) rest h =
    ap (λ (b : Bool). cond b ([] ∷ cut (w ++ 0x20 ∷ rest)) (onto_first x (cut (w ++ 0x20 ∷ rest)))) (clean_first x w h)
    ∙ ap (onto_first x) (cut_word w rest (clean_rest x w h))

pub cut_last : (w : Text) → is_clean w ≡ true → cut w ≡ w ∷ []
cut_last [] h = refl
cut_last (x ∷ w) h =
    ap (λ (b : Bool). cond b ([] ∷ cut w) (onto_first x (cut w))) (clean_first x w h)
    ∙ ap (onto_first x) (cut_last w (clean_rest x w h))

abbrev pub AreClean : List Text → Type 0
AreClean words = AllByRecursion (λ w. is_clean w ≡ true) words

-- words that are written with one space between them are read back
pub cut_spaced : (w : Text) (words : List Text) → AreClean (w ∷ words) → cut (spaced (w ∷ words)) ≡ w ∷ words
cut_spaced w [] h = ap cut (append-nil w) ∙ cut_last w h.0
cut_spaced w (v ∷ words) h = cut_word w (spaced (v ∷ words)) h.0 ∙ ap (λ (ws : List Text). w ∷ ws) (cut_spaced v words h.1)

-- ---- the words of each reply

abbrev at_flat : ℕ → List Text
at_flat at = codes "at" ∷ decimal at ∷ []

abbrev flat_words : Reply → List Text
flat_words (Loaded name columns members at) = codes "loaded" ∷ name ∷ codes "columns" ∷ decimal columns ∷ codes "members" ∷ decimal members ∷ at_flat at
flat_words (Dropped name at) = codes "dropped" ∷ name ∷ at_flat at
flat_words (Replaced name columns members at) = codes "replaced" ∷ name ∷ codes "columns" ∷ decimal columns ∷ codes "members" ∷ decimal members ∷ at_flat at
flat_words (Listed tables at) = codes "tables" ∷ decimal (length tables) ∷ at_flat at
flat_words (Found query rows reads probes layout) = codes "answer" ∷ decimal (length rows) ∷ codes "of" ∷ decimal query ∷ at_flat layout.at
flat_words (Past query rows asked at) = codes "answer" ∷ decimal (length rows) ∷ codes "of" ∷ decimal query ∷ codes "as" ∷ codes "of" ∷ decimal asked ∷ at_flat at
flat_words (Merged layout parts tables at) = codes "merged" ∷ decimal parts ∷ codes "parts" ∷ codes "into" ∷ decimal tables ∷ codes "tables" ∷ at_flat at
flat_words (Repeated name at) = codes "refused" ∷ codes "repeated" ∷ name ∷ at_flat at
flat_words (Unknown name at) = codes "refused" ∷ codes "unknown" ∷ name ∷ at_flat at
flat_words (NoColumn name place at) = codes "refused" ∷ codes "column" ∷ name ∷ decimal place ∷ at_flat at
flat_words (Full which count more at) = codes "refused" ∷ codes "full" ∷ which_text which ∷ decimal count ∷ codes "more" ∷ decimal more ∷ at_flat at
flat_words (NothingToMerge layout) = codes "refused" ∷ codes "nothing" ∷ codes "to" ∷ codes "merge" ∷ at_flat layout.at
flat_words (Later asked at) = codes "refused" ∷ codes "later" ∷ decimal asked ∷ at_flat at
flat_words (Stale layout gone at) = codes "refused" ∷ codes "stale" ∷ codes "part" ∷ decimal gone ∷ at_flat at
flat_words NoHeader = codes "refused" ∷ codes "csv" ∷ codes "no-header" ∷ []
flat_words (TooManyColumns got) = codes "refused" ∷ codes "csv" ∷ codes "columns" ∷ decimal got ∷ []
flat_words (Unequal row want got) = codes "refused" ∷ codes "csv" ∷ codes "record" ∷ decimal row ∷ codes "want" ∷ decimal want ∷ codes "got" ∷ decimal got ∷ []
flat_words (NotUtf8 row field) = codes "refused" ∷ codes "csv" ∷ codes "record" ∷ decimal row ∷ codes "field" ∷ decimal field ∷ codes "not" ∷ codes "UTF-8" ∷ []
flat_words (TooManyValues place) = codes "refused" ∷ codes "values" ∷ codes "column" ∷ decimal place ∷ []
flat_words FileFailed = codes "refused" ∷ codes "file" ∷ codes "failed" ∷ []
flat_words FileMissing = codes "refused" ∷ codes "file" ∷ codes "missing" ∷ []
flat_words FileTooLong = codes "refused" ∷ codes "file" ∷ codes "longer" ∷ []
flat_words (QueryNotUtf8 line) = codes "refused" ∷ codes "query" ∷ codes "line" ∷ decimal line ∷ codes "not" ∷ codes "UTF-8" ∷ []
flat_words QueryTooLarge = codes "refused" ∷ codes "query" ∷ codes "values" ∷ []
flat_words NoMemory = codes "no" ∷ codes "memory" ∷ []

flat_is : (w : Text) (reply : Reply) → spaced (w ∷ reply_words reply) ≡ spaced (w ∷ flat_words reply)
flat_is w (Loaded name columns members at) = refl
flat_is w (Dropped name at) = refl
flat_is w (Replaced name columns members at) = refl
flat_is w (Listed tables at) = refl
flat_is w (Found query rows reads probes layout) = refl
flat_is w (Past query rows asked at) = refl
flat_is w (Merged layout parts tables at) = refl
flat_is w (Repeated name at) = refl
flat_is w (Unknown name at) = refl
flat_is w (NoColumn name place at) = refl
flat_is w (Full which count more at) = refl
flat_is w (NothingToMerge layout) = refl
flat_is w (Later asked at) = refl
flat_is w (Stale layout gone at) = refl
flat_is w NoHeader = refl
flat_is w (TooManyColumns got) = refl
flat_is w (Unequal row want got) = refl
flat_is w (NotUtf8 row field) = refl
flat_is w (TooManyValues place) = refl
flat_is w FileFailed = refl
flat_is w FileMissing = refl
flat_is w FileTooLong = refl
flat_is w (QueryNotUtf8 line) = refl
flat_is w QueryTooLarge = refl
flat_is w NoMemory = refl

clean_which : (which : Which) → is_clean (which_text which) ≡ true
clean_which which.Live = refl
clean_which which.Updates = refl
clean_which which.Members = refl
clean_which which.KeyBytes = refl

at_clean : (at : ℕ) → AreClean (at_flat at)
at_clean at = (refl, (clean_decimal at, tt))

flat_clean : (reply : Reply) → IsReadable reply → AreClean (flat_words reply)
flat_clean (Loaded name columns members at) h = (refl, (h.0, (refl, (clean_decimal columns, (refl, (clean_decimal members, at_clean at))))))
flat_clean (Dropped name at) h = (refl, (h.0, at_clean at))
flat_clean (Replaced name columns members at) h = (refl, (h.0, (refl, (clean_decimal columns, (refl, (clean_decimal members, at_clean at))))))
flat_clean (Listed tables at) h = (refl, (clean_decimal (length tables), at_clean at))
flat_clean (Found query rows reads probes layout) h = (refl, (clean_decimal (length rows), (refl, (clean_decimal query, at_clean layout.at))))
flat_clean (Past query rows asked at) h = (refl, (clean_decimal (length rows), (refl, (clean_decimal query, (refl, (refl, (clean_decimal asked, at_clean at)))))))
flat_clean (Merged layout parts tables at) h = (refl, (clean_decimal parts, (refl, (refl, (clean_decimal tables, (refl, at_clean at))))))
flat_clean (Repeated name at) h = (refl, (refl, (h.0, at_clean at)))
flat_clean (Unknown name at) h = (refl, (refl, (h.0, at_clean at)))
flat_clean (NoColumn name place at) h = (refl, (refl, (h.0, (clean_decimal place, at_clean at))))
flat_clean (Full which count more at) h = (refl, (refl, (clean_which which, (clean_decimal count, (refl, (clean_decimal more, at_clean at))))))
flat_clean (NothingToMerge layout) h = (refl, (refl, (refl, (refl, at_clean layout.at))))
flat_clean (Later asked at) h = (refl, (refl, (clean_decimal asked, at_clean at)))
flat_clean (Stale layout gone at) h = (refl, (refl, (refl, (clean_decimal gone, at_clean at))))
flat_clean NoHeader h = (refl, (refl, (refl, tt)))
flat_clean (TooManyColumns got) h = (refl, (refl, (refl, (clean_decimal got, tt))))
flat_clean (Unequal row want got) h = (refl, (refl, (refl, (clean_decimal row, (refl, (clean_decimal want, (refl, (clean_decimal got, tt))))))))
flat_clean (NotUtf8 row field) h = (refl, (refl, (refl, (clean_decimal row, (refl, (clean_decimal field, (refl, (refl, tt))))))))
flat_clean (TooManyValues place) h = (refl, (refl, (refl, (clean_decimal place, tt))))
flat_clean FileFailed h = (refl, (refl, (refl, tt)))
flat_clean FileMissing h = (refl, (refl, (refl, tt)))
flat_clean FileTooLong h = (refl, (refl, (refl, tt)))
flat_clean (QueryNotUtf8 line) h = (refl, (refl, (refl, (clean_decimal line, (refl, (refl, tt))))))
flat_clean QueryTooLarge h = (refl, (refl, (refl, tt)))
flat_clean NoMemory h = (refl, (refl, tt))

-- ---- the layout's position

layout_told : (layout : Shown) → IsSmall layout.at → layout_at (cut (layout_line layout)) ≡ layout.at
layout_told layout h =
    ap (λ (words : List Text). read_number (get_or words 0 [])) (cut_word (decimal layout.at) (spaced (codes "parts" ∷ parts_text layout.parts)) (clean_decimal layout.at))
    ∙ value_of layout.at h

-- ---- the hint

-- the line after the first is that of the layout
abbrev IsNext : Reply → List Text → Type 0
IsNext (Merged layout parts tables at) next = layout_at next ≡ layout.at
IsNext (Stale layout gone at) next = layout_at next ≡ layout.at
IsNext reply next = ⊤

hint_told : (w : Text) (reply : Reply) (next : List Text) → IsReadable reply → IsNext reply next → hint_by (w ∷ flat_words reply) next ≡ hint_of reply
hint_told w (Loaded name columns members at) next h k = ap (λ (n : ℕ). Stands (Added n)) (value_of at h.1)
hint_told w (Dropped name at) next h k = ap (λ (n : ℕ). Stands (Added n)) (value_of at h.1)
hint_told w (Replaced name columns members at) next h k = ap (λ (n : ℕ). Stands (Added n)) (value_of at h.1)
hint_told w (Listed tables at) next h k = ap (λ (n : ℕ). Stands (Saw n)) (value_of at h)
hint_told w (Found query rows reads probes layout) next h k = ap (λ (n : ℕ). Stands (Saw n)) (value_of layout.at h)
hint_told w (Past query rows asked at) next h k = ap (λ (n : ℕ). Stands (Saw n)) (value_of at h)
hint_told w (Merged layout parts tables at) next h k = ap (λ (n : ℕ). Stands (PlannedAndAdded (layout_at next) n)) (value_of at h.1) ∙ ap (λ (n : ℕ). Stands (PlannedAndAdded n at)) k
hint_told w (Repeated name at) next h k = ap (λ (n : ℕ). Stands (Saw n)) (value_of at h.1)
hint_told w (Unknown name at) next h k = ap (λ (n : ℕ). Stands (Saw n)) (value_of at h.1)
hint_told w (NoColumn name place at) next h k = ap (λ (n : ℕ). Stands (Saw n)) (value_of at h.1)
hint_told w (Full which count more at) next h k = ap (λ (n : ℕ). Stands (Saw n)) (value_of at h)
hint_told w (NothingToMerge layout) next h k = ap (λ (n : ℕ). Stands (Saw n)) (value_of layout.at h)
hint_told w (Later asked at) next h k = ap (λ (n : ℕ). Stands (Saw n)) (value_of at h)
hint_told w (Stale layout gone at) next h k = ap (λ (n : ℕ). Stands (PlannedAndSaw (layout_at next) n)) (value_of at h.1) ∙ ap (λ (n : ℕ). Stands (PlannedAndSaw n at)) k
hint_told w NoHeader next h k = refl
hint_told w (TooManyColumns got) next h k = refl
hint_told w (Unequal row want got) next h k = refl
hint_told w (NotUtf8 row field) next h k = refl
hint_told w (TooManyValues place) next h k = refl
hint_told w FileFailed next h k = refl
hint_told w FileMissing next h k = refl
hint_told w FileTooLong next h k = refl
hint_told w (QueryNotUtf8 line) next h k = refl
hint_told w QueryTooLarge next h k = refl
hint_told w NoMemory next h k = refl

cut_first : (w : Text) (reply : Reply) → is_clean w ≡ true → IsReadable reply → cut (spaced (w ∷ reply_words reply)) ≡ w ∷ flat_words reply
cut_first w reply clean h = ap cut (flat_is w reply) ∙ cut_spaced w (flat_words reply) (clean, flat_clean reply h)

is_next : (w : Text) (who : Who) (reply : Reply) → IsReadable reply → IsNext reply (cut (get_or (answer_lines true (answered_with who reply)) 1 []))
is_next w who (Merged layout parts tables at) h = layout_told layout h.0
is_next w who (Stale layout gone at) h = layout_told layout h.0
is_next w who reply h = tt

-- The lines of an answer give its hint.
pub hint_of_lines : (who : Who) (reply : Reply) → IsReadable reply → hint_read (answer_lines true (answered_with who reply)) ≡ hint_of reply
hint_of_lines who reply h =
    let next : List Text = cut (get_or (answer_lines true (answered_with who reply)) 1 []) in
    ap (λ (words : List Text). hint_by words next) (cut_first (command_text who) reply (clean_command who) h)
    ∙ hint_told (command_text who) reply next h (is_next [] who reply h)
