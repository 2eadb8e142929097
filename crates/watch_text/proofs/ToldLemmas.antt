-- The lines for a query, and for entries, one after another.
use Rattle.std.proofs.Common.{◌≡◌, refl, ap, sym, ◌∙◌, ℕ, zero, suc, ◌+◌, ◌<◌, ◌≤◌, arith, List, [], ◌∷◌, ◌++◌, Bool, true, false, cond, append_assoc, flat_map, map, length, get_or, take}
use Rattle.std.specs.List.{enumerate_from}
use Rattle.std.proofs.lemmas.List.{append-nil, take_more}
use Rattle.list_laws.proofs.ListLemmas.{split_bool}
use Rattle.lake_model.specs.Texts.{Text}
use Rattle.lake_model.specs.Answer.{Row}
use Rattle.lake_model.specs.Journal.{Entry}
use Rattle.script_model.specs.Words.{line_text}
use Rattle.record_model.specs.Watched.{change_lines, same_rows, told_lines, watch_text_behind, watched_rows}
use Rattle.record_model.proofs.WatchLemmas.{equal_rows_same, same_rows_equal, watch_text_on, watch_text_one}
use Rattle.column_watch.specs.Watching.{Tells, WatchOf, WatchesOf, watch_with, watches_with}
use Rattle.watch_text.specs.Told.{HasTaken, told_from, told_of}

-- ---- a query

abbrev told_by : Bool → ℕ → ℕ → List Row → List Text
told_by same at number rows = cond same [] (change_lines at number rows)

pub told_changed : (changed : Bool) (at number : ℕ) (before rows : List Row) → changed ≡ true → Tells changed before rows
    → told_lines at number before rows ≡ change_lines at number rows
told_changed true at number before rows is differ =
    split_bool _ (same_rows before rows) (λ same. absurd (differ (same_rows_equal before rows same))) (λ other. ap (λ (b : Bool). told_by b at number rows) other)
told_changed false at number before rows is equal = absurd (let f : false ≡ true = is in cc)

pub told_unchanged : (changed : Bool) (at number : ℕ) (before rows : List Row) → changed ≡ false → Tells changed before rows
    → told_lines at number before rows ≡ []
told_unchanged true at number before rows is differ = absurd (let f : true ≡ false = is in cc)
told_unchanged false at number before rows is equal = ap (λ (b : Bool). told_by b at number rows) (equal_rows_same before rows equal)

-- ---- entries, one after another

told_as_lines : (k n : ℕ) (queries : List (List Text)) (before journal : List Entry)
    → told_from before journal n (map (λ keys. watch_with keys k) queries)
    ≡ flat_map (λ query. told_lines (length journal) query.0 (watched_rows k before query.1) (watched_rows k journal query.1)) (enumerate_from n queries)
told_as_lines k n [] before journal = refl
told_as_lines k n (keys ∷ queries) before journal =
    ap (λ (rest : List Text). told_of before journal (n, watch_with keys k) ++ rest) (told_as_lines k (n + 1) queries before journal)

abbrev text_from : List Entry → List Entry → ℕ → List WatchOf → Text
text_from before journal n queries = flat_map line_text (told_from before journal n queries)

one_entry : (k : ℕ) (queries : List (List Text)) (watched : List WatchOf) (journal : List Entry) (entry : Entry) → watched ≡ map (λ keys. watch_with keys k) queries
    → flat_map line_text (told_from journal (journal ++ entry ∷ []) 1 watched) ≡ watch_text_behind k queries journal (entry ∷ [])
one_entry k queries watched journal entry same =
    let now = journal ++ entry ∷ [] in
    ap (text_from journal now 1) same ∙ ap (flat_map line_text) (told_as_lines k 1 queries journal now) ∙ sym (watch_text_one k queries journal entry)

-- what was taken, and what the text is, after one more entry
pub taken_more : (journal entries : List Entry) (queries : List WatchOf) (before after : WatchesOf) (i : ℕ) (entry : Entry) → i < length entries → entry ≡ get_or entries i entry
    → before ≡ watches_with (journal ++ take i entries) queries
    → after ≡ watches_with (before.journal ++ entry ∷ []) before.queries
    → after ≡ watches_with (journal ++ take (i + 1) entries) queries
taken_more journal entries queries before after i entry within same earlier taken =
    let item : take (i + 1) entries ≡ take i entries ++ entry ∷ [] = take_more entries i entry within ∙ ap (λ (e : Entry). take i entries ++ e ∷ []) (sym same) in
    taken ∙ ap (λ (w : WatchesOf). watches_with (w.journal ++ entry ∷ []) w.queries) earlier
    ∙ ap (λ (es : List Entry). watches_with es queries) (append_assoc journal (take i entries) (entry ∷ []) ∙ ap (λ (es : List Entry). journal ++ es) (sym item))

pub text_more : (k : ℕ) (queries : List (List Text)) (journal entries : List Entry) (watched : List WatchOf) (before : WatchesOf) (i : ℕ) (entry : Entry) (start text after : Text)
    → i < length entries → entry ≡ get_or entries i entry
    → watched ≡ map (λ keys. watch_with keys k) queries
    → before ≡ watches_with (journal ++ take i entries) watched
    → text ≡ start ++ watch_text_behind k queries journal (take i entries)
    → after ≡ text ++ flat_map line_text (told_from before.journal (before.journal ++ entry ∷ []) 1 before.queries)
    → after ≡ start ++ watch_text_behind k queries journal (take (i + 1) entries)
text_more k queries journal entries watched before i entry start text after within same listed earlier so_far added =
    let item : take (i + 1) entries ≡ take i entries ++ entry ∷ [] = take_more entries i entry within ∙ ap (λ (e : Entry). take i entries ++ e ∷ []) (sym same) in
    let taken = journal ++ take i entries in
    let old = watch_text_behind k queries journal (take i entries) in
    let new = watch_text_behind k queries taken (entry ∷ []) in
    let told : flat_map line_text (told_from before.journal (before.journal ++ entry ∷ []) 1 before.queries) ≡ new =
    ap (λ (w : WatchesOf). flat_map line_text (told_from w.journal (w.journal ++ entry ∷ []) 1 w.queries)) earlier ∙ one_entry k queries watched taken entry listed in
    added ∙ ap (λ (t : Text). text ++ t) told ∙ ap (λ (t : Text). t ++ new) so_far ∙ append_assoc start old new
    ∙ ap (λ (t : Text). start ++ t) (sym (watch_text_on k queries journal (take i entries) (entry ∷ [])) ∙ ap (watch_text_behind k queries journal) (sym item))

-- ---- what was taken when memory ran out

-- of an entry after the first i
pub begun_more : (start before after : WatchesOf) (entries : List Entry) (i : ℕ) (entry : Entry) → i < length entries → entry ≡ get_or entries i entry
    → before ≡ watches_with (start.journal ++ take i entries) start.queries → HasTaken before after (entry ∷ []) → HasTaken start after entries
begun_more start before after entries i entry within same earlier begun = by begun.count begun.few begun.taken
  where
    by : (n : ℕ) → n ≤ 1 → after ≡ watches_with (before.journal ++ take n (entry ∷ [])) before.queries → HasTaken start after entries
    by zero few taken = record {
      count = i;
      few = omega (arith, within);
      taken = taken ∙ ap (λ (w : WatchesOf). watches_with (w.journal ++ []) w.queries) earlier
          ∙ ap (λ (es : List Entry). watches_with es start.queries) (append-nil (start.journal ++ take i entries));
    }
    by (suc zero) few taken = record {
      count = i + 1;
      few = omega (arith, within);
      taken = taken_more start.journal entries start.queries before after i entry within same earlier taken;
    }
    by (suc (suc n)) few taken = absurd (omega (arith, few))
