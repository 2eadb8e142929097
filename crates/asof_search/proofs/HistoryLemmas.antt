-- The tables that were live after any number of entries, once one more entry is taken.
use Rattle.std.proofs.Common.{◌≡◌, refl, ap, sym, ◌∙◌, subst, ℕ, zero, suc, ◌+◌, ◌<◌, ◌≤◌, List, [], ◌∷◌, ◌++◌, Bool, true, false, not, ◌&&◌, length, arith, cond, take, map, append-nil, below_more, Option, Some, None}
use Rattle.std.specs.Prelude.{is_none, nat_le}
use Rattle.std.specs.List.{AllByRecursion, filter}
use Rattle.std.proofs.lemmas.Bool.{le-leb, lt-leb, not-true}
use Rattle.std.proofs.lemmas.List.{length-append, map-append, take-append-le}
use Rattle.std.proofs.Math.Seq.{take-length}
use Rattle.std.proofs.lemmas.List.Concat.{flat_map-append}
use Rattle.std.proofs.Math.Bool.{and-false}
use Rattle.lake_model.specs.declared.Who.{Who}
use Rattle.lake_model.specs.Texts.{Text}
use Rattle.lake_model.specs.Tables.{Table}
use Rattle.lake_model.specs.Journal.{Entry, What, Loaded, Dropped, Replaced, Swapped, entry_with, has_name, is_live, live, live_after, loads_of, without}
use Rattle.lake_model.specs.Layout.{may_follow}
use Rattle.lake_model.proofs.LayoutLemmas.{live_more}
use Rattle.list_laws.specs.Distinct.{Rises}
use Rattle.list_laws.proofs.ListLemmas.{all_append, all_map, all_weaker, filter_agree, filter_all, map_filter, none_any, rises_push}
use Rattle.std.proofs.lemmas.List.Elements.{filter-append}
use Rattle.asof_search.specs.Puts.{PutOf, end_put, has_ended, positions_put, put_with, puts_after, tables_put, was_live}
use Rattle.asof_search.specs.History.{EndsBy, IsHistory, IsWithin, PastStays}

-- ---- tests

-- if one list is made from another, and a test of the one agrees with a test of the other
pub filter_alike : {X Y Z : Type 0} (f : X → Y) (p : Y → Bool) (q : X → Bool) (g : Y → Z) (h : X → Z) (xs : List X) → AllByRecursion (λ x. (p (f x) ≡ q x) × (g (f x) ≡ h x)) xs → map g (filter p (map f xs)) ≡ map h (filter q xs)
filter_alike f p q g h [] a = refl
filter_alike f p q g h (x ∷ xs) a = by (q x) a.0.0 (filter_alike f p q g h xs a.1)
  where
    by : (b : Bool) → p (f x) ≡ b → map g (filter p (map f xs)) ≡ map h (filter q xs) → map g (cond (p (f x)) (f x ∷ filter p (map f xs)) (filter p (map f xs))) ≡ map h (cond b (x ∷ filter q xs) (filter q xs))
    by true e rest = ap (λ t. map g (cond t (f x ∷ filter p (map f xs)) (filter p (map f xs)))) e ∙ (λ i. a.0.1 i ∷ rest i)
    by false e rest = ap (λ t. map g (cond t (f x ∷ filter p (map f xs)) (filter p (map f xs)))) e ∙ rest

-- two filters one after the other
filter_both : {X : Type 0} (p q : X → Bool) (xs : List X) → filter p (filter q xs) ≡ filter (λ x. q x && p x) xs
filter_both p q [] = refl
filter_both p q (x ∷ xs) = by (q x) (filter_both p q xs)
  where
    by : (b : Bool) → filter p (filter q xs) ≡ filter (λ y. q y && p y) xs → filter p (cond b (x ∷ filter q xs) (filter q xs)) ≡ cond (b && p x) (x ∷ filter (λ y. q y && p y) xs) (filter (λ y. q y && p y) xs)
    by true rest = ap (λ us. cond (p x) (x ∷ us) us) rest
    by false rest = rest

-- ---- one put

-- after the last entry, and each later one, it is live unless something took it away
live_now : (n m : ℕ) (put : PutOf) → IsWithin n put → n ≤ m → was_live m put ≡ is_none put.end
live_now n m put w h = by put.end w.end
  where
    by : (end : Option ℕ) → EndsBy n end → (nat_le put.position m && not (has_ended m end)) ≡ is_none end
    by None t = ap (λ b. b && true) (le-leb put.position m (omega (arith, w.position, h)))
    by (Some e) t = ap (λ b. nat_le put.position m && not b) (le-leb e m (omega (arith, t, h))) ∙ and-false (nat_le put.position m)

-- before it was taken away, nothing has changed
before_one : (asked n : ℕ) (name : Text) (put : PutOf) → asked ≤ n → was_live asked (end_put name (n + 1) put) ≡ was_live asked put
before_one asked n name put h = by put.end (has_name name put.table)
  where
    by : (end : Option ℕ) (b : Bool) → (nat_le put.position asked && not (has_ended asked (cond (is_none end && b) (Some (n + 1)) end))) ≡ (nat_le put.position asked && not (has_ended asked end))
    by None true = ap (λ t. nat_le put.position asked && not t) (lt-leb (n + 1) asked (omega (arith, h)))
    by None false = refl
    by (Some e) b = refl

-- then it is live if it was live and has another name
after_one : (n : ℕ) (name : Text) (put : PutOf) → IsWithin n put → was_live (n + 1) (end_put name (n + 1) put) ≡ (was_live n put && not (has_name name put.table))
after_one n name put w = by put.end (has_name name put.table) w.end
  where
    there : nat_le put.position n ≡ true
    there = le-leb put.position n w.position

    still : nat_le put.position (n + 1) ≡ true
    still = le-leb put.position (n + 1) (omega (arith, w.position))

    by : (end : Option ℕ) (b : Bool) → EndsBy n end → (nat_le put.position (n + 1) && not (has_ended (n + 1) (cond (is_none end && b) (Some (n + 1)) end))) ≡ ((nat_le put.position n && not (has_ended n end)) && not b)
    by None true t = ap (λ s. nat_le put.position (n + 1) && not s) (le-leb (n + 1) (n + 1) (omega arith)) ∙ and-false (nat_le put.position (n + 1)) ∙ sym (and-false (nat_le put.position n && true))
    by None false t = ap (λ s. s && true) still ∙ sym (ap (λ s. (s && true) && true) there)
    by (Some e) b t =
        ap (λ s. nat_le put.position (n + 1) && not s) (le-leb e (n + 1) (omega (arith, t))) ∙ and-false (nat_le put.position (n + 1))
        ∙ sym (ap (λ s. (nat_le put.position n && not s) && not b) (le-leb e n t) ∙ ap (λ s. s && not b) (and-false (nat_le put.position n)))

within_one : (n : ℕ) (name : Text) (put : PutOf) → IsWithin n put → IsWithin (n + 1) (end_put name (n + 1) put)
within_one n name put w = record { position = omega (arith, w.position); end = by put.end (has_name name put.table) w.end }
  where
    by : (end : Option ℕ) (b : Bool) → EndsBy n end → EndsBy (n + 1) (cond (is_none end && b) (Some (n + 1)) end)
    by None true t = omega arith
    by None false t = tt
    by (Some e) b t = omega (arith, t)

later_one : (n : ℕ) (put : PutOf) → IsWithin n put → IsWithin (n + 1) put
later_one n put w = record { position = omega (arith, w.position); end = by put.end w.end }
  where
    by : (end : Option ℕ) → EndsBy n end → EndsBy (n + 1) end
    by None t = tt
    by (Some e) t = omega (arith, t)

-- ---- all that is put

pub tables_ended : (name : Text) (m : ℕ) (puts : List PutOf) → tables_put (map (end_put name m) puts) ≡ tables_put puts
tables_ended name m [] = refl
tables_ended name m (put ∷ puts) = ap (λ ts. put.table ∷ ts) (tables_ended name m puts)

positions_ended : (name : Text) (m : ℕ) (puts : List PutOf) → positions_put (map (end_put name m) puts) ≡ positions_put puts
positions_ended name m [] = refl
positions_ended name m (put ∷ puts) = ap (λ ns. put.position ∷ ns) (positions_ended name m puts)

ended_before : (asked n : ℕ) (name : Text) (puts : List PutOf) → asked ≤ n → tables_put (filter (was_live asked) (map (end_put name (n + 1)) puts)) ≡ tables_put (filter (was_live asked) puts)
ended_before asked n name puts h = filter_alike (end_put name (n + 1)) (was_live asked) (was_live asked) (λ (put : PutOf). put.table) (λ (put : PutOf). put.table) puts (all puts)
  where
    all : (us : List PutOf) → AllByRecursion (λ put. (was_live asked (end_put name (n + 1) put) ≡ was_live asked put) × ((end_put name (n + 1) put).table ≡ put.table)) us
    all [] = tt
    all (put ∷ us) = ((before_one asked n name put h, refl), all us)

ended_now : (n : ℕ) (name : Text) (puts : List PutOf) → AllByRecursion (IsWithin n) puts → tables_put (filter (was_live (n + 1)) (map (end_put name (n + 1)) puts)) ≡ without name (tables_put (filter (was_live n) puts))
ended_now n name puts w =
    filter_alike (end_put name (n + 1)) (was_live (n + 1)) (λ put. was_live n put && not (has_name name put.table)) (λ (put : PutOf). put.table) (λ (put : PutOf). put.table) puts
    (all_weaker (IsWithin n) (λ put. (was_live (n + 1) (end_put name (n + 1) put) ≡ (was_live n put && not (has_name name put.table))) × ((end_put name (n + 1) put).table ≡ put.table)) puts (λ put h. (after_one n name put h, refl)) w)
    ∙ ap tables_put (sym (filter_both (λ (put : PutOf). not (has_name name put.table)) (was_live n) puts))
    ∙ map_filter (λ (put : PutOf). put.table) (λ (table : Table). not (has_name name table)) (filter (was_live n) puts)

same_now : (n : ℕ) (puts : List PutOf) → AllByRecursion (IsWithin n) puts → filter (was_live (n + 1)) puts ≡ filter (was_live n) puts
same_now n puts w = filter_agree (was_live (n + 1)) (was_live n) puts (all_weaker (IsWithin n) (λ put. was_live (n + 1) put ≡ was_live n put) puts (λ put h. live_now n (n + 1) put h (omega arith) ∙ sym (live_now n n put h (omega arith))) w)

all_within : (n : ℕ) (name : Text) (puts : List PutOf) → AllByRecursion (IsWithin n) puts → AllByRecursion (IsWithin (n + 1)) (map (end_put name (n + 1)) puts)
all_within n name puts w = all_map (IsWithin (n + 1)) (end_put name (n + 1)) puts (all_weaker (IsWithin n) (λ put. IsWithin (n + 1) (end_put name (n + 1) put)) puts (λ put h. within_one n name put h) w)

-- ---- one more put

new_before : (asked n : ℕ) (table : Table) (puts : List PutOf) → asked ≤ n → tables_put (filter (was_live asked) (puts ++ put_with (n + 1) table None ∷ [])) ≡ tables_put (filter (was_live asked) puts)
new_before asked n table puts h =
    ap tables_put (filter-append (was_live asked) puts (put_with (n + 1) table None ∷ [])
    ∙ ap (λ t. filter (was_live asked) puts ++ cond (t && true) (put_with (n + 1) table None ∷ []) []) (lt-leb (n + 1) asked (omega (arith, h))) ∙ append-nil (filter (was_live asked) puts))

new_now : (n : ℕ) (table : Table) (puts : List PutOf) → tables_put (filter (was_live (n + 1)) (puts ++ put_with (n + 1) table None ∷ [])) ≡ tables_put (filter (was_live (n + 1)) puts) ++ table ∷ []
new_now n table puts =
    ap tables_put (filter-append (was_live (n + 1)) puts (put_with (n + 1) table None ∷ [])
    ∙ ap (λ t. filter (was_live (n + 1)) puts ++ cond (t && true) (put_with (n + 1) table None ∷ []) []) (le-leb (n + 1) (n + 1) (omega arith)))
    ∙ map-append (λ (put : PutOf). put.table) (filter (was_live (n + 1)) puts) (put_with (n + 1) table None ∷ [])

-- ---- one more entry

pub loads_split : (journal later : List Entry) → loads_of (journal ++ later) ≡ loads_of journal ++ loads_of later
loads_split journal later = flat_map-append _ journal later

module _ (journal : List Entry) (entry : Entry) (puts : List PutOf) (h : IsHistory journal puts) where
  longer : length (journal ++ entry ∷ []) ≡ length journal + 1
  longer = length-append journal (entry ∷ [])

  live_here : tables_put (filter (was_live (length journal)) puts) ≡ live journal
  live_here = h.past (length journal) (omega arith) ∙ ap live (take-length journal)

  past_more : (after : List PutOf) → ((asked : ℕ) → asked ≤ length journal → tables_put (filter (was_live asked) after) ≡ tables_put (filter (was_live asked) puts))
      → tables_put (filter (was_live (length journal + 1)) after) ≡ live_after (live journal) entry.what
      → (asked : ℕ) → asked ≤ length (journal ++ entry ∷ []) → tables_put (filter (was_live asked) after) ≡ live (take asked (journal ++ entry ∷ []))
  past_more after before now asked b =
      let n = length journal in
      let all : take (n + 1) (journal ++ entry ∷ []) ≡ journal ++ entry ∷ [] = ap (λ (m : ℕ). take m (journal ++ entry ∷ [])) (sym longer) ∙ take-length (journal ++ entry ∷ []) in
      below_more (λ (k : ℕ). tables_put (filter (was_live k) after) ≡ live (take k (journal ++ entry ∷ []))) (n + 1)
      (λ k lower. let within : k ≤ n = omega (arith, lower) in before k within ∙ h.past k within ∙ ap live (sym (take-append-le k journal (entry ∷ []) within)))
      (now ∙ sym (live_more journal entry) ∙ ap live (sym all)) asked (omega (arith, b, longer))

  -- if nothing is put
  module _ (after : List PutOf) (positions : positions_put after ≡ positions_put puts) (within : AllByRecursion (IsWithin (length journal + 1)) after) (tables : tables_put after ≡ tables_put puts) (none : loads_of (entry ∷ []) ≡ [])
      (before : (asked : ℕ) → asked ≤ length journal → tables_put (filter (was_live asked) after) ≡ tables_put (filter (was_live asked) puts))
      (now : tables_put (filter (was_live (length journal + 1)) after) ≡ live_after (live journal) entry.what) where
    still : IsHistory (journal ++ entry ∷ []) after
    still = record {
      rising = subst Rises (sym positions) h.rising;
      within = subst (λ (m : ℕ). AllByRecursion (IsWithin m) after) (sym longer) within;
      tables = tables ∙ h.tables ∙ sym (append-nil (loads_of journal)) ∙ ap (λ ts. loads_of journal ++ ts) (sym none) ∙ sym (loads_split journal (entry ∷ []));
      past = past_more after before now;
    }

  -- if a table is put after what is left
  module _ (left : List PutOf) (table : Table) (positions : positions_put left ≡ positions_put puts) (within : AllByRecursion (IsWithin (length journal + 1)) left) (tables : tables_put left ≡ tables_put puts) (one : loads_of (entry ∷ []) ≡ table ∷ [])
      (before : (asked : ℕ) → asked ≤ length journal → tables_put (filter (was_live asked) left) ≡ tables_put (filter (was_live asked) puts))
      (now : tables_put (filter (was_live (length journal + 1)) left) ++ table ∷ [] ≡ live_after (live journal) entry.what) where
    more : IsHistory (journal ++ entry ∷ []) (left ++ put_with (length journal + 1) table None ∷ [])
    more = record {
      rising = subst Rises (sym (map-append (λ (p : PutOf). p.position) left (put_with (length journal + 1) table None ∷ []) ∙ ap (λ ns. ns ++ (length journal + 1) ∷ []) positions))
          (rises_push (positions_put puts) (length journal + 1) h.rising (all_map (λ (m : ℕ). m < length journal + 1) (λ (p : PutOf). p.position) puts (all_weaker (IsWithin (length journal)) (λ p. p.position < length journal + 1) puts (λ p w. omega (arith, w.position)) h.within)));
      within = subst (λ (m : ℕ). AllByRecursion (IsWithin m) (left ++ put_with (length journal + 1) table None ∷ [])) (sym longer)
          (all_append (IsWithin (length journal + 1)) left (put_with (length journal + 1) table None ∷ []) within (record { position = omega arith; end = tt }, tt));
      tables = map-append (λ (p : PutOf). p.table) left (put_with (length journal + 1) table None ∷ []) ∙ (λ i. (tables ∙ h.tables) i ++ table ∷ []) ∙ ap (λ ts. loads_of journal ++ ts) (sym one) ∙ sym (loads_split journal (entry ∷ []));
      past = past_more (left ++ put_with (length journal + 1) table None ∷ []) (λ asked b. new_before asked (length journal) table left b ∙ before asked b) (new_now (length journal) table left ∙ now);
    }

-- loading a table of a name that is not live takes nothing away
nothing_ends : (journal : List Entry) (table : Table) → may_follow journal (Loaded table) ≡ true → without table.name (live journal) ≡ live journal
nothing_ends journal table h =
    filter_all (λ (t : Table). not (has_name table.name t)) (live journal)
    (all_weaker (λ (t : Table). has_name table.name t ≡ false) (λ t. not (has_name table.name t) ≡ true) (live journal) (λ t e. ap not e) (none_any (has_name table.name) (live journal) (not-true (is_live journal table.name) h)))

pub history_more : (journal : List Entry) (who : Who) (what : What) (puts : List PutOf) → IsHistory journal puts → may_follow journal what ≡ true → IsHistory (journal ++ entry_with who what ∷ []) (puts_after (length journal + 1) puts what)
history_more journal who (Loaded table) puts h follows =
    more journal (entry_with who (Loaded table)) puts h (map (end_put table.name (length journal + 1)) puts) table (positions_ended table.name (length journal + 1) puts) (all_within (length journal) table.name puts h.within) (tables_ended table.name (length journal + 1) puts) refl
    (λ asked b. ended_before asked (length journal) table.name puts b)
    (ap (λ ts. ts ++ table ∷ []) (ended_now (length journal) table.name puts h.within ∙ ap (without table.name) (live_here journal (entry_with who (Loaded table)) puts h) ∙ nothing_ends journal table follows))
history_more journal who (Dropped name) puts h follows =
    still journal (entry_with who (Dropped name)) puts h (map (end_put name (length journal + 1)) puts) (positions_ended name (length journal + 1) puts) (all_within (length journal) name puts h.within) (tables_ended name (length journal + 1) puts) refl
    (λ asked b. ended_before asked (length journal) name puts b)
    (ended_now (length journal) name puts h.within ∙ ap (without name) (live_here journal (entry_with who (Dropped name)) puts h))
history_more journal who (Replaced table) puts h follows =
    more journal (entry_with who (Replaced table)) puts h (map (end_put table.name (length journal + 1)) puts) table (positions_ended table.name (length journal + 1) puts) (all_within (length journal) table.name puts h.within) (tables_ended table.name (length journal + 1) puts) refl
    (λ asked b. ended_before asked (length journal) table.name puts b)
    (ap (λ ts. ts ++ table ∷ []) (ended_now (length journal) table.name puts h.within ∙ ap (without table.name) (live_here journal (entry_with who (Replaced table)) puts h)))
history_more journal who (Swapped planned kept) puts h follows =
    still journal (entry_with who (Swapped planned kept)) puts h puts refl (all_weaker (IsWithin (length journal)) (IsWithin (length journal + 1)) puts (λ put w. later_one (length journal) put w) h.within) refl refl
    (λ asked b. refl)
    (ap tables_put (same_now (length journal) puts h.within) ∙ live_here journal (entry_with who (Swapped planned kept)) puts h)

pub history_none : IsHistory [] []
history_none = record { rising = tt; within = tt; tables = refl; past = λ asked b. ap live (sym (none asked)) }
  where
    none : (asked : ℕ) → take {A = Entry} asked [] ≡ []
    none zero = refl
    none (suc asked) = refl

pub past_stays : PastStays
past_stays journal later asked h = ap live (take-append-le asked journal later h)
