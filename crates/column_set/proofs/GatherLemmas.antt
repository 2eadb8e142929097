-- Lists of keys as they are gathered, one after another: one more key, the end of a list, and what is taken out.
use Rattle.std.proofs.Common.{◌≡◌, refl, ap, sym, ◌∙◌, subst, ℕ, zero, suc, ◌≤◌, List, [], ◌∷◌, ◌++◌, ◌||◌, append-nil, append_assoc, arith, drop, length, take, true, false}
use Rattle.std.specs.Prelude.{◌-◌, bytes_eq, fold, slice_set}
use Rattle.std.specs.List.{AllByRecursion, IsDistinct}
use Rattle.std.proofs.lemmas.List.{drop-append-le, length-append, length-drop, length-take-le, take-append-drop, take-append-le}
use Rattle.std.proofs.lemmas.List.Sums.{fold-append}
use Rattle.std.proofs.lemmas.Slice.Eq.{bytes_eq-Decides}
use Rattle.std.proofs.Math.Seq.{drop-length, take-length}
use Rattle.lake_model.specs.Texts.{Text}
use Rattle.lake_model.specs.Tables.{add_key, distinct, has_key}
use Rattle.lake_model.proofs.DistinctLemmas.{added_differ, distinct_keeps}
use Rattle.column_set.proofs.OverlapLemmas.{flipped}
use Rattle.column_set.specs.Slots.{IsFree, IsSlottedSet, hash_of, home_of}
use Rattle.column_set.proofs.SlotLemmas.{set_push}

-- ---- texts that differ are distinct already

other_behind : (seen texts : List Text) (text first : Text) → AllByRecursion (λ y. bytes_eq first y ≡ false) (seen ++ text ∷ texts) → bytes_eq first text ≡ false
other_behind [] texts text first h = h.0
other_behind (next ∷ seen) texts text first h = other_behind seen texts text first h.1

not_seen : (seen texts : List Text) (text : Text) → IsDistinct bytes_eq (seen ++ text ∷ texts) → has_key seen text ≡ false
unfolding IsDistinct
not_seen [] texts text d = refl
not_seen (first ∷ seen) texts text d =
    rw (flipped first text false (other_behind seen texts text first d.0)) (not_seen seen texts text d.1)

added_all : (seen texts : List Text) → IsDistinct bytes_eq (seen ++ texts) → fold add_key seen texts ≡ seen ++ texts
added_all seen [] d = sym (append-nil seen)
added_all seen (text ∷ texts) d =
    let moved : (seen ++ text ∷ []) ++ texts ≡ seen ++ text ∷ texts = append_assoc seen (text ∷ []) texts in
    rw (not_seen seen texts text d) (added_all (seen ++ text ∷ []) texts (subst (IsDistinct bytes_eq) (sym moved) d) ∙ moved)

pub distinct_same : (texts : List Text) → IsDistinct bytes_eq texts → distinct texts ≡ texts
distinct_same texts d = added_all [] texts d

pub distinct_more : (texts : List Text) (text : Text) → distinct (texts ++ text ∷ []) ≡ add_key (distinct texts) text
distinct_more texts text = fold-append add_key [] texts (text ∷ [])

pub distinct_none : (texts : List Text) → distinct texts ≡ [] → texts ≡ []
distinct_none [] none = refl
distinct_none (text ∷ texts) none =
    let there : has_key (text ∷ texts) text ≡ true = ap (λ b. b || has_key texts text) ((bytes_eq-Decides text text).1 refl) in
    let gone : false ≡ true = ap (λ (ks : List Text). has_key ks text) (sym none) ∙ distinct_keeps (text ∷ texts) text ∙ there in
    cc

-- ---- the start of the finished lists

pub front_kept : (from : ℕ) (keys more : List Text) → from ≤ length keys → take from (take from keys ++ more) ≡ take from keys
front_kept zero keys more h = refl
front_kept (suc from) [] more h = absurd (omega arith)
front_kept (suc from) (key ∷ keys) more h = ap (λ ks. key ∷ ks) (front_kept from keys more (omega arith))

pub back_new : (from : ℕ) (keys more : List Text) → from ≤ length keys → drop from (take from keys ++ more) ≡ more
back_new zero keys more h = refl
back_new (suc from) [] more h = absurd (omega arith)
back_new (suc from) (key ∷ keys) more h = back_new from keys more (omega arith)

-- ---- one more key

-- if repeats are removed later
pub pushed_finished : (from : ℕ) (keys : List Text) (key : Text) (new : List Text) → from ≤ length keys → new ≡ keys ++ key ∷ [] → take from new ≡ take from keys
pushed_finished from keys key new h is = ap (take from) is ∙ take-append-le from keys (key ∷ []) h

pub pushed_current : (from : ℕ) (keys : List Text) (key : Text) (new : List Text) → from ≤ length keys → new ≡ keys ++ key ∷ [] → distinct (drop from new) ≡ add_key (distinct (drop from keys)) key
pushed_current from keys key new h is = ap (λ ks. distinct (drop from ks)) is ∙ ap distinct (drop-append-le from keys (key ∷ []) h) ∙ distinct_more (drop from keys) key

-- if the key was looked up
pub entered_old : (from : ℕ) (keys : List Text) (key : Text) → has_key (drop from keys) key ≡ true → keys ≡ take from keys ++ add_key (drop from keys) key
entered_old from keys key there = rw there (sym (take-append-drop from keys))

pub entered_new : (from : ℕ) (keys : List Text) (key : Text) → has_key (drop from keys) key ≡ false → keys ++ key ∷ [] ≡ take from keys ++ add_key (drop from keys) key
entered_new from keys key absent = rw absent (ap (λ ks. ks ++ key ∷ []) (sym (take-append-drop from keys)) ∙ append_assoc (take from keys) (drop from keys) (key ∷ []))

pub entered_finished : (from : ℕ) (keys : List Text) (key : Text) (new : List Text) → from ≤ length keys → new ≡ take from keys ++ add_key (drop from keys) key → take from new ≡ take from keys
entered_finished from keys key new h is = ap (take from) is ∙ front_kept from keys (add_key (drop from keys) key) h

pub entered_current : (from : ℕ) (keys : List Text) (key : Text) (new : List Text) → from ≤ length keys → IsDistinct bytes_eq (drop from keys) → new ≡ take from keys ++ add_key (drop from keys) key
    → distinct (drop from new) ≡ add_key (distinct (drop from keys)) key
entered_current from keys key new h d is =
    let behind : drop from new ≡ add_key (drop from keys) key = ap (drop from) is ∙ back_new from keys (add_key (drop from keys) key) h in
    ap distinct behind ∙ distinct_same (add_key (drop from keys) key) (added_differ (drop from keys) (key ∷ []) d) ∙ ap (λ ks. add_key ks key) (sym (distinct_same (drop from keys) d))

pub entered_within : (from : ℕ) (keys new more : List Text) → from ≤ length keys → new ≡ take from keys ++ more → from ≤ length new
entered_within from keys new more h is = omega (arith, ap length is, length-append (take from keys) more, length-take-le from keys h)

pub entered_set : (from : ℕ) (keys : List Text) (key : Text) (slots : List ℕ) (at hash : ℕ) → from ≤ length keys → IsSlottedSet slots (drop from keys) → hash ≡ hash_of key → (read : List ℕ) → read ≡ slots
    → (has_key (drop from keys) key ≡ false) × IsFree read (home_of (length read) hash) at → (pushed : List Text) → pushed ≡ keys ++ key ∷ [] → (len : ℕ) → len ≡ length pushed → IsSlottedSet (slice_set slots at (len - from)) (drop from pushed)
entered_set from keys key slots at hash h set hashed read read_is (absent, free) pushed pushed_is len len_is =
    let here = subst (λ (xs : List ℕ). IsFree xs (home_of (length xs) hash) at) read_is free in
    let behind : drop from pushed ≡ drop from keys ++ key ∷ [] = ap (drop from) pushed_is ∙ drop-append-le from keys (key ∷ []) h in
    set_push slots (drop from keys) key at hash set absent hashed here (drop from pushed) behind (len - from) (omega (arith, len_is, length-drop from pushed))

-- ---- the end of a list

pub settled : (from : ℕ) (keys : List Text) → IsDistinct bytes_eq (drop from keys) → keys ≡ take from keys ++ distinct (drop from keys)
settled from keys d = sym (ap (λ ks. take from keys ++ ks) (distinct_same (drop from keys) d) ∙ take-append-drop from keys)

pub all_finished : (keys : List Text) (end : ℕ) → end ≡ length keys → take end keys ≡ keys
all_finished keys end is = ap (λ k. take k keys) is ∙ take-length keys

pub none_behind : (keys : List Text) (end : ℕ) → end ≡ length keys → drop end keys ≡ []
none_behind keys end is = ap (λ k. drop k keys) is ∙ drop-length keys

-- ---- what is taken out

pub finished_all : (from : ℕ) (keys : List Text) → distinct (drop from keys) ≡ [] → keys ≡ take from keys
finished_all from keys none = sym (take-append-drop from keys) ∙ ap (λ ks. take from keys ++ ks) (distinct_none (drop from keys) none) ∙ append-nil (take from keys)

pub from_front : (from : ℕ) (keys : List Text) → from ≤ length keys → take from keys ≡ [] → drop from keys ≡ keys
from_front from keys h none = let zero_is : from ≡ 0 = omega (arith, length-take-le from keys h, ap length none) in ap (λ k. drop k keys) zero_is

pub indexed_current : (from : ℕ) (keys : List Text) → from ≤ length keys → take from keys ≡ [] → IsDistinct bytes_eq (drop from keys) → keys ≡ distinct (drop from keys)
indexed_current from keys h none d = sym (distinct_same (drop from keys) d ∙ from_front from keys h none)
