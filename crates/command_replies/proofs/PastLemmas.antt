-- What a timeline has taken of a journal, and what it takes next.
use Rattle.std.proofs.Common.{◌≡◌, refl, ap, sym, ◌∙◌, subst, ℕ, ◌+◌, ◌^◌, ◌<◌, ◌≤◌, List, [], ◌∷◌, ◌++◌, append-nil, append_assoc, Bool, true, false, arith, cond, drop, length, length-append, lit<, take, None, Some, ◌⊎◌, inl, inr}
use Rattle.std.specs.Prelude.{count_by, nat_lt}
use Rattle.std.proofs.Math.Seq.{drop-append_seam}
use Rattle.std.proofs.lemmas.List.Sums.{sum_by-cons}
use mathlib.Core.List.{IsPrefix}
use Rattle.lake_model.specs.declared.Counts.{Counts}
use Rattle.asof_search.specs.declared.refusal.PastRefused.{PastRefused}
use Rattle.asof_search.specs.declared.refusal.PastRefused.TheVariants as refused
use Rattle.asof_search.specs.Refusals.{past_refusal}
use Rattle.lake_model.specs.Answer.{answer}
use Rattle.lake_model.specs.Texts.{Text}
use Rattle.lake_model.specs.Journal.{Dropped, Entry, Loaded, Replaced, Swapped, What, counts, entry_with, is_update, live, loads_of}
use Rattle.lake_model.specs.Layout.{is_legal}
use Rattle.catalogue.specs.Kept.{IsWithin}
use Rattle.record_model.specs.Replies.{Later, Past, past_reply}
use Rattle.record_model.specs.Rules.{wide_limits}
use Rattle.command_replies.specs.Pasts.{past_refusal_reply}
use Rattle.command_replies.proofs.LoadLemmas.{Answers}

-- a timeline that has taken nothing
pub none_taken : (past journal : List Entry) → past ≡ [] → IsPrefix past journal
none_taken past journal none = (journal, ap (λ (j : List Entry). j ++ journal) none)

-- a timeline that has taken everything
pub all_taken : (past journal : List Entry) → past ≡ journal → IsPrefix past journal
all_taken past journal all = subst (IsPrefix past) all ([], append-nil past)

-- a beginning of a beginning
pub prefix_on : (xs ys zs : List Entry) → IsPrefix xs ys → IsPrefix ys zs → IsPrefix xs zs
prefix_on xs ys zs p q = (p.0 ++ q.0, sym (append_assoc xs p.0 q.0) ∙ ap (λ (j : List Entry). j ++ q.0) p.1 ∙ q.1)

-- a beginning, and what follows it
pub rest_of : (xs ys : List Entry) → IsPrefix xs ys → xs ++ drop (length xs) ys ≡ ys
rest_of xs ys p = ap (λ (zs : List Entry). xs ++ drop (length xs) zs) (sym p.1) ∙ ap (λ (zs : List Entry). xs ++ zs) (drop-append_seam xs p.0) ∙ p.1

pub prefix_short : (xs ys : List Entry) → IsPrefix xs ys → length xs ≤ length ys
prefix_short xs ys p = omega (arith, ap (λ (zs : List Entry). length zs) p.1, length-append xs p.0)

-- ---- counts

-- there are at most as many loads and replaces as updates
pub loads_few : (journal : List Entry) → length (loads_of journal) ≤ count_by (λ entry. is_update entry.what) journal
loads_few [] = omega arith
loads_few (entry ∷ journal) = by entry.what (loads_few journal)
  where
    more : (what : What) → count_by (λ e. is_update e.what) (entry_with entry.who what ∷ journal) ≡ cond (is_update what) 1 0 + count_by (λ e. is_update e.what) journal
    more what = sum_by-cons (λ (e : Entry). cond (is_update e.what) 1 0) (entry_with entry.who what) journal

    by : (what : What) → length (loads_of journal) ≤ count_by (λ e. is_update e.what) journal → length (loads_of (entry_with entry.who what ∷ journal)) ≤ count_by (λ e. is_update e.what) (entry_with entry.who what ∷ journal)
    by (Loaded table) rest = omega (arith, rest, more (Loaded table))
    by (Dropped name) rest = omega (arith, rest, more (Dropped name))
    by (Replaced table) rest = omega (arith, rest, more (Replaced table))
    by (Swapped planned kept) rest = omega (arith, rest, more (Swapped planned kept))

-- ---- the rest of a journal is taken

module _ (past journal entries : List Entry) (begins : IsPrefix past journal) (rest : entries ≡ drop (length past) journal) where
  pub caught : past ++ entries ≡ journal
  caught = ap (λ (es : List Entry). past ++ es) rest ∙ rest_of past journal begins

  pub caught_legal : is_legal journal ≡ true → is_legal (past ++ entries) ≡ true
  caught_legal legal = ap is_legal caught ∙ legal

  module _ (limits : Counts) (wide : IsWithin wide_limits limits) (within : IsWithin limits (counts journal)) where
    pub caught_few : length (loads_of (past ++ entries)) < 2 ^ 32
    caught_few =
        let small : 1048576 < 2 ^ 32 = lit< tt in
        omega (arith, small, ap (λ (j : List Entry). length (loads_of j)) caught, loads_few journal, within.updates, wide.updates)

    pub caught_light : (counts (past ++ entries)).members < 2 ^ 32
    caught_light =
        let small : 16777216 < 2 ^ 32 = lit< tt in
        omega (arith, small, ap (λ (j : List Entry). (counts j).members) caught, within.members, wide.members)

-- ---- replies

-- a position for which there is no pin
pub past_refused : (keys : List Text) (asked k : ℕ) (journal : List Entry) (e : PastRefused) → ((e ≡ refused.NoMemory) × (past_refusal asked journal ≡ None)) ⊎ (past_refusal asked journal ≡ Some e)
    → Answers (past_refusal_reply asked e) (past_reply keys asked k journal)
past_refused keys asked k journal e (inl wanting) = (true, ap (past_refusal_reply asked) wanting.0)
past_refused keys asked k journal e (inr late) = by (nat_lt (length journal) asked) late
  where
    by : (b : Bool) → cond b (Some (refused.Later (length journal))) None ≡ Some e
        → Answers (past_refusal_reply asked e) (cond b (Later asked (length journal)) (Past (length keys) (answer (live (take asked journal)) keys k None) asked (length journal)))
    by true h = let same : refused.Later (length journal) ≡ e = cc in (false, ap (past_refusal_reply asked) (sym same))
    by false h = absurd (let none : None ≡ Some e = h in cc)

-- a position for which there is one
pub past_found : (keys : List Text) (asked k : ℕ) (journal : List Entry) → past_refusal asked journal ≡ None
    → Past (length keys) (answer (live (take asked journal)) keys k None) asked (length journal) ≡ past_reply keys asked k journal
past_found keys asked k journal none = by (nat_lt (length journal) asked) none
  where
    by : (b : Bool) → cond b (Some (refused.Later (length journal))) None ≡ None
        → Past (length keys) (answer (live (take asked journal)) keys k None) asked (length journal) ≡ cond b (Later asked (length journal)) (Past (length keys) (answer (live (take asked journal)) keys k None) asked (length journal))
    by true h = absurd (let some : Some (refused.Later (length journal)) ≡ None = h in cc)
    by false h = refl
