-- The rule holds at the opening, and a look keeps it.
use Rattle.std.proofs.Common.{◌≡◌, ℕ, zero, suc, ◌+◌, ◌*◌, true, false, true≢false, List, [], ◌∷◌, length, set, get_or, Some, None, refl, sym, ap, ◌∙◌, subst, inl, ⊎_elim, arith}
use Rattle.std.specs.declared.option.Option.{Option}
use mathlib.Core.Option as maybe
use lib.ListN.{get_elem?}
use Rattle.atomic_table.specs.Table.{State, Me, step, keeps, opening, stepped, Allows}
use Rattle.turn_lock.specs.declared.view.View.{View}
use Rattle.turn_lock.specs.History.{IsOfGiven}
use Rattle.turn_lock.specs.Rule.{Account, held_bit, opening_view, settled_view, IsTold, Fits, HistoryRule, Peeks}
use Rattle.turn_lock.proofs.Histories.{grows_self, given_front}
use Rattle.turn_lock.proofs.ViewLists.{some_set, each_set}

pub not_held : false ≡ true → ⊥
not_held e = true≢false (sym e)

pub not_given : (number : ℕ) → None ≡ Some number → ⊥
not_given number e = cc e

pub same_number : (number other : ℕ) → Some number ≡ Some other → number ≡ other
same_number number other e = cc e

module _ {V E : Type 0} (list : V → List E) (caller_of : E → ℕ) where
  abbrev pub Rule : State (Option V) (View E) → Type 0
  Rule = HistoryRule list caller_of

  -- ---- the opening

  first_account : Account E
  first_account = record { history = []; given = 1; opener = 0; owner = λ _. 0; held = false; holder = 0 }

  -- the first seat fits
  first_fits : Fits caller_of first_account 0 opening_view
  unfolding first_account
  first_fits = record {
    seen_begins = grows_self caller_of (0 ∷ []) [];
    earlier_begin = tt;
    owns = λ number h. ⊎_elim (λ (e : 0 ≡ number). (omega arith, refl)) (λ none. absurd none) h;
    holds = λ h. absurd (not_held h);
    gives = λ count h. (sym (same_number 1 count h), refl);
  }

  -- and there is no other
  each_first : (seat : ℕ) (v : View E) → get_elem? (opening_view {E = E} ∷ []) seat ≡ maybe.some v → Fits caller_of first_account seat v
  each_first zero v e = subst (Fits caller_of first_account 0) (maybe.some-injective _ _ e) first_fits
  each_first (suc seat) v e = absurd (maybe.some-ne-none v (sym e))

  pub opens : (value : V) → list value ≡ [] → Rule (opening (0 ∷ []) (Some value ∷ []) opening_view)
  unfolding first_account
  opens value e = record {
    account = first_account;
    word_counts = refl;
    value_is_home = (value, refl, e);
    numbers_given = tt;
    longest_seen = (0, opening_view, refl, refl);
    one_holds = λ h. absurd (not_held h);
    one_gives = (0, opening_view, refl, (refl, refl));
    one_owns = λ number l. (0, opening_view, refl, (refl, inl (omega arith)));
    each_fits = each_first;
  }

  -- ---- a look

  -- the rule gives a seat what it says of the seat's view
  tells : (s : State (Option V) (View E)) (r : Rule s) (me : ℕ) (v : View E) → get_elem? s.views me ≡ maybe.some v → IsTold caller_of v
  tells s r me v at = let f = r.each_fits me v at in record {
    earlier = f.earlier_begin;
    given = λ count e. subst (λ n. IsOfGiven caller_of n v.seen) (sym (f.gives count e).0)
        (given_front caller_of r.account.given v.seen f.seen_begins.rest (subst (IsOfGiven caller_of r.account.given) (sym f.seen_begins.begins) r.numbers_given));
  }

  -- and the holder knows the word
  holder_counts : (s : State (Option V) (View E)) (r : Rule s) (me : ℕ) (v : View E) → get_elem? s.views me ≡ maybe.some v → v.holds ≡ true → get_or s.words 0 0 ≡ 2 * length v.seen + 1
  holder_counts s r me v at holds = let t = (r.each_fits me v at).holds holds in
      ap (λ (words : List ℕ). get_or words 0 0) r.word_counts ∙ (ap (λ held. 2 * length r.account.history + held_bit held) t.0 ∙ ap (λ seen. 2 * length seen + 1) (sym t.2))

  -- the view without its earlier lists fits as well
  settles : (account : Account E) (seat : ℕ) (v : View E) → Fits caller_of account seat v → Fits caller_of account seat (settled_view v)
  settles account seat v f = record { seen_begins = f.seen_begins; earlier_begin = tt; owns = f.owns; holds = f.holds; gives = f.gives }

  -- a step that changes no word
  pub unmoved : (s : State (Option V) (View E)) (r : Rule s) (me : ℕ) (hand : List (ℕ × Option V)) (v : View E) → get_elem? s.views me ≡ maybe.some v → Rule (stepped s 0 (get_or s.words 0 0) me hand (settled_view v) keeps)
  unmoved s r me hand v at = let w : View E = settled_view v in record {
    account = r.account;
    word_counts = ap (λ (words : List ℕ). set words 0 (get_or words 0 0)) r.word_counts;
    value_is_home = r.value_is_home;
    numbers_given = r.numbers_given;
    longest_seen = some_set s.views me w at (λ h. h) (λ seat u h. h) r.longest_seen;
    one_holds = λ held. some_set s.views me w at (λ h. h) (λ seat u h. h) (r.one_holds held);
    one_gives = some_set s.views me w at (λ h. h) (λ seat u h. h) r.one_gives;
    one_owns = λ number l. some_set s.views me w at (λ h. h) (λ seat u h. h) (r.one_owns number l);
    each_fits = each_set (Fits caller_of r.account) s.views me w (settles r.account me v (r.each_fits me v at)) (λ seat u _ at. r.each_fits seat u at);
  }

  pub peeks : (slots me : ℕ) (seated : Me (Option V) (View E)) → Allows Rule slots me seated 0 (λ n. n) (Peeks list caller_of (step slots 0 0 0 maybe.none) seated)
  peeks slots me seated s r _ at _ = (
    settled_view seated.0,
    keeps,
    tt,
    unmoved s r me seated.1 seated.0 at,
    record { settles = refl; told = tells s r me seated.0 at; counts = holder_counts s r me seated.0 at },
  )
