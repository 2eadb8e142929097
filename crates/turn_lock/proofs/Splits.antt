-- The rule is kept when a view is split in two: a note is split off, or a new pass with its number.
use Rattle.std.proofs.Common.{◌≡◌, ◌≢◌, ℕ, ◌+◌, ◌<◌, eqb, eq-eqb, ne_eqb, false, List, [], ◌++◌, length, set, Some, None, refl, sym, ap, ◌∙◌, subst, inl, ⊎_elim, arith}
use Rattle.std.specs.Prelude.{cond}
use mathlib.Core.Logic.{dite}
use native.Mathlib.Decide.{ℕ_discrete}
use Rattle.atomic_table.specs.Table.{Splits}
use Rattle.atomic_table.proofs.Lists.{at_last, set_here}
use Rattle.turn_lock.specs.declared.view.View.{View}
use Rattle.turn_lock.specs.History.{Has, IsOfGiven}
use Rattle.turn_lock.specs.Rule.{Account, next_number, own_number, view_of, note_view, giving_view, numbered_view, Fits}
use Rattle.turn_lock.proofs.Histories.{grows_of_none, given_more, given_back, others_of_new}
use Rattle.turn_lock.proofs.ViewLists.{at_inside, some_set, some_more, each_set, each_more}
use Rattle.turn_lock.proofs.Looks.{Rule, not_held, not_given, same_number}

module _ {V E : Type 0} (list : V → List E) (caller_of : E → ℕ) where
  -- ---- a note

  note_fits : (account : Account E) (seat other : ℕ) (v : View E) → Fits caller_of account seat v → Fits caller_of account other (note_view v)
  note_fits account seat other v f = record {
    seen_begins = grows_of_none caller_of f.seen_begins;
    earlier_begin = tt;
    owns = λ number h. absurd h;
    holds = λ h. absurd (not_held h);
    gives = λ count e. absurd (not_given count e);
  }

  pub notes : (me : ℕ) (v : View E) → Splits (Rule list caller_of) me v v (note_view v)
  notes me v s r at =
      let f = r.each_fits me v at in
      let views : List (View E) = set s.views me v in
      let new : View E = note_view v in record {
        account = r.account;
        word_counts = r.word_counts;
        value_is_home = r.value_is_home;
        numbers_given = r.numbers_given;
        longest_seen = some_more views new (λ seat u h. h) (some_set s.views me v at (λ h. h) (λ seat u h. h) r.longest_seen);
        one_holds = λ held. some_more views new (λ seat u h. h) (some_set s.views me v at (λ h. h) (λ seat u h. h) (r.one_holds held));
        one_gives = some_more views new (λ seat u h. h) (some_set s.views me v at (λ h. h) (λ seat u h. h) r.one_gives);
        one_owns = λ number l. some_more views new (λ seat u h. h) (some_set s.views me v at (λ h. h) (λ seat u h. h) (r.one_owns number l));
        each_fits = each_more (Fits caller_of r.account) views new (note_fits r.account me (length views) v f)
            (each_set (Fits caller_of r.account) s.views me v f (λ seat u _ at. r.each_fits seat u at));
      }

  -- ---- a new pass

  -- the account after the number n was given, to the seat `last`
  numbered : Account E → ℕ → ℕ → Account E
  numbered account n last = record { history = account.history; given = n + 1; opener = account.opener; owner = λ number. cond (eqb number n) last (account.owner number); held = account.held; holder = account.holder }

  module _ (account : Account E) (n last : ℕ) (now : n ≡ account.given) where
    -- the owner of a number that was given before still owns it
    owns_still : (seat number : ℕ) → (number < account.given) × (account.owner number ≡ seat) → (number < n + 1) × ((numbered account n last).owner number ≡ seat)
    unfolding numbered
    owns_still seat number o = let l = o.0 in (omega arith, subst (λ b. cond b last (account.owner number) ≡ seat) (sym (ne_eqb number n (λ e. omega arith))) o.1)

    -- the new number belongs to the new seat
    owns_new : (number : ℕ) → number ≡ n → (numbered account n last).owner number ≡ last
    unfolding numbered
    owns_new number e = subst (λ b. cond b last (account.owner number) ≡ last) (sym (eq-eqb number n e)) refl

    owns_old : (number : ℕ) → number ≢ n → (numbered account n last).owner number ≡ account.owner number
    unfolding numbered
    owns_old number ne = subst (λ b. cond b last (account.owner number) ≡ account.owner number) (sym (ne_eqb number n ne)) refl

    others_fit : (seat : ℕ) (u : View E) → seat ≢ account.opener → Fits caller_of account seat u → Fits caller_of (numbered account n last) seat u
    unfolding numbered
    others_fit seat u far f = record {
      seen_begins = f.seen_begins;
      earlier_begin = f.earlier_begin;
      owns = λ number h. owns_still seat number (f.owns number h);
      holds = f.holds;
      gives = λ count e. absurd (far (sym (f.gives count e).1));
    }

    giver_fits : (v : View E) → v.given ≡ Some n → Fits caller_of account account.opener v → Fits caller_of (numbered account n last) account.opener (giving_view v)
    unfolding numbered
    giver_fits v is f = record {
      seen_begins = f.seen_begins;
      earlier_begin = f.earlier_begin;
      owns = λ number h. owns_still account.opener number (f.owns number h);
      holds = f.holds;
      gives = λ count e. (sym (same_number (n + 1) count (sym (ap next_number is) ∙ e)), refl);
    }

    new_fits : (seat : ℕ) (v : View E) → v.given ≡ Some n → IsOfGiven caller_of account.given account.history → Fits caller_of account seat v → Fits caller_of (numbered account n last) last (numbered_view v)
    unfolding numbered
    new_fits seat v is given f = subst (λ o. Fits caller_of (numbered account n last) last (view_of o [] None v.seen [] false)) (sym is) record {
      seen_begins = record {
        rest = f.seen_begins.rest;
        begins = f.seen_begins.begins;
        others = others_of_new caller_of account.given n f.seen_begins.rest (given_back caller_of account.given v.seen f.seen_begins.rest (subst (IsOfGiven caller_of account.given) (sym f.seen_begins.begins) given)) (omega arith);
      };
      earlier_begin = tt;
      owns = λ number h. ⊎_elim (λ (e : n ≡ number). (omega arith, owns_new number (sym e))) (λ none. absurd none) h;
      holds = λ h. absurd (not_held h);
      gives = λ count e. absurd (not_given count e);
    }

  pub gives_number : (me : ℕ) (v : View E) (n : ℕ) → v.given ≡ Some n → Splits (Rule list caller_of) me v (giving_view v) (numbered_view v)
  unfolding numbered
  gives_number me v n is s r at =
      let f = r.each_fits me v at in
      let now = f.gives n is in
      let views : List (View E) = set s.views me (giving_view v) in
      let last : ℕ = length views in
      let account : Account E = numbered r.account n last in
      let new : View E = numbered_view v in
      let mine : Fits caller_of r.account r.account.opener v = subst (λ seat. Fits caller_of r.account seat v) (sym now.1) f in
      record {
        account = account;
        word_counts = r.word_counts;
        value_is_home = r.value_is_home;
        numbers_given = given_more caller_of r.account.given (n + 1) r.account.history (let g = now.0 in omega arith) r.numbers_given;
        longest_seen = some_more views new (λ seat u h. h) (some_set s.views me (giving_view v) at (λ h. h) (λ seat u h. h) r.longest_seen);
        one_holds = λ held. some_more views new (λ seat u h. h) (some_set s.views me (giving_view v) at (λ h. h) (λ seat u h. h) (r.one_holds held));
        one_gives = some_more views new (λ seat u h. h) (me, giving_view v, set_here s.views me (giving_view v) (at_inside s.views me v at), (now.1, ap next_number is));
        one_owns = λ number l. dite (ℕ_discrete number n)
            (λ e. (last, new, at_last views new last refl, (owns_new r.account n last now.0 number e, subst (λ o. Has (own_number o ++ []) number) (sym is) (inl (sym e)))))
            (λ ne. let stays = owns_old r.account n last now.0 number ne in
            some_more views new (λ seat u h. h)
            (some_set s.views me (giving_view v) at (λ h. (stays ∙ h.0, h.1)) (λ seat u h. (stays ∙ h.0, h.1)) (r.one_owns number (let g = now.0 in omega arith))));
        each_fits = each_more (Fits caller_of account) views new (new_fits r.account n last now.0 me v is r.numbers_given f)
            (each_set (Fits caller_of account) s.views me (giving_view v) (subst (λ seat. Fits caller_of account seat (giving_view v)) now.1 (giver_fits r.account n last now.0 v is mine))
            (λ seat u far here. others_fit r.account n last now.0 seat u (λ e. far (e ∙ now.1)) (r.each_fits seat u here)));
      }
