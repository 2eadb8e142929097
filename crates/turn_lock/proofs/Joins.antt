-- The rule is kept when one seat takes in another, which is then spent.
use Rattle.std.proofs.Common.{◌≡◌, ◌≢◌, ◌⊎◌, ℕ, eqb, false, true≢false, List, ◌++◌, length, set, None, refl, sym, ap, ◌∙◌, inl, inr, ⊎_elim, arith}
use mathlib.Core.Option as maybe
use mathlib.Core.List.{IsPrefix}
use lib.ListN.{get_elem?}
use prog.Atomic.{either}
use Rattle.atomic_table.specs.Table.{Joins}
use Rattle.atomic_table.proofs.Lists.{at_set, exchanged}
use Rattle.turn_lock.specs.declared.view.View.{View}
use Rattle.turn_lock.specs.History.{Has}
use Rattle.turn_lock.specs.Rule.{Account, own_number, numbers_of, spent_view, joined_view, Fits}
use Rattle.turn_lock.proofs.Histories.{has_append, has_left, has_right, others_of_none, grows_prefix, IsLonger, longer_grows, prefix_whole, prefix_length}
use Rattle.turn_lock.proofs.ViewLists.{some_joined, each_set}
use Rattle.turn_lock.proofs.Looks.{Rule, not_held, not_given}

-- ---- the callers of a joined view are those of both views

module _ {E : Type 0} (v w : View E) (number : ℕ) where
  has_either : Has (numbers_of (joined_view v w)) number → Has (numbers_of v) number ⊎ Has (numbers_of w) number
  has_either h = ⊎_elim (λ a. inl (has_left (own_number v.caller) v.ended number a))
      (λ b. ⊎_elim (λ d. inr d) (λ d. inl (has_right (own_number v.caller) v.ended number d)) (has_append (numbers_of w) v.ended number b)) (has_append (own_number v.caller) (numbers_of w ++ v.ended) number h)

  has_mine : Has (numbers_of v) number → Has (numbers_of (joined_view v w)) number
  has_mine h = ⊎_elim (λ a. has_left (own_number v.caller) (numbers_of w ++ v.ended) number a)
      (λ b. has_right (own_number v.caller) (numbers_of w ++ v.ended) number (has_right (numbers_of w) v.ended number b)) (has_append (own_number v.caller) v.ended number h)

  has_theirs : Has (numbers_of w) number → Has (numbers_of (joined_view v w)) number
  has_theirs h = has_right (own_number v.caller) (numbers_of w ++ v.ended) number (has_left (numbers_of w) v.ended number h)

-- if a list is the whole, then a list that it begins, and that begins the whole, is the whole as well
whole_behind : {A : Type 0} (xs ys whole : List A) → IsPrefix xs ys → IsPrefix ys whole → xs ≡ whole → ys ≡ whole
whole_behind xs ys whole p q e = prefix_whole ys whole q (let a = prefix_length xs ys p in let b : length xs ≡ length whole = ap length e in omega arith)

module _ {V E : Type 0} (list : V → List E) (caller_of : E → ℕ) where
  -- a spent view always fits
  spent_fits : (account : Account E) (seat : ℕ) → Fits caller_of account seat spent_view
  spent_fits account seat = record {
    seen_begins = record { rest = account.history; begins = refl; others = others_of_none caller_of account.history };
    earlier_begin = tt;
    owns = λ number h. absurd h;
    holds = λ h. absurd (not_held h);
    gives = λ count e. absurd (not_given count e);
  }

  -- the account after the numbers of one seat went to another
  handed : Account E → ℕ → ℕ → Account E
  handed account me other = record { history = account.history; given = account.given; opener = account.opener; owner = λ number. either (eqb (account.owner number) other) me (account.owner number); held = account.held; holder = account.holder }

  module _ (account : Account E) (me other : ℕ) where
    owns_theirs : (number : ℕ) → account.owner number ≡ other → (handed account me other).owner number ≡ me
    unfolding handed
    owns_theirs number e = exchanged (account.owner number) other me (λ x. x ≡ me) (λ _. refl) (λ n. absurd (n e))

    owns_mine : (number : ℕ) → account.owner number ≡ me → (handed account me other).owner number ≡ me
    unfolding handed
    owns_mine number e = exchanged (account.owner number) other me (λ x. x ≡ me) (λ _. refl) (λ _. e)

    owns_still : (seat number : ℕ) → seat ≢ other → account.owner number ≡ seat → (handed account me other).owner number ≡ seat
    unfolding handed
    owns_still seat number far o = exchanged (account.owner number) other me (λ x. x ≡ seat) (λ e. absurd (far (sym o ∙ e))) (λ _. o)

    others_fit : (seat : ℕ) (u : View E) → seat ≢ other → Fits caller_of account seat u → Fits caller_of (handed account me other) seat u
    unfolding handed
    others_fit seat u far f = record {
      seen_begins = f.seen_begins;
      earlier_begin = f.earlier_begin;
      owns = λ number h. let o = f.owns number h in (o.0, owns_still seat number far o.1);
      holds = f.holds;
      gives = f.gives;
    }

    module _ (v w : View E) (f : Fits caller_of account me v) (g : Fits caller_of account other w) where
      both_lists : IsLonger caller_of (numbers_of (joined_view v w)) (numbers_of v) (numbers_of w) v.seen w.seen account.history (joined_view v w).seen
      both_lists = longer_grows caller_of (numbers_of (joined_view v w)) (numbers_of v) (numbers_of w) v.seen w.seen account.history (has_either v w) f.seen_begins g.seen_begins

      -- if one of the two has seen everything, the joined view has too
      sees_mine : v.seen ≡ account.history → (joined_view v w).seen ≡ account.history
      sees_mine e = whole_behind v.seen (joined_view v w).seen account.history (grows_prefix caller_of both_lists.from_first) (grows_prefix caller_of both_lists.begins) e

      sees_theirs : w.seen ≡ account.history → (joined_view v w).seen ≡ account.history
      sees_theirs e = whole_behind w.seen (joined_view v w).seen account.history (grows_prefix caller_of both_lists.from_second) (grows_prefix caller_of both_lists.begins) e

      joined_fits : Fits caller_of (handed account me other) me (joined_view v w)
      unfolding handed
      joined_fits = record {
        seen_begins = both_lists.begins;
        earlier_begin = (both_lists.from_first, (both_lists.from_second, tt));
        owns = λ number h. ⊎_elim
            (λ a. let o = f.owns number a in (o.0, owns_mine number o.1))
            (λ b. let o = g.owns number b in (o.0, owns_theirs number o.1))
            (has_either v w number h);
        holds = λ h. let t = f.holds h in (t.0, t.1, sees_mine t.2);
        gives = f.gives;
      }

  pub joins : (me : ℕ) (v : View E) (other : ℕ) (w : View E) → w.holds ≡ false → w.given ≡ None → Joins (Rule list caller_of) me v other w (joined_view v w) spent_view
  unfolding handed
  joins me v other w free plain s r at apart there =
      let both : View E = joined_view v w in
      let stood : get_elem? s.views other ≡ maybe.some w = ⊎_elim (λ (t : (other ≡ me) × (both ≡ w)). absurd (apart t.0)) (λ (t : (other ≢ me) × (get_elem? s.views other ≡ maybe.some w)). t.1) (at_set s.views me other both w there) in
      let f = r.each_fits me v at in
      let g = r.each_fits other w stood in
      let account : Account E = handed r.account me other in
      record {
        account = account;
        word_counts = r.word_counts;
        value_is_home = r.value_is_home;
        numbers_given = r.numbers_given;
        longest_seen = some_joined s.views me other both spent_view at stood apart (sees_mine r.account me other v w f g) (sees_theirs r.account me other v w f g) (λ seat u far h. h) r.longest_seen;
        one_holds = λ held. some_joined s.views me other both spent_view at stood apart (λ h. h) (λ h. absurd (true≢false (sym h.1 ∙ free))) (λ seat u far h. h) (r.one_holds held);
        one_gives = some_joined s.views me other both spent_view at stood apart (λ h. h) (λ h. absurd (not_given r.account.given (sym plain ∙ h.1))) (λ seat u far h. h) r.one_gives;
        one_owns = λ number l. some_joined s.views me other both spent_view at stood apart
            (λ h. (owns_mine r.account me other number h.0, has_mine v w number h.1))
            (λ h. (owns_theirs r.account me other number h.0, has_theirs v w number h.1))
            (λ seat u far h. (owns_still r.account me other seat number far h.0, h.1)) (r.one_owns number l);
        each_fits = each_set (Fits caller_of account) (set s.views me both) other spent_view (spent_fits account other)
            (λ seat u far here. each_set (λ k x. k ≢ other → Fits caller_of account k x) s.views me both (λ _. joined_fits r.account me other v w f g)
            (λ k x _ at' far'. others_fit r.account me other k x far' (r.each_fits k x at')) seat u here far);
      }
