-- The rule is kept when the lock is won, when the holder's entry is added to the history, and when the lock is freed.
use Rattle.std.proofs.Common.{◌≡◌, ◌≢◌, ℕ, ◌+◌, ◌*◌, eqb, Bool, true, false, true≢false, List, [], ◌∷◌, ◌++◌, length, set, get_or, Some, None, refl, sym, ap, ◌∙◌, subst, inl, ⊎_elim, arith, length-append}
use Rattle.std.specs.declared.option.Option.{Option}
use mathlib.Core.Option as maybe
use lib.ListN.{get_elem?}
use prog.Atomic.{either}
use Rattle.atomic_table.specs.Table.{State, Step, step, keeps, Act, takes, gives, put_back, Valid, carried_after, stepped, Allows}
use Rattle.atomic_table.proofs.Lists.{set_here, exchanged}
use Rattle.turn_lock.specs.declared.view.View.{View}
use Rattle.turn_lock.specs.History.{Has, Grows, IsOfGiven}
use Rattle.turn_lock.specs.Rule.{Account, held_bit, own_number, view_of, numbers_of, settled_view, holding_view, free_view, Fits, HasHome, Seated, Looks, Takes, Commits, Releases}
use Rattle.turn_lock.specs.Passes.{Offers}
use Rattle.turn_lock.proofs.Histories.{grows_self, grows_by_entry, given_append}
use Rattle.turn_lock.proofs.ViewLists.{at_inside, some_set, each_set}
use Rattle.turn_lock.proofs.Looks.{Rule, not_held, unmoved}

-- a word of a lock that is held is odd
even_word : (count half : ℕ) (held : Bool) → 2 * count + held_bit held ≡ 2 * half → held ≡ false
even_word count half true e = absurd (omega arith)
even_word count half false e = refl

module _ {V E : Type 0} (list : V → List E) (caller_of : E → ℕ) where
  word_of : (s : State (Option V) (View E)) (r : Rule list caller_of s) → get_or s.words 0 0 ≡ 2 * length r.account.history + held_bit r.account.held
  word_of s r = ap (λ (words : List ℕ). get_or words 0 0) r.word_counts

  -- the account when a seat holds the lock, and when none does
  with_holder : Account E → List E → ℕ → Account E
  with_holder account history seat = record { history = history; given = account.given; opener = account.opener; owner = account.owner; held = true; holder = seat }

  with_none : Account E → Account E
  with_none account = record { history = account.history; given = account.given; opener = account.opener; owner = account.owner; held = false; holder = account.holder }

  -- ---- the lock is won

  module _ (account : Account E) (me : ℕ) (free : account.held ≡ false) where
    winner_fits : (v : View E) (seen : List E) → seen ≡ account.history → Fits caller_of account me v → Fits caller_of (with_holder account account.history me) me (holding_view v seen)
    unfolding with_holder
    winner_fits v seen whole f = record {
      seen_begins = subst (λ l. Grows caller_of (numbers_of v) l account.history) (sym whole) (grows_self caller_of (numbers_of v) account.history);
      earlier_begin = tt;
      owns = f.owns;
      holds = λ _. (refl, refl, whole);
      gives = f.gives;
    }

    -- no other seat holds it
    losers_fit : (seat : ℕ) (u : View E) → Fits caller_of account seat u → Fits caller_of (with_holder account account.history me) seat u
    unfolding with_holder
    losers_fit seat u f = record {
      seen_begins = f.seen_begins;
      earlier_begin = f.earlier_begin;
      owns = f.owns;
      holds = λ h. absurd (true≢false (sym (f.holds h).0 ∙ free));
      gives = f.gives;
    }

  pub wins : (slots me : ℕ) (seated : Seated list caller_of) (old new half : ℕ) → old ≡ 2 * half → new ≡ old + 1
      → Allows (Rule list caller_of) slots me seated 0 (λ x. either (eqb x old) new x) (Takes list caller_of (step slots 0 old new maybe.none) seated)
  unfolding with_holder
  wins slots me seated old new half even up s r _ at _ =
      let word : ℕ = get_or s.words 0 0 in
      let v : View E = seated.0 in
      let f = r.each_fits me v at in
      exchanged word old new (λ k. (w : View E) × (a : Act (Option V)) × Valid s.homes seated.1 a × Rule list caller_of (stepped s 0 k me seated.1 w a) × Takes list caller_of (step slots 0 old new maybe.none) seated word (w, carried_after seated.1 a))
      (λ hit.
      let free : r.account.held ≡ false = even_word (length r.account.history) half r.account.held (sym (word_of s r) ∙ (hit ∙ even)) in
      let count : word ≡ 2 * length r.account.history = word_of s r ∙ (ap (λ held. 2 * length r.account.history + held_bit held) free ∙ omega arith) in
      let home = subst (λ held. HasHome list held r.account.history s.homes) free r.value_is_home in
      let value : V = home.0 in
      let whole : list value ≡ r.account.history = home.2 in
      let w : View E = holding_view v (list value) in (
        w,
        takes 0 (Some value),
        ap (λ (hs : List (maybe.Option (Option V))). get_elem? hs 0) home.1,
        record {
          account = with_holder r.account r.account.history me;
          word_counts = ap (λ (words : List ℕ). set words 0 new) r.word_counts ∙ ap (λ (k : ℕ). k ∷ []) (omega arith);
          value_is_home = ap (λ (hs : List (maybe.Option (Option V))). set hs 0 maybe.none) home.1;
          numbers_given = r.numbers_given;
          longest_seen = some_set s.views me w at (λ _. whole) (λ seat u h. h) r.longest_seen;
          one_holds = λ _. (me, w, set_here s.views me w (at_inside s.views me v at), (refl, refl));
          one_gives = some_set s.views me w at (λ h. h) (λ seat u h. h) r.one_gives;
          one_owns = λ number l. some_set s.views me w at (λ h. h) (λ seat u h. h) (r.one_owns number l);
          each_fits = each_set (Fits caller_of (with_holder r.account r.account.history me)) s.views me w (winner_fits r.account me free v (list value) whole f)
              (λ seat u _ here. losers_fit r.account me free seat u (r.each_fits seat u here));
        },
        (
          (λ _. record {
            value = value;
            holds = refl;
            grows = subst (λ l. Grows caller_of (numbers_of v) v.seen l) (sym whole) f.seen_begins;
            given = λ given e. subst (λ l. IsOfGiven caller_of given l) (sym whole) (subst (λ k. IsOfGiven caller_of k r.account.history) (sym (f.gives given e).0) r.numbers_given);
          }),
          (λ miss. absurd (miss hit)),
        ),
      ))
      (λ miss. (
        settled_view v,
        keeps,
        tt,
        unmoved list caller_of s r me seated.1 v at,
        ((λ hit. absurd (miss hit)), (λ _. refl)),
      ))

  -- ---- the holder's entry is added

  abbrev content_or : V → Option V → V
  content_or default None = default
  content_or default (Some value) = value

  abbrev value_in_hand : V → List (ℕ × Option V) → V
  value_in_hand default [] = default
  value_in_hand default (first ∷ others) = content_or default first.1

  module _ (account : Account E) (me : ℕ) (value : V) (entry : E) (longer_by : list value ≡ account.history ++ entry ∷ []) (mine : account.owner (caller_of entry) ≡ me) (holder : account.holder ≡ me) where
    adder_fits : (v : View E) → Fits caller_of account me v → Fits caller_of (with_holder account (list value) me) me (holding_view v (list value))
    unfolding with_holder
    adder_fits v f = record {
      seen_begins = grows_self caller_of (numbers_of v) (list value);
      earlier_begin = tt;
      owns = f.owns;
      holds = λ _. (refl, refl, refl);
      gives = f.gives;
    }

    -- for all other seats the entry is another caller's
    watchers_fit : (seat : ℕ) (u : View E) → seat ≢ me → Fits caller_of account seat u → Fits caller_of (with_holder account (list value) me) seat u
    unfolding with_holder
    watchers_fit seat u far f = record {
      seen_begins = subst (λ l. Grows caller_of (numbers_of u) u.seen l) (sym longer_by) (grows_by_entry caller_of entry f.seen_begins (λ m. far (sym (f.owns (caller_of entry) m).1 ∙ mine)));
      earlier_begin = f.earlier_begin;
      owns = f.owns;
      holds = λ k. absurd (far (sym (f.holds k).1 ∙ holder));
      gives = f.gives;
    }

  pub commits : (slots me : ℕ) (seated : Seated list caller_of) (value : V) (entry : E) (new : ℕ) → new ≡ 2 * length (list value) + 1 → seated.1 ≡ (0, Some value) ∷ [] → seated.0.holds ≡ true
      → seated.0.caller ≡ Some (caller_of entry) → list value ≡ seated.0.seen ++ entry ∷ []
      → Allows (Rule list caller_of) slots me seated 0 (λ _. new) (λ _. Commits list caller_of (step slots 0 new 0 maybe.none) seated new)
  unfolding with_holder
  commits slots me seated value entry new is hand holds caller more s r _ at _ =
      let v : View E = seated.0 in
      let f = r.each_fits me v at in
      let t = f.holds holds in
      let out : s.homes ≡ maybe.none ∷ [] = subst (λ held. HasHome list held r.account.history s.homes) t.0 r.value_is_home in
      let longer_by : list value ≡ r.account.history ++ entry ∷ [] = more ∙ ap (λ l. l ++ entry ∷ []) t.2 in
      let own = f.owns (caller_of entry) (subst (λ o. Has (own_number o ++ v.ended) (caller_of entry)) (sym caller) (inl refl)) in
      let w : View E = holding_view v (list value) in (
        w,
        keeps,
        tt,
        record {
          account = with_holder r.account (list value) me;
          word_counts = ap (λ (words : List ℕ). set words 0 new) r.word_counts ∙ ap (λ (k : ℕ). k ∷ []) is;
          value_is_home = out;
          numbers_given = subst (IsOfGiven caller_of r.account.given) (sym longer_by) (given_append caller_of r.account.given r.account.history (entry ∷ []) r.numbers_given (own.0, tt));
          longest_seen = (me, w, set_here s.views me w (at_inside s.views me v at), refl);
          one_holds = λ _. (me, w, set_here s.views me w (at_inside s.views me v at), (refl, refl));
          one_gives = some_set s.views me w at (λ h. h) (λ seat u h. h) r.one_gives;
          one_owns = λ number l. some_set s.views me w at (λ h. h) (λ seat u h. h) (r.one_owns number l);
          each_fits = each_set (Fits caller_of (with_holder r.account (list value) me)) s.views me w (adder_fits r.account me value entry longer_by own.1 t.1 v f)
              (λ seat u far here. watchers_fit r.account me value entry longer_by own.1 t.1 seat u far (r.each_fits seat u here));
        },
        λ other hand'. let same : value ≡ other = ap (value_in_hand value) (sym hand ∙ hand') in ap (λ z. (holding_view v (list z), seated.1)) same,
      )

  -- ---- the lock is freed

  module _ (account : Account E) (me : ℕ) (holder : account.holder ≡ me) where
    freer_fits : (v : View E) → Fits caller_of account me v → Fits caller_of (with_none account) me (free_view v)
    unfolding with_none
    freer_fits v f = record { seen_begins = f.seen_begins; earlier_begin = tt; owns = f.owns; holds = λ h. absurd (not_held h); gives = f.gives }

    waiters_fit : (seat : ℕ) (u : View E) → seat ≢ me → Fits caller_of account seat u → Fits caller_of (with_none account) seat u
    unfolding with_none
    waiters_fit seat u far f = record {
      seen_begins = f.seen_begins;
      earlier_begin = f.earlier_begin;
      owns = f.owns;
      holds = λ k. absurd (far (sym (f.holds k).1 ∙ holder));
      gives = f.gives;
    }

  pub releases : (slots me : ℕ) (seated : Seated list caller_of) (value : V) (new : ℕ) → new ≡ 2 * length (list value) → seated.1 ≡ (0, Some value) ∷ [] → seated.0.holds ≡ true → list value ≡ seated.0.seen
      → Allows (Rule list caller_of) slots me seated 0 (λ _. new) (λ _. Releases list caller_of (step slots 0 new 0 maybe.none) seated new)
  unfolding with_none
  releases slots me seated value new is hand holds same s r _ at _ =
      let v : View E = seated.0 in
      let f = r.each_fits me v at in
      let t = f.holds holds in
      let out : s.homes ≡ maybe.none ∷ [] = subst (λ held. HasHome list held r.account.history s.homes) t.0 r.value_is_home in
      let whole : list value ≡ r.account.history = same ∙ t.2 in
      let count : length (list value) ≡ length r.account.history = ap length whole in
      let w : View E = free_view v in (
        w,
        gives,
        tt,
        record {
          account = with_none r.account;
          word_counts = ap (λ (words : List ℕ). set words 0 new) r.word_counts ∙ ap (λ (k : ℕ). k ∷ []) (omega arith);
          value_is_home = (value, (ap (λ (hand : List (ℕ × Option V)). put_back s.homes hand) hand ∙ ap (λ (hs : List (maybe.Option (Option V))). set hs 0 (maybe.some (Some value))) out), whole);
          numbers_given = r.numbers_given;
          longest_seen = some_set s.views me w at (λ h. h) (λ seat u h. h) r.longest_seen;
          one_holds = λ h. absurd (not_held h);
          one_gives = some_set s.views me w at (λ h. h) (λ seat u h. h) r.one_gives;
          one_owns = λ number l. some_set s.views me w at (λ h. h) (λ seat u h. h) (r.one_owns number l);
          each_fits = each_set (Fits caller_of (with_none r.account)) s.views me w (freer_fits r.account me t.1 v f)
              (λ seat u far here. waiters_fit r.account me t.1 seat u far (r.each_fits seat u here));
        },
        refl,
      )

  -- ---- giving back

  -- the holder has looked, and the word shows that the value in hand has one more entry
  pub may_commit : (slots me : ℕ) (before after : Seated list caller_of) (count found : ℕ) → Offers list caller_of count before → Looks list caller_of before found after → found ≢ 2 * count + 1
      → Allows (Rule list caller_of) slots me after 0 (λ _. 2 * count + 1) (λ _. Commits list caller_of (step slots 0 (2 * count + 1) 0 maybe.none) after (2 * count + 1))
  may_commit slots me before after count found o looked more =
      subst (λ (z : Seated list caller_of). Allows (Rule list caller_of) slots me z 0 (λ _. 2 * count + 1) (λ _. Commits list caller_of (step slots 0 (2 * count + 1) 0 maybe.none) z (2 * count + 1))) (sym looked.settles)
      (⊎_elim
      (λ (same : list o.value ≡ before.0.seen). let a : length (list o.value) ≡ length before.0.seen = ap length same in let b = looked.counts o.holds in let k = o.counts in absurd (more (omega arith)))
      (λ (one : (entry : E) × (before.0.caller ≡ Some (caller_of entry)) × (list o.value ≡ before.0.seen ++ entry ∷ [])).
      commits slots me (settled_view before.0, before.1) o.value one.0 (2 * count + 1) (ap (λ k. 2 * k + 1) o.counts) o.hand o.holds one.1 one.2)
      o.follows)

  pub has_committed : (before after last : Seated list caller_of) (s : Step (Option V)) (stored : ℕ) → after ≡ (settled_view before.0, before.1) → Commits list caller_of s after stored last
      → (value : V) → before.1 ≡ (0, Some value) ∷ [] → last ≡ (holding_view before.0 (list value), (0, Some value) ∷ [])
  has_committed before after last s stored looked tells value h =
      tells value (ap (λ (z : Seated list caller_of). z.1) looked ∙ h) ∙ (λ i. (holding_view (looked i).0 (list value), (ap (λ (z : Seated list caller_of). z.1) looked ∙ h) i))

  -- the holder has looked, and the word shows that the value in hand has no more entries
  pub has_none_more : (before after : Seated list caller_of) (count found : ℕ) → Offers list caller_of count before → Looks list caller_of before found after → found ≡ 2 * count + 1
      → (value : V) → before.1 ≡ (0, Some value) ∷ [] → after ≡ (holding_view before.0 (list value), (0, Some value) ∷ [])
  has_none_more before after count found o looked none value h =
      let is : o.value ≡ value = ap (value_in_hand value) (sym o.hand ∙ h) in
      let v : View E = before.0 in
      let same : list value ≡ v.seen = ⊎_elim
      (λ (e : list o.value ≡ v.seen). ap list (sym is) ∙ e)
      (λ (one : (entry : E) × (v.caller ≡ Some (caller_of entry)) × (list o.value ≡ v.seen ++ entry ∷ [])).
      let a : length (list o.value) ≡ length v.seen + 1 = ap length one.2 ∙ length-append v.seen (one.0 ∷ []) in
      let b = looked.counts o.holds in let k = o.counts in absurd (omega arith))
      o.follows in
      looked.settles ∙ (λ i. (view_of v.caller v.ended v.given (sym same i) [] (o.holds i), h i))

  pub releases_held : (slots me : ℕ) (seated : Seated list caller_of) (v : View E) (value : V) (count : ℕ) → seated ≡ (holding_view v (list value), (0, Some value) ∷ []) → count ≡ length (list value)
      → Allows (Rule list caller_of) slots me seated 0 (λ _. 2 * count) (λ _. Releases list caller_of (step slots 0 (2 * count) 0 maybe.none) seated (2 * count))
  releases_held slots me seated v value count is counts =
      subst (λ (z : Seated list caller_of). Allows (Rule list caller_of) slots me z 0 (λ _. 2 * count) (λ _. Releases list caller_of (step slots 0 (2 * count) 0 maybe.none) z (2 * count))) (sym is)
      (releases slots me (holding_view v (list value), (0, Some value) ∷ []) value (2 * count) (ap (λ k. 2 * k) counts) refl refl refl)
