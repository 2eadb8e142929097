-- The steps by which members are put into groups.
use Rattle.std.proofs.Common.{◌≡◌, refl, ap, sym, ◌∙◌, subst, ℕ, ◌+◌, ◌%◌, ◌<◌, ◌≤◌, List, [], ◌∷◌, ◌++◌, map, length, get_or, set, inl, inr, Bool, true, false, cond, arith}
use Rattle.std.specs.Prelude.{bytes_eq, nat_lt, sum_by, Result, Ok, Err, OnOk}
use Rattle.std.specs.Cmp.Lexicographic.{slice_cmp}
use Rattle.std.specs.Ordering.{is_eq, nat_cmp}
use Rattle.std.specs.List.{All, AllByRecursion}
use Rattle.std.proofs.lemmas.Bool.{cases_eq, cases_lt}
use Rattle.std.proofs.lemmas.Bool.Decides.{Decides-eqb, Decides-ltb}
use Rattle.std.proofs.lemmas.List.{get_or_append_left, get_or_push, get_or-map, get_or-set_other, get_or-set_same, length-map, length-set, length_push, map-set, map_push}
use Rattle.std.proofs.lemmas.List.Elements.{All-nil, All-push, All-set, recursion_from_All}
use Rattle.std.proofs.lemmas.List.Sums.{sum_by-cons, sum_by-set, sum_by_push}
use Rattle.std.proofs.Math.Seq.{map-set_same}
use Rattle.std.proofs.lemmas.Map.Text.{is_eq-slice_cmp}
use Rattle.list_laws.proofs.ListLemmas.{same_texts, texts_same}
use Rattle.lake_model.specs.Texts.{Text}
use Rattle.lake_model.specs.Tables.{Table}
use Rattle.search_model.specs.Segment.{Token}
use Rattle.search_model.specs.declared.TokenAt.{TokenAt}
use Rattle.token_order.specs.Fronts.{front_of, rest_by}
use Rattle.token_order.specs.Grouping.{group_at, group_of, keys_so_far, no_group, with_member, AreGrouped, HasKey, IsProbe}
use Rattle.token_order.specs.Groups.{group_key, group_token, often_as, AreGroups}
use Rattle.token_order.specs.Keyed.{front_held, IsKeyed}
use Rattle.token_order.specs.Places.{pointed_by, IsThere}
use Rattle.token_order.specs.declared.columns.ColumnAt.{ColumnAt}
use Rattle.token_order.specs.declared.groups.Group.{Group}
use Rattle.token_order.specs.declared.groups.Probe.{Probe}
use Rattle.token_order.specs.declared.keyed.Keyed.{Keyed}
use Rattle.token_order.proofs.FrontLemmas.{compared, compared_by}

-- ---- plain lists

-- a list of numbers above 0 is no longer than their sum
pub long_sum : {X : Type 0} (f : X → ℕ) (xs : List X) → AllByRecursion (λ x. 0 < f x) xs → length xs ≤ sum_by f xs
long_sum f [] h = omega arith
long_sum f (x ∷ xs) h = omega (arith, h.0, long_sum f xs h.1, sum_by-cons f x xs)

-- what f gives at numbers is what g gives, if they agree below a bound and the numbers are below it
map_below : {Y : Type 0} (f g : ℕ → Y) (bound : ℕ) → ((n : ℕ) → n < bound → f n ≡ g n) → (ns : List ℕ) → AllByRecursion (λ n. n < bound) ns → map f ns ≡ map g ns
map_below f g bound same [] h = refl
map_below f g bound same (n ∷ ns) h = λ i. same n h.0 i ∷ map_below f g bound same ns h.1 i

-- one more of a key is counted for that key alone
cond_more : (b : Bool) (n : ℕ) → cond b (n + 1) 0 ≡ cond b n 0 + cond b 1 0
cond_more true n = refl
cond_more false n = refl

-- an index that a test found to be within a list
pub slice_within : {X : Type 0} (i : ℕ) (lent xs : List X) → nat_lt i (length lent) ≡ true → lent ≡ xs → i < length xs
slice_within i lent xs test same = omega (arith, (Decides-ltb i (length lent)).0 test, ap length same)

-- what follows from two facts on a value follows if there is a value
pub on_both : {T E P Q R : Type 0} (r : Result T E) → (P → Q → R) → OnOk r P → OnOk r Q → OnOk r R
on_both (Ok x) f p q = f p q
on_both (Err e) f p q = tt

-- texts whose fronts are equal and even are equal
pub same_fronts : (a b : Text) → All (λ byte. byte < 256) a → All (λ byte. byte < 256) b → front_of a ≡ front_of b → front_of a % 2 ≡ 0 → a ≡ b
same_fronts a b within_a within_b same even =
    let whole : (text : Text) → front_of text % 2 ≡ 0 → front_of text ∷ rest_by (front_of text) text ≡ front_of text ∷ [] = λ text e.
    ap (λ c. front_of text ∷ cond c [] text) ((Decides-eqb (front_of text % 2) 0).1 e) in
    let order = slice_cmp nat_cmp in
    let alike : compared_by 15 b ≡ compared_by 15 a = whole b (ap (λ n. n % 2) (sym same) ∙ even) ∙ ap (λ (n : ℕ). n ∷ []) (sym same) ∙ sym (whole a even) in
    same_texts a b (
    sym (is_eq-slice_cmp a b)
    ∙ ap is_eq (sym (compared 15 a b within_a within_b) ∙ ap (order (compared_by 15 a)) alike ∙ compared 15 a a within_a within_a)
    ∙ is_eq-slice_cmp a a
    ∙ texts_same a a refl
    )

-- ---- groups

module _ (tables : List Table) (columns : List ColumnAt) where
  -- the key of a group
  abbrev key_of : Group → Text
  key_of group = pointed_by tables columns group.keyed.member

  abbrev token_of : Group → Token
  token_of group = group_token tables columns group

  -- the key of a group that is in the list
  pub group_key_is : (groups : List Group) (i : ℕ) (d : Group) → i < length groups → group_key tables columns groups i ≡ key_of (get_or groups i d)
  group_key_is groups i d within = get_or-map key_of groups i d [] within

  -- a group that has the key, if the fronts are equal and even
  pub has_by_front : (groups : List Group) (i : ℕ) (probe : Probe) (d : Group) → i < length groups → IsKeyed tables columns (get_or groups i d).keyed → IsProbe tables columns probe → front_held (get_or groups i d).keyed ≡ front_held probe.keyed → front_held probe.keyed % 2 ≡ 0
      → HasKey tables columns groups probe.key.now i
  has_by_front groups i probe d within is probed same even =
      let group = get_or groups i d in
      let fronts : front_of (key_of group) ≡ front_of (pointed_by tables columns probe.keyed.member) = sym is.front ∙ same ∙ probed.keyed.front in
      let e : front_of (key_of group) % 2 ≡ 0 = ap (λ n. n % 2) (sym is.front ∙ same) ∙ even in
      record { within = within; same = group_key_is groups i d within ∙ same_fronts (key_of group) (pointed_by tables columns probe.keyed.member) is.bytes probed.keyed.bytes fronts e ∙ probed.key }

  -- the members so far are in groups by any list of their keys
  pub groups_again : (keys : List Text) (groups : List Group) (numbers : List ℕ) → AreGroups tables columns keys groups numbers → AreGrouped tables columns groups numbers
  groups_again keys groups numbers are = subst (λ (ks : List Text). AreGroups tables columns ks groups numbers) (sym are.same) are

  pub groups_more : (keys more : List Text) (groups after : List Group) (numbers later : List ℕ) → AreGroups tables columns keys groups numbers → AreGroups tables columns (keys_so_far tables columns groups numbers ++ more) after later → AreGroups tables columns (keys ++ more) after later
  groups_more keys more groups after numbers later are then = subst (λ (ks : List Text). AreGroups tables columns (ks ++ more) after later) are.same then

  pub groups_none : AreGroups tables columns [] [] []
  groups_none =
      record {
        keyed = All-nil (λ g. IsKeyed tables columns g.keyed);
        within = All-nil (λ g. IsThere tables columns g.keyed.member);
        numbered = λ i d b. absurd (omega arith);
        some = All-nil (λ g. 0 < g.frequency);
        counted = λ key. refl;
        total = refl;
        long = refl;
        inside = All-nil (λ number. number < 0);
        same = refl;
      }

  -- no more groups than members
  pub groups_few : (keys : List Text) (groups : List Group) (numbers : List ℕ) → AreGroups tables columns keys groups numbers → length groups ≤ length keys
  groups_few keys groups numbers are = omega (arith, are.total, long_sum (λ g. g.frequency) groups (recursion_from_All (λ (g : Group). 0 < g.frequency) groups are.some))

  -- one more member of a group
  pub groups_count : (keys : List Text) (groups : List Group) (numbers : List ℕ) (i : ℕ) (key : Text) → AreGroups tables columns keys groups numbers → HasKey tables columns groups key i
      → AreGroups tables columns (keys ++ key ∷ []) (set groups i (with_member (group_at groups i))) (numbers ++ i ∷ [])
  groups_count keys groups numbers i key are has =
      let old = group_at groups i in
      let new = with_member old in
      let after = set groups i new in
      let long : length after ≡ length groups = length-set groups i new in
      let same : map key_of after ≡ map key_of groups = map-set_same key_of groups i new no_group refl in
      let named : key_of old ≡ key = sym (group_key_is groups i no_group has.within) ∙ has.same in
      record {
        keyed = All-set (λ g. IsKeyed tables columns g.keyed) groups i new (are.keyed i no_group has.within) are.keyed;
        within = All-set (λ g. IsThere tables columns g.keyed.member) groups i new (are.within i no_group has.within) are.within;
        numbered = λ j d b. elim (cases_eq j i) [
          | inl e ↦
              ap (λ (k : ℕ). (get_or after k d).number) e
              ∙ ap (λ (g : Group). g.number) (get_or-set_same groups i new d has.within)
              ∙ are.numbered i no_group has.within
              ∙ sym e
          | inr ne ↦ ap (λ (g : Group). g.number) (get_or-set_other groups i j new d ne) ∙ are.numbered j d (omega (arith, b, long))
        ];
        some = All-set (λ g. 0 < g.frequency) groups i new (omega arith) are.some;
        counted = λ q.
            let tokens = map token_of groups in
            let f = often_as q in
            let none = token_of no_group in
            omega (
              arith,
              ap (λ (ts : List Token). sum_by f ts) (map-set token_of groups i new),
              sum_by-set f tokens i (token_of new) none (omega (arith, has.within, length-map groups token_of)),
              ap f (get_or-map token_of groups i no_group none has.within),
              cond_more (bytes_eq q (key_of old)) old.frequency,
              ap {B = ℕ} (λ (k : Text). cond (bytes_eq q k) 1 0) named,
              are.counted q,
              sum_by_push (λ (y : Text). cond (bytes_eq q y) 1 0) keys key,
            );
        total = omega (arith, sum_by-set (λ g. g.frequency) groups i new no_group has.within, are.total, length_push keys key);
        long = omega (arith, length_push numbers i, length_push keys key, are.long);
        inside = λ k d b. omega (arith, long, All-push (λ n. n < length groups) numbers i are.inside has.within k d b);
        same =
            ap (λ (names : List Text). map (λ n. get_or names n []) (numbers ++ i ∷ [])) same
            ∙ map_push (group_key tables columns groups) numbers i
            ∙ (λ t. are.same t ++ has.same t ∷ []);
      }

  -- a new group with its first member
  pub groups_begin : (keys : List Text) (groups : List Group) (numbers : List ℕ) (keyed : Keyed) (key : Text) → AreGroups tables columns keys groups numbers → IsKeyed tables columns keyed → IsThere tables columns keyed.member → pointed_by tables columns keyed.member ≡ key
      → AreGroups tables columns (keys ++ key ∷ []) (groups ++ group_of keyed (length groups) ∷ []) (numbers ++ length groups ∷ [])
  groups_begin keys groups numbers keyed key are is there named =
      let new = group_of keyed (length groups) in
      let after = groups ++ new ∷ [] in
      let long : length after ≡ length groups + 1 = length_push groups new in
      let old_keys : (n : ℕ) → n < length groups → group_key tables columns after n ≡ group_key tables columns groups n = λ n b.
      group_key_is after n no_group (omega (arith, long, b))
      ∙ ap key_of (get_or_append_left groups (new ∷ []) no_group n b)
      ∙ sym (group_key_is groups n no_group b) in
      let new_key : group_key tables columns after (length groups) ≡ key =
      group_key_is after (length groups) no_group (omega (arith, long))
      ∙ ap key_of (get_or_push groups new no_group (length groups) refl)
      ∙ named in
      record {
        keyed = All-push (λ g. IsKeyed tables columns g.keyed) groups new are.keyed is;
        within = All-push (λ g. IsThere tables columns g.keyed.member) groups new are.within there;
        numbered = λ j d b. elim (cases_lt j (length groups)) [
          | inl l ↦ ap (λ (g : Group). g.number) (get_or_append_left groups (new ∷ []) d j l) ∙ are.numbered j d l
          | inr g ↦
              let at : j ≡ length groups = omega (arith, g, b, long) in
              ap (λ (g : Group). g.number) (get_or_push groups new d j (sym at)) ∙ sym at
        ];
        some = All-push (λ g. 0 < g.frequency) groups new are.some (omega arith);
        counted = λ q.
            let f = often_as q in
            omega (
              arith,
              ap (λ (ts : List Token). sum_by f ts) (map_push token_of groups new),
              sum_by_push f (map token_of groups) (token_of new),
              ap {B = ℕ} (λ (k : Text). cond (bytes_eq q k) 1 0) named,
              are.counted q,
              sum_by_push (λ (y : Text). cond (bytes_eq q y) 1 0) keys key,
            );
        total = omega (arith, sum_by_push (λ g. g.frequency) groups new, are.total, length_push keys key);
        long = omega (arith, length_push numbers (length groups), length_push keys key, are.long);
        inside = λ k d b. elim (cases_lt k (length numbers)) [
          | inl l ↦
              let e = get_or_append_left numbers (length groups ∷ []) d k l in
              omega (arith, e, long, are.inside k d l)
          | inr g ↦
              let at : k ≡ length numbers = omega (arith, g, b, length_push numbers (length groups)) in
              omega (arith, get_or_push numbers (length groups) d k (sym at), long)
        ];
        same =
            map_push (group_key tables columns after) numbers (length groups)
            ∙ (λ t. map_below (group_key tables columns after) (group_key tables columns groups) (length groups) old_keys numbers (recursion_from_All (λ n. n < length groups) numbers are.inside) t ++ new_key t ∷ [])
            ∙ ap (λ (ks : List Text). ks ++ key ∷ []) are.same;
      }

  -- the front that a probe took from the key is that of the member's key
  pub keyed_is : (keyed : Keyed) (member : TokenAt) (key : Text) → keyed.member ≡ member → pointed_by tables columns member ≡ key → front_held keyed ≡ front_of key → All (λ byte. byte < 256) key → IsKeyed tables columns keyed
  keyed_is keyed member key is named front bytes =
      let e : pointed_by tables columns keyed.member ≡ key = ap (pointed_by tables columns) is ∙ named in
      record { front = front ∙ ap front_of (sym e); bytes = subst (All (λ byte. byte < 256)) (sym e) bytes }

  -- the same two steps, on lists that are given by equations
  pub groups_counted : (keys : List Text) (groups after : List Group) (numbers later : List ℕ) (i : ℕ) (key : Text) → AreGroups tables columns keys groups numbers → HasKey tables columns groups key i
      → after ≡ set groups i (with_member (group_at groups i)) → later ≡ numbers ++ i ∷ [] → AreGroups tables columns (keys ++ key ∷ []) after later
  groups_counted keys groups after numbers later i key are has e f =
      subst (λ (gs : List Group). AreGroups tables columns (keys ++ key ∷ []) gs later) (sym e)
      (subst (AreGroups tables columns (keys ++ key ∷ []) (set groups i (with_member (group_at groups i)))) (sym f) (groups_count keys groups numbers i key are has))

  pub groups_began : (keys : List Text) (groups after : List Group) (numbers later : List ℕ) (keyed : Keyed) (member : TokenAt) (key : Text) → AreGroups tables columns keys groups numbers → IsKeyed tables columns keyed → keyed.member ≡ member → IsThere tables columns member → pointed_by tables columns member ≡ key
      → after ≡ groups ++ group_of keyed (length groups) ∷ [] → later ≡ numbers ++ length groups ∷ [] → AreGroups tables columns (keys ++ key ∷ []) after later
  groups_began keys groups after numbers later keyed member key are is at there named e f =
      subst (λ (gs : List Group). AreGroups tables columns (keys ++ key ∷ []) gs later) (sym e)
      (subst (AreGroups tables columns (keys ++ key ∷ []) (groups ++ group_of keyed (length groups) ∷ [])) (sym f)
      (groups_begin keys groups numbers keyed key are is (subst (IsThere tables columns) (sym at) there) (ap (pointed_by tables columns) at ∙ named)))
