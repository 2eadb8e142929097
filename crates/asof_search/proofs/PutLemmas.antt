-- The index of the live put of each name.
use Rattle.std.proofs.Common.{◌≡◌, refl, ap, sym, ◌∙◌, subst, ℕ, ◌+◌, ◌<◌, List, [], ◌∷◌, ◌++◌, Bool, true, false, ◌&&◌, length, get_or, arith, cond, map, set, below_more, nat_eq, Option, Some, None}
use Rattle.std.specs.Prelude.{bytes_eq, is_none, IfSome}
use Rattle.std.proofs.lemmas.Bool.{eq-eqb, eqb-true, ne_eqb}
use Rattle.std.proofs.lemmas.Grind.{get_or-set_at}
use Rattle.std.proofs.lemmas.List.{get_or-map, get_or-set_other, get_or_append_left, get_or_default, length-append, length-map, length-set, same_lists}
use Rattle.std.proofs.Math.Seq.{get_or-append_seam}
use Rattle.std.proofs.lemmas.Option.{same_Some}
use Rattle.std.proofs.lemmas.Slice.Eq.{bytes_eq-Decides}
use Rattle.lake_model.specs.Texts.{Text}
use Rattle.lake_model.specs.Tables.{Table}
use Rattle.lake_model.specs.Journal.{has_name}
use Rattle.asof_search.specs.Puts.{IsIndexed, PutOf, end_index, end_put, is_at, is_open, no_put, put_with}

-- ---- one put

ended_name : (name : Text) (m : ℕ) (put : PutOf) → is_open name (end_put name m put) ≡ false
ended_name name m put = by put.end (has_name name put.table)
  where
    by : (end : Option ℕ) (b : Bool) → (is_none (cond (is_none end && b) (Some m) end) && b) ≡ false
    by None true = refl
    by None false = refl
    by (Some e) b = refl

ended_other : (name q : Text) (m : ℕ) (put : PutOf) → bytes_eq name q ≡ false → is_open q (end_put name m put) ≡ is_open q put
ended_other name q m put other = by put.end (has_name name put.table) refl
  where
    by : (end : Option ℕ) (b : Bool) → has_name name put.table ≡ b → (is_none (cond (is_none end && b) (Some m) end) && has_name q put.table) ≡ (is_none end && has_name q put.table)
    by None true e = sym (ap (λ (t : Text). bytes_eq t q) ((bytes_eq-Decides put.table.name name).0 e) ∙ other)
    by None false e = refl
    by (Some end) b e = refl

left_open : (name : Text) (m : ℕ) (put : PutOf) → is_open name put ≡ false → end_put name m put ≡ put
left_open name m put e = λ i. record put { end = cond (e i) (Some m) put.end }

closed : (name : Text) (m : ℕ) (put : PutOf) → is_open name put ≡ true → end_put name m put ≡ put_with put.position put.table (Some m)
closed name m put e = λ i. record put { end = cond (e i) (Some m) put.end }

-- ---- one of them ends

at_index : (puts : List PutOf) (name : Text) (m k : ℕ) (d : PutOf) → k < length puts → get_or (map (end_put name m) puts) k d ≡ end_put name m (get_or puts k no_put)
at_index puts name m k d h = get_or-map (end_put name m) puts k no_put d h

pub end_index_is : (puts : List PutOf) (index : Text → Option ℕ) (name : Text) (m : ℕ) → IsIndexed puts index → end_index puts (index name) m ≡ map (end_put name m) puts
end_index_is puts index name m h = by (index name) refl
  where
    none_open : index name ≡ None → (k : ℕ) (d : PutOf) → k < length puts → get_or puts k d ≡ get_or (map (end_put name m) puts) k d
    none_open e k d b =
        get_or_default puts k d no_put b ∙ sym (left_open name m (get_or puts k no_put) (h.found name k b ∙ ap (is_at k) e)) ∙ sym (at_index puts name m k d b)

    other_index : (i : ℕ) (y : PutOf) → index name ≡ Some i → (k : ℕ) (d : PutOf) → k < length puts → nat_eq k i ≡ false → (k ≡ i → ⊥) → get_or (set puts i y) k d ≡ get_or (map (end_put name m) puts) k d
    other_index i y e k d b t ne =
        get_or-set_other puts i k y d ne ∙ get_or_default puts k d no_put b ∙ sym (left_open name m (get_or puts k no_put) (h.found name k b ∙ ap (is_at k) e ∙ t)) ∙ sym (at_index puts name m k d b)

    this_index : (i : ℕ) → index name ≡ Some i → (k : ℕ) (d : PutOf) → k < length puts → nat_eq k i ≡ true → k ≡ i
        → get_or (set puts i (put_with (get_or puts i no_put).position (get_or puts i no_put).table (Some m))) k d ≡ get_or (map (end_put name m) puts) k d
    this_index i e k d b t same =
        get_or-set_at puts i k (put_with (get_or puts i no_put).position (get_or puts i no_put).table (Some m)) d same (h.within name i e)
        ∙ ap (λ (j : ℕ). put_with (get_or puts j no_put).position (get_or puts j no_put).table (Some m)) (sym same)
        ∙ sym (closed name m (get_or puts k no_put) (h.found name k b ∙ ap (is_at k) e ∙ t)) ∙ sym (at_index puts name m k d b)

    each : (i : ℕ) → index name ≡ Some i → (k : ℕ) (d : PutOf) → k < length puts → (t : Bool) → nat_eq k i ≡ t
        → get_or (set puts i (put_with (get_or puts i no_put).position (get_or puts i no_put).table (Some m))) k d ≡ get_or (map (end_put name m) puts) k d
    each i e k d b true t = this_index i e k d b t (eqb-true k i t)
    each i e k d b false t =
        other_index i (put_with (get_or puts i no_put).position (get_or puts i no_put).table (Some m)) e k d b t (λ (same : k ≡ i). let yes : nat_eq k i ≡ true = eq-eqb k i same in let never : true ≡ false = sym yes ∙ t in cc)

    by : (o : Option ℕ) → index name ≡ o → end_index puts o m ≡ map (end_put name m) puts
    by None e = same_lists puts (map (end_put name m) puts) (sym (length-map puts (end_put name m))) (none_open e)
    by (Some i) e =
        let y : PutOf = put_with (get_or puts i no_put).position (get_or puts i no_put).table (Some m) in
        same_lists (set puts i y) (map (end_put name m) puts) (length-set puts i y ∙ sym (length-map puts (end_put name m)))
        (λ k d b. let within : k < length puts = omega (arith, b, length-set puts i y) in each i e k d within (nat_eq k i) refl)

-- ---- the index afterwards

abbrev list_with : List PutOf → Text → ℕ → Table → List PutOf
list_with puts name m table = map (end_put name m) puts ++ put_with m table None ∷ []

module _ (puts : List PutOf) (index after : Text → Option ℕ) (name : Text) (m : ℕ) (h : IsIndexed puts index) where
  -- another name is found where it was
  found_other : (q : Text) (i : ℕ) → i < length puts → bytes_eq name q ≡ false → is_open q (end_put name m (get_or puts i no_put)) ≡ is_at i (index q)
  found_other q i b other = ended_other name q m (get_or puts i no_put) other ∙ h.found q i b

  found_name : (q : Text) (i : ℕ) → i < length puts → bytes_eq name q ≡ true → is_open q (end_put name m (get_or puts i no_put)) ≡ false
  found_name q i b e = ap (λ (t : Text). is_open t (end_put name m (get_or puts i no_put))) (sym ((bytes_eq-Decides name q).0 e)) ∙ ended_name name m (get_or puts i no_put)

  -- if the name is removed
  pub indexed_without : ((q : Text) → after q ≡ cond (bytes_eq name q) None (index q)) → IsIndexed (map (end_put name m) puts) after
  indexed_without is = record {
    found = λ q i b. let within : i < length puts = omega (arith, b, length-map puts (end_put name m)) in
        ap (is_open q) (at_index puts name m i no_put within) ∙ finds q i within (bytes_eq name q) refl ∙ sym (ap (is_at i) (is q));
    within = λ q i e. let b : i < length puts = stays q i (bytes_eq name q) refl (sym (is q) ∙ e) in omega (arith, b, length-map puts (end_put name m));
  }
    where
      finds : (q : Text) (i : ℕ) → i < length puts → (b : Bool) → bytes_eq name q ≡ b → is_open q (end_put name m (get_or puts i no_put)) ≡ is_at i (cond (bytes_eq name q) None (index q))
      finds q i within true e = found_name q i within e ∙ sym (ap (λ b. is_at i (cond b None (index q))) e)
      finds q i within false e = found_other q i within e ∙ sym (ap (λ b. is_at i (cond b None (index q))) e)

      stays : (q : Text) (i : ℕ) → (b : Bool) → bytes_eq name q ≡ b → cond (bytes_eq name q) None (index q) ≡ Some i → i < length puts
      stays q i true e f = let never : None ≡ Some i = sym (ap (λ b. cond b None (index q)) e) ∙ f in cc
      stays q i false e f = h.within q i (sym (ap (λ b. cond b None (index q)) e) ∙ f)

  -- if the name points to one more put
  module _ (table : Table) (named : table.name ≡ name) (is : (q : Text) → after q ≡ cond (bytes_eq name q) (Some (length puts)) (index q)) where
    past_all : (q : Text) → (o : Option ℕ) → index q ≡ o → is_at (length puts) o ≡ false
    past_all q None e = refl
    past_all q (Some j) e = ne_eqb (length puts) j (λ (f : length puts ≡ j). omega (arith, f, h.within q j e))

    finds_left : (q : Text) (i : ℕ) → i < length puts → (b : Bool) → bytes_eq name q ≡ b → is_open q (end_put name m (get_or puts i no_put)) ≡ is_at i (cond (bytes_eq name q) (Some (length puts)) (index q))
    finds_left q i within true e = found_name q i within e ∙ sym (ap (λ b. is_at i (cond b (Some (length puts)) (index q))) e ∙ ne_eqb i (length puts) (λ (f : i ≡ length puts). omega (arith, f, within)))
    finds_left q i within false e = found_other q i within e ∙ sym (ap (λ b. is_at i (cond b (Some (length puts)) (index q))) e)

    finds_new : (q : Text) (b : Bool) → bytes_eq name q ≡ b → b ≡ is_at (length puts) (cond (bytes_eq name q) (Some (length puts)) (index q))
    finds_new q true e = sym (ap (λ b. is_at (length puts) (cond b (Some (length puts)) (index q))) e ∙ eq-eqb (length puts) (length puts) refl)
    finds_new q false e = sym (ap (λ b. is_at (length puts) (cond b (Some (length puts)) (index q))) e ∙ past_all q (index q) refl)

    found_left : (q : Text) (i : ℕ) → i < length puts → is_open q (get_or (list_with puts name m table) i no_put) ≡ is_at i (after q)
    found_left q i within =
        let inside : i < length (map (end_put name m) puts) = omega (arith, within, length-map puts (end_put name m)) in
        ap (is_open q) (get_or_append_left (map (end_put name m) puts) (put_with m table None ∷ []) no_put i inside ∙ at_index puts name m i no_put within) ∙ finds_left q i within (bytes_eq name q) refl ∙ sym (ap (is_at i) (is q))

    found_new : (q : Text) → is_open q (get_or (list_with puts name m table) (length puts) no_put) ≡ is_at (length puts) (after q)
    found_new q =
        ap (λ (n : ℕ). is_open q (get_or (map (end_put name m) puts ++ put_with m table None ∷ []) n no_put)) (sym (length-map puts (end_put name m)))
        ∙ ap (is_open q) (get_or-append_seam (map (end_put name m) puts) (put_with m table None) [] no_put) ∙ ap (λ (t : Text). bytes_eq t q) named ∙ finds_new q (bytes_eq name q) refl ∙ sym (ap (is_at (length puts)) (is q))

    length_with : length (list_with puts name m table) ≡ length puts + 1
    length_with = length-append (map (end_put name m) puts) (put_with m table None ∷ []) ∙ ap (λ (n : ℕ). n + 1) (length-map puts (end_put name m))

    stays_with : (q : Text) (i : ℕ) (b : Bool) → bytes_eq name q ≡ b → cond (bytes_eq name q) (Some (length puts)) (index q) ≡ Some i → i < length puts + 1
    stays_with q i true e f = let same : length puts ≡ i = same_Some (length puts) i (sym (ap (λ b. cond b (Some (length puts)) (index q)) e) ∙ f) in omega (arith, same)
    stays_with q i false e f = let b : i < length puts = h.within q i (sym (ap (λ b. cond b (Some (length puts)) (index q)) e) ∙ f) in omega (arith, b)

    pub indexed_with : IsIndexed (map (end_put name m) puts ++ put_with m table None ∷ []) after
    indexed_with = record {
      found = λ q i b. below_more (λ (k : ℕ). is_open q (get_or (list_with puts name m table) k no_put) ≡ is_at k (after q)) (length puts) (λ k within. found_left q k within) (found_new q) i (omega (arith, b, length_with));
      within = λ q i e. omega (arith, length_with, stays_with q i (bytes_eq name q) refl (sym (is q) ∙ e));
    }

-- nothing is put
pub indexed_none : (index : Text → Option ℕ) → ((q : Text) → index q ≡ None) → IsIndexed [] index
indexed_none index none = record {
  found = λ q i b. absurd (omega (arith, b));
  within = λ q i e. let never : None ≡ Some i = sym (none q) ∙ e in cc;
}

-- ---- what the code does

pub if_within : (puts : List PutOf) (index : Text → Option ℕ) (name : Text) (o : Option ℕ) → IsIndexed puts index → o ≡ index name → IfSome o (λ i. i < length puts)
if_within puts index name None h e = tt
if_within puts index name (Some i) h e = h.within name i (sym e)

module _ (puts after : List PutOf) (index : Text → Option ℕ) (name text : Text) (m : ℕ) (o : Option ℕ) (h : IsIndexed puts index) (same : text ≡ name) (there : o ≡ index text) (ends : after ≡ end_index puts o m) where
  pub ended_is : after ≡ map (end_put name m) puts
  ended_is = ends ∙ ap (λ (p : Option ℕ). end_index puts p m) (there ∙ ap index same) ∙ end_index_is puts index name m h

  pub ended_indexed : (now : Text → Option ℕ) → ((q : Text) → now q ≡ cond (bytes_eq name q) None (index q)) → IsIndexed after now
  ended_indexed now is = subst (λ (us : List PutOf). IsIndexed us now) (sym ended_is) (indexed_without puts index now name m h is)

  module _ (table : Table) (put : PutOf) (last : List PutOf) (named : name ≡ table.name) (new : put ≡ put_with m table None) (pushed : last ≡ after ++ put ∷ []) where
    pub pushed_is : last ≡ map (end_put table.name m) puts ++ put_with m table None ∷ []
    pushed_is = pushed ∙ (λ i. ended_is i ++ new i ∷ []) ∙ ap (λ (t : Text). map (end_put t m) puts ++ put_with m table None ∷ []) named

    pub pushed_indexed : (now : Text → Option ℕ) (n : ℕ) → n ≡ length puts → ((q : Text) → now q ≡ cond (bytes_eq table.name q) (Some n) (index q)) → IsIndexed last now
    pushed_indexed now n many is =
        subst (λ (us : List PutOf). IsIndexed us now) (sym pushed_is)
        (indexed_with puts index now table.name m h table refl (λ q. is q ∙ ap (λ (k : ℕ). cond (bytes_eq table.name q) (Some k) (index q)) many))
