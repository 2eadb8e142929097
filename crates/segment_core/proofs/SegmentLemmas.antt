-- What the arrays of a segment say about the lists and the sets of its tables.
use Rattle.std.proofs.Common.{◌≡◌, refl, ◌∙◌, sym, ap, subst, ℕ, ◌+◌, ◌<◌, List, [], ◌∷◌, get_or, length, map, arith}
use Rattle.std.specs.Prelude.{sum_by}
use Rattle.std.specs.List.{flat_map, enumerate_from}
use Rattle.std.proofs.lemmas.List.{length-append, length-map, get_or-map}
use Rattle.std.proofs.lemmas.List.FromFn.{length-enumerate_from}
use Rattle.std.proofs.lemmas.List.Sums.{sum_by-cons}
use Rattle.lake_model.specs.Tables.{Column, Table}
use Rattle.search_model.specs.declared.Posting.{Posting}
use Rattle.search_model.specs.declared.TokenAt.{TokenAt}
use Rattle.search_model.specs.declared.Owner.{Owner}
use Rattle.search_model.specs.Segment.{columns_in, columns_of, segment, titled}
use Rattle.search_model.specs.Arrays.{AreArrays, all_of, no_titled, owner_of, starts_of, titled_at}
use Rattle.segment_core.proofs.ListsLemmas.{Bounds, bounds}

pub length-sets : (tables : List Table) → length (segment tables).sets ≡ length (segment tables).columns
unfolding segment
length-sets tables = length-map _ _

columns_from : (n : ℕ) (tables : List Table) → length (flat_map (λ t. columns_in t.0 t.1) (enumerate_from n tables)) ≡ sum_by (λ t. length t.columns) tables
columns_from n [] = refl
columns_from n (t ∷ tables) =
    omega (
      arith,
      length-append (columns_in n t) (flat_map (λ t. columns_in t.0 t.1) (enumerate_from (n + 1) tables)),
      length-map (enumerate_from 1 t.columns) (λ (c : ℕ × Column). titled n t.name c.0 c.1),
      length-enumerate_from 1 t.columns,
      columns_from (n + 1) tables,
      sum_by-cons (λ (t : Table). length t.columns) t tables,
    )

-- as many columns, and sets, as the tables have together
pub columns_counted : (tables : List Table) → length (columns_of tables) ≡ sum_by (λ t. length t.columns) tables
columns_counted tables = columns_from 0 tables

pub sets_counted : (tables : List Table) → length (segment tables).sets ≡ sum_by (λ t. length t.columns) tables
unfolding segment
sets_counted tables = length-sets tables ∙ columns_counted tables

pub length-lists : (tables : List Table) → length (segment tables).lists ≡ length (segment tables).tokens
unfolding segment
length-lists tables = length-map _ _ ∙ length-enumerate_from 0 _

-- The arrays of a value's tables if the value is known by another name, as in a proof about a struct.
module _ (held tables : List Table) (is : held ≡ tables) (owners : List Owner) (tokens : List TokenAt) (by_key list_starts : List ℕ) (postings : List Posting) (set_starts set_tokens : List ℕ)
    (arrays : AreArrays held owners tokens by_key list_starts postings set_starts set_tokens) where
  pub list_bounds : (token : ℕ) → token < length (segment tables).tokens → Bounds 0 list_starts postings token (get_or (segment tables).lists token [])
  list_bounds token h =
      bounds (segment tables).lists list_starts postings token (subst (λ ts. list_starts ≡ starts_of 0 (segment ts).lists) is arrays.list_bounds) (subst (λ ts. postings ≡ all_of (segment ts).lists) is arrays.posted) (omega (arith, length-lists tables))

  pub set_bounds : (set : ℕ) → set < length (segment tables).sets → Bounds 0 set_starts set_tokens set (get_or (segment tables).sets set [])
  set_bounds set h = bounds (segment tables).sets set_starts set_tokens set (subst (λ ts. set_starts ≡ starts_of 0 (segment ts).sets) is arrays.set_bounds) (subst (λ ts. set_tokens ≡ all_of (segment ts).sets) is arrays.held) h

  owned : owners ≡ map owner_of (segment tables).columns
  owned = subst (λ (ts : List Table). owners ≡ map owner_of (segment ts).columns) is arrays.owned

  pub owner_count : length owners ≡ length (segment tables).sets
  owner_count = ap length owned ∙ length-map (segment tables).columns owner_of ∙ sym (length-sets tables)

  pub owner_at : (set : ℕ) (d : Owner) → set < length (segment tables).sets → get_or owners set d ≡ owner_of (titled_at (segment tables).columns set)
  owner_at set d h = ap (λ (os : List Owner). get_or os set d) owned ∙ get_or-map owner_of (segment tables).columns set no_titled d (omega (arith, length-sets tables))
