-- The tokens that are asked of a part, the room for its looks, and what its tokens say of its keys.
use Rattle.std.proofs.Common.{◌≡◌, refl, ap, sym, ◌∙◌, ℕ, ◌+◌, ◌<◌, ◌≤◌, List, [], ◌∷◌, Bool, true, false, ◌&&◌, ◌||◌, map, length, get_or, drop, arith, Vec, Global}
use Rattle.std.specs.Prelude.{bytes_eq}
use Rattle.std.specs.Cmp.Lexicographic.{bytes_decides}
use Rattle.std.specs.List.{AllByRecursion, IsDistinct, count_by, sum_by}
use Rattle.std.proofs.lemmas.List.{get_or-map, length-map}
use Rattle.std.proofs.lemmas.List.Sums.{count_by-le-length, sum_by-cons, sum_by-drop_more}
use Rattle.lake_model.specs.Answer.{Query}
use Rattle.lake_model.specs.Layout.{Part}
use Rattle.lake_model.specs.Tables.{has_key, overlap}
use Rattle.lake_model.specs.Texts.{Text}
use Rattle.search_laws.proofs.PartLemmas.{IsPartOf}
use Rattle.search_laws.proofs.TableLemmas.{as_texts, is_part}
use Rattle.search_model.proofs.OverlapLemmas.{front, overlap_is_hits, overlap_over, tokens_from, tokens_from-cons}
use Rattle.search_model.specs.Arrays.{no_titled}
use Rattle.search_model.specs.Looks.{hits, searched}
use Rattle.search_model.specs.Segment.{Token}
use Rattle.search_state.specs.State.{column_at}
use Rattle.segment_core.specs.Versions.{part_at, part_with, segment_at, segment_of, VersionOf}
use Rattle.part_columns.specs.Room.{asked_in, looks_bound, looks_in}
use Rattle.part_columns.proofs.SegmentLists.{token_within}
use Rattle.list_laws.proofs.TestLemmas.{once}
use Rattle.std.proofs.Math.Bool.{and-true, or-true}

-- ---- the tokens that are held for a part

asked_at : (keys : List Text) (parts : List Part) (lists : List (List ℕ)) (i : ℕ) → lists ≡ map (asked_in keys) parts → i < length parts → get_or lists i [] ≡ asked_in keys (part_at parts i)
asked_at keys parts lists i e h = ap (λ (ls : List (List ℕ)). get_or ls i []) e ∙ get_or-map (asked_in keys) parts i (part_with 0 []) [] h

pub asked_there : (keys : List Text) (parts : List Part) (asked : List (Vec ℕ Global)) (part : ℕ) (vector : Vec ℕ Global) (tokens : List ℕ) → map (λ v. v.items) asked ≡ map (asked_in keys) parts → part < length parts
    → vector ≡ get_or asked part vector → tokens ≡ vector.items → tokens ≡ asked_in keys (part_at parts part)
asked_there keys parts asked part vector tokens e h at is =
    let items : Vec ℕ Global → List ℕ = λ v. v.items in
    let within : part < length asked = omega (arith, ap length e, length-map asked items, length-map parts (asked_in keys)) in
    is ∙ ap items at ∙ sym (get_or-map items asked part vector [] within) ∙ asked_at keys parts (map items asked) part e h

pub tokens_within : (now version : VersionOf) (keys : List Text) (part : ℕ) (tokens : List ℕ) → now ≡ version → tokens ≡ asked_in keys (part_at version.parts part)
    → (k d : ℕ) → k < length tokens → get_or tokens k d < length (segment_at now.parts part).tokens
tokens_within now version keys part tokens same is k d b =
    let few : k < length (asked_in keys (part_at version.parts part)) = omega (arith, ap length is, b) in
    let at = token_within (segment_at version.parts part).tokens keys k d few in
    omega (arith, at, ap (λ (ts : List ℕ). get_or ts k d) is, ap (λ (v : VersionOf). length (segment_at v.parts part).tokens) same)

-- ---- there are at most as many of them as the query has keys

weaker : (x : Text) (ys all : List Text) → AllByRecursion (λ y. has_key all y ≡ true) ys → AllByRecursion (λ y. has_key (x ∷ all) y ≡ true) ys
weaker x [] all h = tt
weaker x (y ∷ ys) all h = (ap (λ b. bytes_eq y x || b) h.0 ∙ or-true (bytes_eq y x), weaker x ys all h.1)

all_there : (xs : List Text) → AllByRecursion (λ y. has_key xs y ≡ true) xs
all_there [] = tt
all_there (x ∷ xs) = (ap (λ b. b || has_key xs x) ((bytes_decides x x).1 refl), weaker x xs xs (all_there xs))

both : (keys all xs : List Text) → AllByRecursion (λ y. has_key all y ≡ true) xs → count_by (λ t. has_key keys t && has_key all t) xs ≡ count_by (has_key keys) xs
both keys all [] h = refl
both keys all (x ∷ xs) h =
    omega (
      arith,
      sum_by-cons (λ t. once (has_key keys t && has_key all t)) x xs,
      sum_by-cons (λ t. once (has_key keys t)) x xs,
      ap once (ap (λ b. has_key keys x && b) h.0 ∙ and-true (has_key keys x)),
      both keys all xs h.1,
    )

asked_count : (n : ℕ) (tokens : List Token) (keys : List Text) → length (tokens_from n tokens keys) ≡ count_by (has_key keys) (map (λ t. t.key) tokens)
asked_count n [] keys = refl
asked_count n (token ∷ tokens) keys =
    omega (arith, ap length (tokens_from-cons n token tokens keys), by (has_key keys token.key), asked_count (n + 1) tokens keys, sum_by-cons (λ t. once (has_key keys t)) token.key (map (λ (t : Token). t.key) tokens))
  where
    by : (b : Bool) → length (front b n (tokens_from (n + 1) tokens keys)) ≡ once b + length (tokens_from (n + 1) tokens keys)
    by true = omega arith
    by false = omega arith

pub few_tokens : (query : Query) (part : Part) (tokens : List ℕ) → IsDistinct bytes_eq query.keys → tokens ≡ asked_in query.keys part → length tokens ≤ length query.keys
few_tokens query part tokens d is =
    let all = map (λ (t : Token). t.key) (segment_of part).tokens in
    omega (
      arith,
      ap length is,
      asked_count 0 (segment_of part).tokens query.keys,
      both query.keys all all (all_there all),
      overlap_over query.keys all all (as_texts query.keys d) (is_part query part).once (λ x e. e),
      count_by-le-length (has_key all) query.keys,
    )

-- ---- room for the looks of the parts that are left

pub room_here : (keys : List Text) (parts : List Part) (i : ℕ) (tokens : List ℕ) (spare : ℕ) → i < length parts → tokens ≡ asked_in keys (part_at parts i) → sum_by (looks_in keys) (drop i parts) ≤ spare
    → looks_bound (part_at parts i) tokens + sum_by (looks_in keys) (drop (i + 1) parts) ≤ spare
room_here keys parts i tokens spare h is room = omega (arith, sum_by-drop_more (looks_in keys) parts i (part_with 0 []) h, ap (looks_bound (part_at parts i)) is, room)

-- ---- what the tokens say of the keys

-- a column has as many of the query's tokens as it shares keys with it
pub hits_overlap : (query : Query) (part : Part) (x : ℕ) → IsDistinct bytes_eq query.keys → x < length (searched query part).segment.columns
    → length (hits (get_or (searched query part).segment.sets x []) (searched query part).query) ≡ overlap query.keys (column_at (searched query part) x).column.keys
hits_overlap query part x distinct h =
    let p = searched query part in
    let is : IsPartOf query p = is_part query part in
    let keys = (column_at p x).column.keys in
    (λ i. length (hits (is.sets x no_titled h i) (is.asked i)))
    ∙ sym (overlap_is_hits p.segment.tokens query.keys keys (as_texts query.keys distinct) is.once (λ t e. is.held x no_titled t h e))
