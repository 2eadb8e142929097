-- What an entry does to the parts of a layout, part by part.
use Rattle.std.proofs.Common.{◌≡◌, refl, ap, sym, ◌∙◌, subst, ℕ, suc, ◌+◌, List, [], ◌∷◌, ◌++◌, Bool, true, false, not, cond, map, take, drop, arith}
use Rattle.std.specs.List.{AllByRecursion, filter, prefix_len}
use Rattle.lake_model.specs.Texts.{Text}
use Rattle.lake_model.specs.Tables.{Table}
use Rattle.lake_model.specs.Journal.{What, Loaded, Dropped, Replaced, Swapped}
use Rattle.lake_model.specs.Layout.{Place, Part, parts_after, mark, merged, is_among}
use Rattle.list_laws.proofs.ListLemmas.{split_bool, all_append, all_filter}
use Rattle.layout_laws.specs.Places.{kept_places}

abbrev pub part_of : ℕ → List Place → Part
part_of number places = record { number = number; places = places }

abbrev pub loaded_place : ℕ → Table → Place
loaded_place position table = record { position = position; table = table; marked = false }

abbrev pub is_planned : List ℕ → Part → Bool
is_planned planned part = is_among planned part.number

-- one part of these places, or none if there are none
abbrev pub one_part : ℕ → List Place → List Part
one_part number [] = []
one_part number (place ∷ places) = part_of number (place ∷ places) ∷ []

pub merged_is : (number : ℕ) (kept : List ℕ) (parts : List Part) → merged number kept parts ≡ one_part number (kept_places kept parts)
merged_is number kept parts = refl

pub all_one : (P : Part → Type 0) (number : ℕ) (places : List Place) → ((places : List Place) → P (part_of number places)) → AllByRecursion P (one_part number places)
all_one P number [] h = tt
all_one P number (place ∷ places) h = (h (place ∷ places), tt)

abbrev pub swapped : ℕ → List ℕ → List ℕ → List Part → List Part
swapped position planned kept parts = parts_after position parts (Swapped planned kept)

more_is : (n : ℕ) → 1 + n ≡ suc n
more_is n = omega arith

-- the first part is planned
pub swapped_here : (position : ℕ) (planned kept : List ℕ) (part : Part) (parts : List Part) → is_planned planned part ≡ true
    → swapped position planned kept (part ∷ parts) ≡ one_part position (kept_places kept (filter (is_planned planned) (part ∷ parts))) ++ filter (λ p. not (is_planned planned p)) (part ∷ parts)
swapped_here position planned kept part parts h =
    let n = prefix_len (λ (p : Part). not (is_planned planned p)) parts in
    ap (λ (b : Bool). take (cond (not b) (1 + n) 0) (part ∷ parts) ++ merged position kept (filter (is_planned planned) (part ∷ parts)) ++ filter (λ p. not (is_planned planned p)) (drop (cond (not b) (1 + n) 0) (part ∷ parts))) h

-- it is not
pub swapped_next : (position : ℕ) (planned kept : List ℕ) (part : Part) (parts : List Part) → is_planned planned part ≡ false
    → swapped position planned kept (part ∷ parts) ≡ part ∷ swapped position planned kept parts
swapped_next position planned kept part parts h =
    let n = prefix_len (λ (p : Part). not (is_planned planned p)) parts in
    ap (λ (b : Bool). take (cond (not b) (1 + n) 0) (part ∷ parts) ++ merged position kept (cond b (part ∷ filter (is_planned planned) parts) (filter (is_planned planned) parts)) ++ filter (λ p. not (is_planned planned p)) (drop (cond (not b) (1 + n) 0) (part ∷ parts))) h
    ∙ ap (λ (m : ℕ). take m (part ∷ parts) ++ merged position kept (filter (is_planned planned) parts) ++ filter (λ p. not (is_planned planned p)) (drop m (part ∷ parts))) (more_is n)

-- What holds of each part and of the new one holds after a swap.
pub all_swapped : (P : Part → Type 0) (position : ℕ) (planned kept : List ℕ) (parts : List Part) → ((places : List Place) → P (part_of position places)) → AllByRecursion P parts → AllByRecursion P (swapped position planned kept parts)
all_swapped P position planned kept [] new h = tt
all_swapped P position planned kept (part ∷ parts) new h =
    let rest = all_swapped P position planned kept parts new h.1 in
    split_bool (AllByRecursion P (swapped position planned kept (part ∷ parts))) (is_planned planned part)
    (λ e. subst (AllByRecursion P) (sym (swapped_here position planned kept part parts e)) (all_append P (one_part position (kept_places kept (filter (is_planned planned) (part ∷ parts)))) (filter (λ p. not (is_planned planned p)) (part ∷ parts))
    (all_one P position (kept_places kept (filter (is_planned planned) (part ∷ parts))) new) (all_filter P (λ p. not (is_planned planned p)) (part ∷ parts) h)))
    (λ e. subst (AllByRecursion P) (sym (swapped_next position planned kept part parts e)) (h.0, rest))

pub all_marked : (P : Part → Type 0) (name : Text) (parts : List Part) → ((part : Part) → P part → P (mark name part)) → AllByRecursion P parts → AllByRecursion P (map (mark name) parts)
all_marked P name [] f h = tt
all_marked P name (part ∷ parts) f h = (f part h.0, all_marked P name parts f h.1)

-- What holds of each part, of a new one, and of a part with more marks, holds after an entry.
pub all_after : (P : Part → Type 0) (position : ℕ) (what : What) (parts : List Part) → ((places : List Place) → P (part_of position places)) → ((name : Text) (part : Part) → P part → P (mark name part))
    → AllByRecursion P parts → AllByRecursion P (parts_after position parts what)
all_after P position (Loaded table) parts new more h = all_append P parts (part_of position (loaded_place position table ∷ []) ∷ []) h (new (loaded_place position table ∷ []), tt)
all_after P position (Dropped name) parts new more h = all_marked P name parts (more name) h
all_after P position (Replaced table) parts new more h =
    all_append P (map (mark table.name) parts) (part_of position (loaded_place position table ∷ []) ∷ []) (all_marked P table.name parts (more table.name) h) (new (loaded_place position table ∷ []), tt)
all_after P position (Swapped planned kept) parts new more h = all_swapped P position planned kept parts new h
