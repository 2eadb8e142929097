-- Room in a set for the tokens of each part.
use Rattle.std.proofs.Common.{◌≡◌, ℕ, ◌*◌, ◌<◌, ◌≤◌, List, map, length, arith, Option, Some, None, option_map, ap, sym, ◌∙◌, subst, get_or, Vec, Global, []}
use Rattle.std.specs.Prelude.{IfSome}
use Rattle.std.specs.List.{All}
use Rattle.std.proofs.lemmas.List.{get_or-map, length-map}
use Rattle.std.proofs.lemmas.List.Elements.{All-map, All-weaker}
use Rattle.josie_search.specs.Ready.{IsReadySet, IsRoomFor}
use Rattle.token_set.specs.Bits.{IsSetOf}

abbrev pub items : Vec ℕ Global → List ℕ
items tokens = tokens.items

-- room for the greatest token is room for each
pub room_for_greatest : (lists : List (Vec ℕ Global)) (greatest words : ℕ) → All (λ list. All (λ token. token ≤ greatest) list.items) lists → greatest < 64 * words → IsRoomFor words (map items lists)
room_for_greatest lists greatest words all room =
    All-map (All (λ token. token < 64 * words)) items lists (All-weaker (λ (list : Vec ℕ Global). All (λ token. token ≤ greatest) list.items) (λ list. All (λ token. token < 64 * words) list.items) (λ list low k d h. omega (arith, low k d h, room)) lists all)

-- a set that is empty and as large as one that was ready is ready again
pub ready_again : (was now : Option (List ℕ)) (lists : List (List ℕ)) → option_map length now ≡ option_map length was → IfSome was (λ set. IsReadySet set lists) → IfSome now (λ set. IsSetOf set []) → IfSome now (λ set. IsReadySet set lists)
ready_again was None lists same ready empty = tt
ready_again None (Some now) lists same ready empty = absurd (let f : Some (length now) ≡ None = same in cc)
ready_again (Some was) (Some now) lists same ready empty = record { empty = empty; room = subst (λ (n : ℕ). IsRoomFor n lists) (let e : Some (length now) ≡ Some (length was) = same in cc) ready.room }

-- there are tokens for each part
pub as_many : {X : Type 0} (lists : List (Vec ℕ Global)) (parts : List X) (asked : X → List ℕ) → map items lists ≡ map asked parts → length lists ≡ length parts
as_many lists parts asked e = omega (arith, ap length e, length-map lists items, length-map parts asked)

-- a set that is ready has room for the tokens of each part
pub room_there : (set : Option (List ℕ)) (lists : List (Vec ℕ Global)) (part : ℕ) (vector : Vec ℕ Global) (tokens : List ℕ) → part < length lists → vector ≡ get_or lists part vector → tokens ≡ vector.items
    → IfSome set (λ s. IsReadySet s (map items lists)) → IfSome set (λ s. All (λ token. token < 64 * length s) tokens)
room_there None lists part vector tokens h at is ready = tt
room_there (Some s) lists part vector tokens h at is ready =
    let within : part < length (map items lists) = omega (arith, h, length-map lists items) in
    let here : get_or (map items lists) part [] ≡ tokens = get_or-map items lists part vector [] h ∙ sym (is ∙ ap items at) in
    subst (All (λ token. token < 64 * length s)) here (ready.room part [] within)

pub room_kept : (was now : Option (List ℕ)) (tokens : List ℕ) → option_map length now ≡ option_map length was → IfSome was (λ s. All (λ token. token < 64 * length s) tokens) → IfSome now (λ s. All (λ token. token < 64 * length s) tokens)
room_kept was None tokens same room = tt
room_kept None (Some now) tokens same room = absurd (let f : Some (length now) ≡ None = same in cc)
room_kept (Some was) (Some now) tokens same room = subst (λ (n : ℕ). All (λ token. token < 64 * n) tokens) (let e : Some (length now) ≡ Some (length was) = same in cc) room
