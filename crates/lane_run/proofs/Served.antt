-- What the desks have done, and the answers gathered from them.
use Rattle.std.proofs.Common.{◌≡◌, refl, ap, sym, ◌∙◌, subst, ℕ, zero, suc, ◌+◌, ◌<◌, ◌≤◌, ◌⊎◌, inl, inr, ⊎_elim, List, [], ◌∷◌, ◌++◌, false, length, map, get_or, Some, None, arith, length-append}
use Rattle.std.specs.Prelude.{◌==◌, filter, slice_get}
use Rattle.std.specs.List.{AllByRecursion, zip}
use Rattle.std.proofs.lemmas.Bool.Decides.{nat_tests}
use Rattle.std.proofs.lemmas.List.{length-map, get_or-map, map-append, get_or_default}
use Rattle.std.specs.declared.alloc.Global.{Global}
use Rattle.std.specs.declared.collections.VecDeque.{VecDeque}
use Rattle.lane_run.specs.declared.seat.Seat.{Seat}
use Rattle.script_model.specs.Commands.{Command}
use Rattle.record_model.specs.Replies.{Reply}
use Rattle.record_model.specs.Record.{Answered}
use Rattle.record_model.specs.Play.{Done, done_with, answers_of, who_of, gathered}
use Rattle.record_model.specs.Right.{done_of}
use Rattle.lane_run.specs.Chains.{Chain, AreServed, AreWithin}
use Rattle.lane_run.specs.Seats.{HaveAnswered, HaveServed, IsFresh, IsRoom, desk_in, done_in}
use Rattle.record_model.proofs.GatherLemmas.{AreLists, gathered_commands, gathered_lane}
use Rattle.record_model.proofs.ProgressLemmas.{whos}
use Rattle.record_model.specs.Lanes.{commands_in, lane_commands}
use Rattle.list_laws.proofs.ListLemmas.{all_append}

-- ---- what is at a place

record IsAt (X : Type 0) (xs : List X) (l : ℕ) : Type 0 where
  it : X
  is : get_or xs l it ≡ it

at : {X : Type 0} (xs : List X) (l : ℕ) → l < length xs → IsAt X xs l
at [] l within = absurd (omega (arith, within))
at (x ∷ xs) zero within = record { it = x; is = refl }
at (x ∷ xs) (suc l) within = let rest = at xs l (omega (arith, within)) in record { it = rest.it; is = rest.is }

beyond : {X : Type 0} (xs : List X) (l : ℕ) (d : X) → length xs ≤ l → get_or xs l d ≡ d
beyond [] l d le = refl
beyond (x ∷ xs) zero d le = absurd (omega (arith, le))
beyond (x ∷ xs) (suc l) d le = beyond xs l d (omega (arith, le))

none_beyond : (n l : ℕ) (commands : List Command) → AreWithin n commands → n ≤ l → lane_commands l commands ≡ []
none_beyond n l [] within le = refl
none_beyond n l (command ∷ commands) within le =
    let other : (command.lane == l) ≡ false = (let below = within.0 in grind (arith, nat_tests, below, le)) in
    rw other (none_beyond n l commands within.1 le)

-- ---- the answers

zip_again : (done : List Done) → map (λ (pair : Command × Answered). done_with pair.0 pair.1.reply) (zip (commands_in done) (answers_of done)) ≡ done
zip_again [] = refl
zip_again (d ∷ done) = ap (λ (ds : List Done). d ∷ ds) (zip_again done)

-- ---- sitting down

all_front : {X : Type 0} (P : X → Type 0) (xs : List X) (x : X) → AllByRecursion P (xs ++ x ∷ []) → AllByRecursion P xs × P x
all_front P [] x h = (tt, h.0)
all_front P (y ∷ xs) x h = let rest = all_front P xs x h.1 in ((h.0, rest.0), rest.1)

module _ {D : Type 0} where
  -- one more desk was seated
  pub sits_more : (room total : ℕ) (seats later : List (Seat D)) (yielded : List D) (rooms fewer : List (VecDeque Done Global)) (given : Seat D)
      → map desk_in seats ≡ yielded → AllByRecursion (IsFresh room) seats → AllByRecursion (IsRoom room) rooms → length rooms + length yielded ≡ total
      → later ≡ seats ++ given ∷ [] → rooms ≡ fewer ++ given.done ∷ []
      → (map desk_in later ≡ yielded ++ given.desk ∷ []) × AllByRecursion (IsFresh room) later × AllByRecursion (IsRoom room) fewer × (length fewer + length (yielded ++ given.desk ∷ []) ≡ total)
  sits_more room total seats later yielded rooms fewer given desks fresh empty count pushed popped =
      let split = all_front (IsRoom room) fewer given.done (subst (AllByRecursion (IsRoom room)) popped empty) in (
        ap (map desk_in) pushed ∙ map-append desk_in seats (given ∷ []) ∙ ap (λ (ds : List D). ds ++ given.desk ∷ []) desks,
        subst (AllByRecursion (IsFresh room)) (sym pushed) (all_append (IsFresh room) seats (given ∷ []) fresh (split.1, tt)),
        split.0,
        omega (arith, count, ap (λ (rs : List (VecDeque Done Global)). length rs) popped, length-append fewer (given.done ∷ []), length-append yielded (given.desk ∷ [])),
      )

  -- the element of a list of seats that has a desk at a place
  got : {X : Type 0} (f : X → D) (xs : List X) (l : ℕ) (y : D) → slice_get (map f xs) l ≡ Some y → (x : X) × (l < length xs) × (get_or xs l x ≡ x) × (f x ≡ y)
  got f [] l y is = absurd (let e : None ≡ Some y = is in cc)
  got f (x ∷ xs) zero y is = (x, omega arith, refl, cc)
  got f (x ∷ xs) (suc l) y is = let rest = got f xs l y is in (rest.0, omega (arith, rest.1), rest.2, rest.3)

  module _ (step : D → Command → Reply → D → Type 0) where
    lists_are : (commands : List Command) (before after : List (Seat D)) → HaveServed step commands before after → AreWithin (length before) commands → AreLists commands (map done_in after)
    lists_are commands before after served within l = by (lt_or_le l (length before))
      where
        lt_or_le : (a b : ℕ) → (a < b) ⊎ (b ≤ a)
        lt_or_le a zero = inr (omega arith)
        lt_or_le zero (suc b) = inl (omega arith)
        lt_or_le (suc a) (suc b) = ⊎_elim (λ h. inl (omega (arith, h))) (λ h. inr (omega (arith, h))) (lt_or_le a b)

        by : (l < length before) ⊎ (length before ≤ l) → commands_in (get_or (map done_in after) l []) ≡ lane_commands l commands
        by (inl less) =
            let seat = at after l (omega (arith, less, served.0)) in
            ap commands_in (get_or-map done_in after l seat.it [] (omega (arith, less, served.0))) ∙ (served.1 l seat.it less).answers
        by (inr more) =
            ap commands_in (beyond (map done_in after) l [] (omega (arith, more, served.0, length-map after done_in))) ∙ sym (none_beyond (length before) l commands within more)

    pub are_served : (desks risen : List D) (commands : List Command) (answers : List Answered) (before later : List (Seat D))
        → map desk_in before ≡ desks → HaveAnswered step commands before answers later → risen ≡ map desk_in later
        → AreWithin (length desks) commands → AreServed step desks commands answers risen
    are_served desks risen commands answers before later sat have rises within =
        let after = have.served in
        let served = have.serves in
        let gathers = have.gathers in
        let kept = have.stays in
        let count : length desks ≡ length before = ap (λ (ds : List D). length ds) (sym sat) ∙ length-map before desk_in in
        let lists = lists_are commands before after served (subst (λ (n : ℕ). AreWithin n commands) count within) in
        let all : List Done = gathered commands (map done_in after) in
        let same : commands_in all ≡ commands = gathered_commands commands (map done_in after) lists in
        let last : risen ≡ map desk_in after = rises ∙ kept in
        subst (λ (given : List Answered). AreServed step desks commands given risen) (sym gathers) (record {
          answered = whos all ∙ ap (map who_of) same;
          same = ap (λ (ds : List D). length ds) last ∙ length-map after desk_in ∙ served.0 ∙ sym count;
          chains = λ l desk final first second.
              let old = got desk_in before l desk (ap (λ (ds : List D). slice_get ds l) sat ∙ first) in
              let new = got desk_in after l final (sym (ap (λ (ds : List D). slice_get ds l) last) ∙ second) in
              let own : done_of l commands (answers_of all) ≡ done_in new.0 =
              ap (λ (cs : List Command). done_of l cs (answers_of all)) (sym same)
              ∙ ap (filter (λ (d : Done). d.command.lane == l)) (zip_again all)
              ∙ gathered_lane commands (map done_in after) l lists
              ∙ get_or-map done_in after l new.0 [] new.1
              ∙ ap done_in new.2 in
              let here : get_or after l old.0 ≡ new.0 = get_or_default after l old.0 new.0 new.1 ∙ new.2 in
              subst (λ (ds : List Done). Chain step desk ds final) (sym own)
              (subst (λ (d : D). Chain step desk (done_in new.0) d) new.3
              (subst (λ (d : D). Chain step d (done_in new.0) (desk_in new.0)) (ap desk_in old.2 ∙ old.3)
              (subst (λ (seat : Seat D). Chain step (desk_in (get_or before l old.0)) (done_in seat) (desk_in seat)) here (served.1 l old.0 old.1).chain)));
        })
