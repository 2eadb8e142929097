-- One command after another at a desk.
use Rattle.std.proofs.Common.{◌≡◌, refl, ap, sym, ◌∙◌, subst, ℕ, ◌+◌, ◌<◌, ◌≤◌, List, [], ◌∷◌, ◌++◌, Bool, true, false, cond, length, take, get_or, arith, append-nil, length-append}
use Rattle.std.specs.Prelude.{◌==◌}
use Rattle.std.proofs.lemmas.Bool.Decides.{nat_tests}
use Rattle.std.proofs.lemmas.List.{map-append, take_more, take_all}
use Rattle.std.proofs.lemmas.List.Elements.{filter-append}
use Rattle.std.specs.VecDeque.{deque_capacity}
use Rattle.batch_work.specs.declared.work.Work.{Work}
use Rattle.lane_run.specs.declared.seat.Seat.{Seat}
use Rattle.script_model.specs.Commands.{Command}
use Rattle.record_model.specs.Replies.{Reply}
use Rattle.record_model.specs.Play.{Done, done_with}
use Rattle.batch_work.specs.Works.{work_of, works_of}
use Rattle.batch_work.proofs.WorkLemmas.{work_at, works_long}
use Rattle.lane_run.specs.Chains.{Chain, Serves}
use Rattle.record_model.specs.Lanes.{lane_commands}

mine : (commands : List Command) (command : Command) (l : ℕ) (b : Bool) → (command.lane == l) ≡ b → lane_commands l (commands ++ command ∷ []) ≡ lane_commands l commands ++ cond b (command ∷ []) []
mine commands command l b e = filter-append (λ (c : Command). c.lane == l) commands (command ∷ []) ∙ ap (λ (x : Bool). lane_commands l commands ++ cond x (command ∷ []) []) e

module _ {D : Type 0} (step : D → Command → Reply → D → Type 0) where
  pub chain_on : (before middle after : D) (done : List Done) (d : Done) → Chain step before done middle → step middle d.command d.reply after → Chain step before (done ++ d ∷ []) after
  chain_on before middle after [] d same h = subst (λ (x : D). (between : D) × step x d.command d.reply between × (between ≡ after)) (sym same) (after, h, refl)
  chain_on before middle after (x ∷ done) d h k = (h.0, h.1, chain_on h.0 middle after done d h.2 k)

  pub serves_none : (lane : ℕ) (desk : D) → Serves step lane [] desk [] desk
  serves_none lane desk = record { answers = refl; chain = refl }

  next : (lane : ℕ) (works : List Work) (n : ℕ) (item : Work) → n < length works → item ≡ get_or works n item → take (n + 1) (works_of works) ≡ take n (works_of works) ++ work_of item ∷ []
  next lane works n item within is =
      let far : n < length (works_of works) = omega (arith, within, works_long works) in
      take_more (works_of works) n (work_of item) far ∙ ap (λ (c : Command). take n (works_of works) ++ c ∷ []) (sym (work_at works n item is within))

  -- a command of the lane
  pub serves_own : (lane : ℕ) (works : List Work) (n : ℕ) (item : Work) (reply : Reply) (before middle after : D) (done later : List Done) → n < length works → item ≡ get_or works n item → ((work_of item).lane == lane) ≡ true
      → Serves step lane (take n (works_of works)) before done middle → step middle (work_of item) reply after → later ≡ done ++ done_with (work_of item) reply ∷ []
      → Serves step lane (take (n + 1) (works_of works)) before later after
  serves_own lane works n item reply before middle after done later within is own so_far takes pushed =
      let cut = next lane works n item within is in
      subst (λ (ds : List Done). Serves step lane (take (n + 1) (works_of works)) before ds after) (sym pushed) (record {
        answers = map-append (λ (d : Done). d.command) done (done_with (work_of item) reply ∷ [])
            ∙ ap (λ (cs : List Command). cs ++ work_of item ∷ []) so_far.answers
            ∙ sym (mine (take n (works_of works)) (work_of item) lane true own)
            ∙ ap (lane_commands lane) (sym cut);
        chain = chain_on before middle after done (done_with (work_of item) reply) so_far.chain takes;
      })

  -- a command of another lane
  pub serves_other : (lane : ℕ) (works : List Work) (n : ℕ) (item : Work) (before middle : D) (done : List Done) → n < length works → item ≡ get_or works n item → ((work_of item).lane == lane) ≡ false
      → Serves step lane (take n (works_of works)) before done middle → Serves step lane (take (n + 1) (works_of works)) before done middle
  serves_other lane works n item before middle done within is other so_far =
      let cut = next lane works n item within is in
      record {
        answers = so_far.answers ∙ sym (append-nil (lane_commands lane (take n (works_of works)))) ∙ sym (mine (take n (works_of works)) (work_of item) lane false other) ∙ ap (lane_commands lane) (sym cut);
        chain = so_far.chain;
      }

  -- the desk has answered the commands of its lane among the first n, and there is room for the replies to the rest
  pub record IsServing (lane : ℕ) (works : List Work) (n : ℕ) (before : D) (seat : Seat D) : Type 0 where
    pub serves : Serves step lane (take n (works_of works)) before seat.done.items seat.desk
    pub few : length seat.done.items ≤ n
    pub room : length works ≤ deque_capacity seat.done

  pub serving_own : (lane : ℕ) (works : List Work) (n : ℕ) (item : Work) (reply : Reply) (before : D) (seat given later : Seat D) → n < length works → item ≡ get_or works n item
      → (work_of item).lane ≡ lane → later ≡ given
      → IsServing lane works n before seat → step seat.desk (work_of item) reply given.desk
      → given.done.items ≡ seat.done.items ++ done_with (work_of item) reply ∷ [] → deque_capacity given.done ≡ deque_capacity seat.done
      → IsServing lane works (n + 1) before later
  serving_own lane works n item reply before seat given later within at own is so_far takes pushed room =
      subst (IsServing lane works (n + 1) before) (sym is) (record {
        serves = serves_own lane works n item reply before seat.desk given.desk seat.done.items given.done.items within at
            (let e : ((work_of item).lane == lane) ≡ true = grind (arith, nat_tests, own) in e) so_far.serves takes pushed;
        few = omega (arith, so_far.few, ap (λ (ds : List Done). length ds) pushed, length-append seat.done.items (done_with (work_of item) reply ∷ []));
        room = omega (arith, so_far.room, room);
      })

  pub serving_other : (lane : ℕ) (works : List Work) (n : ℕ) (item : Work) (before : D) (seat later : Seat D) → n < length works → item ≡ get_or works n item → ¬ ((work_of item).lane ≡ lane) → later ≡ seat
      → IsServing lane works n before seat → IsServing lane works (n + 1) before later
  serving_other lane works n item before seat later within at other is so_far =
      subst (IsServing lane works (n + 1) before) (sym is) (record {
        serves = serves_other lane works n item before seat.desk seat.done.items within at
            (let e : ((work_of item).lane == lane) ≡ false = grind (arith, nat_tests, other) in e) so_far.serves;
        few = omega (arith, so_far.few);
        room = so_far.room;
      })

  pub serving_none : (lane : ℕ) (works : List Work) (seat : Seat D) → seat.done.items ≡ [] → length works ≤ deque_capacity seat.done → IsServing lane works 0 seat.desk seat
  serving_none lane works seat fresh room = record {
    serves = subst (λ (ds : List Done). Serves step lane [] seat.desk ds seat.desk) (sym fresh) (serves_none lane seat.desk);
    few = omega (arith, ap (λ (ds : List Done). length ds) fresh);
    room = room;
  }

  pub serving_all : (lane : ℕ) (works : List Work) (n : ℕ) (before : D) (seat : Seat D) → IsServing lane works n before seat → length works ≤ n → Serves step lane (works_of works) before seat.done.items seat.desk
  serving_all lane works n before seat so_far all =
      subst (λ (cs : List Command). Serves step lane cs before seat.done.items seat.desk) (take_all n (works_of works) (omega (arith, all, works_long works))) so_far.serves
