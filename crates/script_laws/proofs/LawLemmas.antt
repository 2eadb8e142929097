-- The laws of the script grammar, proved.
use Rattle.std.proofs.Common.{◌≡◌, refl, ℕ, ◌+◌, [], ◌∷◌, ◌++◌, length, arith, length-append}
use Rattle.std.specs.Prelude.{⊤}
use Rattle.script_model.specs.Commands.{Batch, Task, command_with}
use Rattle.script_model.specs.Lanes.{IsOfLanes}
use Rattle.script_model.specs.Script.{grammar_of, start}
use Rattle.script_laws.specs.Printed.{AreNumberedFrom}
use Rattle.script_laws.specs.ScriptLaws.{AreNumbered, AreOfLanes}
use Rattle.script_laws.proofs.GoingFacts.{Keeps, OfLanes, commands_stay}
use Rattle.script_laws.proofs.SaidFacts.{HoldsOf, said_holds}
use Rattle.script_text.specs.Fronts.{IsLane}

-- ---- what a line says of lanes

of_lanes : (L : ℕ → Type 0) → HoldsOf (OfLanes L) L
of_lanes L = record {
  nothing = tt;
  wrong = λ why. tt;
  sync = tt;
  does = λ lane task l no_fetch. l;
  opens = λ lane front l. l;
  fetches = λ lane name path l. l;
}

-- ---- numbers

-- numbered from 1, and this many
abbrev IsCounted : Batch → ℕ → Type 0
IsCounted batch n = AreNumberedFrom 1 batch × (n ≡ length batch)

numbers_push : (k n : ℕ) (batch : Batch) (lane : ℕ) (task : Task) → AreNumberedFrom k batch → n ≡ k + length batch → AreNumberedFrom k (batch ++ command_with n lane task ∷ [])
numbers_push k n [] lane task h e = (omega (arith, e), tt)
numbers_push k n (command ∷ batch) lane task h e = (h.0, numbers_push (k + 1) n batch lane task h.1 (omega (arith, e)))

numbers_front : (k : ℕ) (batch others : Batch) → AreNumberedFrom k (batch ++ others) → AreNumberedFrom k batch
numbers_front k [] others h = tt
numbers_front k (command ∷ batch) others h = (h.0, numbers_front (k + 1) batch others h.1)

counted_keeps : Keeps IsCounted (λ lane. ⊤)
counted_keeps = record {
  none = (tt, refl);
  more = λ batch n lane task h l. (numbers_push 1 (n + 1) batch lane task h.0 (omega (arith, h.1)), omega (arith, h.1, length-append batch (command_with (n + 1) lane task ∷ [])));
  front = λ batch others n h. (length batch, (numbers_front 1 batch others h.0, refl));
}

pub numbered : AreNumbered
numbered limits lanes bytes files =
    (commands_stay IsCounted (λ lane. ⊤) counted_keeps (grammar_of limits lanes) (λ text. said_holds (OfLanes (λ lane. ⊤)) (λ lane. ⊤) (of_lanes (λ lane. ⊤)) lanes text tt (λ lane is. tt)) (start files) bytes ((tt, refl), tt)).1.0

-- ---- lanes

lanes_push : (lanes n lane : ℕ) (batch : Batch) (task : Task) → IsOfLanes lanes batch → IsLane lanes lane → IsOfLanes lanes (batch ++ command_with n lane task ∷ [])
lanes_push lanes n lane [] task h l = (l, tt)
lanes_push lanes n lane (command ∷ batch) task h l = (h.0, lanes_push lanes n lane batch task h.1 l)

lanes_front : (lanes : ℕ) (batch others : Batch) → IsOfLanes lanes (batch ++ others) → IsOfLanes lanes batch
lanes_front lanes [] others h = tt
lanes_front lanes (command ∷ batch) others h = (h.0, lanes_front lanes batch others h.1)

lanes_keep : (lanes : ℕ) → Keeps (λ batch n. IsOfLanes lanes batch) (IsLane lanes)
lanes_keep lanes = record {
  none = tt;
  more = λ batch n lane task h l. lanes_push lanes (n + 1) lane batch task h l;
  front = λ batch others n h. (n, lanes_front lanes batch others h);
}

pub of_its_lanes : AreOfLanes
of_its_lanes limits lanes bytes files some =
    (commands_stay (λ batch n. IsOfLanes lanes batch) (IsLane lanes) (lanes_keep lanes) (grammar_of limits lanes)
    (λ text. said_holds (OfLanes (IsLane lanes)) (IsLane lanes) (of_lanes (IsLane lanes)) lanes text (omega arith, some) (λ lane is. is)) (start files) bytes (tt, tt)).1
