-- An entry that the catalogue accepted, in the history that a pass has seen.
use Rattle.std.proofs.Common.{◌≡◌, ℕ, sym, ap, ◌∙◌, subst, List, [], ◌∷◌, ◌++◌, length}
use Rattle.std.specs.Prelude.{IfOk, Ok, Err, Option, None}
use Rattle.std.specs.declared.result.Result.{Result}
use Rattle.lake_model.specs.Journal.{Entry}
use Rattle.turn_lock.specs.History.{Grows}
use Rattle.lake.specs.Lawful.{caller_of, IsAccepted}

pub accepted_by : {W : Type 0} (added : Result ℕ W) (refusal : List Entry → Option W) (callers : List ℕ) (before taken found after seen : List Entry) (entry own : Entry)
    → Grows caller_of callers before taken → found ≡ taken → IfOk added (λ at. (refusal found ≡ None) × (after ≡ found ++ entry ∷ []) × (at ≡ length after)) → entry ≡ own → seen ≡ after
    → IfOk added (λ at. IsAccepted refusal callers before own at seen)
accepted_by (Ok at) refusal callers before taken found after seen entry own grows same ok is sees = record {
  added = record {
    found = taken;
    grows = grows;
    ends = sees ∙ ok.1 ∙ ap (λ (j : List Entry). j ++ entry ∷ []) same ∙ ap (λ (e : Entry). taken ++ e ∷ []) is;
  };
  allowed = subst (λ (j : List Entry). refusal j ≡ None) same ok.0;
  position = ok.2 ∙ ap (λ (j : List Entry). length j) (sym sees);
}
accepted_by (Err e) refusal callers before taken found after seen entry own grows same ok is sees = tt
