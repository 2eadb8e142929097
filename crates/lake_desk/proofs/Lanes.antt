-- The entries and the answers of one lane.
use Rattle.std.proofs.Common.{◌≡◌, refl, subst, sym, ℕ, List, [], ◌∷◌, arith, Bool, true, false, cond}
use Rattle.std.specs.Prelude.{◌==◌, filter}
use Rattle.std.specs.List.{AllByRecursion}
use Rattle.std.proofs.lemmas.Bool.Decides.{nat_tests}
use Rattle.lake_model.specs.Journal.{Entry}
use Rattle.turn_lock.specs.History.{Has, IsOfOthers}
use Rattle.lake.specs.Lawful.{caller_of}
use Rattle.record_model.specs.Play.{Done}

-- entries of callers other than these are not a lane's own, if the lane is one of them
pub not_own : (lane : ℕ) (callers : List ℕ) (entries : List Entry) → Has callers lane → IsOfOthers caller_of callers entries → AllByRecursion (λ e. (e.who.caller == lane) ≡ false) entries
not_own lane callers [] has others = tt
not_own lane callers (e ∷ entries) has others =
    let apart : ¬ (e.who.caller ≡ lane) = λ same. others.0 (subst (Has callers) (sym same) has) in (
      (let is : (e.who.caller == lane) ≡ false = grind (arith, nat_tests, apart) in is),
      not_own lane callers entries has others.1,
    )

-- what the filter keeps for a lane is the lane's
pub kept_own : (lane : ℕ) (done : List Done) → AllByRecursion (λ d. d.command.lane ≡ lane) (filter (λ (d : Done). d.command.lane == lane) done)
kept_own lane [] = tt
kept_own lane (d ∷ done) = by (d.command.lane == lane) refl (kept_own lane done)
  where
    by : (b : Bool) → (d.command.lane == lane) ≡ b → AllByRecursion (λ d. d.command.lane ≡ lane) (filter (λ (d : Done). d.command.lane == lane) done) → AllByRecursion (λ d. d.command.lane ≡ lane) (cond b (d ∷ filter (λ (d : Done). d.command.lane == lane) done) (filter (λ (d : Done). d.command.lane == lane) done))
    by true is rest = ((let e : d.command.lane ≡ lane = grind (arith, nat_tests, is) in e), rest)
    by false is rest = rest
