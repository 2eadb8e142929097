-- The verdict, from what was read of a trace.
use Rattle.std.proofs.Common.{◌≡◌, refl, ap, sym, ◌∙◌, ℕ, ◌^◌, ◌<◌, List, Bool, true, false, flat_map, length, map, take, subst}
use Rattle.std.specs.Prelude.{IfOk, Result, Ok, Err}
use Rattle.std.specs.List.{AllByRecursion}
use Rattle.lake_model.specs.Texts.{Text}
use Rattle.script_model.specs.Commands.{AsOf, Batch, Command, Contain, DropTable, Like, Load, LoadFile, Merge, Replace, Search, Tables, Task}
use Rattle.script_model.specs.Lanes.{IsOfLanes}
use Rattle.script_model.specs.Options.{Options}
use Rattle.record_model.specs.Rules.{Rules}
use Rattle.trace_laws.specs.Hints.{Hint}
use Rattle.list_laws.proofs.ListLemmas.{all_weaker}
use Rattle.trace_laws.specs.Named.{IsBatchNamed, IsTaskNamed}
use Rattle.trace_laws.specs.Passing.{VerdictDecides, verdict}
use Rattle.trace_laws.specs.Reading.{groups_of, hint_read, is_cut}
use Rattle.trace_laws.specs.Verdict.{all_commands, remade}
use Rattle.trace_groups.specs.Pieces.{group_text}
use Rattle.trace_numbers.specs.Positions.{numbers_pass}
use Rattle.trace_ends.specs.Ends.{EndsDecide, IsWhole}
use Rattle.trace_check.specs.Checking.{AreChecked, CheckerOf, HasRecord}
use Rattle.trace_check.specs.Right.{AreOptionsOf, IsRight}
use Rattle.trace_laws.proofs.NameLemmas.{name_clean}
use Rattle.batch_work.specs.Named.{HasName, HaveNames}
use Rattle.list_laws.proofs.TestLemmas.{same_tests}

-- two facts of a result, taken together
pub ok_both : {X E : Type 0} (result : Result X E) (P Q R : X → Type 0) → IfOk result P → IfOk result Q → ((x : X) → P x → Q x → R x) → IfOk result R
ok_both (Ok x) P Q R p q both = both x p q
ok_both (Err e) P Q R p q both = tt

-- ---- names

-- the name of a table has no space and no line feed
task_named : (task : Task) → HasName task → IsTaskNamed task
task_named (Load name body) h = name_clean name h
task_named (LoadFile name file) h = name_clean name h
task_named (DropTable name) h = name_clean name h
task_named (Replace name body) h = name_clean name h
task_named Tables h = tt
task_named (Search k body) h = tt
task_named (Like k name place) h = name_clean name h
task_named (Contain a b body) h = tt
task_named (AsOf asked k body) h = tt
task_named (Merge all) h = tt

pub all_named : (batches : List Batch) → AllByRecursion HaveNames batches → AllByRecursion IsBatchNamed batches
all_named batches =
    all_weaker HaveNames IsBatchNamed batches (λ (batch : Batch). all_weaker (λ (command : Command). HasName command.task) (λ (command : Command). IsTaskNamed command.task) batch (λ (command : Command). task_named command.task))

-- what is known once the work of all batches is listed
pub record AreListed (merge : Bool) (batches : List Batch) : Type 0 where
  pub few : length (all_commands merge 1 batches) < 2 ^ 64
  pub named : AllByRecursion IsBatchNamed batches

pub listed : {X E : Type 0} (result : Result X E) (merge : Bool) (batches : List Batch) → IfOk result (λ x. length (all_commands merge 1 batches) < 2 ^ 64) → IfOk result (λ x. AllByRecursion HaveNames batches) → IfOk result (λ x. AreListed merge batches)
listed (Ok x) merge batches few names = record { few = few; named = all_named batches names }
listed (Err e) merge batches few names = tt

-- ---- the verdict

-- what is known of the batches and of all their commands
pub record AreGiven (lanes : ℕ) (merge : Bool) (batches : List Batch) (commands : List Command) : Type 0 where
  pub of : AllByRecursion (IsOfLanes lanes) batches
  pub named : AllByRecursion IsBatchNamed batches
  pub are : commands ≡ all_commands merge 1 batches
  pub few : length (all_commands merge 1 batches) < 2 ^ 64

-- what was read from the trace
pub record AreRead (trace : Text) (hints : List Hint) (texts : List Text) : Type 0 where
  pub hints_are : hints ≡ map hint_read (groups_of trace)
  pub texts_are : texts ≡ map group_text (groups_of trace)
  pub whole : flat_map (λ text. text) texts ≡ trace

decided : EndsDecide → (rules : Rules) (options : Options) (lanes : ℕ) (merge : Bool) (batches : List Batch) (trace : Text) (commands : List Command) (hints : List Hint) (texts : List Text) → AreGiven lanes merge batches commands → AreOptionsOf lanes merge options
    → hints ≡ take (length commands) (map hint_read (groups_of trace)) → texts ≡ map group_text (groups_of trace)
    → (verdict rules options batches trace ≡ true → (is_cut trace ≡ true) × IsWhole rules options batches trace commands hints texts)
    × (IsWhole rules options batches trace commands hints texts → verdict rules options batches trace ≡ true)
decided decide rules options lanes merge batches trace commands hints texts given are hints_are texts_are =
    let same : commands ≡ all_commands options.merge 1 batches = given.are ∙ ap (λ (m : Bool). all_commands m 1 batches) (sym are.merge_is) in
    decide rules options batches trace commands hints texts (subst (λ (n : ℕ). AllByRecursion (IsOfLanes n) batches) (sym are.lanes_are) given.of) given.named are.traced
    (subst (λ (m : Bool). length (all_commands m 1 batches) < 2 ^ 64) (sym are.merge_is) given.few) same
    (hints_are ∙ ap (λ (cs : List Command). take (length cs) (map hint_read (groups_of trace))) same) texts_are

-- a trace that is not cut is that of no run
pub uncut : EndsDecide → (rules : Rules) (options : Options) (lanes : ℕ) (merge : Bool) (batches : List Batch) (trace : Text) → AreGiven lanes merge batches (all_commands merge 1 batches) → AreOptionsOf lanes merge options → is_cut trace ≡ false
    → false ≡ verdict rules options batches trace
uncut decide rules options lanes merge batches trace given are out = by (verdict rules options batches trace) refl
  where
    commands : List Command
    commands = all_commands merge 1 batches

    by : (b : Bool) → verdict rules options batches trace ≡ b → false ≡ b
    by true said =
        let cut = ((decided decide rules options lanes merge batches trace commands (take (length commands) (map hint_read (groups_of trace))) (map group_text (groups_of trace)) given are refl refl).0 said).0 in
        sym out ∙ cut
    by false said = refl

-- the verdict is true exactly if the groups are right
pub judged : EndsDecide → (rules : Rules) (options : Options) (lanes : ℕ) (merge : Bool) (batches : List Batch) (trace : Text) (commands : List Command) (hints : List Hint) (texts : List Text) → AreGiven lanes merge batches commands → AreOptionsOf lanes merge options
    → AreRead trace hints texts → (b : Bool) → (b ≡ true → IsRight rules lanes merge batches commands hints texts) → (IsRight rules lanes merge batches commands hints texts → b ≡ true) → b ≡ verdict rules options batches trace
judged decide rules options lanes merge batches trace commands hints texts given are found b sound complete =
    same_tests b (verdict rules options batches trace) (λ right. d.1 (whole_of (sound right))) (λ said. complete (right_of (d.0 said).1))
  where
    first : List Hint
    first = take (length commands) hints

    d : (verdict rules options batches trace ≡ true → (is_cut trace ≡ true) × IsWhole rules options batches trace commands first texts)
        × (IsWhole rules options batches trace commands first texts → verdict rules options batches trace ≡ true)
    d = decided decide rules options lanes merge batches trace commands first texts given are (ap (take (length commands)) found.hints_are) found.texts_are

    numbers_are : numbers_pass options.lanes options.merge batches first ≡ numbers_pass lanes merge batches first
    numbers_are = ap (λ (n : ℕ). numbers_pass n options.merge batches first) are.lanes_are ∙ ap (λ (m : Bool). numbers_pass lanes m batches first) are.merge_is

    whole_of : IsRight rules lanes merge batches commands hints texts → IsWhole rules options batches trace commands first texts
    whole_of right = record {
      whole = found.whole;
      many = right.many;
      numbers = numbers_are ∙ right.numbers;
      replayed = right.replayed;
    }

    right_of : IsWhole rules options batches trace commands first texts → IsRight rules lanes merge batches commands hints texts
    right_of whole = record {
      many = whole.many;
      numbers = sym numbers_are ∙ whole.numbers;
      replayed = whole.replayed;
    }

-- ---- the two halves of the verdict

pub right_of : VerdictDecides → (checker : CheckerOf) (trace : Text) (b : Bool) → AreChecked checker.options checker.batches → AreListed checker.options.merge checker.batches
    → b ≡ verdict checker.rules checker.options checker.batches trace → b ≡ true → HasRecord checker trace
right_of law checker trace b known listed is said =
    (remade checker.rules checker.options checker.batches trace, (law checker.rules checker.options checker.batches trace known.lanes listed.named known.traced listed.few).0 (sym is ∙ said))

pub none_of : VerdictDecides → (checker : CheckerOf) (trace : Text) (b : Bool) → AreChecked checker.options checker.batches → AreListed checker.options.merge checker.batches
    → b ≡ verdict checker.rules checker.options checker.batches trace → b ≡ false → HasRecord checker trace → ⊥
none_of law checker trace b known listed is said has =
    let right = (law checker.rules checker.options checker.batches trace known.lanes listed.named known.traced listed.few).1 has.0 has.1 in
    let no : false ≡ true = sym said ∙ is ∙ right in cc
