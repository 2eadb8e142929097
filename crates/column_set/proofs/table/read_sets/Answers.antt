use Rattle.std.proofs.Common.{◌≡◌, ◌∙◌, ◌<◌, ◌+◌, ◌++◌, ◌∷◌, [], true, false, ap, arith, inr, length, subst, sym}
use Rattle.std.specs.Prelude.{nat_lt, not}
use Rattle.std.specs.List.{AllByRecursion}
use Rattle.std.specs.Result.{is_ok}
use Rattle.std.proofs.lemmas.Bool.{le-ltb, lt-ltb}
use Rattle.std.proofs.lemmas.List.FromFn.{length-map-range_with_len, map-range_with_len_more}
use Rattle.lake_model.specs.Records.{column_at, column_count}
use Rattle.column_set.specs.Columns.{IsSmall}
use Rattle.column_set.specs.Lists.{parts_of}
use Rattle.column_set.proofs.ListsLemmas.{lists_step, no_lists}
use Rattle.column_set.proofs.ReadLemmas.{all-more, fault_behind-here, fault_behind-later, fault_behind-none}
use Rattle.column_set.proofs.table.read_sets.Goals as goal

pub loop-i-init : goal.loop-i-init
loop-i-init c =
    let raw = c.args.raw.now in
    let nothing = no_lists c.in_ok-starts.starts.items c.in_ok-lists.lists.finished c.in_ok-starts.ensures c.in_ok-lists.ensures.0 in
    record {
      none = c.in_ok-lists.ensures.1;
      held = nothing.0;
      read = nothing.1;
      small = subst (AllByRecursion IsSmall) (sym nothing.1) tt;
      fault = fault_behind-none (λ place. nat_lt 4194304 (length (column_at c.args.keys raw place).keys)) (column_count raw);
    }

pub returns-then-size-gt-MOST_KEYS-clause-refused : goal.returns-then-size-gt-MOST_KEYS-clause-refused
returns-then-size-gt-MOST_KEYS-clause-refused c =
    let raw = c.args.raw.now in
    let i = c.loop-i.i in
    let within : i < column_count raw = omega (arith, c.columns-i-end.ensures.value) in
    let many : nat_lt 4194304 (length (column_at c.args.keys raw (i + 1)).keys) ≡ true = lt-ltb 4194304 (length (column_at c.args.keys raw (i + 1)).keys) (omega (arith, c.in_ok-size.ensures.size)) in
    inr (c.loop-i.invariant.fault ∙ fault_behind-here (λ place. nat_lt 4194304 (length (column_at c.args.keys raw place).keys)) i (column_count raw) within many)

pub loop-i-preserved : goal.loop-i-preserved
loop-i-preserved c =
    let raw = c.args.raw.now in
    let i = c.loop-i.i in
    let keys = (column_at c.args.keys raw (i + 1)).keys in
    let within : i < column_count raw = omega (arith, c.columns-i-end.ensures.value) in
    let good : is_ok c.push.result ≡ true = c.is_err.ensures.negation ∙ ap not c.if-is_err.false in
    let items = rw good at c.push.ensures.items in
    let few : nat_lt 4194304 (length keys) ≡ false = le-ltb 4194304 (length keys) (omega (arith, c.in_ok-size.ensures.size)) in
    let more = map-range_with_len_more (λ place. (column_at c.args.keys raw place).keys) 1 i (i + 1) (omega arith) in
    let step = lists_step c.loop-i.starts.items c.loop-i.lists.finished keys c.loop-i.invariant.held c.read_keys.new.lists.finished c.in_ok-size.ensures.finished c.finished.result c.finished.ensures c.push.new.self.items items in
    record {
      none = c.in_ok-size.ensures.none;
      held = step.0;
      read = step.1 ∙ (λ j. c.loop-i.invariant.read j ++ keys ∷ []) ∙ sym more;
      small = subst (AllByRecursion IsSmall) (sym step.1) (all-more IsSmall (parts_of c.loop-i.starts.items c.loop-i.lists.finished) keys c.loop-i.invariant.small (omega (arith, c.in_ok-size.ensures.size)));
      fault = c.loop-i.invariant.fault ∙ fault_behind-later (λ place. nat_lt 4194304 (length (column_at c.args.keys raw place).keys)) i (column_count raw) within few;
    }

pub returns-clause-narrow : goal.returns-clause-narrow
returns-clause-narrow c =
    let same = c.of.ensures ∙ ap (parts_of c.loop-i.starts.items) c.into_texts.ensures in
    let size = ap length (same ∙ c.loop-i.invariant.read) ∙ length-map-range_with_len (λ place. (column_at c.args.keys c.args.raw.now place).keys) 1 c.loop-i.i in
    omega (arith, size, c.columns-i-end.ensures.narrow)
