use Rattle.std.proofs.Common.{◌≡◌, ◌∙◌, ap, sym, ℕ, length, get_or, take, arith}
use Rattle.std.specs.BinaryHeap.{heap_items}
use Rattle.std.proofs.lemmas.List.Elements.{All-from_recursion}
use Rattle.lake_model.specs.Answer.{row_cmp}
use Rattle.lake_model.specs.Sorting.{put_in_order}
use Rattle.topk_heap.specs.Ranked.{row_in, IsEntry}
use Rattle.topk_heap.proofs.RankedLemmas.{entries_moved, entries_swapped, in_rows, rows_left, rows_pushed, rows_swapped}
use Rattle.topk_heap.proofs.ranked.keep.Goals as goal

pub returns-then-len-k-clause-entries : goal.returns-then-len-k-clause-entries
returns-then-len-k-clause-entries c = λ n is are. entries_moved n c.args.entry _ _ c.put.ensures.moved is are

pub returns-then-len-k-clause-rows : goal.returns-then-len-k-clause-rows
returns-then-len-k-clause-rows c = λ titled rising is are.
    rows_pushed titled c.args.entry c.args.k _ _ c.put.ensures.moved (omega (arith, c.len_counts_entries.ensures, c.len.ensures, c.if-len-k.true))

pub returns-then-is_before_last-clause-entries : goal.returns-then-is_before_last-clause-entries
returns-then-is_before_last-clause-entries c = λ n is are.
    let moved = c.replace.ensures.moved in
    entries_swapped n c.args.entry (get_or (heap_items c.args.heap.now) 0 0) _ moved.0 _ moved.1 moved.2 is are

pub returns-then-is_before_last-clause-rows : goal.returns-then-is_before_last-clause-rows
returns-then-is_before_last-clause-rows c = λ titled rising is are.
    let moved = c.replace.ensures.moved in
    let items = heap_items c.args.heap.now in
    let k : length items ≡ c.args.k = omega (arith, c.len_counts_entries.ensures, c.len.ensures, c.if-len-k.false, c.requires.few) in
    rows_swapped titled rising c.args.entry (get_or items 0 0) items moved.0 _ moved.1 moved.2 moved.3 is are (c.is_before_last.ensures.yes c.if-is_before_last.true)
    ∙ ap (λ (n : ℕ). take n (put_in_order row_cmp (row_in titled c.args.entry) (in_rows titled items))) k

pub returns-else-is_before_last-clause-rows : goal.returns-else-is_before_last-clause-rows
returns-else-is_before_last-clause-rows c = λ titled rising is are.
    let items = heap_items c.args.heap.now in
    let k : length items ≡ c.args.k = omega (arith, c.len_counts_entries.ensures, c.len.ensures, c.if-len-k.false, c.requires.few) in
    let of : IsEntry (length titled) (get_or items 0 0) = All-from_recursion (IsEntry (length titled)) items are 0 0 (omega (arith, k, c.requires.some)) in
    sym (ap (λ (n : ℕ). take n (put_in_order row_cmp (row_in titled c.args.entry) (in_rows titled items))) (sym k)
    ∙ rows_left titled rising c.args.entry (get_or items 0 0) items is of are c.is_before_last.ensures.last (c.is_before_last.ensures.no c.if-is_before_last.false))
