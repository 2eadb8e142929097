-- The pass over the answers of a batch, and over the batches.
use Rattle.std.proofs.Common.{◌≡◌, refl, ap, sym, ◌∙◌, subst, ℕ, zero, suc, ◌+◌, ◌<◌, ◌≤◌, List, [], ◌∷◌, ◌++◌, map, length, length-append, get_or, take, drop, Bool, true, false, cond, Option, Some, None, arith}
use Rattle.std.specs.Prelude.{◌==◌, ◌&&◌, replicate}
use Rattle.std.specs.List.{AllByRecursion, list_all, range_with_len}
use Rattle.std.proofs.lemmas.Bool.{eq-eqb, eqb-true, and_parts}
use Rattle.std.proofs.lemmas.List.{length-map, length-take-le, map-append, take-append-drop, get_or_default}
use Rattle.std.proofs.lemmas.List.FromFn.{length-range_with_len}
use Rattle.std.proofs.Math.Seq.{drop-cons, take-append_seam}
use Rattle.list_laws.proofs.ListLemmas.{all_append, drop_seam, all_at}
use Rattle.script_model.specs.Commands.{Batch, Command, Merge, command_with, updates}
use Rattle.script_model.specs.Lanes.{IsOfLanes}
use Rattle.record_model.specs.Play.{merger_commands}
use Rattle.trace_laws.specs.Hints.{Hint}
use Rattle.trace_laws.specs.Lows.{all_below, climbed, lows_on, with_low}
use Rattle.trace_laws.specs.Passing.{are_apart, batches_rise, is_filled, lane_rises, moments_of}
use Rattle.trace_laws.specs.Rebuilt.{Hinted, hinted_with}
use Rattle.trace_laws.specs.Verdict.{all_commands, counted, hinted_zip}
use Rattle.trace_laws.proofs.LowLemmas.{pass_is_test}
use Rattle.trace_hints.specs.declared.hint.Hint.{Hint as Declared}
use Rattle.trace_hints.specs.Told.{hint_as}
use Rattle.trace_numbers.specs.Positions.{accepted_of, numbers_pass, rises_whole}
use Rattle.trace_numbers.proofs.ApartLemmas.{counted_is, told}
use Rattle.list_laws.proofs.TestLemmas.{same_tests}
use Rattle.record_model.proofs.LegalLemmas.{within_batch, within_merges}

-- ---- commands with their hints

pub told_zip : (commands : List Command) (hints : List Hint) → length hints ≡ length commands → told (hinted_zip commands hints) ≡ hints
told_zip [] [] size = refl
told_zip [] (h ∷ hints) size = let none : suc (length hints) ≡ 0 = size in absurd (omega (arith, none))
told_zip (c ∷ commands) [] size = refl
told_zip (c ∷ commands) (h ∷ hints) size = let more : suc (length hints) ≡ suc (length commands) = size in ap (λ (hs : List Hint). h ∷ hs) (told_zip commands hints (omega (arith, more)))

zip_parts : (commands more : List Command) (hints later : List Hint) → length hints ≡ length commands → hinted_zip (commands ++ more) (hints ++ later) ≡ hinted_zip commands hints ++ hinted_zip more later
zip_parts [] more [] later size = refl
zip_parts [] more (h ∷ hints) later size = let none : suc (length hints) ≡ 0 = size in absurd (omega (arith, none))
zip_parts (c ∷ commands) more [] later size = let none : 0 ≡ suc (length commands) = size in absurd (omega (arith, none))
zip_parts (c ∷ commands) more (h ∷ hints) later size =
    let same : suc (length hints) ≡ suc (length commands) = size in ap (λ (hs : List Hinted). hinted_with c h ∷ hs) (zip_parts commands more hints later (omega (arith, same)))

pub zip_lanes : (lanes : ℕ) (commands : List Command) (hints : List Hint) → AllByRecursion (λ (c : Command). c.lane ≤ lanes) commands → AllByRecursion (λ (h : Hinted). h.command.lane ≤ lanes) (hinted_zip commands hints)
zip_lanes lanes [] hints h = tt
zip_lanes lanes (c ∷ commands) [] h = tt
zip_lanes lanes (c ∷ commands) (x ∷ hints) h = (h.0, zip_lanes lanes commands hints h.1)

-- ---- one more answer

lows_append : (o : Option (List ℕ)) (before after : List Hinted) → lows_on o (before ++ after) ≡ lows_on (lows_on o before) after
lows_append None before after = refl
lows_append (Some lows) [] after = refl
lows_append (Some lows) (h ∷ before) after = lows_append (with_low lows h.command.lane (climbed (get_or lows h.command.lane 0) (moments_of h.hint))) before after

-- the pass over the rest from an index on
abbrev pub pass_from : List ℕ → List Command → List Declared → ℕ → Option (List ℕ)
pass_from lows commands hints n = lows_on (Some lows) (hinted_zip (drop n commands) (map hint_as (drop n hints)))

abbrev pub climbs : List ℕ → ℕ → Declared → Option (List ℕ)
climbs lows lane hint = with_low lows lane (climbed (get_or lows lane 0) (moments_of (hint_as hint)))

step_from : (lows : List ℕ) (commands : List Command) (hints : List Declared) (n : ℕ) (c : Command) (h : Declared) → n < length commands → n < length hints → c.lane ≡ (get_or commands n c).lane → h ≡ get_or hints n h
    → pass_from lows commands hints n ≡ lows_on (climbs lows c.lane h) (hinted_zip (drop (suc n) commands) (map hint_as (drop (suc n) hints)))
step_from lows [] hints n c h low few command hint = absurd (omega (arith, low))
step_from lows (x ∷ commands) [] n c h low few command hint = absurd (omega (arith, few))
step_from lows (x ∷ commands) (y ∷ hints) zero c h low few command hint =
    ap (λ (lane : ℕ). lows_on (climbs lows lane y) (hinted_zip commands (map hint_as hints))) (sym command)
    ∙ ap (λ (k : Declared). lows_on (climbs lows c.lane k) (hinted_zip commands (map hint_as hints))) (sym hint)
step_from lows (x ∷ commands) (y ∷ hints) (suc n) c h low few command hint = step_from lows commands hints n c h (omega (arith, low)) (omega (arith, few)) command hint

pub pass_falls : (lows : List ℕ) (commands : List Command) (hints : List Declared) (n : ℕ) (c : Command) (h : Declared) → n < length commands → n < length hints → c.lane ≡ (get_or commands n c).lane → h ≡ get_or hints n h
    → climbs lows c.lane h ≡ None → pass_from lows commands hints n ≡ None
pass_falls lows commands hints n c h low few command hint falls =
    step_from lows commands hints n c h low few command hint ∙ ap (λ (o : Option (List ℕ)). lows_on o (hinted_zip (drop (suc n) commands) (map hint_as (drop (suc n) hints)))) falls

pub pass_rises : (lows after : List ℕ) (commands : List Command) (hints : List Declared) (n m : ℕ) (c : Command) (h : Declared) → m ≡ n + 1 → n < length commands → n < length hints → c.lane ≡ (get_or commands n c).lane → h ≡ get_or hints n h
    → climbs lows c.lane h ≡ Some after → pass_from after commands hints m ≡ pass_from lows commands hints n
pass_rises lows after commands hints n m c h next low few command hint rises =
    let e : m ≡ suc n = omega (arith, next) in
    ap (pass_from after commands hints) e
    ∙ sym (step_from lows commands hints n c h low few command hint ∙ ap (λ (o : Option (List ℕ)). lows_on o (hinted_zip (drop (suc n) commands) (map hint_as (drop (suc n) hints)))) rises)

-- one more merge, whose lane is 0
pub merge_falls : (lows : List ℕ) (merges : List Command) (hints : List Declared) (n : ℕ) (d : Declared) → AllByRecursion (λ (c : Command). c.lane ≡ 0) merges → length hints ≡ length merges → n < length hints
    → climbs lows 0 (get_or hints n d) ≡ None → pass_from lows merges hints n ≡ None
merge_falls lows merges hints n d lanes size few falls =
    let merge : Command = command_with 0 0 (Merge false) in
    let low : n < length merges = omega (arith, size, few) in
    pass_falls lows merges hints n merge (get_or hints n d) low few (sym (all_at (λ (c : Command). c.lane ≡ 0) merges n merge lanes low)) (get_or_default hints n d (get_or hints n d) few) falls

pub merge_rises : (lows after : List ℕ) (merges : List Command) (hints : List Declared) (n : ℕ) (d : Declared) → AllByRecursion (λ (c : Command). c.lane ≡ 0) merges → length hints ≡ length merges → n < length hints
    → climbs lows 0 (get_or hints n d) ≡ Some after → pass_from after merges hints (n + 1) ≡ pass_from lows merges hints n
merge_rises lows after merges hints n d lanes size few rises =
    let merge : Command = command_with 0 0 (Merge false) in
    let low : n < length merges = omega (arith, size, few) in
    pass_rises lows after merges hints n (n + 1) merge (get_or hints n d) refl low few (sym (all_at (λ (c : Command). c.lane ≡ 0) merges n merge lanes low)) (get_or_default hints n d (get_or hints n d) few) rises

-- ---- a batch

-- the commands of a batch, and then merges
pub pass_parts : (lows : List ℕ) (commands merges : List Command) (hints : List Declared) → length commands ≤ length hints
    → lows_on (Some lows) (hinted_zip (commands ++ merges) (map hint_as hints))
    ≡ lows_on (lows_on (Some lows) (hinted_zip commands (map hint_as (take (length commands) hints)))) (hinted_zip merges (map hint_as (drop (length commands) hints)))
pass_parts lows commands merges hints enough =
    let n : ℕ = length commands in
    let parts : map hint_as hints ≡ map hint_as (take n hints) ++ map hint_as (drop n hints) = ap (map hint_as) (sym (take-append-drop n hints)) ∙ map-append hint_as (take n hints) (drop n hints) in
    let size : length (map hint_as (take n hints)) ≡ n = length-map (take n hints) hint_as ∙ length-take-le n hints enough in
    ap (λ (hs : List Hint). lows_on (Some lows) (hinted_zip (commands ++ merges) hs)) parts
    ∙ ap (lows_on (Some lows)) (zip_parts commands merges (map hint_as (take n hints)) (map hint_as (drop n hints)) size)
    ∙ lows_append (Some lows) (hinted_zip commands (map hint_as (take n hints))) (hinted_zip merges (map hint_as (drop n hints)))

-- the same from the last positions at the sync on, for the parts that the code has
pub batch_pass : (size from sync : ℕ) (start : List ℕ) (batch commands merges : List Command) (hints given rest : List Declared) → start ≡ replicate size from → commands ≡ batch → length batch ≤ length hints
    → given ≡ take (length commands) hints → rest ≡ drop (length commands) hints
    → all_below sync (lows_on (Some (replicate size from)) (hinted_zip (batch ++ merges) (map hint_as hints)))
    ≡ all_below sync (lows_on (lows_on (Some start) (hinted_zip commands (map hint_as given))) (hinted_zip merges (map hint_as rest)))
batch_pass size from sync start batch commands merges hints given rest begun same enough front back =
    ap (λ (lows : List ℕ). all_below sync (lows_on (Some lows) (hinted_zip (batch ++ merges) (map hint_as hints)))) (sym begun)
    ∙ ap (λ (cs : List Command). all_below sync (lows_on (Some start) (hinted_zip (cs ++ merges) (map hint_as hints)))) (sym same)
    ∙ ap (all_below sync) (pass_parts start commands merges hints (let size = ap (λ (cs : List Command). length cs) same in omega (arith, size, enough)))
    ∙ ap (λ (hs : List Declared). all_below sync (lows_on (lows_on (Some start) (hinted_zip commands (map hint_as hs))) (hinted_zip merges (map hint_as (drop (length commands) hints))))) (sym front)
    ∙ ap (λ (hs : List Declared). all_below sync (lows_on (lows_on (Some start) (hinted_zip commands (map hint_as given))) (hinted_zip merges (map hint_as hs)))) (sym back)

merges_lanes : (numbers : List ℕ) → AllByRecursion (λ (c : Command). c.lane ≡ 0) (map (λ n. command_with n 0 (Merge false)) numbers)
merges_lanes [] = tt
merges_lanes (n ∷ numbers) = (refl, merges_lanes numbers)

pub merger_lanes : (merge : Bool) (next : ℕ) (batch : Batch) → AllByRecursion (λ (c : Command). c.lane ≡ 0) (merger_commands merge next batch)
merger_lanes false next batch = tt
merger_lanes true next batch = merges_lanes (range_with_len next (updates batch))

pub merger_size : (merge : Bool) (next : ℕ) (batch : Batch) → length (merger_commands merge next batch) ≡ cond merge (updates batch) 0
merger_size false next batch = refl
merger_size true next batch = length-map (range_with_len next (updates batch)) (λ n. command_with n 0 (Merge false)) ∙ length-range_with_len next (updates batch)

pub below_lanes : (lanes size : ℕ) (batch : Batch) → size ≡ lanes + 1 → IsOfLanes lanes batch → AllByRecursion (λ (c : Command). c.lane < size) batch
below_lanes lanes size [] e h = tt
below_lanes lanes size (c ∷ batch) e h = let low : c.lane ≤ lanes = h.0.1 in (omega (arith, low, e), below_lanes lanes size batch e h.1)

-- the pass from the sync on is the test of the batch
pass_test : (lanes from to : ℕ) (hinted : List Hinted) → AllByRecursion (λ (h : Hinted). h.command.lane ≤ lanes) hinted
    → all_below to (lows_on (Some (replicate (lanes + 1) from)) hinted) ≡ list_all (lane_rises hinted from to) (range_with_len 0 (lanes + 1))
pass_test lanes from to hinted within =
    let law = pass_is_test lanes from to hinted within in
    same_tests (all_below to (lows_on (Some (replicate (lanes + 1) from)) hinted)) (list_all (lane_rises hinted from to) (range_with_len 0 (lanes + 1))) law.0 law.1

-- ---- the batches

abbrev pub commands_of : Bool → ℕ → Batch → List Command
commands_of merge next batch = batch ++ merger_commands merge next batch

later_sizes : (n m k l : ℕ) → n ≡ m → (n + k == m + l) ≡ (k == l)
later_sizes n m k l e =
    same_tests (n + k == m + l) (k == l) (λ h. let s = eqb-true (n + k) (m + l) h in eq-eqb k l (omega (arith, s, e))) (λ h. let s = eqb-true k l h in eq-eqb (n + k) (m + l) (omega (arith, s, e)))

swapped : (a b c : Bool) → (a && (b && c)) ≡ (b && (a && c))
swapped true b c = refl
swapped false true c = refl
swapped false false c = refl

pub batch_more : (lanes : ℕ) (merge : Bool) (next from sync : ℕ) (batch : Batch) (batches : List Batch) (now behind : List Declared) (rise : Bool) → IsOfLanes lanes batch
    → length now ≡ length (commands_of merge next batch) → sync ≡ from + accepted_of (map hint_as now)
    → rise ≡ all_below sync (lows_on (Some (replicate (lanes + 1) from)) (hinted_zip (commands_of merge next batch) (map hint_as now)))
    → rises_whole lanes merge next from (batch ∷ batches) (map hint_as (now ++ behind)) ≡ (rise && rises_whole lanes merge (next + updates batch) sync batches (map hint_as behind))
batch_more lanes merge next from sync batch batches now behind rise of size sync_is rise_is =
    let commands : List Command = commands_of merge next batch in
    let later : List Command = all_commands merge (next + updates batch) batches in
    let hints : List Hint = map hint_as now in
    let rest : List Hint = map hint_as behind in
    let parts : map hint_as (now ++ behind) ≡ hints ++ rest = map-append hint_as now behind in
    let sized : length hints ≡ length commands = length-map now hint_as ∙ size in
    let front : take (length commands) (hints ++ rest) ≡ hints = ap (λ (n : ℕ). take n (hints ++ rest)) (sym sized) ∙ take-append_seam hints rest in
    let back : drop (length commands) (hints ++ rest) ≡ rest = ap (λ (n : ℕ). drop n (hints ++ rest)) (sym sized) ∙ drop_seam hints rest in
    let count : counted (hinted_zip commands hints) ≡ accepted_of hints = counted_is (hinted_zip commands hints) ∙ ap accepted_of (told_zip commands hints sized) in
    let to : from + counted (hinted_zip commands hints) ≡ sync = omega (arith, count, sync_is) in
    let within : AllByRecursion (λ (h : Hinted). h.command.lane ≤ lanes) (hinted_zip commands hints) =
    zip_lanes lanes commands hints (all_append (λ (c : Command). c.lane ≤ lanes) batch (merger_commands merge next batch) (within_batch lanes batch of) (within_merges lanes (merger_commands merge next batch) (merger_lanes merge next batch))) in
    let test : rise ≡ list_all (lane_rises (hinted_zip commands hints) from sync) (range_with_len 0 (lanes + 1)) = rise_is ∙ pass_test lanes from sync (hinted_zip commands hints) within in
    let many : (length (hints ++ rest) == length (commands ++ later)) ≡ (length rest == length later) =
    ap (λ (n : ℕ). n == length (commands ++ later)) (length-append hints rest) ∙ ap (λ (n : ℕ). length hints + length rest == n) (length-append commands later) ∙ later_sizes (length hints) (length commands) (length rest) (length later) sized in
    let rising : batches_rise lanes merge next from (batch ∷ batches) (hints ++ rest) ≡ (rise && batches_rise lanes merge (next + updates batch) sync batches rest) =
    ap (λ (hs : List Hint). let now = hinted_zip commands hs in list_all (lane_rises now from (from + counted now)) (range_with_len 0 (lanes + 1)) && batches_rise lanes merge (next + updates batch) (from + counted now) batches (drop (length commands) (hints ++ rest))) front
    ∙ ap (λ (hs : List Hint). list_all (lane_rises (hinted_zip commands hints) from (from + counted (hinted_zip commands hints))) (range_with_len 0 (lanes + 1)) && batches_rise lanes merge (next + updates batch) (from + counted (hinted_zip commands hints)) batches hs) back
    ∙ ap (λ (n : ℕ). list_all (lane_rises (hinted_zip commands hints) from n) (range_with_len 0 (lanes + 1)) && batches_rise lanes merge (next + updates batch) n batches rest) to
    ∙ ap (λ (b : Bool). b && batches_rise lanes merge (next + updates batch) sync batches rest) (sym test) in
    ap (rises_whole lanes merge next from (batch ∷ batches)) parts
    ∙ ap (λ (b : Bool). b && batches_rise lanes merge next from (batch ∷ batches) (hints ++ rest)) many
    ∙ ap (λ (b : Bool). (length rest == length later) && b) rising
    ∙ swapped (length rest == length later) rise (batches_rise lanes merge (next + updates batch) sync batches rest)

-- ---- the rest, as the code has it

drop_here : {X : Type 0} (xs : List X) (i : ℕ) (x : X) → i < length xs → x ≡ get_or xs i x → drop i xs ≡ x ∷ drop (i + 1) xs
drop_here xs i x low is = let e : i + 1 ≡ suc i = omega arith in drop-cons xs i x low ∙ ap (λ y. y ∷ drop (suc i) xs) (sym is) ∙ ap (λ n. x ∷ drop n xs) (sym e)

pub left_more : (lanes : ℕ) (merge : Bool) (next from sync i : ℕ) (batch : Batch) (batches : List Batch) (hints now behind : List Declared) (rise : Bool) → AllByRecursion (IsOfLanes lanes) batches → i < length batches → batch ≡ get_or batches i batch
    → hints ≡ now ++ behind → length now ≡ length (commands_of merge next batch) → sync ≡ from + accepted_of (map hint_as now)
    → rise ≡ all_below sync (lows_on (Some (replicate (lanes + 1) from)) (hinted_zip (commands_of merge next batch) (map hint_as now)))
    → rises_whole lanes merge next from (drop i batches) (map hint_as hints) ≡ (rise && rises_whole lanes merge (next + updates batch) sync (drop (i + 1) batches) (map hint_as behind))
left_more lanes merge next from sync i batch batches hints now behind rise of low is parts size sync_is rise_is =
    let mine : IsOfLanes lanes batch = subst (IsOfLanes lanes) (sym is) (all_at (IsOfLanes lanes) batches i batch of low) in
    ap (λ (bs : List Batch). rises_whole lanes merge next from bs (map hint_as hints)) (drop_here batches i batch low is)
    ∙ ap (λ (hs : List Declared). rises_whole lanes merge next from (batch ∷ drop (i + 1) batches) (map hint_as hs)) parts
    ∙ batch_more lanes merge next from sync batch (drop (i + 1) batches) now behind rise mine size sync_is rise_is

-- ---- the tests together

pub numbers_rest : (lanes : ℕ) (merge : Bool) (batches : List Batch) (hints : List Hint) → rises_whole lanes merge 1 0 batches hints ≡ true
    → let hinted = hinted_zip (all_commands merge 1 batches) hints in (told hinted ≡ hints) × ((are_apart hinted && is_filled hinted (counted hinted)) ≡ numbers_pass lanes merge batches hints)
numbers_rest lanes merge batches hints h =
    let parts = and_parts (length hints == length (all_commands merge 1 batches)) (batches_rise lanes merge 1 0 batches hints) h in
    let hinted : List Hinted = hinted_zip (all_commands merge 1 batches) hints in (
      told_zip (all_commands merge 1 batches) hints (eqb-true (length hints) (length (all_commands merge 1 batches)) parts.0),
      by (length hints == length (all_commands merge 1 batches)) (are_apart hinted) (is_filled hinted (counted hinted)) (batches_rise lanes merge 1 0 batches hints) parts.0 parts.1,
    )
  where
    ends : (c d : Bool) → d ≡ true → c ≡ (c && d)
    ends true d k = sym k
    ends false d k = refl

    by : (a b c d : Bool) → a ≡ true → d ≡ true → (b && c) ≡ (a && (b && (c && d)))
    by a b c d h k = ap (λ (x : Bool). b && x) (ends c d k) ∙ ap (λ (x : Bool). x && (b && (c && d))) (sym h)
