-- The positions along all lanes, in one pass over the answers in the order of the script that keeps each lane's last
-- position.
use Rattle.std.specs.Prelude.{ℕ, ◌+◌, ◌≤◌, replicate, ◌==◌, ◌≡◌, ◌<◌, filter, flat_map, Bool, true, false, if◌then◌else◌, List, [], ◌∷◌, length, get_or, slice_set, nat_le, Option, Some, None}
use Rattle.std.specs.List.{AllByRecursion, list_all, range_with_len}
use Rattle.record_model.specs.Right.{Moment}
use Rattle.trace_laws.specs.Checks.{is_behind, rises}
use Rattle.trace_laws.specs.Rebuilt.{Hinted}
use Rattle.trace_laws.specs.Passing.{lane_rises, moments_of}

-- the last of the positions, if they do not fall
abbrev pub climbed : ℕ → List Moment → Option ℕ
climbed low [] = Some low
climbed low (moment ∷ moments) = if is_behind moment.own low moment.at then climbed moment.at moments else None

-- the last positions after one more answer
abbrev pub with_low : List ℕ → ℕ → Option ℕ → Option (List ℕ)
with_low lows lane None = None
with_low lows lane (Some low) = Some (slice_set lows lane low)

abbrev pub lows_on : Option (List ℕ) → List Hinted → Option (List ℕ)
lows_on None hinted = None
lows_on (Some lows) [] = Some lows
lows_on (Some lows) (h ∷ hinted) = lows_on (with_low lows h.command.lane (climbed (get_or lows h.command.lane 0) (moments_of h.hint))) hinted

abbrev pub all_below : ℕ → Option (List ℕ) → Bool
all_below high None = false
all_below high (Some lows) = list_all (λ low. nat_le low high) lows

-- a lane's positions rise from its last one on
abbrev pub rises_on : List Hinted → List ℕ → ℕ → ℕ → Bool
rises_on hinted lows to lane = rises (get_or lows lane 0) (flat_map (λ h. moments_of h.hint) (filter (λ h. h.command.lane == lane) hinted)) to

-- The pass decides whether the positions rise along each lane, if each answer belongs to one of the lanes.
abbrev pub PassDecides : Type 0
PassDecides = (lanes to : ℕ) (lows : List ℕ) (hinted : List Hinted) → length lows ≡ lanes → AllByRecursion (λ h. h.command.lane < lanes) hinted
    → (all_below to (lows_on (Some lows) hinted) ≡ true → (lane : ℕ) → lane < lanes → rises_on hinted lows to lane ≡ true)
    × (((lane : ℕ) → lane < lanes → rises_on hinted lows to lane ≡ true) → all_below to (lows_on (Some lows) hinted) ≡ true)

-- If every lane starts at the sync before a batch, the pass is the batch's test.
abbrev pub PassIsTest : Type 0
PassIsTest = (lanes from to : ℕ) (hinted : List Hinted) → AllByRecursion (λ h. h.command.lane ≤ lanes) hinted
    → (all_below to (lows_on (Some (replicate (lanes + 1) from)) hinted) ≡ true → list_all (lane_rises hinted from to) (range_with_len 0 (lanes + 1)) ≡ true)
    × (list_all (lane_rises hinted from to) (range_with_len 0 (lanes + 1)) ≡ true → all_below to (lows_on (Some (replicate (lanes + 1) from)) hinted) ≡ true)
