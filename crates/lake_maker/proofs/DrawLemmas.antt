-- A draw from a later state is a later draw from the first state.
use Rattle.std.proofs.Common.{◌≡◌, refl, ap, sym, ◌∙◌, ℕ, zero, suc, ◌+◌, ◌*◌, ◌/◌, ◌%◌, ◌-◌, [], ◌∷◌, ◌++◌, codes, decimal, flat_map, add-zero, add-suc, append_assoc, arith}
use Rattle.std.specs.List.{range_with_len}
use Rattle.lake_model.specs.Texts.{Text}
use Rattle.script_model.specs.Commands.{Task, Like}
use Rattle.option_model.specs.Generator.{cell, draw, load_tasks, next_state, record_text, search_task, state_at, table_name, table_text}
use Rattle.lake_maker.specs.Made.{load_with, search_at}
use Rattle.lake_maker.proofs.RangeLemmas.{flat_range_more}

pub state_at-zero : (s : ℕ) → state_at s 0 ≡ s
unfolding state_at
state_at-zero s = refl

pub state_at-one : (s : ℕ) → state_at s 1 ≡ next_state s
unfolding state_at
state_at-one s = refl

pub draw_zero : (s : ℕ) → draw s 0 ≡ next_state s / 65536
unfolding state_at
draw_zero s = refl

pub state_behind : (s n k : ℕ) → state_at (state_at s n) k ≡ state_at s (n + k)
unfolding state_at
state_behind s n zero = ap (state_at s) (sym (add-zero n))
state_behind s n (suc k) = ap next_state (state_behind s n k) ∙ ap (state_at s) (sym (add-suc n k))

-- the same, with the sum under another name
pub state_there : (s n k m : ℕ) → n + k ≡ m → state_at (state_at s n) k ≡ state_at s m
state_there s n k m e = state_behind s n k ∙ ap (state_at s) e

pub draw_behind : (s n k : ℕ) → draw (state_at s n) k ≡ draw s (n + k)
draw_behind s n k = ap (λ (state : ℕ). next_state state / 65536) (state_behind s n k)

cell_behind : (s n k below : ℕ) → cell (state_at s n) k below ≡ cell s (n + k) below
cell_behind s n k below = ap (λ (drawn : ℕ). 0x76 ∷ decimal (drawn % below)) (draw_behind s n k)

pub cell_there : (s n k m below : ℕ) → n + k ≡ m → cell (state_at s n) k below ≡ cell s m below
cell_there s n k m below e = cell_behind s n k below ∙ ap (λ (at : ℕ). cell s at below) e

record_of : Text → Text → Text → Text
record_of a b c = a ++ 0x2C ∷ b ++ 0x2C ∷ c ++ 0x0A ∷ []

record_there : (s n k m : ℕ) → n + k ≡ m → record_text (state_at s n) k ≡ record_text s m
unfolding record_of
record_there s n k m e =
    λ i. record_of (cell_there s n k m 64 e i) (cell_there s n (k + 1) (m + 1) 1024 (omega (arith, e)) i) (cell_there s n (k + 2) (m + 2) 16384 (omega (arith, e)) i)

table_there : (s n k m rows : ℕ) → n + k ≡ m → table_text (state_at s n) rows k ≡ table_text s rows m
table_there s n k m rows e =
    λ i. codes "a,b,c\n" ++ flat_map (λ (row : ℕ). record_there s n (k + 3 * row) (m + 3 * row) (omega (arith, e)) i) (range_with_len 0 rows)

-- one record more
pub table_more : (s rows : ℕ) → table_text s (rows + 1) 0 ≡ table_text s rows 0 ++ record_text (state_at s (3 * rows)) 0
table_more s rows =
    ap (λ (xs : Text). codes "a,b,c\n" ++ xs) (flat_range_more (λ (row : ℕ). record_text s (0 + 3 * row)) 0 rows)
    ∙ sym (append_assoc (codes "a,b,c\n") (flat_map (λ (row : ℕ). record_text s (0 + 3 * row)) (range_with_len 0 rows)) (record_text s (0 + 3 * (0 + rows))))
    ∙ ap (λ (xs : Text). table_text s rows 0 ++ xs) (sym (record_there s (3 * rows) 0 (0 + 3 * (0 + rows)) (omega arith)))

-- one load more
pub loads_more : (s rows tables : ℕ)
    → flat_map (load_tasks s rows) (range_with_len 1 (tables + 1))
    ≡ flat_map (load_tasks s rows) (range_with_len 1 tables) ++ load_with (tables + 1) (table_text (state_at s (3 * rows * tables)) rows 0)
loads_more s rows tables =
    let number : 1 + tables ≡ tables + 1 = omega arith in
    let before : 3 * rows * tables + 0 ≡ 3 * rows * (tables + 1 - 1) = ap (λ (n : ℕ). n) (add-zero (3 * rows * tables)) ∙ ap (λ (n : ℕ). 3 * rows * n) (omega arith) in
    flat_range_more (load_tasks s rows) 1 tables
    ∙ ap (λ (n : ℕ). flat_map (load_tasks s rows) (range_with_len 1 tables) ++ load_tasks s rows n) number
    ∙ ap (λ (body : Text). flat_map (load_tasks s rows) (range_with_len 1 tables) ++ load_with (tables + 1) body) (sym (table_there s (3 * rows * tables) 0 (3 * rows * (tables + 1 - 1)) rows before))

like : ℕ → ℕ → ℕ → Task
like tables a b = Like 10 (table_name (1 + a % tables)) (1 + b % 3)

-- the search of the two draws after those of all tables
pub search_there : (s tables rows n : ℕ) → search_at (state_at (state_at s (3 * rows * tables)) (2 * n)) tables ≡ search_task s tables rows n
unfolding like
search_there s tables rows n =
    ap (λ (state : ℕ). search_at state tables) (state_behind s (3 * rows * tables) (2 * n))
    ∙ (λ i. like tables ((draw_behind s (3 * rows * tables + 2 * n) 0 ∙ ap (draw s) (add-zero (3 * rows * tables + 2 * n))) i) (draw_behind s (3 * rows * tables + 2 * n) 1 i))
