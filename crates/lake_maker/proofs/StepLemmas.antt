-- A turn of each loop, and the draws and texts that a function puts one after the other.
use Rattle.std.proofs.Common.{◌≡◌, ap, sym, ◌∙◌, ℕ, ◌+◌, ◌*◌, ◌%◌, List, [], ◌∷◌, ◌++◌, flat_map, map, add-one, mul-suc, append_assoc, arith}
use Rattle.std.specs.List.{range_with_len}
use Rattle.std.proofs.lemmas.List.FromFn.{map-range_with_len_more}
use Rattle.lake_model.specs.Texts.{Text}
use Rattle.script_model.specs.Commands.{Task, Like}
use Rattle.option_model.specs.Generator.{cell, draw, load_tasks, record_text, search_task, state_at, table_name, table_text}
use Rattle.lake_maker.specs.Made.{load_with, search_at}
use Rattle.lake_maker.proofs.DrawLemmas.{cell_there, draw_behind, loads_more, search_there, state_at-zero, state_there, table_more}

-- nothing was drawn
pub state_none : (s n : ℕ) → n ≡ 0 → s ≡ state_at s n
state_none s n e = sym (state_at-zero s) ∙ ap (state_at s) (sym e)

pub state_step : (s n k m here after : ℕ) → here ≡ state_at s n → after ≡ state_at here k → n + k ≡ m → after ≡ state_at s m
state_step s n k m here after now then e = then ∙ ap (λ (state : ℕ). state_at state k) now ∙ state_there s n k m e

pub times_more : (q n : ℕ) → q * n + q ≡ q * (n + 1)
times_more q n = sym (mul-suc q n) ∙ ap (λ (m : ℕ). q * m) (sym (add-one n))

-- ---- a record

pub record_pushed : (s d₁ d₂ : ℕ) (t₀ t₁ t₂ t₃ t₄ t₅ t₆ : Text)
    → d₁ ≡ state_at s 1 → d₂ ≡ state_at d₁ 1
    → t₁ ≡ t₀ ++ cell s 0 64 → t₂ ≡ t₁ ++ 0x2C ∷ [] → t₃ ≡ t₂ ++ cell d₁ 0 1024 → t₄ ≡ t₃ ++ 0x2C ∷ [] → t₅ ≡ t₄ ++ cell d₂ 0 16384 → t₆ ≡ t₅ ++ 0x0A ∷ []
    → t₆ ≡ t₀ ++ record_text s 0
record_pushed s d₁ d₂ t₀ t₁ t₂ t₃ t₄ t₅ t₆ first second e₁ e₂ e₃ e₄ e₅ e₆ =
    let b : cell d₁ 0 1024 ≡ cell s 1 1024 = ap (λ (d : ℕ). cell d 0 1024) first ∙ cell_there s 1 0 1 1024 (omega arith) in
    let c : cell d₂ 0 16384 ≡ cell s 2 16384 = ap (λ (d : ℕ). cell d 0 16384) (state_step s 1 1 2 d₁ d₂ first second (omega arith)) ∙ cell_there s 2 0 2 16384 (omega arith) in
    pieces (cell s 0 64) (cell s 1 1024) (cell s 2 16384) e₁ (e₃ ∙ ap (λ (x : Text). t₂ ++ x) b) (e₅ ∙ ap (λ (x : Text). t₄ ++ x) c)
  where
    pieces : (x y z : Text) → t₁ ≡ t₀ ++ x → t₃ ≡ t₂ ++ y → t₅ ≡ t₄ ++ z → t₆ ≡ t₀ ++ (x ++ 0x2C ∷ y ++ 0x2C ∷ z ++ 0x0A ∷ [])
    pieces x y z f₁ f₃ f₅ =
        let e : t₆ ≡ t₀ ++ x ++ 0x2C ∷ [] ++ y ++ 0x2C ∷ [] ++ z ++ 0x0A ∷ [] = cc in
        e ∙ simp append_assoc

-- ---- a table

pub table_step : (s rows here : ℕ) (before after : Text)
    → here ≡ state_at s (3 * rows) → before ≡ table_text s rows 0 → after ≡ before ++ record_text here 0
    → after ≡ table_text s (rows + 1) 0
table_step s rows here before after drawn so_far appended =
    appended ∙ ap (λ (text : Text). text ++ record_text here 0) so_far ∙ ap (λ (d : ℕ). table_text s rows 0 ++ record_text d 0) drawn ∙ sym (table_more s rows)

-- ---- loads

pub loads_step : (s rows tables here : ℕ) (start before after : List Task)
    → here ≡ state_at s (3 * rows * tables)
    → before ≡ start ++ flat_map (load_tasks s rows) (range_with_len 1 tables)
    → after ≡ before ++ load_with (tables + 1) (table_text here rows 0)
    → after ≡ start ++ flat_map (load_tasks s rows) (range_with_len 1 (tables + 1))
loads_step s rows tables here start before after drawn so_far appended =
    appended
    ∙ ap (λ (tasks : List Task). tasks ++ load_with (tables + 1) (table_text here rows 0)) so_far
    ∙ append_assoc start (flat_map (load_tasks s rows) (range_with_len 1 tables)) (load_with (tables + 1) (table_text here rows 0))
    ∙ ap (λ (d : ℕ). start ++ (flat_map (load_tasks s rows) (range_with_len 1 tables) ++ load_with (tables + 1) (table_text d rows 0))) drawn
    ∙ ap (λ (tasks : List Task). start ++ tasks) (sym (loads_more s rows tables))

-- ---- searches

searches_from : ℕ → ℕ → ℕ → List Task
searches_from s tables count = map (λ n. search_at (state_at s (2 * n)) tables) (range_with_len 0 count)

pub searches_step : (s tables count here : ℕ) (start before after : List Task)
    → here ≡ state_at s (2 * count)
    → before ≡ start ++ map (λ n. search_at (state_at s (2 * n)) tables) (range_with_len 0 count)
    → after ≡ before ++ search_at here tables ∷ []
    → after ≡ start ++ map (λ n. search_at (state_at s (2 * n)) tables) (range_with_len 0 (count + 1))
unfolding searches_from
searches_step s tables count here start before after drawn so_far appended =
    appended
    ∙ ap (λ (tasks : List Task). tasks ++ search_at here tables ∷ []) so_far
    ∙ append_assoc start (searches_from s tables count) (search_at here tables ∷ [])
    ∙ ap (λ (d : ℕ). start ++ (searches_from s tables count ++ search_at d tables ∷ [])) drawn
    ∙ ap (λ (tasks : List Task). start ++ tasks) (sym (map-range_with_len_more (λ (n : ℕ). search_at (state_at s (2 * n)) tables) 0 count count (omega arith)))

pub search_pushed : (s d a b tables : ℕ) (name : Text) (before after : List Task)
    → d ≡ state_at s 1 → a ≡ draw s 0 → b ≡ draw d 0 → name ≡ table_name (1 + a % tables)
    → after ≡ before ++ Like 10 name (1 + b % 3) ∷ []
    → after ≡ before ++ search_at s tables ∷ []
search_pushed s d a b tables name before after drawn first second named pushed =
    let place : b ≡ draw s 1 = second ∙ ap (λ (state : ℕ). draw state 0) drawn ∙ draw_behind s 1 0 in
    pushed
    ∙ ap (λ (text : Text). before ++ Like 10 text (1 + b % 3) ∷ []) (named ∙ ap (λ (n : ℕ). table_name (1 + n % tables)) first)
    ∙ ap (λ (n : ℕ). before ++ Like 10 (table_name (1 + draw s 0 % tables)) (1 + n % 3) ∷ []) place

-- ---- the batch

searches_are : (s tables rows : ℕ) (numbers : List ℕ)
    → map (λ n. search_at (state_at (state_at s (3 * rows * tables)) (2 * n)) tables) numbers ≡ map (search_task s tables rows) numbers
searches_are s tables rows numbers = λ i. map (λ (n : ℕ). search_there s tables rows n i) numbers

-- all tasks, with this many searches
pub tasks_made : (s tables rows count d₀ d₁ : ℕ) (start loads all : List Task)
    → d₀ ≡ s → start ≡ []
    → d₁ ≡ state_at d₀ (3 * rows * tables)
    → loads ≡ start ++ flat_map (load_tasks d₀ rows) (range_with_len 1 tables)
    → all ≡ loads ++ map (λ n. search_at (state_at d₁ (2 * n)) tables) (range_with_len 0 count)
    → all ≡ flat_map (load_tasks s rows) (range_with_len 1 tables) ++ map (search_task s tables rows) (range_with_len 0 count)
tasks_made s tables rows count d₀ d₁ start loads all seeded none drawn loaded searched =
    let here : d₁ ≡ state_at s (3 * rows * tables) = drawn ∙ ap (λ (d : ℕ). state_at d (3 * rows * tables)) seeded in
    let loads_are : loads ≡ flat_map (load_tasks s rows) (range_with_len 1 tables) =
    loaded ∙ (λ i. none i ++ flat_map (load_tasks (seeded i) rows) (range_with_len 1 tables)) in
    searched
    ∙ (λ i. loads_are i ++ map (λ (n : ℕ). search_at (state_at (here i) (2 * n)) tables) (range_with_len 0 count))
    ∙ ap (λ (tasks : List Task). flat_map (load_tasks s rows) (range_with_len 1 tables) ++ tasks) (searches_are s tables rows (range_with_len 0 count))
