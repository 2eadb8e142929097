-- A small lake that is made: its draws and its records.
use Rattle.std.proofs.Common.{◌≡◌, refl, ℕ, [], ◌∷◌, ◌++◌}
use Rattle.std.specs.Prelude.{decimal}
use Rattle.lake_model.specs.Texts.{Text}
use Rattle.option_model.specs.Generator.{draw, record_text, state_at}

first_draws : draw 0 0 ∷ draw 0 1 ∷ draw 0 2 ∷ draw 0 3 ∷ draw 0 4 ∷ draw 0 5 ∷ [] ≡ 15470 ∷ 18256 ∷ 53708 ∷ 43769 ∷ 25170 ∷ 40750 ∷ []
unfolding state_at
first_draws = refl

abbrev row : ℕ → ℕ → ℕ → Text
row a b c = 0x76 ∷ decimal a ++ 0x2C ∷ 0x76 ∷ decimal b ++ 0x2C ∷ 0x76 ∷ decimal c ++ 0x0A ∷ []

first_row : record_text 0 0 ≡ row 46 848 4556
unfolding state_at
first_row = refl

second_row : record_text 0 3 ≡ row 57 594 7982
unfolding state_at
second_row = refl
