-- The text of sums, put together from its pieces.
use Rattle.std.proofs.Common.{◌≡◌, ◌∙◌, List, [], ◌∷◌, ◌++◌, codes, decimal, flat_map, append_assoc}
use Rattle.std.specs.List.{join_by}
use Rattle.std.proofs.lemmas.List.{append-nil}
use Rattle.lake_model.specs.Texts.{Text}
use Rattle.lake_maker.specs.declared.sums.Sums.{Sums}
use Rattle.lake_maker.specs.Sums.{sums_text}

-- whatever the words and the numbers are, and whatever separates them and ends a line
pieces : (s n u v w x y z p q a b c d e f g h t₀ t₁ t₂ t₃ t₄ t₅ t₆ t₇ t₈ t₉ : Text)
    → t₁ ≡ t₀ ++ (u ++ s) ++ a → t₂ ≡ t₁ ++ (n ++ v ++ s) ++ b → t₃ ≡ t₂ ++ (n ++ w ++ s) ++ c
    → t₄ ≡ t₃ ++ (n ++ x ++ s) ++ d → t₅ ≡ t₄ ++ (s ++ y ++ s) ++ e → t₆ ≡ t₅ ++ (s ++ z ++ s) ++ f
    → t₇ ≡ t₆ ++ (n ++ p ++ s) ++ g → t₈ ≡ t₇ ++ (s ++ q ++ s) ++ h → t₉ ≡ t₈ ++ n
    → t₉ ≡ t₀ ++ flat_map (λ (words : List Text). join_by (λ (word : Text). word) s words ++ n) ((u ∷ a ∷ []) ∷ (v ∷ b ∷ []) ∷ (w ∷ c ∷ []) ∷ (x ∷ d ∷ y ∷ e ∷ z ∷ f ∷ []) ∷ (p ∷ g ∷ q ∷ h ∷ []) ∷ [])
pieces s n u v w x y z p q a b c d e f g h t₀ t₁ t₂ t₃ t₄ t₅ t₆ t₇ t₈ t₉ e₁ e₂ e₃ e₄ e₅ e₆ e₇ e₈ e₉ =
    let all : t₉ ≡ t₀ ++ (u ++ s) ++ a ++ (n ++ v ++ s) ++ b ++ (n ++ w ++ s) ++ c ++ (n ++ x ++ s) ++ d ++ (s ++ y ++ s) ++ e ++ (s ++ z ++ s) ++ f ++ (n ++ p ++ s) ++ g ++ (s ++ q ++ s) ++ h ++ n = cc in
    all ∙ simp (append_assoc, append-nil)

pub sums_pushed : (sums : Sums) (t₀ t₁ t₂ t₃ t₄ t₅ t₆ t₇ t₈ t₉ : Text)
    → t₁ ≡ t₀ ++ codes "tables " ++ decimal sums.tables → t₂ ≡ t₁ ++ codes "\nmembers " ++ decimal sums.members → t₃ ≡ t₂ ++ codes "\nmerges " ++ decimal sums.merges
    → t₄ ≡ t₃ ++ codes "\nanswers " ++ decimal sums.answers → t₅ ≡ t₄ ++ codes " rows " ++ decimal sums.rows → t₆ ≡ t₅ ++ codes " overlap " ++ decimal sums.overlap
    → t₇ ≡ t₆ ++ codes "\nreads " ++ decimal sums.reads → t₈ ≡ t₇ ++ codes " probes " ++ decimal sums.probes
    → t₉ ≡ t₈ ++ 0x0A ∷ []
    → t₉ ≡ t₀ ++ sums_text sums
sums_pushed sums =
    pieces (0x20 ∷ []) (0x0A ∷ []) (codes "tables") (codes "members") (codes "merges") (codes "answers") (codes "rows") (codes "overlap") (codes "reads") (codes "probes")
    (decimal sums.tables) (decimal sums.members) (decimal sums.merges) (decimal sums.answers) (decimal sums.rows) (decimal sums.overlap) (decimal sums.reads) (decimal sums.probes)
