-- The text of a record that grows.
use Rattle.std.proofs.Common.{◌≡◌, refl, ap, sym, ◌∙◌, ℕ, List, [], ◌∷◌, ◌++◌, append_assoc, Bool, true, false, length, take, drop, flat_map}
use Rattle.std.specs.Prelude.{◌&&◌}
use Rattle.std.proofs.lemmas.List.{append-nil, take-append-drop}
use Rattle.std.proofs.lemmas.Grind.{flat_map-append}
use Rattle.lake_model.specs.Texts.{Text}
use Rattle.script_model.specs.Options.{Options}
use Rattle.record_model.specs.Record.{Answered, RunRecord, with_end}
use Rattle.record_model.specs.Statuses.{IsPrefix}
use Rattle.record_model.specs.Texts.{answers_text, journal_text, written_lines, text, text_behind}
use Rattle.script_model.specs.Words.{line_text}
use Rattle.list_laws.proofs.ListLemmas.{drop_seam}

not_due : (trace : Bool) → (trace && false) ≡ false
not_due true = refl
not_due false = refl

-- answers after answers
pub answers_more : (trace : Bool) (xs ys : List Answered) → answers_text trace (xs ++ ys) ≡ answers_text trace xs ++ answers_text trace ys
answers_more trace xs ys =
    ap (λ (lines : List Text). flat_map line_text lines) (flat_map-append (written_lines trace) xs ys)
    ∙ flat_map-append line_text (flat_map (written_lines trace) xs) (flat_map (written_lines trace) ys)

-- the text of a record whose source is not at its end
pub text_unended : (options : Options) (made : RunRecord) → made.options ≡ options → made.ended ≡ false → text made ≡ answers_text options.trace made.answers
text_unended options made are not_ended =
    ap (λ (o : Options). text_behind o.trace 0 made) are
    ∙ ap (λ (b : Bool). answers_text options.trace made.answers ++ journal_text (options.trace && b) made.journal) not_ended
    ∙ ap (λ (b : Bool). answers_text options.trace made.answers ++ journal_text b made.journal) (not_due options.trace) ∙ append-nil (answers_text options.trace made.answers)

-- the text after the answers that were there
pub text_more : (trace : Bool) (before now : RunRecord) (new : List Answered) → now.answers ≡ before.answers ++ new → now.ended ≡ false
    → answers_text trace now.answers ≡ answers_text trace before.answers ++ text_behind trace (length before.answers) now
text_more trace before now new are not_ended =
    let added : text_behind trace (length before.answers) now ≡ answers_text trace new =
    ap (λ (b : Bool). answers_text trace (drop (length before.answers) now.answers) ++ journal_text (trace && b) now.journal) not_ended
    ∙ ap (λ (b : Bool). answers_text trace (drop (length before.answers) now.answers) ++ journal_text b now.journal) (not_due trace)
    ∙ append-nil (answers_text trace (drop (length before.answers) now.answers))
    ∙ ap (λ (xs : List Answered). answers_text trace (drop (length before.answers) xs)) are ∙ ap (answers_text trace) (drop_seam before.answers new) in
    ap (answers_text trace) are ∙ answers_more trace before.answers new ∙ ap (λ (t : List ℕ). answers_text trace before.answers ++ t) (sym added)

drop_all : {X : Type 0} (xs : List X) → drop (length xs) xs ≡ []
drop_all [] = refl
drop_all (x ∷ xs) = drop_all xs

-- the text of a record whose source was read to its end
pub text_ended : (options : Options) (made : RunRecord) → made.options ≡ options → text (with_end true made) ≡ answers_text options.trace made.answers ++ text_behind options.trace (length made.answers) (with_end true made)
text_ended options made are =
    ap (λ (o : Options). text_behind o.trace 0 (with_end true made)) are
    ∙ ap (λ (t : List ℕ). answers_text options.trace made.answers ++ (t ++ journal_text (options.trace && true) made.journal)) (sym (ap (answers_text options.trace) (drop_all made.answers)))

-- ---- beginnings

pub whole_prefix : (part whole : List ℕ) → part ≡ whole → IsPrefix part whole
whole_prefix part whole same = ([], sym same ∙ sym (append-nil part))

pub prefix_more : (part first more : List ℕ) → IsPrefix part first → IsPrefix part (first ++ more)
prefix_more part first more (rest, is) = (rest ++ more, ap (λ (xs : List ℕ). xs ++ more) is ∙ append_assoc part rest more)

pub prefix_behind : (front part whole : List ℕ) → IsPrefix part whole → IsPrefix (front ++ part) (front ++ whole)
prefix_behind front part whole (rest, is) = (rest, ap (λ (xs : List ℕ). front ++ xs) is ∙ sym (append_assoc front part rest))

-- the text of the first answers
pub answers_prefix : (trace : Bool) (n : ℕ) (answers : List Answered) → IsPrefix (answers_text trace (take n answers)) (answers_text trace answers)
answers_prefix trace n answers = (answers_text trace (drop n answers), ap (answers_text trace) (sym (take-append-drop n answers)) ∙ answers_more trace (take n answers) (drop n answers))

-- the first bytes of a text
pub prefix_take : (count : ℕ) (text : List ℕ) → IsPrefix (take count text) text
prefix_take count text = (drop count text, sym (take-append-drop count text))
