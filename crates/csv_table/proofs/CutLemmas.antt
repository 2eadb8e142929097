-- A text that is cut between characters: one more part, and one part by its index.
use Rattle.std.proofs.Common.{◌≡◌, ◌≤◌, ◌<◌, ◌+◌, ◌-◌, ℕ, zero, suc, List, [], ◌∷◌, ◌++◌, length, take, drop, get_or, refl, ap, sym, ◌∙◌, subst, arith, length-append}
use Rattle.std.specs.Prelude.{slice_range}
use Rattle.std.specs.Str.{IsUtf8, IsCharBoundary}
use Rattle.std.proofs.lemmas.List.{take-append-le, drop-append-le, drop_at, length-drop, length-take-le, take_all, get_or_default}
use Rattle.std.proofs.lemmas.List.Folds.{drop_split}
use Rattle.std.proofs.lemmas.Str.{IsUtf8-append, IsUtf8-drop, IsUtf8-take, IsCharBoundary-at_seam, IsCharBoundary-from_take}
use Rattle.csv.specs.Records.{AllText}
use Rattle.csv_table.specs.Cuts.{AreCuts, cut_from}

pub length-cut_from : (from : ℕ) (ends text : List ℕ) → length (cut_from from ends text) ≡ length ends
length-cut_from from [] text = refl
length-cut_from from (to ∷ ends) text = ap suc (length-cut_from to ends text)

-- a part stays while bytes are appended
same_part : (from to : ℕ) (text more : List ℕ) → from ≤ to → to ≤ length text → slice_range (text ++ more) from to ≡ slice_range text from to
same_part from to text more order within =
    let starts : from ≤ length text = omega arith in
    let room : to - from ≤ length (drop from text) = omega (arith, length-drop from text) in
    ap (take (to - from)) (drop-append-le from text more starts) ∙ take-append-le (to - from) (drop from text) more room

-- the part that was appended
last_part : (from to : ℕ) (text more : List ℕ) → from ≡ length text → to ≡ length text + length more → slice_range (text ++ more) from to ≡ more
last_part from to text more start end =
    ap (take (to - from)) (drop_at text more from (sym start)) ∙ take_all (to - from) more (omega arith)

pub cuts_more : (from last : ℕ) (ends text more : List ℕ) → IsUtf8 text → IsUtf8 more → last ≡ length text + length more → AreCuts from ends text
    → AreCuts from (ends ++ last ∷ []) (text ++ more)
cuts_more from last [] text more utf8 utf8_more end cuts =
    let size = length-append text more in
    let whole : take last (text ++ more) ≡ text ++ more = take_all last (text ++ more) (omega arith) in
    (omega arith, omega arith, subst IsUtf8 (sym whole) (IsUtf8-append text more utf8 utf8_more), omega arith)
cuts_more from last (to ∷ ends) text more utf8 utf8_more end cuts =
    let size = length-append text more in (
      cuts.0,
      omega (arith, cuts.1),
      subst IsUtf8 (sym (take-append-le to text more cuts.1)) cuts.2,
      cuts_more to last ends text more utf8 utf8_more end cuts.3,
    )

pub parts_more : (from last : ℕ) (ends text more : List ℕ) → last ≡ length text + length more → AreCuts from ends text
    → cut_from from (ends ++ last ∷ []) (text ++ more) ≡ cut_from from ends text ++ more ∷ []
parts_more from last [] text more end cuts = ap (λ part. part ∷ []) (last_part from last text more cuts end)
parts_more from last (to ∷ ends) text more end cuts =
    let first = same_part from to text more cuts.0 cuts.1 in
    let others = parts_more to last ends text more end cuts.3 in
    ap (λ part. part ∷ cut_from to (ends ++ last ∷ []) (text ++ more)) first ∙ ap (λ parts. slice_range text from to ∷ parts) others

-- the part by its index is a part of the text between two characters
pub record IsPart (text part : List ℕ) (start end : ℕ) : Type 0 where
  pub order : start ≤ end
  pub within : end ≤ length text
  pub before : IsUtf8 (take start text)
  pub through : IsUtf8 (take end text)
  pub same : slice_range text start end ≡ part

part_from : (from : ℕ) (ends text : List ℕ) (i : ℕ) → i < length ends → IsUtf8 (take from text) → AreCuts from ends text
    → IsPart text (get_or (cut_from from ends text) i []) (get_or (from ∷ ends) i 0) (get_or ends i 0)
part_from from [] text i here utf8 cuts = absurd (omega arith)
part_from from (to ∷ ends) text zero here utf8 cuts =
    record { order = cuts.0; within = cuts.1; before = utf8; through = cuts.2; same = refl }
part_from from (to ∷ ends) text (suc i) here utf8 cuts = part_from to ends text i (omega arith) cuts.2 cuts.3

-- the part that the code finds, with the text as it shows it
pub part_at : (ends text shown : List ℕ) (i start end : ℕ) → i < length (cut_from 0 ends text) → AreCuts 0 ends text → shown ≡ text → start ≡ get_or (0 ∷ ends) i 0
    → end ≡ get_or ends i end → IsPart shown (get_or (cut_from 0 ends text) i []) start end
part_at ends text shown i start end here cuts same starts ends_at =
    let within : i < length ends = rw (length-cut_from 0 ends text) at here in
    let stops : end ≡ get_or ends i 0 = ends_at ∙ get_or_default ends i end 0 within in
    rw (same, starts, stops) (part_from 0 ends text i within ([], (refl, refl)) cuts)

pub starts_between : (text part : List ℕ) (start end : ℕ) → IsUtf8 text → IsPart text part start end → IsCharBoundary text start
starts_between text part start end utf8 is = IsCharBoundary-from_take text start utf8 (omega (arith, is.order, is.within)) is.before

pub ends_between : (text part : List ℕ) (start end : ℕ) → IsUtf8 text → IsPart text part start end → IsCharBoundary text end
ends_between text part start end utf8 is = IsCharBoundary-from_take text end utf8 is.within is.through

-- what is cut out of a text between two characters is a text
text_between : (text : List ℕ) (from to : ℕ) → from ≤ to → to ≤ length text → IsUtf8 text → IsUtf8 (take from text) → IsUtf8 (take to text) → IsUtf8 (slice_range text from to)
text_between text from to order within whole before through =
    let behind = IsUtf8-drop text from whole (IsCharBoundary-from_take text from whole (omega arith) before) in
    let rest = IsUtf8-drop text to whole (IsCharBoundary-from_take text to whole within through) in
    let seam = IsCharBoundary-at_seam (drop from text) (slice_range text from to) (drop to text) (drop_split text from to order) rest in
    let size : length (slice_range text from to) ≡ to - from = length-take-le (to - from) (drop from text) (omega (arith, length-drop from text)) in
    IsUtf8-take (drop from text) (to - from) behind (subst (IsCharBoundary (drop from text)) size seam)

parts_from : (from : ℕ) (ends text : List ℕ) → IsUtf8 text → IsUtf8 (take from text) → AreCuts from ends text → AllText (cut_from from ends text)
unfolding AllText
parts_from from [] text whole before cuts = tt
parts_from from (to ∷ ends) text whole before cuts = (text_between text from to cuts.0 cuts.1 whole before cuts.2, parts_from to ends text whole cuts.2 cuts.3)

-- so all parts are texts
pub parts_text : (ends text : List ℕ) → IsUtf8 text → AreCuts 0 ends text → AllText (cut_from 0 ends text)
parts_text ends text whole cuts = parts_from 0 ends text whole ([], (refl, refl)) cuts

-- what a push leaves
module _ (ends text field more longer : List ℕ) (last : ℕ) (size : last ≡ length text + length field) (ended : more ≡ ends ++ last ∷ []) (written : longer ≡ text ++ field) (cuts : AreCuts 0 ends text) where
  pub cuts_pushed : IsUtf8 text → IsUtf8 field → AreCuts 0 more longer
  cuts_pushed utf8 utf8_field = rw (ended, written) (cuts_more 0 last ends text field utf8 utf8_field size cuts)

  pub parts_pushed : cut_from 0 more longer ≡ cut_from 0 ends text ++ field ∷ []
  parts_pushed = rw (ended, written) (parts_more 0 last ends text field size cuts)
