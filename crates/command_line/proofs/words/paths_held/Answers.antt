use Rattle.std.proofs.Common.{◌≡◌, ◌∙◌, ap, codes, inr, map, refl, sym, false, true, List, [], Option, Some}
use Rattle.std.specs.Prelude.{unwrap_or}
use Rattle.std.specs.Borrow.{Bor}
use Rattle.clap.specs.Walk.{all_of}
use Rattle.clap.specs.Words.{Text, found_of, rows_of}
use Rattle.clap.proofs.WalkLemmas.{raw_values-rows}
use Rattle.command_line.proofs.CommandLemmas.{paths_by, texts_or_none}
use Rattle.command_line.proofs.words.paths_held.Goals as goal

pub returns-then-not-is_path_count-clause-refused : goal.returns-then-not-is_path_count-clause-refused
returns-then-not-is_path_count-clause-refused c =
    let matches = rows_of (found_of c.args.matches.now) in
    let texts : map (λ text. text.now) c.unwrap_or-texts.result.now ≡ unwrap_or (all_of (codes "path") matches) [] =
    ap (λ (s : Bor (List (Bor Text))). map (λ text. text.now) s.now) c.unwrap_or-texts.ensures ∙ texts_or_none c.get_strs.result _ refl
    ∙ ap (λ (o : Option (List Text)). unwrap_or o []) (c.get_strs.ensures ∙ raw_values-rows (found_of c.args.matches.now) (codes "path")) in
    inr (paths_by matches c.unwrap_or-texts.result.now false texts (sym c.is_path_count.ensures ∙ c.if-not-is_path_count.true))

pub returns-clause-read : goal.returns-clause-read
returns-clause-read c =
    let matches = rows_of (found_of c.args.matches.now) in
    let texts : map (λ text. text.now) c.unwrap_or-texts.result.now ≡ unwrap_or (all_of (codes "path") matches) [] =
    ap (λ (s : Bor (List (Bor Text))). map (λ text. text.now) s.now) c.unwrap_or-texts.ensures ∙ texts_or_none c.get_strs.result _ refl
    ∙ ap (λ (o : Option (List Text)). unwrap_or o []) (c.get_strs.ensures ∙ raw_values-rows (found_of c.args.matches.now) (codes "path")) in
    paths_by matches c.unwrap_or-texts.result.now true texts (sym c.is_path_count.ensures ∙ c.if-not-is_path_count.false)
    ∙ ap (λ (paths : List Text). Some paths) (sym c.in_ok-copied.ensures)
