-- Work as a list.
use Rattle.std.proofs.Common.{◌≡◌, refl, ap, sym, ◌∙◌, ℕ, ◌+◌, ◌<◌, List, [], ◌∷◌, ◌++◌, append_assoc, length, get_or, map, false}
use Rattle.std.specs.List.{range_with_len}
use Rattle.std.proofs.lemmas.List.{get_or-map, length-map, map-append}
use Rattle.std.proofs.lemmas.List.FromFn.{map-range_with_len_more}
use Rattle.script_model.specs.Commands.{command_with, Batch, Merge}
use Rattle.batch_work.specs.declared.work.Work.{Work}
use Rattle.batch_work.specs.declared.work.Work.TheVariants as work
use Rattle.batch_work.specs.Works.{work_of, works_of}

pub work_at : (works : List Work) (n : ℕ) (item : Work) → item ≡ get_or works n item → n < length works → work_of item ≡ get_or (works_of works) n (work_of item)
work_at works n item is within = ap work_of is ∙ sym (get_or-map work_of works n item (work_of item) within)

pub works_long : (works : List Work) → length (works_of works) ≡ length works
works_long works = length-map works work_of

-- the merger's commands, to which one more is added
abbrev merges_from : ℕ → ℕ → Batch
merges_from first count = map (λ n. command_with n 0 (Merge false)) (range_with_len first count)

pub merge_more : (first added : ℕ) (front : Batch) (works later : List Work) → works_of works ≡ front ++ merges_from first added → later ≡ works ++ work.Merge (first + added) ∷ []
    → works_of later ≡ front ++ merges_from first (added + 1)
merge_more first added front works later so_far pushed =
    ap works_of pushed ∙ map-append work_of works (work.Merge (first + added) ∷ [])
    ∙ ap (λ (cs : Batch). cs ++ command_with (first + added) 0 (Merge false) ∷ []) so_far
    ∙ append_assoc front (merges_from first added) (command_with (first + added) 0 (Merge false) ∷ [])
    ∙ ap (λ (cs : Batch). front ++ cs) (sym (map-range_with_len_more (λ n. command_with n 0 (Merge false)) first added (first + added) refl))
