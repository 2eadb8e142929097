use Rattle.std.proofs.Common.{◌≡◌, ◌∙◌, ◌+◌, ◌++◌, ◌∷◌, [], ap, arith, length, string_bytes, subst, List, ℕ}
use Rattle.std.specs.Str.{IsUtf8}
use Rattle.csv_table.proofs.CutLemmas.{cuts_pushed, parts_pushed}
use Rattle.csv_table.proofs.fields.Fields.push.Goals as goal

pub invariant_of-self-2 : goal.invariant_of-self-2
invariant_of-self-2 c =
    let fields = c.self.inside in
    let size : c.in-Ok.end ≡ length (string_bytes fields.text) + length c.args.field.now = omega (arith, c.in-Ok.ensures, ap length c.as_str.ensures.value) in
    let ended = c.in-Ok-push.ensures.items ∙ ap (λ (ends : List ℕ). ends ++ c.in-Ok.end ∷ []) c.in_ok-reserve.ensures.items in
    cuts_pushed fields.ends.items (string_bytes fields.text) c.args.field.now _ _ c.in-Ok.end size ended c.in_ok-push_str.ensures.bytes c.self.invariant
    (subst IsUtf8 c.as_str.ensures.value c.as_str.utf8) c.utf8.field

pub returns-clause-added : goal.returns-clause-added
returns-clause-added c =
    let fields = c.self.inside in
    let size : c.in-Ok.end ≡ length (string_bytes fields.text) + length c.args.field.now = omega (arith, c.in-Ok.ensures, ap length c.as_str.ensures.value) in
    let ended = c.in-Ok-push.ensures.items ∙ ap (λ (ends : List ℕ). ends ++ c.in-Ok.end ∷ []) c.in_ok-reserve.ensures.items in
    parts_pushed fields.ends.items (string_bytes fields.text) c.args.field.now _ _ c.in-Ok.end size ended c.in_ok-push_str.ensures.bytes c.self.invariant
    ∙ ap (λ texts. texts ++ c.args.field.now ∷ []) c.self.view_is
