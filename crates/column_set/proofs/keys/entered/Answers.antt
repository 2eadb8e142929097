use Rattle.std.proofs.Common.{◌≡◌, ◌∙◌, ◌∷◌, ◌++◌, [], ap, drop, false, string_bytes, subst, sym}
use Rattle.lake_model.specs.Tables.{has_key}
use Rattle.lake_model.specs.Texts.{Text}
use Rattle.column_set.proofs.GatherLemmas.{entered_new, entered_set}
use Rattle.column_set.proofs.SlotLemmas.{if_slotted}
use Rattle.column_set.proofs.SortedLemmas.{on_ok}
use Rattle.column_set.proofs.keys.entered.Goals as goal

pub widened-requires-clause-slotted : goal.widened-requires-clause-slotted
widened-requires-clause-slotted c =
    let added = c.in_ok-push_buffer-in-Free.ensures.added ∙ ap (λ (key : Text). c.args.keys.now ++ key ∷ []) (sym c.as_str-text.ensures.value) in
    let set = entered_set c.args.from c.args.keys.now c.as_str-text.result.now c.args.slots.items c.in-Free.at c.hash_key-hash.result c.requires.from c.requires.slotted c.hash_key-hash.ensures
    c.deref.result.now c.deref.ensures.value c.in-Free.ensures c.push_buffer.new.self added c.len-in-Free.result c.len-in-Free.ensures.value in
    set.slotted

pub returns-then-is_crowded-clause-keys : goal.returns-then-is_crowded-clause-keys
returns-then-is_crowded-clause-keys c =
    let absent = subst (λ (key : Text). has_key (drop c.args.from c.args.keys.now) key ≡ false) c.as_str-text.ensures.value c.in-Free.ensures.0 in
    c.in_ok-push_buffer-in-Free.ensures.added ∙ entered_new c.args.from c.args.keys.now (string_bytes c.args.key.now) absent

pub returns-else-is_crowded-clause-keys : goal.returns-else-is_crowded-clause-keys
returns-else-is_crowded-clause-keys c =
    let absent = subst (λ (key : Text). has_key (drop c.args.from c.args.keys.now) key ≡ false) c.as_str-text.ensures.value c.in-Free.ensures.0 in
    on_ok c.widened.result (c.in_ok-push_buffer-in-Free.ensures.added ∙ entered_new c.args.from c.args.keys.now (string_bytes c.args.key.now) absent)

pub returns-else-is_crowded-clause-slotted : goal.returns-else-is_crowded-clause-slotted
returns-else-is_crowded-clause-slotted c =
    let added = c.in_ok-push_buffer-in-Free.ensures.added ∙ ap (λ (key : Text). c.args.keys.now ++ key ∷ []) (sym c.as_str-text.ensures.value) in
    let set = entered_set c.args.from c.args.keys.now c.as_str-text.result.now c.args.slots.items c.in-Free.at c.hash_key-hash.result c.requires.from c.requires.slotted c.hash_key-hash.ensures
    c.deref.result.now c.deref.ensures.value c.in-Free.ensures c.push_buffer.new.self added c.len-in-Free.result c.len-in-Free.ensures.value in
    if_slotted (drop c.args.from c.push_buffer.new.self) c.widened.result (λ v. v.items) set.different c.widened.ensures

pub returns-in_ok-push_buffer-in-Crowded-clause-keys : goal.returns-in_ok-push_buffer-in-Crowded-clause-keys
returns-in_ok-push_buffer-in-Crowded-clause-keys c =
    let absent = subst (λ (key : Text). has_key (drop c.args.from c.args.keys.now) key ≡ false) c.as_str-text.ensures.value c.in-Crowded.ensures in
    c.in_ok-push_buffer-in-Crowded.ensures.added ∙ entered_new c.args.from c.args.keys.now (string_bytes c.args.key.now) absent
