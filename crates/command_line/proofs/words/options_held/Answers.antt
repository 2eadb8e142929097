use Rattle.std.proofs.Common.{◌∙◌, ap, sym, codes, List, ℕ, Option}
use Rattle.std.specs.Prelude.{option_map, unwrap_or}
use Rattle.clap.specs.Words.{found_of, rows_of}
use Rattle.clap.proofs.TakesLemmas.{passed_up}
use Rattle.clap.proofs.WalkLemmas.{first_value-rows}
use Rattle.script_model.specs.Options.{options_with}
use Rattle.command_line.proofs.CommandLemmas.{no_options, options_are}
use Rattle.command_line.proofs.words.options_held.Goals as goal

pub returns-in_err-order-clause-refused : goal.returns-in_err-order-clause-refused
returns-in_err-order-clause-refused c =
    let matches = rows_of (found_of c.args.matches.now) in
    passed_up c.from_residual.result c.in_err-order.field-0.0 _ c.from_residual.ensures.1
    (no_options matches c.unwrap_or-lanes.result c.flag-merge.result (option_map (λ s. s.now) c.get_str.result) _
    (c.unwrap_or-lanes.ensures ∙ ap (λ (o : Option ℕ). unwrap_or o 1) c.number.ensures) c.flag-merge.ensures
    (c.get_str.ensures ∙ first_value-rows (found_of c.args.matches.now) (codes "order")) c.in_err-order.ensures.refused)

pub returns-clause-read : goal.returns-clause-read
returns-clause-read c =
    let matches = rows_of (found_of c.args.matches.now) in
    sym (options_are matches c.unwrap_or-lanes.result c.flag-merge.result c.flag.result c.keys_held.result (option_map (λ s. s.now) c.get_str.result)
    (c.unwrap_or-lanes.ensures ∙ ap (λ (o : Option ℕ). unwrap_or o 1) c.number.ensures) c.flag-merge.ensures c.flag.ensures
    c.keys_held.ensures
    (c.get_str.ensures ∙ first_value-rows (found_of c.args.matches.now) (codes "order")))
    ∙ ap (option_map (λ (order : Option (List (List ℕ))). options_with c.unwrap_or-lanes.result order c.flag-merge.result c.flag.result c.keys_held.result)) c.in_ok-order.ensures.read
