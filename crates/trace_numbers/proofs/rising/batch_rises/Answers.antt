use Rattle.std.proofs.Common.{◌≡◌, ap, sym, ◌∙◌, List, ℕ, length, length-append, replicate, map, Option, arith}
use Rattle.script_model.specs.Commands.{Command}
use Rattle.trace_laws.specs.Lows.{all_below, lows_on}
use Rattle.trace_laws.specs.Verdict.{hinted_zip}
use Rattle.trace_hints.specs.Told.{hint_as}
use Rattle.trace_numbers.proofs.PassLemmas.{batch_pass}
use Rattle.trace_numbers.proofs.rising.batch_rises.Goals as goal

pub returns-then-not-given_rise : goal.returns-then-not-given_rise
returns-then-not-given_rise c =
    let filled : c.fill.new.self ≡ replicate (length c.args.lows.now) c.args.from = c.fill.ensures.after (λ y h. h) in
    λ merges lanes size. sym (
    batch_pass (length c.args.lows.now) c.args.from c.args.sync c.fill.new.self c.args.batch.now c.commands-commands.result.now merges c.args.hints.now c.split_at.result.0.now c.split_at.result.1.now filled c.commands-commands.ensures c.requires.given
    c.split_at.ensures.front c.split_at.ensures.back
    ∙ ap (λ (o : Option (List ℕ)). all_below c.args.sync (lows_on o (hinted_zip merges (map hint_as c.split_at.result.1.now)))) (c.given_rise.ensures.falls c.if-not-given_rise.true)
    )

pub returns-then-not-merges_rise : goal.returns-then-not-merges_rise
returns-then-not-merges_rise c =
    let filled : c.fill.new.self ≡ replicate (length c.args.lows.now) c.args.from = c.fill.ensures.after (λ y h. h) in
    λ merges lanes size.
    let all = length-append c.args.batch.now merges in
    let same = ap (λ (cs : List Command). length cs) c.commands-commands.ensures in
    let few : length c.split_at.result.1.now ≡ length merges = omega (arith, all, same, size, c.split_at.ensures.back_len) in
    sym (
    batch_pass (length c.args.lows.now) c.args.from c.args.sync c.fill.new.self c.args.batch.now c.commands-commands.result.now merges c.args.hints.now c.split_at.result.0.now c.split_at.result.1.now filled c.commands-commands.ensures c.requires.given
    c.split_at.ensures.front c.split_at.ensures.back
    ∙ ap (λ (o : Option (List ℕ)). all_below c.args.sync (lows_on o (hinted_zip merges (map hint_as c.split_at.result.1.now)))) (c.given_rise.ensures.rises c.if-not-given_rise.false)
    ∙ ap (all_below c.args.sync) (c.merges_rise.ensures.falls c.if-not-merges_rise.true merges lanes few)
    )

pub returns : goal.returns
returns c =
    let filled : c.fill.new.self ≡ replicate (length c.args.lows.now) c.args.from = c.fill.ensures.after (λ y h. h) in
    λ merges lanes size.
    let all = length-append c.args.batch.now merges in
    let same = ap (λ (cs : List Command). length cs) c.commands-commands.ensures in
    let few : length c.split_at.result.1.now ≡ length merges = omega (arith, all, same, size, c.split_at.ensures.back_len) in
    c.are_within.ensures
    ∙ sym (
    batch_pass (length c.args.lows.now) c.args.from c.args.sync c.fill.new.self c.args.batch.now c.commands-commands.result.now merges c.args.hints.now c.split_at.result.0.now c.split_at.result.1.now filled c.commands-commands.ensures c.requires.given
    c.split_at.ensures.front c.split_at.ensures.back
    ∙ ap (λ (o : Option (List ℕ)). all_below c.args.sync (lows_on o (hinted_zip merges (map hint_as c.split_at.result.1.now)))) (c.given_rise.ensures.rises c.if-not-given_rise.false)
    ∙ ap (all_below c.args.sync) (c.merges_rise.ensures.rises c.if-not-merges_rise.false merges lanes few)
    )
