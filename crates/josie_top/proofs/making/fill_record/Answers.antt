use Rattle.std.proofs.Common.{rules, ◌≡◌, ◌∙◌, ap, true, false, []}
use Rattle.std.specs.Prelude.{is_err}
use Rattle.lake_model.specs.declared.Counts.{Counts}
use Rattle.lake_model.specs.declared.Keys.TheVariants.{Canonical}
use Rattle.lake_model.specs.Journal.{standard_limits}
use Rattle.record_model.specs.Rules.{rules_with, standard_rules}
use Rattle.option_model.specs.Generator.{made_options}
use Rattle.record_model.specs.Play.{batch_after}
use Rattle.record_model.specs.Record.{empty, with_end}
use Rattle.script_model.specs.Options.{plain}
use Rattle.command_replies.proofs.PastLemmas.{none_taken}
use Rattle.josie_top.proofs.MakingFacts.{lake_made}
use Rattle.josie_top.proofs.StreamFacts.{on_err, on_ok}
use Rattle.josie_top.proofs.making.fill_record.Goals as goal

pub drive-requires-clause-past : goal.drive-requires-clause-past
drive-requires-clause-past c = none_taken c.new-past.result c.in-Ok.catalogue.journal c.new-past.ensures

pub returns-then-is_err-clause-err : goal.returns-then-is_err-clause-err
returns-then-is_err-clause-err c = (on_err c.drive.result _ (let failed : is_err c.drive.result ≡ true = search rules in failed) c.drive.ensures.err).0 ∙ c.requires.empty

pub returns-clause-made : goal.returns-clause-made
returns-clause-made c =
    let fine : is_err c.drive.result ≡ false = search rules in
    let (turns, played) = on_ok c.drive.result _ fine c.drive.ensures.played in
    let limits : c.in-Ok.catalogue.limits ≡ standard_limits = search rules in
    let after : c.drive.new.out.made ≡ batch_after (standard_rules Canonical) 1 c.in_ok-batch.batch [] [] turns (empty plain) =
    played ∙ ap (λ (l : Counts). batch_after (rules_with Canonical l) 1 c.in_ok-batch.batch [] [] turns c.args.out.now.made) limits ∙ ap (batch_after (standard_rules Canonical) 1 c.in_ok-batch.batch [] [] turns) c.requires.empty in
    let closed : c.close.new.self.made ≡ with_end true (record c.drive.new.out.made { options = made_options }) = search rules in
    lake_made (standard_rules Canonical) c.args.seed c.args.tables c.args.rows c.in_ok-batch.batch turns c.drive.new.out.made c.close.new.self.made c.in_ok-batch.ensures.batch c.in_ok-batch.ensures.lanes after closed
