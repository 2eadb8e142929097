use Rattle.script_text.specs.Readings.{grammar_by}
use Rattle.script_text.proofs.RunLemmas.{none_lead, run_leads_on}
use Rattle.script_text.proofs.reader.Reader.read_run.Goals as goal

pub returns-then-is_none-clause-leads : goal.returns-then-is_none-clause-leads
returns-then-is_none-clause-leads c = none_lead (grammar_by c.args.self.now.rules) c.args.self.now.reading c.args.held.now

pub returns-clause-leads : goal.returns-clause-leads
returns-clause-leads c =
    run_leads_on (grammar_by c.args.self.now.rules) c.args.self.now.reading c.push_run.new.self.reading c.args.held.now c.run_of-run.result.now _ c.run_of-run.ensures.run c.run_of-run.ensures.first c.in_ok-push_run.ensures.leads
