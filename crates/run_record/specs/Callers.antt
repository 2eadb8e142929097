-- Whose command was answered. The merger is caller 0.
use Rattle.lake_model.specs.declared.Who.{Who}
use Rattle.lake_model.specs.Journal.{who_with}
use Rattle.run_record.specs.declared.record.By.{By}
use Rattle.run_record.specs.declared.record.By.TheVariants.{Command, Merger}

abbrev pub who_by : By → Who
who_by (Command number lane) = who_with lane number
who_by (Merger number) = who_with 0 number
