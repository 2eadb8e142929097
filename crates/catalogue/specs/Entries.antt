-- What an entry says, in the terms of the definitions.
use Rattle.lake_model.specs.Journal as journal
use Rattle.catalogue.specs.declared.entry.What.{What}
use Rattle.catalogue.specs.declared.entry.What.TheVariants.{Loaded, Dropped, Replaced, Swapped}

abbrev pub what_of : What → journal.What
what_of (Loaded table) = journal.Loaded table
what_of (Dropped name) = journal.Dropped name
what_of (Replaced table) = journal.Replaced table
what_of (Swapped from kept) = journal.Swapped from kept
