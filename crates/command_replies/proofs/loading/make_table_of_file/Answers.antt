use Rattle.std.proofs.Common.{refl, inr, subst, sym}
use Rattle.record_model.specs.Replies.{FileFailed, FileMissing, FileTooLong, OfFile, FailedFault, MissingFault, TooLongFault}
use Rattle.record_model.specs.Answered.{file_read}
use Rattle.commands.specs.Tasks.{file_of}
use Rattle.command_replies.specs.Loads.{IsRefusal}
use Rattle.command_replies.proofs.loading.make_table_of_file.Goals as goal

pub returns-in-Failed-clause-refused : goal.returns-in-Failed-clause-refused
returns-in-Failed-clause-refused c = subst (λ file. IsRefusal (file_read c.args.keys c.args.name.now (file_of file)) FileFailed) (sym c.in-Failed.is) (inr (OfFile FailedFault, refl, refl))

pub returns-in-Missing-clause-refused : goal.returns-in-Missing-clause-refused
returns-in-Missing-clause-refused c = subst (λ file. IsRefusal (file_read c.args.keys c.args.name.now (file_of file)) FileMissing) (sym c.in-Missing.is) (inr (OfFile MissingFault, refl, refl))

pub returns-in-TooLong-clause-refused : goal.returns-in-TooLong-clause-refused
returns-in-TooLong-clause-refused c = subst (λ file. IsRefusal (file_read c.args.keys c.args.name.now (file_of file)) FileTooLong) (sym c.in-TooLong.is) (inr (OfFile TooLongFault, refl, refl))
