use Rattle.std.proofs.Common.{◌≡◌, ◌∙◌, ◌⊎◌, ap, refl, subst, sym, Some}
use Rattle.commands.specs.Tasks.{file_of}
use Rattle.lake_model.specs.declared.Keys.TheVariants.{Canonical}
use Rattle.lake_model.specs.Queries.{query_fault}
use Rattle.script_model.specs.Commands.{Bytes}
use Rattle.lake_model.specs.declared.QueryRefused.TheVariants as query
use Rattle.record_model.specs.Watched.{given_read}
use Rattle.record_model.specs.declared.GivenWhy.TheVariants as given
use Rattle.josie_top.proofs.GivenFacts.{bytes_given, bytes_refused, failed_given, long_given, missing_given}
use Rattle.josie_top.proofs.given.query_of.Goals as goal

pub returns-in-Failed-clause-stopped : goal.returns-in-Failed-clause-stopped
returns-in-Failed-clause-stopped c = ap (λ file. given_read (file_of file)) c.in-Failed.is ∙ failed_given

pub returns-in-Missing-clause-stopped : goal.returns-in-Missing-clause-stopped
returns-in-Missing-clause-stopped c = ap (λ file. given_read (file_of file)) c.in-Missing.is ∙ missing_given

pub returns-in-TooLong-clause-stopped : goal.returns-in-TooLong-clause-stopped
returns-in-TooLong-clause-stopped c = ap (λ file. given_read (file_of file)) c.in-TooLong.is ∙ long_given

pub returns-in-Ok-clause-keys : goal.returns-in-Ok-clause-keys
returns-in-Ok-clause-keys c =
    ap (λ file. given_read (file_of file)) c.in-Bytes.is ∙ ap (λ bytes. given_read (Bytes bytes)) (sym c.bytes.ensures.value)
    ∙ bytes_given c.bytes.result.now c.in-Ok.query c.in-Ok.ensures.sound c.in-Ok.ensures.keys

pub returns-in-Err-NotUtf8-clause-stopped : goal.returns-in-Err-NotUtf8-clause-stopped
returns-in-Err-NotUtf8-clause-stopped c =
    let refused = query.NotUtf8 c.in-Err-NotUtf8.line in
    ap (λ file. given_read (file_of file)) c.in-Bytes.is ∙ ap (λ bytes. given_read (Bytes bytes)) (sym c.bytes.ensures.value)
    ∙ bytes_refused c.bytes.result.now refused (given.NotUtf8 c.in-Err-NotUtf8.line) (subst (λ e. (e ≡ query.NoMemory) ⊎ (query_fault Canonical c.bytes.result.now ≡ Some e)) c.in-Err-NotUtf8.field-0-is c.in-Err-NotUtf8.ensures.refused)
    (λ memory. let bad : refused ≡ query.NoMemory = memory in cc) refl

pub returns-in-Err-TooManyValues-clause-stopped : goal.returns-in-Err-TooManyValues-clause-stopped
returns-in-Err-TooManyValues-clause-stopped c =
    ap (λ file. given_read (file_of file)) c.in-Bytes.is ∙ ap (λ bytes. given_read (Bytes bytes)) (sym c.bytes.ensures.value)
    ∙ bytes_refused c.bytes.result.now query.TooManyValues given.TooManyValues (subst (λ e. (e ≡ query.NoMemory) ⊎ (query_fault Canonical c.bytes.result.now ≡ Some e)) c.in-Err-TooManyValues.field-0-is c.in-Err-TooManyValues.ensures.refused)
    (λ memory. let bad : query.TooManyValues ≡ query.NoMemory = memory in cc) refl
