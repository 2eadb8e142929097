use Rattle.std.proofs.Common.{List, ℕ, Bool, false, sym, subst, take, true}
use Rattle.std.specs.Io.KnownBytes.{Appends}
use Rattle.record_model.specs.Statuses.{IsPrefix}
use Rattle.josie_top.specs.Checking.{verdict_text}
use Rattle.josie_top.proofs.TextFacts.{prefix_take}
use Rattle.josie_top.proofs.checking.write_verdict.Goals as goal

pub returns-in-Err-clause-written : goal.returns-in-Err-clause-written
returns-in-Err-clause-written g c =
    let (count, below, wrote) = c.in-Err.ensures.part in
    subst (λ (v : Bool). (part : List ℕ) × IsPrefix part (verdict_text v) × Appends (g.K.Sink.written c.args.sink.now) (g.K.Sink.written c.write_all.new.sink) part) (sym c.if-verdict.true)
    (take count (verdict_text true), prefix_take count (verdict_text true), wrote)

pub returns-in-Err-write_all-clause-written : goal.returns-in-Err-write_all-clause-written
returns-in-Err-write_all-clause-written g c =
    let (count, below, wrote) = c.in-Err-write_all.ensures.part in
    subst (λ (v : Bool). (part : List ℕ) × IsPrefix part (verdict_text v) × Appends (g.K.Sink.written c.args.sink.now) (g.K.Sink.written c.write_all-2.new.sink) part) (sym c.if-verdict.false)
    (take count (verdict_text false), prefix_take count (verdict_text false), wrote)
