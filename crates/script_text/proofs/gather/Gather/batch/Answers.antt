use Rattle.std.proofs.Common.{◌≡◌, ◌+◌, ◌≤◌, ◌-◌, ◌∙◌, arith, ap, inl, length, refl, subst, sym, take}
use Rattle.std.specs.Prelude.{Option, Result, Err}
use Rattle.std.proofs.lemmas.List.{take_all}
use Rattle.std.proofs.lemmas.Result.{err_from_is_err_and}
use Rattle.script_model.specs.Commands.{Batch}
use Rattle.script_model.specs.Reading.{Reading}
use Rattle.script_model.specs.declared.ScriptLimits.{ScriptLimits}
use Rattle.script_text.specs.declared.refused.ScriptEnd.{ScriptEnd}
use Rattle.script_model.specs.Words.{NoFeed}
use Rattle.script_text.specs.Gathering.{Gathering, grammar}
use Rattle.script_text.specs.Inputs.{EndsLine}
use Rattle.script_text.specs.declared.refused.ScriptEnd.TheVariants.{ReadFault}
use Rattle.script_text.proofs.BatchLemmas.{Answers, IsUnder, answer_end, answer_held, answer_line, answer_memory, answer_sync, no_line_fault, no_read_fault, nothing_came, step_line, step_lines, step_read}
use Rattle.script_text.proofs.ProgressLemmas.{begins}
use Rattle.script_text.proofs.gather.Gather.batch.Goals as goal

pub lines-init : goal.lines-init
unfolding begins
lines-init g c =
    let old = c.args.self.now in
    let empty : length old.reading.commands ≡ 0 = ap length (c.set_ended.ensures.empty c.requires) in
    subst (λ (s : Gathering). IsUnder (c.args.source.now ≡ c.args.source.now) old s (g.S.Source.left c.args.source.now) (g.S.Source.left c.args.source.now) (g.F.Shelf.files c.args.shelf.now) (g.F.Shelf.files c.args.shelf.now) (g.F.Shelf.faults c.args.shelf.now) (g.F.Shelf.faults c.args.shelf.now) (g.S.Source.faults c.args.source.now) (g.S.Source.faults c.args.source.now))
    (sym c.set_ended.ensures.set)
    (record {
      progress = begins (grammar old) old.reading old.held (g.S.Source.left c.args.source.now) (g.F.Shelf.files c.args.shelf.now) (g.F.Shelf.faults c.args.shelf.now);
      limits = refl;
      lanes = refl;
      ended = refl;
      used = omega (arith, empty);
      same_files = refl;
      later = (omega arith, omega arith);
      late = inl (refl, refl);
    })

pub returns-in_err-read_more-clause-gathered : goal.returns-in_err-read_more-clause-gathered
returns-in_err-read_more-clause-gathered g c =
    let under = subst (λ (s : Gathering). IsUnder (c.lines.source ≡ c.args.source.now) c.args.self.now s (g.S.Source.left c.args.source.now) (g.S.Source.left c.lines.source) (g.F.Shelf.files c.args.shelf.now) (g.F.Shelf.files c.lines.shelf) (g.F.Shelf.faults c.args.shelf.now) (g.F.Shelf.faults c.lines.shelf) (g.S.Source.faults c.args.source.now) (g.S.Source.faults c.lines.source))
    (sym c.in_default.ensures.same) c.lines.invariant in
    let p = err_from_is_err_and c.from_residual.result c.from_residual.ensures.1 in
    let e = c.in_err-read_more.field-0.0 in
    subst (λ (r : Result (Option Batch) ScriptEnd). Answers (c.read_more.new.source ≡ c.args.source.now) r c.args.self.now c.read_more.new.self (g.S.Source.left c.args.source.now) (g.S.Source.left c.read_more.new.source) (g.F.Shelf.files c.args.shelf.now) (g.F.Shelf.faults c.args.shelf.now) (g.F.Shelf.faults c.lines.shelf))
    (sym (p.1 ∙ ap Err p.2))
    (answer_held _ c.args.self.now c.find_line.new.self _ _ _ _ _ _ _ _ under c.read_more.new.self (g.S.Source.left c.read_more.new.source) e c.in_err-read_more.ensures.kept.0 c.in_err-read_more.ensures.fault
    (λ q. (c.in_err-read_more.ensures.read_fault (ap Err q)).1))

pub returns-in_err-read_more-clause-within : goal.returns-in_err-read_more-clause-within
returns-in_err-read_more-clause-within g c =
    let w = subst (λ (s : Gathering). s.reading.used ≤ s.limits.input) (sym c.in_default.ensures.same) c.in_default.ensures.within in
    let reading = ap (λ (r : Reading). r.used) c.in_err-read_more.ensures.reading in
    let limits = ap (λ (l : ScriptLimits). l.input) c.in_err-read_more.ensures.same.limits in
    omega (arith, w, reading, limits)

pub returns-then-branch-eq0-clause-gathered : goal.returns-then-branch-eq0-clause-gathered
returns-then-branch-eq0-clause-gathered g c =
    let under = subst (λ (s : Gathering). IsUnder (c.lines.source ≡ c.args.source.now) c.args.self.now s (g.S.Source.left c.args.source.now) (g.S.Source.left c.lines.source) (g.F.Shelf.files c.args.shelf.now) (g.F.Shelf.files c.lines.shelf) (g.F.Shelf.faults c.args.shelf.now) (g.F.Shelf.faults c.lines.shelf) (g.S.Source.faults c.args.source.now) (g.S.Source.faults c.lines.source))
    (sym c.in_default.ensures.same) c.lines.invariant in
    let known = c.in_ok-read_more.ensures in
    let now = c.find_line.new.self in
    let next = c.read_more.new.self in
    let none = subst (λ (s : Gathering). NoFeed (take (s.limits.input - s.reading.used) s.held)) (sym c.in_default.ensures.same) c.in_default.ensures.none in
    let few : length now.held ≤ now.limits.input - now.reading.used = omega (arith, known.fits.0) in
    let at_hand : NoFeed now.held = subst NoFeed (take_all (now.limits.input - now.reading.used) now.held few) none in
    let after = step_read _ c.args.self.now now _ _ _ _ _ _ _ _ under (c.read_more.new.source ≡ c.args.source.now) next (g.S.Source.left c.read_more.new.source) _ _ at_hand known.few known.came known.reading known.same known.later in
    let held : next.held ≡ now.held = nothing_came (g.S.Source.left c.lines.source) (g.S.Source.left c.read_more.new.source) now.held next.held c.in_ok-read_more.field-0 known.came c.if-branch-eq0.true in
    let whole : NoFeed next.held = subst NoFeed (sym held) at_hand in
    let fits : next.reading.used + length next.held ≤ next.limits.input =
    omega (arith, known.fits.0, ap length held, ap (λ (r : Reading). r.used) known.reading, ap (λ (l : ScriptLimits). l.input) known.same.limits) in
    answer_end _ c.args.self.now next _ _ _ _ _ _ _ _ after c.finish.new.self _ c.finish.result whole fits (known.came.end c.if-branch-eq0.true) c.finish.ensures.same c.finish.ensures.ends

pub returns-then-branch-eq0-clause-within : goal.returns-then-branch-eq0-clause-within
returns-then-branch-eq0-clause-within g c =
    let known = c.in_ok-read_more.ensures in
    let now = c.find_line.new.self in
    let next = c.read_more.new.self in
    let held : next.held ≡ now.held = nothing_came (g.S.Source.left c.lines.source) (g.S.Source.left c.read_more.new.source) now.held next.held c.in_ok-read_more.field-0 known.came c.if-branch-eq0.true in
    omega (arith, c.finish.ensures.within, known.fits.0, ap length held, ap (λ (r : Reading). r.used) known.reading, ap (λ (l : ScriptLimits). l.input) known.same.limits, ap (λ (l : ScriptLimits). l.input) c.finish.ensures.same.limits)

pub returns-then-branch-eq0-clause-read_fault : goal.returns-then-branch-eq0-clause-read_fault
returns-then-branch-eq0-clause-read_fault g c = λ e. absurd (no_read_fault _ c.finish.result _ _ _ _ c.finish.ensures.ends e)

pub lines-preserved-in_default : goal.lines-preserved-in_default
lines-preserved-in_default g c =
    let under = subst (λ (s : Gathering). IsUnder (c.lines.source ≡ c.args.source.now) c.args.self.now s (g.S.Source.left c.args.source.now) (g.S.Source.left c.lines.source) (g.F.Shelf.files c.args.shelf.now) (g.F.Shelf.files c.lines.shelf) (g.F.Shelf.faults c.args.shelf.now) (g.F.Shelf.faults c.lines.shelf) (g.S.Source.faults c.args.source.now) (g.S.Source.faults c.lines.source))
    (sym c.in_default.ensures.same) c.lines.invariant in
    let known = c.in_ok-read_more.ensures in
    let now = c.find_line.new.self in
    let none = subst (λ (s : Gathering). NoFeed (take (s.limits.input - s.reading.used) s.held)) (sym c.in_default.ensures.same) c.in_default.ensures.none in
    let few : length now.held ≤ now.limits.input - now.reading.used = omega (arith, known.fits.0) in
    let at_hand : NoFeed now.held = subst NoFeed (take_all (now.limits.input - now.reading.used) now.held few) none in
    step_read _ c.args.self.now now _ _ _ _ _ _ _ _ under (c.read_more.new.source ≡ c.args.source.now) c.read_more.new.self _ _ _ at_hand known.few known.came known.reading known.same known.later

pub returns-in_err-batch-clause-gathered : goal.returns-in_err-batch-clause-gathered
returns-in_err-batch-clause-gathered g c =
    let under = subst (λ (s : Gathering). IsUnder (c.lines.source ≡ c.args.source.now) c.args.self.now s (g.S.Source.left c.args.source.now) (g.S.Source.left c.lines.source) (g.F.Shelf.files c.args.shelf.now) (g.F.Shelf.files c.lines.shelf) (g.F.Shelf.faults c.args.shelf.now) (g.F.Shelf.faults c.lines.shelf) (g.S.Source.faults c.args.source.now) (g.S.Source.faults c.lines.source))
    (sym c.in-Some.ensures.same) c.lines.invariant in
    let found = subst (λ (s : Gathering). EndsLine s.held c.in-Some.at × (s.reading.used + (c.in-Some.at + 1) ≤ s.limits.input)) (sym c.in-Some.ensures.same) c.in-Some.ensures.found in
    let p = err_from_is_err_and c.from_residual-in_err-batch.result c.from_residual-in_err-batch.ensures.1 in
    subst (λ (r : Result (Option Batch) ScriptEnd). Answers (c.lines.source ≡ c.args.source.now) r c.args.self.now c.read_line.new.self (g.S.Source.left c.args.source.now) (g.S.Source.left c.lines.source) (g.F.Shelf.files c.args.shelf.now) (g.F.Shelf.faults c.args.shelf.now) (g.F.Shelf.faults c.read_line.new.shelf))
    (sym (p.1 ∙ ap Err p.2))
    (answer_line _ c.args.self.now c.find_line.new.self _ _ _ _ _ _ _ _ under c.read_line.new.self _ c.in-Some.at c.in_err-batch.field-0.0 found.0 found.1 c.in_err-batch.ensures.turn)

pub returns-in_err-batch-clause-read_fault : goal.returns-in_err-batch-clause-read_fault
returns-in_err-batch-clause-read_fault g c =
    let p = err_from_is_err_and c.from_residual-in_err-batch.result c.from_residual-in_err-batch.ensures.1 in
    λ q. (let same : c.in_err-batch.field-0.0 ≡ ReadFault = cc (sym (p.1 ∙ ap Err p.2) ∙ q) in
    absurd (no_line_fault _ c.in_err-batch.field-0.0 _ _ _ _ _ _ c.in_err-batch.ensures.turn same))

pub returns-in-Some-2-clause-gathered : goal.returns-in-Some-2-clause-gathered
returns-in-Some-2-clause-gathered g c =
    let under = subst (λ (s : Gathering). IsUnder (c.lines.source ≡ c.args.source.now) c.args.self.now s (g.S.Source.left c.args.source.now) (g.S.Source.left c.lines.source) (g.F.Shelf.files c.args.shelf.now) (g.F.Shelf.files c.lines.shelf) (g.F.Shelf.faults c.args.shelf.now) (g.F.Shelf.faults c.lines.shelf) (g.S.Source.faults c.args.source.now) (g.S.Source.faults c.lines.source))
    (sym c.in-Some.ensures.same) c.lines.invariant in
    let found = subst (λ (s : Gathering). EndsLine s.held c.in-Some.at × (s.reading.used + (c.in-Some.at + 1) ≤ s.limits.input)) (sym c.in-Some.ensures.same) c.in-Some.ensures.found in
    answer_sync _ c.args.self.now c.find_line.new.self _ _ _ _ _ _ _ _ under c.read_line.new.self c.set_ended-in-Some-2.new.self _ c.in-Some.at c.in-Some-2.batch found.0 found.1 (rw c.in-Some-2.is at c.in_ok-batch.ensures.turn) c.in_ok-batch.ensures.held
    c.set_ended-in-Some-2.ensures.set

pub returns-in_err-read_run-clause-gathered : goal.returns-in_err-read_run-clause-gathered
returns-in_err-read_run-clause-gathered g c =
    let under = subst (λ (s : Gathering). IsUnder (c.lines.source ≡ c.args.source.now) c.args.self.now s (g.S.Source.left c.args.source.now) (g.S.Source.left c.lines.source) (g.F.Shelf.files c.args.shelf.now) (g.F.Shelf.files c.lines.shelf) (g.F.Shelf.faults c.args.shelf.now) (g.F.Shelf.faults c.lines.shelf) (g.S.Source.faults c.args.source.now) (g.S.Source.faults c.lines.source))
    (sym c.in-Some.ensures.same) c.lines.invariant in
    let found = subst (λ (s : Gathering). EndsLine s.held c.in-Some.at × (s.reading.used + (c.in-Some.at + 1) ≤ s.limits.input)) (sym c.in-Some.ensures.same) c.in-Some.ensures.found in
    let line = step_line _ c.args.self.now c.find_line.new.self _ _ _ _ _ _ _ _ under c.read_line.new.self (g.F.Shelf.files c.read_line.new.shelf) (g.F.Shelf.faults c.read_line.new.shelf) c.in-Some.at found.0 found.1 (rw c.in_default-2.is at c.in_ok-batch.ensures.turn) c.in_ok-batch.ensures.held c.in_ok-batch.ensures.used (rw c.in_default-2.is at c.in_ok-batch.ensures.grows) c.in_ok-batch.ensures.same c.in_ok-batch.ensures.later c.in_ok-batch.ensures.files in
    let p = err_from_is_err_and c.from_residual-in_err-read_run.result c.from_residual-in_err-read_run.ensures.1 in
    subst (λ (r : Result (Option Batch) ScriptEnd). Answers (c.lines.source ≡ c.args.source.now) r c.args.self.now c.read_run.new.self (g.S.Source.left c.args.source.now) (g.S.Source.left c.lines.source) (g.F.Shelf.files c.args.shelf.now) (g.F.Shelf.faults c.args.shelf.now) (g.F.Shelf.faults c.read_line.new.shelf))
    (sym (p.1 ∙ ap Err p.2))
    (answer_memory _ c.args.self.now c.read_line.new.self _ _ _ _ _ _ _ _ line c.read_run.new.self)

pub lines-preserved : goal.lines-preserved
lines-preserved g c =
    let under = subst (λ (s : Gathering). IsUnder (c.lines.source ≡ c.args.source.now) c.args.self.now s (g.S.Source.left c.args.source.now) (g.S.Source.left c.lines.source) (g.F.Shelf.files c.args.shelf.now) (g.F.Shelf.files c.lines.shelf) (g.F.Shelf.faults c.args.shelf.now) (g.F.Shelf.faults c.lines.shelf) (g.S.Source.faults c.args.source.now) (g.S.Source.faults c.lines.source))
    (sym c.in-Some.ensures.same) c.lines.invariant in
    let found = subst (λ (s : Gathering). EndsLine s.held c.in-Some.at × (s.reading.used + (c.in-Some.at + 1) ≤ s.limits.input)) (sym c.in-Some.ensures.same) c.in-Some.ensures.found in
    let line = step_line _ c.args.self.now c.find_line.new.self _ _ _ _ _ _ _ _ under c.read_line.new.self (g.F.Shelf.files c.read_line.new.shelf) (g.F.Shelf.faults c.read_line.new.shelf) c.in-Some.at found.0 found.1 (rw c.in_default-2.is at c.in_ok-batch.ensures.turn) c.in_ok-batch.ensures.held c.in_ok-batch.ensures.used (rw c.in_default-2.is at c.in_ok-batch.ensures.grows) c.in_ok-batch.ensures.same c.in_ok-batch.ensures.later c.in_ok-batch.ensures.files in
    let run = c.in_ok-read_run.ensures in
    step_lines _ c.args.self.now c.read_line.new.self _ _ _ _ _ _ _ _ line c.read_run.new.self run.leads run.used run.less run.commands run.within run.same
