use Rattle.std.proofs.Common.{rules, ◌≡◌, ◌∙◌, ◌∷◌, ◌++◌, [], ap, arith, false, true, refl, subst, sym, List}
use Rattle.std.specs.Prelude.{Err, None, is_err}
use Rattle.std.proofs.KnownBytes.{Consumes-nil}
use Rattle.script_model.specs.Commands.{Batch}
use Rattle.script_text.specs.Gathering.{Gathering}
use Rattle.script_text.specs.declared.refused.ScriptEnd.{ScriptEnd}
use Rattle.record_model.specs.declared.Status.{Status}
use Rattle.trace_check.specs.Checking.{CheckerOf, checker_with}
use Rattle.josie_top.specs.Checking.{IsReadWhole, IsReading, IsStoppedAt}
use Rattle.josie_top.specs.World.{HasMoved, Moves, World, world_of}
use Rattle.josie_top.proofs.CheckFacts.{reading_more, reading_start, stopped_behind, stopped_by, whole_with, whole_without}
use Rattle.josie_top.proofs.RunFacts.{end_moves, memory_moves, moved_on}
use Rattle.josie_top.proofs.StreamFacts.{on_ok, rose_since}
use Rattle.josie_top.proofs.checking.read_script.Goals as goal

pub loop-init : goal.loop-init
loop-init g c =
    let first : World = world_of (g.S.Source.left c.args.source.now) (g.S.Source.faults c.args.source.now) None 0 (g.F.Shelf.files c.args.shelf.now) (g.F.Shelf.faults c.args.shelf.now) in (
      subst (λ (b : List Batch). IsReading c.args.checker.now.options first first c.args.gather.now b) (sym c.requires.none) (reading_start c.args.checker.now.options first c.args.gather.now _ c.requires.start refl),
      ap (λ (gathering : Gathering). gathering.ended) c.requires.start,
      refl,
      refl,
    )

pub returns-in-Ok-None-clause-whole : goal.returns-in-Ok-None-clause-whole
returns-in-Ok-None-clause-whole g c =
    let (reading, on, rules_are, options_are) = c.loop.invariant in
    let (taken, gathers, late) = c.in-Ok-None.ensures.gathered in
    let first : World = world_of (g.S.Source.left c.args.source.now) (g.S.Source.faults c.args.source.now) None 0 (g.F.Shelf.files c.args.shelf.now) (g.F.Shelf.faults c.args.shelf.now) in
    let second : World = world_of (g.S.Source.left c.loop.source) (g.S.Source.faults c.loop.source) None 0 (g.F.Shelf.files c.loop.shelf) (g.F.Shelf.faults c.loop.shelf) in
    let third : World = world_of (g.S.Source.left c.batch.new.source) (g.S.Source.faults c.batch.new.source) None 0 (g.F.Shelf.files c.batch.new.shelf) (g.F.Shelf.faults c.batch.new.shelf) in
    whole_without c.args.checker.now.options first second third c.loop.gather c.batch.new.self c.loop.checker.batches _ c.in-Ok-None.field-0-is reading taken gathers

pub returns-in-Ok-None-clause-moves : goal.returns-in-Ok-None-clause-moves
returns-in-Ok-None-clause-moves g c =
    let (reading, on, rules_are, options_are) = c.loop.invariant in
    let first : World = world_of (g.S.Source.left c.args.source.now) (g.S.Source.faults c.args.source.now) None 0 (g.F.Shelf.files c.args.shelf.now) (g.F.Shelf.faults c.args.shelf.now) in
    let second : World = world_of (g.S.Source.left c.loop.source) (g.S.Source.faults c.loop.source) None 0 (g.F.Shelf.files c.loop.shelf) (g.F.Shelf.faults c.loop.shelf) in
    let third : World = world_of (g.S.Source.left c.batch.new.source) (g.S.Source.faults c.batch.new.source) None 0 (g.F.Shelf.files c.batch.new.shelf) (g.F.Shelf.faults c.batch.new.shelf) in
    let (read, fetched) = c.in-Ok-None.ensures.later in
    let moved : HasMoved second third = record { files = c.in-Ok-None.ensures.files; reads = read; writes = omega arith; fetches = fetched } in
    (moved_on {before = first} {mid = second} {now = third} reading.moved moved, tt)

pub returns-in-Err-clause-stopped : goal.returns-in-Err-clause-stopped
returns-in-Err-clause-stopped g c =
    let (reading, on, rules_are, options_are) = c.loop.invariant in
    let (taken, gathers, late) = c.in-Err.ensures.gathered in
    let first : World = world_of (g.S.Source.left c.args.source.now) (g.S.Source.faults c.args.source.now) None 0 (g.F.Shelf.files c.args.shelf.now) (g.F.Shelf.faults c.args.shelf.now) in
    let second : World = world_of (g.S.Source.left c.loop.source) (g.S.Source.faults c.loop.source) None 0 (g.F.Shelf.files c.loop.shelf) (g.F.Shelf.faults c.loop.shelf) in
    let third : World = world_of (g.S.Source.left c.batch.new.source) (g.S.Source.faults c.batch.new.source) None 0 (g.F.Shelf.files c.batch.new.shelf) (g.F.Shelf.faults c.batch.new.shelf) in
    subst (λ (s : Status). IsStoppedAt c.args.checker.now.options s first third) (sym c.status_of_end.ensures)
    (stopped_by c.args.checker.now.options first second third c.loop.gather c.batch.new.self c.loop.checker.batches c.in-Err.end reading taken gathers)

pub returns-in-Err-clause-moves : goal.returns-in-Err-clause-moves
returns-in-Err-clause-moves g c =
    let (reading, on, rules_are, options_are) = c.loop.invariant in
    let first : World = world_of (g.S.Source.left c.args.source.now) (g.S.Source.faults c.args.source.now) None 0 (g.F.Shelf.files c.args.shelf.now) (g.F.Shelf.faults c.args.shelf.now) in
    let second : World = world_of (g.S.Source.left c.loop.source) (g.S.Source.faults c.loop.source) None 0 (g.F.Shelf.files c.loop.shelf) (g.F.Shelf.faults c.loop.shelf) in
    let third : World = world_of (g.S.Source.left c.batch.new.source) (g.S.Source.faults c.batch.new.source) None 0 (g.F.Shelf.files c.batch.new.shelf) (g.F.Shelf.faults c.batch.new.shelf) in
    let (read, fetched) = c.in-Err.ensures.later in
    let moved : HasMoved second third = record { files = c.in-Err.ensures.files; reads = read; writes = omega arith; fetches = fetched } in
    let all : HasMoved first third = moved_on {before = first} {mid = second} {now = third} reading.moved moved in (
      all,
      subst (λ (s : Status). Moves ⊥ s first third) (sym c.status_of_end.ensures) (end_moves {before = first} {now = third} c.in-Err.end all
          (λ is. rose_since first.read_faults second.read_faults third.read_faults reading.moved.reads (c.in-Err.ensures.read_fault (ap (λ (e : ScriptEnd). Err e) is)))),
    )

pub returns-then-is_err-clause-stopped : goal.returns-then-is_err-clause-stopped
returns-then-is_err-clause-stopped g c =
    let (reading, on, rules_are, options_are) = c.loop.invariant in
    let (taken, gathers, late) = c.in-Ok-Some.ensures.gathered in
    let first : World = world_of (g.S.Source.left c.args.source.now) (g.S.Source.faults c.args.source.now) None 0 (g.F.Shelf.files c.args.shelf.now) (g.F.Shelf.faults c.args.shelf.now) in
    let second : World = world_of (g.S.Source.left c.loop.source) (g.S.Source.faults c.loop.source) None 0 (g.F.Shelf.files c.loop.shelf) (g.F.Shelf.faults c.loop.shelf) in
    let third : World = world_of (g.S.Source.left c.batch.new.source) (g.S.Source.faults c.batch.new.source) None 0 (g.F.Shelf.files c.batch.new.shelf) (g.F.Shelf.faults c.batch.new.shelf) in
    stopped_behind c.args.checker.now.options first second third c.loop.gather c.loop.checker.batches taken.given reading taken.gave

pub returns-then-is_err-clause-moves : goal.returns-then-is_err-clause-moves
returns-then-is_err-clause-moves g c =
    let (reading, on, rules_are, options_are) = c.loop.invariant in
    let first : World = world_of (g.S.Source.left c.args.source.now) (g.S.Source.faults c.args.source.now) None 0 (g.F.Shelf.files c.args.shelf.now) (g.F.Shelf.faults c.args.shelf.now) in
    let second : World = world_of (g.S.Source.left c.loop.source) (g.S.Source.faults c.loop.source) None 0 (g.F.Shelf.files c.loop.shelf) (g.F.Shelf.faults c.loop.shelf) in
    let third : World = world_of (g.S.Source.left c.batch.new.source) (g.S.Source.faults c.batch.new.source) None 0 (g.F.Shelf.files c.batch.new.shelf) (g.F.Shelf.faults c.batch.new.shelf) in
    let (read, fetched) = c.in-Ok-Some.ensures.later in
    let moved : HasMoved second third = record { files = c.in-Ok-Some.ensures.files; reads = read; writes = omega arith; fetches = fetched } in
    let all : HasMoved first third = moved_on {before = first} {mid = second} {now = third} reading.moved moved in
    (all, memory_moves {before = first} {now = third} all)

pub returns-then-ended-clause-whole : goal.returns-then-ended-clause-whole
returns-then-ended-clause-whole g c =
    let (reading, on, rules_are, options_are) = c.loop.invariant in
    let (taken, gathers, late) = c.in-Ok-Some.ensures.gathered in
    let first : World = world_of (g.S.Source.left c.args.source.now) (g.S.Source.faults c.args.source.now) None 0 (g.F.Shelf.files c.args.shelf.now) (g.F.Shelf.faults c.args.shelf.now) in
    let second : World = world_of (g.S.Source.left c.loop.source) (g.S.Source.faults c.loop.source) None 0 (g.F.Shelf.files c.loop.shelf) (g.F.Shelf.faults c.loop.shelf) in
    let third : World = world_of (g.S.Source.left c.batch.new.source) (g.S.Source.faults c.batch.new.source) None 0 (g.F.Shelf.files c.batch.new.shelf) (g.F.Shelf.faults c.batch.new.shelf) in
    let fine : is_err c.add.result ≡ false = search rules in
    let added : c.add.new.self ≡ checker_with c.loop.checker.rules c.loop.checker.options (c.loop.checker.batches ++ c.in-Ok-Some.batch ∷ []) = on_ok c.add.result _ fine c.add.ensures.added in
    let over : c.batch.new.self.ended ≡ true = search rules in
    subst (IsReadWhole c.args.checker.now.options first third) (sym (ap (λ (checker : CheckerOf). checker.batches) added))
    (whole_with c.args.checker.now.options first second third c.loop.gather c.batch.new.self c.loop.checker.batches _ c.in-Ok-Some.batch c.in-Ok-Some.field-0-is reading taken gathers over)

pub returns-then-ended-clause-moves : goal.returns-then-ended-clause-moves
returns-then-ended-clause-moves g c =
    let (reading, on, rules_are, options_are) = c.loop.invariant in
    let first : World = world_of (g.S.Source.left c.args.source.now) (g.S.Source.faults c.args.source.now) None 0 (g.F.Shelf.files c.args.shelf.now) (g.F.Shelf.faults c.args.shelf.now) in
    let second : World = world_of (g.S.Source.left c.loop.source) (g.S.Source.faults c.loop.source) None 0 (g.F.Shelf.files c.loop.shelf) (g.F.Shelf.faults c.loop.shelf) in
    let third : World = world_of (g.S.Source.left c.batch.new.source) (g.S.Source.faults c.batch.new.source) None 0 (g.F.Shelf.files c.batch.new.shelf) (g.F.Shelf.faults c.batch.new.shelf) in
    let (read, fetched) = c.in-Ok-Some.ensures.later in
    let moved : HasMoved second third = record { files = c.in-Ok-Some.ensures.files; reads = read; writes = omega arith; fetches = fetched } in
    (moved_on {before = first} {mid = second} {now = third} reading.moved moved, tt)

pub loop-preserved : goal.loop-preserved
loop-preserved g c =
    let (reading, on, rules_are, options_are) = c.loop.invariant in
    let (taken, gathers, late) = c.in-Ok-Some.ensures.gathered in
    let first : World = world_of (g.S.Source.left c.args.source.now) (g.S.Source.faults c.args.source.now) None 0 (g.F.Shelf.files c.args.shelf.now) (g.F.Shelf.faults c.args.shelf.now) in
    let second : World = world_of (g.S.Source.left c.loop.source) (g.S.Source.faults c.loop.source) None 0 (g.F.Shelf.files c.loop.shelf) (g.F.Shelf.faults c.loop.shelf) in
    let third : World = world_of (g.S.Source.left c.batch.new.source) (g.S.Source.faults c.batch.new.source) None 0 (g.F.Shelf.files c.batch.new.shelf) (g.F.Shelf.faults c.batch.new.shelf) in
    let (read, fetched) = c.in-Ok-Some.ensures.later in
    let moved : HasMoved second third = record { files = c.in-Ok-Some.ensures.files; reads = read; writes = omega arith; fetches = fetched } in
    let fine : is_err c.add.result ≡ false = search rules in
    let added : c.add.new.self ≡ checker_with c.loop.checker.rules c.loop.checker.options (c.loop.checker.batches ++ c.in-Ok-Some.batch ∷ []) = on_ok c.add.result _ fine c.add.ensures.added in
    let goes : c.batch.new.self.ended ≡ false = search rules in (
      subst (IsReading c.args.checker.now.options first third c.batch.new.self) (sym (ap (λ (checker : CheckerOf). checker.batches) added))
          (reading_more c.args.checker.now.options first second third c.loop.gather c.batch.new.self c.loop.checker.batches _ c.in-Ok-Some.batch c.in-Ok-Some.field-0-is reading moved taken gathers
          c.in-Ok-Some.ensures.limits c.in-Ok-Some.ensures.same_lanes c.in-Ok-Some.ensures.within goes),
      goes,
      ap (λ (checker : CheckerOf). checker.rules) added ∙ rules_are,
      ap (λ (checker : CheckerOf). checker.options) added ∙ options_are,
    )

pub returns-clause-stopped : goal.returns-clause-stopped
returns-clause-stopped g c =
    let (reading, on, rules_are, options_are) = c.loop.invariant in
    let first : World = world_of (g.S.Source.left c.args.source.now) (g.S.Source.faults c.args.source.now) None 0 (g.F.Shelf.files c.args.shelf.now) (g.F.Shelf.faults c.args.shelf.now) in
    let second : World = world_of (g.S.Source.left c.loop.source) (g.S.Source.faults c.loop.source) None 0 (g.F.Shelf.files c.loop.shelf) (g.F.Shelf.faults c.loop.shelf) in
    stopped_behind c.args.checker.now.options first second second c.loop.gather c.loop.checker.batches [] reading (Consumes-nil second.left)

pub returns-clause-moves : goal.returns-clause-moves
returns-clause-moves g c =
    let (reading, on, rules_are, options_are) = c.loop.invariant in
    let first : World = world_of (g.S.Source.left c.args.source.now) (g.S.Source.faults c.args.source.now) None 0 (g.F.Shelf.files c.args.shelf.now) (g.F.Shelf.faults c.args.shelf.now) in
    let second : World = world_of (g.S.Source.left c.loop.source) (g.S.Source.faults c.loop.source) None 0 (g.F.Shelf.files c.loop.shelf) (g.F.Shelf.faults c.loop.shelf) in
    (reading.moved, memory_moves {before = first} {now = second} reading.moved)
