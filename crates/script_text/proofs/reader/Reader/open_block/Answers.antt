use Rattle.std.proofs.Common.{◌<◌, ◌+◌, ◌≤◌, arith, subst, sym}
use Rattle.std.specs.Prelude.{Some}
use Rattle.script_model.specs.Reading.{Open}
use Rattle.script_text.specs.Fronts.{IsLane}
use Rattle.script_text.specs.Readings.{IsWithin, ReaderState}
use Rattle.script_text.proofs.reader.Reader.open_block.Goals as goal

pub invariant_of-self : goal.invariant_of-self
invariant_of-self c =
    let inside = c.self.inside in
    let known = c.self.invariant in
    let counted = subst (λ (s : ReaderState). s.reading.numbered < s.reading.used) (sym c.self.view_is) c.requires.counted in
    let lane = subst (λ (s : ReaderState). IsLane s.rules.lanes c.args.lane) (sym c.self.view_is) c.requires.lane in
    let empty : inside.bytes + 0 ≤ inside.rules.limits.bytes = omega (arith, known.bytes_within) in
    let none : 0 ≤ inside.rules.limits.block = omega arith in
    let low : 1 ≤ c.args.lane = omega (arith, lane.0) in
    record {
      rules_are = known.rules_are;
      lines_within = known.lines_within;
      numbers_within = known.numbers_within;
      used_within = known.used_within;
      bytes_within = known.bytes_within;
      body_within = subst (λ (b : Open). IsWithin inside.rules inside.used inside.numbered inside.bytes (Some b)) (sym c.new.ensures) (counted, low, lane.1, none, empty);
      lanes = known.lanes;
    }
