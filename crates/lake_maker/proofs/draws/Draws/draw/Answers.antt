use Rattle.std.proofs.Common.{ap, sym, ◌∙◌, ℕ, ◌/◌}
use Rattle.option_model.specs.Generator.{next_state}
use Rattle.lake_maker.proofs.DrawLemmas.{draw_zero, state_at-one}
use Rattle.lake_maker.proofs.draws.Draws.draw.Goals as goal

pub returns-clause-drawn : goal.returns-clause-drawn
returns-clause-drawn c = ap (λ (s : ℕ). next_state s / 65536) (c.from.ensures ∙ c.self.view_is) ∙ sym (draw_zero c.args.self.now)

pub returns-clause-state : goal.returns-clause-state
returns-clause-state c = ap (λ (s : ℕ). next_state s) (c.from.ensures ∙ c.self.view_is) ∙ sym (state_at-one c.args.self.now)
