use Rattle.std.proofs.Common.{◌≡◌, ◌∙◌, sym, ap, ◌+◌, List, Bool, ℕ}
use Rattle.std.specs.List.{splice}
use Rattle.std.specs.Option.{option_to_list}
use Rattle.std.proofs.lemmas.List.{map-id}
use Rattle.std.proofs.lemmas.Iterator.{items_from_drains}
use Rattle.std.proofs.lemmas.Iterator.Adapters.{YieldsList-from_once}
use Rattle.lake_model.specs.Layout.{Shown, shown_with}
use Rattle.segment_core.proofs.layout.ShownParts.exchange.Goals as goal

pub returns-clause-ok : goal.returns-clause-ok
returns-clause-ok c =
    let m = c.in_ok-splice.ensures.items in
    let parts = c.self.inside.parts.items in
    let end = c.args.first + c.args.count in
    let part : m.1 ≡ option_to_list c.args.part = sym (map-id m.1) ∙ items_from_drains m.1 (m.3.1.0, m.3.1.1, λ w. (m.3.0, m.3.1.2)) (YieldsList-from_once c.args.part m.2.0) in
    let new : c.splice.new.self.items ≡ splice parts c.args.first end (option_to_list c.args.part) = m.4 ∙ ap (λ (more : List (ℕ × List (ℕ × Bool))). splice parts c.args.first end more) part in
    ap (shown_with c.args.at) (new ∙ ap (λ (s : Shown). splice s.parts c.args.first end (option_to_list c.args.part)) c.self.view_is)
