use Rattle.std.proofs.Common.{◌∙◌, ap, cond, map, None, List, ℕ}
use Rattle.std.specs.Prelude.{bytes_eq}
use Rattle.std.specs.BTreeMap.{get_by_text}
use Rattle.std.proofs.lemmas.Map.Text.{btree_map_updates_text}
use Rattle.asof_search.specs.Puts.{end_put}
use Rattle.asof_search.proofs.PutLemmas.{ended_indexed, ended_is, if_within}
use Rattle.asof_search.proofs.puts.Puts.end.Goals as goal

pub end_one-requires : goal.end_one-requires
end_one-requires c = if_within c.self.inside.list.items (λ q. get_by_text c.self.inside.live q) c.text.result.now c.remove-index.result c.self.invariant c.remove-index.ensures.value

pub invariant_of-self : goal.invariant_of-self
invariant_of-self c =
    ended_indexed c.self.inside.list.items c.end_one.new.puts.items (λ q. get_by_text c.self.inside.live q) c.args.name.now c.text.result.now c.args.position c.remove-index.result c.self.invariant c.text.ensures c.remove-index.ensures.value c.end_one.ensures.puts _
    (λ q. btree_map_updates_text c.text.result.now c.self.inside.live c.remove-index.new.self _ c.remove-index.ensures.updates q
    ∙ ap (λ (n : List ℕ). cond (bytes_eq n q) None (get_by_text c.self.inside.live q)) c.text.ensures)

pub returns : goal.returns
returns c =
    ended_is c.self.inside.list.items c.end_one.new.puts.items (λ q. get_by_text c.self.inside.live q) c.args.name.now c.text.result.now c.args.position c.remove-index.result c.self.invariant c.text.ensures c.remove-index.ensures.value c.end_one.ensures.puts
    ∙ ap (map (end_put c.args.name.now c.args.position)) c.self.view_is
