use Rattle.std.proofs.Common.{◌≡◌, refl, ◌∙◌, ◌++◌, ◌∷◌, [], ap, arith, cond, length, map, None, Some, List, ℕ}
use Rattle.std.specs.Prelude.{bytes_eq}
use Rattle.std.specs.BTreeMap.{get_by_text}
use Rattle.lake_model.specs.Tables.{Table}
use Rattle.asof_search.specs.Puts.{PutOf, end_index, end_put, put_with}
use Rattle.asof_search.proofs.PutLemmas.{pushed_indexed, pushed_is}
use Rattle.asof_search.proofs.puts.Puts.put.Goals as goal

pub invariant_of-self-2 : goal.invariant_of-self-2
invariant_of-self-2 c =
    let table = c.args.table.now in
    let text = c.name.result.now in
    let name : c.name.result.now ≡ c.args.table.now.name = c.name.ensures ∙ ap (λ (t : Table). t.name) c.table.ensures in
    let ends : c.end_one.new.puts.items ≡ end_index c.self.inside.list.items c.in_ok-before.before c.args.position = c.end_one.ensures.puts ∙ ap (λ (us : List PutOf). end_index us c.in_ok-before.before c.args.position) c.in_ok-reserve.ensures.items in
    let new : c.new.result ≡ put_with c.args.position c.args.table.now None = c.new.ensures ∙ ap (λ (t : Table). put_with c.args.position t None) c.in_ok-share.ensures in
    let many : c.len-index.result ≡ length c.self.inside.list.items = omega (arith, ap length c.in_ok-reserve.ensures.items) in
    pushed_indexed c.self.inside.list.items c.end_one.new.puts.items (λ q. get_by_text c.self.inside.live q) table.name text c.args.position c.in_ok-before.before c.self.invariant name c.in_ok-before.ensures.before ends
    table c.new.result c.push_reserved.new.self.items refl new c.push_reserved.ensures.items _ c.len-index.result many
    (λ q. c.in_ok-before.ensures.ok q ∙ ap (λ (n : List ℕ). cond (bytes_eq n q) (Some c.len-index.result) (get_by_text c.self.inside.live q)) name)

pub returns-clause-ok : goal.returns-clause-ok
returns-clause-ok c =
    let table = c.args.table.now in
    let text = c.name.result.now in
    let name : c.name.result.now ≡ c.args.table.now.name = c.name.ensures ∙ ap (λ (t : Table). t.name) c.table.ensures in
    let ends : c.end_one.new.puts.items ≡ end_index c.self.inside.list.items c.in_ok-before.before c.args.position = c.end_one.ensures.puts ∙ ap (λ (us : List PutOf). end_index us c.in_ok-before.before c.args.position) c.in_ok-reserve.ensures.items in
    let new : c.new.result ≡ put_with c.args.position c.args.table.now None = c.new.ensures ∙ ap (λ (t : Table). put_with c.args.position t None) c.in_ok-share.ensures in
    pushed_is c.self.inside.list.items c.end_one.new.puts.items (λ q. get_by_text c.self.inside.live q) table.name text c.args.position c.in_ok-before.before c.self.invariant name c.in_ok-before.ensures.before ends
    table c.new.result c.push_reserved.new.self.items refl new c.push_reserved.ensures.items
    ∙ ap (λ (us : List PutOf). map (end_put c.args.table.now.name c.args.position) us ++ put_with c.args.position c.args.table.now None ∷ []) c.self.view_is
