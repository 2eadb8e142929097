use Rattle.std.proofs.Common.{◌∙◌, [], ap, arith, get_or, sym}
use Rattle.std.proofs.lemmas.List.{take_all}
use Rattle.lake_model.specs.Tables.{has_key}
use Rattle.column_set.proofs.HasLemmas.{has_at, has_more}
use Rattle.column_set.proofs.lists.KeyLists.has.Goals as goal

pub returns-then-eq : goal.returns-then-eq
returns-then-eq c =
    let keys = get_or c.args.self.now c.args.list [] in
    has_at keys c.args.key.now c.loop-i.i c.key.result.now (omega (arith, c.size-i-end.ensures)) c.key.ensures c.eq.result c.eq.ensures c.if-eq.true

pub loop-i-preserved : goal.loop-i-preserved
loop-i-preserved c =
    let keys = get_or c.args.self.now c.args.list [] in
    has_more keys c.args.key.now c.loop-i.i c.key.result.now (omega (arith, c.size-i-end.ensures)) c.key.ensures c.eq.result c.eq.ensures c.if-eq.false c.loop-i.invariant

pub returns : goal.returns
returns c =
    let keys = get_or c.args.self.now c.args.list [] in
    sym (ap (λ ks. has_key ks c.args.key.now) (sym (take_all c.loop-i.i keys (omega (arith, c.size-i-end.ensures)))) ∙ c.loop-i.invariant)
