use Rattle.std.proofs.Common.{◌≡◌, ◌<◌, ◌+◌, ◌∷◌, ◌∙◌, refl, List, ap, sym, subst, arith, get_or, length}
use Rattle.std.specs.Global.{Vec}
use Rattle.column_watch.specs.Index.{key_with}
use Rattle.column_watch.specs.declared.holders.KeyAt.{KeyAt}
use Rattle.column_watch.proofs.HolderLemmas.{keys_of}
use Rattle.column_watch.proofs.IndexLemmas.{Merges, behind_first, joined, merges_end, merges_equal, merges_first, merges_next}
use Rattle.column_watch.proofs.holders.merge_rest.Goals as goal
use Rattle.column_watch.proofs.holders.merge_rest.Goals.{then-is_eq, else-is_eq+in_ok-push}

pub loop-at-init : goal.loop-at-init
loop-at-init c =
    let queries = keys_of c.args.queries.now in
    let keys = c.args.first ∷ c.args.rest.now in
    subst (λ (done : List KeyAt). Merges queries keys 0 done c.args.first) (sym c.new-index.ensures.items) (merges_first queries keys c.requires.whole c.requires.sorted c.args.first c.args.rest.now refl)

pub loop-at-preserved : goal.loop-at-preserved
loop-at-preserved c =
    let queries = keys_of c.args.queries.now in
    let rest = c.args.rest.now in
    let keys = c.args.first ∷ rest in
    let i = c.loop-at.at-index in
    let done = c.loop-at.index.items in
    let last = c.loop-at.last in
    let at = get_or rest i (key_with 0 0 0 0) in
    let within : i < length rest = omega arith in
    let inside : i + 1 < length keys = omega (arith, within) in
    let is = behind_first c.args.first rest i (key_with 0 0 0 0) within in
    elim c.if-is_eq.branch [
      | then-is_eq w ↦
          subst (λ (next : KeyAt). Merges queries keys (i + 1) c.if-is_eq.index.items next) (sym w.last-is)
          (subst (λ (v : Vec KeyAt). Merges queries keys (i + 1) v.items (joined last at.holders)) (sym w.index-is)
          (merges_equal queries keys c.requires.whole c.requires.sorted i done last at c.loop-at.invariant inside is c.key_order.result c.key_order.ensures (sym c.is_eq.ensures ∙ w.if-is_eq.true)))
      | else-is_eq+in_ok-push w ↦
          subst (λ (next : KeyAt). Merges queries keys (i + 1) c.if-is_eq.index.items next) (sym w.last-is)
          (merges_next queries keys c.requires.whole c.requires.sorted i done last at c.loop-at.invariant inside is c.key_order.result c.key_order.ensures (sym c.is_eq.ensures ∙ w.if-is_eq.false) c.if-is_eq.index.items
          (ap (λ (v : Vec KeyAt). v.items) w.index-is ∙ w.in_ok-push.ensures.items))
    ]

pub returns-clause-index : goal.returns-clause-index
returns-clause-index c =
    let rest = c.args.rest.now in
    let all : c.loop-at.at-index + 1 ≡ length (c.args.first ∷ rest) = omega arith in
    merges_end (keys_of c.args.queries.now) (c.args.first ∷ rest) c.requires.whole c.requires.sorted c.loop-at.at-index c.loop-at.index.items c.push-2.new.self.items c.loop-at.last c.loop-at.invariant all c.in_ok-push-2.ensures.items
