use Rattle.std.proofs.Common.{◌≡◌, ◌<◌, ◌∙◌, ◌++◌, ◌∷◌, [], List, ap, sym, subst, arith, length}
use Rattle.std.proofs.lemmas.List.{length-map}
use Rattle.lake_model.specs.Journal.{Entry}
use Rattle.column_watch.specs.Watching.{WatchesOf}
use Rattle.column_watch.specs.Held.{IsKept, StateOf, watch_of}
use Rattle.column_watch.proofs.StateLemmas.{kept_more}
use Rattle.column_watch.proofs.watches.Watches.add.Goals as goal

pub invariant_of-self-2 : goal.invariant_of-self-2
invariant_of-self-2 c =
    let held = c.self.inside.holders in
    let states = c.self.inside.queries.items in
    let none : c.self.inside.journal.items ≡ [] = ap (λ (v : WatchesOf). v.journal) c.self.view_is ∙ c.requires.empty in
    let kept : IsKept [] states held = subst (λ (journal : List Entry). IsKept journal states held) none c.self.invariant in
    let few : length states < 16 = omega (arith, c.requires.few, ap (λ (v : WatchesOf). length v.queries) c.self.view_is, length-map states watch_of) in
    let more = kept_more states held c.args.query c.args.k kept few c.keys_differ.ensures in
    let after = c.in_ok-push.ensures.items ∙ ap (λ (state : StateOf). states ++ state ∷ []) c.new.ensures in
    subst (λ (journal : List Entry). IsKept journal c.push.new.self.items held) (sym none) (subst (λ (us : List StateOf). IsKept [] us held) (sym after) more)
