use Rattle.std.proofs.Common.{◌∙◌, ap, sym, subst, List, Option}
use Rattle.std.specs.Prelude.{IfSome}
use Rattle.lake_model.specs.Texts.{Text}
use Rattle.lake_model.specs.Tables.{has_key}
use Rattle.hash_directory.specs.Buckets.{AreIn, FilterOf, may_have}
use Rattle.segment_core.proofs.AskedLemmas.{not_asked}
use Rattle.segment_core.proofs.hashed.HashedQuery.may_have.Goals as goal

pub returns-in-Some : goal.returns-in-Some
returns-in-Some c key own out =
    let filter = c.in-Some.filter in
    let held : AreIn filter c.self.inside.hashes.items = subst (λ (f : Option FilterOf). IfSome f (λ filter. AreIn filter c.self.inside.hashes.items)) c.in-Some.is c.self.invariant.1 in
    let all = subst (AreIn filter) c.self.invariant.0 held in
    let denied = ap (may_have filter) (sym own) ∙ sym c.may_have.ensures ∙ out in
    ap (λ (keys : List Text). has_key keys key) (sym c.self.view_is) ∙ not_asked filter c.self.inside.query.now key all denied
