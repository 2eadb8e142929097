use Rattle.std.proofs.Common.{◌≡◌, ◌∙◌, ap, sym, subst, [], Option}
use Rattle.std.specs.Option.{MatchOption}
use Rattle.josie_search.specs.declared.candidates.Candidate.{Candidate}
use Rattle.josie_search.specs.Candidates.{all_of, CandidatesOf, IsFirstIn, IsTop}
use Rattle.josie_search.proofs.HeapLemmas.{top_of}
use Rattle.josie_search.proofs.candidates.Candidates.top.Goals as goal

pub returns : goal.returns
returns c =
    let now = c.args.self.now in
    subst (λ (t : Option Candidate). MatchOption t (all_of now ≡ []) (IsTop c.args.left now)) (sym c.better.ensures)
    (top_of c.args.left now c.first-sized.result c.first-asked.result
    (subst (λ (v : CandidatesOf). MatchOption c.first-sized.result (v.sized ≡ []) (IsFirstIn Rattle.std.proofs.Common.false v.sized)) c.self.view_is c.first-sized.ensures)
    (subst (λ (v : CandidatesOf). MatchOption c.first-asked.result (v.asked ≡ []) (IsFirstIn Rattle.std.proofs.Common.true v.asked)) c.self.view_is c.first-asked.ensures))
