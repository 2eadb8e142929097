use Rattle.std.proofs.Common.{◌≡◌, ◌∙◌, [], ap, sym, subst, ◌∷◌, ℕ, arith}
use Rattle.std.proofs.lemmas.Bool.Decides.{nat_tests}
use Rattle.std.specs.List.Sorted.{IsPermutation}
use Rattle.josie_search.specs.declared.candidates.Candidate.{Candidate}
use Rattle.part_columns.specs.declared.tally.Tally.{Tally}
use Rattle.josie_search.specs.Candidates.{all_of, candidate_of}
use Rattle.part_columns.specs.Tallies.{tally_at}
use Rattle.josie_search.proofs.HeldLemmas.{covers_pushed, held_from, held_mended, not_fallen, weight_mended, weight_popped}
use Rattle.josie_search.proofs.first.mend.Goals as goal

pub returns-then-has_fallen-clause-held : goal.returns-then-has_fallen-clause-held
returns-then-has_fallen-clause-held c = λ query part ranks n apart within is none held.
    let columns = c.args.columns.now in
    let own : c.candidate_of.result ≡ candidate_of c.args.left (tally_at columns.tallies c.in-Some.column) c.args.top.rank = c.candidate_of.ensures ∙ ap (λ (t : Tally). candidate_of c.args.left t c.args.top.rank) c.tally.ensures in
    let pushed = subst (λ (d : Candidate). IsPermutation (d ∷ all_of c.pop.new.self) (all_of c.push.new.self)) own c.push.ensures.all in
    held_from query part ranks columns.tallies columns.known c.args.left c.args.candidates.now.low c.push.new.self.low [] (all_of c.push.new.self) (omega (arith, c.push.ensures.low, c.pop.ensures.low))
    (held_mended query part ranks columns.tallies columns.known c.args.left c.args.candidates.now.low n c.args.top c.args.column (all_of c.args.candidates.now) (all_of c.pop.new.self) apart within is none c.requires.top.ahead c.pop.ensures.all held (all_of c.push.new.self)
    (λ x e goes less. (let f = c.in-Some.is in let same : c.in-Some.column ≡ x = cc in subst (λ (z : ℕ). IsPermutation (candidate_of c.args.left (tally_at columns.tallies z) c.args.top.rank ∷ all_of c.pop.new.self) (all_of c.push.new.self)) same pushed))
    (λ left rank tally e. covers_pushed left rank tally c.candidate_of.result (all_of c.pop.new.self) (all_of c.push.new.self) c.push.ensures.all e))

pub returns-then-has_fallen-clause-weight : goal.returns-then-has_fallen-clause-weight
returns-then-has_fallen-clause-weight c =
    let columns = c.args.columns.now in
    let own : c.candidate_of.result ≡ candidate_of c.args.left (tally_at columns.tallies c.in-Some.column) c.args.top.rank = c.candidate_of.ensures ∙ ap (λ (t : Tally). candidate_of c.args.left t c.args.top.rank) c.tally.ensures in
    let pushed = subst (λ (d : Candidate). IsPermutation (d ∷ all_of c.pop.new.self) (all_of c.push.new.self)) own c.push.ensures.all in
    let test = sym c.has_fallen.ensures ∙ c.if-has_fallen.true in
    weight_mended c.args.left c.args.top.rank (tally_at columns.tallies c.in-Some.column) c.args.top (all_of c.args.candidates.now) (all_of c.pop.new.self) (all_of c.push.new.self) c.pop.ensures.all pushed (let t = test in grind (arith, nat_tests))

pub returns-else-has_fallen-clause-held : goal.returns-else-has_fallen-clause-held
returns-else-has_fallen-clause-held c = λ query part ranks n apart within is none held.
    let columns = c.args.columns.now in
    let test = sym c.has_fallen.ensures ∙ c.if-has_fallen.false in
    held_from query part ranks columns.tallies columns.known c.args.left c.args.candidates.now.low c.pop.new.self.low [] (all_of c.pop.new.self) (omega (arith, c.pop.ensures.low))
    (held_mended query part ranks columns.tallies columns.known c.args.left c.args.candidates.now.low n c.args.top c.args.column (all_of c.args.candidates.now) (all_of c.pop.new.self) apart within is none c.requires.top.ahead c.pop.ensures.all held (all_of c.pop.new.self)
    (λ x e goes less. (let f = c.in-Some.is in let same : x ≡ c.in-Some.column = cc in absurd (not_fallen columns.known columns.tallies c.args.left c.args.candidates.now.low c.low.result x c.in-Some.column c.args.top same (c.low.ensures ∙ c.pop.ensures.low) test goes less)))
    (λ left rank tally e. e))

pub returns-else-has_fallen-clause-weight : goal.returns-else-has_fallen-clause-weight
returns-else-has_fallen-clause-weight c = weight_popped c.args.left c.args.top (all_of c.args.candidates.now) (all_of c.pop.new.self) c.pop.ensures.all

pub returns-in_default-clause-held : goal.returns-in_default-clause-held
returns-in_default-clause-held c = λ query part ranks n apart within is none held.
    let columns = c.args.columns.now in
    held_from query part ranks columns.tallies columns.known c.args.left c.args.candidates.now.low c.pop.new.self.low [] (all_of c.pop.new.self) (omega (arith, c.pop.ensures.low))
    (held_mended query part ranks columns.tallies columns.known c.args.left c.args.candidates.now.low n c.args.top c.args.column (all_of c.args.candidates.now) (all_of c.pop.new.self) apart within is none c.requires.top.ahead c.pop.ensures.all held (all_of c.pop.new.self)
    (λ x e goes less. absurd (c.in_default.not-Some x e))
    (λ left rank tally e. e))

pub returns-in_default-clause-weight : goal.returns-in_default-clause-weight
returns-in_default-clause-weight c = weight_popped c.args.left c.args.top (all_of c.args.candidates.now) (all_of c.pop.new.self) c.pop.ensures.all
