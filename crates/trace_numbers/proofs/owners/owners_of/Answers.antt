use Rattle.std.proofs.Common.{◌≡◌, ap, sym, ◌∙◌, subst, List, ℕ, length, map}
use Rattle.trace_hints.specs.Told.{hint_as}
use Rattle.trace_numbers.specs.Positions.{AreOwners, accepted_of}
use Rattle.trace_numbers.proofs.SlotLemmas.{end_here, lent_back, owners_here}
use Rattle.trace_numbers.proofs.owners.owners_of.Goals as goal

pub returns-then-not-are_taken-clause-tests : goal.returns-then-not-are_taken-clause-tests
returns-then-not-are_taken-clause-tests c =
    let owners = c.put_all.new.owners in
    let size : length owners ≡ c.in_ok-indices.indices.len = c.put_all.auto.owners ∙ ap (λ (xs : List ℕ). length xs) c.deref_mut.ensures.value ∙ sym c.in_ok-indices.indices.ok.0 in
    let long : length owners ≡ accepted_of (map hint_as c.args.hints.now) = size ∙ c.in_ok-indices.ensures.len ∙ c.count_accepted.ensures.value in
    end_here c.args.hints.now owners c.deref.result.now _ (c.put_all.ensures.put c.if-not-put_all.false) long (c.deref.ensures.value ∙ lent_back owners c.in_ok-indices.indices.items _ size) (sym c.if-not-are_taken.true ∙ c.are_taken.ensures)

pub returns-clause-tests : goal.returns-clause-tests
returns-clause-tests c =
    let owners = c.put_all.new.owners in
    let size : length owners ≡ c.in_ok-indices.indices.len = c.put_all.auto.owners ∙ ap (λ (xs : List ℕ). length xs) c.deref_mut.ensures.value ∙ sym c.in_ok-indices.indices.ok.0 in
    let long : length owners ≡ accepted_of (map hint_as c.args.hints.now) = size ∙ c.in_ok-indices.ensures.len ∙ c.count_accepted.ensures.value in
    end_here c.args.hints.now owners c.deref.result.now _ (c.put_all.ensures.put c.if-not-put_all.false) long (c.deref.ensures.value ∙ lent_back owners c.in_ok-indices.indices.items _ size) (sym c.if-not-are_taken.false ∙ c.are_taken.ensures)

pub returns-clause-owners : goal.returns-clause-owners
returns-clause-owners c =
    let owners = c.put_all.new.owners in
    let size : length owners ≡ c.in_ok-indices.indices.len = c.put_all.auto.owners ∙ ap (λ (xs : List ℕ). length xs) c.deref_mut.ensures.value ∙ sym c.in_ok-indices.indices.ok.0 in
    let long : length owners ≡ accepted_of (map hint_as c.args.hints.now) = size ∙ c.in_ok-indices.ensures.len ∙ c.count_accepted.ensures.value in
    let back = lent_back owners c.in_ok-indices.indices.items c.in_ok-indices.indices.len size in
    subst (AreOwners (map hint_as c.args.hints.now)) (sym back)
    (owners_here c.args.hints.now owners c.deref.result.now (c.put_all.ensures.put c.if-not-put_all.false) long (c.deref.ensures.value ∙ back) (sym c.if-not-are_taken.false ∙ c.are_taken.ensures))
