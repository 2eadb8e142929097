use Rattle.std.proofs.Common.{◌≡◌, ◌∙◌, sym, ap, subst, ℕ, ◌-◌, ◌<◌, ◌++◌, ◌&&◌, not, true, Option, List, length, map, get_or, arith, ltb as nat_lt}
use Rattle.std.specs.Prelude.{IfSome}
use Rattle.std.proofs.lemmas.Bool.Decides.{nat_tests}
use Rattle.std.proofs.lemmas.List.{get_or-map}
use Rattle.search_model.specs.Looks.{known_rows, left_of, searched}
use Rattle.segment_core.proofs.SegmentLemmas.{length-sets}
use Rattle.segment_core.specs.Versions.{part_at, segment_at, tables_of}
use Rattle.josie_search.specs.Rows.{bound_row, leads, MayLead}
use Rattle.josie_search.proofs.NextLemmas.{last_is}
use Rattle.part_columns.proofs.SegmentLists.{token_within}
use Rattle.part_columns.specs.Tallies.{most_of, tally_at}
use Rattle.josie_search.proofs.SureLemmas.{none_last, surely_read}
use Rattle.josie_search.proofs.sure.surely_reads.Goals as goal

pub length_of-requires-clause-token : goal.length_of-requires-clause-token
length_of-requires-clause-token g c =
    let tokens = (segment_at c.args.looks.now.version.parts c.args.part).tokens in
    let within = token_within tokens c.args.query.now.keys c.args.read 0 (omega (arith, c.requires.read, ap (λ (ts : List ℕ). length ts) c.requires.tokens)) in
    omega (arith, within, ap (λ (ts : List ℕ). get_or ts c.args.read 0) c.requires.tokens)

pub tally-tally-requires : goal.tally-tally-requires
tally-tally-requires g c =
    let whole = part_at c.args.looks.now.version.parts c.args.part in
    let may = subst (λ (o : Option ℕ). IfSome o (MayLead c.args.query.now (searched c.args.query.now whole))) c.in-Some.is c.requires.witness in
    omega (arith, may.within, length-sets (tables_of whole), c.requires.wide)

pub returns-in-Some-reads_beyond : goal.returns-in-Some-reads_beyond
returns-in-Some-reads_beyond g c = λ before progress is at same told.
    let query = c.args.query.now in
    let whole = part_at c.args.looks.now.version.parts c.args.part in
    let part = searched query whole in
    let w = c.in-Some.column in
    let known = before ++ known_rows query part progress in
    let none = sym (last_is query known c.args.top.now.rows c.args.top.now.k c.requires.some c.requires.k same) ∙ none_last c.args.top.now.rows c.args.top.now.k (omega (arith, c.requires.some, c.requires.k)) (sym c.full.ensures ∙ c.if-full.false) in
    let left : length c.args.tokens.now - c.args.read ≡ left_of part progress = (λ i. length (c.requires.tokens i) - sym at i) in
    let may = subst (λ (o : Option ℕ). IfSome o (MayLead query part)) c.in-Some.is c.requires.witness in
    let some : nat_lt 0 (tally_at c.args.columns.now.tallies w).count ≡ true = (let t = c.tally-tally.ensures in let u = c.if-tally-eq0.false in grind (arith, nat_tests)) in
    let led : leads query part c.args.columns.now.tallies c.args.columns.now.known w ≡ true = λ i. may.eligible i && not ((sym c.is_known.ensures ∙ c.if-is_known.false) i) && some i in
    let overlap : c.most_of.result ≡ (bound_row part c.args.columns.now.tallies (left_of part progress) w).overlap = c.most_of.ensures ∙ (λ i. most_of (left i) (c.tally-tally.ensures i)) in
    let unread : progress.read < length part.query = is.unread in
    let frequency = λ (token : ℕ). get_or (map (λ t. t.frequency) part.segment.tokens) token 0 in
    let next = c.length_of.ensures ∙ (λ i. frequency (get_or (c.requires.tokens i) (sym at i) 0)) ∙ sym (get_or-map frequency part.query progress.read 0 0 unread) in
    let less : c.in-Some-reads_beyond.rest < c.from.result = (let t = told in grind (arith, nat_tests)) in
    surely_read (g.C.Chooser.says c.args.chooser.now) query before part progress c.args.columns.now.tallies c.args.columns.now.known is w c.args.most c.in-Some-reads_beyond.rest (λ x counted. omega (arith, c.requires.seen x counted, length-sets (tables_of whole))) none
    may.within led c.requires.most
    (omega (arith, less, c.from.ensures, c.saturating_sub.ensures, overlap))
    (λ s len gain long. c.in-Some-reads_beyond.ensures s (len ∙ sym next) gain long)
