use Rattle.std.proofs.Common.{◌≡◌, ◌∙◌, sym, ap, subst, ℕ, ◌<◌, List, length, take, arith}
use Rattle.std.proofs.Math.Seq.{take-length}
use Rattle.std.proofs.lemmas.List.{get_or_default}
use Rattle.std.specs.Prelude.{sum_by}
use Rattle.lake_model.specs.Tables.{Table, members}
use Rattle.search_model.specs.Arrays.{no_table, table_at}
use Rattle.segment_core.specs.Hashes.{all_keyed, AreKeyedTokens}
use Rattle.segment_build.specs.Holding.{IsStretch}
use Rattle.segment_build.proofs.HashingLemmas.{all_met}
use Rattle.segment_build.proofs.HoldLemmas.{count_columns_of}
use Rattle.segment_build.proofs.StretchLemmas.{table_stretch}
use Rattle.token_order.specs.Places.{keys_in, keys_of}
use Rattle.token_order.proofs.PlaceLemmas.{length-keys_of}
use Rattle.segment_build.proofs.hashing.hashed_tokens.Goals as goal

pub hash_table-requires-clause-stretch : goal.hash_table-requires-clause-stretch
hash_table-requires-clause-stretch c =
    let tables = c.args.tables.now in
    let i = c.loop-table.table-index in
    let now = c.loop-table.next in
    let within : i < length tables = c.loop-table-test.true in
    let here : IsStretch (keys_of tables) (keys_in (table_at tables i)) now = table_stretch tables i now within (c.loop-table.invariant.next ∙ sym (count_columns_of (take i tables))) in
    let table : c.table.result.now ≡ table_at tables i = c.table.ensures ∙ c.table-item.is ∙ get_or_default tables i c.table-item.result no_table within in
    subst (λ (ts : List Table). IsStretch (keys_of ts) (keys_in c.table.result.now) now) (sym c.requires.vocab) (subst (λ (t : Table). IsStretch (keys_of tables) (keys_in t) now) (sym table) here)

pub returns-clause-tokens : goal.returns-clause-tokens
returns-clause-tokens c =
    let tables = c.args.tables.now in
    let is = c.requires.vocab in
    let end : c.loop-table.table-index ≡ length tables = omega (arith, c.loop-table-test.false, c.loop-table.auto.table-index-end) in
    let all : c.loop-table.next ≡ length (keys_of c.args.vocab.now) =
    c.loop-table.invariant.next ∙ ap (λ (n : ℕ). sum_by members (take n tables)) end ∙ ap (sum_by members) (take-length tables) ∙ sym (length-keys_of tables) ∙ ap (λ (ts : List Table). length (keys_of ts)) (sym is) in
    subst (λ (ts : List Table). AreKeyedTokens ts (all_keyed c.loop-table.hashed.keys c.loop-table.hashed.entries.items)) is
    (all_met c.args.vocab.now c.loop-table.hashed.keys c.loop-table.hashed.entries.items c.loop-table.next all c.loop-table.invariant.hashed)

pub returns-clause-few : goal.returns-clause-few
returns-clause-few c = omega (arith, c.loop-table.invariant.hashed.long, c.in_ok-hashed.ensures.hashed.long, c.in_ok-hashed.ensures.few)
