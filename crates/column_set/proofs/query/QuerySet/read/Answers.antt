use Rattle.std.proofs.Common.{◌∙◌, arith, subst, sym}
use Rattle.std.specs.Prelude.{bytes_eq}
use Rattle.std.specs.List.{IsDistinct, filter_map}
use Rattle.lake_model.specs.Keys.{key}
use Rattle.lake_model.specs.Texts.{all_lines}
use Rattle.lake_model.proofs.DistinctLemmas.{distinct_differ}
use Rattle.column_set.proofs.query.QuerySet.read.Goals as goal

pub invariant_of-result : goal.invariant_of-result
invariant_of-result c =
    let read = c.in_ok-keys.ensures.keys ∙ c.in_ok-lists.ensures.keys in (
      record {
        small = omega (arith, c.len.ensures.value, c.if-len-gt-MOST_KEYS.false);
        different = subst (IsDistinct bytes_eq) (sym read) (distinct_differ (filter_map (key c.args.keys) (all_lines c.args.body.now)));
      },
      c.in_ok-keys.ensures.index,
    )
