use Rattle.std.proofs.Common.{◌≡◌, ap, sym, ◌∙◌, length, ◌==◌}
use Rattle.lake_model.specs.Keys.{key}
use Rattle.std.proofs.lemmas.Bool.{false≢true}
use Rattle.value_key.proofs.AsciiLemmas.{IsAscii-trim}
use Rattle.value_key.proofs.SameKeyLemmas.{keyed, same_keys}
use Rattle.value_key.proofs.same_value.Goals as goal

pub returns-clause-keys : goal.returns-clause-keys
returns-clause-keys c =
    let same = same_keys c.args.keys c.trim-left.result.now c.trim-right.result.now c.trim-left.utf8 c.trim-right.utf8 in
    let left : keyed c.args.keys (length c.trim-left.result.now == 0) c.trim-left.result.now ≡ key c.args.keys c.args.a.now = ap (λ t. keyed c.args.keys (length t == 0) t) c.trim-left.ensures.trim in
    let right : keyed c.args.keys (length c.trim-right.result.now == 0) c.trim-right.result.now ≡ key c.args.keys c.args.b.now = ap (λ t. keyed c.args.keys (length t == 0) t) c.trim-right.ensures.trim in
    let match = c.in_ok-is_match.ensures.value in
    (λ h. sym left ∙ same.1 (match.0 h) ∙ right, λ e. match.1 (same.0 (left ∙ e ∙ sym right)))

pub returns-in_err-is_match-clause-ascii : goal.returns-in_err-is_match-clause-ascii
returns-in_err-is_match-clause-ascii c = λ left right.
    absurd (false≢true (c.in_err-is_match.ensures.ascii
    (IsAscii-trim c.args.a.now c.trim-left.result.now left c.trim-left.ensures.value)
    (IsAscii-trim c.args.b.now c.trim-right.result.now right c.trim-right.ensures.value)))
