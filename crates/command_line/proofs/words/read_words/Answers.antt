use Rattle.std.proofs.Common.{◌≡◌, ◌⊎◌, ◌-◌, ◌∙◌, ap, drop, length, map, string_bytes, subst, sym, take, Global, IfErr, IfOk, None, Option, Some, option_map}
use Rattle.clap.proofs.TakesLemmas.{passed_up}
use Rattle.option_model.specs.Plain.{Mode, Run}
use Rattle.command_line.specs.Words.{check_words, make_words, mode_of, mode_read, run_words, watch_words}
use Rattle.command_line.specs.declared.words.WordsRefused.TheVariants as refused
use Rattle.command_line.proofs.ModeLemmas.{check_named, make_named, no_mode, no_ok, parted, plain_by, plain_is_read, run_named, run_refused, watch_named}
use Rattle.command_line.proofs.words.read_words.Goals as goal

pub returns-in_ok-run_options-in-run-clause-read : goal.returns-in_ok-run_options-in-run-clause-read
returns-in_ok-run_options-in-run-clause-read c =
    run_named _ _ _ (parted (string_bytes {Z = Global}) c.args.words.now c.mode-item.result c.in-len1-up.len_at_least c.mode-item.is) (sym c.as_str.ensures.value ∙ c.in-run.is)
    ∙ ap (option_map Run) c.in_ok-run_options-in-run.ensures.read

pub returns-in_ok-run_options-in-run-clause-plain : goal.returns-in_ok-run_options-in-run-clause-plain
returns-in_ok-run_options-in-run-clause-plain c =
    let texts = map (string_bytes {Z = Global}) c.args.words.now in
    let read : mode_read texts ≡ Some (Run c.in_ok-run_options-in-run.field-0) =
    run_named _ _ _ (parted (string_bytes {Z = Global}) c.args.words.now c.mode-item.result c.in-len1-up.len_at_least c.mode-item.is) (sym c.as_str.ensures.value ∙ c.in-run.is)
    ∙ ap (option_map Run) c.in_ok-run_options-in-run.ensures.read in
    λ mode plain. let same : Some (Run c.in_ok-run_options-in-run.field-0) ≡ Some mode = sym read ∙ plain_is_read texts mode plain in cc same

pub returns-in_err-run_options-in-run-clause-refused : goal.returns-in_err-run_options-in-run-clause-refused
returns-in_err-run_options-in-run-clause-refused c =
    let texts = map (string_bytes {Z = Global}) c.args.words.now in
    let rest = map (string_bytes {Z = Global}) (take (length c.args.words.now - 1) (drop 1 c.args.words.now)) in
    let same : mode_read texts ≡ option_map Run (run_words rest) =
    run_named _ _ _ (parted (string_bytes {Z = Global}) c.args.words.now c.mode-item.result c.in-len1-up.len_at_least c.mode-item.is) (sym c.as_str.ensures.value ∙ c.in-run.is) in
    passed_up c.from_residual.result c.in_err-run_options-in-run.field-0.0 (λ e. (e ≡ refused.NoMemory) ⊎ (mode_read texts ≡ None)) c.from_residual.ensures.1
    (run_refused c.in_err-run_options-in-run.field-0.0 (run_words rest) (mode_read texts) same c.in_err-run_options-in-run.ensures.refused)

pub returns-in_err-run_options-in-run-clause-plain : goal.returns-in_err-run_options-in-run-clause-plain
returns-in_err-run_options-in-run-clause-plain c =
    let texts = map (string_bytes {Z = Global}) c.args.words.now in
    let rest = map (string_bytes {Z = Global}) (take (length c.args.words.now - 1) (drop 1 c.args.words.now)) in
    let same : mode_read texts ≡ option_map Run (run_words rest) =
    run_named _ _ _ (parted (string_bytes {Z = Global}) c.args.words.now c.mode-item.result c.in-len1-up.len_at_least c.mode-item.is) (sym c.as_str.ensures.value ∙ c.in-run.is) in
    plain_by texts c.from_residual.result (no_ok c.from_residual.result _ c.from_residual.ensures.0)
    (passed_up c.from_residual.result c.in_err-run_options-in-run.field-0.0 (λ e. (e ≡ refused.NoMemory) ⊎ (mode_read texts ≡ None)) c.from_residual.ensures.1
    (run_refused c.in_err-run_options-in-run.field-0.0 (run_words rest) (mode_read texts) same c.in_err-run_options-in-run.ensures.refused))

pub returns-in-make-clause-plain : goal.returns-in-make-clause-plain
returns-in-make-clause-plain c =
    let texts = map (string_bytes {Z = Global}) c.args.words.now in
    let rest = map (string_bytes {Z = Global}) (take (length c.args.words.now - 1) (drop 1 c.args.words.now)) in
    let same : make_words rest ≡ mode_read texts =
    sym (make_named _ _ _ (parted (string_bytes {Z = Global}) c.args.words.now c.mode-item.result c.in-len1-up.len_at_least c.mode-item.is) (sym c.as_str.ensures.value ∙ c.in-make.is)) in
    plain_by texts c.make_mode.result
    (subst (λ (o : Option Mode). IfOk c.make_mode.result (λ given. o ≡ Some (mode_of given))) same c.make_mode.ensures.read)
    (subst (λ (o : Option Mode). IfErr c.make_mode.result (λ e. (e ≡ refused.NoMemory) ⊎ (o ≡ None))) same c.make_mode.ensures.refused)

pub returns-in-watch-clause-plain : goal.returns-in-watch-clause-plain
returns-in-watch-clause-plain c =
    let texts = map (string_bytes {Z = Global}) c.args.words.now in
    let rest = map (string_bytes {Z = Global}) (take (length c.args.words.now - 1) (drop 1 c.args.words.now)) in
    let same : watch_words rest ≡ mode_read texts =
    sym (watch_named _ _ _ (parted (string_bytes {Z = Global}) c.args.words.now c.mode-item.result c.in-len1-up.len_at_least c.mode-item.is) (sym c.as_str.ensures.value ∙ c.in-watch.is)) in
    plain_by texts c.watch_mode.result
    (subst (λ (o : Option Mode). IfOk c.watch_mode.result (λ given. o ≡ Some (mode_of given))) same c.watch_mode.ensures.read)
    (subst (λ (o : Option Mode). IfErr c.watch_mode.result (λ e. (e ≡ refused.NoMemory) ⊎ (o ≡ None))) same c.watch_mode.ensures.refused)

pub returns-in-check-clause-plain : goal.returns-in-check-clause-plain
returns-in-check-clause-plain c =
    let texts = map (string_bytes {Z = Global}) c.args.words.now in
    let rest = map (string_bytes {Z = Global}) (take (length c.args.words.now - 1) (drop 1 c.args.words.now)) in
    let same : check_words rest ≡ mode_read texts =
    sym (check_named _ _ _ (parted (string_bytes {Z = Global}) c.args.words.now c.mode-item.result c.in-len1-up.len_at_least c.mode-item.is) (sym c.as_str.ensures.value ∙ c.in-check.is)) in
    plain_by texts c.check_mode.result
    (subst (λ (o : Option Mode). IfOk c.check_mode.result (λ given. o ≡ Some (mode_of given))) same c.check_mode.ensures.read)
    (subst (λ (o : Option Mode). IfErr c.check_mode.result (λ e. (e ≡ refused.NoMemory) ⊎ (o ≡ None))) same c.check_mode.ensures.refused)

pub returns-in_default-as_str-clause-plain : goal.returns-in_default-as_str-clause-plain
returns-in_default-as_str-clause-plain c =
    let texts = map (string_bytes {Z = Global}) c.args.words.now in
    let none = no_mode _ _ _ (parted (string_bytes {Z = Global}) c.args.words.now c.mode-item.result c.in-len1-up.len_at_least c.mode-item.is)
    (λ same. c.in_default-as_str.not-run (c.as_str.ensures.value ∙ same)) (λ same. c.in_default-as_str.not-make (c.as_str.ensures.value ∙ same))
    (λ same. c.in_default-as_str.not-watch (c.as_str.ensures.value ∙ same)) (λ same. c.in_default-as_str.not-check (c.as_str.ensures.value ∙ same)) in
    λ mode plain. let bad : None ≡ Some mode = sym none ∙ plain in cc bad
