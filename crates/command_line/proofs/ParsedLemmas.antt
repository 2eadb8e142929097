-- A number that clap has read is in the range of its argument.
use Rattle.std.proofs.Common.{◌≡◌, ◌∙◌, ◌≤◌, ◌<◌, ◌^◌, ◌&&◌, refl, ap, sym, subst, inl, inr, ℕ, zero, suc, List, [], ◌∷◌, map, length, Bool, true, not, codes, Option, Some, None, option_map, arith, true≢false}
use Rattle.std.specs.Prelude.{⊤, bytes_eq, option_and_then, slice_get}
use Rattle.std.specs.Borrow.{Bor}
use Rattle.std.specs.List.{All, list_all, slice_index_or}
use Rattle.std.specs.Str.Parse.{ParsesUnsigned}
use Rattle.std.proofs.lemmas.Bool.{and_parts}
use Rattle.std.proofs.lemmas.Slice.Eq.{bytes_eq-Decides}
use Rattle.clap.specs.Built.{IsAuto, IsParsedFrom}
use Rattle.clap.specs.Facts.{Entry, EntryPasses, HasReading, PassesArg, ValuesPass, args_of, groups_of, parser_of, parser_of_value}
use Rattle.clap.specs.Lexer.{without_minus}
use Rattle.clap.specs.Matches.{found_of, matched_of, one_text}
use Rattle.clap.specs.Simple.{App, app_of, has_simple_rules, shape_of}
use Rattle.clap.specs.Values.{Accepts, read_as, reading_of}
use Rattle.clap.specs.Walk.{Rule, Text, one_of, rows_of, rule_of}
use Rattle.clap.specs.declared.builder.arg.Arg.{Arg}
use Rattle.clap.specs.declared.builder.command.Command.{Command}
use Rattle.clap.specs.declared.builder.value_parser.Reading.{Reading}
use Rattle.clap.specs.declared.builder.value_parser.ValueParser.{ValueParser}
use Rattle.clap.specs.declared.parser.matches.ArgMatches.{ArgMatches}
use Rattle.clap.specs.declared.parser.matches.MatchedArg.{MatchedArg}
use Rattle.clap.proofs.CallerLemmas.{entry_by_id, same_rules_by_id}
use Rattle.clap.proofs.CallerReads.{signed_reads}
use Rattle.clap.proofs.SimpleLemmas.{plain_fields, simple_groups}
use Rattle.clap.proofs.WalkLemmas.{one_text-rows}
use Rattle.command_line.specs.Words.{between, number_held, number_read}
use Rattle.command_line.proofs.ModeLemmas.{number_gives}

-- ---- the place of an argument, by the rules

-- only the rule at this place has the name
abbrev pub stands_alone : Text → List Rule → ℕ → Bool
stands_alone id [] place = true
stands_alone id (rule ∷ rules) zero = list_all (λ other. not (bytes_eq other.id id)) rules
stands_alone id (rule ∷ rules) (suc place) = not (bytes_eq rule.id id) && stands_alone id rules place

no_other : (id : Text) (args : List Arg) → list_all (λ other. not (bytes_eq other.id id)) (map rule_of args) ≡ true → (j : ℕ) (e : Arg) → j < length args
    → bytes_eq (slice_index_or args j e).id.now id ≡ true → ⊥
no_other id [] all j e lt same = omega (arith, lt)
no_other id (arg ∷ args) all zero e lt same =
    let first = (and_parts (not (bytes_eq arg.id.now id)) _ all).0 in
    true≢false (sym (sym (ap not same) ∙ first))
no_other id (arg ∷ args) all (suc j) e lt same = no_other id args (and_parts (not (bytes_eq arg.id.now id)) _ all).1 j e (omega (arith, lt)) same

only_there : (id : Text) (args : List Arg) (place : ℕ) → stands_alone id (map rule_of args) place ≡ true → (j : ℕ) (e : Arg) → j < length args
    → bytes_eq (slice_index_or args j e).id.now id ≡ true → j ≡ place
only_there id [] place alone j e lt same = absurd (omega (arith, lt))
only_there id (arg ∷ args) zero alone zero e lt same = refl
only_there id (arg ∷ args) zero alone (suc j) e lt same = absurd (no_other id args alone j e (omega (arith, lt)) same)
only_there id (arg ∷ args) (suc place) alone zero e lt same =
    let first = (and_parts (not (bytes_eq arg.id.now id)) _ alone).0 in
    absurd (true≢false (sym (sym (ap not same) ∙ first)))
only_there id (arg ∷ args) (suc place) alone (suc j) e lt same =
    let below = only_there id args place (and_parts (not (bytes_eq arg.id.now id)) _ alone).1 j e (omega (arith, lt)) same in
    omega (arith, below)

-- ---- what a parse read

first_of_all : {X : Type 0} (P : X → Type 0) (xs : List X) (x : X) → All P xs → slice_get xs 0 ≡ Some x → P x
first_of_all P [] x all e = cc e
first_of_all P (y ∷ ys) x all e = subst P (let same : y ≡ x = cc e in same) (all 0 y (omega arith))

module _ (cmd : Command) (m : ArgMatches) (p : IsParsedFrom cmd m) (simple : has_simple_rules (shape_of cmd) ≡ true) where
  all_pass : ValuesPass p.built (found_of m)
  all_pass =
      let plain = plain_fields cmd (and_parts (shape_of cmd).is_plain _ simple).0 in
      (p.parsed (p.from.globals ∙ plain.globals)).values

  no_groups : groups_of p.built ≡ []
  no_groups =
      let parts = and_parts (shape_of cmd).is_plain _ simple in
      (p.from.same_groups (simple_groups cmd parts.1)).1 ∙ (plain_fields cmd parts.0).groups

  -- the argument at a place, the only one with its name
  module _ (k : ℕ) (d : Arg) (lt : k < length (args_of cmd)) (id : Text) (is : (slice_index_or (args_of cmd) k d).id.now ≡ id) (some : id ≡ [] → ⊥)
      (own : IsAuto (slice_index_or (args_of cmd) k d) → ⊥) (alone : stands_alone id (map rule_of (args_of cmd)) k ≡ true) (q : ValueParser)
      (parser : (slice_index_or (args_of cmd) k d).value_parser ≡ Some q) where
    unique : (j : ℕ) (e : Arg) → j < length (args_of cmd) → bytes_eq (slice_index_or (args_of cmd) j e).id.now (slice_index_or (args_of cmd) k d).id.now ≡ true → j ≡ k
    unique j e low same = only_there id (args_of cmd) k alone j e low (ap (bytes_eq (slice_index_or (args_of cmd) j e).id.now) (sym is) ∙ same)

    parser_is : (j : ℕ) (x : Arg) → j < length (args_of p.built) → slice_index_or (args_of p.built) j x ≡ x → bytes_eq x.id.now id ≡ true → parser_of x ≡ q
    parser_is j x low at same =
        let rules = same_rules_by_id cmd m p k d lt unique own j x low at (ap (bytes_eq x.id.now) is ∙ same) in
        ap parser_of_value (rules.parser q parser)

    reading_is : (r : Reading) → HasReading p.built id r → r ≡ reading_of q
    reading_is r any = sym any.4.1 ∙ ap reading_of (parser_is any.0 any.1 any.2 any.3 any.4.0)

    value_is : (u : Text) → PassesArg p.built id u → (ignore_case : Bool) × Accepts ignore_case q u
    value_is u any = (any.1.ignore_case, subst (λ (r : ValueParser). Accepts any.1.ignore_case r u) (parser_is any.0 any.1 any.2 any.3 any.4.0) any.4.1)

    no_group : (e : Entry) → e.0.now ≡ id → EntryPasses p.built e → e.1.is_group ≡ true → ⊥
    no_group e key passes group = elim (passes.3 group) [
      | inl empty ↦ some (sym key ∙ empty)
      | inr lots ↦
          let none : 0 < 0 = rw no_groups at lots in
          omega (arith, none)
    ]

    at_entry : (e : Entry) → e.0.now ≡ id → EntryPasses p.built e → (v : Bor Text) → slice_get e.1.vals.items 0 ≡ Some v
        → (e.1.reading ≡ reading_of q) × (ignore_case : Bool) × Accepts ignore_case q v.now
    at_entry e key passes v first =
        let reading : e.1.reading ≡ reading_of q = elim (passes.4) [
          | inl group ↦ absurd (no_group e key passes group)
          | inr has ↦ reading_is e.1.reading (subst (λ (w : Text). HasReading p.built w e.1.reading) key has)
        ] in
        let all : All (λ w. PassesArg p.built id w.now) e.1.vals.items = elim (passes.0) [
          | inl group ↦ absurd (no_group e key passes group)
          | inr has ↦ subst (λ (w : Text). All (λ x. PassesArg p.built w x.now) e.1.vals.items) key has
        ] in
        let accepted = value_is v.now (first_of_all (λ w. PassesArg p.built id w.now) e.1.vals.items v all first) in
        (reading, accepted.0, accepted.1)

    -- the text that is read for the argument passed its parser
    pub text_read : (t : Text) → one_text (found_of m) id ≡ Some t → (u : Text) × (t ≡ read_as (reading_of q) u) × (ignore_case : Bool) × Accepts ignore_case q u
    text_read t e = go (matched_of (found_of m) id) refl e
      where
        at_value : (a : MatchedArg) → matched_of (found_of m) id ≡ Some a → (o : Option (Bor Text)) → slice_get a.vals.items 0 ≡ o
            → option_map (λ s. read_as a.reading s.now) o ≡ Some t → (u : Text) × (t ≡ read_as (reading_of q) u) × (ignore_case : Bool) × Accepts ignore_case q u
        at_value a found None first e = cc e
        at_value a found (Some v) first e =
            let entry = entry_by_id (EntryPasses p.built) (found_of m).entries.items id a all_pass found in
            let got = at_entry entry.0 ((bytes_eq-Decides entry.0.0.now id).0 entry.2) entry.3 v (ap (λ (x : MatchedArg). slice_get x.vals.items 0) entry.1 ∙ first) in
            let how : a.reading ≡ reading_of q = ap (λ (x : MatchedArg). x.reading) (sym entry.1) ∙ got.0 in
            let text : t ≡ read_as a.reading v.now = cc e in
            (v.now, text ∙ ap (λ (r : Reading). read_as r v.now) how, got.1, got.2)

        go : (o : Option MatchedArg) → matched_of (found_of m) id ≡ o → option_and_then (λ a. option_map (λ s. read_as a.reading s.now) (slice_get a.vals.items 0)) o ≡ Some t
            → (u : Text) × (t ≡ read_as (reading_of q) u) × (ignore_case : Bool) × Accepts ignore_case q u
        go None found e = cc e
        go (Some a) found e = at_value a found (slice_get a.vals.items 0) refl e

-- ---- numbers

bounded : (least most : ℕ) (text : Option Text) (n : ℕ) → most < 2 ^ 32
    → ((t : Text) → text ≡ Some t → (u : Text) × (t ≡ without_minus u) × (ignore_case : Bool) × Accepts ignore_case (between least most) u)
    → option_and_then number_read text ≡ Some n → (least ≤ n) × (n ≤ most)
bounded least most None n high read e = cc e
bounded least most (Some t) n high read e =
    let got = read t refl in
    let number = signed_reads ⊤ (ParsesUnsigned 32 10) 32 least most got.0 (number_read (without_minus got.0)) (number_gives (without_minus got.0)) (λ u x gives. gives) high got.3 in
    let same : n ≡ number.0 = let some : Some n ≡ Some number.0 = sym e ∙ ap number_read got.1 ∙ number.1 in cc some in
    (omega (arith, same, number.2), omega (arith, same, number.3))

-- the rule at a place
abbrev pub rule_at : List Rule → ℕ → Option Rule
rule_at [] place = None
rule_at (rule ∷ rules) zero = Some rule
rule_at (rule ∷ rules) (suc place) = rule_at rules place

argument_at : (args : List Arg) (place : ℕ) (rule : Rule) → rule_at (map rule_of args) place ≡ Some rule
    → (d : Arg) × (place < length args) × (rule_of (slice_index_or args place d) ≡ rule)
argument_at [] place rule e = cc e
argument_at (arg ∷ args) zero rule e =
    let same : rule_of arg ≡ rule = cc e in
    (arg, omega arith, same)
argument_at (arg ∷ args) (suc place) rule e =
    let got = argument_at args place rule e in
    (got.0, omega (arith, got.1), got.2)

-- the name is not that of an argument that clap makes itself
abbrev pub is_own : Text → Bool
is_own id = not (bytes_eq id []) && (not (bytes_eq id (codes "help")) && not (bytes_eq id (codes "version")))

not_named : (id name : Text) → not (bytes_eq id name) ≡ true → id ≡ name → ⊥
not_named id name other same = true≢false (sym (sym (ap not ((bytes_eq-Decides id name).1 same)) ∙ other))

-- a number that a parse of this command gave is in its range
pub number_in_range : (cmd : Command) (m : ArgMatches) → IsParsedFrom cmd m → (app : App) → app_of cmd ≡ app → has_simple_rules app.top ≡ true
    → (place : ℕ) (rule : Rule) → rule_at app.top.rules place ≡ Some rule → stands_alone rule.id app.top.rules place ≡ true → is_own rule.id ≡ true
    → (least most : ℕ) → rule.parser ≡ Some (between least most) → most < 2 ^ 32
    → (n : ℕ) → number_held rule.id (rows_of (found_of m)) ≡ Some n → (least ≤ n) × (n ≤ most)
number_in_range cmd m p app is simple place rule at alone own least most parser high n e =
    let id = rule.id in
    let arg = argument_at (args_of cmd) place rule (ap (λ (a : App). rule_at a.top.rules place) is ∙ at) in
    let id_is : (slice_index_or (args_of cmd) place arg.0).id.now ≡ id = ap (λ (r : Rule). r.id) arg.2 in
    let names = and_parts (not (bytes_eq id [])) _ own in
    let others = and_parts (not (bytes_eq id (codes "help"))) _ names.1 in
    let auto : IsAuto (slice_index_or (args_of cmd) place arg.0) → ⊥ = λ made. elim made [
      | inl help ↦ not_named id (codes "help") others.0 (sym id_is ∙ help)
      | inr version ↦ not_named id (codes "version") others.1 (sym id_is ∙ version)
    ] in
    bounded least most (one_of id (rows_of (found_of m))) n high
    (λ t found. text_read cmd m p (ap (λ (a : App). has_simple_rules a.top) is ∙ simple) place arg.0 arg.1 id id_is (not_named id [] names.0) auto
    (ap (λ (a : App). stands_alone id a.top.rules place) is ∙ alone) (between least most) (ap (λ (r : Rule). r.parser) arg.2 ∙ parser)
    t (one_text-rows (found_of m) id ∙ found)) e
