-- The desks of a batch when they were gathered, when the journal was read, and when it was handed out.
use Rattle.std.proofs.Common.{◌≡◌, ap, sym, ◌∙◌, subst, ℕ, ◌+◌, ◌<◌, ◌≤◌, List, ◌∷◌, ◌++◌, length, drop, get_or, Some, arith, false}
use Rattle.std.specs.Prelude.{slice_get, slice_set}
use Rattle.std.specs.List.{AllByRecursion}
use mathlib.Core.List.{IsPrefix}
use Rattle.lake_model.specs.Journal.{Entry}
use Rattle.turn_lock.specs.History.{Grows, IsOfGiven}
use Rattle.turn_lock.specs.Passes.{Known, after_seeing, callers_of}
use Rattle.turn_lock.proofs.Histories.{grows_trans, prefix_length}
use Rattle.lake.specs.Lawful.{caller_of}
use Rattle.record_model.specs.Record.{Answered, RunRecord}
use Rattle.lake_desk.specs.Gathered.{AllBegin, AllMeet, AreApart, AreFree, AreHandedOut, AreOfOneLock, IsBehindAll, IsGathered}
use Rattle.lake_desk.specs.Together.{with_batch}
use Rattle.command_replies.proofs.PastLemmas.{prefix_on, rest_of}
use Rattle.lake_desk.proofs.Gathers.{begin_on}
use Rattle.lake_desk.proofs.Places.{all_at}

-- ---- before

pub apart_some : (lanes : ℕ) (journal : List Entry) (desks : List (Known Entry)) → AreApart lanes journal desks → 0 < length desks
apart_some lanes journal desks apart = omega (arith, apart.count)

all_of_lock : (lanes : ℕ) (journal : List Entry) (desks : List (Known Entry)) (apart : AreApart lanes journal desks) → AllByRecursion (λ desk. desk.lock ≡ apart.lock) desks
all_of_lock lanes journal desks apart = all_at (λ (desk : Known Entry). desk.lock ≡ apart.lock) desks (λ l desk at. (apart.each l desk at).0)

pub apart_lock : (lanes : ℕ) (journal : List Entry) (desks : List (Known Entry)) → AreApart lanes journal desks → AreOfOneLock desks
apart_lock lanes journal desks apart = record { lock = apart.lock; each = all_of_lock lanes journal desks apart }

pub apart_free : (lanes : ℕ) (journal : List Entry) (desks : List (Known Entry)) → AreApart lanes journal desks → AreFree desks
apart_free lanes journal desks apart = all_at (λ (desk : Known Entry). desk.holds ≡ false) desks (λ l desk at. (apart.each l desk at).2)

-- ---- gathered

-- what the opening desk has seen begins with the journal
pub gathered_journal : (lanes : ℕ) (journal : List Entry) (before after : List (Known Entry)) (first : Known Entry) → AreApart lanes journal before → IsGathered before after → IsPrefix journal (get_or after 0 first).seen
gathered_journal lanes journal before after first apart gathered =
    let own : IsPrefix journal gathered.opening.seen = (apart.each 0 gathered.opening (ap (λ (ds : List (Known Entry)). slice_get ds 0) gathered.before_is)).3 in
    let grows = gathered.grows in
    subst (λ (p : Known Entry). IsPrefix journal p.seen) (sym (ap (λ (ds : List (Known Entry)). get_or ds 0 first) gathered.after_is))
    (prefix_on journal gathered.opening.seen gathered.later.seen own (grows.rest, grows.begins))

pub gathered_long : (lanes : ℕ) (journal : List Entry) (before after : List (Known Entry)) (first : Known Entry) → AreApart lanes journal before → IsGathered before after → length journal ≤ length (get_or after 0 first).seen
gathered_long lanes journal before after first apart gathered = prefix_length journal (get_or after 0 first).seen (gathered_journal lanes journal before after first apart gathered)

-- ---- the journal was read

-- the desks when the opening one has read the journal
pub record HasRead (lanes : ℕ) (journal : List Entry) (before : List (Known Entry)) (read : Known Entry) (now : List (Known Entry)) : Type 0 where
  pub opening : Known Entry
  pub others : List (Known Entry)
  pub before_is : before ≡ opening ∷ others
  pub now_is : now ≡ read ∷ others
  pub same : read ≡ after_seeing opening read.seen false
  pub grows : Grows caller_of (callers_of opening) opening.seen read.seen
  pub begin : AllBegin read.seen others
  pub journal_is : IsPrefix journal read.seen
  pub given : read.given ≡ Some (lanes + 1)

pub reads : (lanes : ℕ) (journal : List Entry) (before after : List (Known Entry)) (first read : Known Entry) → AreApart lanes journal before → IsGathered before after
    → read ≡ after_seeing (get_or after 0 first) read.seen false → Grows caller_of (callers_of (get_or after 0 first)) (get_or after 0 first).seen read.seen
    → HasRead lanes journal before read (slice_set after 0 read)
reads lanes journal before after first read apart gathered sees grows =
    let later = gathered.later in
    let at : get_or after 0 first ≡ later = ap (λ (ds : List (Known Entry)). get_or ds 0 first) gathered.after_is in
    let opens : slice_get before 0 ≡ Some gathered.opening = ap (λ (ds : List (Known Entry)). slice_get ds 0) gathered.before_is in
    let on : Grows caller_of (callers_of later) later.seen read.seen = subst (λ (p : Known Entry). Grows caller_of (callers_of p) p.seen read.seen) at grows in
    let mine : Grows caller_of (callers_of gathered.opening) later.seen read.seen = subst (λ (cs : List ℕ). Grows caller_of cs later.seen read.seen) (ap callers_of gathered.same) on in
    let same : read ≡ after_seeing gathered.opening read.seen false =
    sees ∙ ap (λ (p : Known Entry). after_seeing p read.seen false) at ∙ ap (λ (p : Known Entry). after_seeing p read.seen false) gathered.same in
    record {
      opening = gathered.opening;
      others = gathered.lanes;
      before_is = gathered.before_is;
      now_is = ap (λ (ds : List (Known Entry)). slice_set ds 0 read) gathered.after_is;
      same = same;
      grows = grows_trans caller_of gathered.grows mine;
      begin = begin_on later.seen read.seen gathered.lanes (on.rest, on.begins) gathered.begin;
      journal_is = prefix_on journal later.seen read.seen (subst (λ (p : Known Entry). IsPrefix journal p.seen) at (gathered_journal lanes journal before after first apart gathered)) (on.rest, on.begins);
      given = ap (λ (p : Known Entry). p.given) same ∙ apart.opening gathered.opening opens;
    }

pub read_lock : (lanes : ℕ) (journal : List Entry) (before now : List (Known Entry)) (read : Known Entry) → AreApart lanes journal before → HasRead lanes journal before read now → AreOfOneLock now
read_lock lanes journal before now read apart has =
    let all : AllByRecursion (λ (desk : Known Entry). desk.lock ≡ apart.lock) (has.opening ∷ has.others) =
    subst (AllByRecursion (λ (desk : Known Entry). desk.lock ≡ apart.lock)) has.before_is (all_of_lock lanes journal before apart) in
    record {
      lock = apart.lock;
      each = subst (AllByRecursion (λ (desk : Known Entry). desk.lock ≡ apart.lock)) (sym has.now_is) (ap (λ (p : Known Entry). p.lock) has.same ∙ all.0, all.1);
    }

pub read_behind : (lanes : ℕ) (journal : List Entry) (before now : List (Known Entry)) (read : Known Entry) → HasRead lanes journal before read now → IsBehindAll now
read_behind lanes journal before now read has = record { opening = read; lanes = has.others; are = has.now_is; begin = has.begin }

pub read_given : (lanes : ℕ) (journal : List Entry) (before now : List (Known Entry)) (read first : Known Entry) → HasRead lanes journal before read now
    → ((count : ℕ) → (get_or now 0 first).given ≡ Some count → IsOfGiven caller_of count (get_or now 0 first).seen) → IsOfGiven caller_of (lanes + 1) read.seen
read_given lanes journal before now read first has given =
    let at : get_or now 0 first ≡ read = ap (λ (ds : List (Known Entry)). get_or ds 0 first) has.now_is in
    subst (λ (p : Known Entry). IsOfGiven caller_of (lanes + 1) p.seen) at (given (lanes + 1) (ap (λ (p : Known Entry). p.given) at ∙ has.given))

-- ---- handed out

pub handed_meet : (lanes : ℕ) (journal : List Entry) (before now after : List (Known Entry)) (read : Known Entry) → HasRead lanes journal before read now → AreHandedOut now after → AllMeet read.seen before after
handed_meet lanes journal before now after read has handed =
    let both : read ∷ has.others ≡ handed.opening ∷ handed.lanes = sym has.now_is ∙ handed.before_is in
    let first : read ≡ handed.opening = cc in
    let rest : has.others ≡ handed.lanes = cc in
    let meet : AllMeet read.seen has.others handed.later =
    subst (λ (ds : List (Known Entry)). AllMeet read.seen ds handed.later) (sym rest) (subst (λ (p : Known Entry). AllMeet p.seen handed.lanes handed.later) (sym first) handed.meet) in
    subst (λ (ds : List (Known Entry)). AllMeet read.seen before ds) (sym (handed.after_is ∙ ap (λ (p : Known Entry). p ∷ handed.later) (sym first)))
    (subst (λ (ds : List (Known Entry)). AllMeet read.seen ds (read ∷ handed.later)) (sym has.before_is) (has.same, has.grows, meet))

-- ---- the record

-- the record's journal is then what the opening desk has read
pub journal_whole : (made room now : RunRecord) (answers : List Answered) (entries listed whole : List Entry) → now ≡ with_batch answers entries room → room ≡ made → listed ≡ made.journal → entries ≡ drop (length listed) whole → IsPrefix made.journal whole
    → now.journal ≡ whole
journal_whole made room now answers entries listed whole is same lists rest begins =
    ap (λ (r : RunRecord). r.journal) is ∙ ap (λ (r : RunRecord). r.journal ++ entries) same ∙ ap (λ (es : List Entry). made.journal ++ es) (rest ∙ ap (λ (j : List Entry). drop (length j) whole) lists)
    ∙ rest_of made.journal whole begins
