-- The lines of a command and of a block, as lines of a text.
use Rattle.std.proofs.Common.{◌≡◌, refl, ap, sym, ◌∙◌, subst, ℕ, zero, suc, ◌+◌, ◌-◌, ◌^◌, ◌<◌, List, [], ◌∷◌, ◌++◌, Bool, true, false, cond, codes, decimal, drop, length, flat_map, get_or, map, take, arith, length-append, inl, inr}
use Rattle.std.specs.Prelude.{◌==◌}
use Rattle.std.specs.List.{AllByRecursion}
use Rattle.std.proofs.lemmas.Bool.{cases_Bool, cond-false, eqb-true, false_from_ne_true}
use Rattle.std.proofs.lemmas.Fmt.{decimal_nonempty}
use Rattle.std.proofs.lemmas.Slice.Eq.{bytes_eq-Decides}
use Rattle.std.proofs.lemmas.List.{get_or-append-add, length-take-le}
use Rattle.lake_model.specs.Tables.{is_name}
use Rattle.lake_model.specs.Texts.{Text, Lines, lines_of, lines_with, onto_first}
use Rattle.script_model.specs.Commands.{Task, Load, LoadFile, DropTable, Replace, Tables, Search, Like, Contain, AsOf, Merge}
use Rattle.script_model.specs.declared.ScriptLimits.{ScriptLimits}
use Rattle.script_model.specs.Reading.{is_end, undotted}
use Rattle.script_model.specs.Words.{line_text, NoFeed, without_return}
use Rattle.list_laws.proofs.ListLemmas.{all_append}
use Rattle.script_text.proofs.FeedLemmas.{no_feed_join}
use Rattle.script_laws.specs.Printed.{IsTask, block_lines, body_lines, dotted, task_text, with_word}
use Rattle.script_laws.proofs.DigitFacts.{number_no_feed, number_no_return}
use Rattle.script_laws.proofs.SayFacts.{name_no_feed, name_no_return, name_word}
use Rattle.script_text.proofs.RunLemmas.{no_end}

-- ---- the lines of a text

onto_back : (byte : ℕ) (ended : List Text) (rest bytes : Text) → flat_map line_text ended ++ rest ≡ bytes → flat_map line_text (onto_first byte ended rest).ended ++ (onto_first byte ended rest).rest ≡ byte ∷ bytes
onto_back byte [] rest bytes e = ap (λ (t : Text). byte ∷ t) e
onto_back byte (line ∷ lines) rest bytes e = ap (λ (t : Text). byte ∷ t) e

-- The lines of a text and what follows them are the text.
pub lines_back : (text : Text) → flat_map line_text (lines_of text).ended ++ (lines_of text).rest ≡ text
unfolding lines_of
lines_back [] = refl
lines_back (byte ∷ bytes) = elim (cases_Bool (byte == 0x0A)) [
  | inl t ↦
      ap (λ (b : Bool). let ls : Lines = cond b (lines_with ([] ∷ (lines_of bytes).ended) (lines_of bytes).rest) (onto_first byte (lines_of bytes).ended (lines_of bytes).rest) in flat_map line_text ls.ended ++ ls.rest) t
      ∙ ap (λ (ts : Text). 0x0A ∷ ts) (lines_back bytes) ∙ ap (λ (b : ℕ). b ∷ bytes) (sym (eqb-true byte 0x0A t))
  | inr f ↦
      ap (λ (b : Bool). let ls : Lines = cond b (lines_with ([] ∷ (lines_of bytes).ended) (lines_of bytes).rest) (onto_first byte (lines_of bytes).ended (lines_of bytes).rest) in flat_map line_text ls.ended ++ ls.rest) f
      ∙ onto_back byte (lines_of bytes).ended (lines_of bytes).rest bytes (lines_back bytes)
]

abbrev AreLines : Lines → Type 0
AreLines lines = AllByRecursion NoFeed lines.ended × NoFeed lines.rest

onto_whole : (byte : ℕ) (ended : List Text) (rest : Text) → (byte == 0x0A) ≡ false → AllByRecursion NoFeed ended × NoFeed rest → AreLines (onto_first byte ended rest)
onto_whole byte [] rest f h = (tt, (f, h.1))
onto_whole byte (line ∷ lines) rest f h = (((f, h.0.0), h.0.1), h.1)

-- They have no line feed.
pub lines_are_whole : (text : Text) → AreLines (lines_of text)
unfolding lines_of
lines_are_whole [] = (tt, tt)
lines_are_whole (byte ∷ bytes) = elim (cases_Bool (byte == 0x0A)) [
  | inl t ↦
      subst (λ (b : Bool). AreLines (cond b (lines_with ([] ∷ (lines_of bytes).ended) (lines_of bytes).rest) (onto_first byte (lines_of bytes).ended (lines_of bytes).rest))) (sym t)
      ((tt, (lines_are_whole bytes).0), (lines_are_whole bytes).1)
  | inr f ↦
      subst (λ (b : Bool). AreLines (cond b (lines_with ([] ∷ (lines_of bytes).ended) (lines_of bytes).rest) (onto_first byte (lines_of bytes).ended (lines_of bytes).rest))) (sym f)
      (onto_whole byte (lines_of bytes).ended (lines_of bytes).rest f (lines_are_whole bytes))
]

-- ---- a line of a block

pub undotted_back : (line : Text) → undotted (dotted line) ≡ line
undotted_back line = elim (cases_Bool (get_or line 0 0 == 0x2E)) [
  | inl t ↦ ap (λ (b : Bool). undotted (cond b (0x2E ∷ line) line)) t
  | inr f ↦ ap (λ (b : Bool). undotted (cond b (0x2E ∷ line) line)) f ∙ ap (λ (b : Bool). cond b (drop 1 line) line) f
]

pub dotted_no_feed : (line : Text) → NoFeed line → NoFeed (dotted line)
dotted_no_feed line h = elim (cases_Bool (get_or line 0 0 == 0x2E)) [
  | inl t ↦ subst (λ (b : Bool). NoFeed (cond b (0x2E ∷ line) line)) (sym t) (refl, h)
  | inr f ↦ subst (λ (b : Bool). NoFeed (cond b (0x2E ∷ line) line)) (sym f) h
]

-- what is left of a text begins as the text does
first_kept : (n : ℕ) (text : Text) → take n text ≡ 0x2E ∷ [] → get_or text 0 0 ≡ 0x2E
first_kept zero text e = absurd (let no : [] ≡ 0x2E ∷ [] = e in cc)
first_kept (suc n) [] e = absurd (let no : [] ≡ 0x2E ∷ [] = e in cc)
first_kept (suc n) (byte ∷ text) e = ap (λ (t : Text). get_or t 0 0) e

kept_end : (text : Text) → without_return text ≡ 0x2E ∷ [] → get_or text 0 0 ≡ 0x2E
kept_end text e = by_return (get_or text (length text - 1) 0 == 0x0D) refl
  where
    by_return : (b : Bool) → (get_or text (length text - 1) 0 == 0x0D) ≡ b → get_or text 0 0 ≡ 0x2E
    by_return true t = first_kept (length text - 1) text (sym (ap (λ (b : Bool). cond b (take (length text - 1) text) text) t) ∙ e)
    by_return false f = ap (λ (t : Text). get_or t 0 0) (sym (ap (λ (b : Bool). cond b (take (length text - 1) text) text) f) ∙ e)

-- a line that begins with two dots
no_end_twice : (line : Text) → is_end (0x2E ∷ 0x2E ∷ line) ≡ false
no_end_twice line = false_from_ne_true (is_end (0x2E ∷ 0x2E ∷ line)) (λ e. too_long line ((bytes_eq-Decides (without_return (0x2E ∷ 0x2E ∷ line)) (codes ".")).0 e))
  where
    too_long : (line : Text) → without_return (0x2E ∷ 0x2E ∷ line) ≡ 0x2E ∷ [] → ⊥
    too_long [] e = let size : 2 ≡ 1 = ap length e in omega (arith, size)
    too_long (byte ∷ line) e = by_return (get_or (0x2E ∷ 0x2E ∷ byte ∷ line) (length (0x2E ∷ 0x2E ∷ byte ∷ line) - 1) 0 == 0x0D) refl
      where
        by_return : (b : Bool) → (get_or (0x2E ∷ 0x2E ∷ byte ∷ line) (length (0x2E ∷ 0x2E ∷ byte ∷ line) - 1) 0 == 0x0D) ≡ b → ⊥
        by_return true t =
            let cut : take (length (0x2E ∷ 0x2E ∷ byte ∷ line) - 1) (0x2E ∷ 0x2E ∷ byte ∷ line) ≡ 0x2E ∷ [] =
            sym (ap (λ (b : Bool). cond b (take (length (0x2E ∷ 0x2E ∷ byte ∷ line) - 1) (0x2E ∷ 0x2E ∷ byte ∷ line)) (0x2E ∷ 0x2E ∷ byte ∷ line)) t) ∙ e in
            omega (arith, ap length cut, length-take-le (length (0x2E ∷ 0x2E ∷ byte ∷ line) - 1) (0x2E ∷ 0x2E ∷ byte ∷ line) (omega arith))
        by_return false f =
            let whole : 0x2E ∷ 0x2E ∷ byte ∷ line ≡ 0x2E ∷ [] =
            sym (ap (λ (b : Bool). cond b (take (length (0x2E ∷ 0x2E ∷ byte ∷ line) - 1) (0x2E ∷ 0x2E ∷ byte ∷ line)) (0x2E ∷ 0x2E ∷ byte ∷ line)) f) ∙ e in
            omega (arith, ap length whole)

dotted_twice : (line : Text) → (get_or line 0 0 == 0x2E) ≡ true → is_end (0x2E ∷ line) ≡ false
dotted_twice [] t = absurd (let no : false ≡ true = t in cc)
dotted_twice (byte ∷ line) t = ap (λ (b : ℕ). is_end (0x2E ∷ b ∷ line)) (eqb-true byte 0x2E t) ∙ no_end_twice line

-- A line of a body does not end it.
pub dotted_no_end : (line : Text) → is_end (dotted line) ≡ false
dotted_no_end line = elim (cases_Bool (get_or line 0 0 == 0x2E)) [
  | inl t ↦ ap (λ (b : Bool). is_end (cond b (0x2E ∷ line) line)) t ∙ dotted_twice line t
  | inr f ↦ ap (λ (b : Bool). is_end (cond b (0x2E ∷ line) line)) f ∙ no_end line f
]

-- ---- the line of a command

-- there is no carriage return at its end
abbrev pub EndsWell : Text → Type 0
EndsWell text = (0 < length text) × ((get_or text (length text - 1) 0 == 0x0D) ≡ false)

last_behind : (xs ys : Text) → 0 < length ys → get_or (xs ++ ys) (length (xs ++ ys) - 1) 0 ≡ get_or ys (length ys - 1) 0
last_behind xs ys some =
    ap (λ (n : ℕ). get_or (xs ++ ys) n 0) (let at : length (xs ++ ys) - 1 ≡ length xs + (length ys - 1) = omega (arith, length-append xs ys, some) in at) ∙ get_or-append-add xs ys (length ys - 1) 0

pub word_ends : (word text : Text) → EndsWell text → EndsWell (with_word word text)
word_ends word text h = (
  omega (arith, length-append word (0x20 ∷ text)),
  ap (λ (b : ℕ). b == 0x0D) (last_behind word (0x20 ∷ text) (omega arith) ∙ last_behind (0x20 ∷ []) text h.0) ∙ h.1,
)

pub kept_whole : (text : Text) → EndsWell text → without_return text ≡ text
kept_whole text h = cond-false (get_or text (length text - 1) 0 == 0x0D) (take (length text - 1) text) text h.1

name_ends : (name : Text) → is_name name ≡ true → EndsWell name
name_ends name h = ((name_word name h).0, name_no_return name h)

number_ends : (n : ℕ) → n < 2 ^ 64 → EndsWell (decimal n)
number_ends n small = (decimal_nonempty n small, number_no_return n small)

pub task_ends : (limits : ScriptLimits) (path : Text) (task : Task) → IsTask limits path task → EndsWell (task_text path task)
task_ends limits path (Load name body) is = word_ends (codes "load") name (name_ends name is.0)
task_ends limits path (LoadFile name file) is = word_ends (codes "loadfile") (with_word name path) (word_ends name path (is.1.some, is.1.end))
task_ends limits path (DropTable name) is = word_ends (codes "drop") name (name_ends name is)
task_ends limits path (Replace name body) is = word_ends (codes "replace") name (name_ends name is.0)
task_ends limits path Tables is = (omega arith, refl)
task_ends limits path (Search k body) is = word_ends (codes "search") (decimal k) (number_ends k (omega (arith, is.0.1)))
task_ends limits path (Like k name place) is =
    word_ends (codes "like") (with_word (decimal k) (with_word name (decimal place))) (word_ends (decimal k) (with_word name (decimal place)) (word_ends name (decimal place) (number_ends place (omega (arith, is.2.1)))))
task_ends limits path (Contain a b body) is =
    word_ends (codes "contain") (with_word (decimal a) (decimal b)) (word_ends (decimal a) (decimal b) (number_ends b (omega (arith, is.2))))
task_ends limits path (AsOf asked k body) is =
    word_ends (codes "asof") (with_word (decimal asked) (decimal k)) (word_ends (decimal asked) (decimal k) (number_ends k (omega (arith, is.1.1))))
task_ends limits path (Merge false) is = (omega arith, refl)
task_ends limits path (Merge true) is = (omega arith, refl)

word_no_feed : (word text : Text) → NoFeed word → NoFeed text → NoFeed (with_word word text)
word_no_feed word text h k = no_feed_join word (0x20 ∷ text) h (refl, k)

pub task_no_feed : (limits : ScriptLimits) (path : Text) (task : Task) → IsTask limits path task → NoFeed (task_text path task)
task_no_feed limits path (Load name body) is = word_no_feed (codes "load") name (refl, (refl, (refl, (refl, tt)))) (name_no_feed name is.0)
task_no_feed limits path (LoadFile name file) is = word_no_feed (codes "loadfile") (with_word name path) (refl, (refl, (refl, (refl, (refl, (refl, (refl, (refl, tt)))))))) (word_no_feed name path (name_no_feed name is.0) is.1.no_feed)
task_no_feed limits path (DropTable name) is = word_no_feed (codes "drop") name (refl, (refl, (refl, (refl, tt)))) (name_no_feed name is)
task_no_feed limits path (Replace name body) is = word_no_feed (codes "replace") name (refl, (refl, (refl, (refl, (refl, (refl, (refl, tt))))))) (name_no_feed name is.0)
task_no_feed limits path Tables is = (refl, (refl, (refl, (refl, (refl, (refl, tt))))))
task_no_feed limits path (Search k body) is = word_no_feed (codes "search") (decimal k) (refl, (refl, (refl, (refl, (refl, (refl, tt)))))) (number_no_feed k (omega (arith, is.0.1)))
task_no_feed limits path (Like k name place) is =
    word_no_feed (codes "like") (with_word (decimal k) (with_word name (decimal place))) (refl, (refl, (refl, (refl, tt))))
    (word_no_feed (decimal k) (with_word name (decimal place)) (number_no_feed k (omega (arith, is.0.1))) (word_no_feed name (decimal place) (name_no_feed name is.1) (number_no_feed place (omega (arith, is.2.1)))))
task_no_feed limits path (Contain a b body) is =
    word_no_feed (codes "contain") (with_word (decimal a) (decimal b)) (refl, (refl, (refl, (refl, (refl, (refl, (refl, tt)))))))
    (word_no_feed (decimal a) (decimal b) (number_no_feed a (omega (arith, is.1, is.2))) (number_no_feed b (omega (arith, is.2))))
task_no_feed limits path (AsOf asked k body) is =
    word_no_feed (codes "asof") (with_word (decimal asked) (decimal k)) (refl, (refl, (refl, (refl, tt))))
    (word_no_feed (decimal asked) (decimal k) (number_no_feed asked (omega (arith, is.0))) (number_no_feed k (omega (arith, is.1.1))))
task_no_feed limits path (Merge false) is = (refl, (refl, (refl, (refl, (refl, tt)))))
task_no_feed limits path (Merge true) is = word_no_feed (codes "merge") (codes "all") (refl, (refl, (refl, (refl, (refl, tt))))) (refl, (refl, (refl, tt)))

pub line_ends : (limits : ScriptLimits) (lane : ℕ) (path : Text) (task : Task) → IsTask limits path task → EndsWell (with_word (0x40 ∷ decimal lane) (task_text path task))
line_ends limits lane path task is = word_ends (0x40 ∷ decimal lane) (task_text path task) (task_ends limits path task is)

pub line_no_feed : (limits : ScriptLimits) (lane : ℕ) (path : Text) (task : Task) → lane < 2 ^ 64 → IsTask limits path task → NoFeed (with_word (0x40 ∷ decimal lane) (task_text path task))
line_no_feed limits lane path task small is = word_no_feed (0x40 ∷ decimal lane) (task_text path task) (refl, number_no_feed lane small) (task_no_feed limits path task is)

dotted_all : (lines : List Text) → AllByRecursion NoFeed lines → AllByRecursion NoFeed (map dotted lines)
dotted_all [] h = tt
dotted_all (line ∷ lines) h = (dotted_no_feed line h.0, dotted_all lines h.1)

pub block_no_feed : (body : List ℕ) → AllByRecursion NoFeed (block_lines body)
block_no_feed body = all_append NoFeed (map dotted (lines_of body).ended) (codes "." ∷ []) (dotted_all (lines_of body).ended (lines_are_whole body).0) ((refl, tt), tt)

pub body_no_feed : (task : Task) → AllByRecursion NoFeed (body_lines task)
body_no_feed (Load name body) = block_no_feed body
body_no_feed (LoadFile name file) = tt
body_no_feed (DropTable name) = tt
body_no_feed (Replace name body) = block_no_feed body
body_no_feed Tables = tt
body_no_feed (Search k body) = block_no_feed body
body_no_feed (Like k name place) = tt
body_no_feed (Contain a b body) = block_no_feed body
body_no_feed (AsOf asked k body) = block_no_feed body
body_no_feed (Merge all) = tt
