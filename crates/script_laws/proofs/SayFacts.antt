-- What the line of a command says.
use Rattle.std.proofs.Common.{◌≡◌, refl, ap, ◌∙◌, ℕ, ◌-◌, ◌^◌, ◌<◌, ◌≤◌, List, [], ◌∷◌, Bool, true, false, codes, decimal, drop, length, get_or, arith}
use Rattle.std.specs.Prelude.{◌==◌, ◌&&◌, bytes_eq, find, if◌then◌else◌, nat_le, nat_lt, Option}
use Rattle.std.specs.List.{AllByRecursion, list_all}
use Rattle.std.specs.Str.{is_utf8}
use Rattle.std.proofs.lemmas.Bool.{and_parts, leb-true, le-leb, le-ltb}
use Rattle.std.proofs.lemmas.Bool.Decides.{nat_tests}
use Rattle.lake_model.specs.Tables.{is_name}
use Rattle.lake_model.specs.Texts.{Text}
use Rattle.script_model.specs.declared.Reason.TheVariants as reason
use Rattle.script_model.specs.declared.ScriptLimits.{ScriptLimits}
use Rattle.script_model.specs.Commands.{Task, Load, LoadFile, DropTable, Replace, Tables, Search, Like, Contain, AsOf, Merge}
use Rattle.script_model.specs.Saying.{AsOfBlock, ContainBlock, Does, Fetches, Form, LoadBlock, Opens, ReplaceBlock, Said, SearchBlock, Wrong, LoadForm, LoadFileForm, DropForm, ReplaceForm, TablesForm, SearchForm, LikeForm, ContainForm, AsOfForm, MergeForm, command_said, fetch_said, forms, lane_said, of_form, said, said_if, said_with, says}
use Rattle.script_model.specs.Words.{before_spaces, behind_word, first_word, is_space, number, number_of, words}
use Rattle.script_laws.specs.Printed.{IsPath, IsTask, with_word, task_text}
use Rattle.script_laws.proofs.DigitFacts.{last_of, number_back, number_or_zero_within, number_within, number_word}
use Rattle.script_laws.proofs.WordFacts.{BeginsWell, IsWord, behind_alone, behind_of, first_alone, first_of, has_word, word_begins, word_begins_alone, words_alone, words_of}

-- what a command of this task says
abbrev pub task_said : ℕ → Text → Task → Said
task_said lane path (Load name body) = Opens lane (LoadBlock name)
task_said lane path (Replace name body) = Opens lane (ReplaceBlock name)
task_said lane path (Search k body) = Opens lane (SearchBlock k)
task_said lane path (Contain a b body) = Opens lane (ContainBlock a b)
task_said lane path (AsOf asked k body) = Opens lane (AsOfBlock asked k)
task_said lane path (LoadFile name file) = Fetches lane name path
task_said lane path (DropTable name) = Does lane (DropTable name)
task_said lane path Tables = Does lane Tables
task_said lane path (Like k name place) = Does lane (Like k name place)
task_said lane path (Merge all) = Does lane (Merge all)

-- ---- names

abbrev IsNameByte : ℕ → Type 0
IsNameByte byte = (0x21 ≤ byte) × (byte ≤ 0x7E)

name_bytes : (name : Text) → list_all (λ byte. nat_le 0x21 byte && nat_le byte 0x7E) name ≡ true → AllByRecursion IsNameByte name
name_bytes [] h = tt
name_bytes (byte ∷ name) h =
    let parts = and_parts (nat_le 0x21 byte && nat_le byte 0x7E) (list_all (λ byte. nat_le 0x21 byte && nat_le byte 0x7E) name) h in
    let bounds = and_parts (nat_le 0x21 byte) (nat_le byte 0x7E) parts.0 in
    ((leb-true 0x21 byte bounds.0, leb-true byte 0x7E bounds.1), name_bytes name parts.1)

no_spaces : (name : Text) → AllByRecursion IsNameByte name → AllByRecursion (λ byte. is_space byte ≡ false) name
no_spaces [] h = tt
no_spaces (byte ∷ name) h = (no_space byte h.0, no_spaces name h.1)
  where
    no_space : (byte : ℕ) → IsNameByte byte → is_space byte ≡ false
    no_space byte h = grind (arith, nat_tests)

pub name_word : (name : Text) → is_name name ≡ true → IsWord name
name_word name h =
    let parts = and_parts (nat_le 1 (length name) && nat_le (length name) 255) (list_all (λ byte. nat_le 0x21 byte && nat_le byte 0x7E) name) h in
    let size = and_parts (nat_le 1 (length name)) (nat_le (length name) 255) parts.0 in
    (leb-true 1 (length name) size.0, no_spaces name (name_bytes name parts.1))

pub name_no_feed : (name : Text) → is_name name ≡ true → AllByRecursion (λ byte. (byte == 0x0A) ≡ false) name
name_no_feed name h =
    let parts = and_parts (nat_le 1 (length name) && nat_le (length name) 255) (list_all (λ byte. nat_le 0x21 byte && nat_le byte 0x7E) name) h in
    no_feeds name (name_bytes name parts.1)
  where
    no_feed : (byte : ℕ) → IsNameByte byte → (byte == 0x0A) ≡ false
    no_feed byte h = grind (arith, nat_tests)

    no_feeds : (name : Text) → AllByRecursion IsNameByte name → AllByRecursion (λ byte. (byte == 0x0A) ≡ false) name
    no_feeds [] h = tt
    no_feeds (byte ∷ name) h = (no_feed byte h.0, no_feeds name h.1)

pub name_no_return : (name : Text) → is_name name ≡ true → (get_or name (length name - 1) 0 == 0x0D) ≡ false
name_no_return name h =
    let parts = and_parts (nat_le 1 (length name) && nat_le (length name) 255) (list_all (λ byte. nat_le 0x21 byte && nat_le byte 0x7E) name) h in
    no_return (last_of IsNameByte name (name_word name h).0 (name_bytes name parts.1))
  where
    no_return : {byte : ℕ} → IsNameByte byte → (byte == 0x0D) ≡ false
    no_return h = grind (arith, nat_tests)

-- ---- the words of a command

-- a command whose first word is this, by the word alone
by_word : (lane : ℕ) (text word : Text) → first_word text ≡ word → command_said lane text ≡ of_form lane text (find (λ form. bytes_eq form.0 word) forms)
by_word lane text word e = ap (λ (w : Text). of_form lane text (find (λ form. bytes_eq form.0 w) forms)) e

-- what the words after it say
by_rest : (form : Form) (lane : ℕ) (text rest : Text) → behind_word text ≡ rest → says form lane (words (behind_word text)) (behind_word text) ≡ says form lane (words rest) rest
by_rest form lane text rest e = ap (λ (t : Text). says form lane (words t) t) e

by_words : (form : Form) (lane : ℕ) (text : Text) (ws : List Text) → words text ≡ ws → says form lane (words text) text ≡ says form lane ws text
by_words form lane text ws e = ap (λ (w : List Text). says form lane w text) e

load_word : IsWord (codes "load")
load_word = (omega arith, (refl, (refl, (refl, (refl, tt)))))

says_load : (lane : ℕ) (name : Text) → is_name name ≡ true → command_said lane (with_word (codes "load") name) ≡ Opens lane (LoadBlock name)
says_load lane name h =
    let is = name_word name h in
    by_word lane (with_word (codes "load") name) (codes "load") (first_of (codes "load") name load_word)
    ∙ by_rest LoadForm lane (with_word (codes "load") name) name (behind_of (codes "load") name load_word (word_begins_alone name is))
    ∙ by_words LoadForm lane name (name ∷ []) (words_alone name is) ∙ ap (λ (b : Bool). said_if b (Opens lane (LoadBlock name))) h

load_file_word : IsWord (codes "loadfile")
load_file_word = (omega arith, (refl, (refl, (refl, (refl, (refl, (refl, (refl, (refl, tt)))))))))

drop_word : IsWord (codes "drop")
drop_word = (omega arith, (refl, (refl, (refl, (refl, tt)))))

replace_word : IsWord (codes "replace")
replace_word = (omega arith, (refl, (refl, (refl, (refl, (refl, (refl, (refl, tt))))))))

tables_word : IsWord (codes "tables")
tables_word = (omega arith, (refl, (refl, (refl, (refl, (refl, (refl, tt)))))))

search_word : IsWord (codes "search")
search_word = (omega arith, (refl, (refl, (refl, (refl, (refl, (refl, tt)))))))

like_word : IsWord (codes "like")
like_word = (omega arith, (refl, (refl, (refl, (refl, tt)))))

contain_word : IsWord (codes "contain")
contain_word = (omega arith, (refl, (refl, (refl, (refl, (refl, (refl, (refl, tt))))))))

asof_word : IsWord (codes "asof")
asof_word = (omega arith, (refl, (refl, (refl, (refl, tt)))))

merge_word : IsWord (codes "merge")
merge_word = (omega arith, (refl, (refl, (refl, (refl, (refl, tt))))))

all_word : IsWord (codes "all")
all_word = (omega arith, (refl, (refl, (refl, tt))))

says_drop : (lane : ℕ) (name : Text) → is_name name ≡ true → command_said lane (with_word (codes "drop") name) ≡ Does lane (DropTable name)
says_drop lane name h =
    let is = name_word name h in
    by_word lane (with_word (codes "drop") name) (codes "drop") (first_of (codes "drop") name drop_word)
    ∙ by_rest DropForm lane (with_word (codes "drop") name) name (behind_of (codes "drop") name drop_word (word_begins_alone name is))
    ∙ by_words DropForm lane name (name ∷ []) (words_alone name is) ∙ ap (λ (b : Bool). said_if b (Does lane (DropTable name))) h

says_replace : (lane : ℕ) (name : Text) → is_name name ≡ true → command_said lane (with_word (codes "replace") name) ≡ Opens lane (ReplaceBlock name)
says_replace lane name h =
    let is = name_word name h in
    by_word lane (with_word (codes "replace") name) (codes "replace") (first_of (codes "replace") name replace_word)
    ∙ by_rest ReplaceForm lane (with_word (codes "replace") name) name (behind_of (codes "replace") name replace_word (word_begins_alone name is))
    ∙ by_words ReplaceForm lane name (name ∷ []) (words_alone name is) ∙ ap (λ (b : Bool). said_if b (Opens lane (ReplaceBlock name))) h

says_tables : (lane : ℕ) → command_said lane (codes "tables") ≡ Does lane Tables
says_tables lane =
    by_word lane (codes "tables") (codes "tables") (first_alone (codes "tables") tables_word)
    ∙ by_rest TablesForm lane (codes "tables") [] (behind_alone (codes "tables") tables_word)

says_merge : (lane : ℕ) → command_said lane (codes "merge") ≡ Does lane (Merge false)
says_merge lane =
    by_word lane (codes "merge") (codes "merge") (first_alone (codes "merge") merge_word)
    ∙ by_rest MergeForm lane (codes "merge") [] (behind_alone (codes "merge") merge_word)

says_merge_all : (lane : ℕ) → command_said lane (with_word (codes "merge") (codes "all")) ≡ Does lane (Merge true)
says_merge_all lane =
    by_word lane (with_word (codes "merge") (codes "all")) (codes "merge") (first_of (codes "merge") (codes "all") merge_word)
    ∙ by_rest MergeForm lane (with_word (codes "merge") (codes "all")) (codes "all") (behind_of (codes "merge") (codes "all") merge_word refl)
    ∙ by_words MergeForm lane (codes "all") (codes "all" ∷ []) (words_alone (codes "all") all_word)

says_search : (lane k : ℕ) → 1 ≤ k → k ≤ 10000 → command_said lane (with_word (codes "search") (decimal k)) ≡ Opens lane (SearchBlock k)
says_search lane k some low =
    let small : k < 2 ^ 64 = omega (arith, low) in
    let is = number_word k small in
    by_word lane (with_word (codes "search") (decimal k)) (codes "search") (first_of (codes "search") (decimal k) search_word)
    ∙ by_rest SearchForm lane (with_word (codes "search") (decimal k)) (decimal k) (behind_of (codes "search") (decimal k) search_word (word_begins_alone (decimal k) is))
    ∙ by_words SearchForm lane (decimal k) (decimal k ∷ []) (words_alone (decimal k) is)
    ∙ ap (λ (n : Option ℕ). said_with n (λ k. Opens lane (SearchBlock k))) (number_within 10000 k (omega (arith, some)) low small)

says_like : (lane k place : ℕ) (name : Text) → 1 ≤ k → k ≤ 10000 → is_name name ≡ true → 1 ≤ place → place ≤ 4294967295
    → command_said lane (with_word (codes "like") (with_word (decimal k) (with_word name (decimal place)))) ≡ Does lane (Like k name place)
says_like lane k place name some low h first last =
    let small : k < 2 ^ 64 = omega (arith, low) in
    let few : place < 2 ^ 64 = omega (arith, last) in
    let is_k = number_word k small in
    let is_named = name_word name h in
    let is_place = number_word place few in
    by_word lane (with_word (codes "like") (with_word (decimal k) (with_word name (decimal place)))) (codes "like") (first_of (codes "like") (with_word (decimal k) (with_word name (decimal place))) like_word)
    ∙ by_rest LikeForm lane (with_word (codes "like") (with_word (decimal k) (with_word name (decimal place)))) (with_word (decimal k) (with_word name (decimal place)))
    (behind_of (codes "like") (with_word (decimal k) (with_word name (decimal place))) like_word (word_begins (decimal k) (with_word name (decimal place)) is_k))
    ∙ by_words LikeForm lane (with_word (decimal k) (with_word name (decimal place))) (decimal k ∷ name ∷ decimal place ∷ [])
    (words_of (decimal k) (with_word name (decimal place)) is_k
    ∙ ap (λ (ws : List Text). decimal k ∷ ws) (words_of name (decimal place) is_named ∙ ap (λ (ws : List Text). name ∷ ws) (words_alone (decimal place) is_place)))
    ∙ ap (λ (n : Option ℕ). said_with n (λ k. said_with (number 4294967295 (decimal place)) (λ at. said_if (is_name name) (Does lane (Like k name at))))) (number_within 10000 k (omega (arith, some)) low small)
    ∙ ap (λ (n : Option ℕ). said_with n (λ at. said_if (is_name name) (Does lane (Like k name at)))) (number_within 4294967295 place (omega (arith, first)) last few)
    ∙ ap (λ (b : Bool). said_if b (Does lane (Like k name place))) h

says_contain : (lane a b : ℕ) → 1 ≤ a → a ≤ b → b ≤ 10000 → command_said lane (with_word (codes "contain") (with_word (decimal a) (decimal b))) ≡ Opens lane (ContainBlock a b)
says_contain lane a b some whole low =
    let small : a < 2 ^ 64 = omega (arith, whole, low) in
    let few : b < 2 ^ 64 = omega (arith, low) in
    let is_a = number_word a small in
    let is_b = number_word b few in
    by_word lane (with_word (codes "contain") (with_word (decimal a) (decimal b))) (codes "contain") (first_of (codes "contain") (with_word (decimal a) (decimal b)) contain_word)
    ∙ by_rest ContainForm lane (with_word (codes "contain") (with_word (decimal a) (decimal b))) (with_word (decimal a) (decimal b))
    (behind_of (codes "contain") (with_word (decimal a) (decimal b)) contain_word (word_begins (decimal a) (decimal b) is_a))
    ∙ by_words ContainForm lane (with_word (decimal a) (decimal b)) (decimal a ∷ decimal b ∷ [])
    (words_of (decimal a) (decimal b) is_a ∙ ap (λ (ws : List Text). decimal a ∷ ws) (words_alone (decimal b) is_b))
    ∙ ap (λ (n : Option ℕ). said_with n (λ a. said_with (number 10000 (decimal b)) (λ b. said_if (nat_le a b) (Opens lane (ContainBlock a b))))) (number_within 10000 a (omega (arith, some)) (omega (arith, whole, low)) small)
    ∙ ap (λ (n : Option ℕ). said_with n (λ b. said_if (nat_le a b) (Opens lane (ContainBlock a b)))) (number_within 10000 b (omega (arith, some, whole)) low few)
    ∙ ap (λ (t : Bool). said_if t (Opens lane (ContainBlock a b))) (le-leb a b whole)

says_asof : (lane asked k : ℕ) → asked ≤ 4294967295 → 1 ≤ k → k ≤ 10000 → command_said lane (with_word (codes "asof") (with_word (decimal asked) (decimal k))) ≡ Opens lane (AsOfBlock asked k)
says_asof lane asked k far some low =
    let small : asked < 2 ^ 64 = omega (arith, far) in
    let few : k < 2 ^ 64 = omega (arith, low) in
    let is_asked = number_word asked small in
    let is_k = number_word k few in
    by_word lane (with_word (codes "asof") (with_word (decimal asked) (decimal k))) (codes "asof") (first_of (codes "asof") (with_word (decimal asked) (decimal k)) asof_word)
    ∙ by_rest AsOfForm lane (with_word (codes "asof") (with_word (decimal asked) (decimal k))) (with_word (decimal asked) (decimal k))
    (behind_of (codes "asof") (with_word (decimal asked) (decimal k)) asof_word (word_begins (decimal asked) (decimal k) is_asked))
    ∙ by_words AsOfForm lane (with_word (decimal asked) (decimal k)) (decimal asked ∷ decimal k ∷ [])
    (words_of (decimal asked) (decimal k) is_asked ∙ ap (λ (ws : List Text). decimal asked ∷ ws) (words_alone (decimal k) is_k))
    ∙ ap (λ (n : Option ℕ). said_with n (λ asked. said_with (number 10000 (decimal k)) (λ k. Opens lane (AsOfBlock asked k)))) (number_or_zero_within 4294967295 asked far small)
    ∙ ap (λ (n : Option ℕ). said_with n (λ k. Opens lane (AsOfBlock asked k))) (number_within 10000 k (omega (arith, some)) low few)

says_file : (lane : ℕ) (name path : Text) → is_name name ≡ true → IsPath path → command_said lane (with_word (codes "loadfile") (with_word name path)) ≡ Fetches lane name path
says_file lane name path h path_is =
    let is = name_word name h in
    let behind : behind_word (with_word name path) ≡ path = behind_of name path is path_is.front in
    let others = has_word path path_is.some path_is.front in
    by_word lane (with_word (codes "loadfile") (with_word name path)) (codes "loadfile") (first_of (codes "loadfile") (with_word name path) load_file_word)
    ∙ by_rest LoadFileForm lane (with_word (codes "loadfile") (with_word name path)) (with_word name path) (behind_of (codes "loadfile") (with_word name path) load_file_word (word_begins name path is))
    ∙ by_words LoadFileForm lane (with_word name path) (name ∷ others.word ∷ others.others) (words_of name path is ∙ ap (λ (ws : List Text). name ∷ ws) others.are)
    ∙ ap (λ (t : Text). fetch_said lane name (before_spaces t)) behind
    ∙ ap (fetch_said lane name) path_is.back
    ∙ ap (λ (b : Bool). said_if (b && is_utf8 path) (Fetches lane name path)) h
    ∙ ap (λ (b : Bool). said_if b (Fetches lane name path)) path_is.utf8

-- A task says itself.
pub says_task : (limits : ScriptLimits) (lane : ℕ) (path : Text) (task : Task) → IsTask limits path task → command_said lane (task_text path task) ≡ task_said lane path task
says_task limits lane path (Load name body) is = says_load lane name is.0
says_task limits lane path (LoadFile name file) is = says_file lane name path is.0 is.1
says_task limits lane path (DropTable name) is = says_drop lane name is
says_task limits lane path (Replace name body) is = says_replace lane name is.0
says_task limits lane path Tables is = says_tables lane
says_task limits lane path (Search k body) is = says_search lane k is.0.0 is.0.1
says_task limits lane path (Like k name place) is = says_like lane k place name is.0.0 is.0.1 is.1 is.2.0 is.2.1
says_task limits lane path (Contain a b body) is = says_contain lane a b is.0 is.1 is.2
says_task limits lane path (AsOf asked k body) is = says_asof lane asked k is.0 is.1.0 is.1.1
says_task limits lane path (Merge false) is = says_merge lane
says_task limits lane path (Merge true) is = says_merge_all lane

-- ---- with the lane

-- the text of a task begins with a word that is not `sync`
record BeginsTask (path : Text) (task : Task) : Type 0 where
  pub front : BeginsWell (task_text path task)
  pub other : bytes_eq (first_word (task_text path task)) (codes "sync") ≡ false

begins_task : (path : Text) (task : Task) → BeginsTask path task
begins_task path (Load name body) = record { front = refl; other = ap (λ (w : Text). bytes_eq w (codes "sync")) (first_of (codes "load") name load_word) }
begins_task path (LoadFile name file) = record { front = refl; other = ap (λ (w : Text). bytes_eq w (codes "sync")) (first_of (codes "loadfile") (with_word name path) load_file_word) }
begins_task path (DropTable name) = record { front = refl; other = ap (λ (w : Text). bytes_eq w (codes "sync")) (first_of (codes "drop") name drop_word) }
begins_task path (Replace name body) = record { front = refl; other = ap (λ (w : Text). bytes_eq w (codes "sync")) (first_of (codes "replace") name replace_word) }
begins_task path Tables = record { front = refl; other = ap (λ (w : Text). bytes_eq w (codes "sync")) (first_alone (codes "tables") tables_word) }
begins_task path (Search k body) = record { front = refl; other = ap (λ (w : Text). bytes_eq w (codes "sync")) (first_of (codes "search") (decimal k) search_word) }
begins_task path (Like k name place) = record { front = refl; other = ap (λ (w : Text). bytes_eq w (codes "sync")) (first_of (codes "like") (with_word (decimal k) (with_word name (decimal place))) like_word) }
begins_task path (Contain a b body) = record { front = refl; other = ap (λ (w : Text). bytes_eq w (codes "sync")) (first_of (codes "contain") (with_word (decimal a) (decimal b)) contain_word) }
begins_task path (AsOf asked k body) = record { front = refl; other = ap (λ (w : Text). bytes_eq w (codes "sync")) (first_of (codes "asof") (with_word (decimal asked) (decimal k)) asof_word) }
begins_task path (Merge false) = record { front = refl; other = ap (λ (w : Text). bytes_eq w (codes "sync")) (first_alone (codes "merge") merge_word) }
begins_task path (Merge true) = record { front = refl; other = ap (λ (w : Text). bytes_eq w (codes "sync")) (first_of (codes "merge") (codes "all") merge_word) }

-- The line of a command says its task in its lane.
pub says_line : (limits : ScriptLimits) (lanes lane : ℕ) (path : Text) (task : Task) → 0 < lane → lane ≤ lanes → lane < 2 ^ 64 → IsTask limits path task
    → said lanes (with_word (0x40 ∷ decimal lane) (task_text path task)) ≡ task_said lane path task
says_line limits lanes lane path task some low small is =
    let digits = number_word lane small in
    let lane_word : IsWord (0x40 ∷ decimal lane) = (omega arith, (refl, digits.1)) in
    let begins = begins_task path task in
    let text : Text = with_word (0x40 ∷ decimal lane) (task_text path task) in
    let first : first_word text ≡ 0x40 ∷ decimal lane = first_of (0x40 ∷ decimal lane) (task_text path task) lane_word in
    let behind : behind_word text ≡ task_text path task = behind_of (0x40 ∷ decimal lane) (task_text path task) lane_word begins.front in
    ap (λ (w : Text). if get_or w 0 0 == 0x40 then lane_said lanes (number_of (drop 1 w)) (behind_word text) else command_said 1 text) first
    ∙ ap (λ (t : Text). lane_said lanes (number_of (decimal lane)) t) behind
    ∙ ap (λ (n : Option ℕ). lane_said lanes n (task_text path task)) (number_back lane some small)
    ∙ ap (λ (b : Bool). if b then Wrong reason.Words else if nat_lt lanes lane then Wrong reason.Lane else command_said lane (task_text path task)) begins.other
    ∙ ap (λ (b : Bool). if b then Wrong reason.Lane else command_said lane (task_text path task)) (le-ltb lanes lane low)
    ∙ says_task limits lane path task is
