-- What one line outside a block says, from its words alone.
use Rattle.std.specs.Prelude.{ℕ, ◌==◌, Bool, ◌&&◌, ◌||◌, if◌then◌else◌, List, [], ◌∷◌, drop, find, get_or, nat_le, nat_lt, bytes_eq, codes, true, false, Option, Some, None}
use Rattle.std.specs.List.{list_all}
use Rattle.std.specs.Str.{is_utf8}
use Rattle.script_model.specs.declared.Reason.{Reason}
use Rattle.script_model.specs.declared.Reason.TheVariants as reason
use Rattle.lake_model.specs.Texts.{Text}
use Rattle.lake_model.specs.Tables.{is_name}
use Rattle.script_model.specs.Commands.{Task, Load, DropTable, Replace, Tables, Search, Like, Contain, AsOf, Merge}
use Rattle.script_model.specs.Words.{is_space, before_spaces, first_word, behind_word, words, number, number_of, number_or_zero}

-- the front of a command that has a block
pub data Front : Type 0 where
  LoadBlock : (name : Text) → Front
  ReplaceBlock : (name : Text) → Front
  SearchBlock : (k : ℕ) → Front
  ContainBlock : (a b : ℕ) → Front
  AsOfBlock : (asked k : ℕ) → Front

abbrev pub closed : Front → List ℕ → Task
closed (LoadBlock name) body = Load name body
closed (ReplaceBlock name) body = Replace name body
closed (SearchBlock k) body = Search k body
closed (ContainBlock a b) body = Contain a b body
closed (AsOfBlock asked k) body = AsOf asked k body

pub data Said : Type 0 where
  Nothing : Said
  Wrong : (reason : Reason) → Said
  Sync : Said
  Does : (lane : ℕ) (task : Task) → Said
  Fetches : (lane : ℕ) (name path : Text) → Said
  Opens : (lane : ℕ) (front : Front) → Said

-- what is said with a number, if there is one
abbrev pub said_with : Option ℕ → (ℕ → Said) → Said
said_with None said = Wrong reason.Words
said_with (Some n) said = said n

abbrev pub said_if : Bool → Said → Said
said_if holds said = if holds then said else Wrong reason.Words

-- ---- the forms of a command

pub data Form : Type 0 where
  LoadForm LoadFileForm DropForm ReplaceForm TablesForm SearchForm LikeForm ContainForm AsOfForm MergeForm SyncForm : Form

-- the command words
abbrev pub forms : List (Text × Form)
forms = (codes "load", LoadForm) ∷ (codes "loadfile", LoadFileForm) ∷ (codes "drop", DropForm) ∷ (codes "replace", ReplaceForm)
    ∷ (codes "tables", TablesForm) ∷ (codes "search", SearchForm) ∷ (codes "like", LikeForm) ∷ (codes "contain", ContainForm) ∷ (codes "asof", AsOfForm) ∷ (codes "merge", MergeForm) ∷ (codes "sync", SyncForm) ∷ []

-- a path is the text after the name without the spaces at its end, and is UTF-8
abbrev pub fetch_said : ℕ → Text → Text → Said
fetch_said lane name path = said_if (is_name name && is_utf8 path) (Fetches lane name path)

abbrev pub like_said : ℕ → Text → Text → Text → Said
like_said lane k name place = said_with (number 10000 k) (λ k. said_with (number 4294967295 place) (λ place. said_if (is_name name) (Does lane (Like k name place))))

-- a fraction is at most 1
abbrev pub contain_said : ℕ → Text → Text → Said
contain_said lane a b = said_with (number 10000 a) (λ a. said_with (number 10000 b) (λ b. said_if (nat_le a b) (Opens lane (ContainBlock a b))))

-- a position may be 0
abbrev pub asof_said : ℕ → Text → Text → Said
asof_said lane asked k = said_with (number_or_zero 4294967295 asked) (λ asked. said_with (number 10000 k) (λ k. Opens lane (AsOfBlock asked k)))

-- a command of this form, from the words after its command word; `text` is the text that has these words
abbrev pub says : Form → ℕ → List Text → Text → Said
says LoadForm lane (name ∷ []) text = said_if (is_name name) (Opens lane (LoadBlock name))
says LoadFileForm lane (name ∷ word ∷ more) text = fetch_said lane name (before_spaces (behind_word text))
says DropForm lane (name ∷ []) text = said_if (is_name name) (Does lane (DropTable name))
says ReplaceForm lane (name ∷ []) text = said_if (is_name name) (Opens lane (ReplaceBlock name))
says TablesForm lane [] text = Does lane Tables
says SearchForm lane (k ∷ []) text = said_with (number 10000 k) (λ k. Opens lane (SearchBlock k))
says LikeForm lane (k ∷ name ∷ place ∷ []) text = like_said lane k name place
says ContainForm lane (a ∷ b ∷ []) text = contain_said lane a b
says AsOfForm lane (asked ∷ k ∷ []) text = asof_said lane asked k
says MergeForm lane [] text = Does lane (Merge false)
says MergeForm lane (word ∷ []) text = said_if (bytes_eq word (codes "all")) (Does lane (Merge true))
says SyncForm lane [] text = Sync
says form lane more text = Wrong reason.Words

-- ---- lines

abbrev pub of_form : ℕ → Text → Option (Text × Form) → Said
of_form lane text None = Wrong reason.Unknown
of_form lane text (Some form) = says form.1 lane (words (behind_word text)) (behind_word text)

-- the command of a text without a lane
abbrev pub command_said : ℕ → Text → Said
command_said lane text = of_form lane text (find (λ form. bytes_eq form.0 (first_word text)) forms)

-- the command of a text after its word for the lane; no lane is greater than `lanes`, and `sync` has none
abbrev pub lane_said : ℕ → Option ℕ → Text → Said
lane_said lanes None text = Wrong reason.Words
lane_said lanes (Some lane) text =
    if bytes_eq (first_word text) (codes "sync") then Wrong reason.Words
    else if nat_lt lanes lane then Wrong reason.Lane
    else command_said lane text

-- a line that is empty, has only spaces, or begins with `#`
abbrev pub is_skipped : Text → Bool
is_skipped text = list_all is_space text || get_or text 0 0 == 0x23

-- a first word that begins with `@` gives the lane; without it the lane is 1
abbrev pub said : ℕ → Text → Said
said lanes text =
    if is_skipped text then Nothing
    else if get_or (first_word text) 0 0 == 0x40 then lane_said lanes (number_of (drop 1 (first_word text))) (behind_word text)
    else command_said 1 text
