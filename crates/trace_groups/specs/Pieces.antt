-- A text split after its first line, and after its first group of lines.
use Rattle.std.specs.Prelude.{◌<◌, ◌==◌, ◌≡◌, false, List, ◌∷◌, ◌++◌, flat_map, get_or, length}
use Rattle.lake_model.specs.Texts.{Text, lines_of}
use Rattle.script_model.specs.Words.{NoFeed, line_text}
use Rattle.trace_laws.specs.Reading.{groups_of, is_cut}

-- the text of a group's lines
abbrev pub group_text : List Text → Text
group_text lines = flat_map line_text lines

-- a line, its line feed, and what follows
pub record IsSplit (text line behind : Text) : Type 0 where
  pub whole : NoFeed line
  pub is : text ≡ line ++ 0x0A ∷ behind

-- the lines of the first group, and what follows them
pub record IsGroup (text front behind : Text) : Type 0 where
  pub is : text ≡ front ++ behind
  pub some : 0 < length front
  pub groups : groups_of text ≡ (lines_of front).ended ∷ groups_of behind
  pub lines : group_text (lines_of front).ended ≡ front
  pub cut : is_cut text ≡ is_cut behind
  pub first : (get_or behind 0 0 == 0x20) ≡ false
