-- Lines at the beginning of a text that are one group, and the groups of what follows them.
use Rattle.std.proofs.Common.{◌≡◌, refl, ap, sym, ◌∙◌, subst, ℕ, ◌≤◌, ◌<◌, List, [], ◌∷◌, ◌++◌, append_assoc, length, length-append, take, drop, ◌-◌, Bool, true, false, cond, arith}
use Rattle.std.specs.Prelude.{◌==◌, ◌&&◌, get_or, not, IfNone, Option, None, Some}
use Rattle.std.proofs.lemmas.List.{append-nil}
use Rattle.std.proofs.lemmas.Grind.{flat_map-append}
use Rattle.std.proofs.lemmas.Bool.{eqb-true}
use Rattle.std.proofs.Math.Seq.{take-append_seam}
use Rattle.list_laws.proofs.ListLemmas.{drop_seam}
use Rattle.lake_model.specs.Texts.{Text, Lines, lines_with, lines_of, onto_first}
use Rattle.script_model.specs.Words.{NoFeed, line_text}
use Rattle.script_model.proofs.ScriptLemmas.{joined, lines_first, lines_more, lines_none}
use Rattle.trace_laws.specs.Reading.{Groups, groups_with, grouped, is_cut, is_first, is_nothing}
use Rattle.trace_groups.specs.Pieces.{IsGroup, IsSplit, group_text}

-- ---- a group that may go on

-- whole lines, of which only the first begins an answer
pub record Leads (front : Text) : Type 0 where
  pub lines : List Text
  pub are : lines_of front ≡ lines_with lines []
  pub back : group_text lines ≡ front
  pub some : 0 < length front
  pub shape : (later : List Text) → grouped (lines ++ later) ≡ groups_with [] ((lines ++ (grouped later).opening) ∷ (grouped later).groups)

one_line : (line : Text) → NoFeed line → lines_of (line ++ 0x0A ∷ []) ≡ lines_with (line ∷ []) []
unfolding lines_of
one_line line whole = lines_first line [] whole

pub leads_first : (line : Text) → NoFeed line → is_first line ≡ true → Leads (line_text line)
leads_first line whole first = record {
  lines = line ∷ [];
  are = one_line line whole;
  back = append-nil (line_text line);
  some = omega (arith, length-append line (0x0A ∷ []));
  shape = λ later. ap (λ (b : Bool). cond b (groups_with [] ((line ∷ (grouped later).opening) ∷ (grouped later).groups)) (groups_with (line ∷ (grouped later).opening) (grouped later).groups)) first;
}

pub leads_more : (front line : Text) → Leads front → NoFeed line → is_first line ≡ false → Leads (front ++ line_text line)
leads_more front line lead whole other =
    let lines : List Text = lead.lines in
    record {
      lines = lines ++ line ∷ [];
      are = lines_more front (line_text line)
          ∙ ap (λ (ls : Lines). joined ls (line_text line)) lead.are
          ∙ ap (λ (ls : Lines). lines_with (lines ++ ls.ended) ls.rest) (one_line line whole);
      back = flat_map-append line_text lines (line ∷ []) ∙ ap (λ (t : Text). t ++ group_text (line ∷ [])) lead.back ∙ ap (λ (t : Text). front ++ t) (append-nil (line_text line));
      some = omega (arith, lead.some, length-append front (line_text line));
      shape = λ later.
          ap grouped (append_assoc lines (line ∷ []) later) ∙ lead.shape (line ∷ later)
          ∙ ap (λ (g : Groups). groups_with [] ((lines ++ g.opening) ∷ g.groups))
          (ap (λ (b : Bool). cond b (groups_with [] ((line ∷ (grouped later).opening) ∷ (grouped later).groups)) (groups_with (line ∷ (grouped later).opening) (grouped later).groups)) other)
          ∙ ap (λ (ls : List Text). groups_with [] (ls ∷ (grouped later).groups)) (sym (append_assoc lines (line ∷ []) (grouped later).opening));
    }

-- ---- how a text begins

-- a text that does not begin with a space has no line before its first answer
opening_none : (text : Text) → (get_or text 0 0 == 0x20) ≡ false → (grouped (lines_of text).ended).opening ≡ []
unfolding lines_of
opening_none [] other = refl
opening_none (byte ∷ bytes) other = by (byte == 0x0A) (lines_of bytes).ended (lines_of bytes).rest
  where
    begins : (line : Text) (lines : List Text) → is_first line ≡ true → (grouped (line ∷ lines)).opening ≡ []
    begins line lines first = ap (λ (b : Bool). (cond b (groups_with [] ((line ∷ (grouped lines).opening) ∷ (grouped lines).groups)) (groups_with (line ∷ (grouped lines).opening) (grouped lines).groups)).opening) first

    by : (b : Bool) (ended : List Text) (rest : Text) → (grouped (cond b (lines_with ([] ∷ ended) rest) (onto_first byte ended rest)).ended).opening ≡ []
    by true ended rest = begins [] ended refl
    by false [] rest = refl
    by false (line ∷ lines) rest = begins (byte ∷ line) lines (ap not other)

-- and one that begins with a space is not cut
pub not_cut_first : (text : Text) → (get_or text 0 0 == 0x20) ≡ true → is_cut text ≡ false
unfolding lines_of
not_cut_first [] space = sym space
not_cut_first (byte ∷ bytes) space = ap (λ (b : ℕ). is_cut (b ∷ bytes)) (eqb-true byte 0x20 space) ∙ by (lines_of bytes).ended (lines_of bytes).rest
  where
    by : (ended : List Text) (rest : Text) → (is_nothing (onto_first 0x20 ended rest).rest && is_nothing (grouped (onto_first 0x20 ended rest).ended).opening) ≡ false
    by [] rest = refl
    by (line ∷ lines) rest = both_ways (is_nothing rest)
      where
        both_ways : (b : Bool) → (b && false) ≡ false
        both_ways true = refl
        both_ways false = refl

-- ---- the last line

rest_is : (text : Text) → 0 < length text → is_nothing text ≡ false
rest_is [] some = absurd (omega (arith, some))
rest_is (byte ∷ bytes) some = refl

pub not_cut : (text : Text) → NoFeed text → 0 < length text → is_cut text ≡ false
not_cut text whole some =
    ap (λ (ls : Lines). is_nothing ls.rest && is_nothing (grouped ls.ended).opening) (lines_none text whole)
    ∙ ap (λ (b : Bool). b && is_nothing (grouped []).opening) (rest_is text some)

lines_behind : (front behind : Text) (lead : Leads front) → lines_of (front ++ behind) ≡ lines_with (lead.lines ++ (lines_of behind).ended) (lines_of behind).rest
lines_behind front behind lead = lines_more front behind ∙ ap (λ (ls : Lines). joined ls behind) lead.are

pub not_cut_behind : (front behind : Text) → Leads front → NoFeed behind → 0 < length behind → is_cut (front ++ behind) ≡ false
not_cut_behind front behind lead whole some =
    ap (λ (ls : Lines). is_nothing ls.rest && is_nothing (grouped ls.ended).opening) (lines_behind front behind lead ∙ ap (λ (ls : Lines). lines_with (lead.lines ++ ls.ended) ls.rest) (lines_none behind whole))
    ∙ ap (λ (b : Bool). b && is_nothing (grouped (lead.lines ++ [])).opening) (rest_is behind some)

-- ---- the group

pub group_is : (front behind : Text) → Leads front → (get_or behind 0 0 == 0x20) ≡ false → IsGroup (front ++ behind) front behind
group_is front behind lead first =
    let later : List Text = (lines_of behind).ended in
    let none : (grouped later).opening ≡ [] = opening_none behind first in
    let all : lines_of (front ++ behind) ≡ lines_with (lead.lines ++ later) (lines_of behind).rest = lines_behind front behind lead in
    let ended : (lines_of front).ended ≡ lead.lines = ap (λ (ls : Lines). ls.ended) lead.are in
    let shape : grouped (lines_of (front ++ behind)).ended ≡ groups_with [] ((lead.lines ++ (grouped later).opening) ∷ (grouped later).groups) =
    ap (λ (ls : Lines). grouped ls.ended) all ∙ lead.shape later in
    record {
      is = refl;
      some = lead.some;
      groups = ap (λ (g : Groups). g.groups) shape
          ∙ ap (λ (ls : List Text). ls ∷ (grouped later).groups) (ap (λ (os : List Text). lead.lines ++ os) none ∙ append-nil lead.lines ∙ sym ended);
      lines = ap group_text ended ∙ lead.back;
      cut = ap (λ (g : Groups). is_nothing (lines_of (front ++ behind)).rest && is_nothing g.opening) shape
          ∙ ap (λ (ls : Lines). is_nothing ls.rest && true) all
          ∙ sym (ap (λ (os : List Text). is_nothing (lines_of behind).rest && is_nothing os) none);
      first = first;
    }

-- ---- the first line of a text

-- a line's first byte decides whether it begins an answer
pub first_by : (text line behind : Text) (b : Bool) → IsSplit text line behind → (get_or text 0 0 == 0x20) ≡ b → is_first line ≡ not b
first_by text line behind b split e = by line split.is
  where
    by : (line : Text) → text ≡ line ++ 0x0A ∷ behind → is_first line ≡ not b
    by [] is = ap not (sym (ap (λ (t : Text). get_or t 0 0 == 0x20) is) ∙ e)
    by (byte ∷ line) is = ap not (sym (ap (λ (t : Text). get_or t 0 0 == 0x20) is) ∙ e)

pub lines_split : (text line behind : Text) → IsSplit text line behind → lines_of text ≡ lines_with (line ∷ (lines_of behind).ended) (lines_of behind).rest
lines_split text line behind split = ap lines_of split.is ∙ lines_first line behind split.whole

pub shorter : (text line behind : Text) → IsSplit text line behind → length behind < length text
shorter text line behind split = omega (arith, ap (λ (t : Text). length t) split.is, length-append line (0x0A ∷ behind))

-- ---- a text of which a group has begun

pub record HasBegun (text behind : Text) : Type 0 where
  pub front : Text
  pub is : text ≡ front ++ behind
  pub leads : Leads front

pub begun_first : (text line behind : Text) → IsSplit text line behind → (get_or text 0 0 == 0x20) ≡ false → HasBegun text behind
begun_first text line behind split other = record {
  front = line_text line;
  is = split.is ∙ sym (append_assoc line (0x0A ∷ []) behind);
  leads = leads_first line split.whole (first_by text line behind false split other);
}

pub begun_more : (text before line behind : Text) → HasBegun text before → IsSplit before line behind → (get_or before 0 0 == 0x20) ≡ true → HasBegun text behind
begun_more text before line behind begun split space = record {
  front = begun.front ++ line_text line;
  is = begun.is ∙ ap (λ (t : Text). begun.front ++ t) (split.is ∙ sym (append_assoc line (0x0A ∷ []) behind)) ∙ sym (append_assoc begun.front (line_text line) behind);
  leads = leads_more begun.front line begun.leads split.whole (first_by before line behind true split space);
}

pub begun_few : (text behind : Text) → HasBegun text behind → length behind ≤ length text
begun_few text behind begun = omega (arith, ap (λ (t : Text). length t) begun.is, length-append begun.front behind)

pub begun_group : (text behind : Text) (n : ℕ) → HasBegun text behind → (get_or behind 0 0 == 0x20) ≡ false → n ≡ length text - length behind → IsGroup text (take n text) (drop n text)
begun_group text behind n begun first size =
    let front : Text = begun.front in
    let many : n ≡ length front = omega (arith, size, ap (λ (t : Text). length t) begun.is, length-append front behind) in
    let before : take n text ≡ front = ap (λ (m : ℕ). take m text) many ∙ ap (take (length front)) begun.is ∙ take-append_seam front behind in
    let after : drop n text ≡ behind = ap (λ (m : ℕ). drop m text) many ∙ ap (drop (length front)) begun.is ∙ drop_seam front behind in
    subst (λ (t : Text). IsGroup text t (drop n text)) (sym before) (subst (λ (t : Text). IsGroup text front t) (sym after) (subst (λ (t : Text). IsGroup t front behind) (sym begun.is) (group_is front behind begun.leads first)))

some_first : (text : Text) → (get_or text 0 0 == 0x20) ≡ true → 0 < length text
some_first [] space = cc
some_first (byte ∷ text) space = omega arith

pub begun_not_cut : (text behind : Text) → HasBegun text behind → NoFeed behind → (get_or behind 0 0 == 0x20) ≡ true → is_cut text ≡ false
begun_not_cut text behind begun whole space = ap is_cut begun.is ∙ not_cut_behind begun.front behind begun.leads whole (some_first behind space)

pub if_none : {X : Type 0} (P : Type 0) (found : Option X) → P → IfNone found P
if_none P None h = h
if_none P (Some x) h = tt
