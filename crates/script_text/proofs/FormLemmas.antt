-- What the words of a line say.
use Rattle.std.proofs.Common.{◌≡◌, refl, ap, sym, subst, ◌∙◌, ℕ, ◌<◌, ◌≤◌, List, [], ◌∷◌, Bool, true, false, cond, length, min, arith, inl, inr}
use Rattle.std.specs.Prelude.{◌==◌, ◌&&◌, nat_lt, bytes_eq, codes, Option, Some, None, option_map}
use Rattle.std.proofs.lemmas.Bool.{cases_Bool, cases_lt, le-ltb, lt-ltb, ltb-false, true_from_ne_false}
use Rattle.std.specs.Str.{is_utf8}
use Rattle.lake_model.specs.Tables.{is_name}
use Rattle.lake_model.specs.Texts.{Text}
use Rattle.script_model.specs.declared.Reason.TheVariants as reason
use Rattle.script_model.specs.Saying.{AsOfForm, ContainForm, DropForm, Form, LikeForm, LoadFileForm, LoadForm, ReplaceForm, SearchForm, SyncForm, TablesForm, Fetches, Said, Wrong, asof_said, command_said, contain_said, fetch_said, lane_said, like_said, of_form, said_if, says}
use Rattle.script_model.specs.Words.{before_spaces, behind_word, first_word, words}
use Rattle.script_text.specs.Fronts.{IsNotOne, has_none}
use Rattle.script_text.proofs.WordLemmas.{words_more, words_none, words_one, words_some}

-- ---- the command word

pub form_said : (lane : ℕ) (text : Text) (form : Form) (found : Option (Text × Form)) → Some form ≡ option_map (λ f. f.1) found
    → of_form lane text found ≡ says form lane (words (behind_word text)) (behind_word text)
form_said lane text form None e = cc e
form_said lane text form (Some f) e = ap (λ (o : Option Form). of_some o) (sym e)
  where
    of_some : Option Form → Said
    of_some None = Wrong reason.Unknown
    of_some (Some form) = says form lane (words (behind_word text)) (behind_word text)

pub no_form : (lane : ℕ) (text : Text) (found : Option (Text × Form)) → None ≡ option_map (λ f. f.1) found → of_form lane text found ≡ Wrong reason.Unknown
no_form lane text None e = refl
no_form lane text (Some f) e = cc e

-- ---- lanes

-- two numbers that are both too great for a lane
same_by : (lanes one other : ℕ) (text : Text) → nat_lt lanes one ≡ nat_lt lanes other → (nat_lt lanes one ≡ false → ⊥) → lane_said lanes (Some one) text ≡ lane_said lanes (Some other) text
same_by lanes one other text e great =
    let t : nat_lt lanes one ≡ true = true_from_ne_false (nat_lt lanes one) great in
    ap (λ (b : Bool). cond (bytes_eq (first_word text) (codes "sync")) (Wrong reason.Words) (cond b (Wrong reason.Lane) (command_said one text))) t
    ∙ ap (λ (b : Bool). cond (bytes_eq (first_word text) (codes "sync")) (Wrong reason.Words) (cond b (Wrong reason.Lane) (command_said other text))) (sym t ∙ e)

at_least : (lanes : ℕ) (text : Text) (value : ℕ) → lanes < 4294967296 → lane_said lanes (Some value) text ≡ lane_said lanes (Some (min value 4294967296)) text
at_least lanes text value h =
    elim (cases_lt 4294967296 value) [
      | inl great ↦
          let least : min value 4294967296 ≡ 4294967296 = omega (arith, great) in
          same_by lanes value (min value 4294967296) text (lt-ltb lanes value (omega (arith, great, h)) ∙ sym (lt-ltb lanes (min value 4294967296) (omega (arith, least, h)))) (λ e. absurd (omega (arith, great, h, ltb-false lanes value e)))
      | inr small ↦
          let same : value ≡ min value 4294967296 = omega (arith, small) in
          ap (λ (n : ℕ). lane_said lanes (Some n) text) same
    ]

-- A number that is too great for a lane may stand for every greater one.
pub lane_at : (lanes lane : ℕ) (text : Text) (number : Option ℕ) → lanes < 4294967296 → Some lane ≡ option_map (λ n. min n 4294967296) number → lane_said lanes number text ≡ lane_said lanes (Some lane) text
lane_at lanes lane text None h e = cc e
lane_at lanes lane text (Some value) h e = at_least lanes text value h ∙ ap (λ (o : Option ℕ). lane_said lanes o text) (sym e)

pub no_lane : (lanes : ℕ) (text : Text) (number : Option ℕ) → None ≡ option_map (λ n. min n 4294967296) number → lane_said lanes number text ≡ Wrong reason.Words
no_lane lanes text None e = refl
no_lane lanes text (Some value) e = cc e

-- ---- words

pub not_one_load : (lane : ℕ) (text : Text) (ws : List Text) → IsNotOne ws → says LoadForm lane ws text ≡ Wrong reason.Words
not_one_load lane text [] h = refl
not_one_load lane text (w ∷ []) h = absurd h
not_one_load lane text (w ∷ v ∷ ws) h = refl

pub not_one_drop : (lane : ℕ) (text : Text) (ws : List Text) → IsNotOne ws → says DropForm lane ws text ≡ Wrong reason.Words
not_one_drop lane text [] h = refl
not_one_drop lane text (w ∷ []) h = absurd h
not_one_drop lane text (w ∷ v ∷ ws) h = refl

pub not_one_replace : (lane : ℕ) (text : Text) (ws : List Text) → IsNotOne ws → says ReplaceForm lane ws text ≡ Wrong reason.Words
not_one_replace lane text [] h = refl
not_one_replace lane text (w ∷ []) h = absurd h
not_one_replace lane text (w ∷ v ∷ ws) h = refl

pub not_one_search : (lane : ℕ) (text : Text) (ws : List Text) → IsNotOne ws → says SearchForm lane ws text ≡ Wrong reason.Words
not_one_search lane text [] h = refl
not_one_search lane text (w ∷ []) h = absurd h
not_one_search lane text (w ∷ v ∷ ws) h = refl

pub some_tables : (lane : ℕ) (text : Text) (ws : List Text) → has_none ws ≡ false → says TablesForm lane ws text ≡ Wrong reason.Words
some_tables lane text [] h = cc h
some_tables lane text (w ∷ ws) h = refl

pub some_sync : (lane : ℕ) (text : Text) (ws : List Text) → has_none ws ≡ false → says SyncForm lane ws text ≡ Wrong reason.Words
some_sync lane text [] h = cc h
some_sync lane text (w ∷ ws) h = refl

pub two_file : (lane : ℕ) (text name : Text) (ws : List Text) → has_none ws ≡ false → says LoadFileForm lane (name ∷ ws) text ≡ fetch_said lane name (before_spaces (behind_word text))
two_file lane text name [] h = cc h
two_file lane text name (w ∷ ws) h = refl

-- A `loadfile` with fewer than two words.
pub few_file : (lane : ℕ) (text : Text) → has_none (words (behind_word text)) ≡ true → says LoadFileForm lane (words text) text ≡ Wrong reason.Words
few_file lane text h =
    elim (cases_Bool (length (first_word text) == 0)) [
      | inl t ↦ ap (λ (ws : List Text). says LoadFileForm lane ws text) (words_none text t)
      | inr f ↦ ap (λ (ws : List Text). says LoadFileForm lane ws text) (words_one text f h)
    ]

pub full_file : (lane : ℕ) (text : Text) → has_none (words (behind_word text)) ≡ false
    → says LoadFileForm lane (words text) text ≡ fetch_said lane (first_word text) (before_spaces (behind_word text))
full_file lane text h =
    ap (λ (ws : List Text). says LoadFileForm lane ws text) (words_more text h) ∙ two_file lane text (first_word text) (words (behind_word text)) h

pub fetch_no_name : (lane : ℕ) (name path : Text) → is_name name ≡ false → fetch_said lane name path ≡ Wrong reason.Words
fetch_no_name lane name path e = ap (λ (b : Bool). said_if (b && is_utf8 path) (Fetches lane name path)) e

no_either : (b : Bool) (said : Said) → said_if (b && false) said ≡ Wrong reason.Words
no_either true said = refl
no_either false said = refl

pub fetch_no_text : (lane : ℕ) (name path : Text) → is_utf8 path ≡ false → fetch_said lane name path ≡ Wrong reason.Words
fetch_no_text lane name path e = ap (λ (b : Bool). said_if (is_name name && b) (Fetches lane name path)) e ∙ no_either (is_name name) (Fetches lane name path)

pub fetch_both : (lane : ℕ) (name path : Text) → is_name name ≡ true → is_utf8 path ≡ true → fetch_said lane name path ≡ Fetches lane name path
fetch_both lane name path e f =
    ap (λ (b : Bool). said_if (b && is_utf8 path) (Fetches lane name path)) e ∙ ap (λ (b : Bool). said_if b (Fetches lane name path)) f

-- ---- `like`

one_some : (w : Text) (ws : List Text) → ws ≡ w ∷ [] → has_none ws ≡ false
one_some w ws e = ap has_none e

-- The words of a `like`, if one word follows the first two.
pub like_words : (text place : Text) → words (behind_word (behind_word text)) ≡ place ∷ [] → words text ≡ first_word text ∷ first_word (behind_word text) ∷ place ∷ []
like_words text place e =
    let second : words (behind_word text) ≡ first_word (behind_word text) ∷ place ∷ [] =
    words_more (behind_word text) (one_some place (words (behind_word (behind_word text))) e) ∙ ap (λ (ws : List Text). first_word (behind_word text) ∷ ws) e in
    words_more text (ap has_none second) ∙ ap (λ (ws : List Text). first_word text ∷ ws) second

three_like : (lane : ℕ) (text k name : Text) (ws : List Text) → IsNotOne ws → says LikeForm lane (k ∷ name ∷ ws) text ≡ Wrong reason.Words
three_like lane text k name [] h = refl
three_like lane text k name (w ∷ []) h = absurd h
three_like lane text k name (w ∷ v ∷ ws) h = refl

no_like_second : (lane : ℕ) (text k more : Text) → IsNotOne (words (behind_word more)) → says LikeForm lane (k ∷ words more) text ≡ Wrong reason.Words
no_like_second lane text k more h =
    elim (cases_Bool (length (first_word more) == 0)) [
      | inl t ↦ ap (λ (ws : List Text). says LikeForm lane (k ∷ ws) text) (words_none more t)
      | inr f ↦ ap (λ (ws : List Text). says LikeForm lane (k ∷ ws) text) (words_some more f) ∙ three_like lane text k (first_word more) (words (behind_word more)) h
    ]

-- Otherwise it is no `like`.
pub no_like : (lane : ℕ) (text : Text) → IsNotOne (words (behind_word (behind_word text))) → says LikeForm lane (words text) text ≡ Wrong reason.Words
no_like lane text h =
    elim (cases_Bool (length (first_word text) == 0)) [
      | inl t ↦ ap (λ (ws : List Text). says LikeForm lane ws text) (words_none text t)
      | inr f ↦ ap (λ (ws : List Text). says LikeForm lane ws text) (words_some text f) ∙ no_like_second lane text (first_word text) (behind_word text) h
    ]

pub like_by : (lane : ℕ) (text behind behind_both k name place : Text) → behind ≡ behind_word text → behind_both ≡ behind_word behind → words behind_both ≡ place ∷ [] → k ≡ first_word text → name ≡ first_word behind
    → says LikeForm lane (words text) text ≡ like_said lane k name place
like_by lane text behind behind_both k name place e f one g h =
    let both : behind_both ≡ behind_word (behind_word text) = f ∙ ap behind_word e in
    ap (λ (ws : List Text). says LikeForm lane ws text) (like_words text place (ap words (sym both) ∙ one))
    ∙ ap (λ (w : Text). like_said lane w (first_word (behind_word text)) place) (sym g)
    ∙ ap (λ (w : Text). like_said lane k w place) (ap first_word (sym e) ∙ sym h)

pub no_like_by : (lane : ℕ) (text behind behind_both : Text) → behind ≡ behind_word text → behind_both ≡ behind_word behind → IsNotOne (words behind_both) → says LikeForm lane (words text) text ≡ Wrong reason.Words
no_like_by lane text behind behind_both e f h = no_like lane text (subst (λ (t : Text). IsNotOne (words t)) (f ∙ ap behind_word e) h)

-- ---- `contain` and `asof`, each with two words

-- The words of a text, if one word follows the first.
two_words : (text behind second : Text) → behind ≡ behind_word text → words behind ≡ second ∷ [] → words text ≡ first_word text ∷ second ∷ []
two_words text behind second e one =
    let rest : words (behind_word text) ≡ second ∷ [] = ap words (sym e) ∙ one in
    words_more text (one_some second (words (behind_word text)) rest) ∙ ap (λ (ws : List Text). first_word text ∷ ws) rest

-- Otherwise the words are wrong.
not_two : (form : Form) (lane : ℕ) (text behind : Text) → behind ≡ behind_word text → IsNotOne (words behind) → says form lane [] text ≡ Wrong reason.Words
    → ((first : Text) (ws : List Text) → IsNotOne ws → says form lane (first ∷ ws) text ≡ Wrong reason.Words) → says form lane (words text) text ≡ Wrong reason.Words
not_two form lane text behind e h none more =
    let other : IsNotOne (words (behind_word text)) = subst (λ (t : Text). IsNotOne (words t)) e h in
    elim (cases_Bool (length (first_word text) == 0)) [
      | inl t ↦ ap (λ (ws : List Text). says form lane ws text) (words_none text t) ∙ none
      | inr f ↦ ap (λ (ws : List Text). says form lane ws text) (words_some text f) ∙ more (first_word text) (words (behind_word text)) other
    ]

two_contain : (lane : ℕ) (text a : Text) (ws : List Text) → IsNotOne ws → says ContainForm lane (a ∷ ws) text ≡ Wrong reason.Words
two_contain lane text a [] h = refl
two_contain lane text a (w ∷ []) h = absurd h
two_contain lane text a (w ∷ v ∷ ws) h = refl

pub contain_by : (lane : ℕ) (text behind a b : Text) → behind ≡ behind_word text → words behind ≡ b ∷ [] → a ≡ first_word text → says ContainForm lane (words text) text ≡ contain_said lane a b
contain_by lane text behind a b e one g =
    ap (λ (ws : List Text). says ContainForm lane ws text) (two_words text behind b e one) ∙ ap (λ (w : Text). contain_said lane w b) (sym g)

pub no_contain_by : (lane : ℕ) (text behind : Text) → behind ≡ behind_word text → IsNotOne (words behind) → says ContainForm lane (words text) text ≡ Wrong reason.Words
no_contain_by lane text behind e h = not_two ContainForm lane text behind e h refl (two_contain lane text)

two_asof : (lane : ℕ) (text asked : Text) (ws : List Text) → IsNotOne ws → says AsOfForm lane (asked ∷ ws) text ≡ Wrong reason.Words
two_asof lane text asked [] h = refl
two_asof lane text asked (w ∷ []) h = absurd h
two_asof lane text asked (w ∷ v ∷ ws) h = refl

pub asof_by : (lane : ℕ) (text behind asked k : Text) → behind ≡ behind_word text → words behind ≡ k ∷ [] → asked ≡ first_word text → says AsOfForm lane (words text) text ≡ asof_said lane asked k
asof_by lane text behind asked k e one g =
    ap (λ (ws : List Text). says AsOfForm lane ws text) (two_words text behind k e one) ∙ ap (λ (w : Text). asof_said lane w k) (sym g)

pub no_asof_by : (lane : ℕ) (text behind : Text) → behind ≡ behind_word text → IsNotOne (words behind) → says AsOfForm lane (words text) text ≡ Wrong reason.Words
no_asof_by lane text behind e h = not_two AsOfForm lane text behind e h refl (two_asof lane text)

-- ---- the text after a lane word

pub lane_in : (lanes lane : ℕ) (text : Text) → lane ≤ lanes → bytes_eq (first_word text) (codes "sync") ≡ false → lane_said lanes (Some lane) text ≡ command_said lane text
lane_in lanes lane text h e =
    ap (λ (b : Bool). cond b (Wrong reason.Words) (cond (nat_lt lanes lane) (Wrong reason.Lane) (command_said lane text))) e
    ∙ ap (λ (b : Bool). cond b (Wrong reason.Lane) (command_said lane text)) (le-ltb lanes lane h)
