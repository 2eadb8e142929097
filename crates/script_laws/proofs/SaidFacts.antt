-- What a line may say.
use Rattle.std.proofs.Common.{◌≡◌, refl, ℕ, ◌<◌, ◌≤◌, List, [], ◌∷◌, Bool, true, false, arith}
use Rattle.std.specs.Prelude.{Option, None, Some, if◌then◌else◌, drop, nat_le, nat_lt}
use Rattle.std.proofs.lemmas.Bool.{ltb-false}
use Rattle.lake_model.specs.Tables.{is_name}
use Rattle.lake_model.specs.Texts.{Text}
use Rattle.script_model.specs.declared.Reason.{Reason}
use Rattle.script_model.specs.Commands.{Task, DropTable, Tables, Like, Merge, is_fetch}
use Rattle.script_model.specs.Saying.{Does, Fetches, Form, Front, Nothing, Opens, Said, Sync, Wrong, LoadForm, LoadFileForm, DropForm, ReplaceForm, TablesForm, SearchForm, LikeForm, ContainForm, AsOfForm, MergeForm, SyncForm, AsOfBlock, ContainBlock, LoadBlock, ReplaceBlock, SearchBlock, command_said, lane_said, of_form, said, said_if, said_with, says}
use Rattle.script_model.specs.declared.Reason.TheVariants as reason
use Rattle.script_model.specs.Words.{behind_word, digits_value, first_word, is_number, number, number_of, number_or_zero}
use Rattle.script_model.proofs.NumberLemmas.{positive}
use Rattle.script_text.specs.Fronts.{IsLane}

-- It holds of all that a line may say in such a lane; a whole command that a line says is no fetch of a file.
pub record HoldsOf (P : Said → Type 0) (L : ℕ → Type 0) : Type 0 where
  pub nothing : P Nothing
  pub wrong : (why : Reason) → P (Wrong why)
  pub sync : P Sync
  pub does : (lane : ℕ) (task : Task) → L lane → is_fetch task ≡ false → P (Does lane task)
  pub opens : (lane : ℕ) (front : Front) → L lane → P (Opens lane front)
  pub fetches : (lane : ℕ) (name path : Text) → L lane → P (Fetches lane name path)

-- the number of a word is at least 1
number_some : (word : Text) (lane : ℕ) → number_of word ≡ Some lane → 0 < lane
number_some word lane is = by_test (is_number word) refl is
  where
    by_test : (b : Bool) → is_number word ≡ b → (if b then Some (digits_value word) else None) ≡ Some lane → 0 < lane
    by_test true t e = let same : digits_value word ≡ lane = cc e in omega (arith, positive word t, same)
    by_test false t e = absurd (let no : None ≡ Some lane = e in cc)

module _ (P : Said → Type 0) (L : ℕ → Type 0) (holds : HoldsOf P L) where
  by_cond : (b : Bool) (x y : Said) → P x → P y → P (if b then x else y)
  by_cond true x y h k = h
  by_cond false x y h k = k

  by_if : (b : Bool) (x : Said) → P x → P (said_if b x)
  by_if b x h = by_cond b x (Wrong reason.Words) h (holds.wrong reason.Words)

  by_number : (n : Option ℕ) (f : ℕ → Said) → ((k : ℕ) → P (f k)) → P (said_with n f)
  by_number None f h = holds.wrong reason.Words
  by_number (Some k) f h = h k

  by_form : (form : Form) (lane : ℕ) (words : List Text) (text : Text) → L lane → P (says form lane words text)
  by_form LoadForm lane [] text l = holds.wrong reason.Words
  by_form LoadForm lane (name ∷ []) text l = by_if _ _ (holds.opens lane (LoadBlock name) l)
  by_form LoadForm lane (name ∷ word ∷ more) text l = holds.wrong reason.Words
  by_form LoadFileForm lane [] text l = holds.wrong reason.Words
  by_form LoadFileForm lane (name ∷ []) text l = holds.wrong reason.Words
  by_form LoadFileForm lane (name ∷ word ∷ more) text l = by_if _ _ (holds.fetches lane name _ l)
  by_form DropForm lane [] text l = holds.wrong reason.Words
  by_form DropForm lane (name ∷ []) text l = by_if _ _ (holds.does lane (DropTable name) l refl)
  by_form DropForm lane (name ∷ word ∷ more) text l = holds.wrong reason.Words
  by_form ReplaceForm lane [] text l = holds.wrong reason.Words
  by_form ReplaceForm lane (name ∷ []) text l = by_if _ _ (holds.opens lane (ReplaceBlock name) l)
  by_form ReplaceForm lane (name ∷ word ∷ more) text l = holds.wrong reason.Words
  by_form TablesForm lane [] text l = holds.does lane Tables l refl
  by_form TablesForm lane (word ∷ more) text l = holds.wrong reason.Words
  by_form SearchForm lane [] text l = holds.wrong reason.Words
  by_form SearchForm lane (k ∷ []) text l = by_number _ _ (λ n. holds.opens lane (SearchBlock n) l)
  by_form SearchForm lane (k ∷ word ∷ more) text l = holds.wrong reason.Words
  by_form LikeForm lane [] text l = holds.wrong reason.Words
  by_form LikeForm lane (k ∷ []) text l = holds.wrong reason.Words
  by_form LikeForm lane (k ∷ name ∷ []) text l = holds.wrong reason.Words
  by_form LikeForm lane (k ∷ name ∷ place ∷ []) text l =
      by_number (number 10000 k) (λ n. said_with (number 4294967295 place) (λ at. said_if (is_name name) (Does lane (Like n name at))))
      (λ n. by_number (number 4294967295 place) (λ at. said_if (is_name name) (Does lane (Like n name at))) (λ at. by_if (is_name name) (Does lane (Like n name at)) (holds.does lane (Like n name at) l refl)))
  by_form LikeForm lane (k ∷ name ∷ place ∷ word ∷ more) text l = holds.wrong reason.Words
  by_form ContainForm lane [] text l = holds.wrong reason.Words
  by_form ContainForm lane (a ∷ []) text l = holds.wrong reason.Words
  by_form ContainForm lane (a ∷ b ∷ []) text l =
      by_number (number 10000 a) (λ n. said_with (number 10000 b) (λ m. said_if (nat_le n m) (Opens lane (ContainBlock n m))))
      (λ n. by_number (number 10000 b) (λ m. said_if (nat_le n m) (Opens lane (ContainBlock n m))) (λ m. by_if (nat_le n m) (Opens lane (ContainBlock n m)) (holds.opens lane (ContainBlock n m) l)))
  by_form ContainForm lane (a ∷ b ∷ word ∷ more) text l = holds.wrong reason.Words
  by_form AsOfForm lane [] text l = holds.wrong reason.Words
  by_form AsOfForm lane (asked ∷ []) text l = holds.wrong reason.Words
  by_form AsOfForm lane (asked ∷ k ∷ []) text l =
      by_number (number_or_zero 4294967295 asked) (λ n. said_with (number 10000 k) (λ m. Opens lane (AsOfBlock n m)))
      (λ n. by_number (number 10000 k) (λ m. Opens lane (AsOfBlock n m)) (λ m. holds.opens lane (AsOfBlock n m) l))
  by_form AsOfForm lane (asked ∷ k ∷ word ∷ more) text l = holds.wrong reason.Words
  by_form MergeForm lane [] text l = holds.does lane (Merge false) l refl
  by_form MergeForm lane (word ∷ []) text l = by_if _ _ (holds.does lane (Merge true) l refl)
  by_form MergeForm lane (word ∷ other ∷ more) text l = holds.wrong reason.Words
  by_form SyncForm lane [] text l = holds.sync
  by_form SyncForm lane (word ∷ more) text l = holds.wrong reason.Words

  by_found : (lane : ℕ) (text : Text) (found : Option (Text × Form)) → L lane → P (of_form lane text found)
  by_found lane text None l = holds.wrong reason.Unknown
  by_found lane text (Some form) l = by_form form.1 lane _ _ l

  by_high : (lanes lane : ℕ) (text : Text) (high : Bool) → nat_lt lanes lane ≡ high → (lane ≤ lanes → L lane) → P (if high then Wrong reason.Lane else command_said lane text)
  by_high lanes lane text true is l = holds.wrong reason.Lane
  by_high lanes lane text false is l = by_found lane text _ (l (ltb-false lanes lane is))

  by_lane : (lanes : ℕ) (number : Option ℕ) (text : Text) → ((lane : ℕ) → number ≡ Some lane → lane ≤ lanes → L lane) → P (lane_said lanes number text)
  by_lane lanes None text l = holds.wrong reason.Words
  by_lane lanes (Some lane) text l = by_cond _ _ _ (holds.wrong reason.Words) (by_high lanes lane text (nat_lt lanes lane) refl (l lane refl))

  pub said_holds : (lanes : ℕ) (text : Text) → L 1 → ((lane : ℕ) → IsLane lanes lane → L lane) → P (said lanes text)
  said_holds lanes text one l =
      by_cond _ _ _ holds.nothing
      (by_cond _ _ _ (by_lane lanes (number_of (drop 1 (first_word text))) (behind_word text) (λ lane is low. l lane (number_some (drop 1 (first_word text)) lane is, low)))
      (by_found 1 text _ one))
