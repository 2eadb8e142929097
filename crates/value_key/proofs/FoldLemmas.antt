-- A key step by step: folding character by character, and a step over the characters of a text that was read again.
use Rattle.std.proofs.Common.{◌≡◌, ap, sym, ◌∙◌, ℕ, List, [], ◌∷◌, ◌++◌, append_assoc, append-nil, encode_utf8, encode_utf8_all}
use Rattle.std.specs.Prelude.{chars, IsUtf8}
use Rattle.std.proofs.lemmas.Str.{chars_from_encodes, encodes-append}
use Rattle.caseless.proofs.CaselessLemmas.{default_case_fold-nil, default_case_fold-cons, default_case_fold_idem}
use Rattle.caseless.specs.Caseless.{default_case_fold}
use Rattle.ucd_case.specs.CaseFolding.{full_fold}
use Rattle.unicode_normalization.specs.Forms.{Form, nfkd, normalize}

-- one more character was folded and written
pub folds_more : (out more left rest : List ℕ) (c : ℕ) → more ≡ out ++ encode_utf8_all (full_fold c) → left ≡ c ∷ rest
    → more ++ encode_utf8_all (default_case_fold rest) ≡ out ++ encode_utf8_all (default_case_fold left)
folds_more out more left rest c pushed first =
    ap (λ bytes. bytes ++ encode_utf8_all (default_case_fold rest)) pushed
    ∙ append_assoc out (encode_utf8_all (full_fold c)) (encode_utf8_all (default_case_fold rest))
    ∙ ap (λ bytes. out ++ bytes) (sym (ap encode_utf8_all (ap default_case_fold first ∙ default_case_fold-cons c rest) ∙ encodes-append (full_fold c) (default_case_fold rest)))

-- no character is left to be folded
pub folds_all : (out left : List ℕ) → left ≡ [] → out ≡ out ++ encode_utf8_all (default_case_fold left)
folds_all out left none = sym (ap (λ cs. out ++ encode_utf8_all cs) (ap default_case_fold none ∙ default_case_fold-nil) ∙ append-nil out)

-- one more character was written
pub writes_more : (start out more seen cs : List ℕ) (c : ℕ) → out ≡ start ++ encode_utf8_all seen → more ≡ out ++ encode_utf8 c → cs ≡ seen ++ c ∷ []
    → more ≡ start ++ encode_utf8_all cs
writes_more start out more seen cs c before pushed last =
    let one = encodes-append seen (c ∷ []) ∙ ap (λ bytes. encode_utf8_all seen ++ bytes) (append-nil (encode_utf8 c)) in
    pushed ∙ ap (λ bytes. bytes ++ encode_utf8 c) before ∙ append_assoc start (encode_utf8_all seen) (encode_utf8 c)
    ∙ ap (λ bytes. start ++ bytes) (sym (ap encode_utf8_all last ∙ one))

-- the text of known characters, as it was read again
pub read_again : (cs text : List ℕ) → IsUtf8 text → text ≡ encode_utf8_all cs → chars text ≡ cs
read_again cs text utf8 is = sym (chars_from_encodes cs text utf8 (sym is))

pub form_of_read : (form : Form) (cs text : List ℕ) → IsUtf8 text → text ≡ encode_utf8_all cs → encode_utf8_all (normalize form (chars text)) ≡ encode_utf8_all (normalize form cs)
form_of_read form cs text utf8 is = ap (λ (xs : List ℕ). encode_utf8_all (normalize form xs)) (read_again cs text utf8 is)

-- a text that has the normal form passes as it is
pub form_as_is : (form : Form) (cs text : List ℕ) → IsUtf8 text → text ≡ encode_utf8_all cs → normalize form (chars text) ≡ chars text → text ≡ encode_utf8_all (normalize form cs)
form_as_is form cs text utf8 is same =
    is ∙ ap encode_utf8_all (sym (read_again cs text utf8 is) ∙ sym same) ∙ form_of_read form cs text utf8 is

pub fold_as_is : (form : Form) (text : List ℕ) → normalize form (chars text) ≡ chars text → encode_utf8_all (default_case_fold (chars text)) ≡ encode_utf8_all (default_case_fold (normalize form (chars text)))
fold_as_is form text same = ap (λ (xs : List ℕ). encode_utf8_all (default_case_fold xs)) (sym same)

-- folded characters in normal form KD are not changed by the steps that compatibility adds
pub compatible_as_is : (cs text : List ℕ) → IsUtf8 text → text ≡ encode_utf8_all (default_case_fold cs) → nfkd (chars text) ≡ chars text
    → text ≡ encode_utf8_all (nfkd (default_case_fold (nfkd (default_case_fold cs))))
compatible_as_is cs text utf8 is same =
    let read = read_again (default_case_fold cs) text utf8 is in
    let stays : nfkd (default_case_fold cs) ≡ default_case_fold cs = sym (ap nfkd read) ∙ same ∙ read in
    is ∙ sym (ap encode_utf8_all (ap (λ xs. nfkd (default_case_fold xs)) stays ∙ ap nfkd (default_case_fold_idem cs) ∙ stays))
