-- The records that are left, one read at a time, and how many bytes they take.
use Rattle.std.proofs.Common.{sym, Bor, ◌≡◌, ◌≤◌, ◌<◌, ◌+◌, ℕ, zero, suc, List, [], ◌∷◌, length, Option, Some, None, Bool, true, false, refl, ap, subst, arith, ◌∙◌, inl, inr, add-one}
use Rattle.std.specs.Prelude.{IsSome, if◌then◌else◌, ◌==◌, ◌&&◌, drop, nat_eq, sum_by, take}
use Rattle.std.specs.Cmp.Lexicographic.{pointwise}
use Rattle.std.proofs.lemmas.Bool.{cases_Bool, false≢true}
use Rattle.std.proofs.lemmas.Option.{same_Some}
use Rattle.std.proofs.lemmas.List.{length-append}
use Rattle.std.proofs.lemmas.List.Sums.{sum_by-append, sum_by-cons}
use Rattle.csv.specs.Machine.{Read, after_end, ends_at_end, ends_with, field_after, fields_after, in_field, is_byte, is_end, next_record, start_field, start_record, step}
use Rattle.csv.specs.declared.error.ErrorKind.{ErrorKind}
use Rattle.csv.specs.declared.error.ErrorKind.TheVariants as kind
use Rattle.csv.specs.Reading.{ExplainsRead, is_flexible, stops_reader, ReadRecord, Reached, default_config, records_from, records_next, source_of, strip_bom, took_first}
use Rattle.csv_table.specs.RecordsLeft.{IsReading, records_left}
use Rattle.csv.specs.declared.parser.Config.{Config}
use Rattle.csv.specs.declared.parser.Terminator.{Terminator}
use Rattle.csv.specs.declared.parser.Terminator.TheVariants as term
use Rattle.csv.specs.declared.parser.State.{State}
use Rattle.csv.specs.declared.parser.State.TheVariants as st
use Rattle.csv.specs.declared.parser.Action.{Action}
use Rattle.csv.specs.declared.parser.Action.TheVariants as act
use Rattle.csv.specs.declared.reader.Reader.{Reader}
use Rattle.csv.proofs.ReadFacts.{rows-end, rows-more}
use Rattle.lake_model.specs.Records.{Record, text_size}

-- a step that ends a record leaves a state at which the text may end
abbrev IsQuiet : State × Action → Type 0
IsQuiet p = is_end p.1 ≡ true → ends_at_end p.0 ≡ false

quiet_if : (b : Bool) (x y : State × Action) → IsQuiet x → IsQuiet y → IsQuiet (if b then x else y)
quiet_if true x y p q = p
quiet_if false x y p q = q

quiet_after : (t : Terminator) (c : ℕ) → ends_at_end (after_end t c) ≡ false
quiet_after term.CRLF c = elim (c == 13) as (λ b. ends_at_end (if b then st.AfterCr else st.StartRecord) ≡ false) [ true ↦ refl | false ↦ refl ]
quiet_after (term.Any t) c = refl

quiet_field : (cfg : Config) (c : ℕ) → IsQuiet (in_field cfg c)
quiet_field cfg c =
    quiet_if (c == cfg.delimiter) _ _ (λ e. absurd (false≢true e)) (
    quiet_if (ends_with cfg.terminator c) (after_end cfg.terminator c, act.EndRecord) (st.InField, act.Copy) (λ e. quiet_after cfg.terminator c) (λ e. absurd (false≢true e)))

quiet_start : (cfg : Config) (c : ℕ) → IsQuiet (start_field cfg c)
quiet_start cfg c = quiet_if (cfg.quoting && (c == cfg.quote)) _ _ (λ e. absurd (false≢true e)) (quiet_field cfg c)

quiet_record : (cfg : Config) (c : ℕ) → IsQuiet (start_record cfg c)
quiet_record cfg c =
    quiet_if (ends_with cfg.terminator c) _ _ (λ e. absurd (false≢true e)) (
    quiet_if (is_byte cfg.comment c) _ _ (λ e. absurd (false≢true e)) (quiet_start cfg c))

pub quiet_step : (cfg : Config) (s : State) (c : ℕ) → IsQuiet (step cfg s c)
quiet_step cfg st.StartRecord c = quiet_record cfg c
quiet_step cfg st.StartField c = quiet_start cfg c
quiet_step cfg st.InField c = quiet_field cfg c
quiet_step cfg st.InQuoted c =
    quiet_if (cfg.quoting && (c == cfg.quote)) _ _ (λ e. absurd (false≢true e)) (
    quiet_if (cfg.quoting && is_byte cfg.escape c) _ _ (λ e. absurd (false≢true e)) (λ e. absurd (false≢true e)))
quiet_step cfg st.InEscape c = λ e. absurd (false≢true e)
quiet_step cfg st.AfterQuote c =
    quiet_if (cfg.quoting && cfg.double_quote && (c == cfg.quote)) _ _ (λ e. absurd (false≢true e)) (quiet_field cfg c)
quiet_step cfg st.InComment c = quiet_if (c == 10) _ _ (λ e. absurd (false≢true e)) (λ e. absurd (false≢true e))
quiet_step cfg st.AfterCr c = quiet_if (c == 10) _ _ (λ e. absurd (false≢true e)) (quiet_record cfg c)

-- a byte adds at most one byte to the fields
after_size : (a : Action) (c : ℕ) (fields : List (List ℕ)) (field : List ℕ)
    → sum_by length (fields_after a fields field) + length (field_after a c field) ≤ sum_by length fields + length field + 1
after_size act.Skip c fields field = omega arith
after_size act.Copy c fields field = let e = length-append field (c ∷ []) in omega arith
after_size act.EndField c fields field = grind (arith, sum_by-append)
after_size act.EndRecord c fields field = grind (arith, sum_by-append)

-- what a record that was read took
pub record Takes (size : ℕ) (text : ℕ) (p : Read) : Type 0 where
  pub shorter : length p.2 ≤ text
  pub quiet : ends_at_end p.1 ≡ false
  pub bytes : sum_by length p.0 + length p.2 ≤ size + text

takes : (cfg : Config) (s : State) (fields : List (List ℕ)) (field xs : List ℕ) (p : Read) → next_record cfg s fields field xs ≡ Some p
    → Takes (sum_by length fields + length field) (length xs) p
unfolding next_record
takes cfg s fields field [] p e =
    elim (cases_Bool (ends_at_end s)) [
      | inl t ↦ let is = same_Some _ _ (rw t at e) in
          subst (λ (q : Read). Takes (sum_by length fields + length field) 0 q) is (record { shorter = omega arith; quiet = refl; bytes = grind (arith, sum_by-append) })
      | inr f ↦ cc (rw f at e)
    ]
takes cfg s fields field (c ∷ rest) p e =
    elim (cases_Bool (is_end (step cfg s c).1)) [
      | inl t ↦ let is = same_Some _ _ (rw t at e) in
          let more = after_size (step cfg s c).1 c fields field in
          subst (λ (q : Read). Takes (sum_by length fields + length field) (length (c ∷ rest)) q) is (record { shorter = omega arith; quiet = quiet_step cfg s c t; bytes = omega arith })
      | inr f ↦
          let more = after_size (step cfg s c).1 c fields field in
          let h = takes cfg (step cfg s c).0 (fields_after (step cfg s c).1 fields field) (field_after (step cfg s c).1 c field) rest p (rw f at e) in
          record { shorter = omega (arith, h.shorter); quiet = h.quiet; bytes = omega (arith, h.bytes) }
    ]

-- a record that begins after another takes a byte
takes_byte : (cfg : Config) (s : State) (xs : List ℕ) (p : Read) → ends_at_end s ≡ false → next_record cfg s [] [] xs ≡ Some p → length p.2 < length xs
unfolding next_record
takes_byte cfg s [] p q e = cc (rw q at e)
takes_byte cfg s (c ∷ rest) p q e =
    elim (cases_Bool (is_end (step cfg s c).1)) [
      | inl t ↦ let is = same_Some _ _ (rw t at e) in subst (λ (r : Read). length r.2 < length (c ∷ rest)) is (omega arith)
      | inr f ↦
          let h = takes cfg (step cfg s c).0 (fields_after (step cfg s c).1 [] []) (field_after (step cfg s c).1 c []) rest p (rw f at e) in
          omega (arith, h.shorter)
    ]

-- two ways to go on that agree after the record that was read give the same records
next_same : (o : Option Read) (f g : State → List ℕ → List Record) → ((p : Read) → o ≡ Some p → f p.1 p.2 ≡ g p.1 p.2) → records_next f o ≡ records_next g o
next_same None f g h = refl
next_same (Some p) f g h = ap (λ (t : List Record). p.0 ∷ t) (h p refl)

-- more turns than bytes give no more records
turns : (cfg : Config) (m n : ℕ) (s : State) (xs : List ℕ) → ends_at_end s ≡ false → length xs < m → length xs < n
    → records_from cfg m s xs ≡ records_from cfg n s xs
unfolding records_from
turns cfg zero n s xs q a b = absurd (omega arith)
turns cfg (suc m) zero s xs q a b = absurd (omega arith)
turns cfg (suc m) (suc n) s xs q a b =
    next_same (next_record cfg s [] [] xs) (records_from cfg m) (records_from cfg n) (λ p e.
    let less = takes_byte cfg s xs p q e in
    turns cfg m n p.1 p.2 (takes cfg s [] [] xs p e).quiet (omega arith) (omega arith))

-- the records of what a reader has left
abbrev pub left_records : Config → State → List ℕ → List Record
left_records cfg s y = records_from cfg (length y + 1) s y

-- a record that is read is the first of those left
pub left_more : (cfg : Config) (s s2 : State) (y z : List ℕ) (f : Record) → ends_at_end s ≡ false → next_record cfg s [] [] y ≡ Some (f, s2, z)
    → left_records cfg s y ≡ f ∷ left_records cfg s2 z
unfolding records_from
left_more cfg s s2 y z f q e =
    let less = takes_byte cfg s y (f, s2, z) q e in
    let quiet = (takes cfg s [] [] y (f, s2, z) e).quiet in
    let less2 : length z < length y = less in
    rw (add-one (length y), e) (ap (λ (t : List Record). f ∷ t) (turns cfg (length y) (length z + 1) s2 z quiet less2 (omega arith)))

-- and where none is read, none is left
pub left_none : (cfg : Config) (s : State) (y : List ℕ) → next_record cfg s [] [] y ≡ None → left_records cfg s y ≡ []
unfolding records_from
left_none cfg s y e = rw (add-one (length y), e) refl

-- the records from a read on
abbrev pub reading : Option Read → List Record
reading o = records_next (left_records default_config) o

left_by : (s : State) (xs : List ℕ) (o : Option Read) → ends_at_end s ≡ false → next_record default_config s [] [] xs ≡ o → left_records default_config s xs ≡ reading o
left_by s xs None quiet e = left_none default_config s xs e
left_by s xs (Some p) quiet e = left_more default_config s p.1 xs p.2 p.0 quiet e

-- the records that are left are those from the next read on
pub left_next : (s : State) (xs : List ℕ) → ends_at_end s ≡ false → left_records default_config s xs ≡ reading (next_record default_config s [] [] xs)
left_next s xs quiet = left_by s xs (next_record default_config s [] [] xs) quiet refl

-- the parts of what was read, put together
next_is : (o : Option Read) (p : Read) (f : Record) (s : State) (z : List ℕ) → o ≡ Some p → f ≡ p.0 → p.1 ≡ s → p.2 ≡ z → o ≡ Some (f, s, z)
next_is o p f s z h a b c = rw (a, ← b, ← c) h

one_from : (o : Option (List ℕ)) (a b : Reader (Bor (List ℕ))) (f : Record) → source_of (λ s. Some s.now) a ≡ o → IsReading a → took_first b ≡ true → is_flexible b ≡ is_flexible a
    → ReadRecord (λ s. Some s.now) a b true f → IsReading b × (records_left a ≡ f ∷ records_left b)
unfolding Reached
one_from None a b f src is first bends r = cc (rw src at is.known)
one_from (Some y) a b f src is first bends r =
    let (z, at_z, reached) = rows-more (λ (s : Bor (List ℕ)). Some s.now) a b f default_config a.state y y [] is.config src (refl, refl) r in
    let (p, next, fields, (at_state, at_rest)) = reached in
    let e : next_record default_config a.state [] [] y ≡ Some (f, b.state, z) = next_is _ p f b.state z next fields at_state at_rest in
    let known : IsSome (source_of (λ (s : Bor (List ℕ)). Some s.now) b) = rw at_z refl in (
      record {
        trim = r.3 ∙ is.trim;
        ready = inl first;
        config = r.2 ∙ is.config;
        known = known;
        flexible = bends ∙ is.flexible;
        quiet = (takes default_config a.state [] [] y (f, b.state, z) e).quiet;
      },
      rw (src, at_z) (left_more default_config a.state b.state y z f is.quiet e),
    )

none_from : (o : Option (List ℕ)) (a b : Reader (Bor (List ℕ))) (f : Record) → source_of (λ s. Some s.now) a ≡ o → IsReading a
    → ReadRecord (λ s. Some s.now) a b false f → records_left a ≡ []
none_from None a b f src is r = rw src refl
none_from (Some y) a b f src is r = rw src (left_none default_config a.state y (rows-end (λ (s : Bor (List ℕ)). Some s.now) a b f default_config y is.config src r))

-- a read that found a record takes the first of those that were left
pub reads_one : (a b : Reader (Bor (List ℕ))) (f : Record) → IsReading a → took_first b ≡ true → is_flexible b ≡ is_flexible a → ReadRecord (λ s. Some s.now) a b true f
    → IsReading b × (records_left a ≡ f ∷ records_left b)
reads_one a b f is first bends r = one_from (source_of (λ s. Some s.now) a) a b f refl is first bends r

-- and one that found none had none left
pub reads_none : (a b : Reader (Bor (List ℕ))) (f : Record) → IsReading a → ReadRecord (λ s. Some s.now) a b false f → records_left a ≡ []
reads_none a b f is r = none_from (source_of (λ s. Some s.now) a) a b f refl is r

next_size : (o : Option Read) (g : State → List ℕ → List Record) (n : ℕ) → ((p : Read) → o ≡ Some p → sum_by length p.0 + text_size (g p.1 p.2) ≤ n)
    → text_size (records_next g o) ≤ n
next_size None g n h = omega arith
next_size (Some p) g n h = rw (sum_by-cons (λ (r : Record). sum_by length r) p.0 (g p.1 p.2)) (h p refl)

-- the fields of a text are together no longer than the text
size_from : (cfg : Config) (n : ℕ) (s : State) (xs : List ℕ) → text_size (records_from cfg n s xs) ≤ length xs
unfolding records_from
size_from cfg zero s xs = omega arith
size_from cfg (suc n) s xs =
    next_size (next_record cfg s [] [] xs) (records_from cfg n) (length xs) (λ p e.
    let took = takes cfg s [] [] xs p e in
    let rest = size_from cfg n p.1 p.2 in
    omega (arith, took.bytes, rest))

-- without a mark the bytes are no longer
strip_size : (xs : List ℕ) → length (strip_bom xs) ≤ length xs
unfolding strip_bom
strip_size [] = omega arith
strip_size (a ∷ []) = omega arith
strip_size (a ∷ b ∷ []) = omega arith
strip_size (a ∷ b ∷ c ∷ rest) = elim ((a == 239) && (b == 187) && (c == 191)) as (λ t. length (if t then rest else a ∷ b ∷ c ∷ rest) ≤ length (a ∷ b ∷ c ∷ rest)) [ true ↦ omega arith | false ↦ omega arith ]

-- the fields of the records behind the marks are together no longer than all the bytes
pub size_records : (cfg : Config) (xs : List ℕ) (n : ℕ) (s : State) → text_size (records_from cfg n s (strip_bom (strip_bom xs))) ≤ length xs
size_records cfg xs n s =
    let whole = size_from cfg n s (strip_bom (strip_bom xs)) in
    let outer = strip_size xs in
    let inner = strip_size (strip_bom xs) in
    omega arith

-- the mark, as `strip_prefix` tests it
pub strip_bom_lem : (xs : List ℕ) → strip_bom xs ≡ (if pointwise nat_eq (take 3 xs) (239 ∷ 187 ∷ 191 ∷ []) then drop 3 xs else xs)
unfolding strip_bom
strip_bom_lem [] = refl
strip_bom_lem (a ∷ []) = elim (a == 239) as (λ t. a ∷ [] ≡ (if t && false then [] else a ∷ [])) [ true ↦ refl | false ↦ refl ]
strip_bom_lem (a ∷ b ∷ []) =
    elim (a == 239) as (λ t. a ∷ b ∷ [] ≡ (if t && ((b == 187) && false) then [] else a ∷ b ∷ [])) [
      | true ↦ elim (b == 187) as (λ t. a ∷ b ∷ [] ≡ (if t && false then [] else a ∷ b ∷ [])) [ true ↦ refl | false ↦ refl ]
      | false ↦ refl
    ]
strip_bom_lem (a ∷ b ∷ c ∷ rest) =
    elim (a == 239) as (λ t. (if t && (b == 187) && (c == 191) then rest else a ∷ b ∷ c ∷ rest) ≡ (if t && ((b == 187) && ((c == 191) && true)) then rest else a ∷ b ∷ c ∷ rest)) [
      | true ↦ elim (b == 187) as (λ t. (if t && (c == 191) then rest else a ∷ b ∷ c ∷ rest) ≡ (if t && ((c == 191) && true) then rest else a ∷ b ∷ c ∷ rest)) [
        | true ↦ elim (c == 191) as (λ t. (if t then rest else a ∷ b ∷ c ∷ rest) ≡ (if t && true then rest else a ∷ b ∷ c ∷ rest)) [ true ↦ refl | false ↦ refl ]
        | false ↦ refl
      ]
      | false ↦ refl
    ]

-- an error of a flexible reader of bytes stops it
pub error_stops : (rem : Bor (List ℕ) → Option (List ℕ)) (a b : Reader (Bor (List ℕ))) (k : ErrorKind) → is_flexible a ≡ true → ExplainsRead rem a b false k → stops_reader k ≡ true
error_stops rem a b (kind.Io e) h why = refl
error_stops rem a b kind.OutOfMemory h why = refl
error_stops rem a b (kind.UnequalLengths pos expected len) h why = absurd (false≢true (sym why.0 ∙ h))
error_stops rem a b (kind.Utf8 pos err) h why = absurd (false≢true why.0)
error_stops rem a b (kind.Serialize text) h why = absurd why
error_stops rem a b (kind.Deserialize pos err) h why = absurd why
