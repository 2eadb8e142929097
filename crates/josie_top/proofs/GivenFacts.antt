-- The files of the queries that are watched: one more of them, and the first at fault.
use Rattle.std.proofs.Common.{◌≡◌, refl, ap, sym, ◌∙◌, subst, ℕ, ◌+◌, ◌≤◌, ◌<◌, ◌⊎◌, inl, inr, List, [], ◌∷◌, ◌++◌, map, length, length-append, length-take, take, arith, get_or, string_bytes}
use Rattle.std.specs.Prelude.{Option, Some, None, String}
use Rattle.std.specs.Global.{Global}
use Rattle.std.proofs.lemmas.List.{get_or-map, length-map, map-append, take_more}
use Rattle.lake_io.specs.Causes.{Rose}
use Rattle.lake_io.specs.Files as shelf
use Rattle.lake_model.specs.Texts.{Text}
use Rattle.lake_model.specs.declared.Keys.TheVariants.{Canonical}
use Rattle.lake_model.specs.declared.QueryRefused.{QueryRefused}
use Rattle.lake_model.specs.declared.QueryRefused.TheVariants as query
use Rattle.lake_model.specs.Queries.{query_fault, query_of}
use Rattle.script_model.specs.Commands.{File, Bytes, Failed, Missing, TooLong}
use Rattle.record_model.specs.declared.GivenWhy.{GivenWhy}
use Rattle.record_model.specs.declared.GivenWhy.TheVariants as given
use Rattle.record_model.specs.Watched.{AreQueries, FaultIn, GivenRead, IsGiven, NotGiven, QueriesRead, given_read, keys_given, queries_from, read_before, with_query}
use Rattle.script_text.specs.Outcomes.{AreFetched, CameOf}
use Rattle.column_watch.specs.Watching.{WatchesOf, watch_with, watches_with}
use Rattle.josie_top.specs.declared.given.GivenStop.{GivenStop}
use Rattle.josie_top.specs.declared.given.GivenStop.TheVariants as stop
use Rattle.josie_top.specs.Given.{AreTaken, HasFirstFault, IsAtFault, IsNotTaken, IsRefusedBy, IsTaken, status_of_given}
use Rattle.josie_top.specs.World.{World}
use Rattle.josie_top.proofs.StreamFacts.{rose_since}

-- ---- what files give

-- one file more that gives a query
queries_more : (n : ℕ) (files : List File) (file : File) (queries : List (List Text)) (keys : List Text) → queries_from n files ≡ AreQueries queries → given_read file ≡ IsGiven keys
    → queries_from n (files ++ file ∷ []) ≡ AreQueries (queries ++ keys ∷ [])
unfolding queries_from
queries_more n [] file queries keys are read =
    let none : [] ≡ queries = cc in
    ap (λ (r : GivenRead). read_before n r (AreQueries [])) read ∙ ap (λ (qs : List (List Text)). AreQueries (qs ++ keys ∷ [])) none
queries_more n (first ∷ files) file queries keys are read =
    by (given_read first) (queries_from (n + 1) files) refl are (λ others is. queries_more (n + 1) files file others keys is read)
  where
    by : (r : GivenRead) (rest : QueriesRead) → queries_from (n + 1) files ≡ rest → read_before n r rest ≡ AreQueries queries
        → ((others : List (List Text)) → queries_from (n + 1) files ≡ AreQueries others → queries_from (n + 1) (files ++ file ∷ []) ≡ AreQueries (others ++ keys ∷ []))
        → read_before n r (queries_from (n + 1) (files ++ file ∷ [])) ≡ AreQueries (queries ++ keys ∷ [])
    by (NotGiven why) rest is e more = cc e
    by (IsGiven own) (FaultIn path why) is e more = cc e
    by (IsGiven own) (AreQueries others) is e more =
        let same : own ∷ others ≡ queries = cc in
        ap (with_query own) (more others is) ∙ ap (λ (qs : List (List Text)). AreQueries (qs ++ keys ∷ [])) same

-- one file more that is at fault
fault_more : (n : ℕ) (files : List File) (file : File) (queries : List (List Text)) (why : GivenWhy) → queries_from n files ≡ AreQueries queries → given_read file ≡ NotGiven why
    → queries_from n (files ++ file ∷ []) ≡ FaultIn (n + length queries) why
unfolding queries_from
fault_more n [] file queries why are read =
    let none : [] ≡ queries = cc in
    let here : n ≡ n + length queries = (let e : length queries ≡ 0 = ap (λ (qs : List (List Text)). length qs) (sym none) in omega (arith, e)) in
    ap (λ (r : GivenRead). read_before n r (AreQueries [])) read ∙ ap (λ (m : ℕ). FaultIn m why) here
fault_more n (first ∷ files) file queries why are read =
    by (given_read first) (queries_from (n + 1) files) refl are (λ others is. fault_more (n + 1) files file others why is read)
  where
    by : (r : GivenRead) (rest : QueriesRead) → queries_from (n + 1) files ≡ rest → read_before n r rest ≡ AreQueries queries
        → ((others : List (List Text)) → queries_from (n + 1) files ≡ AreQueries others → queries_from (n + 1) (files ++ file ∷ []) ≡ FaultIn (n + 1 + length others) why)
        → read_before n r (queries_from (n + 1) (files ++ file ∷ [])) ≡ FaultIn (n + length queries) why
    by (NotGiven other) rest is e more = cc e
    by (IsGiven own) (FaultIn path other) is e more = cc e
    by (IsGiven own) (AreQueries others) is e more =
        let same : own ∷ others ≡ queries = cc in
        let far : n + 1 + length others ≡ n + length queries = (let l : length (own ∷ others) ≡ length queries = ap (λ (qs : List (List Text)). length qs) same in omega (arith, l)) in
        ap (with_query own) (more others is) ∙ ap (λ (m : ℕ). FaultIn m why) far

fetched_more : (told : Option (List shelf.File)) (before mid now : ℕ) (paths : List Text) (files : List File) (path : Text) (file : File) → AreFetched told before mid paths files → CameOf told mid now path file
    → AreFetched told before now (paths ++ path ∷ []) (files ++ file ∷ [])
fetched_more told before mid now [] [] path file first next = (now, subst (λ (m : ℕ). CameOf told m now path file) first next, refl)
fetched_more told before mid now [] (f ∷ files) path file first next = absurd first
fetched_more told before mid now (p ∷ paths) [] path file first next = absurd first
fetched_more told before mid now (p ∷ paths) (f ∷ files) path file (between, came, rest) next = (between, came, fetched_more told between mid now paths files path file rest next)

-- ---- the queries so far

pub none_taken : (told : Option (List shelf.File)) (now k : ℕ) (watched : WatchesOf) → watched ≡ watches_with [] [] → AreTaken told now now k [] watched
unfolding queries_from
none_taken told now k watched is = record { files = []; queries = []; fetched = refl; read = refl; many = refl; is = is }

-- one query more
pub one_taken : (told : Option (List shelf.File)) (before mid now k : ℕ) (paths : List Text) (path : Text) (watched after : WatchesOf) → AreTaken told before mid k paths watched
    → IsTaken told mid now k path watched after → AreTaken told before now k (paths ++ path ∷ []) after
one_taken told before mid now k paths path watched after taken one = record {
  files = taken.files ++ one.file ∷ [];
  queries = taken.queries ++ one.keys ∷ [];
  fetched = fetched_more told before mid now paths taken.files path one.file taken.fetched one.came;
  read = queries_more 1 taken.files one.file taken.queries one.keys taken.read one.read;
  many = omega (arith, taken.many, length-append taken.queries (one.keys ∷ []), length-append paths (path ∷ []));
  is = one.is ∙ ap (λ (w : WatchesOf). watches_with [] (w.queries ++ watch_with one.keys k ∷ [])) taken.is
      ∙ ap (watches_with []) (sym (map-append (λ (keys : List Text). watch_with keys k) taken.queries (one.keys ∷ [])));
}

-- the next path, after those before it
pub paths_more : (paths : List (String Global)) (n : ℕ) (path : String Global) (text : Text) → path ≡ get_or paths n path → text ≡ string_bytes path → n < length paths
    → (take n (map string_bytes paths) ++ text ∷ [] ≡ take (n + 1) (map string_bytes paths)) × (length (take n (map string_bytes paths)) ≡ n)
paths_more paths n path text at is within =
    let far : n < length (map string_bytes paths) = omega (arith, within, length-map paths string_bytes) in
    let here : text ≡ get_or (map string_bytes paths) n text = is ∙ ap string_bytes at ∙ sym (get_or-map string_bytes paths n path text within) in (
      ap (λ (t : Text). take n (map string_bytes paths) ++ t ∷ []) here ∙ sym (take_more (map string_bytes paths) n text far),
      (let short : n ≤ length (map string_bytes paths) = omega (arith, far) in omega (arith, short, length-take n (map string_bytes paths))),
    )

-- the next path is at fault
pub first_fault : (told : Option (List shelf.File)) (before mid now k n : ℕ) (paths all : List Text) (path : Text) (watched : WatchesOf) (why : GivenWhy) → AreTaken told before mid k paths watched
    → IsAtFault told mid now path why → paths ++ path ∷ [] ≡ take (n + 1) all → length paths ≡ n → HasFirstFault told before now all (n + 1) why
first_fault told before mid now k n paths all path watched why taken fault cut long = record {
  files = taken.files ++ fault.file ∷ [];
  fetched = subst (λ (ps : List Text). AreFetched told before now ps (taken.files ++ fault.file ∷ [])) cut (fetched_more told before mid now paths taken.files path fault.file taken.fetched fault.came);
  fault = fault_more 1 taken.files fault.file taken.queries why taken.read fault.read ∙ (let e : 1 + length taken.queries ≡ n + 1 = omega (arith, taken.many, long) in ap (λ (m : ℕ). FaultIn m why) e);
}

-- the status of the first path that gives no query
pub refused_by : (told : Option (List shelf.File)) (before mid now k n : ℕ) (paths all : List Text) (path : Text) (watched : WatchesOf) (why : GivenStop) → AreTaken told before mid k paths watched
    → IsNotTaken told mid now path why → paths ++ path ∷ [] ≡ take (n + 1) all → length paths ≡ n → IsRefusedBy told before now all (status_of_given (n + 1) why)
refused_by told before mid now k n paths all path watched (stop.Fault why) taken fault cut long = first_fault told before mid now k n paths all path watched why taken fault cut long
refused_by told before mid now k n paths all path watched stop.NoMemory taken fault cut long = tt

-- ---- a file that could not be read

-- ---- one file

pub failed_given : given_read Failed ≡ NotGiven given.Failed
unfolding given_read
failed_given = refl

pub missing_given : given_read Missing ≡ NotGiven given.Missing
unfolding given_read
missing_given = refl

pub long_given : given_read TooLong ≡ NotGiven given.TooLong
unfolding given_read
long_given = refl

-- the bytes of a file are a query,
pub bytes_given : (bytes : List ℕ) (keys : List Text) → query_fault Canonical bytes ≡ None → keys ≡ query_of Canonical bytes → given_read (Bytes bytes) ≡ IsGiven keys
unfolding given_read
bytes_given bytes keys sound same = ap (keys_given bytes) sound ∙ ap IsGiven (sym same)

-- or at fault
pub bytes_refused : (bytes : List ℕ) (refused : QueryRefused) (why : GivenWhy) → (refused ≡ query.NoMemory) ⊎ (query_fault Canonical bytes ≡ Some refused) → (refused ≡ query.NoMemory → ⊥)
    → keys_given bytes (Some refused) ≡ NotGiven why → given_read (Bytes bytes) ≡ NotGiven why
unfolding given_read
bytes_refused bytes refused why (inl memory) other said = absurd (other memory)
bytes_refused bytes refused why (inr fault) other said = ap (keys_given bytes) fault ∙ said

-- a file that was fetched is not at fault for its reading
bytes_came : (bytes : List ℕ) → given_read (Bytes bytes) ≡ NotGiven given.Failed → ⊥
unfolding given_read
bytes_came bytes = by (query_fault Canonical bytes)
  where
    by : (fault : Option QueryRefused) → keys_given bytes fault ≡ NotGiven given.Failed → ⊥
    by None e = cc e
    by (Some (query.NotUtf8 line)) e = cc e
    by (Some query.TooManyValues) e = cc e
    by (Some query.NoMemory) e = cc e

-- a fault lies among the files
fault_within : (n : ℕ) (files : List File) (path : ℕ) (why : GivenWhy) → queries_from n files ≡ FaultIn path why → path < n + length files
unfolding queries_from
fault_within n [] path why e = cc e
fault_within n (file ∷ files) path why e = by (given_read file) (queries_from (n + 1) files) refl e (λ there other is. fault_within (n + 1) files there other is)
  where
    by : (r : GivenRead) (rest : QueriesRead) → queries_from (n + 1) files ≡ rest → read_before n r rest ≡ FaultIn path why
        → ((there : ℕ) (other : GivenWhy) → queries_from (n + 1) files ≡ FaultIn there other → there < n + 1 + length files) → path < n + length (file ∷ files)
    by (NotGiven other) rest is e later = let same : n ≡ path = cc in omega (arith, same)
    by (IsGiven own) (AreQueries others) is e later = cc e
    by (IsGiven own) (FaultIn there other) is e later =
        let same : there ≡ path = cc in
        omega (arith, same, later there other is)

fetched_size : (told : Option (List shelf.File)) (before now : ℕ) (paths : List Text) (files : List File) → AreFetched told before now paths files → length files ≡ length paths
fetched_size told before now [] [] fetched = refl
fetched_size told before now [] (file ∷ files) fetched = absurd fetched
fetched_size told before now (path ∷ paths) [] fetched = absurd fetched
fetched_size told before now (path ∷ paths) (file ∷ files) (between, came, rest) = let same = fetched_size told between now paths files rest in omega (arith, same)

-- nothing was fetched after it
fetched_none : (told : Option (List shelf.File)) (before now : ℕ) (paths : List Text) (files : List File) → AreFetched told before now paths files → length files ≡ 0 → now ≡ before
fetched_none told before now [] [] fetched none = fetched
fetched_none told before now [] (file ∷ files) fetched none = absurd fetched
fetched_none told before now (path ∷ paths) [] fetched none = absurd fetched
fetched_none told before now (path ∷ paths) (file ∷ files) fetched none = absurd (omega (arith, none))

module _ (told : Option (List shelf.File)) (path now : ℕ) where
  -- if the first fault is that of a file that could not be read, a fault was counted
  pub failed_rose : (n before : ℕ) (paths : List Text) (files : List File) → AreFetched told before now paths files → queries_from n files ≡ FaultIn path given.Failed → n + length files ≡ path + 1 → Rose before now
  unfolding queries_from given_read
  failed_rose n before [] [] fetched e many = cc e
  failed_rose n before [] (file ∷ files) fetched e many = absurd fetched
  failed_rose n before (p ∷ paths) [] fetched e many = absurd fetched
  failed_rose n before (p ∷ paths) (Failed ∷ files) (between, came, rest) e many =
      let same : n ≡ path = cc in
      let last : length files ≡ 0 = omega (arith, many, same) in
      subst (Rose before) (sym (fetched_none told between now paths files rest last)) came
  failed_rose n before (p ∷ paths) (Missing ∷ files) (between, came, rest) e many = cc e
  failed_rose n before (p ∷ paths) (TooLong ∷ files) (between, came, rest) e many = cc e
  failed_rose n before (p ∷ paths) (Bytes bytes ∷ files) (between, came, rest) e many =
      by (given_read (Bytes bytes)) (queries_from (n + 1) files) refl refl e
      (λ fault. rose_since before between now came.2 (failed_rose (n + 1) between paths files rest fault (let m : n + 1 + length files ≡ path + 1 = omega (arith, many) in m)))
    where
      by : (r : GivenRead) (others : QueriesRead) → given_read (Bytes bytes) ≡ r → queries_from (n + 1) files ≡ others → read_before n r others ≡ FaultIn path given.Failed
          → (queries_from (n + 1) files ≡ FaultIn path given.Failed → Rose before now) → Rose before now
      by (NotGiven why) others is are same later = let failed : why ≡ given.Failed = cc in absurd (bytes_came bytes (is ∙ ap NotGiven failed))
      by (IsGiven own) (AreQueries queries) is are same later = cc same
      by (IsGiven own) (FaultIn there why) is are same later = later (are ∙ same)

-- the first path at fault could not be read
pub given_failed : (path : ℕ) (paths : List Text) (before now : World) (files : List File) → AreFetched before.files before.fetch_faults now.fetch_faults (take path paths) files → queries_from 1 files ≡ FaultIn path given.Failed
    → Rose before.fetch_faults now.fetch_faults
given_failed path paths before now files fetched fault =
    let within = fault_within 1 files path given.Failed fault in
    let size = fetched_size before.files before.fetch_faults now.fetch_faults (take path paths) files fetched in
    let short : length (take path paths) ≤ path = omega (arith, length-take path paths) in
    failed_rose before.files path now.fetch_faults 1 before.fetch_faults (take path paths) files fetched fault (let many : 1 + length files ≡ path + 1 = omega (arith, within, size, short) in many)
