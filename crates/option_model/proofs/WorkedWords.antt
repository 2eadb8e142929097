-- Worked words of a command line, and the mode that they state.
use Rattle.std.proofs.Common.{◌≡◌, refl, List, [], ◌∷◌, replicate}
use Rattle.std.specs.Prelude.{codes, true, false, Some, None}
use Rattle.lake_model.specs.Texts.{Text}
use Rattle.lake_model.specs.declared.Keys.TheVariants.{Canonical, Compatibility}
use Rattle.script_model.specs.Options.{plain, options_with}
use Rattle.option_model.specs.Plain.{Make, Run, Watch, plain_mode}

run_alone : plain_mode (codes "run" ∷ []) ≡ Some (Run plain)
run_alone = refl

run_with_trace : plain_mode (codes "run" ∷ codes "--trace" ∷ []) ≡ Some (Run (options_with 1 None false true Canonical))
run_with_trace = refl

no_words : plain_mode [] ≡ None
no_words = refl

capital : plain_mode (codes "Run" ∷ []) ≡ None
capital = refl

flag_twice : plain_mode (codes "run" ∷ codes "--trace" ∷ codes "--trace" ∷ []) ≡ None
flag_twice = refl

make : plain_mode (codes "make" ∷ codes "0" ∷ codes "1" ∷ codes "2" ∷ []) ≡ Some (Make 0 1 2)
make = refl

make_without_rows : plain_mode (codes "make" ∷ codes "7" ∷ codes "40" ∷ []) ≡ None
make_without_rows = refl

make_too_many : plain_mode (codes "make" ∷ codes "7" ∷ codes "1001" ∷ codes "500" ∷ []) ≡ None
make_too_many = refl

lanes : plain_mode (codes "run" ∷ codes "--lanes" ∷ codes "2" ∷ []) ≡ Some (Run (options_with 2 None false false Canonical))
lanes = refl

too_many_lanes : plain_mode (codes "run" ∷ codes "--lanes" ∷ codes "17" ∷ []) ≡ None
too_many_lanes = refl

no_value : plain_mode (codes "run" ∷ codes "--lanes" ∷ []) ≡ None
no_value = refl

-- the number of lanes may follow the order that names them
race : plain_mode (codes "run" ∷ codes "--order" ∷ codes "1,2,1//2" ∷ codes "--lanes" ∷ codes "2" ∷ []) ≡ Some (Run (options_with 2 (Some ((1 ∷ 2 ∷ 1 ∷ []) ∷ [] ∷ (2 ∷ []) ∷ [])) false false Canonical))
race = refl

no_such_lane : plain_mode (codes "run" ∷ codes "--order" ∷ codes "2" ∷ []) ≡ None
no_such_lane = refl

no_merger : plain_mode (codes "run" ∷ codes "--order" ∷ codes "0" ∷ []) ≡ None
no_merger = refl

merger : plain_mode (codes "run" ∷ codes "--merge" ∷ codes "--order" ∷ codes "1,0/" ∷ []) ≡ Some (Run (options_with 1 (Some ((1 ∷ 0 ∷ []) ∷ [] ∷ [])) true false Canonical))
merger = refl

empty_order : plain_mode (codes "run" ∷ codes "--order" ∷ [] ∷ []) ≡ None
empty_order = refl

half_a_piece : plain_mode (codes "run" ∷ codes "--order" ∷ codes "1," ∷ []) ≡ None
half_a_piece = refl

profile_2 : plain_mode (codes "run" ∷ codes "--profile" ∷ codes "2" ∷ codes "--trace" ∷ []) ≡ Some (Run (options_with 1 None false true Compatibility))
profile_2 = refl

profile_1 : plain_mode (codes "run" ∷ codes "--profile" ∷ codes "1" ∷ []) ≡ Some (Run plain)
profile_1 = refl

no_such_profile : plain_mode (codes "run" ∷ codes "--profile" ∷ codes "3" ∷ []) ≡ None
no_such_profile = refl

profile_of_two_digits : plain_mode (codes "run" ∷ codes "--profile" ∷ codes "02" ∷ []) ≡ None
profile_of_two_digits = refl

watch_two_queries : plain_mode (codes "watch" ∷ codes "2" ∷ codes "q" ∷ codes "r" ∷ []) ≡ Some (Watch 2 (codes "q" ∷ codes "r" ∷ []))
watch_two_queries = refl

watch_without_paths : plain_mode (codes "watch" ∷ codes "2" ∷ []) ≡ None
watch_without_paths = refl

watch_no_rows : plain_mode (codes "watch" ∷ codes "0" ∷ codes "q" ∷ []) ≡ None
watch_no_rows = refl

watch_an_option : plain_mode (codes "watch" ∷ codes "1" ∷ codes "--trace" ∷ []) ≡ None
watch_an_option = refl

profile_twice : plain_mode (codes "run" ∷ codes "--profile" ∷ codes "1" ∷ codes "--profile" ∷ codes "2" ∷ []) ≡ None
profile_twice = refl

watch_too_many_rows : plain_mode (codes "watch" ∷ codes "10001" ∷ codes "q" ∷ []) ≡ None
watch_too_many_rows = refl

abbrev sixteen : List Text
sixteen = replicate 16 (codes "q")

watch_16_paths : plain_mode (codes "watch" ∷ codes "1" ∷ sixteen) ≡ Some (Watch 1 sixteen)
watch_16_paths = refl

watch_17_paths : plain_mode (codes "watch" ∷ codes "1" ∷ codes "q" ∷ sixteen) ≡ None
watch_17_paths = refl
