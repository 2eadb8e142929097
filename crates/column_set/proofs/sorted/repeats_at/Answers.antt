use Rattle.std.proofs.Common.{◌≡◌, ◌∙◌, ◌-◌, ◌<◌, [], ap, arith, false, get_or, length, map, replicate, set, sym}
use Rattle.std.proofs.lemmas.List.{length-map}
use Rattle.std.specs.Prelude.{bytes_eq}
use Rattle.column_set.specs.Sorted.{place_of}
use Rattle.column_set.proofs.SortedLemmas.{all_marked, are_places, marked_first, marked_more, place_count, place_there}
use Rattle.column_set.proofs.sorted.repeats_at.Goals as goal

pub loop-i-init : goal.loop-i-init
loop-i-init c =
    let places = map place_of c.args.order.now in
    marked_first c.args.texts.now c.args.from places c.requires.places c.in_ok-repeats.repeats.items (c.in_ok-repeats.ensures.items_if_clones_equal (λ y h. h) ∙ ap (λ n. replicate n false) (sym (length-map c.args.order.now place_of)))

pub overflow_sub-here : goal.overflow_sub-here
overflow_sub-here c =
    let order = c.args.order.now in
    let inside : c.loop-i.i < length (map place_of order) = omega (arith, c.loop-i-test.true, length-map order place_of) in
    omega (arith, (are_places c.args.texts.now c.args.from (map place_of order) c.requires.places c.loop-i.i 0 inside).0, place_there c.args.texts.now order c.requires.hashed c.loop-i.i c.loop-i-test.true 0)

pub index_mut-requires : goal.index_mut-requires
index_mut-requires c =
    let order = c.args.order.now in
    let places = map place_of order in
    let inside : c.loop-i.i < length places = omega (arith, c.loop-i-test.true, length-map order place_of) in
    let place = are_places c.args.texts.now c.args.from places c.requires.places c.loop-i.i 0 inside in
    omega (arith, place.0, place.1, c.loop-i.invariant.long, place_count c.args.texts.now c.args.from places c.requires.places, place_there c.args.texts.now order c.requires.hashed c.loop-i.i c.loop-i-test.true 0)

pub loop-i-preserved : goal.loop-i-preserved
loop-i-preserved c =
    let texts = c.args.texts.now in
    let order = c.args.order.now in
    let places = map place_of order in
    let i = c.loop-i.i in
    let inside : i < length places = omega (arith, c.loop-i-test.true, length-map order place_of) in
    let here : (d : _) → get_or places i d ≡ (get_or order i record { hash = 0; place = 0 }).place = place_there texts order c.requires.hashed i c.loop-i-test.true in
    let before : (d : _) → get_or places (i - 1) d ≡ (get_or order (i - 1) record { hash = 0; place = 0 }).place = place_there texts order c.requires.hashed (i - 1) (omega (arith, c.loop-i-test.true)) in
    let same : c.are_equal.result ≡ bytes_eq (get_or texts (get_or places i 0) []) (get_or texts (get_or places (i - 1) 0) []) =
    c.are_equal.ensures ∙ (λ j. bytes_eq (get_or texts (sym (here 0) j) []) (get_or texts (sym (before 0) j) [])) in
    marked_more texts c.args.from places c.requires.places i c.loop-i.repeats.items c.loop-i.invariant inside c.are_equal.result same _ (λ j. set c.loop-i.repeats.items (sym (here 0) j - c.args.from) c.are_equal.result)

pub returns : goal.returns
returns c =
    let order = c.args.order.now in
    all_marked c.args.texts.now c.args.from (map place_of order) c.requires.places c.loop-i.i c.loop-i.repeats.items c.loop-i.invariant (omega (arith, c.loop-i-test.false, length-map order place_of))
