use Rattle.std.proofs.Common.{◌∙◌, ap, arith, refl}
use Rattle.column_set.specs.Hashes.{sip_of}
use Rattle.column_set.specs.declared.sorted.HashedPlace.{HashedPlace}
use Rattle.column_set.proofs.SortedLemmas.{hashed_more, places_more}
use Rattle.column_set.proofs.sorted.hashed_places.Goals as goal

pub loop-place-preserved : goal.loop-place-preserved
loop-place-preserved c =
    let before = c.loop-place.made.items in
    let after = c.push.new.self.items in
    let entry : HashedPlace = record { hash = c.sip_hash.result; place = c.loop-place.place } in
    record {
      hashed = hashed_more c.args.texts.now before after entry c.loop-place.invariant.hashed (c.sip_hash.ensures ∙ ap sip_of c.text.ensures) c.in_ok-push.ensures.items;
      places = places_more c.args.from c.loop-place.place before after entry (omega arith) refl c.loop-place.invariant.places c.in_ok-push.ensures.items;
    }
