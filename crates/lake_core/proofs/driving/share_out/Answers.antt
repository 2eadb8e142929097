use Rattle.std.proofs.Common.{◌<◌, length, refl, arith}
use Rattle.batch_work.specs.Works.{work_of, works_of}
use Rattle.lake_core.proofs.ShareLemmas.{lane_within, new_here, shared_more}
use Rattle.batch_work.proofs.WorkLemmas.{work_at, works_long}
use Rattle.lake_core.proofs.driving.share_out.Goals as goal

pub index_mut-requires : goal.index_mut-requires
index_mut-requires c =
    let works = c.args.works.now in
    let n = c.loop-work.work-index in
    let item = c.work-item.result in
    let far : n < length (works_of works) = omega (arith, c.loop-work-test.true, works_long works) in
    let within = lane_within c.args.lanes (works_of works) n _ c.loop-work.all.items (work_of item) c.requires far (work_at works n item c.work-item.is c.loop-work-test.true) c.loop-work.invariant in
    omega (arith, within, c.lane.ensures)

pub add-requires : goal.add-requires
add-requires c =
    let works = c.args.works.now in
    let n = c.loop-work.work-index in
    let item = c.work-item.result in
    let far : n < length (works_of works) = omega (arith, c.loop-work-test.true, works_long works) in
    let within = lane_within c.args.lanes (works_of works) n _ c.loop-work.all.items (work_of item) c.requires far (work_at works n item c.work-item.is c.loop-work-test.true) c.loop-work.invariant in
    let inside : c.lane.result < length c.loop-work.all.items = omega (arith, within, c.lane.ensures) in
    (new_here c.loop-work.all.items c.lane.result c.index_mut.result.now c.loop-work.invariant.fresh inside c.index_mut.ensures.value).1

pub loop-work-preserved : goal.loop-work-preserved
loop-work-preserved c =
    let works = c.args.works.now in
    let n = c.loop-work.work-index in
    let item = c.work-item.result in
    let far : n < length (works_of works) = omega (arith, c.loop-work-test.true, works_long works) in
    let at = work_at works n item c.work-item.is c.loop-work-test.true in
    let within = lane_within c.args.lanes (works_of works) n _ c.loop-work.all.items (work_of item) c.requires far at c.loop-work.invariant in
    let inside : c.lane.result < length c.loop-work.all.items = omega (arith, within, c.lane.ensures) in
    shared_more c.args.lanes (works_of works) n c.loop-work.all.items _ (work_of item) c.index_mut.result.now c.add.new.self c.lane.result
    far at c.loop-work.invariant c.lane.ensures inside c.index_mut.ensures.value c.in_ok-add.ensures refl
