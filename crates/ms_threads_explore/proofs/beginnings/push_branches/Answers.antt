use Rattle.std.proofs.Common.{◌<◌, length, map, ◌++◌, arith}
use Rattle.ms_threads.specs.Recording.{pick_of}
use Rattle.ms_threads_schedules_laws.specs.Trees.{branches}
use Rattle.ms_threads_explore.specs.Beginnings.{told_of}
use Rattle.ms_threads_explore.proofs.After.{start_rows, chosen_some, next_rows}
use Rattle.ms_threads_explore.proofs.beginnings.push_branches.Goals as goal

pub loop-place-init : goal.loop-place-init
loop-place-init c =
    let count = c.count-place.ensures in
    record {
      after = omega (arith, count);
      told = start_rows (told_of c.args.told.now) (map pick_of c.args.picks.now) c.count-place.result (map told_of c.args.queue.now.items) count c.requires.begins c.requires.zeros;
      are = λ h. h;
    }

pub push_others-requires-clause-some : goal.push_others-requires-clause-some
push_others-requires-clause-some c =
    let lt : c.loop-place.place < length c.args.picks.now = omega arith in
    chosen_some c.args.picks.now c.loop-place.place _ c.requires.chosen lt

pub loop-place-preserved : goal.loop-place-preserved
loop-place-preserved c =
    let lt : c.loop-place.place < length c.args.picks.now = omega arith in
    let after = c.loop-place.invariant.after in
    record {
      after = omega (arith, after);
      told = next_rows (told_of c.args.told.now) c.loop-place.place c.args.picks.now _ (map told_of c.loop-place.queue.items) (map told_of c.push_others.new.queue.items)
          (map told_of c.args.queue.now.items ++ branches (told_of c.args.told.now) (map pick_of c.args.picks.now)) lt c.in_ok-push_others.ensures.told c.loop-place.invariant.told;
      are = λ h. c.in_ok-push_others.ensures.are (c.loop-place.invariant.are h);
    }
