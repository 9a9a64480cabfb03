use Rattle.std.proofs.Common.{refl}
use Rattle.ms_threads.proofs.thread_table.ThreadTable.add.Goals as goal

pub returns : goal.returns
returns c = record {
  threads = c.in_ok-push.ensures.items;
  stands = (c.empty.result, (c.empty.ensures, c.in_ok-push-2.ensures.items));
  same = record { turn = refl; place = refl; recorder = refl };
}
