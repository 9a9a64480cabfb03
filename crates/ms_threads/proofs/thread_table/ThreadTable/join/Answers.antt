use Rattle.std.proofs.Common.{refl}
use Rattle.ms_threads.specs.ThreadTables.{joined_guest}
use Rattle.ms_threads.proofs.Threading.{set_numbered}
use Rattle.ms_threads.proofs.thread_table.ThreadTable.join.Goals as goal

pub returns : goal.returns
returns c = record {
  threads = set_numbered c.args.number joined_guest c.args.self.now.threads.items c.index-thread.result.now _ c.requires.some c.requires.few c.index-thread.ensures refl;
  stands = refl;
  same = record { turn = refl; place = refl; recorder = refl };
}
