use Rattle.std.proofs.Common.{◌≡◌, ◌<◌, ℕ, true, refl, ap, arith}
use Rattle.ms_threads.specs.declared.thread_table.Thread.{Thread as Guest}
use Rattle.ms_threads.specs.ThreadTables.{ended_guest}
use Rattle.ms_threads.proofs.Threading.{set_numbered}
use Rattle.ms_threads.proofs.thread_table.ThreadTable.end.Goals as goal

-- an ended thread with an origin
with_origin : Guest → (value mask : ℕ) → ℕ → Guest
with_origin t value mask origin = record { func = t.func; argument = t.argument; start = t.start; ended = true; joined = t.joined; answer = value; mask = mask; origin = origin }

pub returns : goal.returns
unfolding with_origin
returns c =
    let t = c.index-thread.result.now in
    let some : 0 < c.args.self.now.turn = omega arith in
    record {
      threads = set_numbered c.args.self.now.turn (ended_guest c.args.answer c.args.mask c.args.origin) c.args.self.now.threads.items t _ some c.requires c.index-thread.ensures
          (ap (with_origin t c.args.answer c.args.mask) c.kept_origin-kept.ensures);
      stands = refl;
      same = record { turn = refl; place = refl; recorder = refl };
    }
