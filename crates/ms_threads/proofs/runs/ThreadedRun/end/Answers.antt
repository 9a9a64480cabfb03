use Rattle.std.proofs.Common.{ℕ, refl, subst}
use Rattle.ms_runs.specs.Threads.{result_mask, result_origin}
use Rattle.ms_threads.specs.ThreadTables.{Changed, ended_guest}
use Rattle.ms_threads.proofs.runs.ThreadedRun.end.Goals as goal

pub returns : goal.returns
returns c = record {
  ended = λ cells shows.
      let old = c.args.self.now.table in
      subst (λ (n : ℕ). Changed old.turn (ended_guest c.args.answer (result_mask cells) n) old c.end.new.self) (c.result_origin-origin.ensures cells shows)
      (subst (λ (n : ℕ). Changed old.turn (ended_guest c.args.answer n c.result_origin-origin.result) old c.end.new.self) (c.result_mask-mask.ensures cells shows) c.end.ensures);
  running = refl;
  calls = (refl, refl, refl, refl);
}
