use Rattle.std.proofs.Common.{◌∙◌}
use Rattle.ms_runs.specs.Memory.{set_cells, set_shadow}
use Rattle.ms_host.specs.Shows.{Shows}
use Rattle.ms_runtime.proofs.OnMemory.{chained-in, pairs-changed, beside-changed}
use Rattle.ms_runtime.proofs.memory.fill_chained.Goals as goal

pub returns-clause-served : goal.returns-clause-served
returns-clause-served c = λ setting beside meant told roots kept shows. (
  record beside { pairs = c.chain.new.self.pairs },
  (
    beside-changed c.args.depot.now c.chain.new.self told beside kept,
    chained-in (λ id after. Shows c.fill_planes.new.self (record beside { pairs = c.chain.new.self.pairs }) (set_cells c.args.addr c.args.n id (set_shadow c.args.addr c.args.n (λ k. c.args.mask) after)))
        setting meant c.args.old c.args.site c.in_ok-origin.origin c.chain.new.self (c.in_ok-origin.ensures.chained setting meant roots (shows.pairs ∙ kept.pairs))
        (c.fill_planes.ensures.filled (record beside { pairs = c.chain.new.self.pairs }) (record meant { pairs = c.chain.new.self.pairs }) (pairs-changed c.args.world.now beside meant c.chain.new.self.pairs shows)),
  ),
)
