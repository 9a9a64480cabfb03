use Rattle.std.proofs.Common.{◌<◌, ℕ, sym, subst, arith}
use Rattle.ms_alloc.specs.declared.kinds.AllocKind.TheVariants.{Heap}
use Rattle.ms_host.proofs.Tables.{block-live, base-same}
use Rattle.ms_trail_bytes.proofs.Ranges.{live_range, live_small, block_below}
use Rattle.ms_trail_bytes.proofs.unsets.law_block.Goals as goal

pub returns-clause-low : goal.returns-clause-low
returns-clause-low c = λ some.
    let r = live_range c.args.world.now.planes.table c.law_laid_out.ensures c.args.base c.args.size some (block-live c.args.world.now.planes.table c.args.base c.args.size c.requires) in
    omega (arith, r.high)

pub returns-clause-small : goal.returns-clause-small
returns-clause-small c = live_small c.args.world.now.planes.table c.law_laid_out.ensures c.args.base c.args.size (block-live c.args.world.now.planes.table c.args.base c.args.size c.requires)

pub returns-clause-below : goal.returns-clause-below
returns-clause-below c = λ beside meant shows.
    subst (λ (n : ℕ). c.args.base < n) (sym (base-same c.args.world.now.planes.table meant Heap c.law_laid_out.ensures shows.allocs))
    (block_below c.args.world.now.planes.table c.law_laid_out.ensures c.args.base c.args.size c.requires)
