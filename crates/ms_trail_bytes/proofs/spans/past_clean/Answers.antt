use Rattle.std.proofs.Common.{◌+◌, ◌-◌, refl, arith}
use Rattle.ms_bits.specs.Maps.{first_nonzero}
use Rattle.ms_host.proofs.Liveness.{range-live}
use Rattle.ms_host.proofs.StringSteps.{fits-word}
use Rattle.ms_trail_bytes.proofs.Runs.{found_some, found_none}
use Rattle.ms_trail_bytes.proofs.spans.past_clean.Goals as goal

pub overflow_add-here : goal.overflow_add-here
overflow_add-here c = omega (arith, fits-word c.args.world.now.planes.table c.args.addr c.args.n c.args.first c.law_laid_out.ensures c.requires.live c.requires.within)

pub first_poisoned-requires : goal.first_poisoned-requires
first_poisoned-requires c = range-live c.args.world.now.planes.table c.args.addr c.args.n c.args.first (c.args.n - c.args.first) c.requires.live (omega (arith, c.requires.within))

pub returns-in-Some-clause-clean : goal.returns-in-Some-clause-clean
returns-in-Some-clause-clean c = λ beside meant shows k le lt.
    let here = c.args.addr + c.args.first in
    let left = c.args.n - c.args.first in
    found_some meant here left c.in-Some.byte (first_nonzero meant.shadow here left) refl (c.in-Some.ensures beside meant shows) (c.args.addr + k) (omega (arith, le)) (omega (arith, lt, c.at_most.ensures.near))

pub returns-in-None-clause-clean : goal.returns-in-None-clause-clean
returns-in-None-clause-clean c = λ beside meant shows k le lt.
    let here = c.args.addr + c.args.first in
    let left = c.args.n - c.args.first in
    found_none meant here left (first_nonzero meant.shadow here left) refl (c.in-None.ensures beside meant shows) (c.args.addr + k) (omega (arith, le)) (omega (arith, lt, c.requires.within))
