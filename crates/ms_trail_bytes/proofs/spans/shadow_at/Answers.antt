use Rattle.std.proofs.Common.{◌≡◌, ◌+◌, ◌*◌, sym, ◌∙◌, arith, true≢false}
use Rattle.ms_host.proofs.Liveness.{part-live}
use Rattle.ms_host.proofs.StringSteps.{fits-word}
use Rattle.ms_host.proofs.Tables.{good-same}
use Rattle.ms_trail_bytes.proofs.spans.shadow_at.Goals as goal

pub overflow_add-here : goal.overflow_add-here
overflow_add-here c = omega (arith, fits-word c.args.world.now.planes.table c.args.addr c.args.n c.args.k c.law_laid_out.ensures c.requires.live c.requires.within)

pub returns-in-Some : goal.returns-in-Some
returns-in-Some c = λ beside meant shows.
    let read = c.in-Some.ensures beside meant shows in
    read.1 ∙ (let one : meant.shadow (c.args.addr + c.args.k) + 256 * 0 ≡ meant.shadow (c.args.addr + c.args.k) = omega arith in one)

pub returns-in-None : goal.returns-in-None
returns-in-None c = λ beside meant shows.
    let t = c.args.world.now.planes.table in
    absurd
    (true≢false
    (sym (good-same t meant (c.args.addr + c.args.k) 1 shows.allocs ∙ part-live t c.args.addr c.args.n c.args.k c.requires.live c.requires.within) ∙ c.in-None.ensures beside meant shows))
