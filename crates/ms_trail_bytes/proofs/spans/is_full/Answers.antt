use Rattle.std.proofs.Common.{◌≡◌, ◌+◌, ◌^◌, ℕ, sym, ap, ◌∙◌, arith, true≢false}
use Rattle.std.proofs.lemmas.Bool.{eqb-true}
use Rattle.ms_bits.specs.Maps.{number_at}
use Rattle.ms_host.proofs.StringSteps.{fits-word}
use Rattle.ms_trail_bytes.proofs.Runs.{full_bytes}
use Rattle.ms_trail_bytes.proofs.spans.is_full.Goals as goal

pub overflow_add-here : goal.overflow_add-here
overflow_add-here c = omega (arith, fits-word c.args.world.now.planes.table c.args.addr c.args.n c.args.k c.law_laid_out.ensures c.requires.live (omega (arith, c.requires.within)))

pub returns-in-Some : goal.returns-in-Some
returns-in-Some c = λ beside meant shows whole full j le lt.
    let read = c.in-Some.ensures beside meant shows in
    let all : c.in-Some.shadow ≡ 18446744073709551615 = eqb-true c.in-Some.shadow 18446744073709551615 full in
    let number : number_at meant.shadow (c.args.addr + c.args.k) 8 + 1 ≡ 256 ^ 8 = ap (λ (x : ℕ). x + 1) (sym read.1 ∙ all) in
    full_bytes meant.shadow 8 (c.args.addr + c.args.k) whole.shadow number (c.args.addr + j) (omega (arith, le)) (omega (arith, lt))

pub returns-in-None : goal.returns-in-None
returns-in-None c = λ beside meant shows whole full j le lt. absurd (true≢false (sym full))
