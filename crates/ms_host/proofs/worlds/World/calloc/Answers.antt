use Rattle.std.proofs.Common.{◌≡◌, ◌*◌, subst, Some, Err, ℕ, arith}
use Rattle.ms_alloc.specs.declared.errors.AllocError.{AllocError}
use Rattle.ms_alloc.specs.declared.kinds.AllocKind.TheVariants as kind
use Rattle.ms_runs.specs.Externals.{calloc}
use Rattle.ms_host.specs.declared.calls.Answer.TheVariants as answer
use Rattle.ms_host.specs.Shows.{Cleared}
use Rattle.ms_host.specs.Answers.{Answered}
use Rattle.ms_host.proofs.Effects.{calloc-some, calloc-none}
use Rattle.ms_host.proofs.worlds.World.calloc.Goals as goal

pub returns-in-Ok-clause-answered : goal.returns-in-Ok-clause-answered
returns-in-Ok-clause-answered c = λ beside world shows.
    let product : c.in-Some.n ≡ c.args.count * c.args.size = c.in-Some.ensures.1 in
    subst (λ (n : ℕ). Answered beside (calloc n world) (answer.Resumed (Some c.in-Ok.base)) c.make_zero.new.self) product
    (calloc-some beside world c.in-Some.n c.in-Ok.base c.make_zero.new.self (omega (arith, c.in-Some.ensures.0, product)) (c.in-Ok.ensures.cleared beside world shows))

pub returns-in-Err-Full-clause-answered : goal.returns-in-Err-Full-clause-answered
returns-in-Err-Full-clause-answered c = λ beside world shows.
    let product : c.in-Some.n ≡ c.args.count * c.args.size = c.in-Some.ensures.1 in
    subst (λ (n : ℕ). Answered beside (calloc n world) (answer.Resumed (Some 0)) c.make_zero.new.self) product
    (calloc-none beside world c.in-Some.n c.make_zero.new.self (omega (arith, c.in-Some.ensures.0, product))
    (subst (λ (e : AllocError). Cleared kind.Heap beside world c.in-Some.n (Err e) c.make_zero.new.self) c.in-Err-Full.field-0-is (c.in-Err-Full.ensures.cleared beside world shows)))
