use Rattle.std.proofs.Common.{subst, Err}
use Rattle.ms_alloc.specs.declared.errors.AllocError.{AllocError}
use Rattle.ms_alloc.specs.declared.kinds.AllocKind.TheVariants as kind
use Rattle.ms_host.specs.Shows.{Allocated}
use Rattle.ms_host.proofs.Effects.{malloc-some, malloc-none}
use Rattle.ms_host.proofs.worlds.World.malloc.Goals as goal

pub returns-in-Ok-clause-answered : goal.returns-in-Ok-clause-answered
returns-in-Ok-clause-answered c = λ beside world shows.
    malloc-some beside world c.args.n c.in-Ok.base c.make_uninit.new.self _ c.make_uninit.ensures.keeps.fill (c.in-Ok.ensures.allocated beside world shows)

pub returns-in-Err-Full-clause-answered : goal.returns-in-Err-Full-clause-answered
returns-in-Err-Full-clause-answered c = λ beside world shows.
    malloc-none beside world c.args.n c.make_uninit.new.self _
    (subst (λ (e : AllocError). Allocated kind.Heap beside world c.args.n (Err e) c.make_uninit.new.self) c.in-Err-Full.field-0-is (c.in-Err-Full.ensures.allocated beside world shows))
