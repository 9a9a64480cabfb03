use Rattle.std.proofs.Common.{◌∙◌, sym, subst, Err, ℕ, List}
use Rattle.std.proofs.lemmas.Result.{IfOk-weaker}
use Rattle.ms_alloc.specs.declared.errors.AllocError.{AllocError}
use Rattle.ms_alloc.specs.declared.kinds.AllocKind.TheVariants as kind
use Rattle.ms_ir.specs.Areas.{Heap}
use Rattle.ms_runs.specs.Externals.{malloc, realloc}
use Rattle.ms_runs.specs.Memory.{make_unset}
use Rattle.ms_host.specs.declared.calls.Answer.{Answer}
use Rattle.ms_host.specs.Shows.{Shows, Allocated}
use Rattle.ms_host.specs.Answers.{Answered}
use Rattle.ms_host.proofs.Effects.{realloc-null, realloc-bad, realloc-full, realloc-some, old-good, new-good}
use Rattle.ms_host.proofs.worlds.World.realloc.Goals as goal

pub returns-then-base-eq0-clause-answered : goal.returns-then-base-eq0-clause-answered
returns-then-base-eq0-clause-answered c = λ beside world shows.
    IfOk-weaker c.malloc.result (λ a. Answered beside (malloc c.args.self.now.fill c.args.n world) a c.malloc.new.self) (λ a. Answered beside (realloc c.args.self.now.fill c.args.site c.args.base c.args.n world) a c.malloc.new.self)
    (λ a h. realloc-null beside a world c.args.site c.args.base c.args.n c.malloc.new.self c.args.self.now.fill c.if-base-eq0.true h) (c.malloc.ensures.answered beside world shows)

pub returns-in_default-clause-answered : goal.returns-in_default-clause-answered
returns-in_default-clause-answered c = λ beside world shows.
    subst (λ (a : Answer). Answered beside (realloc c.args.self.now.fill c.args.site c.args.base c.args.n world) a c.args.self.now) (sym c.trap.ensures)
    (realloc-bad beside world c.args.site c.args.base c.args.n c.args.self.now c.args.self.now.fill c.if-base-eq0.false (sym (c.heap_size.ensures.size beside world shows) ∙ c.in_default.is) shows)

pub returns-in-Err-Full-clause-answered : goal.returns-in-Err-Full-clause-answered
returns-in-Err-Full-clause-answered c = λ beside world shows.
    realloc-full beside world c.args.site c.args.base c.args.n c.in-Some.old c.make_uninit.new.self c.args.self.now.fill c.if-base-eq0.false (sym (c.heap_size.ensures.size beside world shows) ∙ c.in-Some.is)
    (subst (λ (e : AllocError). Allocated kind.Heap beside world c.args.n (Err e) c.make_uninit.new.self) c.in-Err-Full.field-0-is (c.in-Err-Full.ensures.allocated beside world shows))

pub copy_all-requires-clause-to : goal.copy_all-requires-clause-to
copy_all-requires-clause-to c = new-good c.args.self.now.planes.table c.make_uninit.new.self.planes.table c.args.n c.in-Some.old c.in-Ok.new c.smaller.result c.in-Ok.ensures.table c.smaller.ensures

pub copy_all-requires-clause-from : goal.copy_all-requires-clause-from
copy_all-requires-clause-from c =
    old-good c.args.self.now.planes.table c.make_uninit.new.self.planes.table c.args.base c.args.n c.in-Some.old c.in-Ok.new c.smaller.result (sym c.heap_size.ensures.table ∙ c.in-Some.is) c.in-Ok.ensures.table c.smaller.ensures

pub returns-clause-answered : goal.returns-clause-answered
returns-clause-answered c = λ beside world shows.
    let made = c.in-Ok.ensures.allocated beside world shows in
    realloc-some beside world c.args.site c.args.base c.args.n c.in-Some.old c.in-Ok.new c.smaller.result c.free_block.new.self c.args.self.now.fill c.if-base-eq0.false (sym (c.heap_size.ensures.size beside world shows) ∙ c.in-Some.is) made.0 made.1 c.smaller.ensures
    (c.free_block.ensures.ended beside _ (c.in_ok-copy_all.ensures.copied beside _ (subst (λ (fill : List ℕ). Shows c.make_uninit.new.self beside (make_unset fill Heap c.args.n world)) c.make_uninit.ensures.keeps.fill made.2)))
