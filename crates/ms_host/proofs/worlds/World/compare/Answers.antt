use Rattle.std.proofs.Common.{◌≡◌, ◌∙◌, ◌+◌, ◌-◌, ℕ, ap, arith, sym, subst}
use Rattle.ms_alloc.specs.Allocations.{IsLaidOut}
use Rattle.ms_bits.specs.Maps.{bytes_at}
use Rattle.ms_host.proofs.Liveness.{part-live}
use Rattle.ms_runs.specs.Externals.{compared}
use Rattle.ms_host.specs.State.{WorldState}
use Rattle.ms_host.proofs.StringSteps.{fits-word, compared-same, compared-less, compared-more}
use Rattle.ms_host.proofs.worlds.World.compare.Goals as goal

pub overflow_add-a : goal.overflow_add-a
overflow_add-a c = omega (arith, fits-word c.args.self.now.planes.table c.args.a c.args.n c.loop-k.k (subst (λ (h : WorldState). IsLaidOut h.planes.table) c.self.view_is c.law_laid_out.ensures) c.requires.first c.loop-k-test.true)

pub byte-x-requires : goal.byte-x-requires
byte-x-requires c = part-live c.args.self.now.planes.table c.args.a c.args.n c.loop-k.k c.requires.first c.loop-k-test.true

pub overflow_add-b : goal.overflow_add-b
overflow_add-b c = omega (arith, fits-word c.args.self.now.planes.table c.args.b c.args.n c.loop-k.k (subst (λ (h : WorldState). IsLaidOut h.planes.table) c.self.view_is c.law_laid_out.ensures) c.requires.second c.loop-k-test.true)

pub byte-y-requires : goal.byte-y-requires
byte-y-requires c = part-live c.args.self.now.planes.table c.args.b c.args.n c.loop-k.k c.requires.second c.loop-k-test.true

pub loop-k-init : goal.loop-k-init
loop-k-init c = λ beside world shows.
    let x : c.args.a ≡ c.args.a + 0 = omega arith in
    let y : c.args.b ≡ c.args.b + 0 = omega arith in
    let n : c.args.n ≡ c.args.n - 0 = omega arith in
    ap (λ (k : ℕ). compared (bytes_at world.bytes c.args.a k) (bytes_at world.bytes c.args.b k)) n
    ∙ ap (λ (z : ℕ). compared (bytes_at world.bytes z (c.args.n - 0)) (bytes_at world.bytes c.args.b (c.args.n - 0))) x
    ∙ ap (λ (z : ℕ). compared (bytes_at world.bytes (c.args.a + 0) (c.args.n - 0)) (bytes_at world.bytes z (c.args.n - 0))) y

pub returns-then-x-y : goal.returns-then-x-y
returns-then-x-y c = λ beside world shows.
    sym (c.loop-k.invariant beside world shows ∙ compared-less world.bytes c.args.a c.args.b c.loop-k.k c.args.n c.loop-k-test.true (omega (arith, c.if-x-y.true, c.byte-x.ensures beside world shows, c.byte-y.ensures beside world shows)))

pub returns-then-y-x : goal.returns-then-y-x
returns-then-y-x c = λ beside world shows.
    sym (c.loop-k.invariant beside world shows ∙ compared-more world.bytes c.args.a c.args.b c.loop-k.k c.args.n c.loop-k-test.true (omega (arith, c.if-y-x.true, c.byte-x.ensures beside world shows, c.byte-y.ensures beside world shows)))

pub loop-k-preserved : goal.loop-k-preserved
loop-k-preserved c = λ beside world shows.
    c.loop-k.invariant beside world shows ∙ compared-same world.bytes c.args.a c.args.b c.loop-k.k c.args.n c.loop-k-test.true (omega (arith, c.if-x-y.false, c.if-y-x.false, c.byte-x.ensures beside world shows, c.byte-y.ensures beside world shows))

pub returns : goal.returns
returns c = λ beside world shows.
    let none : c.args.n - c.loop-k.k ≡ 0 = omega (arith, c.loop-k-test.false) in
    sym (c.loop-k.invariant beside world shows ∙ ap (λ (m : ℕ). compared (bytes_at world.bytes (c.args.a + c.loop-k.k) m) (bytes_at world.bytes (c.args.b + c.loop-k.k) m)) none)
