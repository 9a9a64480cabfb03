use Rattle.std.proofs.Common.{◌∙◌, ℕ, sym, subst}
use Rattle.ms_bits.specs.Maps.{bytes_at}
use Rattle.ms_runs.specs.World.{World, Effect, Gives}
use Rattle.ms_runs.specs.Externals.{where_good, compared}
use Rattle.ms_host.specs.declared.calls.Answer.{Answer}
use Rattle.ms_host.specs.Answers.{Answered}
use Rattle.ms_host.proofs.Effects.{good-then, bad-then}
use Rattle.ms_host.proofs.worlds.World.memcmp.Goals as goal

abbrev whole : (site a b n : ℕ) → World → Effect
whole site a b n world = where_good site a n world (where_good site b n world (Gives (compared (bytes_at world.bytes a n) (bytes_at world.bytes b n)) world))

pub returns-then-not-covers : goal.returns-then-not-covers
returns-then-not-covers c = λ beside world shows.
    subst (λ (x : Answer). Answered beside (whole c.args.site c.args.a c.args.b c.args.n world) x c.args.self.now) (sym c.trap.ensures)
    (bad-then beside world c.args.site c.args.a c.args.n c.args.self.now _ (sym (c.covers.ensures.good beside world shows) ∙ c.if-not-covers.true) shows)

pub returns-then-not-covers-2 : goal.returns-then-not-covers-2
returns-then-not-covers-2 c = λ beside world shows.
    subst (λ (x : Answer). Answered beside (whole c.args.site c.args.a c.args.b c.args.n world) x c.args.self.now) (sym c.trap-then-not-covers-2.ensures)
    (good-then beside _ world c.args.site c.args.a c.args.n c.args.self.now _ (sym (c.covers.ensures.good beside world shows) ∙ c.if-not-covers.false)
    (bad-then beside world c.args.site c.args.b c.args.n c.args.self.now _ (sym (c.covers-2.ensures.good beside world shows) ∙ c.if-not-covers-2.true) shows))

pub compare-word-requires-clause-first : goal.compare-word-requires-clause-first
compare-word-requires-clause-first c = sym c.covers.ensures.table ∙ c.if-not-covers.false

pub compare-word-requires-clause-second : goal.compare-word-requires-clause-second
compare-word-requires-clause-second c = sym c.covers-2.ensures.table ∙ c.if-not-covers-2.false

pub returns : goal.returns
returns c = λ beside world shows.
    good-then beside _ world c.args.site c.args.a c.args.n c.args.self.now _ (sym (c.covers.ensures.good beside world shows) ∙ c.if-not-covers.false)
    (good-then beside _ world c.args.site c.args.b c.args.n c.args.self.now _ (sym (c.covers-2.ensures.good beside world shows) ∙ c.if-not-covers-2.false)
    (c.compare-word.ensures beside world shows, shows))
