use Rattle.std.proofs.Common.{◌∙◌, refl, sym, subst}
use Rattle.std.proofs.lemmas.Bool.{eq-eqb, ne_eqb}
use Rattle.ms_host.specs.declared.calls.Answer.{Answer}
use Rattle.ms_host.specs.Answers.{Answered, read_of}
use Rattle.ms_host.proofs.Effects.{good-then, bad-then, on-yes, on-no}
use Rattle.ms_host.proofs.worlds.World.read.Goals as goal

pub returns-then-not-covers-clause-answered : goal.returns-then-not-covers-clause-answered
returns-then-not-covers-clause-answered c = λ beside world shows.
    subst (λ (a : Answer). Answered beside (read_of c.args.site c.args.from c.args.addr c.args.n world) a c.args.self.now) (sym c.trap.ensures)
    (bad-then beside world c.args.site c.args.addr c.args.n c.args.self.now _ (sym (c.covers.ensures.good beside world shows) ∙ c.if-not-covers.true) shows)

pub returns-then-from-ne0-clause-answered : goal.returns-then-from-ne0-clause-answered
returns-then-from-ne0-clause-answered c = λ beside world shows.
    good-then beside _ world c.args.site c.args.addr c.args.n c.args.self.now _ (sym (c.covers.ensures.good beside world shows) ∙ c.if-not-covers.false)
    (on-no beside _ c.args.self.now _ _ _ (ne_eqb c.args.from 0 c.if-from-ne0.true) (refl, shows))

pub take-count-requires : goal.take-count-requires
take-count-requires c = sym c.covers.ensures.table ∙ c.if-not-covers.false

pub returns-clause-answered : goal.returns-clause-answered
returns-clause-answered c = λ beside world shows.
    good-then beside _ world c.args.site c.args.addr c.args.n c.take-count.new.self _ (sym (c.covers.ensures.good beside world shows) ∙ c.if-not-covers.false)
    (on-yes beside _ c.take-count.new.self _ _ _ (eq-eqb c.args.from 0 c.if-from-ne0.false) (c.take-count.ensures.taken beside world shows))
