use Rattle.std.proofs.Common.{eqb, refl, sym, subst}
use Rattle.std.proofs.lemmas.Bool.{eq-eqb, ne_eqb}
use Rattle.ms_bits.specs.declared.traps.Trap.TheVariants as trap
use Rattle.ms_runs.specs.World.{Does, traps}
use Rattle.ms_runs.specs.Externals.{assumed}
use Rattle.ms_host.specs.declared.calls.Answer.{Answer}
use Rattle.ms_host.specs.Answers.{Answered}
use Rattle.ms_host.proofs.Effects.{on-yes, on-no}
use Rattle.ms_host.proofs.answering.assumed.Goals as goal

pub returns-then-condition-eq0 : goal.returns-then-condition-eq0
returns-then-condition-eq0 c = λ beside meant world shows.
    subst (λ (a : Answer). Answered beside (assumed c.args.site c.args.condition meant) a world) (sym c.trap.ensures)
    (on-yes beside _ world (eqb c.args.condition 0) (traps trap.Unreachable c.args.site meant) (Does meant) (eq-eqb c.args.condition 0 c.if-condition-eq0.true) (refl, shows))

pub returns : goal.returns
returns c = λ beside meant world shows.
    on-no beside _ world (eqb c.args.condition 0) (traps trap.Unreachable c.args.site meant) (Does meant) (ne_eqb c.args.condition 0 c.if-condition-eq0.false) shows
