use Rattle.std.proofs.Common.{◌≡◌, map, length, ap, subst, ◌∙◌}
use Rattle.std.specs.Prelude.{OnOk}
use Rattle.std.proofs.lemmas.List.{length-map}
use Rattle.ms_ir.specs.declared.syntax.Op.TheVariants as op
use Rattle.ms_rules_builder.specs.Steps.{tracked_of}
use Rattle.ms_rules.specs.Placed.{with_insts}
use Rattle.ms_rules.specs.Scopes.{env_of}
use Rattle.ms_rules.proofs.PhiEdges.{phis_are}
use Rattle.ms_rules.proofs.RootCounts.{all_tracked}
use Rattle.ms_rules.proofs.phis.push_shadow_phis.Goals as goal

pub put_shadow_phis-requires : goal.put_shadow_phis-requires
put_shadow_phis-requires c =
    ap length c.deref.ensures.value ∙ all_tracked (env_of c.args.scope.now) (op.Phi c.args.ty.now c.args.edges.now) c.args.tracking.now c.requires.tracked
    ∙ length-map c.args.edges.now (λ e. (c.args.ty.now, e.0))

pub returns-in-Some-number : goal.returns-in-Some-number
returns-in-Some-number c =
    subst (λ is. OnOk c.put_shadow_phis.result (c.put_shadow_phis.new.builder ≡ with_insts c.args.builder.now is))
    (phis_are c.args.scope.now c.in-Some-number.value c.args.tracking.now.before c.args.name.now c.in-Some.name c.args.ty.now c.args.edges.now c.deref.result.now c.in-Some.is c.in-Some-number.ensures
    (ap (map tracked_of) c.deref.ensures.value ∙ c.requires.tracked.are)) c.put_shadow_phis.ensures
