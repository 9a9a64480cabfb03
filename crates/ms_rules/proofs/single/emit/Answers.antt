use Rattle.std.proofs.Common.{◌≡◌, Some, length, refl, sym, ap, subst, ◌∙◌}
use Rattle.std.specs.Prelude.{IfOk, slice_get}
use Rattle.std.proofs.Math.Path.{ap₂}
use Rattle.std.proofs.lemmas.Option.{slice_get_read, slice_get_past}
use Rattle.ms_ir.specs.Instructions.{func_at}
use Rattle.ms_pass_tasks.specs.Emit as emit
use Rattle.ms_rules.specs.Singles.{given_in, lists_of, single_lists}
use Rattle.ms_rules.proofs.SingleInsts.{func_there, single_env, single_few, single_fits, single_here, single_taken}
use Rattle.ms_rules.proofs.single.emit.Goals as goal

pub round_of-requires-clause-few : goal.round_of-requires-clause-few
round_of-requires-clause-few c =
    let m = c.args.m.now in let n = c.args.func in let fs = c.as_slice.result.now in let f = c.in-Some.function.now in
    let at : func_at m n ≡ Some f = ap (λ l. slice_get l n) (sym c.as_slice.ensures) ∙ slice_get_read fs (length fs) n f refl c.in-Some.ensures.lookup.3.0 c.in-Some.ensures.lookup.1 in
    single_few m n f at c.args.next c.requires.above c.requires.below

pub round_of-requires-clause-taken : goal.round_of-requires-clause-taken
round_of-requires-clause-taken c =
    single_taken c.args.m.now c.args.func c.args.inst.now c.args.env.now.site c.args.env.now.root c.requires.stands c.requires.formed c.requires.valid c.requires.instrumentable

pub round_of-requires-clause-room : goal.round_of-requires-clause-room
round_of-requires-clause-room c =
    let m = c.args.m.now in let n = c.args.func in let fs = c.as_slice.result.now in let f = c.in-Some.function.now in
    let at : func_at m n ≡ Some f = ap (λ l. slice_get l n) (sym c.as_slice.ensures) ∙ slice_get_read fs (length fs) n f refl c.in-Some.ensures.lookup.3.0 c.in-Some.ensures.lookup.1 in
    single_fits m n c.args.inst.now c.args.env.now.site c.args.env.now.root c.requires.stands f at c.requires.instrumentable c.args.next c.requires.below

pub unreachable-requires : goal.unreachable-requires
unreachable-requires c =
    let m = c.args.m.now in let n = c.args.func in let fs = c.as_slice.result.now in
    func_there m n c.args.inst.now c.args.env.now.site c.args.env.now.root c.requires.stands (ap (λ l. slice_get l n) (sym c.as_slice.ensures) ∙ slice_get_past fs n c.in-None.ensures.lookup.3)

pub returns : goal.returns
returns c =
    let m = c.args.m.now in let n = c.args.func in let fs = c.as_slice.result.now in let f = c.in-Some.function.now in
    let at : func_at m n ≡ Some f = ap (λ l. slice_get l n) (sym c.as_slice.ensures) ∙ slice_get_read fs (length fs) n f refl c.in-Some.ensures.lookup.3.0 c.in-Some.ensures.lookup.1 in
    subst (λ (l : emit.Emitted). IfOk c.round_of.result (λ e. lists_of e ≡ l))
    (ap₂ (λ env here. single_lists (given_in m) env here c.args.inst.now c.args.next) (single_env m n f at c.args.env.now) (single_here m n f at c.args.env.now)) c.round_of.ensures
