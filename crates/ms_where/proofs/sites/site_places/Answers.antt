use Rattle.std.proofs.Common.{◌≡◌, ◌∙◌, map}
use Rattle.std.proofs.lemmas.Result.{IfOk-weaker}
use Rattle.ms_ir.specs.Instructions.{is_unmarked}
use Rattle.ms_where_places.specs.Instructions.{module_insts}
use Rattle.ms_where.specs.Sites as spec
use Rattle.ms_where.proofs.Chosen.{of_module}
use Rattle.ms_where.proofs.sites.site_places.Goals as goal

pub returns : goal.returns
returns c =
    let m = c.args.m.now in
    let marks = c.args.marks.now in
    let tests : c.deref.result.now ≡ map is_unmarked (module_insts m) = cc (c.deref.ensures.value, c.in_ok-have_sites.ensures) in
    let places : c.deref-2.result.now ≡ spec.instruction_places marks = cc (c.deref-2.ensures.value, c.in_ok-places.ensures) in
    IfOk-weaker c.with_sites.result _ (λ found. found.items ≡ spec.site_places m marks) (λ found is. is ∙ of_module m marks _ _ tests places) c.with_sites.ensures
