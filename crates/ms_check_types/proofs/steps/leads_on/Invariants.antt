use Rattle.std.proofs.Common.{◌≡◌, drop, true}
use Rattle.std.specs.Prelude.{is_none}
use Rattle.ms_check_valid.specs.TypesAgree.{first_misstep, constant_indices}
use Rattle.ms_check_types.proofs.steps.leads_on.Given as goal

abbrev pub invariant-loop-index_ty : goal.invariant-loop-index_ty
invariant-loop-index_ty l =
    is_none (first_misstep (λ i. true) l.symbols.source.now.types l.whole l.index_ty-index (constant_indices (drop l.index_ty-index l.indices)))
    ≡ is_none (first_misstep (λ i. true) l.symbols.source.now.types l.ty 0 (constant_indices l.indices))
