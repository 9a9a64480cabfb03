use Rattle.std.proofs.Common.{ap, sym, ◌∙◌, map}
use Rattle.std.specs.List.{list_all}
use Rattle.std.proofs.lemmas.List.Folds.{list_all-map}
use Rattle.ms_check_types.specs.SizedParts.{has_sizes}
use Rattle.ms_check_types.proofs.AllSized.{and_then}
use Rattle.ms_check_types.proofs.written.is_step_sized.Goals as goal

pub returns-then-has_sizes : goal.returns-then-has_sizes
returns-then-has_sizes c =
    let types = c.args.extents.now in
    let s = c.args.step.now in
    and_then c.has_sizes.result (has_sizes types s.0) c.are_indices_sized.result (list_all (has_sizes types) (map (λ i. i.0) s.1)) c.if-has_sizes.true c.has_sizes.ensures
    (c.are_indices_sized.ensures ∙ ap (list_all (λ i. has_sizes types i.0)) c.as_slice.ensures ∙ sym (list_all-map (has_sizes types) (λ i. i.0) s.1))
