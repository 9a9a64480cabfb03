-- A list of a list of lists gets one more item.
use Rattle.std.proofs.Common.{◌≡◌, ℕ, List, [], ◌∷◌, ◌++◌, sym, ap, ◌∙◌, arith}
use Rattle.std.specs.Prelude.{◌<◌, map, length, slice_set, slice_index_or}
use Rattle.std.proofs.Math.Path.{ap₂}
use Rattle.std.proofs.lemmas.List.{get_or-map, map-set, length-map}

pub pushed_row : {V : Type 0} (rows : List V) (to from : ℕ) (old new : V) (view : V → List ℕ) (seen : List (List ℕ)) → to < length seen → map view rows ≡ seen
    → old ≡ slice_index_or rows to old → view new ≡ view old ++ from ∷ []
    → map view (slice_set rows to new) ≡ slice_set seen to (slice_index_or seen to [] ++ from ∷ [])
pushed_row rows to from old new view seen l e is pushed =
    let within : to < length rows = omega (arith, ap length e, length-map rows view, l) in
    let there : view old ≡ slice_index_or seen to [] =
    ap view is ∙ sym (get_or-map view rows to old [] within) ∙ ap (λ s. slice_index_or s to []) e in
    map-set view rows to new ∙ ap₂ (λ s r. slice_set s to r) e (pushed ∙ ap (λ r. r ++ from ∷ []) there)
