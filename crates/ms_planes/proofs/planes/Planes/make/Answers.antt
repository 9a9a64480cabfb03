use Rattle.std.proofs.Common.{◌≡◌, ℕ, ◌<◌, true, false, length, get_or, set, take, sym, ap, ◌∙◌, subst, arith, List, Option, Some, [], ◌∷◌, ◌++◌, ◌⊎◌, inl, inr, ⊎_elim, is_err}
use Rattle.std.proofs.lemmas.List.{take_at}
use Rattle.ms_alloc.specs.Allocations.{IsLaidOut, with_made, next_base}
use Rattle.ms_bits.specs.Maps.{with_range, with_cells}
use Rattle.ms_raw.specs.Blocks.{Lists, blank}
use Rattle.ms_planes.specs.declared.parts.Plane.TheVariants.{Bytes, Shadow}
use Rattle.ms_planes.specs.Memory.{Memory, IsMemory, lists, area_index, bytes_of, shadow_of, origins_of}
use Rattle.ms_planes.specs.contracts.planes.Planes.{the_view}
use Rattle.ms_planes.proofs.Standing.{index-low, vector-at}
use Rattle.ms_planes.proofs.Histories.{memory_of, same-memory, made_memory, made-memory, made-part, made-cells, row-put, set-same, was-made, was-not, no-ok, all-ok, no-err, all-err, is-same}
use Rattle.ms_planes.proofs.planes.Planes.make.Goals as goal
use Rattle.ms_planes.proofs.planes.Planes.make.Goals.{then-is_err, else-is_err}

abbrev before : (c : goal.Joined-is_err) → Memory
before c = memory_of c.self.inside.table (lists c.self.inside.areas)

-- the row with the new block at its end
pushed : (c : goal.Joined-is_err) → c.push.new.self.items ≡ get_or (lists c.self.inside.areas) (area_index c.args.kind) [] ++ Some (blank c.args.size) ∷ []
pushed c =
    let low : area_index c.args.kind < length (lists c.self.inside.areas) = omega (arith, c.self.invariant.three, index-low c.args.kind) in
    c.in_ok-push.ensures.items
    ∙ ap (λ (k : ℕ). (get_or c.self.inside.areas k c.index-self-area_of.result).items ++ Some c.in_ok-block.block ∷ []) c.area_of.ensures
    ∙ ap (λ (bs : List (Option Lists)). bs ++ Some c.in_ok-block.block ∷ []) (vector-at c.self.inside.areas (area_index c.args.kind) c.index-self-area_of.result low)
    ∙ ap (λ (l : Lists). get_or (lists c.self.inside.areas) (area_index c.args.kind) [] ++ Some l ∷ []) c.in_ok-block.ensures

outcome : (c : goal.Joined-is_err) → ((is_err c.make-made.result ≡ true) × (the_view c.if-is_err.self-inside ≡ before c)) ⊎ ((is_err c.make-made.result ≡ false) × (c.make-made.new.self ≡ with_made c.args.kind c.args.size c.self.inside.table) × (the_view c.if-is_err.self-inside ≡ made_memory (before c) c.args.kind c.args.size))
outcome c =
    let a : ℕ = area_index c.args.kind in
    let low : a < length (lists c.self.inside.areas) = omega (arith, c.self.invariant.three, index-low c.args.kind) in
    let row : List (Option Lists) = get_or (lists c.self.inside.areas) a [] in
    elim c.if-is_err.branch [
      | then-is_err w ↦
          let failed : is_err c.make-made.result ≡ true = sym c.is_err.ensures.value ∙ w.if-is_err.true in
          let count : length row ≡ c.len-count.result = ap (λ (bs : List (Option Lists)). length bs) (sym (ap (λ (k : ℕ). (get_or c.self.inside.areas k c.index-self-area_of.result).items) c.area_of.ensures ∙ vector-at c.self.inside.areas a c.index-self-area_of.result low)) ∙ sym (c.len-count.ensures ∙ (get_or c.self.inside.areas c.area_of.result c.index-self-area_of.result).ok.0) in
          inl (
            failed,
            ap the_view w.self-inside-is ∙ same-memory c.make-made.new.self c.self.inside.table _ (lists c.self.inside.areas) (was-not c.make-made.result c.make-made.new.self c.self.inside.table failed c.make-made.ensures.unchanged)
                (row-put c.self.inside.areas c.area_of.result a w.truncate.new.self row c.area_of.ensures (w.truncate.ensures.items ∙ ap (λ (bs : List (Option Lists)). take c.len-count.result bs) (pushed c) ∙ take_at row (Some (blank c.args.size) ∷ []) c.len-count.result count)
                ∙ set-same (lists c.self.inside.areas) a),
          )
      | else-is_err w ↦
          let good : is_err c.make-made.result ≡ false = sym c.is_err.ensures.value ∙ w.if-is_err.false in
          let table : c.make-made.new.self ≡ with_made c.args.kind c.args.size c.self.inside.table = was-made c.make-made.result c.make-made.new.self (with_made c.args.kind c.args.size c.self.inside.table) good c.make-made.ensures.made in
          inr (
            good,
            table,
            ap the_view w.self-inside-is ∙ same-memory c.make-made.new.self (with_made c.args.kind c.args.size c.self.inside.table) _ (set (lists c.self.inside.areas) a (row ++ Some (blank c.args.size) ∷ [])) table
                (row-put c.self.inside.areas c.area_of.result a c.push.new.self (row ++ Some (blank c.args.size) ∷ []) c.area_of.ensures (pushed c)),
          )
    ]

laid : (c : goal.Joined-is_err) → c.make-made.new.self ≡ with_made c.args.kind c.args.size c.self.inside.table → IsLaidOut (with_made c.args.kind c.args.size c.self.inside.table)
laid c e = subst IsLaidOut e c.make-made.ensures.laid_out

pub invariant_of-self-2 : goal.invariant_of-self-2
invariant_of-self-2 c = ⊎_elim
    (λ o. subst IsMemory (sym o.1) c.self.invariant)
    (λ o. subst IsMemory (sym o.2) (made-memory (before c) c.args.kind c.args.size c.self.invariant (laid c o.1)))
    (outcome c)

pub returns-clause-bytes : goal.returns-clause-bytes
returns-clause-bytes c = ⊎_elim
    (λ o. no-ok c.make-made.result _ o.0)
    (λ o. all-ok c.make-made.result _ (ap bytes_of o.2 ∙ made-part Bytes (before c) c.args.kind c.args.size c.self.invariant (laid c o.1) ∙ ap (λ (m : Memory). with_range (bytes_of m) (next_base c.args.kind m.table) c.args.size (λ k. 0)) c.self.view_is))
    (outcome c)

pub returns-clause-shadow : goal.returns-clause-shadow
returns-clause-shadow c = ⊎_elim
    (λ o. no-ok c.make-made.result _ o.0)
    (λ o. all-ok c.make-made.result _ (ap shadow_of o.2 ∙ made-part Shadow (before c) c.args.kind c.args.size c.self.invariant (laid c o.1) ∙ ap (λ (m : Memory). with_range (shadow_of m) (next_base c.args.kind m.table) c.args.size (λ k. 0)) c.self.view_is))
    (outcome c)

pub returns-clause-origins : goal.returns-clause-origins
returns-clause-origins c = ⊎_elim
    (λ o. no-ok c.make-made.result _ o.0)
    (λ o. all-ok c.make-made.result _ (ap origins_of o.2 ∙ made-cells (before c) c.args.kind c.args.size c.self.invariant (laid c o.1) ∙ ap (λ (m : Memory). with_cells (origins_of m) (next_base c.args.kind m.table) c.args.size 0) c.self.view_is))
    (outcome c)

pub returns-clause-unchanged : goal.returns-clause-unchanged
returns-clause-unchanged c = ⊎_elim
    (λ o. all-err c.make-made.result _ (is-same c.args.self.now (the_view c.if-is_err.self-inside) (o.1 ∙ c.self.view_is)))
    (λ o. no-err c.make-made.result _ o.0)
    (outcome c)
