use Rattle.std.proofs.Common.{length, sym, subst, ap, ◌∙◌}
use Rattle.std.specs.Prelude.{All}
use Rattle.ms_machine_code.specs.declared.code.Code.{Code}
use Rattle.ms_machine_code.specs.declared.code.Code.TheVariants as code
use Rattle.ms_machine_code.specs.Fits.{IsStride}
use Rattle.ms_trail_masks.specs.Results.{IsComputed}
use Rattle.ms_trail_uses.specs.Origins.{index_read, place_read}
use Rattle.ms_trail_uses.proofs.Placing.{other_place}
use Rattle.ms_trail_uses.proofs.places.result_place.Goals as goal

pub returns-in-Binary : goal.returns-in-Binary
returns-in-Binary c = let v = c.args.view.now in c.last_of_two.ensures ∙ sym (ap (place_read v.fill.now v.values.now v.masks.now c.args.op.now) c.in-Binary.is)

pub returns-in-Icmp : goal.returns-in-Icmp
returns-in-Icmp c = let v = c.args.view.now in c.last_of_two-in-Icmp.ensures ∙ sym (ap (place_read v.fill.now v.values.now v.masks.now c.args.op.now) c.in-Icmp.is)

pub returns-in-Select : goal.returns-in-Select
returns-in-Select c = let v = c.args.view.now in c.selected.ensures ∙ sym (ap (place_read v.fill.now v.values.now v.masks.now c.args.op.now) c.in-Select.is)

pub index_place-requires-clause-strides : goal.index_place-requires-clause-strides
index_place-requires-clause-strides c =
    let k = c.in-Gep in
    let n = length c.args.view.now.values.now in
    let fits : IsComputed n (code.Gep k.base k.offset k.strides k.to) = subst (λ (z : Code). IsComputed n z) k.is c.requires.computed in
    subst (λ ss. All (IsStride n) ss) (sym c.as_slice.ensures) fits.1

pub returns-in-Gep : goal.returns-in-Gep
returns-in-Gep c =
    let v = c.args.view.now in
    c.index_place.ensures ∙ ap (index_read v.masks.now c.args.op.now) c.as_slice.ensures ∙ sym (ap (place_read v.fill.now v.values.now v.masks.now c.args.op.now) c.in-Gep.is)

pub returns-in_default : goal.returns-in_default
returns-in_default c =
    let v = c.args.view.now in
    let d = c.in_default in
    other_place v.fill.now v.values.now v.masks.now c.args.op.now c.args.code.now d.not-Binary d.not-Icmp d.not-Select d.not-Gep
