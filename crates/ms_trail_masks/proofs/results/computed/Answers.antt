use Rattle.std.proofs.Common.{length, sym, subst}
use Rattle.std.specs.Prelude.{All}
use Rattle.ms_machine_code.specs.declared.code.Code.{Code}
use Rattle.ms_machine_code.specs.declared.code.Code.TheVariants as code
use Rattle.ms_machine_code.specs.Fits.{IsStride}
use Rattle.ms_trail_masks.specs.Results.{IsComputed}
use Rattle.ms_trail_masks.proofs.Computing.{binary_told, icmp_told, cast_told, select_told, address_told}
use Rattle.ms_trail_masks.proofs.results.computed.Goals as goal

pub returns-in-Binary : goal.returns-in-Binary
returns-in-Binary c =
    let k = c.in-Binary in
    let v = c.args.view.now in
    let a = c.read_word-a in
    let b = c.read_word-b in
    binary_told v.fill.now v.values.now v.masks.now c.args.code.now k.op k.flags k.width k.a k.b k.to a.result.value a.result.mask b.result.value b.result.mask c.binary_mask.result
    k.is c.binary_mask.ensures a.ensures.value a.ensures.mask b.ensures.value b.ensures.mask

pub returns-in-Icmp : goal.returns-in-Icmp
returns-in-Icmp c =
    let k = c.in-Icmp in
    let v = c.args.view.now in
    let a = c.read_word-a-in-Icmp in
    let b = c.read_word-b-in-Icmp in
    icmp_told v.fill.now v.values.now v.masks.now c.args.code.now k.pred k.flags k.width k.a k.b k.to a.result.value a.result.mask b.result.value b.result.mask c.compare_mask.result
    k.is c.compare_mask.ensures a.ensures.value a.ensures.mask b.ensures.value b.ensures.mask

pub returns-in-Cast : goal.returns-in-Cast
returns-in-Cast c =
    let k = c.in-Cast in
    let v = c.args.view.now in
    cast_told v.fill.now v.values.now v.masks.now c.args.code.now k.op k.flags k.width k.a k.into k.to c.read_word.result.mask c.cast_mask.result k.is c.cast_mask.ensures c.read_word.ensures.mask

pub returns-in-Select : goal.returns-in-Select
returns-in-Select c =
    let k = c.in-Select in
    let v = c.args.view.now in
    let t = c.read_word-cond in
    let a = c.read_word-a-in-Select in
    let b = c.read_word-b-in-Select in
    select_told v.fill.now v.values.now v.masks.now c.args.code.now k.cond k.a k.b k.to t.result.value t.result.mask a.result.value a.result.mask b.result.value b.result.mask c.select_mask.result
    k.is c.select_mask.ensures t.ensures.value t.ensures.mask a.ensures.value a.ensures.mask b.ensures.value b.ensures.mask

pub returns-in-Gep : goal.returns-in-Gep
returns-in-Gep c =
    let k = c.in-Gep in
    let v = c.args.view.now in
    address_told v.fill.now v.values.now v.masks.now c.args.code.now k.base k.offset k.strides c.as_slice.result.now k.to c.address_mask.result k.is c.as_slice.ensures c.address_mask.ensures

pub address_mask-requires-clause-strides : goal.address_mask-requires-clause-strides
address_mask-requires-clause-strides c =
    let k = c.in-Gep in
    let fits : IsComputed (length c.args.view.now.values.now) (code.Gep k.base k.offset k.strides k.to) = subst (λ (z : Code). IsComputed (length c.args.view.now.values.now) z) k.is c.requires.computed in
    subst (λ ss. All (IsStride (length c.args.view.now.values.now)) ss) (sym c.as_slice.ensures) fits.1
