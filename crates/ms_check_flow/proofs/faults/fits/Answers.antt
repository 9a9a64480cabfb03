use Rattle.std.proofs.Common.{not, sym, ap, ◌∙◌}
use Rattle.ms_ir.specs.declared.syntax.Block.{Block}
use Rattle.ms_ir.specs.Equal.{has_name}
use Rattle.ms_ir.specs.Spots.{spot}
use Rattle.ms_ir.specs.Written.{targets}
use Rattle.ms_check_valid.specs.FlowGraph.{name_place}
use Rattle.ms_check_flow.proofs.Operands.{plain_fits}
use Rattle.ms_check_flow.proofs.PhiRows.{block_there, number_within, row_within, phi_judged, if_ok_then}
use Rattle.ms_check_flow.proofs.faults.fits.Goals as goal

pub fits_row-requires-clause-to : goal.fits_row-requires-clause-to
fits_row-requires-clause-to c =
    let f = c.args.func.now in
    let b = c.index-blocks-block.result in
    let at = block_there c.as_slice-blocks.result.now f.blocks c.args.block b c.as_slice-blocks.ensures c.requires.block c.index-blocks-block.is in
    let is = c.name_place-to.ensures ∙ ap (λ (z : Block). name_place c.args.into.now.blocks z.name) (sym c.index-blocks-block.is) in
    number_within f c.args.into.now c.requires.edges c.args.block b c.name_place-to.result at is

pub fits_row-requires-clause-below : goal.fits_row-requires-clause-below
fits_row-requires-clause-below c =
    let f = c.args.func.now in
    let b = c.index-blocks-block.result in
    let at = block_there c.as_slice-blocks.result.now f.blocks c.args.block b c.as_slice-blocks.ensures c.requires.block c.index-blocks-block.is in
    let is = c.name_place-to.ensures ∙ ap (λ (z : Block). name_place c.args.into.now.blocks z.name) (sym c.index-blocks-block.is) in
    row_within f c.args.into.now c.requires.edges c.args.block b c.name_place-to.result at is

pub returns-in-Some-clause-is : goal.returns-in-Some-clause-is
returns-in-Some-clause-is c =
    let f = c.args.func.now in
    let b = c.index-blocks-block.result in
    let at = block_there c.as_slice-blocks.result.now f.blocks c.args.block b c.as_slice-blocks.ensures c.requires.block c.index-blocks-block.is in
    let is = c.name_place-to.ensures ∙ ap (λ (z : Block). name_place c.args.into.now.blocks z.name) (sym c.index-blocks-block.is) in
    if_ok_then c.fits_row.result c.fits_row.ensures.is (λ r judged place site.
    phi_judged f c.args.into.now c.requires.edges c.args.block b c.name_place-to.result at is r c.in-Some.edges.now judged
    c.in-Some.ensures.0 c.args.op.now c.in-Some.ensures.1 place site)

pub returns-in-None-clause-is : goal.returns-in-None-clause-is
returns-in-None-clause-is c =
    let op = c.args.op.now in
    λ place site. ap not (c.goes_to.ensures ∙ ap (has_name (targets op)) c.entry_label.ensures)
    ∙ sym (plain_fits (spot c.args.func.now c.args.block place site) op c.in-None.ensures)
