use Rattle.std.proofs.Common.{◌≡◌, ◌<◌, ◌+◌, ◌^◌, List, [], length, get_or, refl, sym, ap, subst, ◌∙◌, arith}
use Rattle.ms_ir.specs.Instructions.{roots_in, over_blocks, over_funcs}
use Rattle.ms_check_tables.specs.FirstPlace.{first_place}
use Rattle.ms_machine_compile.specs.Flat.{EachFunc}
use Rattle.ms_machine_compile.proofs.Pushes.{Pushing, pushing_none, pushing_all}
use Rattle.ms_trail_uses.specs.declared.tables.InstRow.{InstRow}
use Rattle.ms_trail_uses.specs.Tabled.{IsRow}
use Rattle.ms_trail_uses.proofs.Sums.{funcs_taken, funcs_within, no_funcs}
use Rattle.ms_trail_uses.proofs.Rows.{functions_found, func_rows_more, tables_are}
use Rattle.ms_trail_uses.proofs.tables.rows_of.Goals as goal

pub loop-func-init : goal.loop-func-init
loop-func-init c =
    let m = c.args.m.now in
    let functions = c.args.functions.now in
    let found = functions_found m functions c.requires.functions in
    record {
      found = found;
      roots = sym (no_funcs (roots_in (first_place functions)) m.funcs);
      few = subst (λ f. over_funcs (roots_in f) m.funcs < 2 ^ 32) (sym found) c.requires.few;
      pushing = subst (λ (rs : List InstRow). Pushing (EachFunc (IsRow m)) [] rs 0 m.funcs) (sym c.new-rows.ensures.items) (pushing_none (EachFunc (IsRow m)) [] m.funcs);
    }

pub push_blocks-requires : goal.push_blocks-requires
push_blocks-requires c =
    let count = roots_in (first_place c.args.functions.now) in
    let fs = c.args.m.now.funcs in
    let i = c.loop-func.func-index in
    let same = c.as_slice-func-items.ensures in
    let f = c.func-item.result in
    let sum = funcs_taken count fs i f (subst (λ gs. i < length gs) same c.loop-func-test.true) (c.func-item.is ∙ ap (λ gs. get_or gs i f) same) in
    let here : over_blocks count c.as_slice.result.now ≡ over_blocks count f.blocks = ap (over_blocks count) c.as_slice.ensures in
    omega (arith, sum, here, funcs_within count fs (i + 1), c.loop-func.invariant.roots, c.loop-func.invariant.few)

pub loop-func-preserved : goal.loop-func-preserved
loop-func-preserved c =
    let m = c.args.m.now in
    let functions = c.args.functions.now in
    let count = roots_in (first_place functions) in
    let i = c.loop-func.func-index in
    let same = c.as_slice-func-items.ensures in
    let f = c.func-item.result in
    let lt : i < length m.funcs = subst (λ gs. i < length gs) same c.loop-func-test.true in
    let is = c.func-item.is ∙ ap (λ gs. get_or gs i f) same in
    record {
      found = c.loop-func.invariant.found;
      roots =
          let sum = funcs_taken count m.funcs i f lt is in
          let here : over_blocks count c.as_slice.result.now ≡ over_blocks count f.blocks = ap (over_blocks count) c.as_slice.ensures in
          omega (arith, sum, here, c.loop-func.invariant.roots, c.in_ok-roots.ensures.after);
      few = c.loop-func.invariant.few;
      pushing = func_rows_more m i c.loop-func.roots (first_place functions) [] c.loop-func.rows.items c.push_blocks.new.rows.items f c.as_slice.result.now lt is c.loop-func.invariant.found c.as_slice.ensures c.loop-func.invariant.roots
          c.in_ok-roots.ensures.rows c.loop-func.invariant.pushing;
    }

pub returns : goal.returns
returns c =
    let m = c.args.m.now in
    let e : length m.funcs ≡ c.loop-func.func-index = sym (ap length c.as_slice-func-items.ensures) ∙ (let h : length c.as_slice-func-items.result.now ≡ c.loop-func.func-index = omega arith in h) in
    let all = pushing_all (EachFunc (IsRow m)) [] c.loop-func.rows.items c.loop-func.func-index m.funcs e refl c.loop-func.invariant.pushing in
    tables_are m c.loop-func.rows.items (subst (λ rs. EachFunc (IsRow m) 0 rs m.funcs) (sym all.is) all.each)
