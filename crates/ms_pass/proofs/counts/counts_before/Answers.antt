use Rattle.std.proofs.Common.{◌≡◌, ◌++◌, [], ◌∷◌, map, List, ap, ap₂, sym, subst, ◌∙◌, arith}
use Rattle.std.proofs.lemmas.List.FromFn.{map-range_with_len_more}
use Rattle.std.specs.List.{range_with_len}
use Rattle.ms_ir.specs.declared.syntax.Block.{Block}
use Rattle.ms_ir.specs.declared.syntax.Func.{Func}
use Rattle.ms_check_tables.specs.FirstPlace.{first_place}
use Rattle.ms_pass.specs.declared.counts.Counts.{Counts}
use Rattle.ms_pass.specs.Counted.{past_blocks, AreSmall}
use Rattle.ms_pass.specs.Passed.{before_func, func_in}
use Rattle.ms_pass.proofs.FuncWalk.{found_at, next_counts, small_at}
use Rattle.ms_pass.proofs.counts.counts_before.Goals as goal

pub after_blocks-counts-requires : goal.after_blocks-counts-requires
after_blocks-counts-requires c =
    let func = first_place c.args.functions.now in let fs = c.args.funcs.now in let k = c.loop-func.func-index in let below = c.loop-func-test.true in
    let at : c.func-item.result ≡ func_in fs k = c.func-item.is ∙ found_at fs k c.func-item.result _ below in
    let blocks : c.as_slice.result.now ≡ (func_in fs k).blocks = c.as_slice.ensures ∙ ap (λ (f : Func). f.blocks) at in
    subst AreSmall (sym (ap₂ (λ n (bs : List Block). past_blocks func n bs) c.loop-func.invariant.counts blocks)) (small_at func fs k below c.requires)

pub loop-func-preserved : goal.loop-func-preserved
loop-func-preserved c =
    let func = first_place c.args.functions.now in let fs = c.args.funcs.now in let k = c.loop-func.func-index in let below = c.loop-func-test.true in
    let at : c.func-item.result ≡ func_in fs k = c.func-item.is ∙ found_at fs k c.func-item.result _ below in
    let blocks : c.as_slice.result.now ≡ (func_in fs k).blocks = c.as_slice.ensures ∙ ap (λ (f : Func). f.blocks) at in
    let kept = c.loop-func.invariant in
    record {
      all = c.in_ok-push.ensures.items ∙ (ap₂ (λ (l : List Counts) x. l ++ x ∷ []) kept.all kept.counts ∙ sym (map-range_with_len_more (before_func func fs) 0 k k (omega arith)));
      counts = c.after_blocks-counts.ensures ∙ ap₂ (λ n (bs : List Block). past_blocks func n bs) kept.counts blocks ∙ next_counts func fs k below;
    }

pub returns : goal.returns
returns c =
    let func = first_place c.args.functions.now in let fs = c.args.funcs.now in
    c.loop-func.invariant.all ∙ ap (λ n. map (before_func func fs) (range_with_len 0 n)) (omega arith)
