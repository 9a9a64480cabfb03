use denote.Exit.{yes}
use denote.Param.Send.{param_send, param_sync, arg_send, arg_sync}
use Rattle.std.proofs.Common.{◌∙◌, arith}
use Rattle.ms_ir.proofs.Crosses.{Func-send}
use Rattle.ms_check_tables.specs.FirstPlace.{first_place}
use Rattle.ms_pass.proofs.Crosses.{Functions-sync}
use Rattle.ms_pass.proofs.FuncWalk.{counts_many, counts_kept, ready_at, small_at}
use Rattle.ms_pass.proofs.functions.passed_funcs.Goals as goal

pub parallel_map-requires-send-T : goal.parallel_map-requires-send-T
parallel_map-requires-send-T g c κs within = param_send 2 _ (arg_send _ yes _ Func-send)

pub parallel_map-requires-sync-W : goal.parallel_map-requires-sync-W
parallel_map-requires-sync-W g c κs within = param_sync 1 _ (arg_sync _ yes _ (Functions-sync _ _))

pub parallel_map-requires-after_bounds : goal.parallel_map-requires-after_bounds
parallel_map-requires-after_bounds g c κs within = λ k below.
    let func = first_place c.args.functions.now in let fs = c.args.funcs.now in
    let kept = c.deref.ensures.value ∙ c.in_ok-counts.ensures in
    let many = counts_many func fs c.deref.result.now kept in
    record {
      is_func = below;
      has_names = omega (arith, c.requires.sets, below);
      has_counts = omega (arith, many, below);
      counted = counts_kept func fs c.deref.result.now k below kept;
      ready = ready_at c.args.extents.now fs k below c.requires.ready;
      small = small_at func fs k below c.requires.small;
    }
