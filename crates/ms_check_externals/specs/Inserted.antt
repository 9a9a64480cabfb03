-- Whether a mark fits where the function's marked results are given. What `first_bad_mark` promises does not name this.
use Rattle.std.specs.Prelude.{Bool, not, ◌&&◌, List, if◌then◌else◌}
use Rattle.std.specs.List.{list_any}
use Rattle.ms_ir.specs.declared.syntax.Name.{Name}
use Rattle.ms_ir.specs.declared.syntax.Inst.{Inst}
use Rattle.ms_ir.specs.Names.{is_inserted_name}
use Rattle.ms_ir.specs.Written.{mentions}
use Rattle.ms_check_valid.specs.MarksFit.{may_be_marked, all_results, is_inserted}

-- an instruction of a function with these marked results has the mark that it may have
abbrev pub fits : List Name → Inst → Bool
fits marked inst =
    if inst.marked
    then may_be_marked inst.op && all_results is_inserted_name inst.result
    else all_results (λ x. not (is_inserted_name x)) inst.result && not (list_any (is_inserted marked) (mentions inst.op))
