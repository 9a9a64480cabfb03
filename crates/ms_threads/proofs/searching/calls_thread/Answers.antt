use Rattle.std.proofs.Common.{true, sym, ap, ◌∙◌}
use Rattle.ms_ir.specs.Instructions.{func_index}
use Rattle.ms_ir.specs.ThreadCalls.{calls_thread}
use Rattle.ms_threads.proofs.Called.{thread_called}
use Rattle.ms_threads.proofs.searching.calls_thread.Goals as goal

pub returns-then-names_thread : goal.returns-then-names_thread
returns-then-names_thread c =
    thread_called c.args.funcs.now c.in-Call.callee true c.is_defined.result (sym c.if-names_thread.true ∙ c.names_thread.ensures) c.is_defined.ensures
    ∙ ap (calls_thread (func_index c.args.funcs.now)) (sym c.in-Call.is)
