use Rattle.ms_top.proofs.Making.{same_threads}
use Rattle.ms_top.proofs.passes.instrumented_by.Goals as goal
use Rattle.ms_runtime.proofs.Fitting.{if_ok}

pub returns-clause-threads : goal.returns-clause-threads
returns-clause-threads g c =
    if_ok c.new.result
    (λ k same. same_threads c.args.m.now c.in_ok-instrumented.instrumented k same c.in_ok-instrumented.ensures.stripped c.law_valid.ensures.valid)
    c.new.ensures
