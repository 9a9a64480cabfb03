use Rattle.ms_threads.proofs.runs.run_threads_told.Goals as goal

pub returns : goal.returns
returns c = λ i. record { result = c.in_ok-whole.ensures.result i; calls = c.in_ok-whole.ensures.calls i; end_calls = c.in_ok-whole.ensures.end_calls i; places = c.in_ok-whole.ensures.places i }
