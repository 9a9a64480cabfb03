use Rattle.std.proofs.Common.{refl}
use Rattle.ms_runtime.proofs.Fitting.{arguments_within}
use Rattle.ms_threads.proofs.Results.{can_answer, asking_alone, fits_result}
use Rattle.ms_threads.proofs.runs.ThreadedRun.answer_of.Goals as goal

pub put_result-requires-clause-asked : goal.put_result-requires-clause-asked
put_result-requires-clause-asked c = c.if-asks_result.ensures

pub put_result-requires-clause-fits : goal.put_result-requires-clause-fits
put_result-requires-clause-fits c =
    let q = c.requires.asking in
    let a = q.2.1 in
    let args = arguments_within c.args.m.now c.law_valid.ensures.valid q.0 c.args.call.now c.args.self.now.running.fiber a.within.frames a.stands.frames a.waits in
    fits_result c.args.call.now.asked args.0 c.args.call.now.args c.if-asks_result.ensures args.1.count args.1.words

pub returns-then-asks_result : goal.returns-then-asks_result
returns-then-asks_result c = record {
  answered = λ u schedule same q. c.in_ok-put_result.ensures.answered c.args.m.now u schedule q;
  table = c.put_result.ensures.table;
  calls = c.put_result.ensures.calls;
}

pub answer_of-requires : goal.answer_of-requires
answer_of-requires c =
    let q = c.requires.asking in
    record {
      asking = (q.0, (q.2.0, asking_alone c.args.m.now q.0 q.1 c.args.self.now c.args.call.now q.2.1 (can_answer c.args.call.now.asked q.2.1.beside c.requires.other c.if-asks_result.ensures)));
    }

pub returns : goal.returns
returns c = record {
  answered = λ u schedule same q.
      c.answer_of.ensures.answered u same (asking_alone c.args.m.now u schedule c.args.self.now c.args.call.now q (can_answer c.args.call.now.asked q.beside c.requires.other c.if-asks_result.ensures));
  table = refl;
  calls = (refl, refl, refl, refl);
}
