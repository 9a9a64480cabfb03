use Rattle.std.proofs.Common.{◌≡◌, ◌∙◌, ap}
use Rattle.ms_runs.specs.Uses.{blind_words}
use Rattle.ms_rules_tables.proofs.Unions.{words_of_call}
use Rattle.ms_rules_tables.proofs.blind.blinded.Goals as goal

pub returns-in-Call : goal.returns-in-Call
returns-in-Call c = λ func calls.
    c.blind_words.ensures ∙ ap (λ args. blind_words c.args.external args c.args.operands.now) c.as_slice.ensures
    ∙ words_of_call func c.args.op.now c.in-Call.ret c.in-Call.callee c.in-Call.args c.args.external c.args.operands.now c.in-Call.is calls
