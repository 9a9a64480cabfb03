use Rattle.std.proofs.Common.{◌≡◌, ◌∙◌, map, sym, subst, OnOk, Option}
use Rattle.ms_bits.specs.declared.word_functions.BitMove.{BitMove}
use Rattle.ms_bits.specs.WordFunctions.{bits_of as width_bits, move_of}
use Rattle.ms_pass_tasks.specs.Environments.{tracked_at}
use Rattle.ms_pass_tasks.specs.ResultMasks.{word_expr, first_last}
use Rattle.ms_rules_builder.specs.Made.{with_tasks}
use Rattle.ms_rules_builder.specs.Steps.{tracked_of}
use Rattle.ms_rules_tables.specs.Rules.{answered}
use Rattle.ms_rules_tables.proofs.results.define_word_answer.Goals as goal

pub returns-in-Some : goal.returns-in-Some
returns-in-Some c =
    let ts = map tracked_of c.args.operands.now in let f = c.args.function in let n = c.args.word_width in
    subst (λ (k : Option BitMove). OnOk c.define_move.result (c.define_move.new.builder ≡ with_tasks c.args.builder.now (answered c.args.value c.args.width k (first_last ts) (word_expr f (width_bits n) (tracked_at 0 ts) (tracked_at 1 ts) (tracked_at 2 ts)) ts)))
    (sym c.in-Some.is ∙ c.of.ensures) c.define_move.ensures
