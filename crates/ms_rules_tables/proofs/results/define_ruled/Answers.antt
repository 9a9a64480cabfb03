use Rattle.std.proofs.Common.{◌≡◌, ℕ, [], ◌∷◌, map, ap, ◌∙◌, subst, OnOk}
use Rattle.ms_bits.specs.WordFunctions.{bits_of}
use Rattle.ms_pass_tasks.specs.Environments.{tracked_at}
use Rattle.ms_pass_tasks.specs.ResultMasks.{word_expr, first_last}
use Rattle.ms_rules_builder.specs.Made.{with_tasks}
use Rattle.ms_rules_builder.specs.Steps.{Inputs, tracked_of, words}
use Rattle.ms_rules_tables.specs.Rules.{defined, on_width}
use Rattle.ms_rules_tables.proofs.results.define_ruled.Goals as goal

pub returns : goal.returns
returns c =
    let r = c.define_joined in let n = c.args.word_width in
    let ts = map tracked_of c.args.operands.now in
    let e = word_expr c.args.function (bits_of n) (tracked_at 0 ts) (tracked_at 1 ts) (tracked_at 2 ts) in
    let i = c.new-inputs.ensures ∙ ap (λ (w : ℕ). on_width w ts) c.bits.ensures.value in
    subst (λ (y : Inputs). OnOk r.result (r.new.builder ≡ with_tasks c.args.builder.now (defined c.args.value c.args.width (first_last y.operands) e))) i
    (r.ensures e (ap (λ y. words y c.word_rule.result.now []) i ∙ c.word_rule.ensures.mask ts))
