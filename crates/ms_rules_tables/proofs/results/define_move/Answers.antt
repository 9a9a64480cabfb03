use Rattle.std.proofs.Common.{◌≡◌, ◌∙◌, ℕ, [], ◌∷◌, map, reverse, sym, ap, subst}
use Rattle.std.proofs.Math.Path.{ap₂}
use Rattle.ms_bits.specs.WordFunctions.{bits_of, move_fn, move_width}
use Rattle.ms_ir.specs.declared.syntax.Ty.{Int}
use Rattle.ms_pass_tasks.specs.Tasks.{Sets, origin_name}
use Rattle.ms_pass_tasks.specs.Environments.{tracked_at}
use Rattle.ms_pass_tasks.specs.ResultMasks.{first_last, move_args}
use Rattle.ms_rules_builder.specs.Made.{with_tasks}
use Rattle.ms_rules_builder.specs.Steps.{Inputs, inputs_of, tracked_of, words}
use Rattle.ms_rules_tables.specs.Rules.{on_width, args_with, moves}
use Rattle.ms_rules_tables.proofs.Tasks.{more_tasks}
use Rattle.ms_rules_tables.proofs.Moves.{args_are, args_typed}
use Rattle.ms_rules_tables.proofs.results.define_move.Goals as goal

pub returns : goal.returns
returns c =
    let ts = map tracked_of c.args.operands.now in let v = c.args.value in let k = c.args.kind in
    let w = bits_of (move_width k) in
    let a = tracked_at 0 ts in let b = tracked_at 1 ts in let d = tracked_at 2 ts in
    let i : inputs_of c.new-inputs.result ≡ on_width w ts = c.new-inputs.ensures ∙ ap (λ (n : ℕ). on_width n ts) (c.bits.ensures.value ∙ ap bits_of c.width.ensures) in
    let left : map (λ e. e.1) (move_args k ts) ≡ reverse (words (inputs_of c.new-inputs.result) c.move_steps-steps.result.now []) =
    ap (map (λ e. e.1)) (args_are (move_fn k) w a b d)
    ∙ ap₂ (λ known f. map (λ e. e.1) (args_with known f w a b d)) (sym c.is_amount_known.ensures) (sym c.function.ensures)
    ∙ c.move_steps-steps.ensures w ts ∙ ap (λ x. reverse (words x c.move_steps-steps.result.now [])) (sym i) in
    more_tasks c.call_move.result c.args.builder.now c.set_last_origin.new.builder c.call_move.new.builder
    (Sets (origin_name v) (Int 32) (first_last ts) ∷ []) (moves v k ts)
    (subst (λ (x : Inputs). c.set_last_origin.new.builder ≡ with_tasks c.args.builder.now (Sets (origin_name v) (Int 32) (first_last x.operands) ∷ [])) i c.in_ok-set_last_origin.ensures)
    (c.call_move.ensures (move_args k ts) (args_typed k ts) left)
