use Rattle.std.proofs.Common.{◌≡◌, ◌∙◌, ℕ, Option, Some, None, option_map, drop, sym, ap}
use Rattle.std.proofs.Math.Path.{ap₂}
use Rattle.std.specs.Prelude.{slice_get}
use Rattle.ms_ir.specs.declared.syntax.Ty.{Ty}
use Rattle.ms_ir.specs.declared.value_types.ValueType.{ValueType}
use Rattle.ms_ir.specs.ValueTypes.{type_of}
use Rattle.ms_printf.proofs.Steps.{typed_word, no_word, first_argument}
use Rattle.ms_printf.proofs.arguments.argument_at.Goals as goal

pub returns-in_default : goal.returns-in_default
returns-in_default c =
    let none : slice_get c.args.types.now c.args.k ≡ None = sym c.type_at.ensures ∙ ap (λ (o : Option ValueType). option_map {U = Ty} type_of o) c.in_default.is in
    sym (first_argument c.args.k c.args.types.now c.args.words.now ∙ ap (λ (o : Option Ty). typed_word o (slice_get c.args.words.now c.args.k)) none)

pub returns-in-Some-word_at : goal.returns-in-Some-word_at
returns-in-Some-word_at c =
    let ty : slice_get c.args.types.now c.args.k ≡ Some (type_of c.in-Some.ty) = sym c.type_at.ensures ∙ ap (λ (o : Option ValueType). option_map {U = Ty} type_of o) c.in-Some.is in
    let word : slice_get c.args.words.now c.args.k ≡ Some c.in-Some-word_at.word = sym c.word_at.ensures ∙ c.in-Some-word_at.is in
    sym (first_argument c.args.k c.args.types.now c.args.words.now ∙ ap₂ typed_word ty word)

pub returns-in-None : goal.returns-in-None
returns-in-None c =
    let none : slice_get c.args.words.now c.args.k ≡ None = sym c.word_at.ensures ∙ c.in-None.is in
    sym (first_argument c.args.k c.args.types.now c.args.words.now ∙ ap (λ (o : Option ℕ). typed_word (slice_get c.args.types.now c.args.k) o) none ∙ no_word (slice_get c.args.types.now c.args.k))
