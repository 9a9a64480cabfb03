-- The instruction after a word, by what a line adds.
use Rattle.std.proofs.Common.{◌≡◌, List, Option, Some, None, refl}
use Rattle.ms_ir.specs.declared.syntax.Name.{Name}
use Rattle.ms_ir.specs.declared.forms.Form.{Form}
use Rattle.ms_text_grammar.specs.declared.states.BodySoFar.{BodySoFar}
use Rattle.ms_text_grammar.specs.declared.symbols.Symbol.{Symbol}
use Rattle.ms_text_grammar.specs.declared.symbols.Symbol.TheVariants as s
use Rattle.ms_text_grammar.specs.Lexemes.{Lexeme}
use Rattle.ms_text_grammar.specs.Lines.{instruction_by, value_line, end_line}
use Rattle.ms_read_cursor.specs.Reading.{run}
use Rattle.ms_read_body.specs.declared.operation_rules.EffectOperation.{EffectOperation}
use Rattle.ms_read_body.specs.declared.operation_rules.EffectOperation.TheVariants as effect
use Rattle.ms_read_body.specs.declared.operation_rules.ValueOperation.{ValueOperation}
use Rattle.ms_read_body.specs.declared.operation_rules.ValueOperation.TheVariants as value
use Rattle.ms_read_body.specs.Operations.{effect_rule, value_rule}
use Rattle.ms_read_body.specs.Words.{value_operation, end_operation, further_instruction}

-- the operation that is given is the one that the word stands for
same : {O : Type 0} (a b : O) → Some a ≡ Some b → b ≡ a
same a b h = cc

none : {O : Type 0} (b : O) → ◌≡◌ {A = Option O} None (Some b) → ⊥
none b h = cc

pub by_value : (form : Form) (body : BodySoFar) (result : Option Name) (x : Symbol) (operation : ValueOperation) (ts : List Lexeme) → value_operation x ≡ Some operation
    → run (instruction_by form body result x) ts ≡ run (value_line form body result (value_rule form operation)) ts
by_value form body result s.Icmp operation ts h = rw (same value.Compare operation h) refl
by_value form body result s.Select operation ts h = rw (same value.Select operation h) refl
by_value form body result s.Freeze operation ts h = rw (same value.Freeze operation h) refl
by_value form body result s.Load operation ts h = rw (same value.Load operation h) refl
by_value form body result x operation ts h = absurd (none operation h)

pub by_end : (form : Form) (body : BodySoFar) (result : Option Name) (x : Symbol) (operation : EffectOperation) (ts : List Lexeme) → end_operation x ≡ Some operation
    → run (instruction_by form body result x) ts ≡ run (end_line form body (effect_rule form operation)) ts
by_end form body result s.Br operation ts h = rw (same effect.Branch operation h) refl
by_end form body result s.Switch operation ts h = rw (same effect.Switch operation h) refl
by_end form body result s.Ret operation ts h = rw (same effect.Ret operation h) refl
by_end form body result s.Unreachable operation ts h = rw (same effect.Unreachable operation h) refl
by_end form body result x operation ts h = absurd (none operation h)

some : {O : Type 0} (a : O) → ◌≡◌ {A = Option O} (Some a) None → ⊥
some a h = cc

pub by_further : (form : Form) (body : BodySoFar) (result : Option Name) (x : Symbol) (ts : List Lexeme) → value_operation x ≡ None → end_operation x ≡ None
    → run (instruction_by form body result x) ts ≡ run (further_instruction form body result x) ts
by_further form body result s.Icmp ts h g = absurd (some _ h)
by_further form body result s.Select ts h g = absurd (some _ h)
by_further form body result s.Freeze ts h g = absurd (some _ h)
by_further form body result s.Load ts h g = absurd (some _ h)
by_further form body result s.Br ts h g = absurd (some _ g)
by_further form body result s.Switch ts h g = absurd (some _ g)
by_further form body result s.Ret ts h g = absurd (some _ g)
by_further form body result s.Unreachable ts h g = absurd (some _ g)
by_further form body result x ts h g = refl
