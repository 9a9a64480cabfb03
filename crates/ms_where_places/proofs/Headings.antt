-- A function that is read has a heading, and then blocks.
use Rattle.std.proofs.Common.{◌≡◌, ℕ, List, refl, ap}
use Rattle.ms_ir.specs.declared.syntax.Block.{Block}
use Rattle.ms_ir.specs.declared.syntax.Func.{Func}
use Rattle.ms_ir.specs.declared.forms.Form.{Form}
use Rattle.ms_text_grammar.specs.declared.states.Parameters.{Parameters}
use Rattle.ms_text_grammar.specs.Lexemes.{Lexeme}
use Rattle.ms_text_grammar.specs.Functions.{body_after, function}
use Rattle.ms_text_grammar.specs.Lines.{blocks}
use Rattle.ms_text_grammar.specs.Texts.{ReadsUpTo}
use Rattle.ms_read_body.specs.Headed.{heading}

pub record Headed (form : Form) (before : ℕ) (ts : List Lexeme) (f : Func) : Type 0 where
  pub parameters : Parameters
  pub inside : List Lexeme
  pub head : ReadsUpTo (heading form before) ts (body_after parameters before) inside
  pub all : List Block
  pub rest : List Lexeme
  pub body : ReadsUpTo (blocks form (body_after parameters before)) inside all rest
  pub blocks_are : f.blocks ≡ all

pub headed : (form : Form) (before : ℕ) (ts : List Lexeme) (f : Func) (rest : List Lexeme) → ReadsUpTo (function form before) ts f rest → Headed form before ts f
unfolding function
headed form before ts f rest h =
    let result = h.3 in
    let name = result.3 in
    let list = name.3 in
    let parameters = list.3 in
    let ending = parameters.3 in
    let brace = ending.3 in
    let after = brace.3 in
    record {
      parameters = parameters.0;
      inside = brace.1;
      head = (
        h.0,
        h.1,
        h.2,
        (
          result.0,
          result.1,
          result.2,
          (
            name.0,
            name.1,
            name.2,
            (
              list.0,
              list.1,
              list.2,
              (parameters.0, parameters.1, parameters.2, (ending.0, ending.1, ending.2, (brace.0, brace.1, brace.2, (refl, refl)))),
            ),
          ),
        ),
      );
      all = after.0;
      rest = after.1;
      body = after.2;
      blocks_are = ap (λ (g : Func). g.blocks) after.3.0;
    }
