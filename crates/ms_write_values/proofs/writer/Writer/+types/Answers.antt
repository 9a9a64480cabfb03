use Rattle.std.proofs.Common.{◌≡◌, List, ◌∙◌, ap, subst, sym}
use Rattle.std.specs.Prelude.{IfOk, map}
use Rattle.ms_text_grammar.specs.Lexemes.{Lexeme}
use Rattle.ms_text_grammar.specs.LayoutTypes.{type_tokens, array_tokens, struct_tokens}
use Rattle.ms_write_values.specs.Sheets.{put}
use Rattle.ms_write_values.proofs.Loops.{commas_step, commas_first}
use Rattle.ms_write_values.proofs.Shapes.{type_array, type_struct}
use Rattle.ms_write_values.proofs.writer.Writer.+types.Goals as goal

pub ty-returns-in-Array : goal.ty-returns-in-Array
ty-returns-in-Array t c =
    subst (λ (tokens : List Lexeme). IfOk c.array_type.result (λ _. c.array_type.new.self ≡ put c.args.self.now tokens))
    (ap (λ u. array_tokens c.in-Array.count (type_tokens u)) c.get.ensures ∙ sym (type_array c.in-Array.count c.in-Array.item) ∙ ap type_tokens (sym c.in-Array.is))
    c.array_type.ensures

pub ty-returns-in-Struct : goal.ty-returns-in-Struct
ty-returns-in-Struct t c =
    subst (λ (tokens : List Lexeme). IfOk c.struct_type.result (λ _. c.struct_type.new.self ≡ put c.args.self.now tokens))
    (ap (λ us. struct_tokens c.in-Struct.packed (map type_tokens us)) c.as_slice.ensures ∙ sym (type_struct c.in-Struct.packed c.in-Struct.fields) ∙ ap type_tokens (sym c.in-Struct.is))
    c.struct_type.ensures

pub more_types-loop-ty-preserved : goal.more_types-loop-ty-preserved
more_types-loop-ty-preserved t c =
    commas_step type_tokens c.args.types.now c.loop-ty.ty-index c.ty-item.result c.loop-ty.self c.token.new.self c.ty.new.self _
    c.loop-ty-test.true c.ty-item.is c.in_ok-token.ensures c.in_ok-ty.ensures c.loop-ty.invariant

pub types-returns-in_ok-more_types-in-len1-up : goal.types-returns-in_ok-more_types-in-len1-up
types-returns-in_ok-more_types-in-len1-up t c =
    commas_first type_tokens c.args.types.now c.first-item.result c.args.self.now c.ty.new.self c.more_types.new.self
    c.in-len1-up.len_at_least c.first-item.is c.in_ok-ty-in-len1-up.ensures c.in_ok-more_types-in-len1-up.ensures
