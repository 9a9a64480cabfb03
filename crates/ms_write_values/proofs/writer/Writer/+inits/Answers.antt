use Rattle.std.proofs.Common.{◌≡◌, List, ◌∙◌, ap, subst, sym}
use Rattle.std.specs.Prelude.{IfOk, codes, map}
use Rattle.ms_text_grammar.specs.Lexemes.{Lexeme}
use Rattle.ms_text_grammar.specs.LayoutPieces.{enclosed}
use Rattle.ms_text_grammar.specs.LayoutTypes.{struct_tokens}
use Rattle.ms_text_grammar.specs.LayoutValues.{init_tokens}
use Rattle.ms_write_values.specs.Parts.{item_tokens}
use Rattle.ms_write_values.specs.Sheets.{put}
use Rattle.ms_write_values.proofs.Loops.{commas_step, commas_first}
use Rattle.ms_write_values.proofs.Shapes.{init_array, init_struct}
use Rattle.ms_write_values.proofs.writer.Writer.+inits.Goals as goal

pub init-returns-in-Array : goal.init-returns-in-Array
init-returns-in-Array t c =
    subst (λ (tokens : List Lexeme). IfOk c.array_items.result (λ _. c.array_items.new.self ≡ put c.args.self.now tokens))
    (ap (λ items. enclosed (codes "[") (codes "]") (map item_tokens items)) c.as_slice.ensures ∙ sym (init_array c.args.ty.now c.in-Array.items) ∙ ap (init_tokens c.args.ty.now) (sym c.in-Array.is))
    c.array_items.ensures

pub init-returns-in-Struct : goal.init-returns-in-Struct
init-returns-in-Struct t c =
    subst (λ (tokens : List Lexeme). IfOk c.struct_items.result (λ _. c.struct_items.new.self ≡ put c.args.self.now tokens))
    (ap (λ fields. struct_tokens c.in-Struct.packed (map item_tokens fields)) c.as_slice-in-Struct.ensures ∙ sym (init_struct c.args.ty.now c.in-Struct.packed c.in-Struct.fields)
    ∙ ap (init_tokens c.args.ty.now) (sym c.in-Struct.is))
    c.struct_items.ensures

pub more_items-loop-item-preserved : goal.more_items-loop-item-preserved
more_items-loop-item-preserved t c =
    commas_step item_tokens c.args.items.now c.loop-item.item-index c.item-item.result c.loop-item.self c.token.new.self c.item.new.self _
    c.loop-item-test.true c.item-item.is c.in_ok-token.ensures c.in_ok-item.ensures c.loop-item.invariant

pub items-returns-in_ok-more_items-in-len1-up : goal.items-returns-in_ok-more_items-in-len1-up
items-returns-in_ok-more_items-in-len1-up t c =
    commas_first item_tokens c.args.items.now c.first-item.result c.args.self.now c.item.new.self c.more_items.new.self
    c.in-len1-up.len_at_least c.first-item.is c.in_ok-item-in-len1-up.ensures c.in_ok-more_items-in-len1-up.ensures
