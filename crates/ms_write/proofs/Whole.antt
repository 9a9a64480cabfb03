-- What the writer puts on a sheet for a module is the module's text.
use Rattle.std.proofs.Common.{◌≡◌, ◌++◌, sym, ap, ◌∙◌}
use Rattle.ms_ir.specs.declared.syntax.Module.{Module}
use Rattle.ms_text_grammar.specs.LayoutModules.{has_mark, module_lines, mark_pieces, module_pieces, written}
use Rattle.ms_text_grammar.specs.LayoutPieces.{render, pieces_of}
use Rattle.ms_write_values.specs.Sheets.{empty, grown, put_lines}
use Rattle.ms_write.proofs.Rendering.{render_append, lines_rendered}
use Rattle.ms_write.proofs.FullLines.{module_full, module_flush}

pub text_of_module : (m : Module) → (grown (put_lines empty (module_lines m)) (render (mark_pieces (has_mark m)))).bytes ≡ written m
unfolding written module_pieces
text_of_module m =
    ap (λ text. text ++ render (mark_pieces (has_mark m))) (lines_rendered empty (module_lines m) (module_full m) ∙ ap (λ indent. indent ++ render (pieces_of (module_lines m))) (module_flush m))
    ∙ sym (render_append (pieces_of (module_lines m)) (mark_pieces (has_mark m)))
