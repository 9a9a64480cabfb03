use Rattle.std.proofs.Common.{refl, arith, leb-true, length}
use Rattle.ms_ir.specs.declared.forms.Form.TheVariants.{Instrumented}
use Rattle.ms_ir.specs.Names.{bit_moves}
use Rattle.ms_text_grammar.specs.Pieces.{pieces}
use Rattle.ms_text_grammar.specs.Texts.{max_bytes, max_tokens}
use Rattle.ms_text_grammar.specs.Layout.{layout}
use Rattle.ms_text_grammar.specs.LayoutModules.{module_pieces, written}
use Rattle.ms_runs_examples.specs.WrittenModules.{odd_names, many_parts, marked_parts}
use Rattle.ms_ir.specs.declared.syntax.Ty.TheBlock.{hidden-the_row-Ty-0, shape-the_row-Ty-0, hidden-the_row-Ty-1, shape-the_row-Ty-1}
use Rattle.ms_ir.specs.declared.syntax.Init.TheBlock.{hidden-the_row-Init-Array-0-2-0, shape-the_row-Init-Array-0-2-0}
use Rattle.ms_runs_examples.proofs.texts_that_fit.modules_fit.Goals as goal

pub returns-clause-odd_names : goal.returns-clause-odd_names
unfolding hidden-the_row-Ty-0 shape-the_row-Ty-0 hidden-the_row-Ty-1 shape-the_row-Ty-1 hidden-the_row-Init-Array-0-2-0 shape-the_row-Init-Array-0-2-0 denote.Hole.Carrier.hidden
returns-clause-odd_names c = record { types = refl; globals = refl; declarations = refl; functions = refl; few_globals = omega arith; few_operands = omega arith }

pub returns-clause-many_parts : goal.returns-clause-many_parts
unfolding hidden-the_row-Ty-0 shape-the_row-Ty-0 hidden-the_row-Ty-1 shape-the_row-Ty-1 hidden-the_row-Init-Array-0-2-0 shape-the_row-Init-Array-0-2-0 denote.Hole.Carrier.hidden
returns-clause-many_parts c = record { types = refl; globals = refl; declarations = refl; functions = refl; few_globals = omega arith; few_operands = omega arith }

pub returns-clause-marked_parts : goal.returns-clause-marked_parts
unfolding bit_moves hidden-the_row-Ty-0 shape-the_row-Ty-0 hidden-the_row-Ty-1 shape-the_row-Ty-1 hidden-the_row-Init-Array-0-2-0 shape-the_row-Init-Array-0-2-0 denote.Hole.Carrier.hidden
returns-clause-marked_parts c = record { types = refl; globals = refl; declarations = refl; functions = refl; few_globals = omega arith; few_operands = omega arith }

pub returns-clause-odd_names_fit : goal.returns-clause-odd_names_fit
unfolding layout pieces hidden-the_row-Ty-0 shape-the_row-Ty-0 hidden-the_row-Ty-1 shape-the_row-Ty-1 hidden-the_row-Init-Array-0-2-0 shape-the_row-Init-Array-0-2-0 denote.Hole.Carrier.hidden
returns-clause-odd_names_fit c = record {
  form = record {
    limits = record { count = omega arith; functions = omega arith; globals = omega arith; parameters = refl; nested = refl; indices = refl; names = refl };
    arguments = refl;
  };
  short = leb-true (length (written odd_names)) (max_bytes Instrumented) refl;
  few_tokens = leb-true (length (module_pieces odd_names)) (max_tokens Instrumented) refl;
}

pub returns-clause-many_parts_fit : goal.returns-clause-many_parts_fit
unfolding layout pieces hidden-the_row-Ty-0 shape-the_row-Ty-0 hidden-the_row-Ty-1 shape-the_row-Ty-1 hidden-the_row-Init-Array-0-2-0 shape-the_row-Init-Array-0-2-0 denote.Hole.Carrier.hidden
returns-clause-many_parts_fit c = record {
  form = record {
    limits = record { count = omega arith; functions = omega arith; globals = omega arith; parameters = refl; nested = refl; indices = refl; names = refl };
    arguments = refl;
  };
  short = leb-true (length (written many_parts)) (max_bytes Instrumented) refl;
  few_tokens = leb-true (length (module_pieces many_parts)) (max_tokens Instrumented) refl;
}

pub returns-clause-marked_parts_fit : goal.returns-clause-marked_parts_fit
unfolding layout pieces hidden-the_row-Ty-0 shape-the_row-Ty-0 hidden-the_row-Ty-1 shape-the_row-Ty-1 hidden-the_row-Init-Array-0-2-0 shape-the_row-Init-Array-0-2-0 denote.Hole.Carrier.hidden
returns-clause-marked_parts_fit c = record {
  form = record {
    limits = record { count = omega arith; functions = omega arith; globals = omega arith; parameters = refl; nested = refl; indices = refl; names = refl };
    arguments = refl;
  };
  short = leb-true (length (written marked_parts)) (max_bytes Instrumented) refl;
  few_tokens = leb-true (length (module_pieces marked_parts)) (max_tokens Instrumented) refl;
}
