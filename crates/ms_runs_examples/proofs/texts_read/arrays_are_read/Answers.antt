use Rattle.std.proofs.Common.{refl}
use Rattle.ms_ir.specs.declared.syntax.Ty.{Ty}
use Rattle.ms_text_grammar.specs.Pieces.{pieces}
use Rattle.ms_runs_examples.proofs.texts_read.arrays_are_read.Goals as goal

pub returns-clause-shared_cell : goal.returns-clause-shared_cell
unfolding pieces Rattle.ms_ir.specs.declared.syntax.Ty.TheBlock.shape-the_row-Ty-0 Rattle.ms_ir.specs.declared.syntax.Ty.TheBlock.hidden-the_row-Ty-0 denote.Hole.Carrier.hidden
returns-clause-shared_cell c = refl

pub returns-clause-write_with_gap : goal.returns-clause-write_with_gap
unfolding pieces Rattle.ms_ir.specs.declared.syntax.Ty.TheBlock.shape-the_row-Ty-0 Rattle.ms_ir.specs.declared.syntax.Ty.TheBlock.hidden-the_row-Ty-0 denote.Hole.Carrier.hidden
returns-clause-write_with_gap c = refl

pub returns-clause-clang_unoptimised : goal.returns-clause-clang_unoptimised
unfolding pieces Rattle.ms_ir.specs.declared.syntax.Ty.TheBlock.shape-the_row-Ty-0 Rattle.ms_ir.specs.declared.syntax.Ty.TheBlock.hidden-the_row-Ty-0 denote.Hole.Carrier.hidden
returns-clause-clang_unoptimised c = refl

pub returns-clause-with_debug_metadata : goal.returns-clause-with_debug_metadata
unfolding pieces Rattle.ms_ir.specs.declared.syntax.Ty.TheBlock.shape-the_row-Ty-0 Rattle.ms_ir.specs.declared.syntax.Ty.TheBlock.hidden-the_row-Ty-0 denote.Hole.Carrier.hidden
returns-clause-with_debug_metadata c = refl
