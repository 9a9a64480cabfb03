use Rattle.std.proofs.Common.{Some, sym, ap}
use Rattle.std.proofs.lemmas.Result.{IfOk-weaker}
use Rattle.ms_runs.specs.Plain.{setting_of}
use Rattle.ms_trail_uses.specs.Used.{source_of}
use Rattle.ms_trail.specs.Turning.{due_sources}
use Rattle.ms_trail.proofs.Finding.{row_within, few_here, reads_operand}
use Rattle.ms_trail.proofs.traced_run.TracedRun.read_by.Goals as goal

pub row-row-requires : goal.row-row-requires
row-row-requires c = let g = c.requires.going in row_within c.args.self.now.m.now g.0 g.1 c.args.self.now g.2.1 c.args.code.now c.requires.due

pub source_at-requires : goal.source_at-requires
source_at-requires c = let g = c.requires.going in few_here c.args.self.now.m.now g.0 g.1 c.args.self.now g.2.1 c.args.code.now c.requires.due c.row-row.result c.row-row.ensures

pub returns-in-Operand : goal.returns-in-Operand
returns-in-Operand c = λ u t o.
    IfOk-weaker c.source_at.result _ _ (λ x e. reads_operand c.args.self.now.m.now u t c.args.self.now o c.args.code.now c.requires.due c.row-row.result c.row-row.ensures c.args.used c.in-Operand.k x c.in-Operand.is e) c.source_at.ensures

pub returns-in-Byte : goal.returns-in-Byte
returns-in-Byte c = λ u t o. let m = c.args.self.now.m.now in ap (λ y. source_of (due_sources (setting_of m u) m t.numbers t.state.frames) (Some y)) (sym c.in-Byte.is)
