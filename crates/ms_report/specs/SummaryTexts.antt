-- The summary of a run.
use Rattle.std.specs.Prelude.{ℕ, true, List, ◌++◌, length, codes, decimal}
use Rattle.ms_ir.specs.declared.syntax.Module.{Module}
use Rattle.ms_ir.specs.Places.{count_sites}
use Rattle.ms_runs.specs.declared.runs.RunResult.{RunResult}
use Rattle.ms_report.specs.RunTexts.{line, closing_of}
use Rattle.ms_report.specs.ReportTexts.{report_text_of}

-- the summary of a module's run: how many functions and sites the module has and how many bytes were output, and then the
-- reports with the closing lines
abbrev pub summary_of : Module → RunResult → List ℕ
summary_of m r =
    line (codes "functions") (decimal (length m.funcs)) ++ line (codes "sites") (decimal (count_sites m)) ++ line (codes "output") (decimal (length r.output) ++ codes " bytes")
    ++ report_text_of m r ++ closing_of m r true
