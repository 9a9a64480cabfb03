-- What the options `--where` and `--calls` add to what is said.
use Rattle.std.specs.Prelude.{◌≡◌, ◌⊎◌, ℕ, Bool, true, false, List, [], map, None}
use Rattle.ms_ir.specs.declared.syntax.Module.{Module}
use Rattle.ms_runtime.specs.declared.runs.ToldRun.{ToldRun}
use Rattle.ms_corpus.specs.Wanted.{silent}
use Rattle.ms_where_places.specs.Indented.{unindented}
use Rattle.ms_report.specs.Uncalled.{uncalled}
use Rattle.ms_report.specs.WithLines.{Lines, no_lines}
use Rattle.ms_top.specs.declared.output.Output.{Output}
use Rattle.ms_top.specs.Lines.{AreLines}
use Rattle.ms_top.specs.Said.{answer_of_results, IsAnswerToText}
use Rattle.ms_words.specs.declared.commands.Command.TheVariants.{Corpus}
use Rattle.ms_words.specs.declared.commands.Options.{Options}

-- the same options with `--where` or without it
abbrev pub with_locations : Bool → Options → Options
with_locations asked o = record o { locations = asked }

-- a run of which no places of blind uses are told, and one of which no calls are
abbrev pub without_places : ToldRun → ToldRun
without_places t = record t { places = [] }

abbrev pub without_told_calls : ToldRun → ToldRun
without_told_calls t = record t { calls = []; end_calls = None }

-- the same answer without the lines on the standard error that begin with four blanks
abbrev pub without_lines : Output → Output
without_lines a = record a { err = unindented a.err }

-- the same without these on the standard output too
abbrev pub without_any_lines : Output → Output
without_any_lines a = record (without_lines a) { out = unindented a.out }

-- An answer of `corpus` with the option: where nothing is run it is the one without the option but for the added lines, and
-- else it has the sections of the same results, with the lines under each site and those of places of blind uses.
abbrev pub CorpusAdds : (Module → Module → Type 0) → (file : List ℕ) → (names : List (List ℕ)) → Options → (workers : ℕ) → (inputs : List (List ℕ)) → (text : List ℕ) → Output → Type 0
CorpusAdds Gives file names o workers inputs text a =
    ((a.out ≡ []) × IsAnswerToText Gives (Corpus file names (with_locations false o) workers) inputs text (without_lines a))
    ⊎ ((m : Module) × (under : Lines) × AreLines (Corpus file names (with_locations true o) workers) text m under × (rs : List ToldRun)
    × (a ≡ answer_of_results under m names rs) × IsAnswerToText Gives (Corpus file names (with_locations false o) workers) inputs text (answer_of_results no_lines m names (map without_places rs)))

-- the same options without `--where`, and with `--calls` or without it
abbrev pub telling : (calls : Bool) → Options → Options
telling calls o = record (with_locations false o) { calls = calls }

-- the same answer without the lines on the standard error that tell of calls
abbrev pub without_calls : Output → Output
without_calls a = record a { err = uncalled a.err }

-- the same without these on the standard output too
abbrev pub without_any_calls : Output → Output
without_any_calls a = record (without_calls a) { out = uncalled a.out }

-- An answer of `corpus` with `--calls`: where nothing is run it is the one without, and else it has the sections of the same results, with
-- the calls that are told of each.
abbrev pub CorpusTells : (Module → Module → Type 0) → (file : List ℕ) → (names : List (List ℕ)) → Options → (workers : ℕ) → (inputs : List (List ℕ)) → (text : List ℕ) → Output → Type 0
CorpusTells Gives file names o workers inputs text a =
    IsAnswerToText Gives (Corpus file names (telling false o) workers) inputs text a
    ⊎ ((m : Module) × (rs : List ToldRun) × (a ≡ answer_of_results no_lines m names rs)
    × IsAnswerToText Gives (Corpus file names (telling false o) workers) inputs text (answer_of_results no_lines m names (map (λ t. silent t.result) rs)))
