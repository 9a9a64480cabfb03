use Rattle.std.proofs.Common.{◌≡◌, ℕ, sym, ap, ◌∙◌}
use Rattle.ms_runs.specs.World.{Gives}
use Rattle.ms_runs.specs.Origins.{load_origin}
use Rattle.ms_runtime.proofs.OnMemory.{with2}
use Rattle.ms_runtime.proofs.memory.load_origin.Goals as goal

pub returns : goal.returns
returns c = λ setting beside meant shows.
    ap (λ (v : ℕ). Gives v meant) (sym (c.from.ensures ∙ with2 (λ a mask. c.load_origin.result ≡ load_origin a mask meant) c.word-addr.ensures c.word-mask.ensures (c.load_origin.ensures beside meant shows)))
