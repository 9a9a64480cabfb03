-- Of some reports the first of each use.
use Rattle.std.proofs.Common.{◌≡◌, List, [], ◌∷◌, ◌++◌, Bool, true, false, refl, sym, ◌∙◌, append_assoc, append-nil, if◌then◌else◌}
use Rattle.std.specs.List.{list_any}
use Rattle.ms_runs.specs.declared.runs.Report.{Report}
use Rattle.ms_runs.specs.Origins.{same_use}
use Rattle.ms_runs.specs.Once.{with_new, firsts_after, firsts}

split : (told a b : List Report) → firsts_after told (a ++ b) ≡ firsts_after (firsts_after told a) b
split told [] b = refl
split told (r ∷ a) b = split (with_new told r) a b

-- those of one report more
pub firsts_push : (l : List Report) (r : Report) → firsts (l ++ r ∷ []) ≡ with_new (firsts l) r
firsts_push l r = split [] l (r ∷ [])

more_after : (told b : List Report) → (more : List Report) × (firsts_after told b ≡ told ++ more)
more_after told [] = ([], sym (append-nil told))
more_after told (r ∷ b) = by_test (list_any (same_use r) told) (more_after told b) (more_after (told ++ r ∷ []) b)
  where
    by_test : (t : Bool) → (more : List Report) × (firsts_after told b ≡ told ++ more) → (more : List Report) × (firsts_after (told ++ r ∷ []) b ≡ (told ++ r ∷ []) ++ more)
        → (more : List Report) × (firsts_after (if t then told else told ++ r ∷ []) b ≡ told ++ more)
    by_test true kept added = kept
    by_test false kept added = (r ∷ added.0, added.1 ∙ append_assoc told (r ∷ []) added.0)

-- those of a beginning stand first
pub firsts_begin : (a b : List Report) → (more : List Report) × (firsts (a ++ b) ≡ firsts a ++ more)
firsts_begin a b = let more = more_after (firsts a) b in (more.0, split [] a b ∙ more.1)
