-- The lines of calls that something was inlined at, of at most so many.
use Rattle.std.proofs.Common.{◌≡◌, ℕ, zero, suc, ◌+◌, ◌-◌, ◌<◌, ◌≤◌, List, [], ◌++◌, Option, Some, None, refl, ap, sym, ◌∙◌, append-nil, append_assoc, arith}
use Rattle.std.specs.Prelude.{flat_map, codes}
use Rattle.ms_where_places.specs.declared.marks.Mark.{Mark}
use Rattle.ms_where_places.specs.Told.{Told}
use Rattle.ms_where.specs.Nodes.{node_in}
use Rattle.ms_where.specs.Positions.{along, line_of, call_lines, most}

unfoldable pub calls_within : Told → ℕ → Option Mark → List ℕ
calls_within d n call = flat_map (line_of d (Some (codes "inlined here"))) (along d (codes "inlinedAt:") n call)

pub whole : (d : Told) (call : Option Mark) → calls_within d 64 call ≡ call_lines d call
unfolding calls_within call_lines most
whole d call = refl

pub at_none : (d : Told) (n : ℕ) → calls_within d n None ≡ []
unfolding calls_within along
at_none d zero = refl
at_none d (suc n) = refl

pub at_end : (d : Told) (turn : ℕ) (call : Option Mark) → 64 ≤ turn → calls_within d (64 - turn) call ≡ []
unfolding calls_within along
at_end d turn call l = let left : 64 - turn ≡ 0 = omega arith in rw left refl

pub goes_on : (d : Told) (turn : ℕ) (m : Mark) → turn < 64
    → calls_within d (64 - turn) (Some m) ≡ line_of d (Some (codes "inlined here")) m ++ calls_within d (64 - (turn + 1)) (node_in d (codes "inlinedAt:") m)
unfolding calls_within along
goes_on d turn m l = let left : 64 - turn ≡ suc (64 - (turn + 1)) = omega arith in rw left refl

-- a text to which the last lines were added
pub ended : (out rest whole : List ℕ) → rest ≡ [] → out ++ rest ≡ whole → out ≡ whole
ended out rest whole none before = sym (append-nil out) ∙ (rw none at before)

-- a text to which the lines of one call more were added
pub pushed : (d : Told) (turn : ℕ) (m : Mark) (next : Option Mark) (out new whole : List ℕ) → turn < 64 → out ++ calls_within d (64 - turn) (Some m) ≡ whole
    → new ≡ out ++ line_of d (Some (codes "inlined here")) m → next ≡ node_in d (codes "inlinedAt:") m → new ++ calls_within d (64 - (turn + 1)) next ≡ whole
pushed d turn m next out new whole l before line to =
    rw (line, to, append_assoc) (ap (λ (lines : List ℕ). out ++ lines) (sym (goes_on d turn m l)) ∙ before)
