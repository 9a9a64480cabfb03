use Rattle.std.proofs.Common.{◌≡◌, ℕ, ◌<◌, false, Bool, List, get_or, refl, subst, arith}
use Rattle.ms_flow.proofs.Answered.{defined_at, defined_before, misses_at}
use Rattle.ms_flow.proofs.dataflow.missing.Goals as goal

pub returns-in-None-clause-none : goal.returns-in-None-clause-none
returns-in-None-clause-none c =
    let flags = c.in_ok-undefined.undefined.items in
    let P : List Bool → Type 0 = λ l. (j : ℕ) → get_or l j false ≡ false in
    let off = subst P c.deref.ensures.value c.in-None.ensures.none in
    (λ _ k d lt. defined_at c.args.g.now c.args.uses.now flags k d c.in_ok-undefined.ensures.flags lt (off k), λ all. refl)

pub returns-clause-least : goal.returns-clause-least
returns-clause-least c =
    let flags = c.in_ok-undefined.undefined.items in
    let P : List Bool → Type 0 = λ l. (j : ℕ) → j < c.in-Some.which → get_or l j false ≡ false in
    let off = subst P c.deref.ensures.value c.in-Some.ensures.first in
    let found = c.in-Some.ensures.found in
    defined_before c.args.g.now c.args.uses.now flags c.in-Some.which c.in_ok-undefined.ensures.flags
    (omega (arith, found.0, c.deref.ensures.len, c.in_ok-undefined.ensures.len)) off

pub returns-clause-path : goal.returns-clause-path
returns-clause-path c =
    let found = c.in-Some.ensures.found in
    misses_at c.args.g.now c.args.uses.now c.in-Some.which _ c.from_vec.result c.in_ok-path-in-Some.path.items
    (omega (arith, found.0, c.deref.ensures.len, c.in_ok-undefined.ensures.len)) c.from_vec.ensures c.in_ok-path-in-Some.ensures.misses
