use Rattle.std.proofs.Common.{◌≡◌, refl, inl, inr, arith}
use Rattle.ms_runs_good_laws.specs.Reached.{AsEdge}
use Rattle.ms_runs_examples.specs.Walks.{phi_of_undef}
use Rattle.ms_runs_good_laws.proofs.DuePlaces.{edge_taken, edge_leads, no_reach}
use Rattle.ms_runs_examples.proofs.origins.undefined_edges.Goals as goal

pub returns-clause-two_steps : goal.returns-clause-two_steps
returns-clause-two_steps c = refl

pub returns-clause-taken : goal.returns-clause-taken
returns-clause-taken c = inl (AsEdge (record {
  due = record { frame = _; below = _; innermost = refl; inst = _; stands = refl };
  branches = λ e. grind (arith, e);
  frame = _;
  below = _;
  innermost = refl;
  place = 0;
  leading = omega arith;
  phi = _;
  stands = refl;
  ty = _;
  edges = _;
  shape = refl;
  undefined = omega arith;
  taken = refl;
}))

pub returns-clause-other : goal.returns-clause-other
returns-clause-other c = λ h. elim h [
  | inl second ↦ no_reach phi_of_undef _ _ 1 _ _ _ refl refl (omega arith) refl
      (λ edge.
      let first : edge.place ≡ 0 = let l = edge_leads phi_of_undef _ _ 1 _ _ refl edge in omega (arith, l) in
      let two : 1 ≡ 2 = edge_taken phi_of_undef _ _ 1 _ _ _ _ refl refl edge 0 _ first refl in
      omega (arith, two))
      second
  | inr rest ↦ elim rest [
    | inl first ↦ no_reach phi_of_undef _ _ 1 _ _ _ refl refl (omega arith) refl
        (λ edge. let l = edge_leads phi_of_undef _ _ 1 _ _ refl edge in omega (arith, l))
        first
    | inr none ↦ none
  ]
]
