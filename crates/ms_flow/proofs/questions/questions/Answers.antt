use Rattle.std.proofs.Common.{◌≡◌, ℕ, ◌+◌, ◌<◌, ◌⊎◌, length, List, [], ◌∷◌, ◌++◌, refl, inl, inr, ⊎_elim, below_more, IsTrue, Contains, arith}
use Rattle.std.proofs.lemmas.List.Elements.{All-push, Contains-append_left, Contains-push}
use Rattle.std.proofs.lemmas.List.Sorted.{Contains-permutation, All-permutation}
use Rattle.ms_flow.specs.declared.graphs.Use.{Use}
use Rattle.ms_flow.specs.Search.{use_at}
use Rattle.ms_flow.proofs.questions.questions.Goals as goal
use Rattle.ms_flow.proofs.questions.questions.Goals.{then-not-u+in_ok-push, else-not-u+else-not-has_definition}

-- a use is asked about, or defined in its block
abbrev Asked : List Use → List (ℕ × ℕ) → List (ℕ × ℕ) → ℕ → Type 0
Asked uses defs questions k =
    Contains questions ((use_at uses k).value, k) ⊎ (IsTrue (use_at uses k).after × Contains defs ((use_at uses k).block, (use_at uses k).value))

asked_push : (uses : List Use) (defs questions : List (ℕ × ℕ)) (k : ℕ)
    → ((j : ℕ) → j < k → Asked uses defs questions j)
    → (j : ℕ) → j < k + 1 → Asked uses defs (questions ++ ((use_at uses k).value, k) ∷ []) j
asked_push uses defs questions k before =
    let q : ℕ × ℕ = ((use_at uses k).value, k) in
    below_more (Asked uses defs (questions ++ q ∷ [])) k
    (λ j h. ⊎_elim (λ p. inl (Contains-append_left questions (q ∷ []) _ p)) (λ p. inr p) (before j h))
    (inl (Contains-push questions q))

asked_settled : (uses : List Use) (defs questions : List (ℕ × ℕ)) (k : ℕ)
    → ((j : ℕ) → j < k → Asked uses defs questions j)
    → IsTrue (use_at uses k).after
    → Contains defs ((use_at uses k).block, (use_at uses k).value)
    → (j : ℕ) → j < k + 1 → Asked uses defs questions j
asked_settled uses defs questions k before after has = below_more (Asked uses defs questions) k before (inr (after, has))

pub loop-which-preserved : goal.loop-which-preserved
loop-which-preserved c =
    let uses = c.args.uses.now in
    let defs = c.args.definitions.now in
    let k = c.loop-which.which in
    let items = c.loop-which.questions.items in
    elim c.if-not-u.branch [
      | then-not-u+in_ok-push w ↦ rw (w.questions-is, w.in_ok-push.ensures.items) record {
        asked = asked_push uses defs items k c.loop-which.invariant.asked;
        places = All-push (λ (x : ℕ × ℕ). x.1 < length uses) items _ c.loop-which.invariant.places c.loop-which-test.true;
        values = All-push (λ (x : ℕ × ℕ). x.0 ≡ (use_at uses x.1).value) items _ c.loop-which.invariant.values refl;
      }
      | else-not-u+else-not-has_definition w ↦ rw w.questions-is record {
        asked = asked_settled uses defs items k c.loop-which.invariant.asked w.if-not-u.false (w.has_definition.ensures w.if-not-has_definition.false);
        places = c.loop-which.invariant.places;
        values = c.loop-which.invariant.values;
      }
    ]

pub returns-clause-asked : goal.returns-clause-asked
returns-clause-asked c k h =
    ⊎_elim (λ p. inl (Contains-permutation c.loop-which.questions.items c.sort.new.self.items _ c.in_ok-sort.ensures.permutation p)) (λ p. inr p) (c.loop-which.invariant.asked k (omega arith))

pub returns-clause-places : goal.returns-clause-places
returns-clause-places c =
    All-permutation (λ (x : ℕ × ℕ). x.1 < length c.args.uses.now) c.loop-which.questions.items c.sort.new.self.items c.in_ok-sort.ensures.permutation c.loop-which.invariant.places

pub returns-clause-values : goal.returns-clause-values
returns-clause-values c =
    All-permutation (λ (x : ℕ × ℕ). x.0 ≡ (use_at c.args.uses.now x.1).value) c.loop-which.questions.items c.sort.new.self.items c.in_ok-sort.ensures.permutation c.loop-which.invariant.values
