use Rattle.std.proofs.Common.{◌≡◌, ℕ, ◌<◌, false, true, Bool, List, length, get_or, vec_len, sym, ◌∙◌, subst, arith, All, ◌⊎◌}
use Rattle.std.proofs.lemmas.Bool.{eqb-false, eqb-true}
use Rattle.std.proofs.lemmas.List.{with_items_is}
use Rattle.ms_flow.specs.Search.{IsUndefined, use_at}
use Rattle.ms_flow.proofs.Visited.{blank_flags}
use Rattle.ms_flow.proofs.Answered.{AskedAt, known_blocks, flags_answer, flags_none}
use Rattle.ms_flow.proofs.dataflow.undefined_by.Goals as goal
use Rattle.ms_flow.proofs.dataflow.undefined_by.Goals.{then-not-is_empty+in_ok-ask, else-not-is_empty}

pub ask-requires-clause-filled : goal.ask-requires-clause-filled
ask-requires-clause-filled c =
    let qs = c.in_ok-questions.questions.items in
    let ne = eqb-false (vec_len c.in_ok-questions.questions) 0 (sym c.is_empty.ensures ∙ c.if-not-is_empty.true) in
    let some : 0 < length qs = omega (arith, ne, c.in_ok-questions.questions.ok.0) in
    let place = c.in_ok-questions.ensures.places 0 (0, 0) some in
    let block = c.requires.blocks (get_or qs 0 (0, 0)).1 (record { block = 0; value = 0; after = false }) place in
    omega arith

pub ask-requires-clause-known : goal.ask-requires-clause-known
ask-requires-clause-known c = known_blocks c.args.g.now c.args.definitions.now c.requires.same_length c.requires.definitions

pub returns-clause-flags : goal.returns-clause-flags
returns-clause-flags c k lt =
    let g = c.args.g.now in
    let uses = c.args.uses.now in
    let defs = c.args.definitions.now in
    let qs = c.in_ok-questions.questions.items in
    let made = c.in_ok-undefined.undefined in
    let blank = blank_flags made.items _ (c.in_ok-undefined.ensures.items_if_clones_equal (λ y e. e)) in
    let asked : AskedAt uses defs qs k = c.in_ok-questions.ensures.asked k lt in
    elim c.if-not-is_empty.branch [
      | then-not-is_empty+in_ok-ask w ↦
          let flags = w.ask.new.undefined in
          let size : length flags ≡ made.len = omega (arith, w.deref_mut.ensures.len, w.ask.auto.undefined) in
          let M : List (ℕ × ℕ) → Type 0 = λ l. All (λ q. IsUndefined g (use_at uses q.1) → get_or flags q.1 false ≡ true) l in
          let marked = subst M w.deref.ensures.value w.in_ok-ask.ensures.marked in
          let R : List Bool → Type 0 = λ l. get_or flags k false ≡ true → (get_or l k false ≡ true) ⊎ IsUndefined g (use_at uses k) in
          let right = subst R w.deref_mut.ensures.value (w.in_ok-ask.ensures.right k) in
          rw (w.undefined-is, with_items_is made flags size)
          (flags_answer g uses defs qs made.items flags k c.requires.definitions asked blank marked right)
      | else-not-is_empty w ↦
          let none = eqb-true (vec_len c.in_ok-questions.questions) 0 (sym c.is_empty.ensures ∙ w.if-not-is_empty.false) in
          rw w.undefined-is (flags_none g uses defs qs made.items k c.requires.definitions asked blank (omega (arith, none, c.in_ok-questions.questions.ok.0)))
    ]
