-- The words of the blocks after a step of `tell`.
use Rattle.std.proofs.Common.{◌≡◌, ℕ, ◌+◌, ◌<◌, ◌⊎◌, ◌↔◌, List, length, get_or, take, refl, sym, ap, inl, inr, ⊎_elim, get_or-set_other, Contains}
use Rattle.std.proofs.Math.ListN.{set}
use Rattle.std.proofs.lemmas.Bool.{cases_eq}
use Rattle.ms_flow.specs.Search.{Has}
use Rattle.ms_flow.proofs.Members.{Contains_more}
use Rattle.ms_flow.proofs.States.{get_set_same, has_same}

pair_is : (d : ℕ × ℕ) (b v : ℕ) → b ≡ d.0 → v ≡ d.1 → d ≡ (b, v)
pair_is d b v e f = rw (e, f) refl

-- the words tell the definitions of the list
abbrev pub Tell : List ℕ → List (ℕ × ℕ) → List ℕ → Type 0
Tell values defs kills = (b i : ℕ) → i < length values → Has (get_or kills b 0) i ↔ Contains defs (b, get_or values i 0)

pub tell_out : (values kills : List ℕ) (defs : List (ℕ × ℕ)) (k : ℕ) → k < length defs
    → ((i : ℕ) → i < length values → get_or values i 0 ≡ (get_or defs k (0, 0)).1 → ⊥)
    → Tell values (take k defs) kills
    → Tell values (take (k + 1) defs) kills
tell_out values kills defs k lt out h b i small =
    let more = Contains_more defs k (0, 0) (b, get_or values i 0) lt in (
      λ p. more.1 (inl ((h b i small).0 p)),
      λ p. ⊎_elim (λ q. (h b i small).1 q) (λ e. absurd (out i small (sym (ap (λ (p : ℕ × ℕ). p.1) e)))) (more.0 p),
    )

pub tell_in : (values kills : List ℕ) (defs : List (ℕ × ℕ)) (k word : ℕ) → k < length defs
    → (get_or defs k (0, 0)).0 < length kills
    → ((i : ℕ) → i < length values → Has word i ↔ (Has (get_or kills (get_or defs k (0, 0)).0 0) i ⊎ (get_or values i 0 ≡ (get_or defs k (0, 0)).1)))
    → Tell values (take k defs) kills
    → Tell values (take (k + 1) defs) (set kills (get_or defs k (0, 0)).0 word)
tell_in values kills defs k word lt in_kills w h b i small =
    let more = Contains_more defs k (0, 0) (b, get_or values i 0) lt in
    let block = (get_or defs k (0, 0)).0 in
    elim (cases_eq b block) as (λ _. Has (get_or (set kills block word) b 0) i ↔ Contains (take (k + 1) defs) (b, get_or values i 0)) [
      | inl e ↦
          let same = get_set_same kills block b word 0 in_kills e in
          let at : get_or kills b 0 ≡ get_or kills block 0 = rw e refl in (
            λ p. ⊎_elim
                (λ q. more.1 (inl ((h b i small).0 (has_same _ _ i (sym at) q))))
                (λ q. more.1 (inr (pair_is (get_or defs k (0, 0)) b (get_or values i 0) e q)))
                ((w i small).0 (has_same _ _ i same p)),
            λ p. has_same _ _ i (sym same) (⊎_elim
                (λ q. (w i small).1 (inl (has_same _ _ i at ((h b i small).1 q))))
                (λ q. (w i small).1 (inr (sym (ap (λ (p : ℕ × ℕ). p.1) q))))
                (more.0 p)),
          )
      | inr ne ↦
          let other = get_or-set_other kills block b word 0 ne in (
            λ p. more.1 (inl ((h b i small).0 (has_same _ _ i other p))),
            λ p. has_same _ _ i (sym other) (⊎_elim
                (λ q. (h b i small).1 q)
                (λ q. absurd (ne (sym (ap (λ (p : ℕ × ℕ). p.0) q))))
                (more.0 p)),
          )
    ]
