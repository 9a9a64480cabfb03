-- Where the threads stand that don't go on, after each change of them.
use Rattle.std.proofs.Common.{◌≡◌, ◌≢◌, ◌<◌, ◌≤◌, ◌+◌, ◌%◌, ℕ, zero, suc, Bool, true, false, List, [], ◌∷◌, ◌++◌, length, map, slice_get, eqb, ltb, if◌then◌else◌, refl, sym, ap, subst, ◌∙◌, arith, Option, Some, ◌⊎◌, inl, inr, ⊎_elim, eqb-true}
use Rattle.std.proofs.Math.Nat.{suc-mod, mod_self, mod-eq_of_lt}
use Rattle.std.proofs.lemmas.Nat.{mod_below}
use Rattle.std.proofs.lemmas.Bool.{ltb-true, ltb-false}
use Rattle.std.proofs.lemmas.List.{length-map, length-append}
use Rattle.ms_ir.specs.declared.syntax.Module.{Module}
use Rattle.ms_runs.specs.declared.runs.Setup.{Setup}
use Rattle.ms_runs.specs.Control.{Frame}
use Rattle.ms_runs.specs.Threads.{fiber_limit}
use Rattle.ms_runs_good_laws.specs.GoodStates.{IsStart}
use Rattle.ms_runs_threads.specs.Fibers.{Others, standing}
use Rattle.ms_threads.specs.declared.thread_table.Thread.{Thread as Guest}
use Rattle.ms_threads.specs.declared.thread_table.ThreadTable.{ThreadTable}
use Rattle.ms_threads.specs.ThreadTables.{Standing, stand_at, funcs_of, stands_of, Stands, Picked, KeepsStands}
use Rattle.ms_threads.specs.Going.{StandsAt, Standings}

-- the place after one, of so many
abbrev next_at : ℕ → ℕ → ℕ
next_at l p = if ltb (p + 1) l then p + 1 else 0

module _ (m : Module) (u : Setup) (schedule : List ℕ) where
  -- an item of a list with one list after it stands in one of both
  either_list : (xs ys : List ℕ) (k f : ℕ) → slice_get (xs ++ ys) k ≡ Some f → ((j : ℕ) × (slice_get xs j ≡ Some f)) ⊎ ((j : ℕ) × (slice_get ys j ≡ Some f))
  either_list [] ys k f e = inr (k, e)
  either_list (x ∷ xs) ys zero f e = inl (0, e)
  either_list (x ∷ xs) ys (suc k) f e = ⊎_elim (λ h. inl (suc h.0, h.1)) (λ h. inr h) (either_list xs ys k f e)

  -- all stand where they stood, and those that were made can begin
  pub standings_kept : (site : ℕ) (starts : List ℕ) (g h : ThreadTable) (others : Others (List (Frame ℕ))) → Standings m u schedule g others → KeepsStands site starts g h → ((k f : ℕ) → slice_get starts k ≡ Some f → IsStart m f)
      → Standings m u schedule h others
  standings_kept site starts g h others s k begin = record {
    counted = k.counted s.counted;
    few = k.few s.counted s.few;
    turn = let counted = k.counted s.counted in let few = longer k.funcs in let turn = k.same.turn in omega (arith, counted, s.counted, s.turn, few, turn);
    stands = λ n. subst (λ o. StandsAt m u n o (others.stands n)) (sym (k.stands n)) (s.stands n);
    place = k.same.place ∙ s.place;
    starts = λ n f e. by_funcs k.funcs n f e;
  }
    where
      count : (x : ThreadTable) → length (funcs_of x) ≡ length x.threads.items
      count x = length-map x.threads.items (λ (t : Guest). t.func)

      longer : (funcs_of h ≡ funcs_of g) ⊎ (funcs_of h ≡ funcs_of g ++ starts) → length g.threads.items ≤ length h.threads.items
      longer (inl e) = let same : length (funcs_of h) ≡ length (funcs_of g) = ap length e in omega (arith, same, count g, count h)
      longer (inr e) = let more : length (funcs_of h) ≡ length (funcs_of g) + length starts = ap length e ∙ length-append (funcs_of g) starts in omega (arith, more, count g, count h)

      by_funcs : (funcs_of h ≡ funcs_of g) ⊎ (funcs_of h ≡ funcs_of g ++ starts) → (n f : ℕ) → slice_get (funcs_of h) n ≡ Some f → IsStart m f
      by_funcs (inl same) n f e = s.starts n f (subst (λ xs. slice_get xs n ≡ Some f) same e)
      by_funcs (inr more) n f e = ⊎_elim (λ x. s.starts x.0 f x.1) (λ x. begin x.0 f x.1) (either_list (funcs_of g) starts n f (subst (λ xs. slice_get xs n ≡ Some f) more e))

  -- the threads are the same
  same_funcs : (g h : ThreadTable) → h.threads ≡ g.threads → funcs_of h ≡ funcs_of g
  same_funcs g h e = ap (λ v. map (λ (t : Guest). t.func) v.items) e

  same_count : (g h : ThreadTable) → h.threads ≡ g.threads → length h.threads.items ≡ length g.threads.items
  same_count g h e = ap (λ v. length v.items) e

  -- the thread that has the turn stands somewhere else, and so does the fiber
  pub standings_stood : (o : Option Standing) (f : Option (List (Frame ℕ))) (g h : ThreadTable) (others : Others (List (Frame ℕ))) → Standings m u schedule g others → Stands o g h → StandsAt m u g.turn o f
      → Standings m u schedule h (record others { stands = standing g.turn f others.stands })
  standings_stood o f g h others s c new = record {
    counted = c.count ∙ s.counted ∙ ap (λ n. n + 1) (sym (same_count g h c.threads));
    few = let count = c.count in omega (arith, count, s.few);
    turn = let turn = c.same.turn in let count = c.count in omega (arith, turn, count, s.turn);
    stands = λ n. subst (λ x. StandsAt m u n x (standing g.turn f others.stands n)) (sym (c.stands n)) (by_test n (eqb n g.turn) refl);
    place = c.same.place ∙ s.place;
    starts = λ n x e. s.starts n x (subst (λ xs. slice_get xs n ≡ Some x) (same_funcs g h c.threads) e);
  }
    where
      by_test : (n : ℕ) (b : Bool) → eqb n g.turn ≡ b → StandsAt m u n (if b then o else stands_of g n) (if b then f else others.stands n)
      by_test n true e = subst (λ k. StandsAt m u k o f) (sym (eqb-true n g.turn e)) new
      by_test n false e = s.stands n

  -- the place of the next pick
  next_is : (n l p : ℕ) → 0 < l → p ≡ n % l → next_at l p ≡ (n + 1) % l
  next_is n l p some e = ap (next_at l) e ∙ by_test (ltb (n % l + 1) l) refl ∙ sym (ap (λ k. k % l) more ∙ suc-mod n l)
    where
      more : n + 1 ≡ suc n
      more = omega arith

      low : n % l < l
      low = mod_below n l some

      by_test : (b : Bool) → ltb (n % l + 1) l ≡ b → (if ltb (n % l + 1) l then n % l + 1 else 0) ≡ suc (n % l) % l
      by_test true t =
          ap (λ (b : Bool). if b then n % l + 1 else 0) t ∙ (let e : n % l + 1 ≡ suc (n % l) = omega arith in e)
          ∙ sym (mod-eq_of_lt (let lt : suc (n % l) < l = omega (arith, ltb-true (n % l + 1) l t) in lt))
      by_test false t =
          ap (λ (b : Bool). if b then n % l + 1 else 0) t ∙ sym (mod_self l)
          ∙ ap (λ k. k % l) (let e : l ≡ suc (n % l) = omega (arith, ltb-false (n % l + 1) l t, low) in e)

  -- a thread was picked
  pub standings_picked : (g h : ThreadTable) (others : Others (List (Frame ℕ))) → 0 < length schedule → Standings m u schedule g others → Picked schedule g h → h.turn < length g.parked.items
      → Standings m u schedule h (record others { picks = others.picks + 1 })
  standings_picked g h others some s p turn = record {
    counted = ap (λ v. length v.items) p.stands ∙ s.counted ∙ ap (λ n. n + 1) (sym (same_count g h p.threads));
    few = subst (λ v. length v.items ≤ fiber_limit) (sym p.stands) s.few;
    turn = let e : length h.parked.items ≡ length g.parked.items = ap (λ v. length v.items) p.stands in omega (arith, e, turn);
    stands = λ n. subst (λ x. StandsAt m u n x (others.stands n)) (sym (ap (λ v. stand_at v.items n) p.stands)) (s.stands n);
    place = p.place ∙ next_is others.picks (length schedule) g.next_pick some s.place;
    starts = λ n x e. s.starts n x (subst (λ xs. slice_get xs n ≡ Some x) (same_funcs g h p.threads) e);
  }
