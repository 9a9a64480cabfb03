-- In a valid module one instruction gives a value its name, and a parameter's name is no result's.
use Rattle.std.proofs.Common.{◌≡◌, ℕ, zero, suc, List, [], ◌∷◌, ◌++◌, flat_map, Bool, true, false, ◌&&◌, Option, Some, None, unwrap_or, slice_get, refl, sym, ap, ◌∙◌, subst, arith, ⊎_elim, if◌then◌else◌, true≢false}
use Rattle.std.specs.List.{list_any, cons_option}
use Rattle.std.proofs.lemmas.Bool.{or_cases, and_parts, or_left, or_right}
use Rattle.std.proofs.lemmas.List.Folds.{list_any-append}
use Rattle.ms_ir.specs.declared.syntax.Name.{Name}
use Rattle.ms_ir.specs.declared.syntax.Inst.{Inst}
use Rattle.ms_ir.specs.declared.syntax.Block.{Block}
use Rattle.ms_ir.specs.declared.syntax.Func.{Func}
use Rattle.ms_ir.specs.declared.syntax.Module.{Module}
use Rattle.ms_ir.specs.Names.{name_eq}
use Rattle.ms_ir.specs.Instructions.{func_at}
use Rattle.ms_ir.specs.Equal.{has_name}
use Rattle.ms_ir.specs.Locals.{results, block_locals, parameter_names, func_insts}
use Rattle.ms_ir.proofs.RootKinds.{name_same as name_sound}
use Rattle.ms_check_valid.specs.Paths.{insts_of}
use Rattle.ms_check_valid.specs.NamesOnce.{repeats}
use Rattle.ms_check_valid.specs.CleanValues.{gives_name}
use Rattle.ms_check_valid.specs.Valid.{Valid}
use Rattle.ms_check_valid.proofs.NameTests.{name_same}
use Rattle.ms_check_valid.proofs.TypedValues.{names_stand_once, once_more, unseen, result_listed}
use Rattle.ms_runs_good_laws.proofs.NextFrames.{block_there}

-- ---- names that stand once (as in ms_check_valid's TypedValues, where these are private)

seen_after : List Name → List Name → List Name
seen_after seen [] = seen
seen_after seen (x ∷ rest) = seen_after (x ∷ seen) rest

once_both : (seen xs ys : List Name) → repeats seen (xs ++ ys) ≡ [] → (repeats seen xs ≡ []) × (repeats (seen_after seen xs) ys ≡ [])
unfolding seen_after
once_both seen [] ys e = (refl, e)
once_both seen (x ∷ rest) ys e =
    let first = once_more seen x (rest ++ ys) e in
    let later = once_both (x ∷ seen) rest ys first.1 in
    (ap (λ b. if b then x ∷ repeats (x ∷ seen) rest else repeats (x ∷ seen) rest) first.0 ∙ later.0, later.1)

still_seen : (seen xs : List Name) (x : Name) → has_name seen x ≡ true → has_name (seen_after seen xs) x ≡ true
unfolding seen_after
still_seen seen [] x h = h
still_seen seen (y ∷ rest) x h = still_seen (y ∷ seen) rest x (or_right (name_eq y x) (has_name seen x) h)

now_seen : (seen xs : List Name) (x : Name) → has_name xs x ≡ true → has_name (seen_after seen xs) x ≡ true
unfolding seen_after
now_seen seen [] x h = absurd (true≢false (sym h))
now_seen seen (y ∷ rest) x h = ⊎_elim (λ e. still_seen (y ∷ seen) rest x (or_left (name_eq y x) (has_name seen x) e)) (λ e. now_seen (y ∷ seen) rest x e) (or_cases (name_eq y x) (has_name rest x) h)

-- no name stands in both of two lists in a row
apart : (seen xs ys : List Name) (x : Name) → repeats seen (xs ++ ys) ≡ [] → has_name xs x ≡ true → has_name ys x ≡ true → ⊥
apart seen xs ys x e h k = true≢false (sym (now_seen seen xs x h) ∙ unseen (seen_after seen xs) ys x (once_both seen xs ys e).1 k)

-- a name that stands before others stands not among them
alone : (seen : List Name) (x : Name) (rest : List Name) → repeats seen (x ∷ rest) ≡ [] → has_name rest x ≡ true → ⊥
alone seen x rest e h = true≢false (sym (or_left (name_eq x x) (has_name seen x) (name_same x)) ∙ unseen (x ∷ seen) rest x (once_more seen x rest e).1 h)

-- ---- one block

gives_same : (x : Name) (i : Inst) → gives_name x i ≡ true → i.result ≡ Some x
gives_same x i e = by_result i.result e
  where
    by_result : (o : Option Name) → elim o [ Some y ↦ name_eq y x | None ↦ false ] ≡ true → o ≡ Some x
    by_result None h = absurd (true≢false (sym h))
    by_result (Some y) h = ap (λ z. Some z) (name_sound y x h)

module _ (x : Name) (test : Inst → Bool) where
  -- what makes a value lists its name
  made_listed : (insts : List Inst) → list_any (λ j. gives_name x j && test j) insts ≡ true → has_name (results insts) x ≡ true
  made_listed [] e = absurd (true≢false (sym e))
  made_listed (j ∷ rest) e = ⊎_elim
      (λ h. result_listed (j ∷ rest) 0 j x refl (gives_same x j (and_parts (gives_name x j) (test j) h).0))
      (λ h. later j.result (made_listed rest h))
      (or_cases (gives_name x j && test j) (list_any (λ k. gives_name x k && test k) rest) e)
    where
      later : (o : Option Name) → has_name (results rest) x ≡ true → has_name (cons_option o (results rest)) x ≡ true
      later None h = h
      later (Some y) h = or_right (name_eq y x) (has_name (results rest) x) h

  -- where names stand once, the instruction that gives the name passes
  one_in_list : (seen : List Name) (insts : List Inst) (p : ℕ) (i : Inst) → repeats seen (results insts) ≡ [] → slice_get insts p ≡ Some i → i.result ≡ Some x
      → list_any (λ j. gives_name x j && test j) insts ≡ true → test i ≡ true
  one_in_list seen [] p i once at named any = grind arith
  one_in_list seen (j ∷ rest) zero i once at named any = ⊎_elim
      (λ h. subst (λ k. test k ≡ true) same (and_parts (gives_name x j) (test j) h).1)
      (λ h. absurd (alone seen x (results rest) (subst (λ o. repeats seen (cons_option o (results rest)) ≡ []) (ap (λ k. k.result) same ∙ named) once) (made_listed rest h)))
      (or_cases (gives_name x j && test j) (list_any (λ k. gives_name x k && test k) rest) any)
    where
      same : j ≡ i
      same = ap (λ o. unwrap_or o j) at
  one_in_list seen (j ∷ rest) (suc p) i once at named any = ⊎_elim
      (λ h. absurd (alone seen x (results rest) (subst (λ o. repeats seen (cons_option o (results rest)) ≡ []) (gives_same x j (and_parts (gives_name x j) (test j) h).0) once) (result_listed rest p i x at named)))
      (λ h. by_result j.result once (λ s o. one_in_list s rest p i o at named h))
      (or_cases (gives_name x j && test j) (list_any (λ k. gives_name x k && test k) rest) any)
    where
      by_result : (o : Option Name) → repeats seen (cons_option o (results rest)) ≡ [] → ((s : List Name) → repeats s (results rest) ≡ [] → test i ≡ true) → test i ≡ true
      by_result None h k = k seen h
      by_result (Some y) h k = k (y ∷ seen) (once_more seen y (results rest) h).1

  -- ---- blocks

  made_in_blocks : (blocks : List Block) → list_any (λ j. gives_name x j && test j) (flat_map (λ b. b.insts) blocks) ≡ true → has_name (flat_map block_locals blocks) x ≡ true
  made_in_blocks [] e = absurd (true≢false (sym e))
  made_in_blocks (g ∷ rest) e =
      list_any-append (λ y. name_eq y x) (block_locals g) (flat_map block_locals rest)
      ∙ ⊎_elim
      (λ h. or_left (has_name (block_locals g) x) (has_name (flat_map block_locals rest) x) (or_right (name_eq g.name x) (has_name (results g.insts) x) (made_listed g.insts h)))
      (λ h. or_right (has_name (block_locals g) x) (has_name (flat_map block_locals rest) x) (made_in_blocks rest h))
      (or_cases (list_any (λ j. gives_name x j && test j) g.insts) (list_any (λ j. gives_name x j && test j) (flat_map (λ b. b.insts) rest))
      (sym (list_any-append (λ j. gives_name x j && test j) g.insts (flat_map (λ b. b.insts) rest)) ∙ e))

  named_in_blocks : (blocks : List Block) (b p : ℕ) (k : Block) (i : Inst) → slice_get blocks b ≡ Some k → slice_get k.insts p ≡ Some i → i.result ≡ Some x → has_name (flat_map block_locals blocks) x ≡ true
  named_in_blocks [] b p k i is at named = grind arith
  named_in_blocks (g ∷ rest) zero p k i is at named =
      list_any-append (λ y. name_eq y x) (block_locals g) (flat_map block_locals rest)
      ∙ or_left (has_name (block_locals g) x) (has_name (flat_map block_locals rest) x)
      (or_right (name_eq g.name x) (has_name (results g.insts) x) (result_listed g.insts p i x (ap (λ o. slice_get (unwrap_or o g).insts p) is ∙ at) named))
  named_in_blocks (g ∷ rest) (suc b) p k i is at named =
      list_any-append (λ y. name_eq y x) (block_locals g) (flat_map block_locals rest)
      ∙ or_right (has_name (block_locals g) x) (has_name (flat_map block_locals rest) x) (named_in_blocks rest b p k i is at named)

  one_in_blocks : (seen : List Name) (blocks : List Block) (b p : ℕ) (k : Block) (i : Inst) → repeats seen (flat_map block_locals blocks) ≡ [] → slice_get blocks b ≡ Some k → slice_get k.insts p ≡ Some i
      → i.result ≡ Some x → list_any (λ j. gives_name x j && test j) (flat_map (λ g. g.insts) blocks) ≡ true → test i ≡ true
  one_in_blocks seen [] b p k i once is at named any = grind arith
  one_in_blocks seen (g ∷ rest) zero p k i once is at named any = ⊎_elim
      (λ h. one_in_list (g.name ∷ seen) g.insts p i (once_more seen g.name (results g.insts) (once_both seen (block_locals g) (flat_map block_locals rest) once).0).1 due named h)
      (λ h. absurd (apart seen (block_locals g) (flat_map block_locals rest) x once (or_right (name_eq g.name x) (has_name (results g.insts) x) (result_listed g.insts p i x due named)) (made_in_blocks rest h)))
      (or_cases (list_any (λ j. gives_name x j && test j) g.insts) (list_any (λ j. gives_name x j && test j) (flat_map (λ c. c.insts) rest))
      (sym (list_any-append (λ j. gives_name x j && test j) g.insts (flat_map (λ c. c.insts) rest)) ∙ any))
    where
      due : slice_get g.insts p ≡ Some i
      due = ap (λ o. slice_get (unwrap_or o g).insts p) is ∙ at
  one_in_blocks seen (g ∷ rest) (suc b) p k i once is at named any = ⊎_elim
      (λ h. absurd (apart seen (block_locals g) (flat_map block_locals rest) x once (or_right (name_eq g.name x) (has_name (results g.insts) x) (made_listed g.insts h)) (named_in_blocks rest b p k i is at named)))
      (λ h. one_in_blocks (seen_after seen (block_locals g)) rest b p k i (once_both seen (block_locals g) (flat_map block_locals rest) once).1 is at named h)
      (or_cases (list_any (λ j. gives_name x j && test j) g.insts) (list_any (λ j. gives_name x j && test j) (flat_map (λ c. c.insts) rest))
      (sym (list_any-append (λ j. gives_name x j && test j) g.insts (flat_map (λ c. c.insts) rest)) ∙ any))

-- ---- functions

module _ (m : Module) (valid : Valid m) (n : ℕ) (f : Func) (at : func_at m n ≡ Some f) (x : Name) (test : Inst → Bool) (any : list_any (λ j. gives_name x j && test j) (func_insts f) ≡ true) where
  -- the instruction that gives a value its name passes what some instruction that gives this name does
  pub one_maker : (b p : ℕ) (i : Inst) → slice_get (insts_of f b) p ≡ Some i → i.result ≡ Some x → test i ≡ true
  one_maker b p i due named =
      let its = block_there f b p i due in
      one_in_blocks x test (seen_after [] (parameter_names f)) f.blocks b p its.0 i (once_both [] (parameter_names f) (flat_map block_locals f.blocks) (names_stand_once m valid n f at)).1 its.1 its.2 named any

  -- no parameter has this name
  pub no_parameter : has_name (parameter_names f) x ≡ true → ⊥
  no_parameter h = apart [] (parameter_names f) (flat_map block_locals f.blocks) x (names_stand_once m valid n f at) h (made_in_blocks x test f.blocks any)
