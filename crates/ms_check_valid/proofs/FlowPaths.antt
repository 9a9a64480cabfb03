-- A use is defined in a function exactly where it is in the function's graph.
use Rattle.std.proofs.Common.{◌≡◌, ℕ, zero, suc, List, [], ◌∷◌, ◌++◌, Bool, true, false, refl, sym, ap, subst, ◌∙◌, arith, inl, inr, ⊎_elim}
use Rattle.std.specs.Prelude.{◌||◌, Contains, take, map, slice_index_or, slice_get, Option, Some, None, option_map, unwrap_or}
use Rattle.std.specs.List.{cons_option}
use Rattle.std.proofs.lemmas.List.Folds.{list_any-append}
use Rattle.ms_flow.specs.Paths as flow
use Rattle.ms_ir.specs.declared.syntax.Name.{Name}
use Rattle.ms_ir.specs.declared.syntax.Inst.{Inst}
use Rattle.ms_ir.specs.declared.syntax.Block.{Block}
use Rattle.ms_ir.specs.declared.syntax.Func.{Func}
use Rattle.ms_ir.specs.Names.{name_eq}
use Rattle.ms_ir.specs.Equal.{has_name}
use Rattle.ms_ir.specs.Locals.{results, parameter_names, locals}
use Rattle.ms_check_valid.specs.Paths.{ValueUse, insts_of, block_results, Leads, Path, Passes, IsDefined, Misses}
use Rattle.ms_check_valid.specs.FlowGraph.{value_names, value_number, block_numbers, graph_of, flow_use}
use Rattle.ms_check_valid.proofs.NamePlaces.{same_place}
use Rattle.ms_check_valid.proofs.NameTests.{name_within, within_name}
use Rattle.ms_check_valid.proofs.StandsAfter.{found_stands_after, after_tells}

-- ---- names

-- a name that a function has is that of a parameter, or of a block or result
value_known : (f : Func) (x : Name) → ¬ Contains (parameter_names f) x → Contains (locals f) x → Contains (value_names f) x
value_known f x own known =
    by_test (has_name (parameter_names f) x) refl (sym (list_any-append (λ y. name_eq y x) (parameter_names f) (value_names f)) ∙ within_name (locals f) x known)
  where
    by_test : (t : Bool) → has_name (parameter_names f) x ≡ t → (t || has_name (value_names f) x) ≡ true → Contains (value_names f) x
    by_test true e h = absurd (own (name_within (parameter_names f) x e))
    by_test false e h = name_within (value_names f) x h

-- ---- lists of numbers

-- a number stands among those of names exactly where its name does
pub numbered : (g : Name → ℕ) (x : Name) (xs : List Name) → Contains xs x → Contains (map g xs) (g x)
numbered g x [] h = absurd (omega (arith, h.1))
numbered g x (y ∷ rest) (zero, l, e) = (0, omega arith, ap g e)
numbered g x (y ∷ rest) (suc k, l, e) = let h = numbered g x rest (k, omega arith, e) in (suc h.0, omega (arith, h.1), h.2)

named : (g : Name → ℕ) (x : Name) → ((y : Name) → g y ≡ g x → y ≡ x) → (xs : List Name) → Contains (map g xs) (g x) → Contains xs x
named g x same [] h = absurd (omega (arith, h.1))
named g x same (y ∷ rest) (zero, l, e) = (0, omega arith, same y e)
named g x same (y ∷ rest) (suc k, l, e) = let h = named g x same rest (k, omega arith, e) in (suc h.0, omega (arith, h.1), h.2)

-- ---- definitions

-- the numbers that the block with a number defines are those of its results
numbers_at : (f : Func) (blocks : List Block) (b : ℕ) → slice_index_or (map (block_numbers f) blocks) b []
    ≡ map (value_number f) (results (unwrap_or (option_map (λ k. k.insts) (slice_get blocks b)) []))
numbers_at f [] b = refl
numbers_at f (k ∷ rest) zero = refl
numbers_at f (k ∷ rest) (suc b) = numbers_at f rest b

-- the graph's block defines a value's number where the function's defines the value
defines : (f : Func) (x : Name) (b : ℕ) → Contains (block_results f b) x → flow.Defines (graph_of f) b (value_number f x)
defines f x b h = subst (λ l. Contains l (value_number f x)) (sym (numbers_at f f.blocks b)) (numbered (value_number f) x (block_results f b) h)

defined : (f : Func) (x : Name) (b : ℕ) → Contains (value_names f) x → flow.Defines (graph_of f) b (value_number f x) → Contains (block_results f b) x
defined f x b known h =
    named (value_number f) x (λ y e. same_place (value_names f) x y (within_name (value_names f) x known) e) (block_results f b)
    (subst (λ l. Contains l (value_number f x)) (numbers_at f f.blocks b) h)

-- ---- paths

follows : (f : Func) (b : ℕ) (bs : List ℕ) → Leads f b bs → flow.Follows (graph_of f) b bs
follows f b [] h = tt
follows f b (c ∷ rest) h = (h.0, follows f c rest h.1)

leads : (f : Func) (b : ℕ) (bs : List ℕ) → flow.Follows (graph_of f) b bs → Leads f b bs
leads f b [] h = tt
leads f b (c ∷ rest) h = (h.0, leads f c rest h.1)

-- the paths of the graph are those of the function
pub graph_path : (f : Func) (bs : List ℕ) → Path f bs → flow.IsPath (graph_of f) bs
graph_path f [] h = absurd h
graph_path f (b ∷ rest) h = (h.0, follows f b rest h.1)

pub func_path : (f : Func) (bs : List ℕ) → flow.IsPath (graph_of f) bs → Path f bs
func_path f [] h = absurd h
func_path f (b ∷ rest) h = (h.0, leads f b rest h.1)

-- ---- uses

-- the results of the first instructions are results of all
first_results : (x : Name) (insts : List Inst) (p : ℕ) → has_name (results (take p insts)) x ≡ true → has_name (results insts) x ≡ true
first_results x insts zero e = grind arith
first_results x [] (suc p) e = e
first_results x (inst ∷ rest) (suc p) e = by_result inst.result e (first_results x rest p)
  where
    by_result : (o : Option Name) → has_name (cons_option o (results (take p rest))) x ≡ true
        → (has_name (results (take p rest)) x ≡ true → has_name (results rest) x ≡ true) → has_name (cons_option o (results rest)) x ≡ true
    by_result None e later = later e
    by_result (Some y) e later = by_test (name_eq y x) e later
      where
        by_test : (t : Bool) → (t || has_name (results (take p rest)) x) ≡ true
            → (has_name (results (take p rest)) x ≡ true → has_name (results rest) x ≡ true) → (t || has_name (results rest) x) ≡ true
        by_test true e later = refl
        by_test false e later = later e

-- a use of a known value that passes a definition in the function passes one in the graph, and the other way round
passes_there : (f : Func) (u : ValueUse) (before : List ℕ) → Passes f before u → flow.Passes (graph_of f) before (flow_use f u)
passes_there f u before h = ⊎_elim
    (λ d. inl (d.0, d.1, d.2, d.3, defines f u.name d.1 d.4))
    (λ d. let here = within_name (results (take u.place (insts_of f u.block))) u.name d in
    inr (found_stands_after f u d, defines f u.name u.block (name_within (block_results f u.block) u.name (first_results u.name (insts_of f u.block) u.place here)))) h

passes_here : (f : Func) (u : ValueUse) (before : List ℕ) → Contains (value_names f) u.name → flow.Passes (graph_of f) before (flow_use f u) → Passes f before u
passes_here f u before known h = ⊎_elim
    (λ d. inl (d.0, d.1, d.2, d.3, defined f u.name d.1 known d.4))
    (λ d. inr (after_tells f u d.0 (defined f u.name u.block known d.1))) h

-- a use of a value that is no parameter is defined in the function exactly where it is in the graph
pub defined_there : (f : Func) (u : ValueUse) → ¬ Contains (parameter_names f) u.name → IsDefined f u → flow.IsDefined (graph_of f) (flow_use f u)
defined_there f u own d before p = ⊎_elim (λ h. absurd (own h)) (λ h. passes_there f u before (h before (func_path f (before ++ u.block ∷ []) p))) d

pub defined_here : (f : Func) (u : ValueUse) → Contains (locals f) u.name → ¬ Contains (parameter_names f) u.name → flow.IsDefined (graph_of f) (flow_use f u) → IsDefined f u
defined_here f u known own d = inr (λ before p. passes_here f u before (value_known f u.name own known) (d before (graph_path f (before ++ u.block ∷ []) p)))

-- a path that misses a definition in the graph misses one in the function
pub missed_here : (f : Func) (u : ValueUse) (path : List ℕ) → ¬ Contains (parameter_names f) u.name → flow.Misses (graph_of f) (flow_use f u) path → Misses f u path
missed_here f u path own h = record {
  own = own;
  before = h.before;
  ends = h.ends;
  leads = func_path f path h.leads;
  avoids = λ p. h.avoids (passes_there f u h.before p);
}
