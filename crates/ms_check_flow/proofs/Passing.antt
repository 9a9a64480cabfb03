-- One function after the other: what is known before each, and what its answer says of the module.
use Rattle.std.proofs.Common.{◌≡◌, ℕ, ◌+◌, ◌<◌, ◌≤◌, ◌^◌, List, [], ◌∷◌, ◌++◌, Some, refl, sym, ap, subst, ◌∙◌, arith, append_assoc, append-nil, length, drop}
use Rattle.std.specs.Prelude.{All, slice_get, slice_index_or}
use Rattle.std.proofs.lemmas.List.{drop_more, drop_all}
use Rattle.std.proofs.lemmas.List.Elements.{All-append}
use Rattle.std.proofs.lemmas.Option.{slice_get_read}
use Rattle.ms_ir.specs.declared.syntax.Func.{Func}
use Rattle.ms_ir.specs.declared.syntax.Module.{Module}
use Rattle.ms_ir.specs.Instructions.{one_unmarked, over_blocks, over_funcs}
use Rattle.ms_ir.specs.Spots.{over_func_spots}
use Rattle.ms_check_valid.specs.Formed.{Formed, count_written}
use Rattle.ms_check_valid.specs.Refusals.{UpToPhis, IsFirstUndefined}
use Rattle.ms_check_valid.specs.UsesDefined.{IsUseDefined, UsesDefined, uses, SiteUse, inst_uses}
use Rattle.ms_check_valid.proofs.AtInstructions.{all_parts}
use Rattle.ms_check_valid.proofs.SmallNumbers.{blocks_written}
use Rattle.ms_check_flow.specs.Asked.{func_uses, IsWithin, CanBeAsked, IsFirstOf}
use Rattle.ms_check_flow.proofs.Branches.{stays_in}
use Rattle.ms_check_flow.proofs.PathCounts.{func_names}
use Rattle.ms_check_flow.proofs.Within.{uses_within}

-- the uses of values in functions, the first of which begins at a site
abbrev pub uses_from : ℕ → List Func → List SiteUse
uses_from site funcs = over_func_spots (λ f. []) (λ at inst. inst_uses at inst.op) site funcs

-- the uses of a module before some that are left are defined
pub record IsPassed (m : Module) (left : List SiteUse) : Type 0 where
  pub earlier : List SiteUse
  pub splits : uses m ≡ earlier ++ left
  pub defined : All IsUseDefined earlier

-- ---- lists

-- what stands from a place on
rest_from : (fs : List Func) (i : ℕ) (f : Func) → i < length fs → f ≡ slice_index_or fs i f → drop i fs ≡ f ∷ drop (i + 1) fs
rest_from fs i f l is = drop_more fs i f l ∙ ap (λ g. g ∷ drop (i + 1) fs) (sym is)

-- the uses from a function on
uses_split : (site : ℕ) (fs : List Func) (i : ℕ) (f : Func) → i < length fs → f ≡ slice_index_or fs i f
    → uses_from site (drop i fs) ≡ func_uses f site ++ uses_from (site + over_blocks one_unmarked f.blocks) (drop (i + 1) fs)
uses_split site fs i f l is = ap (uses_from site) (rest_from fs i f l is)

-- what is written in one function and in those from it on
one_func : (fs : List Func) (i : ℕ) (f : Func) → i < length fs → f ≡ slice_index_or fs i f
    → over_funcs count_written (drop i fs) ≡ over_blocks count_written f.blocks + over_funcs count_written (drop (i + 1) fs)
one_func fs i f l is = ap (over_funcs count_written) (rest_from fs i f l is)

-- ---- before a function

pub can_be_asked : (m : Module) → Formed m → UpToPhis m → (site i : ℕ) (f : Func) → i < length m.funcs → f ≡ slice_index_or m.funcs i f
    → site + over_funcs count_written (drop i m.funcs) < 2 ^ 31 → IsPassed m (uses_from site (drop i m.funcs)) → CanBeAsked f site
can_be_asked m formed before site i f l is few passed =
    let at : slice_get m.funcs i ≡ Some f = slice_get_read m.funcs (length m.funcs) i f refl l is in
    let left = one_func m.funcs i f l is in
    let few_here : site + over_blocks count_written f.blocks < 2 ^ 31 = omega (arith, few, left) in
    let rest = uses_from (site + over_blocks one_unmarked f.blocks) (drop (i + 1) m.funcs) in
    let from_here = (all_parts IsWithin passed.earlier (uses_from site (drop i m.funcs)) (subst (All IsWithin) passed.splits (uses_within m before))).1 in
    record {
      few_names = omega (arith, func_names m.funcs i f formed.functions at, few_here);
      few_operands = few_here;
      branches = stays_in m before.0.1 i f at;
      values = (all_parts IsWithin (func_uses f site) rest (subst (All IsWithin) (uses_split site m.funcs i f l is) from_here)).0;
    }

-- ---- after a function

-- a function all of whose uses are defined
pub func_passed : (m : Module) (site next i : ℕ) (f : Func) → i < length m.funcs → f ≡ slice_index_or m.funcs i f → next ≡ site + over_blocks one_unmarked f.blocks
    → All IsUseDefined (func_uses f site) → IsPassed m (uses_from site (drop i m.funcs)) → IsPassed m (uses_from next (drop (i + 1) m.funcs))
func_passed m site next i f l is e defined passed = record {
  earlier = passed.earlier ++ func_uses f site;
  splits = passed.splits ∙ ap (λ us. passed.earlier ++ us) (uses_split site m.funcs i f l is)
      ∙ sym (append_assoc passed.earlier (func_uses f site) (uses_from (site + over_blocks one_unmarked f.blocks) (drop (i + 1) m.funcs)))
      ∙ ap (λ s. (passed.earlier ++ func_uses f site) ++ uses_from s (drop (i + 1) m.funcs)) (sym e);
  defined = All-append IsUseDefined passed.earlier (func_uses f site) passed.defined defined;
}

-- the sites stay small
pub few_left : (fs : List Func) (site next i : ℕ) (f : Func) → i < length fs → f ≡ slice_index_or fs i f → next ≡ site + over_blocks one_unmarked f.blocks
    → site + over_funcs count_written (drop i fs) < 2 ^ 31 → next + over_funcs count_written (drop (i + 1) fs) < 2 ^ 31
few_left fs site next i f l is e few = omega (arith, few, e, one_func fs i f l is, blocks_written f.blocks)

-- all functions
pub all_passed : (m : Module) (site i : ℕ) → length m.funcs ≤ i → IsPassed m (uses_from site (drop i m.funcs)) → UsesDefined m
all_passed m site i end passed =
    let is : uses m ≡ passed.earlier =
    passed.splits ∙ ap (λ fs. passed.earlier ++ uses_from site fs) (drop_all i m.funcs end) ∙ append-nil passed.earlier in
    subst (All IsUseDefined) (sym is) passed.defined

-- a function with a use that isn't defined
pub func_refused : (m : Module) (site i : ℕ) (f : Func) (place : ℕ) (path : List ℕ) → i < length m.funcs → f ≡ slice_index_or m.funcs i f
    → IsPassed m (uses_from site (drop i m.funcs)) → IsFirstOf (func_uses f site) place path → IsFirstUndefined m place path
func_refused m site i f place path l is passed first =
    let rest = uses_from (site + over_blocks one_unmarked f.blocks) (drop (i + 1) m.funcs) in
    record {
      earlier = passed.earlier ++ first.earlier;
      «use» = first.«use»;
      later = first.later ++ rest;
      splits = passed.splits ∙ ap (λ us. passed.earlier ++ us) (uses_split site m.funcs i f l is ∙ ap (λ us. us ++ rest) first.splits
          ∙ append_assoc first.earlier (first.«use» ∷ first.later) rest)
          ∙ sym (append_assoc passed.earlier first.earlier (first.«use» ∷ (first.later ++ rest)));
      defined = All-append IsUseDefined passed.earlier first.earlier passed.defined first.defined;
      misses = first.misses;
      once = first.once;
      stands = first.stands;
    }
