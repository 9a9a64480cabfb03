-- What an answer about the graph of a function says of the uses of the function.
use Rattle.std.proofs.Common.{◌≡◌, ℕ, ◌+◌, ◌<◌, List, [], ◌∷◌, Bool, true, false, cond, not, refl, sym, ap, subst, ◌∙◌, inl, true≢false, length, take, map}
use Rattle.std.specs.Prelude.{◌≢◌, ◌↔◌, All, AllPairs, Contains, IfSome, Some, option_map, filter, flat_map, slice_get, slice_index_or}
use Rattle.std.proofs.lemmas.Bool.{not-true}
use Rattle.std.proofs.lemmas.List.{take-map}
use Rattle.std.proofs.lemmas.List.Elements.{All-nil, All-cons, All-head, All-tail, All-append, All-map, All-filter}
use Rattle.std.proofs.lemmas.Option.{slice_get-map}
use Rattle.ms_flow.specs.Paths as flow
use Rattle.ms_flow.specs.declared.graphs.Use.{Use}
use Rattle.ms_ir.specs.declared.syntax.Name.{Name}
use Rattle.ms_ir.specs.declared.syntax.Operand.{Operand}
use Rattle.ms_ir.specs.declared.syntax.Operand.TheVariants as operand
use Rattle.ms_ir.specs.declared.syntax.Op.{Op}
use Rattle.ms_ir.specs.declared.syntax.Op.TheVariants as op
use Rattle.ms_ir.specs.declared.syntax.Inst.{Inst}
use Rattle.ms_ir.specs.declared.syntax.Block.{Block}
use Rattle.ms_ir.specs.declared.syntax.Func.{Func}
use Rattle.ms_ir.specs.Instructions.{operands, block_index, one_unmarked, over_insts}
use Rattle.ms_ir.specs.Equal.{has_name}
use Rattle.ms_ir.specs.Locals.{locals, parameter_names}
use Rattle.ms_check_valid.specs.Paths.{ValueUse, insts_of, IsDefined, Misses}
use Rattle.ms_ir.specs.Spots.{Spot, spot, next_spot, over_spots, over_block_spots}
use Rattle.ms_check_valid.specs.UsesDefined.{SiteUse, operand_use, edge_use, inst_uses, IsUseDefined}
use Rattle.ms_check_valid.proofs.AtInstructions.{all_parts}
use Rattle.ms_check_valid.proofs.NameTests.{name_within, within_name}
use Rattle.ms_check_valid.specs.FlowGraph.{graph_of, flow_use}
use Rattle.ms_check_flow.specs.declared.inst_uses.NotedUse.{NotedUse}
use Rattle.ms_check_flow.specs.Asked.{func_uses, IsWithin, IsFirstOf}
use Rattle.ms_check_flow.proofs.Kept.{kept_at}
use Rattle.ms_check_flow.proofs.Ties.{is_asked, noted_of, asked}

-- ---- the uses of a function are its own

each_own : {A B : Type 0} (P : B → Type 0) (h : A → List B) → ((a : A) → All P (h a)) → (xs : List A) → All P (flat_map h xs)
each_own P h each [] = All-nil P
each_own P h each (x ∷ xs) = All-append P (h x) (flat_map h xs) (each x) (each_own P h each xs)

abbrev pub IsOf : Func → SiteUse → Type 0
IsOf f u = u.func ≡ f

operand_own : (at : Spot) (block place : ℕ) (o : Operand) → All (IsOf at.func) (operand_use at block place o)
operand_own at block place (operand.Local x) =
    All-cons (IsOf at.func) (record { func = at.func; site = at.site; value = record { block = block; place = place; name = x } }) [] refl (All-nil (IsOf at.func))
operand_own at block place o = All-nil (IsOf at.func)

op_own : (at : Spot) (o : Op) → All (IsOf at.func) (inst_uses at o)
op_own at (op.Phi t edges) =
    each_own (IsOf at.func) (edge_use at) (λ e. operand_own at (block_index at.func.blocks e.1) (length (insts_of at.func (block_index at.func.blocks e.1))) e.0) edges
op_own at o = each_own (IsOf at.func) (λ a. operand_use at at.block at.place a.1) (λ a. operand_own at at.block at.place a.1) (operands o)

abbrev look : Spot → Inst → List SiteUse
look at inst = inst_uses at inst.op

insts_own : (at : Spot) (insts : List Inst) → All (IsOf at.func) (over_spots look at insts)
insts_own at [] = All-nil (IsOf at.func)
insts_own at (inst ∷ rest) =
    All-append (IsOf at.func) (inst_uses at inst.op) (over_spots look (next_spot at inst) rest) (op_own at inst.op) (insts_own (next_spot at inst) rest)

blocks_own : (f : Func) (n site : ℕ) (blocks : List Block) → All (IsOf f) (over_block_spots look f n site blocks)
blocks_own f n site [] = All-nil (IsOf f)
blocks_own f n site (b ∷ rest) =
    All-append (IsOf f) (over_spots look (spot f n 0 site) b.insts) (over_block_spots look f (n + 1) (site + over_insts one_unmarked b.insts) rest)
    (insts_own (spot f n 0 site) b.insts) (blocks_own f (n + 1) (site + over_insts one_unmarked b.insts) rest)

pub func_own : (f : Func) (site : ℕ) → All (IsOf f) (func_uses f site)
func_own f site = blocks_own f 0 site f.blocks

-- ---- one use

-- what is known of a function and its graph
abbrev pub DefinedThere : Type 0
DefinedThere =
    (f : Func) (place : ValueUse) → Contains (locals f) place.name → ¬ Contains (parameter_names f) place.name
    → IsDefined f place ↔ flow.IsDefined (graph_of f) (flow_use f place)

abbrev pub MissedThere : Type 0
MissedThere =
    (f : Func) (place : ValueUse) (path : List ℕ) → ¬ Contains (parameter_names f) place.name
    → flow.Misses (graph_of f) (flow_use f place) path → Misses f place path

no_parameter : (f : Func) (x : Name) → has_name (parameter_names f) x ≡ false → Contains (parameter_names f) x → ⊥
no_parameter f x own h = true≢false (sym (within_name (parameter_names f) x h) ∙ own)

-- the places of the uses that are asked about
abbrev pub place_of : NotedUse → Use
place_of n = n.place

abbrev pub places_of : List SiteUse → List Use
places_of us = map place_of (asked us)

-- they are in blocks of the function
abbrev pub InBlock : Func → Use → Type 0
InBlock f u = u.block < length f.blocks

pub places_within : (f : Func) (xs : List SiteUse) → All (IsOf f) xs → All IsWithin xs → All (InBlock f) (places_of xs)
places_within f xs own within =
    All-map (InBlock f) place_of (asked xs) (All-map (λ n. InBlock f (place_of n)) noted_of (filter is_asked xs)
    (All-filter is_asked (λ u. u.value.block < length f.blocks) xs
    (λ k d l. subst (λ (g : Func). (slice_index_or xs k d).value.block < length g.blocks) (own k d l) (within k d l).block)))

module _ (f : Func) (defined : DefinedThere) where
  abbrev IsDefinedPlace : Use → Type 0
  IsDefinedPlace = flow.IsDefined (graph_of f)

  one_defined : (u : SiteUse) → u.func ≡ f → IsWithin u → has_name (parameter_names u.func) u.value.name ≡ false → IsDefinedPlace (flow_use u.func u.value) → IsUseDefined u
  one_defined u is within own h =
      (defined u.func u.value (name_within (locals u.func) u.value.name within.known) (no_parameter u.func u.value.name own)).1
      (subst (λ g. flow.IsDefined (graph_of g) (flow_use u.func u.value)) (sym is) h)

  head_defined : (u : SiteUse) (xs : List SiteUse) → u.func ≡ f → IsWithin u → (own : Bool) → has_name (parameter_names u.func) u.value.name ≡ own
      → All IsDefinedPlace (map place_of (map noted_of (cond (not own) (u ∷ filter is_asked xs) (filter is_asked xs))))
      → IsUseDefined u × All IsDefinedPlace (places_of xs)
  head_defined u xs is within true e all = (inl (name_within (parameter_names u.func) u.value.name e), all)
  head_defined u xs is within false e all =
      (one_defined u is within e (All-head IsDefinedPlace (flow_use u.func u.value) (places_of xs) all), All-tail IsDefinedPlace (flow_use u.func u.value) (places_of xs) all)

  -- where each place that is asked about is defined, each use is
  pub all_defined : (xs : List SiteUse) → All (IsOf f) xs → All IsWithin xs → All IsDefinedPlace (places_of xs) → All IsUseDefined xs
  all_defined [] own within all = All-nil IsUseDefined
  all_defined (u ∷ xs) own within all =
      let h = head_defined u xs (All-head (IsOf f) u xs own) (All-head IsWithin u xs within) (has_name (parameter_names u.func) u.value.name) refl all in
      All-cons IsUseDefined u xs h.0 (all_defined xs (All-tail (IsOf f) u xs own) (All-tail IsWithin u xs within) h.1)

  -- the first of them that isn't is that of the first use that isn't
  pub first_found : MissedThere → (xs : List SiteUse) → All (IsOf f) xs → All IsWithin xs → (w : ℕ) (path : List ℕ) (site : ℕ)
      → w < length (asked xs) → All IsDefinedPlace (take w (places_of xs)) → IfSome (slice_get (places_of xs) w) (λ u. flow.Misses (graph_of f) u path)
      → AllPairs (λ a b. a ≢ b) path → IfSome (slice_get (asked xs) w) (λ n. site ≡ n.site) → IsFirstOf xs site path
  first_found missed xs own within w path site l before misses once read =
      let r = kept_at is_asked noted_of xs w l in
      let mine = all_parts (IsOf f) r.earlier (r.item ∷ r.later) (subst (All (IsOf f)) r.splits own) in
      let inside = all_parts IsWithin r.earlier (r.item ∷ r.later) (subst (All IsWithin) r.splits within) in
      let is : r.item.func ≡ f = All-head (IsOf f) r.item r.later mine.1 in
      let no : has_name (parameter_names r.item.func) r.item.value.name ≡ false = not-true (has_name (parameter_names r.item.func) r.item.value.name) r.passes in
      let front : take w (places_of xs) ≡ places_of r.earlier = take-map place_of w (asked xs) ∙ ap (map place_of) (sym r.before) in
      let there : slice_get (places_of xs) w ≡ Some (flow_use r.item.func r.item.value) = slice_get-map place_of (asked xs) w ∙ ap (option_map place_of) r.here in
      let path_there : flow.Misses (graph_of f) (flow_use r.item.func r.item.value) path = subst (λ o. IfSome o (λ u. flow.Misses (graph_of f) u path)) there misses in
      record {
        earlier = r.earlier;
        «use» = r.item;
        later = r.later;
        splits = r.splits;
        defined = all_defined r.earlier mine.0 inside.0 (subst (All IsDefinedPlace) front before);
        misses = missed r.item.func r.item.value path (no_parameter r.item.func r.item.value.name no)
            (subst (λ g. flow.Misses (graph_of g) (flow_use r.item.func r.item.value) path) (sym is) path_there);
        once = once;
        stands = sym (subst (λ o. IfSome o (λ n. site ≡ n.site)) r.here read);
      }
