use Rattle.std.proofs.Common.{◌≡◌, ℕ, ◌<◌, List, sym, ap, subst, ◌∙◌, arith, length, map, take}
use Rattle.std.specs.Prelude.{◌≢◌, All, AllPairs, IfSome, is_some, slice_get}
use Rattle.std.proofs.lemmas.List.{length-map}
use Rattle.ms_flow.specs.Paths as flow
use Rattle.ms_flow.specs.declared.graphs.Graph.{Graph}
use Rattle.ms_flow.specs.declared.graphs.Use.{Use}
use Rattle.ms_check_valid.specs.FlowGraph.{graph_of}
use Rattle.ms_check_valid.specs.Paths.{block_successors}
use Rattle.ms_check_flow.specs.declared.inst_uses.NotedUse.{NotedUse}
use Rattle.ms_check_flow.specs.Asked.{func_uses, IsFirstOf}
use Rattle.ms_check_flow.specs.Noted.{numbers_in, blocks_noted}
use Rattle.ms_check_valid.proofs.SmallNumbers.{blocks_written}
use Rattle.ms_check_flow.proofs.PathCounts.{blocks_few}
use Rattle.ms_check_flow.proofs.Judged.{InBlock, func_own, place_of, places_of, places_within, all_defined, first_found}
use Rattle.ms_check_flow.proofs.Ties.{asked, func_tied}
use Rattle.ms_check_flow.proofs.undefined.first_in_func.Goals as goal

pub asked_of-requires-clause-few : goal.asked_of-requires-clause-few
asked_of-requires-clause-few c = omega (arith, c.requires.few_operands, blocks_written c.args.func.now.blocks)

pub first_missing-requires-clause-blocks : goal.first_missing-requires-clause-blocks
first_missing-requires-clause-blocks c =
    let f = c.args.func.now in
    let site = c.args.site.now in
    let places : map place_of c.in_ok-asked.asked.noted.items ≡ places_of (func_uses f site) = ap (map place_of) (c.in_ok-asked.ensures.asked.noted ∙ func_tied f site) in
    let size : length f.blocks ≡ length c.in_ok-asked.asked.graph.next =
    sym (ap (λ (g : Graph). length g.next) c.in_ok-asked.ensures.asked.graph ∙ length-map f.blocks (block_successors f)) in
    subst (λ n. All (λ (u : Use). u.block < n) (map place_of c.in_ok-asked.asked.noted.items)) size
    (subst (All (InBlock f)) (sym places) (places_within f (func_uses f site) (func_own f site) c.requires.values))

pub first_missing-requires-clause-few : goal.first_missing-requires-clause-few
first_missing-requires-clause-few c =
    let f = c.args.func.now in
    let site = c.args.site.now in
    let places : map place_of c.in_ok-asked.asked.noted.items ≡ map place_of (blocks_noted (numbers_in f) 0 site f.blocks) = ap (map place_of) c.in_ok-asked.ensures.asked.noted in
    omega (arith, ap length places, length-map (blocks_noted (numbers_in f) 0 site f.blocks) place_of, blocks_few (numbers_in f) 0 site f.blocks, c.requires.few_operands)

pub undefined_at-requires : goal.undefined_at-requires
undefined_at-requires c =
    let noted = c.in_ok-asked.asked.noted.items in
    let in_range = subst (λ o. IfSome o (λ m. m.which < length (map place_of noted))) c.in-Some.is c.in_ok-first_missing.ensures.in_range in
    omega (arith, in_range, length-map noted place_of, ap (λ (ns : List NotedUse). length ns) c.deref.ensures.value)

pub returns-in-None-clause-none : goal.returns-in-None-clause-none
returns-in-None-clause-none c =
    let f = c.args.func.now in
    let site = c.args.site.now in
    let uses = map place_of c.in_ok-asked.asked.noted.items in
    let places : uses ≡ places_of (func_uses f site) = ap (map place_of) (c.in_ok-asked.ensures.asked.noted ∙ func_tied f site) in
    let all = c.in_ok-first_missing.ensures.none.0 (ap is_some c.in-None.is) in
    all_defined f c.law_graph_paths.ensures.uses (func_uses f site) (func_own f site) c.requires.values
    (subst (All (flow.IsDefined (graph_of f))) places (subst (λ (g : Graph). All (flow.IsDefined g) uses) c.in_ok-asked.ensures.asked.graph all))

pub returns-clause-first : goal.returns-clause-first
returns-clause-first c =
    let f = c.args.func.now in
    let site = c.args.site.now in
    let which = c.in-Some.missing.which in
    let path = c.in-Some.missing.path in
    let items : c.in_ok-asked.asked.noted.items ≡ asked (func_uses f site) = c.in_ok-asked.ensures.asked.noted ∙ func_tied f site in
    let uses = map place_of c.in_ok-asked.asked.noted.items in
    let places : uses ≡ places_of (func_uses f site) = ap (map place_of) items in
    let graph = c.in_ok-asked.asked.graph in
    let same = c.in_ok-asked.ensures.asked.graph in
    let in_range = subst (λ o. IfSome o (λ m. m.which < length uses)) c.in-Some.is c.in_ok-first_missing.ensures.in_range in
    let least = subst (λ o. IfSome o (λ m. All (flow.IsDefined graph) (take m.which uses))) c.in-Some.is c.in_ok-first_missing.ensures.least in
    let misses = subst (λ o. IfSome o (λ m. IfSome (slice_get uses m.which) (λ u. flow.Misses graph u m.path))) c.in-Some.is c.in_ok-first_missing.ensures.path in
    let once = subst (λ o. IfSome o (λ m. AllPairs (λ a b. a ≢ b) m.path)) c.in-Some.is c.in_ok-first_missing.ensures.once in
    let within : which < length (asked (func_uses f site)) = omega (arith, in_range, ap length places, length-map (asked (func_uses f site)) place_of) in
    subst (λ (p : List ℕ). IsFirstOf (func_uses f site) c.undefined_at.result.site p) (sym c.undefined_at.ensures.path)
    (first_found f c.law_graph_paths.ensures.uses c.law_graph_paths.ensures.missed (func_uses f site) (func_own f site) c.requires.values which path c.undefined_at.result.site
    within
    (subst (λ (us : List Use). All (flow.IsDefined (graph_of f)) (take which us)) places (subst (λ (g : Graph). All (flow.IsDefined g) (take which uses)) same least))
    (subst (λ (us : List Use). IfSome (slice_get us which) (λ u. flow.Misses (graph_of f) u path)) places
    (subst (λ (g : Graph). IfSome (slice_get uses which) (λ u. flow.Misses g u path)) same misses))
    once
    (subst (λ (ns : List NotedUse). IfSome (slice_get ns which) (λ n. c.undefined_at.result.site ≡ n.site)) (c.deref.ensures.value ∙ items) c.undefined_at.ensures.site))
