use Rattle.std.proofs.Common.{◌≡◌, ◌<◌, ◌≤◌, ◌∷◌, [], ◌++◌, ℕ, List, eqb, length, get_or, set, ◌^◌, if◌then◌else◌, ap, ◌∙◌, arith}
use Rattle.std.specs.List.{list_any, position_or_len}
use Rattle.ms_runs.specs.declared.runs.BlindPlace.{BlindPlace}
use Rattle.ms_runtime.proofs.CountedPlaces.{one_more, place_in, counted_there, counted_last, sites_counted, count_at}
use Rattle.ms_runtime.proofs.places.BlindPlaces.add.Goals as goal

pub overflow_add-index_mut : goal.overflow_add-index_mut
overflow_add-index_mut c =
    let held = c.requires in
    let inside : c.in_ok-place.place < length held.0 = omega (arith, c.if-place-len.true, c.len.ensures, ap length held.1.0.counted) in
    let few = count_at (2 ^ 63) held.0 c.in_ok-place.place c.index_mut.result.now held.1.1 inside (c.index_mut.ensures.value ∙ ap (λ (l : List BlindPlace). get_or l c.in_ok-place.place c.index_mut.result.now) held.1.0.counted) in
    omega (arith, few)

pub returns-then-place-len : goal.returns-then-place-len
returns-then-place-len c = λ places held.
    let at : c.in_ok-place.place ≡ place_in c.args.site places = c.in_ok-place.ensures.index ∙ ap (position_or_len (eqb c.args.site)) held.sites in
    let inside : c.in_ok-place.place < length places = omega (arith, c.if-place-len.true, c.len.ensures, ap length held.counted) in
    let v : BlindPlace = c.index_mut.result.now in
    let is : v ≡ get_or places c.in_ok-place.place v = c.index_mut.ensures.value ∙ ap (λ (l : List BlindPlace). get_or l c.in_ok-place.place v) held.counted in
    record {
      counted = ap (λ (l : List BlindPlace). set l c.in_ok-place.place (one_more v)) held.counted ∙ counted_there c.args.site places c.in_ok-place.place v at inside is;
      sites = c.in_ok-place.ensures.keys ∙ ap (λ (ks : List ℕ). if list_any (eqb c.args.site) ks then ks else ks ++ c.args.site ∷ []) held.sites ∙ sites_counted c.args.site places;
    }

pub returns-in_ok-push : goal.returns-in_ok-push
returns-in_ok-push c = λ places held.
    let at : c.in_ok-place.place ≡ place_in c.args.site places = c.in_ok-place.ensures.index ∙ ap (position_or_len (eqb c.args.site)) held.sites in
    let past : length places ≤ place_in c.args.site places = omega (arith, c.if-place-len.false, c.len.ensures, ap length held.counted, at) in
    record {
      counted = c.in_ok-push.ensures.items ∙ ap (λ (l : List BlindPlace). l ++ (let p : BlindPlace = record { site = c.args.site; count = 1 } in p) ∷ []) held.counted ∙ counted_last c.args.site places past;
      sites = c.in_ok-place.ensures.keys ∙ ap (λ (ks : List ℕ). if list_any (eqb c.args.site) ks then ks else ks ++ c.args.site ∷ []) held.sites ∙ sites_counted c.args.site places;
    }
