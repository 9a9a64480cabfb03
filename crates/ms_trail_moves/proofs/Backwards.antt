-- The hops that a pass from the last move back has found so far.
use Rattle.std.proofs.Common.{◌≡◌, ℕ, zero, suc, ◌≤◌, List, [], ◌∷◌, ◌++◌, length, reverse, Bool, true, false, Option, Some, None, slice_get, refl, sym, ap, ◌∙◌, subst, arith, if◌then◌else◌}
use Rattle.std.specs.Prelude.{option_map}
use Rattle.ms_trail_moves.specs.declared.moves.Source.{Source}
use Rattle.ms_trail_moves.specs.declared.moves.Move.{Move}
use Rattle.ms_trail_moves.specs.declared.moves.Hop.{Hop}
use Rattle.ms_trail_moves.specs.Leads.{came_from}
use Rattle.ms_trail_moves.specs.Scanned.{Ascending, counted_byte, is_root, scan, trail_of}
use Rattle.ms_trail_moves.proofs.Scans.{scan_is, at_place, at_count}

-- the last of them comes first
pub record Sofar (moves : List Move) (at : Source) (hops : List Hop) (below : ℕ) (event : Option ℕ) (source : Source) : Type 0 where
  pub within : below ≤ length moves
  pub same : scan moves (length moves) None at ≡ option_map (λ rest. hops ++ rest) (scan moves below event source)

module _ (moves : List Move) (ascending : Ascending moves) (at : Source) where
  -- at a root
  scan_root : (below : ℕ) (event : Option ℕ) (source : Source) → is_root source ≡ true → scan moves below event source ≡ Some []
  scan_root zero event source e = ap (λ c. if c then Some [] else None) e
  scan_root (suc n) event source e = scan_is moves ascending n event source ∙ ap (λ c. if c then Some [] else at_place moves ascending n event source (slice_get moves n)) e

  pub begins : (reading : Source) → reading ≡ at → (hops : List Hop) → hops ≡ [] → Sofar moves at hops (length moves) None reading
  begins reading e hops none =
      subst (λ s. Sofar moves at hops (length moves) None s) (sym e)
      (subst (λ hs. Sofar moves at hs (length moves) None at) (sym none) (record { within = omega arith; same = by_scan (scan moves (length moves) None at) }))
    where
      by_scan : (o : Option (List Hop)) → o ≡ option_map (λ rest. [] ++ rest) o
      by_scan None = refl
      by_scan (Some hs) = refl

  pub found_root : (hops : List Hop) (below : ℕ) (event : Option ℕ) (source : Source) → Sofar moves at hops below event source → is_root source ≡ true → Some (reverse hops) ≡ trail_of moves at
  found_root hops below event source h e =
      sym (ap (option_map reverse) (h.same ∙ ap (option_map (λ rest. hops ++ rest)) (scan_root below event source e)) ∙ ap (λ l. Some (reverse l)) (append_nil hops))
    where
      append_nil : (xs : List Hop) → xs ++ [] ≡ xs
      append_nil [] = refl
      append_nil (x ∷ xs) = ap (λ ys. x ∷ ys) (append_nil xs)

  pub found_none : (hops : List Hop) (below : ℕ) (event : Option ℕ) (source : Source) → Sofar moves at hops below event source → below ≡ 0 → is_root source ≡ false → None ≡ trail_of moves at
  found_none hops below event source h z e =
      sym (ap (option_map reverse) (h.same ∙ ap (option_map (λ rest. hops ++ rest)) (ap (λ n. scan moves n event source) z ∙ ap (λ c. if c then Some [] else None) e)))

  module _ (hops : List Hop) (n : ℕ) (event : Option ℕ) (source : Source) (h : Sofar moves at hops (suc n) event source) (no_root : is_root source ≡ false) (m : Move) (stands : slice_get moves n ≡ Some m) where
    scan_there : scan moves (suc n) event source ≡ at_count moves ascending n event source m (counted_byte event source m)
    scan_there =
        scan_is moves ascending n event source ∙ ap (λ c. if c then Some [] else at_place moves ascending n event source (slice_get moves n)) no_root
        ∙ ap (at_place moves ascending n event source) stands

    pub goes_past : counted_byte event source m ≡ None → Sofar moves at hops n event source
    goes_past e = record { within = omega (arith, h.within); same = h.same ∙ ap (option_map (λ rest. hops ++ rest)) (scan_there ∙ ap (at_count moves ascending n event source m) e) }

    pub takes : (k : ℕ) → counted_byte event source m ≡ Some k → (more : List Hop) → more ≡ hops ++ (record { index = n; byte = k }) ∷ [] → Sofar moves at more n (Some m.event) (came_from m.from m.to k)
    takes k e more is_more = record {
      within = omega (arith, h.within);
      same =
          h.same ∙ ap (option_map (λ rest. hops ++ rest)) (scan_there ∙ ap (at_count moves ascending n event source m) e)
          ∙ by_scan (scan moves n (Some m.event) (came_from m.from m.to k)) ∙ ap (λ l. option_map (λ rest. l ++ rest) (scan moves n (Some m.event) (came_from m.from m.to k))) (sym is_more);
    }
      where
        joins : (xs rest : List Hop) (x : Hop) → xs ++ x ∷ rest ≡ (xs ++ x ∷ []) ++ rest
        joins [] rest x = refl
        joins (y ∷ xs) rest x = ap (λ l. y ∷ l) (joins xs rest x)

        by_scan : (o : Option (List Hop)) → option_map (λ rest. hops ++ rest) (option_map (λ hs. record { index = n; byte = k } ∷ hs) o) ≡ option_map (λ rest. (hops ++ (record { index = n; byte = k }) ∷ []) ++ rest) o
        by_scan None = refl
        by_scan (Some hs) = ap Some (joins hops hs (record { index = n; byte = k }))
