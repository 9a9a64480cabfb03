-- The hops of a way over moves in any order, each searched for among all moves.
use Rattle.std.proofs.Common.{◌≡◌, ℕ, zero, suc, ◌<◌, ◌≤◌, List, [], ◌∷◌, ◌++◌, length, reverse, Bool, true, false, eqb, Option, Some, None, slice_get, refl, sym, ap, ap₂, ◌∙◌, subst, arith}
use Rattle.std.proofs.lemmas.Bool.{eqb-true, eqb-false}
use Rattle.std.proofs.lemmas.Option.{same_Some, none-some, slice_get_within}
use Rattle.std.proofs.lemmas.List.{reverse-reverse}
use Rattle.ms_trail_moves.specs.declared.moves.Source.{Source}
use Rattle.ms_trail_moves.specs.declared.moves.Move.{Move}
use Rattle.ms_trail_moves.specs.declared.moves.Hop.{Hop}
use Rattle.ms_trail_moves.specs.Leads.{reached, came_from, IsLast, LeadsBack, Leads}
use Rattle.ms_trail_moves.specs.Scanned.{Ascending, counted_byte, is_root, trail_of}
use Rattle.ms_trail_moves.specs.Searched.{IsLastWrite, IsWay, Rising}
use Rattle.ms_trail_moves.proofs.Chains.{one_byte, root_reached}
use Rattle.ms_trail_moves.proofs.Scans.{AnyRoot, Below, root_is, is_root_if, below_next, last_at, all_below, trail_leads, leads_trail}

false_true : false ≡ true → ⊥
false_true e = grind arith

-- ---- the order of moves

pub rising_none : (moves : List Move) (event : ℕ) → Rising moves 0 event
rising_none moves event = record { ordered = λ i j m o l b e f. absurd (omega (arith, b)); highest = λ i m b e. absurd (omega (arith, b)) }

pub rising_on : (moves : List Move) (n event : ℕ) (made : Move) → Rising moves n event → slice_get moves n ≡ Some made → event ≤ made.event → Rising moves (suc n) made.event
rising_on moves n event made r stands above = record { ordered = later; highest = at_most }
  where
    is_made : (i : ℕ) (m : Move) → eqb i n ≡ true → slice_get moves i ≡ Some m → m.event ≡ made.event
    is_made i m t e = ap (λ o. o.event) (same_Some m made (sym e ∙ ap (slice_get moves) (eqb-true i n t) ∙ stands))

    at_most : (i : ℕ) (m : Move) → i < suc n → slice_get moves i ≡ Some m → m.event ≤ made.event
    at_most i m b e = by_test (eqb i n) refl
      where
        by_test : (c : Bool) → eqb i n ≡ c → m.event ≤ made.event
        by_test true t = omega (arith, is_made i m t e)
        by_test false t = omega (arith, r.highest i m (omega (arith, b, eqb-false i n t)) e, above)

    later : (i j : ℕ) (m o : Move) → i ≤ j → j < suc n → slice_get moves i ≡ Some m → slice_get moves j ≡ Some o → m.event ≤ o.event
    later i j m o l b e f = by_test (eqb j n) refl
      where
        by_test : (c : Bool) → eqb j n ≡ c → m.event ≤ o.event
        by_test true t = omega (arith, at_most i m (omega (arith, l, b)) e, is_made j o t f)
        by_test false t = r.ordered i j m o l (omega (arith, b, eqb-false j n t)) e f

pub rising_all : (moves : List Move) (event : ℕ) → Rising moves (length moves) event → Ascending moves
rising_all moves event r = λ i j m o l e f. r.ordered i j m o l (slice_get_within moves j o f) e f

-- ---- the last move that writes

-- none of the moves from a number on does
pub record Left (moves : List Move) (below : ℕ) (event : Option ℕ) (s : Source) : Type 0 where
  pub within : below ≤ length moves
  pub none : Below moves below event s

pub all_left : (moves : List Move) (event : Option ℕ) (s : Source) → Left moves (length moves) event s
all_left moves event s = record { within = omega arith; none = all_below moves event s }

pub none_left : (moves : List Move) (below : ℕ) (event : Option ℕ) (s : Source) → Left moves below event s → below ≡ 0 → IsLastWrite moves event s None
none_left moves below event s left e = λ j k o f before r. absurd (omega (arith, left.none j k o f before r, e))

module _ (moves : List Move) (n : ℕ) (event : Option ℕ) (s : Source) (left : Left moves (suc n) event s) (m : Move) (stands : slice_get moves n ≡ Some m) where
  pub passes : counted_byte event s m ≡ None → Left moves n event s
  passes e = record {
    within = omega (arith, left.within);
    none = below_next moves n event s left.none (λ o i. ap (counted_byte event s) (same_Some o m (sym i ∙ stands)) ∙ e);
  }

  pub is_last : (k : ℕ) → counted_byte event s m ≡ Some k → IsLastWrite moves event s (Some (record { index = n; byte = k }))
  is_last k e = (m, last_at moves n k m event s stands left.none e)

-- ---- the way

-- two last hops are one
abbrev hop_of : ℕ → ℕ → Hop
hop_of index byte = record { index = index; byte = byte }

same_last : (moves : List Move) (b : Option ℕ) (s : Source) (x y : Hop) (m n : Move) → IsLast moves b s x m → IsLast moves b s y n → (x ≡ y) × (m ≡ n)
same_last moves b s x y m n h g =
    let l = g.last x.index x.byte m h.stands h.counts h.reaches in
    let r = h.last y.index y.byte n g.stands g.counts g.reaches in
    let i : x.index ≡ y.index = omega (arith, l, r) in
    let e : m ≡ n = same_Some m n (sym h.stands ∙ ap (slice_get moves) i ∙ g.stands) in
    let k : x.byte ≡ y.byte = one_byte m.to x.byte y.byte s h.reaches (subst (λ (z : Move). reached z.to y.byte ≡ Some s) (sym e) g.reaches) in
    (ap₂ hop_of i k, e)

append_nil : (xs : List Hop) → xs ++ [] ≡ xs
append_nil [] = refl
append_nil (x ∷ xs) = ap (λ ys. x ∷ ys) (append_nil xs)

joined : (xs rest : List Hop) (x : Hop) → xs ++ x ∷ rest ≡ (xs ++ x ∷ []) ++ rest
joined [] rest x = refl
joined (y ∷ xs) rest x = ap (λ l. y ∷ l) (joined xs rest x)

-- the ways to a use are these hops, the last first, with the ways on from a source
pub record Gone (moves : List Move) (at : Source) (hops : List Hop) (event : Option ℕ) (s : Source) : Type 0 where
  pub on : (rest : List Hop) → LeadsBack AnyRoot moves event s rest → LeadsBack AnyRoot moves None at (hops ++ rest)
  pub back : (all : List Hop) → LeadsBack AnyRoot moves None at all → (rest : List Hop) × ((all ≡ hops ++ rest) × LeadsBack AnyRoot moves event s rest)

module _ (moves : List Move) (at : Source) where
  pub gone_none : (s : Source) → s ≡ at → (hops : List Hop) → hops ≡ [] → Gone moves at hops None s
  gone_none s e hops none =
      subst (λ r. Gone moves at hops None r) (sym e)
      (subst (λ hs. Gone moves at hs None at) (sym none) (record { on = λ rest h. h; back = λ all h. (all, (refl, h)) }))

  module _ (hops : List Hop) (event : Option ℕ) (s : Source) (g : Gone moves at hops event s) where
    -- at a root
    pub at_root : is_root s ≡ true → IsWay moves at (Some (reverse hops))
    at_root e = record {
      leads = λ hs f.
          subst (Leads moves at) (same_Some (reverse hops) hs f)
          (subst (LeadsBack AnyRoot moves None at) (append_nil hops ∙ sym (reverse-reverse hops)) (g.on [] (root_is s e)));
      only = λ hs h. ap Some (sym (sym (reverse-reverse hs) ∙ ap reverse (whole (reverse hs) (g.back (reverse hs) h))));
    }
      where
        whole : (all : List Hop) → (rest : List Hop) × ((all ≡ hops ++ rest) × LeadsBack AnyRoot moves event s rest) → all ≡ hops
        whole all ([], (f, h)) = f ∙ append_nil hops
        whole all (x ∷ rest, (f, h)) = absurd (root_reached AnyRoot s h.0.to x.byte (root_is s e) h.1.reaches)

    -- where no move writes what is read
    pub stuck : is_root s ≡ false → IsLastWrite moves event s None → IsWay moves at None
    stuck e none = record { leads = λ hs f. absurd (none-some hs f); only = λ hs h. absurd (no_way (g.back (reverse hs) h).0 (g.back (reverse hs) h).1.1) }
      where
        no_way : (rest : List Hop) → LeadsBack AnyRoot moves event s rest → ⊥
        no_way [] h = false_true (sym e ∙ is_root_if s h)
        no_way (x ∷ rest) h = none x.index x.byte h.0 h.1.stands h.1.counts h.1.reaches

    -- at another hop
    pub gone_on : is_root s ≡ false → (hop : Hop) (m : Move) → IsLast moves event s hop m → (more : List Hop) → more ≡ hops ++ hop ∷ [] → Gone moves at more (Some m.event) (came_from m.from m.to hop.byte)
    gone_on e hop m last more is_more =
        subst (λ hs. Gone moves at hs (Some m.event) (came_from m.from m.to hop.byte)) (sym is_more)
        (record {
          on = λ rest h. subst (LeadsBack AnyRoot moves None at) (joined hops rest hop) (g.on (hop ∷ rest) (m, last, h));
          back = λ all h. by_rest all (g.back all h);
        })
      where
        by_rest : (all : List Hop) → (rest : List Hop) × ((all ≡ hops ++ rest) × LeadsBack AnyRoot moves event s rest)
            → (rest : List Hop) × ((all ≡ (hops ++ hop ∷ []) ++ rest) × LeadsBack AnyRoot moves (Some m.event) (came_from m.from m.to hop.byte) rest)
        by_rest all ([], (f, h)) = absurd (false_true (sym e ∙ is_root_if s h))
        by_rest all (x ∷ rest, (f, h)) =
            let same = same_last moves event s x hop h.0 m h.1 last in (
              rest,
              (
                f ∙ ap (λ y. hops ++ y ∷ rest) same.0 ∙ joined hops rest hop,
                subst (λ (y : Hop). LeadsBack AnyRoot moves (Some m.event) (came_from m.from m.to y.byte) rest) same.0
                    (subst (λ (z : Move). LeadsBack AnyRoot moves (Some z.event) (came_from z.from z.to x.byte) rest) same.1 h.2),
              ),
            )

  -- moves in the order of their steps
  pub by_pass : Ascending moves → (found : Option (List Hop)) → found ≡ trail_of moves at → IsWay moves at found
  by_pass ascending found e = record { leads = λ hs f. trail_leads moves ascending at hs (sym e ∙ f); only = λ hs h. e ∙ leads_trail moves ascending at hs h }
