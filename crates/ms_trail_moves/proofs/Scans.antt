-- One pass back over the moves finds the way, where there is one.
use Rattle.std.proofs.Common.{◌≡◌, ℕ, zero, suc, ◌+◌, ◌-◌, ◌<◌, ◌≤◌, List, [], ◌∷◌, length, Bool, true, false, ◌&&◌, eqb, leb, ltb, Option, Some, None, slice_get, reverse, refl, sym, ap, ap₂, ◌∙◌, subst, arith, if◌then◌else◌}
use Rattle.std.specs.Prelude.{option_map}
use Rattle.std.proofs.lemmas.Bool.{and_parts, eqb-true, eqb-false, leb-true, leb-false, ltb-true, eq-eqb, le-leb, lt-ltb}
use Rattle.std.proofs.lemmas.Option.{same_Some, none-some, slice_get_within}
use Rattle.std.proofs.lemmas.List.{reverse-reverse}
use Rattle.ms_ir.specs.Names.{name_eq}
use Rattle.ms_ir.proofs.RootKinds.{name_same as name_sound}
use Rattle.ms_trail_moves.proofs.Names.{name_same}
use Rattle.ms_trail_moves.specs.declared.moves.Source.{Source}
use Rattle.ms_trail_moves.specs.declared.moves.Source.TheVariants.{Root, Value, Byte}
use Rattle.ms_trail_moves.specs.declared.moves.Target.{Target}
use Rattle.ms_trail_moves.specs.declared.moves.Target.TheVariants as target
use Rattle.ms_trail_moves.specs.declared.moves.Move.{Move}
use Rattle.ms_trail_moves.specs.declared.moves.Hop.{Hop}
use Rattle.ms_trail_moves.specs.Leads.{reached, came_from, IsBefore, IsLast, IsRoot, LeadsBack, Leads}
use Rattle.ms_trail_moves.specs.Scanned.{Ascending, byte_in, is_before, counted_byte, is_root, scan, trail_of}
use Rattle.ms_trail_moves.proofs.Chains.{some_if, root_reached}

abbrev pub AnyRoot : ℕ → Type 0
AnyRoot n = Unit {0}

false_true : false ≡ true → ⊥
false_true e = grind arith

-- ---- which byte

byte_sound : (t : Target) (s : Source) (k : ℕ) → byte_in t s ≡ Some k → reached t k ≡ Some s
byte_sound (target.Value f x) (Value g y) k e = by_test (eqb f g && name_eq x y) refl e
  where
    by_test : (c : Bool) → (eqb f g && name_eq x y) ≡ c → (if c then Some 0 else None) ≡ Some k → reached (target.Value f x) k ≡ Some (Value g y)
    by_test true h q =
        let parts = and_parts (eqb f g) (name_eq x y) h in
        subst (λ j. reached (target.Value f x) j ≡ Some (Value g y)) (same_Some 0 k q) (ap₂ (λ c z. Some (Value c z)) (eqb-true f g parts.0) (name_sound x y parts.1))
    by_test false h q = absurd (none-some k q)
byte_sound (target.Bytes a n) (Byte b) k e = by_test (leb a b && ltb (b - a) n) refl e
  where
    by_test : (c : Bool) → (leb a b && ltb (b - a) n) ≡ c → (if c then Some (b - a) else None) ≡ Some k → reached (target.Bytes a n) k ≡ Some (Byte b)
    by_test true h q =
        let parts = and_parts (leb a b) (ltb (b - a) n) h in
        let at : a + (b - a) ≡ b = omega (arith, leb-true a b parts.0) in
        subst (λ j. reached (target.Bytes a n) j ≡ Some (Byte b)) (same_Some (b - a) k q) (ap₂ (λ c z. if c then Some (Byte z) else None) parts.1 at)
    by_test false h q = absurd (none-some k q)
byte_sound (target.Value f x) (Root n) k e = absurd (none-some k e)
byte_sound (target.Value f x) (Byte b) k e = absurd (none-some k e)
byte_sound (target.Bytes a n) (Root r) k e = absurd (none-some k e)
byte_sound (target.Bytes a n) (Value g y) k e = absurd (none-some k e)

byte_found : (t : Target) (s : Source) (k : ℕ) → reached t k ≡ Some s → byte_in t s ≡ Some k
byte_found (target.Value f x) s k e =
    let h = some_if (eqb k 0) (Value f x) s e in
    let zero_is : 0 ≡ k = sym (eqb-true k 0 h.0) in
    ap (byte_in (target.Value f x)) (sym h.1) ∙ ap₂ (λ c d. if c && d then Some 0 else None) (eq-eqb f f refl) (name_same x) ∙ ap Some zero_is
byte_found (target.Bytes a n) s k e =
    let h = some_if (ltb k n) (Byte (a + k)) s e in
    let gap : a + k - a ≡ k = omega arith in
    let above : a ≤ a + k = omega arith in
    ap (byte_in (target.Bytes a n)) (sym h.1) ∙ ap₂ (λ c d. if c && ltb d n then Some d else None) (le-leb a (a + k) above) gap ∙ ap (λ c. if c then Some k else None) h.0

-- ---- which moves count

pub before_sound : (b : Option ℕ) (m : Move) → is_before b m ≡ true → IsBefore b m
before_sound None m e = tt
before_sound (Some event) m e = ltb-true m.event event e

pub before_found : (b : Option ℕ) (m : Move) → IsBefore b m → is_before b m ≡ true
before_found None m h = refl
before_found (Some event) m h = lt-ltb m.event event h

pub counted_sound : (b : Option ℕ) (s : Source) (m : Move) (k : ℕ) → counted_byte b s m ≡ Some k → IsBefore b m × (reached m.to k ≡ Some s)
counted_sound b s m k e = by_test (is_before b m) refl e
  where
    by_test : (c : Bool) → is_before b m ≡ c → (if c then byte_in m.to s else None) ≡ Some k → IsBefore b m × (reached m.to k ≡ Some s)
    by_test true f g = (before_sound b m f, byte_sound m.to s k g)
    by_test false f g = absurd (none-some k g)

counted_found : (b : Option ℕ) (s : Source) (m : Move) (k : ℕ) → IsBefore b m → reached m.to k ≡ Some s → counted_byte b s m ≡ Some k
counted_found b s m k h r = ap (λ c. if c then byte_in m.to s else None) (before_found b m h) ∙ byte_found m.to s k r

-- ---- the scan

pub root_is : (s : Source) → is_root s ≡ true → IsRoot AnyRoot s
root_is (Root n) e = tt
root_is (Value f x) e = absurd (false_true e)
root_is (Byte a) e = absurd (false_true e)

pub is_root_if : (s : Source) → IsRoot AnyRoot s → is_root s ≡ true
is_root_if (Root n) h = refl
is_root_if (Value f x) h = absurd h
is_root_if (Byte a) h = absurd h

-- no move from place n on counts and reaches the source
abbrev pub Below : List Move → ℕ → Option ℕ → Source → Type 0
Below moves n b s = (j k : ℕ) (o : Move) → slice_get moves j ≡ Some o → IsBefore b o → reached o.to k ≡ Some s → j < n

module _ (moves : List Move) where
  -- one that doesn't count or reach the source is passed over
  pub below_next : (n : ℕ) (b : Option ℕ) (s : Source) → Below moves (suc n) b s → ((m : Move) → slice_get moves n ≡ Some m → counted_byte b s m ≡ None) → Below moves n b s
  below_next n b s below none j k o f before r = by_test (eqb j n) refl
    where
      by_test : (c : Bool) → eqb j n ≡ c → j < n
      by_test true g = absurd (none-some k (sym (none o (subst (λ i. slice_get moves i ≡ Some o) (eqb-true j n g) f)) ∙ counted_found b s o k before r))
      by_test false g = omega (arith, below j k o f before r, eqb-false j n g)

  pub last_at : (n k : ℕ) (m : Move) (b : Option ℕ) (s : Source) → slice_get moves n ≡ Some m → Below moves (suc n) b s → counted_byte b s m ≡ Some k → IsLast moves b s (record { index = n; byte = k }) m
  last_at n k m b s f below g =
      let h = counted_sound b s m k g in
      record { stands = f; counts = h.0; reaches = h.1; last = λ j i o e before r. omega (arith, below j i o e before r) }

  pub all_below : (b : Option ℕ) (s : Source) → Below moves (length moves) b s
  all_below b s j k o e before r = slice_get_within moves j o e

module _ (moves : List Move) (ascending : Ascending moves) where
  -- after a hop: moves of earlier steps stand before it
  pub below_hop : (n : ℕ) (m : Move) (s : Source) → slice_get moves n ≡ Some m → Below moves n (Some m.event) s
  below_hop n m s e j k o f before r = by_order (leb n j) refl
    where
      by_order : (c : Bool) → leb n j ≡ c → j < n
      by_order true g = absurd (omega (arith, ascending n j m o (leb-true n j g) e f, before))
      by_order false g = omega (arith, leb-false n j g)

  some_list : {A : Type 0} (x y : A) → Some x ≡ Some y → x ≡ y
  some_list x y e = same_Some x y e

  root_back : (b : Option ℕ) (s : Source) (hops : List Hop) → is_root s ≡ true → Some [] ≡ Some hops → LeadsBack AnyRoot moves b s hops
  root_back b s hops e f = subst (LeadsBack AnyRoot moves b s) (same_Some [] hops f) (root_is s e)

  -- what is done at a move
  abbrev pub at_count : ℕ → Option ℕ → Source → Move → Option ℕ → Option (List Hop)
  at_count n b s m (Some k) = option_map (λ hops. record { index = n; byte = k } ∷ hops) (scan moves n (Some m.event) (came_from m.from m.to k))
  at_count n b s m None = scan moves n b s

  -- and at what stands in a place
  abbrev pub at_place : ℕ → Option ℕ → Source → Option Move → Option (List Hop)
  at_place n b s (Some m) = at_count n b s m (counted_byte b s m)
  at_place n b s None = scan moves n b s

  pub scan_is : (n : ℕ) (b : Option ℕ) (s : Source) → scan moves (suc n) b s ≡ (if is_root s then Some [] else at_place n b s (slice_get moves n))
  scan_is n b s = ap (λ x. if is_root s then Some [] else x) (by_place (slice_get moves n))
    where
      by_count : (m : Move) (o : Option ℕ)
          → (elim o as (λ z. Option (List Hop)) [
            | Some k ↦ option_map (λ hops. record { index = n; byte = k } ∷ hops) (scan moves n (Some m.event) (came_from m.from m.to k))
            | None ↦ scan moves n b s
          ]) ≡ at_count n b s m o
      by_count m (Some k) = refl
      by_count m None = refl

      by_place : (o : Option Move)
          → (elim o as (λ z. Option (List Hop)) [
            | Some move ↦
                elim (counted_byte b s move) [
                  | Some k ↦ option_map (λ hops. record { index = n; byte = k } ∷ hops) (scan moves n (Some move.event) (came_from move.from move.to k))
                  | None ↦ scan moves n b s
                ]
            | None ↦ scan moves n b s
          ]) ≡ at_place n b s o
      by_place (Some m) = by_count m (counted_byte b s m)
      by_place None = refl

  scan_sound : (n : ℕ) (b : Option ℕ) (s : Source) (hops : List Hop) → Below moves n b s → scan moves n b s ≡ Some hops → LeadsBack AnyRoot moves b s hops
  scan_sound zero b s hops below e = by_root (is_root s) refl e
    where
      by_root : (c : Bool) → is_root s ≡ c → (if c then Some [] else None) ≡ Some hops → LeadsBack AnyRoot moves b s hops
      by_root true f g = root_back b s hops f g
      by_root false f g = absurd (none-some hops g)
  scan_sound (suc n) b s hops below e = by_root (is_root s) refl (sym (scan_is n b s) ∙ e) (λ c r hs d q. scan_sound n c r hs d q)
    where
      by_rest : (m : Move) (k : ℕ) → slice_get moves n ≡ Some m → counted_byte b s m ≡ Some k → (o : Option (List Hop)) → scan moves n (Some m.event) (came_from m.from m.to k) ≡ o
          → option_map (λ hs. record { index = n; byte = k } ∷ hs) o ≡ Some hops
          → ((c : Option ℕ) (r : Source) (hs : List Hop) → Below moves n c r → scan moves n c r ≡ Some hs → LeadsBack AnyRoot moves c r hs) → LeadsBack AnyRoot moves b s hops
      by_rest m k f g None q h go = absurd (none-some hops h)
      by_rest m k f g (Some hs) q h go =
          subst (LeadsBack AnyRoot moves b s) (same_Some (record { index = n; byte = k } ∷ hs) hops h)
          (m, last_at moves n k m b s f below g, go (Some m.event) (came_from m.from m.to k) hs (below_hop n m (came_from m.from m.to k) f) q)

      by_count : (m : Move) → slice_get moves n ≡ Some m → (o : Option ℕ) → counted_byte b s m ≡ o → at_count n b s m o ≡ Some hops
          → ((c : Option ℕ) (r : Source) (hs : List Hop) → Below moves n c r → scan moves n c r ≡ Some hs → LeadsBack AnyRoot moves c r hs) → LeadsBack AnyRoot moves b s hops
      by_count m f None g h go = go b s hops (below_next moves n b s below (λ o i. ap (counted_byte b s) (same_Some o m (sym i ∙ f)) ∙ g)) h
      by_count m f (Some k) g h go = by_rest m k f g (scan moves n (Some m.event) (came_from m.from m.to k)) refl h go

      by_place : (o : Option Move) → slice_get moves n ≡ o → at_place n b s o ≡ Some hops
          → ((c : Option ℕ) (r : Source) (hs : List Hop) → Below moves n c r → scan moves n c r ≡ Some hs → LeadsBack AnyRoot moves c r hs) → LeadsBack AnyRoot moves b s hops
      by_place None f h go = go b s hops (below_next moves n b s below (λ o i. absurd (none-some o (sym f ∙ i)))) h
      by_place (Some m) f h go = by_count m f (counted_byte b s m) refl h go

      by_root : (c : Bool) → is_root s ≡ c → (if c then Some [] else at_place n b s (slice_get moves n)) ≡ Some hops
          → ((c : Option ℕ) (r : Source) (hs : List Hop) → Below moves n c r → scan moves n c r ≡ Some hs → LeadsBack AnyRoot moves c r hs) → LeadsBack AnyRoot moves b s hops
      by_root true f g go = root_back b s hops f g
      by_root false f g go = by_place (slice_get moves n) refl g go

  scan_complete : (n : ℕ) (b : Option ℕ) (s : Source) (hops : List Hop) → Below moves n b s → LeadsBack AnyRoot moves b s hops → scan moves n b s ≡ Some hops
  scan_complete zero b s [] below h = ap (λ c. if c then Some [] else None) (is_root_if s h)
  scan_complete zero b s (hop ∷ rest) below h = absurd (omega (arith, below hop.index hop.byte h.0 h.1.stands h.1.counts h.1.reaches))
  scan_complete (suc n) b s [] below h = scan_is n b s ∙ ap (λ c. if c then Some [] else at_place n b s (slice_get moves n)) (is_root_if s h)
  scan_complete (suc n) b s (hop ∷ rest) below h =
      scan_is n b s ∙ by_root (is_root s) refl
      (by_place (eqb hop.index n) refl (λ c r hs d q. scan_complete n c r hs d q))
    where
      by_root : (c : Bool) → is_root s ≡ c → at_place n b s (slice_get moves n) ≡ Some (hop ∷ rest) → (if c then Some [] else at_place n b s (slice_get moves n)) ≡ Some (hop ∷ rest)
      by_root true f g = absurd (root_reached AnyRoot s h.0.to hop.byte (root_is s f) h.1.reaches)
      by_root false f g = g

      uncounted : eqb hop.index n ≡ false → (m : Move) → slice_get moves n ≡ Some m → counted_byte b s m ≡ None
      uncounted e m f = by_count (counted_byte b s m) refl
        where
          by_count : (o : Option ℕ) → counted_byte b s m ≡ o → counted_byte b s m ≡ None
          by_count None g = g
          by_count (Some k) g =
              let at = counted_sound b s m k g in
              absurd (omega (arith, h.1.last n k m f at.0 at.1, below hop.index hop.byte h.0 h.1.stands h.1.counts h.1.reaches, eqb-false hop.index n e))

      passed : eqb hop.index n ≡ false → (o : Option Move) → slice_get moves n ≡ o → scan moves n b s ≡ Some (hop ∷ rest) → at_place n b s o ≡ Some (hop ∷ rest)
      passed e None f g = g
      passed e (Some m) f g = ap (at_count n b s m) (uncounted e m f) ∙ g

      by_place : (c : Bool) → eqb hop.index n ≡ c
          → ((c : Option ℕ) (r : Source) (hs : List Hop) → Below moves n c r → LeadsBack AnyRoot moves c r hs → scan moves n c r ≡ Some hs) → at_place n b s (slice_get moves n) ≡ Some (hop ∷ rest)
      by_place true e go =
          let here = eqb-true hop.index n e in
          let stands = subst (λ j. slice_get moves j ≡ Some h.0) here h.1.stands in
          ap (at_place n b s) stands ∙ ap (at_count n b s h.0) (counted_found b s h.0 hop.byte h.1.counts h.1.reaches)
          ∙ ap (option_map (λ hs. record { index = n; byte = hop.byte } ∷ hs)) (go (Some h.0.event) (came_from h.0.from h.0.to hop.byte) rest (below_hop n h.0 (came_from h.0.from h.0.to hop.byte) stands) h.2)
          ∙ ap (λ j. Some (record { index = j; byte = hop.byte } ∷ rest)) (sym here)
      by_place false e go = passed e (slice_get moves n) refl (go b s (hop ∷ rest) (below_next moves n b s below (uncounted e)) h)

  pub scan_leads : (at : Source) (hops : List Hop) → scan moves (length moves) None at ≡ Some (reverse hops) → Leads moves at hops
  scan_leads at hops e = scan_sound (length moves) None at (reverse hops) (all_below moves None at) e

  pub leads_scan : (at : Source) (hops : List Hop) → Leads moves at hops → scan moves (length moves) None at ≡ Some (reverse hops)
  leads_scan at hops h = scan_complete (length moves) None at (reverse hops) (all_below moves None at) h

  pub trail_leads : (at : Source) (hops : List Hop) → trail_of moves at ≡ Some hops → Leads moves at hops
  trail_leads at hops e = by_scan (scan moves (length moves) None at) refl e
    where
      by_scan : (o : Option (List Hop)) → scan moves (length moves) None at ≡ o → option_map reverse o ≡ Some hops → Leads moves at hops
      by_scan None f g = absurd (none-some hops g)
      by_scan (Some hs) f g =
          subst (Leads moves at) (same_Some (reverse hs) hops g)
          (subst (LeadsBack AnyRoot moves None at) (sym (reverse-reverse hs)) (scan_sound (length moves) None at hs (all_below moves None at) f))

  pub leads_trail : (at : Source) (hops : List Hop) → Leads moves at hops → trail_of moves at ≡ Some hops
  leads_trail at hops h = ap (option_map reverse) (scan_complete (length moves) None at (reverse hops) (all_below moves None at) h) ∙ ap Some (reverse-reverse hops)
