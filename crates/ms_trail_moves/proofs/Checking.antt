-- How far a check of hops came: they lead to the use exactly where the ones that are left lead to what is read there.
use Rattle.std.proofs.Common.{◌≡◌, ℕ, zero, suc, ◌+◌, ◌-◌, ◌<◌, ◌≤◌, List, [], ◌∷◌, ◌++◌, take, length, reverse, Bool, true, false, ◌&&◌, eqb, leb, ltb, Option, Some, None, slice_get, refl, sym, ap, ap₂, ◌∙◌, subst, arith, if◌then◌else◌}
use Rattle.std.specs.Prelude.{MatchBool}
use Rattle.std.proofs.lemmas.Bool.{and_from, and_parts, eqb-true, leb-true, leb-false, ltb-true, eq-eqb, le-leb, lt-ltb}
use Rattle.std.proofs.lemmas.Option.{same_Some, none-some, slice_get_within}
use Rattle.std.proofs.lemmas.List.{reverse-append, take_all}
use Rattle.ms_ir.specs.declared.syntax.Name.{Name}
use Rattle.ms_ir.specs.Names.{name_eq}
use Rattle.ms_ir.proofs.RootKinds.{name_same as name_sound}
use Rattle.ms_trail_moves.specs.declared.moves.Source.{Source}
use Rattle.ms_trail_moves.specs.declared.moves.Source.TheVariants.{Root, Value, Byte}
use Rattle.ms_trail_moves.specs.declared.moves.Target.{Target}
use Rattle.ms_trail_moves.specs.declared.moves.Target.TheVariants as target
use Rattle.ms_trail_moves.specs.declared.moves.Move.{Move}
use Rattle.ms_trail_moves.specs.declared.moves.Hop.{Hop}
use Rattle.ms_trail_moves.specs.Leads.{reached, came_from, IsBefore, IsLast, LeadsBack, Leads}
use Rattle.ms_trail_moves.specs.Scanned.{is_before}
use Rattle.ms_trail_moves.specs.Checked.{after, distance_in, is_reached, is_written, counts_there, IsNext, is_root_at}
use Rattle.ms_trail_moves.proofs.Names.{name_same}
use Rattle.ms_trail_moves.proofs.Chains.{some_if}
use Rattle.ms_trail_moves.proofs.Scans.{AnyRoot, before_sound, before_found}

pub false_true : false ≡ true → ⊥
false_true e = grind arith

-- ---- bytes

after_is : (from : Source) (to : Target) (k : ℕ) → after from (distance_in to k) ≡ came_from from to k
after_is (Byte b) (target.Bytes a n) k = refl
after_is (Byte b) (target.Value f x) k = let same : b + 0 ≡ b = omega arith in ap Byte same
after_is (Root n) (target.Bytes a m) k = refl
after_is (Root n) (target.Value f x) k = refl
after_is (Value g y) (target.Bytes a n) k = refl
after_is (Value g y) (target.Value f x) k = refl

after_none : (s : Source) → after s 0 ≡ s
after_none (Byte b) = let same : b + 0 ≡ b = omega arith in ap Byte same
after_none (Root n) = refl
after_none (Value g y) = refl

same_value : (f g : ℕ) (x y : Name) → Value f x ≡ Value g y → (f ≡ g) × (x ≡ y)
same_value f g x y e = (cc, cc)

same_byte : (a b : ℕ) → Byte a ≡ Byte b → a ≡ b
same_byte a b e = cc

is_value : (f g : ℕ) (x y : Name) → Value f x ≡ Value g y → (eqb f g && name_eq x y) ≡ true
is_value f g x y e =
    let same = same_value f g x y e in
    and_from (eqb f g) (name_eq x y) (eq-eqb f g same.0) (subst (λ z. name_eq x z ≡ true) same.1 (name_same x))

value_is : (f g : ℕ) (x y : Name) → (eqb f g && name_eq x y) ≡ true → Value f x ≡ Value g y
value_is f g x y e = let parts = and_parts (eqb f g) (name_eq x y) e in ap₂ Value (eqb-true f g parts.0) (name_sound x y parts.1)

reached_sound : (t : Target) (k : ℕ) (s : Source) (d : ℕ) → is_reached t k s d ≡ true → reached t k ≡ Some (after s d)
reached_sound (target.Value f x) k (Value g y) d e =
    let parts = and_parts (eqb k 0) (eqb f g && name_eq x y) e in
    ap (λ c. if c then Some (Value f x) else None) parts.0 ∙ ap Some (value_is f g x y parts.1)
reached_sound (target.Bytes a n) k (Byte b) d e =
    let parts = and_parts (ltb k n) (eqb (a + k) (b + d)) e in
    ap₂ (λ c z. if c then Some (Byte z) else None) parts.0 (eqb-true (a + k) (b + d) parts.1)
reached_sound (target.Value f x) k (Root n) d e = absurd (false_true e)
reached_sound (target.Value f x) k (Byte b) d e = absurd (false_true e)
reached_sound (target.Bytes a n) k (Root r) d e = absurd (false_true e)
reached_sound (target.Bytes a n) k (Value g y) d e = absurd (false_true e)

reached_found : (t : Target) (k : ℕ) (s : Source) (d : ℕ) → reached t k ≡ Some (after s d) → is_reached t k s d ≡ true
reached_found (target.Value f x) k (Value g y) d e =
    let h = some_if (eqb k 0) (Value f x) (Value g y) e in and_from (eqb k 0) (eqb f g && name_eq x y) h.0 (is_value f g x y h.1)
reached_found (target.Bytes a n) k (Byte b) d e =
    let h = some_if (ltb k n) (Byte (a + k)) (Byte (b + d)) e in and_from (ltb k n) (eqb (a + k) (b + d)) h.0 (eq-eqb (a + k) (b + d) (same_byte (a + k) (b + d) h.1))
reached_found (target.Value f x) k (Root n) d e = let h = some_if (eqb k 0) (Value f x) (Root n) e in absurd (cc (h.1))
reached_found (target.Value f x) k (Byte b) d e = let h = some_if (eqb k 0) (Value f x) (Byte (b + d)) e in absurd (cc (h.1))
reached_found (target.Bytes a n) k (Root r) d e = let h = some_if (ltb k n) (Byte (a + k)) (Root r) e in absurd (cc (h.1))
reached_found (target.Bytes a n) k (Value g y) d e = let h = some_if (ltb k n) (Byte (a + k)) (Value g y) e in absurd (cc (h.1))

written_sound : (t : Target) (s : Source) (d : ℕ) → is_written t s d ≡ true → (k : ℕ) × (reached t k ≡ Some (after s d))
written_sound (target.Value f x) (Value g y) d e = (0, ap Some (value_is f g x y e))
written_sound (target.Bytes a n) (Byte b) d e =
    let parts = and_parts (leb a (b + d)) (ltb (b + d) (a + n)) e in
    let from = leb-true a (b + d) parts.0 in
    let within : b + d - a < n = omega (arith, from, ltb-true (b + d) (a + n) parts.1) in
    let there : a + (b + d - a) ≡ b + d = omega (arith, from) in
    (b + d - a, ap₂ (λ c z. if c then Some (Byte z) else None) (lt-ltb (b + d - a) n within) there)
written_sound (target.Value f x) (Root n) d e = absurd (false_true e)
written_sound (target.Value f x) (Byte b) d e = absurd (false_true e)
written_sound (target.Bytes a n) (Root r) d e = absurd (false_true e)
written_sound (target.Bytes a n) (Value g y) d e = absurd (false_true e)

written_found : (t : Target) (s : Source) (d k : ℕ) → reached t k ≡ Some (after s d) → is_written t s d ≡ true
written_found (target.Value f x) (Value g y) d k e = is_value f g x y (some_if (eqb k 0) (Value f x) (Value g y) e).1
written_found (target.Bytes a n) (Byte b) d k e =
    let h = some_if (ltb k n) (Byte (a + k)) (Byte (b + d)) e in
    let same : a + k ≡ b + d = same_byte (a + k) (b + d) h.1 in
    let few = ltb-true k n h.0 in
    let from : a ≤ b + d = omega (arith, same) in
    let within : b + d < a + n = omega (arith, same, few) in
    and_from (leb a (b + d)) (ltb (b + d) (a + n)) (le-leb a (b + d) from) (lt-ltb (b + d) (a + n) within)
written_found (target.Value f x) (Root n) d k e = let h = some_if (eqb k 0) (Value f x) (Root n) e in absurd (cc (h.1))
written_found (target.Value f x) (Byte b) d k e = let h = some_if (eqb k 0) (Value f x) (Byte (b + d)) e in absurd (cc (h.1))
written_found (target.Bytes a n) (Root r) d k e = let h = some_if (ltb k n) (Byte (a + k)) (Root r) e in absurd (cc (h.1))
written_found (target.Bytes a n) (Value g y) d k e = let h = some_if (ltb k n) (Byte (a + k)) (Value g y) e in absurd (cc (h.1))

-- ---- moves

counts_found : (event : Option ℕ) (s : Source) (d : ℕ) (m : Move) (k : ℕ) → IsBefore event m → reached m.to k ≡ Some (after s d) → counts_there event s d m ≡ true
counts_found event s d m k before r = and_from (is_before event m) (is_written m.to s d) (before_found event m before) (written_found m.to s d k r)

counts_sound : (event : Option ℕ) (s : Source) (d : ℕ) (m : Move) → counts_there event s d m ≡ true → IsBefore event m × ((k : ℕ) × (reached m.to k ≡ Some (after s d)))
counts_sound event s d m e =
    let parts = and_parts (is_before event m) (is_written m.to s d) e in (before_sound event m parts.0, written_sound m.to s d parts.1)

module _ (moves : List Move) (event : Option ℕ) (s : Source) (d : ℕ) (hop : Hop) where
  next_is_last : (n : IsNext moves event s d hop) → IsLast moves event (after s d) hop n.move
  next_is_last n = record {
    stands = n.stands;
    counts = before_sound event n.move n.earlier;
    reaches = reached_sound n.move.to hop.byte s d n.reaches;
    last = λ j k o f before r. by_order j o (leb j hop.index) refl f (slice_get_within moves j o f) (counts_found event s d o k before r);
  }
    where
      by_order : (j : ℕ) (o : Move) (c : Bool) → leb j hop.index ≡ c → slice_get moves j ≡ Some o → j < length moves → counts_there event s d o ≡ true → j ≤ hop.index
      by_order j o true g f within counts = leb-true j hop.index g
      by_order j o false g f within counts = absurd (false_true (sym (n.last j o (omega (arith, leb-false j hop.index g)) within f) ∙ counts))

  last_is_next : (m : Move) → IsLast moves event (after s d) hop m → IsNext moves event s d hop
  last_is_next m l = record {
    move = m;
    stands = l.stands;
    earlier = before_found event m l.counts;
    reaches = reached_found m.to hop.byte s d l.reaches;
    last = λ j o first within f. by_test j o first f (counts_there event s d o) refl;
  }
    where
      by_test : (j : ℕ) (o : Move) → hop.index + 1 ≤ j → slice_get moves j ≡ Some o → (c : Bool) → counts_there event s d o ≡ c → counts_there event s d o ≡ false
      by_test j o first f false g = g
      by_test j o first f true g = let counts = counts_sound event s d o g in absurd (omega (arith, first, l.last j counts.1.0 o f counts.0 counts.1.1))

-- ---- the hops that are left

pub record Going (moves : List Move) (at : Source) (hops : List Hop) (left : ℕ) (event : Option ℕ) (s : Source) (d : ℕ) : Type 0 where
  pub few : left ≤ length hops
  pub there : Leads moves at hops → LeadsBack AnyRoot moves event (after s d) (reverse (take left hops))
  pub back : LeadsBack AnyRoot moves event (after s d) (reverse (take left hops)) → Leads moves at hops

-- the last of the hops that are left comes first
taken_one : (hops : List Hop) (l : ℕ) (h : Hop) → slice_get hops l ≡ Some h → reverse (take (suc l) hops) ≡ h ∷ reverse (take l hops)
taken_one hops l h e = ap reverse (one_more hops l e) ∙ reverse-append (take l hops) (h ∷ [])
  where
    one_more : (xs : List Hop) (n : ℕ) → slice_get xs n ≡ Some h → take (suc n) xs ≡ take n xs ++ h ∷ []
    one_more [] n f = absurd (none-some h f)
    one_more (x ∷ xs) zero f = ap (λ y. y ∷ []) (same_Some x h f)
    one_more (x ∷ xs) (suc n) f = ap (λ ys. x ∷ ys) (one_more xs n f)

module _ (moves : List Move) (at : Source) (hops : List Hop) where
  pub starts : Going moves at hops (length hops) None at 0
  starts =
      let all : take (length hops) hops ≡ hops = take_all (length hops) hops (omega arith) in
      record {
        few = omega arith;
        there = λ h. subst (λ s. LeadsBack AnyRoot moves None s (reverse (take (length hops) hops))) (sym (after_none at)) (subst (λ hs. LeadsBack AnyRoot moves None at (reverse hs)) (sym all) h);
        back = λ h. subst (λ hs. LeadsBack AnyRoot moves None at (reverse hs)) all (subst (λ s. LeadsBack AnyRoot moves None s (reverse (take (length hops) hops))) (after_none at) h);
      }

  module _ (l : ℕ) (event : Option ℕ) (s : Source) (d : ℕ) (g : Going moves at hops (suc l) event s d) (hop : Hop) (there : slice_get hops l ≡ Some hop) where
    -- where the hop is another one
    pub refused : (IsNext moves event s d hop → ⊥) → Leads moves at hops → ⊥
    refused other h =
        let back : LeadsBack AnyRoot moves event (after s d) (hop ∷ reverse (take l hops)) = subst (LeadsBack AnyRoot moves event (after s d)) (taken_one hops l hop there) (g.there h) in
        other (last_is_next moves event s d hop back.0 back.1)

    -- the hops before it are left
    pub goes_on : (m : Move) → slice_get moves hop.index ≡ Some m → IsNext moves event s d hop → Going moves at hops l (Some m.event) m.from (distance_in m.to hop.byte)
    goes_on m stands n = record {
      few = omega (arith, g.few);
      there = λ h. onward (subst (LeadsBack AnyRoot moves event (after s d)) (taken_one hops l hop there) (g.there h));
      back = λ h. g.back (subst (LeadsBack AnyRoot moves event (after s d)) (sym (taken_one hops l hop there)) (before h));
    }
      where
        onward : LeadsBack AnyRoot moves event (after s d) (hop ∷ reverse (take l hops)) → LeadsBack AnyRoot moves (Some m.event) (after m.from (distance_in m.to hop.byte)) (reverse (take l hops))
        onward h =
            let same : h.0 ≡ m = same_Some h.0 m (sym h.1.stands ∙ stands) in
            subst (λ r. LeadsBack AnyRoot moves (Some m.event) r (reverse (take l hops))) (sym (after_is m.from m.to hop.byte))
            (subst (λ o. LeadsBack AnyRoot moves (Some o.event) (came_from o.from o.to hop.byte) (reverse (take l hops))) same h.2)

        before : LeadsBack AnyRoot moves (Some m.event) (after m.from (distance_in m.to hop.byte)) (reverse (take l hops)) → LeadsBack AnyRoot moves event (after s d) (hop ∷ reverse (take l hops))
        before h =
            let same : n.move ≡ m = same_Some n.move m (sym n.stands ∙ stands) in (
              m,
              subst (IsLast moves event (after s d) hop) same (next_is_last moves event s d hop n),
              subst (λ r. LeadsBack AnyRoot moves (Some m.event) r (reverse (take l hops))) (after_is m.from m.to hop.byte) h,
            )

  -- no hop is left
  pub ends : (left : ℕ) (event : Option ℕ) (s : Source) (d : ℕ) → Going moves at hops left event s d → left ≡ 0 → MatchBool (is_root_at s) (Leads moves at hops) (Leads moves at hops → ⊥)
  ends left event s d g none = by_source s (λ h. subst (λ n. LeadsBack AnyRoot moves event (after s d) (reverse (take n hops))) none (g.there h)) (λ h. g.back (subst (λ n. LeadsBack AnyRoot moves event (after s d) (reverse (take n hops))) (sym none) h))
    where
      by_source : (r : Source) → (Leads moves at hops → LeadsBack AnyRoot moves event (after r d) (reverse (take 0 hops))) → (LeadsBack AnyRoot moves event (after r d) (reverse (take 0 hops)) → Leads moves at hops)
          → MatchBool (is_root_at r) (Leads moves at hops) (Leads moves at hops → ⊥)
      by_source (Root n) there back = back tt
      by_source (Value f x) there back = there
      by_source (Byte a) there back = there
