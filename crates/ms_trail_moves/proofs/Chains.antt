-- Ways over moves: there is one where each move's source was poisoned before its step, and there is at most one.
use Rattle.std.proofs.Common.{◌≡◌, ℕ, zero, suc, ◌+◌, ◌-◌, ◌<◌, ◌≤◌, List, [], ◌∷◌, ◌++◌, length, Bool, true, false, eqb, leb, ltb, Option, Some, None, slice_get, reverse, refl, sym, ap, ap₂, ◌∙◌, subst, arith, if◌then◌else◌, ◌⊎◌, inl, inr}
use Rattle.std.proofs.lemmas.Bool.{eqb-true, eqb-false, leb-true, leb-false, ltb-true, ltb-false}
use Rattle.std.proofs.lemmas.Option.{same_Some, none-some, slice_get_within}
use Rattle.std.proofs.lemmas.List.{reverse-reverse}
use Rattle.ms_ir.specs.declared.syntax.Name.{Name}
use Rattle.ms_ir.specs.Names.{name_eq}
use Rattle.ms_ir.proofs.RootKinds.{name_same as name_sound}
use Rattle.ms_trail_moves.proofs.Names.{name_same}
use Rattle.ms_trail_moves.specs.declared.moves.Source.{Source}
use Rattle.ms_trail_moves.specs.declared.moves.Source.TheVariants.{Root, Value, Byte}
use Rattle.ms_trail_moves.specs.declared.moves.Target.{Target}
use Rattle.ms_trail_moves.specs.declared.moves.Target.TheVariants as target
use Rattle.ms_trail_moves.specs.declared.moves.Move.{Move}
use Rattle.ms_trail_moves.specs.declared.moves.Hop.{Hop}
use Rattle.ms_trail_moves.specs.Leads.{reached, came_from, IsBefore, IsLast, IsRoot, LeadsBack, Leads}
use Rattle.ms_trail_moves.specs.Moving.{Writes}
use Rattle.ms_trail_moves.specs.Scanned.{Ascending}

-- ---- what a target reaches

abbrev frame_of : Source → ℕ
frame_of (Root n) = n
frame_of (Value frame x) = frame
frame_of (Byte a) = a

abbrev name_of : Source → Name → Name
name_of (Root n) y = y
name_of (Value frame x) y = x
name_of (Byte a) y = y

abbrev kind_of : Source → ℕ
kind_of (Root n) = 0
kind_of (Value frame x) = 1
kind_of (Byte a) = 2

pub some_if : (t : Bool) (s r : Source) → (if t then Some s else None) ≡ Some r → (t ≡ true) × (s ≡ r)
some_if true s r e = (refl, same_Some s r e)
some_if false s r e = absurd (none-some r e)

pub no_root : (t : Target) (k n : ℕ) → reached t k ≡ Some (Root n) → ⊥
no_root (target.Value frame x) k n e = let h : (1 ≡ 0) = ap kind_of (some_if (eqb k 0) _ _ e).1 in omega (arith, h)
no_root (target.Bytes a l) k n e = let h : (2 ≡ 0) = ap kind_of (some_if (ltb k l) _ _ e).1 in omega (arith, h)

-- a source is one byte of a target at most
pub one_byte : (t : Target) (k j : ℕ) (s : Source) → reached t k ≡ Some s → reached t j ≡ Some s → k ≡ j
one_byte (target.Value frame x) k j s e f = eqb-true k 0 (some_if (eqb k 0) _ s e).0 ∙ sym (eqb-true j 0 (some_if (eqb j 0) _ s f).0)
one_byte (target.Bytes a l) k j s e f =
    let same : (a + k ≡ a + j) = ap frame_of ((some_if (ltb k l) (Byte (a + k)) s e).1 ∙ sym (some_if (ltb j l) (Byte (a + j)) s f).1) in
    omega (arith, same)

-- whether a target has a source
pub has : (t : Target) (s : Source) → ((k : ℕ) × (reached t k ≡ Some s)) ⊎ ((k : ℕ) → reached t k ≡ Some s → ⊥)
has t (Root n) = inr (λ k e. no_root t k n e)
has (target.Value f x) (Value g y) = by_tests (eqb f g) (name_eq x y) refl refl
  where
    by_tests : (p q : Bool) → eqb f g ≡ p → name_eq x y ≡ q → ((k : ℕ) × (reached (target.Value f x) k ≡ Some (Value g y))) ⊎ ((k : ℕ) → reached (target.Value f x) k ≡ Some (Value g y) → ⊥)
    by_tests true true p q = inl (0, ap₂ (λ c z. Some (Value c z)) (eqb-true f g p) (name_sound x y q))
    by_tests true false p q = inr (λ k e. let h = ap (λ z. name_of z x) (some_if (eqb k 0) _ _ e).1 in absurd (false_true (sym q ∙ ap (λ z. name_eq x z) (sym h) ∙ name_same x)))
      where
        false_true : false ≡ true → ⊥
        false_true e = grind arith
    by_tests false q p u = inr (λ k e. eqb-false f g p (ap frame_of (some_if (eqb k 0) _ _ e).1))
has (target.Bytes a l) (Byte b) = by_tests (leb a b) (ltb (b - a) l) refl refl
  where
    by_tests : (p q : Bool) → leb a b ≡ p → ltb (b - a) l ≡ q → ((k : ℕ) × (reached (target.Bytes a l) k ≡ Some (Byte b))) ⊎ ((k : ℕ) → reached (target.Bytes a l) k ≡ Some (Byte b) → ⊥)
    by_tests true true p q =
        let e : a + (b - a) ≡ b = omega (arith, leb-true a b p) in
        inl (b - a, ap₂ (λ t c. if t then Some (Byte c) else None) q e)
    by_tests true false p q =
        inr (λ k e.
        let h = some_if (ltb k l) (Byte (a + k)) (Byte b) e in
        let same : a + k ≡ b = ap frame_of h.1 in omega (arith, same, leb-true a b p, ltb-true k l h.0, ltb-false (b - a) l q))
    by_tests false q p u =
        inr (λ k e.
        let h = some_if (ltb k l) (Byte (a + k)) (Byte b) e in
        let same : a + k ≡ b = ap frame_of h.1 in omega (arith, same, leb-false a b p))
has (target.Value f x) (Byte b) = inr (λ k e. let h : (1 ≡ 2) = ap kind_of (some_if (eqb k 0) _ _ e).1 in omega (arith, h))
has (target.Bytes a l) (Value g y) = inr (λ k e. let h : (2 ≡ 1) = ap kind_of (some_if (ltb k l) _ _ e).1 in omega (arith, h))

-- ---- the last move that writes to a source

pub record LastWrite (moves : List Move) (s : Source) : Type 0 where
  pub writes : Writes moves s
  pub last : (j k : ℕ) (other : Move) → slice_get moves j ≡ Some other → reached other.to k ≡ Some s → j ≤ writes.index

abbrev pub NoWrite : List Move → Source → Type 0
NoWrite moves s = (j k : ℕ) (other : Move) → slice_get moves j ≡ Some other → reached other.to k ≡ Some s → ⊥

pub last_write : (moves : List Move) (s : Source) → LastWrite moves s ⊎ NoWrite moves s
last_write [] s = inr (λ j k other e r. none-some other e)
last_write (m ∷ rest) s = by_rest (last_write rest s) (has m.to s)
  where
    by_rest : LastWrite rest s ⊎ NoWrite rest s → ((k : ℕ) × (reached m.to k ≡ Some s)) ⊎ ((k : ℕ) → reached m.to k ≡ Some s → ⊥) → LastWrite (m ∷ rest) s ⊎ NoWrite (m ∷ rest) s
    by_rest (inl h) t =
        inl (record {
          writes = record { index = suc h.writes.index; byte = h.writes.byte; move = h.writes.move; stands = h.writes.stands; reaches = h.writes.reaches };
          last = later;
        })
      where
        later : (j k : ℕ) (other : Move) → slice_get (m ∷ rest) j ≡ Some other → reached other.to k ≡ Some s → j ≤ suc h.writes.index
        later zero k other e r = omega arith
        later (suc j) k other e r = omega (arith, h.last j k other e r)
    by_rest (inr never) (inl here) =
        inl (record { writes = record { index = 0; byte = here.0; move = m; stands = refl; reaches = here.1 }; last = later })
      where
        later : (j k : ℕ) (other : Move) → slice_get (m ∷ rest) j ≡ Some other → reached other.to k ≡ Some s → j ≤ 0
        later zero k other e r = omega arith
        later (suc j) k other e r = absurd (never j k other e r)
    by_rest (inr never) (inr none) = inr later
      where
        later : (j k : ℕ) (other : Move) → slice_get (m ∷ rest) j ≡ Some other → reached other.to k ≡ Some s → ⊥
        later zero k other e r = none k (ap (λ o. reached o.to k) (same_Some m other e) ∙ r)
        later (suc j) k other e r = never j k other e r

-- ---- places in two lists

left_place : (old new : List Move) (j : ℕ) (m : Move) → slice_get old j ≡ Some m → slice_get (old ++ new) j ≡ Some m
left_place [] new j m e = absurd (none-some m e)
left_place (x ∷ old) new zero m e = e
left_place (x ∷ old) new (suc j) m e = left_place old new j m e

right_place : (old new : List Move) (j : ℕ) (m : Move) → slice_get new j ≡ Some m → slice_get (old ++ new) (length old + j) ≡ Some m
right_place [] new j m e = let h : 0 + j ≡ j = omega arith in subst (λ i. slice_get new i ≡ Some m) (sym h) e
right_place (x ∷ old) new j m e =
    let h : suc (length old + j) ≡ suc (length old) + j = omega arith in
    subst (λ i. slice_get (x ∷ (old ++ new)) i ≡ Some m) h (right_place old new j m e)

which_place : (old new : List Move) (j : ℕ) (m : Move) → slice_get (old ++ new) j ≡ Some m → (slice_get old j ≡ Some m) ⊎ ((i : ℕ) × (j ≡ length old + i) × (slice_get new i ≡ Some m))
which_place [] new j m e = inr (j, omega arith, e)
which_place (x ∷ old) new zero m e = inl e
which_place (x ∷ old) new (suc j) m e = on (which_place old new j m e)
  where
    on : (slice_get old j ≡ Some m) ⊎ ((i : ℕ) × (j ≡ length old + i) × (slice_get new i ≡ Some m)) → (slice_get old j ≡ Some m) ⊎ ((i : ℕ) × (suc j ≡ suc (length old) + i) × (slice_get new i ≡ Some m))
    on (inl h) = inl h
    on (inr h) = inr (h.0, omega (arith, h.1), h.2)

-- ---- more moves

-- later moves leave a hop the last one, where none of them counts and reaches the source
kept_last : (old new : List Move) (b c : Option ℕ) (s : Source) (hop : Hop) (m : Move)
    → ((j : ℕ) (x : Move) → slice_get old j ≡ Some x → (IsBefore b x → IsBefore c x) × (IsBefore c x → IsBefore b x))
    → ((j k : ℕ) (x : Move) → slice_get new j ≡ Some x → IsBefore c x → reached x.to k ≡ Some s → ⊥)
    → IsLast old b s hop m → IsLast (old ++ new) c s hop m
kept_last old new b c s hop m same none h = record {
  stands = left_place old new hop.index m h.stands;
  counts = (same hop.index m h.stands).0 h.counts;
  reaches = h.reaches;
  last = λ j k other e before r. by_place j k other (which_place old new j other e) before r;
}
  where
    by_place : (j k : ℕ) (other : Move) → (slice_get old j ≡ Some other) ⊎ ((i : ℕ) × (j ≡ length old + i) × (slice_get new i ≡ Some other)) → IsBefore c other → reached other.to k ≡ Some s → j ≤ hop.index
    by_place j k other (inl e) before r = h.last j k other e ((same j other e).1 before) r
    by_place j k other (inr e) before r = absurd (none e.0 k other e.2 before r)

-- moves with an earlier step than a number
abbrev pub AllBefore : List Move → ℕ → Type 0
AllBefore moves event = (j : ℕ) (m : Move) → slice_get moves j ≡ Some m → m.event < event

abbrev pub AllOf : List Move → ℕ → Type 0
AllOf moves event = (j : ℕ) (m : Move) → slice_get moves j ≡ Some m → m.event ≡ event

-- after the first hop
kept_rest : (R : ℕ → Type 0) (old new : List Move) (event d : ℕ) → AllOf new event → d ≤ event → (s : Source) (hops : List Hop) → AllBefore old event → LeadsBack R old (Some d) s hops → LeadsBack R (old ++ new) (Some d) s hops
kept_rest R old new event d of_event l s [] earlier h = h
kept_rest R old new event d of_event l s (hop ∷ rest) earlier h = (
  h.0,
  kept_last old new (Some d) (Some d) s hop h.0 (λ j x e. ((λ z. z), (λ z. z))) (λ j k x e before r. omega (arith, of_event j x e, before, l)) h.1,
  kept_rest R old new event h.0.event of_event (omega (arith, earlier hop.index h.0 h.1.stands)) (came_from h.0.from h.0.to hop.byte) rest earlier h.2,
)

-- a way over old moves is one over all moves of the steps before
kept_way : (R : ℕ → Type 0) (old new : List Move) (event : ℕ) → AllBefore old event → AllOf new event → (s : Source) (hops : List Hop) → LeadsBack R old None s hops → LeadsBack R (old ++ new) (Some event) s hops
kept_way R old new event earlier of_event s [] h = h
kept_way R old new event earlier of_event s (hop ∷ rest) h = (
  h.0,
  kept_last old new None (Some event) s hop h.0 (λ j x e. ((λ z. earlier j x e), (λ z. tt))) (λ j k x e before r. omega (arith, of_event j x e, before)) h.1,
  kept_rest R old new event h.0.event of_event (omega (arith, earlier hop.index h.0 h.1.stands)) (came_from h.0.from h.0.to hop.byte) rest earlier h.2,
)

-- and one over all moves, where none of the new ones writes to its end
kept_end : (R : ℕ → Type 0) (old new : List Move) (event : ℕ) → AllBefore old event → AllOf new event → (s : Source) (hops : List Hop) → NoWrite new s → LeadsBack R old None s hops → LeadsBack R (old ++ new) None s hops
kept_end R old new event earlier of_event s [] none h = h
kept_end R old new event earlier of_event s (hop ∷ rest) none h = (
  h.0,
  kept_last old new None None s hop h.0 (λ j x e. ((λ z. tt), (λ z. tt))) (λ j k x e before r. none j k x e r) h.1,
  kept_rest R old new event h.0.event of_event (omega (arith, earlier hop.index h.0 h.1.stands)) (came_from h.0.from h.0.to hop.byte) rest earlier h.2,
)

-- ---- there is a way

-- each source that is poisoned has a way
pub record HasWays (R : ℕ → Type 0) (P : Source → Type 0) (moves : List Move) (event : ℕ) : Type 0 where
  pub ways : (s : Source) → P s → (hops : List Hop) × LeadsBack R moves None s hops
  pub earlier : AllBefore moves event
  pub ordered : Ascending moves

-- the moves of a step come from what was poisoned before, and write to all that is poisoned then and was not
pub record Accounts (P Q : Source → Type 0) (moves : List Move) (event : ℕ) : Type 0 where
  pub of_event : AllOf moves event
  pub poisoned : (j k : ℕ) (s : Source) (m : Move) → slice_get moves j ≡ Some m → reached m.to k ≡ Some s → P (came_from m.from m.to k)
  pub written : (s : Source) → Q s → P s ⊎ Writes moves s

pub ways_on : (R : ℕ → Type 0) (P Q : Source → Type 0) (old new : List Move) (event : ℕ) → HasWays R P old event → Accounts P Q new event → HasWays R Q (old ++ new) (event + 1)
ways_on R P Q old new event h a = record {
  ways = λ s q. by_write s (last_write new s) (a.written s q);
  earlier = λ j m e. by_place j m (which_place old new j m e);
  ordered = λ i j m o l e f. in_order i j m o l (which_place old new i m e) (which_place old new j o f);
}
  where
    in_order : (i j : ℕ) (m o : Move) → i ≤ j → (slice_get old i ≡ Some m) ⊎ ((a : ℕ) × (i ≡ length old + a) × (slice_get new a ≡ Some m))
        → (slice_get old j ≡ Some o) ⊎ ((a : ℕ) × (j ≡ length old + a) × (slice_get new a ≡ Some o)) → m.event ≤ o.event
    in_order i j m o l (inl e) (inl f) = h.ordered i j m o l e f
    in_order i j m o l (inl e) (inr f) = omega (arith, h.earlier i m e, a.of_event f.0 o f.2)
    in_order i j m o l (inr e) (inr f) = omega (arith, a.of_event e.0 m e.2, a.of_event f.0 o f.2)
    in_order i j m o l (inr e) (inl f) = absurd (omega (arith, l, e.1, slice_get_within old j o f))

    by_place : (j : ℕ) (m : Move) → (slice_get old j ≡ Some m) ⊎ ((i : ℕ) × (j ≡ length old + i) × (slice_get new i ≡ Some m)) → m.event < event + 1
    by_place j m (inl e) = omega (arith, h.earlier j m e)
    by_place j m (inr e) = omega (arith, a.of_event e.0 m e.2)

    by_write : (s : Source) → LastWrite new s ⊎ NoWrite new s → P s ⊎ Writes new s → (hops : List Hop) × LeadsBack R (old ++ new) None s hops
    by_write s (inl w) p =
        let m = w.writes.move in
        let way = h.ways (came_from m.from m.to w.writes.byte) (a.poisoned w.writes.index w.writes.byte s m w.writes.stands w.writes.reaches) in (
          record { index = length old + w.writes.index; byte = w.writes.byte } ∷ way.0,
          (
            m,
            record {
              stands = right_place old new w.writes.index m w.writes.stands;
              counts = tt;
              reaches = w.writes.reaches;
              last = λ j k other e before r. by_last j k other (which_place old new j other e) r;
            },
            subst (λ e. LeadsBack R (old ++ new) (Some e) (came_from m.from m.to w.writes.byte) way.0) (sym (a.of_event w.writes.index m w.writes.stands))
                (kept_way R old new event h.earlier a.of_event (came_from m.from m.to w.writes.byte) way.0 way.1),
          ),
        )
      where
        by_last : (j k : ℕ) (other : Move) → (slice_get old j ≡ Some other) ⊎ ((i : ℕ) × (j ≡ length old + i) × (slice_get new i ≡ Some other)) → reached other.to k ≡ Some s → j ≤ length old + w.writes.index
        by_last j k other (inl e) r = omega (arith, slice_get_within old j other e)
        by_last j k other (inr e) r = omega (arith, e.1, w.last e.0 k other e.2 r)
    by_write s (inr none) (inl p) =
        let way = h.ways s p in (way.0, kept_end R old new event h.earlier a.of_event s way.0 none way.1)
    by_write s (inr none) (inr w) = absurd (none w.index w.byte w.move w.stands w.reaches)

-- ---- more roots

more_back : (R R' : ℕ → Type 0) → ((n : ℕ) → R n → R' n) → (moves : List Move) (b : Option ℕ) (s : Source) (hops : List Hop) → LeadsBack R moves b s hops → LeadsBack R' moves b s hops
more_back R R' f moves b (Root n) [] h = f n h
more_back R R' f moves b (Value frame x) [] h = h
more_back R R' f moves b (Byte a) [] h = h
more_back R R' f moves b s (hop ∷ rest) h = (h.0, h.1, more_back R R' f moves (Some h.0.event) (came_from h.0.from h.0.to hop.byte) rest h.2)

-- a way from a root of one kind is one from a root of a wider kind
pub more_roots : (R R' : ℕ → Type 0) → ((n : ℕ) → R n → R' n) → (moves : List Move) (at : Source) (hops : List Hop) → LeadsBack R moves None at hops → LeadsBack R' moves None at hops
more_roots R R' f moves at hops h = more_back R R' f moves None at hops h

-- ---- there is at most one way

pub root_reached : (R : ℕ → Type 0) (s : Source) (t : Target) (k : ℕ) → IsRoot R s → reached t k ≡ Some s → ⊥
root_reached R (Root n) t k h e = no_root t k n e
root_reached R (Value frame x) t k h e = h
root_reached R (Byte a) t k h e = h

one_way_back : (R : ℕ → Type 0) (moves : List Move) (b : Option ℕ) (s : Source) (hops others : List Hop) → LeadsBack R moves b s hops → LeadsBack R moves b s others → hops ≡ others
one_way_back R moves b s [] [] h g = refl
one_way_back R moves b s [] (x ∷ others) h g = absurd (root_reached R s g.0.to x.byte h g.1.reaches)
one_way_back R moves b s (x ∷ hops) [] h g = absurd (root_reached R s h.0.to x.byte g h.1.reaches)
one_way_back R moves b s (x ∷ hops) (y ∷ others) h g =
    let l = g.1.last x.index x.byte h.0 h.1.stands h.1.counts h.1.reaches in
    let r = h.1.last y.index y.byte g.0 g.1.stands g.1.counts g.1.reaches in
    let i : x.index ≡ y.index = omega (arith, l, r) in
    let m : h.0 ≡ g.0 = same_Some h.0 g.0 (sym h.1.stands ∙ ap (slice_get moves) i ∙ g.1.stands) in
    let k : x.byte ≡ y.byte = one_byte h.0.to x.byte y.byte s h.1.reaches (ap (λ z. reached z.to y.byte) m ∙ g.1.reaches) in
    let rest = subst (λ c. LeadsBack R moves (Some g.0.event) (came_from g.0.from g.0.to c) hops) k (subst (λ z. LeadsBack R moves (Some z.event) (came_from z.from z.to x.byte) hops) m h.2) in
    ap₂ (λ z zs. z ∷ zs) (λ j. record { index = i j; byte = k j }) (one_way_back R moves (Some g.0.event) (came_from g.0.from g.0.to y.byte) hops others rest g.2)

pub one_way : (moves : List Move) (at : Source) (hops others : List Hop) → Leads moves at hops → Leads moves at others → hops ≡ others
one_way moves at hops others h g =
    sym (reverse-reverse hops) ∙ ap reverse (one_way_back (λ n. Unit {0}) moves None at (reverse hops) (reverse others) h g) ∙ reverse-reverse others
