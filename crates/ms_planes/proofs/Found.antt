-- What is found at an address, in the blocks of one area.
use Rattle.std.proofs.Common.{◌≡◌, ℕ, zero, suc, ◌+◌, ◌-◌, ◌%◌, ◌<◌, ◌≤◌, Bool, true, false, not, List, [], ◌∷◌, ◌++◌, length, get_or, set, take, refl, sym, ap, ◌∙◌, subst, arith, ⊎_elim, is_some, Option, Some, None, cond, leb, ◌&&◌, if◌then◌else◌}
use Rattle.std.specs.List.{find, filter}
use Rattle.std.proofs.lemmas.Bool.{cases_Bool, cases_lt, and_parts, leb-true, le-leb, lt-leb}
use Rattle.ms_alloc.specs.declared.kinds.AllocKind.{AllocKind}
use Rattle.ms_alloc.specs.declared.allocations.Allocation.{Allocation}
use Rattle.ms_alloc.specs.Layout.{room}
use Rattle.ms_alloc.specs.Allocations.{IsRow, covers}
use Rattle.ms_alloc.proofs.Rows.{row-from, size-le}
use Rattle.ms_alloc.proofs.Places.{covers-before}
use Rattle.ms_raw.specs.Blocks.{Lists, IsLists}
use Rattle.ms_planes.specs.Memory.{read, found, IsBlockOf, AreBlocksOf}

-- what a range in an allocation says
pub record Inside (addr n : ℕ) (a : Allocation) : Type 0 where
  pub live : a.live ≡ true
  pub low : a.base ≤ addr
  pub high : addr + n ≤ a.base + a.size

pub inside : (addr n : ℕ) (a : Allocation) → covers addr n a ≡ true → Inside addr n a
inside addr n a h =
    let parts : (a.live && leb a.base addr ≡ true) × (leb (addr + n) (a.base + a.size) ≡ true) = and_parts _ _ h in
    let front : (a.live ≡ true) × (leb a.base addr ≡ true) = and_parts _ _ parts.0 in
    record { live = front.0; low = leb-true _ _ front.1; high = leb-true _ _ parts.1 }

-- at an address of a live allocation its block is read
pub found-at : (f : Lists → ℕ → ℕ) (k : AllocKind) (b : ℕ) (xs : List Allocation) (bs : List (Option Lists)) (i addr : ℕ) (d : Allocation) → IsRow k b xs → AreBlocksOf xs bs → i < length xs →
    covers addr 1 (get_or xs i d) ≡ true → found f xs bs addr ≡ read f (get_or bs i None) (addr - (get_or xs i d).base)
found-at f k b [] bs i addr d row kept lt has = absurd (omega arith)
found-at f k b (a ∷ xs) [] i addr d row kept lt has = absurd kept
found-at f k b (a ∷ xs) (x ∷ bs) zero addr d row kept lt has = ap (λ c. if c then read f x (addr - a.base) else found f xs bs addr) has
found-at f k b (a ∷ xs) (x ∷ bs) (suc i) addr d row kept lt has =
    let low = inside addr 1 (get_or xs i d) has in
    let past : b + room a.size ≤ (get_or xs i d).base = row-from k (b + room a.size) xs row.2 i d (omega arith) in
    ap (λ c. if c then read f x (addr - a.base) else found f xs bs addr) (covers-before addr 1 a (omega (arith, low.low, past, row.0, size-le a.size)))
    ∙ found-at f k (b + room a.size) xs bs i addr d row.2 kept.1 (omega arith) has

-- elsewhere a changed block is not read
pub found-other : (f : Lists → ℕ → ℕ) (xs : List Allocation) (bs : List (Option Lists)) (i addr : ℕ) (d : Allocation) (x : Option Lists) → i < length xs →
    covers addr 1 (get_or xs i d) ≡ false → found f xs (set bs i x) addr ≡ found f xs bs addr
found-other f [] bs i addr d x lt not_has = refl
found-other f (a ∷ xs) [] i addr d x lt not_has = refl
found-other f (a ∷ xs) (y ∷ bs) zero addr d x lt not_has =
    ap (λ c. if c then read f x (addr - a.base) else found f xs bs addr) not_has ∙ sym (ap (λ c. if c then read f y (addr - a.base) else found f xs bs addr) not_has)
found-other f (a ∷ xs) (y ∷ bs) (suc i) addr d x lt not_has =
    ap (λ (r : ℕ). if covers addr 1 a then read f y (addr - a.base) else r) (found-other f xs bs i addr d x (omega arith) not_has)

pub kept-length : (xs : List Allocation) (bs : List (Option Lists)) → AreBlocksOf xs bs → length bs ≡ length xs
kept-length [] [] kept = refl
kept-length [] (x ∷ bs) kept = absurd kept
kept-length (a ∷ xs) [] kept = absurd kept
kept-length (a ∷ xs) (x ∷ bs) kept = ap suc (kept-length xs bs kept.1)

pub kept-at : (xs : List Allocation) (bs : List (Option Lists)) (i : ℕ) (d : Allocation) → AreBlocksOf xs bs → i < length xs → IsBlockOf (get_or xs i d) (get_or bs i None)
kept-at [] bs i d kept lt = absurd (omega arith)
kept-at (a ∷ xs) [] i d kept lt = absurd kept
kept-at (a ∷ xs) (x ∷ bs) zero d kept lt = kept.0
kept-at (a ∷ xs) (x ∷ bs) (suc i) d kept lt = kept-at xs bs i d kept.1 (omega arith)

pub kept-set : (xs : List Allocation) (bs : List (Option Lists)) (i : ℕ) (d : Allocation) (x : Option Lists) → AreBlocksOf xs bs → i < length xs → IsBlockOf (get_or xs i d) x → AreBlocksOf xs (set bs i x)
kept-set [] bs i d x kept lt is = absurd (omega arith)
kept-set (a ∷ xs) [] i d x kept lt is = absurd kept
kept-set (a ∷ xs) (y ∷ bs) zero d x kept lt is = (is, kept.1)
kept-set (a ∷ xs) (y ∷ bs) (suc i) d x kept lt is = (kept.0, kept-set xs bs i d x kept.1 (omega arith) is)

-- the block of a live allocation
pub live-block : (a : Allocation) (x : Option Lists) → IsBlockOf a x → a.live ≡ true → (l : Lists) × (x ≡ Some l) × IsLists a.size l
live-block a None is live = absurd (let e = sym is ∙ live in cc)
live-block a (Some l) is live = (l, refl, is.1)

-- one more
pub kept-append : (xs : List Allocation) (bs : List (Option Lists)) (a : Allocation) (x : Option Lists) → AreBlocksOf xs bs → IsBlockOf a x → AreBlocksOf (xs ++ a ∷ []) (bs ++ x ∷ [])
kept-append [] [] a x kept is = (is, tt)
kept-append [] (y ∷ bs) a x kept is = absurd kept
kept-append (b ∷ xs) [] a x kept is = absurd kept
kept-append (b ∷ xs) (y ∷ bs) a x kept is = (kept.0, kept-append xs bs a x kept.1 is)

pub found-append : (f : Lists → ℕ → ℕ) (xs : List Allocation) (bs : List (Option Lists)) (a : Allocation) (x : Option Lists) (addr : ℕ) → AreBlocksOf xs bs →
    covers addr 1 a ≡ false → found f (xs ++ a ∷ []) (bs ++ x ∷ []) addr ≡ found f xs bs addr
found-append f [] [] a x addr kept not_has = ap (λ c. if c then read f x (addr - a.base) else 0) not_has
found-append f [] (y ∷ bs) a x addr kept not_has = absurd kept
found-append f (b ∷ xs) [] a x addr kept not_has = absurd kept
found-append f (b ∷ xs) (y ∷ bs) a x addr kept not_has =
    ap (λ (r : ℕ). if covers addr 1 b then read f y (addr - b.base) else r) (found-append f xs bs a x addr kept.1 not_has)

-- where something is found, it has a place
pub find-place : (p : Allocation → Bool) (xs : List Allocation) → is_some (find p xs) ≡ true → (i : ℕ) × (i < length xs) × ((d : Allocation) → p (get_or xs i d) ≡ true)
find-place p [] e = absurd (cc)
find-place p (a ∷ xs) e = ⊎_elim
    (λ (h : p a ≡ true). (zero, omega arith, λ d. h))
    (λ (h : p a ≡ false).
    let later : (i : ℕ) × (i < length xs) × ((d : Allocation) → p (get_or xs i d) ≡ true) = find-place p xs (ap (λ c. is_some (cond c (Some a) (find p xs))) (sym h) ∙ e) in
    (suc later.0, omega (arith, later.1), later.2))
    (cases_Bool (p a))

-- the allocations of the stack before an address, as the first of them
pub before-none : (k : AllocKind) (b mark : ℕ) (xs : List Allocation) → IsRow k b xs → mark ≤ b → filter (λ a. not (leb mark a.base)) xs ≡ []
before-none k b mark [] row from = refl
before-none k b mark (a ∷ xs) row from =
    ap (λ c. cond (not c) (a ∷ filter (λ x. not (leb mark x.base)) xs) (filter (λ x. not (leb mark x.base)) xs)) (le-leb mark a.base (omega (arith, from, row.0)))
    ∙ before-none k (b + room a.size) mark xs row.2 (omega (arith, from))

pub kept-before : (k : AllocKind) (b mark : ℕ) (xs : List Allocation) (bs : List (Option Lists)) → IsRow k b xs → AreBlocksOf xs bs →
    AreBlocksOf (filter (λ a. not (leb mark a.base)) xs) (take (length (filter (λ a. not (leb mark a.base)) xs)) bs)
kept-before k b mark [] [] row kept = tt
kept-before k b mark [] (x ∷ bs) row kept = absurd kept
kept-before k b mark (a ∷ xs) [] row kept = absurd kept
kept-before k b mark (a ∷ xs) (x ∷ bs) row kept = ⊎_elim
    (λ (low : a.base < mark).
    subst (λ (c : Bool). AreBlocksOf (cond (not c) (a ∷ filter (λ y. not (leb mark y.base)) xs) (filter (λ y. not (leb mark y.base)) xs)) (take (length (cond (not c) (a ∷ filter (λ y. not (leb mark y.base)) xs) (filter (λ y. not (leb mark y.base)) xs))) (x ∷ bs)))
    (sym (lt-leb mark a.base low)) (kept.0, kept-before k (b + room a.size) mark xs bs row.2 kept.1))
    (λ (high : mark ≤ a.base).
    subst (λ (ys : List Allocation). AreBlocksOf ys (take (length ys) (x ∷ bs))) (sym (before-none k b mark (a ∷ xs) row (omega (arith, high, row.0)))) tt)
    (cases_lt a.base mark)

-- what is found among the first is found among all
pub found-before : (f : Lists → ℕ → ℕ) (k : AllocKind) (b mark : ℕ) (xs : List Allocation) (bs : List (Option Lists)) (addr : ℕ) → IsRow k b xs → AreBlocksOf xs bs →
    is_some (find (covers addr 1) (filter (λ a. not (leb mark a.base)) xs)) ≡ true →
    found f (filter (λ a. not (leb mark a.base)) xs) (take (length (filter (λ a. not (leb mark a.base)) xs)) bs) addr ≡ found f xs bs addr
found-before f k b mark [] [] addr row kept has = refl
found-before f k b mark [] (x ∷ bs) addr row kept has = refl
found-before f k b mark (a ∷ xs) [] addr row kept has = absurd kept
found-before f k b mark (a ∷ xs) (x ∷ bs) addr row kept has = ⊎_elim
    (λ (low : a.base < mark).
    let is : filter (λ y. not (leb mark y.base)) (a ∷ xs) ≡ a ∷ rest = ap (λ (c : Bool). cond (not c) (a ∷ rest) rest) (lt-leb mark a.base low) in
    ap (λ (ys : List Allocation). found f ys (take (length ys) (x ∷ bs)) addr) is
    ∙ ⊎_elim
    (λ (h : covers addr 1 a ≡ true). ap (λ c. if c then read f x (addr - a.base) else found f rest (take (length rest) bs) addr) h ∙ sym (ap (λ c. if c then read f x (addr - a.base) else found f xs bs addr) h))
    (λ (h : covers addr 1 a ≡ false).
    ap (λ (r : ℕ). if covers addr 1 a then read f x (addr - a.base) else r)
    (found-before f k (b + room a.size) mark xs bs addr row.2 kept.1
    (ap (λ c. is_some (cond c (Some a) (find (covers addr 1) rest))) (sym h) ∙ ap (λ (ys : List Allocation). is_some (find (covers addr 1) ys)) (sym is) ∙ has)))
    (cases_Bool (covers addr 1 a)))
    (λ (high : mark ≤ a.base).
    absurd (let e = ap (λ (ys : List Allocation). is_some (find (covers addr 1) ys)) (sym (before-none k b mark (a ∷ xs) row (omega (arith, high, row.0)))) ∙ has in cc))
    (cases_lt a.base mark)
  where
    rest : List Allocation
    rest = filter (λ y. not (leb mark y.base)) xs

pub row-even : (k : AllocKind) (b : ℕ) (xs : List Allocation) (i : ℕ) (d : Allocation) → IsRow k b xs → b % 16 ≡ 0 → i < length xs → (get_or xs i d).base % 16 ≡ 0
row-even k b [] i d row even lt = absurd (omega arith)
row-even k b (a ∷ xs) zero d row even lt = ap (λ (n : ℕ). n % 16) row.0 ∙ even
row-even k b (a ∷ xs) (suc i) d row even lt = row-even k (b + room a.size) xs i d row.2 (omega (arith, even)) (omega arith)
