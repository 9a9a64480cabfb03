-- Worlds that differ in poisoned bytes alone, and the changes that keep them so.
use Rattle.std.proofs.Common.{◌≡◌, ℕ, zero, suc, ◌+◌, ◌-◌, ◌*◌, ◌/◌, ◌%◌, ◌^◌, ◌<◌, List, [], ◌∷◌, ◌++◌, length, Bool, true, false, not, ◌&&◌, ◌||◌, eqb, leb, ltb, Option, Some, None, is_some, refl, sym, ap, ap₂, ◌∙◌, subst, arith, if◌then◌else◌, true≢false, ◌≤◌, All}
use Rattle.std.proofs.lemmas.Bool.{le-leb, leb-true}
use Rattle.ms_bits.specs.Completion.{Agrees}
use Rattle.ms_bits.specs.Maps.{within, with_range, byte_of, with_cell}
use Rattle.ms_ir.specs.Areas.{Area, Fixed, Heap, Stack}
use Rattle.ms_runs.specs.World.{Allocation, World, Setting}
use Rattle.ms_runs.specs.Memory.{fits, next_base, first_that, covers, is_good, set_bytes, set_shadow, set_cells, copy_bytes, copy_shadow, make, make_bytes, make_unset, store_number}
use Rattle.ms_runs.specs.Origins.{Chained, keeps_old, pair_index, chain, poison, mark_cells, store_origin}
use Rattle.ms_runs.specs.LowEqual.{LowWorld, SameBits}
use Rattle.ms_bits_laws.proofs.ByteAgreement.{byte_bit, ranges_agree, copies_agree}
use Rattle.ms_bits_laws.proofs.OperationAgreement.{nothing_outside_ones}
use Rattle.ms_runs_fills_laws.specs.Placed.{HeapPlaced}

-- a world whose bytes and shadow bytes are bytes, with allocations of a size that may be, and heap blocks in their places
pub record FitWorld (w : World) : Type 0 where
  pub bytes : (a : ℕ) → w.bytes a < 256
  pub shadow : (a : ℕ) → w.shadow a < 256
  pub sizes : All (λ a. a.size ≤ 2 ^ 26) w.allocs
  pub placed : HeapPlaced w

-- ---- one world with other bytes

-- what may differ: the bytes of memory, and the words that fibers answered
pub record Unseen : Type 0 where
  pub bytes : ℕ → ℕ
  pub answers : ℕ → ℕ

-- those of a world
abbrev pub unseen_of : World → Unseen
unseen_of v = record { bytes = v.bytes; answers = v.answers }

-- a world with others
abbrev pub other : World → Unseen → World
other w b = record w { bytes = b.bytes; answers = b.answers }

-- the words that fibers answered agree outside their masks
abbrev pub AnswersAgree : World → Unseen → Type 0
AnswersAgree w b = (k : ℕ) → SameBits (w.answer_masks k) (w.answers k) (b.answers k)

-- so do these, and bytes outside their shadow
abbrev pub BytesAlike : World → Unseen → Type 0
BytesAlike w b = ((a : ℕ) → Agrees 8 (w.shadow a) (w.bytes a) (b.bytes a)) × AnswersAgree w b

pub low_other : (w : World) (b : Unseen) → BytesAlike w b → LowWorld w (other w b)
low_other w b h = record { allocs = refl; shadow = refl; origins = refl; pairs = refl; made = refl; input = refl; output = refl; reports = refl; blind = refl; turn = refl; threads = refl; answer_masks = refl; answer_origins = refl; bytes = h.0; answers = h.1 }

pub other_is : (w v : World) → LowWorld w v → other w (unseen_of v) ≡ v
other_is w v h = λ i. record {
  allocs = h.allocs i;
  bytes = v.bytes;
  shadow = h.shadow i;
  origins = h.origins i;
  pairs = h.pairs i;
  made = h.made i;
  input = h.input i;
  output = h.output i;
  reports = h.reports i;
  blind = h.blind i;
  turn = h.turn i;
  threads = h.threads i;
  answers = v.answers;
  answer_masks = h.answer_masks i;
  answer_origins = h.answer_origins i;
}

-- what holds of a world with other bytes holds of each low equal one
pub by_bytes : (w : World) (P : World → Type 0) → ((b : Unseen) → BytesAlike w b → P (other w b)) → (v : World) → LowWorld w v → P v
by_bytes w P f v h = subst P (other_is w v h) (f (unseen_of v) (h.bytes, h.answers))

-- ---- ranges

pub within_none : (v x : ℕ) → within v 0 x ≡ false
within_none v x = by_test (leb v x) (ltb x (v + 0)) refl refl
  where
    by_test : (t u : Bool) → leb v x ≡ t → ltb x (v + 0) ≡ u → (t && u) ≡ false
    by_test false u e f = refl
    by_test true false e f = refl
    by_test true true e f = absurd (omega (arith, leb-true v x e, leb-true (suc x) (v + 0) f))

-- a range that is poisoned, where the bytes may differ
fresh_alike : (shadow f g : ℕ → ℕ) (v n : ℕ) → ((x : ℕ) → within v n x ≡ false → Agrees 8 (shadow x) (f x) (g x)) → (x : ℕ) → Agrees 8 (with_range shadow v n (λ k. 255) x) (f x) (g x)
fresh_alike shadow f g v n h x = by_test (within v n x) refl
  where
    by_test : (t : Bool) → within v n x ≡ t → Agrees 8 (if t then 255 else shadow x) (f x) (g x)
    by_test true e = nothing_outside_ones 8 (f x) (g x)
    by_test false e = h x e

-- a poisoning that is done where the bytes may differ
pub poisoned_low : (a from to origin : ℕ) (w : World) (b : Unseen)
    → ((x : ℕ) → within ((a + from) % 2 ^ 64) (to - from) x ≡ false → Agrees 8 (w.shadow x) (w.bytes x) (b.bytes x)) → AnswersAgree w b
    → (from < to → is_good w ((a + from) % 2 ^ 64) (to - from) ≡ true)
    → LowWorld (poison a from to origin w) (poison a from to origin (other w b))
poisoned_low a from to origin w b outside answers good = by_test (ltb from to) (is_good w p n) refl refl
  where
    p : ℕ
    p = (a + from) % 2 ^ 64

    n : ℕ
    n = to - from

    by_test : (t u : Bool) → ltb from to ≡ t → is_good w ((a + from) % 2 ^ 64) (to - from) ≡ u
        → LowWorld (if t && u then set_cells ((a + from) % 2 ^ 64) (to - from) origin (set_shadow ((a + from) % 2 ^ 64) (to - from) (λ k. 255) w) else w)
        (if t && u then set_cells ((a + from) % 2 ^ 64) (to - from) origin (set_shadow ((a + from) % 2 ^ 64) (to - from) (λ k. 255) (other w b)) else (other w b))
    by_test true true e g = record {
      allocs = refl;
      shadow = refl;
      origins = refl;
      pairs = refl;
      made = refl;
      input = refl;
      output = refl;
      reports = refl;
      blind = refl;
      turn = refl;
      threads = refl;
      answer_masks = refl;
      answer_origins = refl;
      answers = answers;
      bytes = fresh_alike w.shadow w.bytes b.bytes ((a + from) % 2 ^ 64) (to - from) outside;
    }
    by_test true false e g = absurd (true≢false (sym (good (leb-true (suc from) to e)) ∙ g))
    by_test false u e g =
        low_other w b (λ x. outside x (ap (λ k. within ((a + from) % 2 ^ 64) k x) (none from to e) ∙ within_none ((a + from) % 2 ^ 64) x), answers)
      where
        none : (from to : ℕ) → ltb from to ≡ false → to - from ≡ 0
        none from to e = grind arith

-- any poisoning keeps worlds low
pub poison_low : (a from to origin : ℕ) (w v : World) → LowWorld w v → LowWorld (poison a from to origin w) (poison a from to origin v)
poison_low a from to origin w v h = by_bytes w (λ u. LowWorld (poison a from to origin w) (poison a from to origin u)) (λ b k. go b k (ltb from to && is_good w ((a + from) % 2 ^ 64) (to - from))) v h
  where
    go : (b : Unseen) → BytesAlike w b → (t : Bool)
        → LowWorld (if t then set_cells ((a + from) % 2 ^ 64) (to - from) origin (set_shadow ((a + from) % 2 ^ 64) (to - from) (λ k. 255) w) else w)
        (if t then set_cells ((a + from) % 2 ^ 64) (to - from) origin (set_shadow ((a + from) % 2 ^ 64) (to - from) (λ k. 255) (other w b)) else (other w b))
    go b k true = record {
      allocs = refl;
      shadow = refl;
      origins = refl;
      pairs = refl;
      made = refl;
      input = refl;
      output = refl;
      reports = refl;
      blind = refl;
      turn = refl;
      threads = refl;
      answer_masks = refl;
      answer_origins = refl;
      answers = k.1;
      bytes = fresh_alike w.shadow w.bytes b.bytes ((a + from) % 2 ^ 64) (to - from) (λ x e. k.0 x);
    }
    go b k false = low_other w b k

-- ---- allocations made anew

found_last : (f : Allocation → Bool) (xs : List Allocation) (a : Allocation) → f a ≡ true → is_some (first_that f (xs ++ a ∷ [])) ≡ true
found_last f [] a e = ap (λ t. is_some (if t then Some a else None)) e
found_last f (x ∷ xs) a e = by_test (f x) (found_last f xs a e)
  where
    by_test : (t : Bool) → is_some (first_that f (xs ++ a ∷ [])) ≡ true → is_some (if t then Some x else first_that f (xs ++ a ∷ [])) ≡ true
    by_test true r = refl
    by_test false r = r

covers_itself : (base n : ℕ) (area : Area) → covers base n (record { base = base; size = n; area = area; live = true }) ≡ true
covers_itself base n area = ap₂ (λ t u. t && u) (le-leb base base (omega arith)) (le-leb (base + n) (base + n) (omega arith))

-- a new allocation is good, in every world that has it last
pub made_good : (w : World) (xs : List Allocation) (base n : ℕ) (area : Area) → w.allocs ≡ xs ++ (record { base = base; size = n; area = area; live = true }) ∷ [] → is_good w base n ≡ true
made_good w xs base n area e = by_test (eqb n 0) (is_some (first_that (covers base n) w.allocs)) (ap (λ l. is_some (first_that (covers base n) l)) e ∙ found_last (covers base n) xs _ (covers_itself base n area))
  where
    by_test : (t u : Bool) → u ≡ true → (if t then true else u) ≡ true
    by_test true u h = refl
    by_test false u h = h

pub base_fits : (area : Area) (n : ℕ) (w : World) → fits area n w ≡ true → next_base area w < 2 ^ 64
base_fits Fixed n w e = omega (arith, leb-true _ _ e)
base_fits Heap n w e = omega (arith, leb-true _ _ e)
base_fits Stack n w e = omega (arith, leb-true _ _ e)

-- bytes outside a range that was made anew
outside_made : (t : Bool) → t ≡ false → (m x y a c e f : ℕ) → Agrees 8 m x y → Agrees 8 (if t then 0 else m) (if t then a else (if t then c else x)) (if t then e else (if t then f else y))
outside_made true z m x y a c e f h = absurd (true≢false z)
outside_made false z m x y a c e f h = h

-- uninitialised bytes are poisoned
pub made_low : (fill others : List ℕ) (area : Area) (n root : ℕ) (w : World) (b : Unseen) → BytesAlike w b → fits area n w ≡ true
    → LowWorld (poison (next_base area w) 0 n root (make_unset fill area n w)) (poison (next_base area w) 0 n root (make_unset others area n (other w b)))
made_low fill others area n root w b h fit =
    poisoned_low (next_base area w) 0 n root (make_unset fill area n w) (unseen_of (make_unset others area n (other w b)))
    (λ x e. outside_made (within (next_base area w) n x) (sym (ap₂ (λ p k. within p k x) start (whole n)) ∙ e) (w.shadow x) (w.bytes x) (b.bytes x) _ _ _ _ (h.0 x)) h.1
    (λ l. ap₂ (λ p k. is_good (make_unset fill area n w) p k) start (whole n) ∙ made_good (make_unset fill area n w) w.allocs (next_base area w) n area refl)
  where
    small : (x : ℕ) → x < 2 ^ 64 → (x + 0) % 2 ^ 64 ≡ x
    small x l = omega (arith, l)

    start : (next_base area w + 0) % 2 ^ 64 ≡ next_base area w
    start = small (next_base area w) (base_fits area n w fit)

    whole : (n : ℕ) → n - 0 ≡ n
    whole n = omega arith

-- zero bytes are clean
pub zeros_low : (area : Area) (n : ℕ) (w : World) (b : Unseen) → BytesAlike w b → LowWorld (make area n w) (make area n (other w b))
zeros_low area n w b h = record {
  allocs = refl;
  shadow = refl;
  origins = refl;
  pairs = refl;
  made = refl;
  input = refl;
  output = refl;
  reports = refl;
  blind = refl;
  turn = refl;
  threads = refl;
  answer_masks = refl;
  answer_origins = refl;
  answers = h.1;
  bytes = ranges_agree w.shadow w.bytes b.bytes (next_base area w) n (λ k. 0) (λ k. 0) (λ k. 0) h.0 (λ k i l z. refl);
}

-- uninitialised bytes made anew in good bytes, as `lifetime.start` makes them
pub remade_low : (fill others : List ℕ) (a n root : ℕ) (w : World) (b : Unseen) → BytesAlike w b → a < 2 ^ 64 → is_good w a n ≡ true
    → LowWorld (poison a 0 n root (make_bytes fill a n w)) (poison a 0 n root (make_bytes others a n (other w b)))
remade_low fill others a n root w b h small good =
    poisoned_low a 0 n root (make_bytes fill a n w) (unseen_of (make_bytes others a n (other w b)))
    (λ x e. outside (within a n x) (sym (ap₂ (λ p k. within p k x) start (whole n)) ∙ e) _ _ _ _ _ (h.0 x)) h.1
    (λ l. ap₂ (λ p k. is_good w p k) start (whole n) ∙ good)
  where
    outside : (t : Bool) → t ≡ false → (m x y a c : ℕ) → Agrees 8 m x y → Agrees 8 m (if t then a else x) (if t then c else y)
    outside true z m x y a c h = absurd (true≢false z)
    outside false z m x y a c h = h

    start : (a + 0) % 2 ^ 64 ≡ a
    start = omega (arith, small)

    whole : (n : ℕ) → n - 0 ≡ n
    whole n = omega arith

-- ---- stores, copies, fills

pub byte_alike : (m a c k : ℕ) → SameBits m a c → Agrees 8 (byte_of m k) (byte_of a k) (byte_of c k)
byte_alike m a c k h i l z = byte_bit k a i l ∙ h (8 * k + i) (sym (byte_bit k m i l) ∙ z) ∙ sym (byte_bit k c i l)

pub low_byte_alike : (m a c : ℕ) → SameBits m a c → Agrees 8 (m % 256) (a % 256) (c % 256)
low_byte_alike m a c h = byte_alike m a c 0 h

pub stored_low : (a n m x y : ℕ) (w : World) (b : Unseen) → BytesAlike w b → SameBits m x y
    → LowWorld (set_shadow a n (byte_of m) (store_number a n x w)) (set_shadow a n (byte_of m) (store_number a n y (other w b)))
stored_low a n m x y w b h k = record {
  allocs = refl;
  shadow = refl;
  origins = refl;
  pairs = refl;
  made = refl;
  input = refl;
  output = refl;
  reports = refl;
  blind = refl;
  turn = refl;
  threads = refl;
  answer_masks = refl;
  answer_origins = refl;
  answers = h.1;
  bytes = ranges_agree w.shadow w.bytes b.bytes a n (byte_of m) (byte_of x) (byte_of y) h.0 (λ j. byte_alike m x y j k);
}

pub copied_low : (to from n : ℕ) (w : World) (b : Unseen) → BytesAlike w b
    → LowWorld (copy_shadow to from n (copy_bytes to from n w)) (copy_shadow to from n (copy_bytes to from n (other w b)))
copied_low to from n w b h = record {
  allocs = refl;
  shadow = refl;
  origins = refl;
  pairs = refl;
  made = refl;
  input = refl;
  output = refl;
  reports = refl;
  blind = refl;
  turn = refl;
  threads = refl;
  answer_masks = refl;
  answer_origins = refl;
  answers = h.1;
  bytes = copies_agree w.shadow w.bytes b.bytes to from n h.0;
}

-- equal bytes are written
pub same_bytes_low : (a n : ℕ) (new : ℕ → ℕ) (w : World) (b : Unseen) → BytesAlike w b → BytesAlike (set_bytes a n new w) (unseen_of (set_bytes a n new (other w b)))
same_bytes_low a n new w b h = (λ x. by_test x (within a n x), h.1)
  where
    by_test : (x : ℕ) (t : Bool) → Agrees 8 (w.shadow x) (if t then new (x - a) else w.bytes x) (if t then new (x - a) else b.bytes x)
    by_test x true = λ i l z. refl
    by_test x false = h.0 x

-- equal bytes, made clean
pub clean_bytes_low : (a n : ℕ) (new : ℕ → ℕ) (w : World) (b : Unseen) → BytesAlike w b
    → LowWorld (set_shadow a n (λ k. 0) (set_bytes a n new w)) (set_shadow a n (λ k. 0) (set_bytes a n new (other w b)))
clean_bytes_low a n new w b h = record {
  allocs = refl;
  shadow = refl;
  origins = refl;
  pairs = refl;
  made = refl;
  input = refl;
  output = refl;
  reports = refl;
  blind = refl;
  turn = refl;
  threads = refl;
  answer_masks = refl;
  answer_origins = refl;
  answers = h.1;
  bytes = ranges_agree w.shadow w.bytes b.bytes a n (λ k. 0) new new h.0 (λ k i l z. refl);
}

-- one byte is written into a range
pub filled_low : (a n m x y : ℕ) (w : World) (b : Unseen) → BytesAlike w b → Agrees 8 m x y
    → LowWorld (set_shadow a n (λ k. m) (set_bytes a n (λ k. x) w)) (set_shadow a n (λ k. m) (set_bytes a n (λ k. y) (other w b)))
filled_low a n m x y w b h k = record {
  allocs = refl;
  shadow = refl;
  origins = refl;
  pairs = refl;
  made = refl;
  input = refl;
  output = refl;
  reports = refl;
  blind = refl;
  turn = refl;
  threads = refl;
  answer_masks = refl;
  answer_origins = refl;
  answers = h.1;
  bytes = ranges_agree w.shadow w.bytes b.bytes a n (λ k. m) (λ k. x) (λ k. y) h.0 (λ j. k);
}

-- nothing is written
pub empty_low : (a : ℕ) (mask new others : ℕ → ℕ) (w : World) (b : Unseen) → BytesAlike w b
    → LowWorld (set_shadow a 0 mask (set_bytes a 0 new w)) (set_shadow a 0 mask (set_bytes a 0 others (other w b)))
empty_low a mask new others w b h = record {
  allocs = refl;
  shadow = refl;
  origins = refl;
  pairs = refl;
  made = refl;
  input = refl;
  output = refl;
  reports = refl;
  blind = refl;
  turn = refl;
  threads = refl;
  answer_masks = refl;
  answer_origins = refl;
  answers = h.1;
  bytes = λ x. by_test (within a 0 x) (within_none a x) x;
}
  where
    by_test : (t : Bool) → t ≡ false → (x : ℕ) → Agrees 8 (if t then mask (x - a) else w.shadow x) (if t then new (x - a) else w.bytes x) (if t then others (x - a) else b.bytes x)
    by_test true e x = absurd (true≢false e)
    by_test false e x = h.0 x

-- ---- origins

-- an origin is chained alike
pub record ChainedLow (c d : Chained) : Type 0 where
  pub id : c.id ≡ d.id
  pub world : LowWorld c.world d.world

pub chain_low : (s : Setting) (old site : ℕ) (w v : World) → LowWorld w v → ChainedLow (chain s old site w) (chain s old site v)
chain_low s old site w v h =
    by_bytes w (λ u. ChainedLow (chain s old site w) (chain s old site u)) (λ b k. go b k (keeps_old s w old) (pair_index w.pairs old site)) v h
  where
    go : (b : Unseen) → BytesAlike w b → (t : Bool) (o : Option ℕ)
        → ChainedLow
        (if t then record { id = old; world = w } else
        elim o [
          | Some k ↦ record { id = s.roots + 1 + k; world = w }
          | None ↦ record { id = s.roots + 1 + length w.pairs; world = record w { pairs = w.pairs ++ (old, site) ∷ [] } }
        ])
        (if t then record { id = old; world = other w b } else
        elim o [
          | Some k ↦ record { id = s.roots + 1 + k; world = other w b }
          | None ↦ record { id = s.roots + 1 + length w.pairs; world = record (other w b) { pairs = w.pairs ++ (old, site) ∷ [] } }
        ])
    go b k true o = record { id = refl; world = low_other w b k }
    go b k false (Some n) = record { id = refl; world = low_other w b k }
    go b k false None = record {
      id = refl;
      world = record { allocs = refl; shadow = refl; origins = refl; pairs = refl; made = refl; input = refl; output = refl; reports = refl; blind = refl; turn = refl; threads = refl; answer_masks = refl; answer_origins = refl; bytes = k.0; answers = k.1 };
    }

pub marked_low : (n a mask origin : ℕ) (w v : World) → LowWorld w v → LowWorld (mark_cells n a mask origin w) (mark_cells n a mask origin v)
marked_low zero a mask origin w v h = h
marked_low (suc n) a mask origin w v h =
    marked_low n (a + 1) (mask / 256) origin _ _
    (by_bytes w (λ u. LowWorld (if eqb (mask % 256) 0 || not (is_good w a 1) then w else record w { origins = with_cell w.origins a origin })
    (if eqb (mask % 256) 0 || not (is_good u a 1) then u else record u { origins = with_cell u.origins a origin }))
    (λ b k. go b k (eqb (mask % 256) 0 || not (is_good w a 1))) v h)
  where
    go : (b : Unseen) → BytesAlike w b → (t : Bool)
        → LowWorld (if t then w else record w { origins = with_cell w.origins a origin }) (if t then other w b else record (other w b) { origins = with_cell w.origins a origin })
    go b k true = low_other w b k
    go b k false = record { allocs = refl; shadow = refl; origins = refl; pairs = refl; made = refl; input = refl; output = refl; reports = refl; blind = refl; turn = refl; threads = refl; answer_masks = refl; answer_origins = refl; bytes = k.0; answers = k.1 }

pub store_origin_low : (s : Setting) (a mask origin site : ℕ) (w v : World) → LowWorld w v → LowWorld (store_origin s a mask origin site w) (store_origin s a mask origin site v)
store_origin_low s a mask origin site w v h = go (eqb mask 0)
  where
    go : (t : Bool)
        → LowWorld (if t then w else let chained = chain s origin site w in mark_cells 8 a mask chained.id chained.world)
        (if t then v else let chained = chain s origin site v in mark_cells 8 a mask chained.id chained.world)
    go true = h
    go false =
        let c = chain_low s origin site w v h in
        subst (λ k. LowWorld (mark_cells 8 a mask (chain s origin site w).id (chain s origin site w).world) (mark_cells 8 a mask k (chain s origin site v).world)) c.id
        (marked_low 8 a mask (chain s origin site w).id _ _ c.world)
