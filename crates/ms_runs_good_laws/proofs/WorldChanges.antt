-- What memory, shadow, origins, input and output become keeps a world good.
use Rattle.std.proofs.Common.{◌≡◌, ◌<◌, ◌≤◌, ℕ, zero, suc, ◌+◌, ◌-◌, ◌/◌, ◌%◌, ◌^◌, List, [], ◌∷◌, ◌++◌, length, map, get_or, filter, Bool, true, false, not, ◌&&◌, ◌||◌, leb, ltb, eqb, Option, Some, None, option_map, unwrap_or, All, refl, ap, arith, if◌then◌else◌, leb-false}
use Rattle.std.proofs.lemmas.Nat.{mod_below}
use Rattle.std.proofs.lemmas.Bool.{or_parts}
use Rattle.std.proofs.lemmas.List.Elements.{All-tail, All-push, All-map, All-filter}
use Rattle.std.proofs.lemmas.List.{length-append}
use Rattle.ms_bits.specs.Fill.{made_byte}
use Rattle.ms_bits.specs.Maps.{within, with_range, byte_of, touches, with_cells, with_cell, copied_cells}
use Rattle.ms_runs.specs.declared.runs.Report.{Report}
use Rattle.ms_ir.specs.Areas.{Area}
use Rattle.ms_runs.specs.World.{Thread, Allocation, World, Setting}
use Rattle.ms_runs.specs.Memory.{next_base, is_heap_block, is_good, set_bytes, copy_bytes, make_bytes, set_shadow, set_cells, copy_shadow, make, make_unset, end_block, end_blocks, keeps}
use Rattle.ms_runs.specs.Control.{Frame, release, given_back}
use Rattle.ms_runs.specs.Origins.{pair_index, Chained, keeps_old, trail, depth_limit, chain, poison, unpoison, copy_planes, fill_planes, mark_cells, store_origin, thread_result}
use Rattle.ms_runs.specs.Threads.{thread_at, has_ended}
use Rattle.ms_runs_good_laws.specs.GoodWorlds.{GoodWorld}
use Rattle.ms_bits_laws.proofs.MapLemmas.{byte_of-lt}

-- what holds of both choices holds of the one that is taken
pub chosen : {A : Type 0} (Q : A → Type 0) (t : Bool) (x y : A) → (t ≡ true → Q x) → (t ≡ false → Q y) → Q (if t then x else y)
chosen Q true x y f g = f refl
chosen Q false x y f g = g refl

pub either : {A : Type 0} (Q : A → Type 0) (t : Bool) (x y : A) → Q x → Q y → Q (if t then x else y)
either Q t x y f g = chosen Q t x y (λ e. f) (λ e. g)

-- ---- maps

pub range_keeps : (Q : ℕ → Type 0) (old : ℕ → ℕ) (a n : ℕ) (new : ℕ → ℕ) → ((x : ℕ) → Q (old x)) → ((k : ℕ) → Q (new k)) → (x : ℕ) → Q (with_range old a n new x)
range_keeps Q old a n new f g x = either Q (within a n x) (new (x - a)) (old x) (g (x - a)) (f x)

pub item_below : (bs : List ℕ) → All (λ b. b < 256) bs → (k : ℕ) → get_or bs k 0 < 256
item_below [] h k = omega arith
item_below (b ∷ bs) h zero = h 0 b (omega arith)
item_below (b ∷ bs) h (suc k) = item_below bs (All-tail (λ c. c < 256) b bs h) k

pub made_below : (fill : List ℕ) → All (λ b. b < 256) fill → (k : ℕ) → made_byte fill k < 256
unfolding made_byte
made_below fill h k = item_below fill h (k % length fill)

cells_keep : (Q : ℕ → Type 0) (cells : ℕ → ℕ) (a n origin : ℕ) → ((c : ℕ) → Q (cells c)) → Q origin → (c : ℕ) → Q (with_cells cells a n origin c)
cells_keep Q cells a n origin f o c = either Q (touches a n c) origin (cells c) o (f c)

cell_keeps : (Q : ℕ → Type 0) (cells : ℕ → ℕ) (a origin : ℕ) → ((c : ℕ) → Q (cells c)) → Q origin → (c : ℕ) → Q (with_cell cells a origin c)
cell_keeps Q cells a origin f o c = either Q (eqb c (a / 4)) origin (cells c) o (f c)

copies_keep : (Q : ℕ → Type 0) (shadow old : ℕ → ℕ) (to from n : ℕ) (cells : ℕ → ℕ) → ((c : ℕ) → Q (old c)) → ((c : ℕ) → Q (cells c)) → (c : ℕ) → Q (copied_cells shadow old to from n cells c)
copies_keep Q shadow old to from zero cells o f = f
copies_keep Q shadow old to from (suc n) cells o f =
    copies_keep Q shadow old (to + 1) (from + 1) n (if eqb (shadow from) 0 then cells else with_cell cells to (old (from / 4))) o
    (either (λ g. (c : ℕ) → Q (g c)) (eqb (shadow from) 0) cells (with_cell cells to (old (from / 4))) f (cell_keeps Q cells to (old (from / 4)) f (o (from / 4))))

-- ---- one part of a world

module _ (P : ℕ → Type 0) (w : World) (g : GoodWorld P w) where
  pub with_bytes : (new : ℕ → ℕ) → ((a : ℕ) → new a < 256) → GoodWorld P (record w { bytes = new })
  with_bytes new h = record {
    bytes = h;
    shadow = g.shadow;
    origins = g.origins;
    pairs = g.pairs;
    input = g.input;
    output = g.output;
    sizes = g.sizes;
    answers = g.answers;
  }

  pub with_shadow : (new : ℕ → ℕ) → ((a : ℕ) → new a < 256) → GoodWorld P (record w { shadow = new })
  with_shadow new h = record {
    bytes = g.bytes;
    shadow = h;
    origins = g.origins;
    pairs = g.pairs;
    input = g.input;
    output = g.output;
    sizes = g.sizes;
    answers = g.answers;
  }

  pub with_origins : (new : ℕ → ℕ) → ((c : ℕ) → P (new c)) → GoodWorld P (record w { origins = new })
  with_origins new h = record {
    bytes = g.bytes;
    shadow = g.shadow;
    origins = h;
    pairs = g.pairs;
    input = g.input;
    output = g.output;
    sizes = g.sizes;
    answers = g.answers;
  }

  pub with_pairs : (new : List (ℕ × ℕ)) → length new ≤ 1048576 → GoodWorld P (record w { pairs = new })
  with_pairs new h = record {
    bytes = g.bytes;
    shadow = g.shadow;
    origins = g.origins;
    pairs = h;
    input = g.input;
    output = g.output;
    sizes = g.sizes;
    answers = g.answers;
  }

  pub with_input : (new : List ℕ) → All (λ b. b < 256) new → GoodWorld P (record w { input = new })
  with_input new h = record {
    bytes = g.bytes;
    shadow = g.shadow;
    origins = g.origins;
    pairs = g.pairs;
    input = h;
    output = g.output;
    sizes = g.sizes;
    answers = g.answers;
  }

  -- fibers are no part of it
  pub with_threads : (new : List Thread) → GoodWorld P (record w { threads = new })
  with_threads new = record {
    bytes = g.bytes;
    shadow = g.shadow;
    origins = g.origins;
    pairs = g.pairs;
    input = g.input;
    output = g.output;
    sizes = g.sizes;
    answers = g.answers;
  }

  pub with_output : (new : List ℕ) → All (λ b. b < 256) new → GoodWorld P (record w { output = new })
  with_output new h = record {
    bytes = g.bytes;
    shadow = g.shadow;
    origins = g.origins;
    pairs = g.pairs;
    input = g.input;
    output = h;
    sizes = g.sizes;
    answers = g.answers;
  }

  pub with_allocs : (new : List Allocation) → All (λ a. a.size ≤ 2 ^ 26) new → GoodWorld P (record w { allocs = new })
  with_allocs new h = record {
    bytes = g.bytes;
    shadow = g.shadow;
    origins = g.origins;
    pairs = g.pairs;
    input = g.input;
    output = g.output;
    sizes = h;
    answers = g.answers;
  }

  -- the count of bytes made, reports and the count of blind uses are free
  pub with_made : (n : ℕ) → GoodWorld P (record w { made = n })
  with_made n = record {
    bytes = g.bytes;
    shadow = g.shadow;
    origins = g.origins;
    pairs = g.pairs;
    input = g.input;
    output = g.output;
    sizes = g.sizes;
    answers = g.answers;
  }

  pub with_reports : (new : List Report) → GoodWorld P (record w { reports = new })
  with_reports new = record {
    bytes = g.bytes;
    shadow = g.shadow;
    origins = g.origins;
    pairs = g.pairs;
    input = g.input;
    output = g.output;
    sizes = g.sizes;
    answers = g.answers;
  }

  pub with_blind : (n : ℕ) → GoodWorld P (record w { blind = n })
  with_blind n = record {
    bytes = g.bytes;
    shadow = g.shadow;
    origins = g.origins;
    pairs = g.pairs;
    input = g.input;
    output = g.output;
    sizes = g.sizes;
    answers = g.answers;
  }

-- ---- memory

module _ (P : ℕ → Type 0) where
  pub set_bytes_good : (a n : ℕ) (new : ℕ → ℕ) (w : World) → GoodWorld P w → ((k : ℕ) → new k < 256) → GoodWorld P (set_bytes a n new w)
  set_bytes_good a n new w g h = with_bytes P w g (with_range w.bytes a n new) (range_keeps (λ b. b < 256) w.bytes a n new g.bytes h)

  pub copy_bytes_good : (to from n : ℕ) (w : World) → GoodWorld P w → GoodWorld P (copy_bytes to from n w)
  copy_bytes_good to from n w g = set_bytes_good to n (λ k. w.bytes (from + k)) w g (λ k. g.bytes (from + k))

  pub make_bytes_good : (fill : List ℕ) (a n : ℕ) (w : World) → All (λ b. b < 256) fill → GoodWorld P w → GoodWorld P (make_bytes fill a n w)
  make_bytes_good fill a n w h g =
      let bytes = set_bytes_good a n (λ k. made_byte fill (w.made + k)) w g (λ k. made_below fill h (w.made + k)) in
      with_made P (set_bytes a n (λ k. made_byte fill (w.made + k)) w) bytes (w.made + n)

  pub set_shadow_good : (a n : ℕ) (new : ℕ → ℕ) (w : World) → GoodWorld P w → ((k : ℕ) → new k < 256) → GoodWorld P (set_shadow a n new w)
  set_shadow_good a n new w g h = with_shadow P w g (with_range w.shadow a n new) (range_keeps (λ b. b < 256) w.shadow a n new g.shadow h)

  pub set_cells_good : (a n origin : ℕ) (w : World) → GoodWorld P w → P origin → GoodWorld P (set_cells a n origin w)
  set_cells_good a n origin w g o = with_origins P w g (with_cells w.origins a n origin) (cells_keep P w.origins a n origin g.origins o)

  pub copy_shadow_good : (to from n : ℕ) (w : World) → GoodWorld P w → GoodWorld P (copy_shadow to from n w)
  copy_shadow_good to from n w g =
      let shadow = set_shadow_good to n (λ k. w.shadow (from + k)) w g (λ k. g.shadow (from + k)) in
      with_origins P (set_shadow to n (λ k. w.shadow (from + k)) w) shadow (copied_cells w.shadow w.origins to from n w.origins)
      (copies_keep P w.shadow w.origins to from n w.origins g.origins g.origins)

  pub make_good : (area : Area) (n : ℕ) (w : World) → GoodWorld P w → P 0 → n ≤ 2 ^ 26 → GoodWorld P (make area n w)
  make_good area n w g o small =
      let added = w.allocs ++ record { base = next_base area w; size = n; area = area; live = true } ∷ [] in
      let one = with_allocs P w g added (All-push (λ a. a.size ≤ 2 ^ 26) w.allocs (record { base = next_base area w; size = n; area = area; live = true }) g.sizes small) in
      let two = set_bytes_good (next_base area w) n (λ k. 0) (record w { allocs = added }) one (λ k. omega arith) in
      let three = set_shadow_good (next_base area w) n (λ k. 0) (set_bytes (next_base area w) n (λ k. 0) (record w { allocs = added })) two (λ k. omega arith) in
      set_cells_good (next_base area w) n 0 (set_shadow (next_base area w) n (λ k. 0) (set_bytes (next_base area w) n (λ k. 0) (record w { allocs = added }))) three o

  pub make_unset_good : (fill : List ℕ) (area : Area) (n : ℕ) (w : World) → All (λ b. b < 256) fill → GoodWorld P w → P 0 → n ≤ 2 ^ 26 → GoodWorld P (make_unset fill area n w)
  make_unset_good fill area n w h g o small = make_bytes_good fill (next_base area w) n (make area n w) h (make_good area n w g o small)

  pub end_block_good : (p : ℕ) (w : World) → GoodWorld P w → GoodWorld P (end_block p w)
  end_block_good p w g = with_allocs P w g (map (λ a. if is_heap_block p a then record a { live = false } else a) w.allocs)
      (All-map (λ a. a.size ≤ 2 ^ 26) (λ a. if is_heap_block p a then record a { live = false } else a) w.allocs (λ k d l. ended (is_heap_block p (get_or w.allocs k d)) (get_or w.allocs k d) (g.sizes k d l)))
    where
      ended : (t : Bool) (a : Allocation) → a.size ≤ 2 ^ 26 → (if t then record a { live = false } else a).size ≤ 2 ^ 26
      ended true a h = h
      ended false a h = h

  pub release_good : (mark : ℕ) (w : World) → GoodWorld P w → GoodWorld P (release mark w)
  release_good mark w g = with_allocs P w g (filter (keeps mark) w.allocs) (All-filter (keeps mark) (λ a. a.size ≤ 2 ^ 26) w.allocs g.sizes)

  end_blocks_good : (ps : List ℕ) (w : World) → GoodWorld P w → GoodWorld P (end_blocks ps w)
  end_blocks_good [] w g = g
  end_blocks_good (p ∷ rest) w g = end_blocks_good rest (end_block p w) (end_block_good p w g)

  -- what a return takes back
  pub given_back_good : {V : Type 0} (frame : Frame V) (w : World) → GoodWorld P w → GoodWorld P (given_back frame w)
  given_back_good frame w g =
      end_blocks_good frame.heap (if eqb frame.mark 0 then w else release frame.mark w)
      (either (GoodWorld P) (eqb frame.mark 0) w (release frame.mark w) g (release_good frame.mark w g))

-- ---- origins and shadow

-- what a run keeps of its setting: the bytes of its fill, and that as many pairs as may stand have origins as is asked
pub record GoodSetting (P : ℕ → Type 0) (setting : Setting) : Type 0 where
  pub fill : All (λ b. b < 256) setting.fill
  pub none : P 0
  pub chained : (k : ℕ) → k ≤ 1048576 → P (setting.roots + 1 + k)

pub pair_found : (pairs : List (ℕ × ℕ)) (old site k : ℕ) → pair_index pairs old site ≡ Some k → k < length pairs
pair_found [] old site k e = grind arith
pair_found (p ∷ rest) old site k e = by_test (eqb p.0 old && eqb p.1 site) (λ j d. pair_found rest old site j d) k e
  where
    by_index : (o : Option ℕ) → ((j : ℕ) → o ≡ Some j → j < length rest) → (k : ℕ) → option_map suc o ≡ Some k → k < suc (length rest)
    by_index None h k e = grind arith
    by_index (Some j) h k e = let l : j < length rest = h j refl in let same : suc j ≡ k = ap (λ o. unwrap_or o k) e in omega (arith, l, same)

    by_test : (t : Bool) → ((j : ℕ) → pair_index rest old site ≡ Some j → j < length rest) → (k : ℕ)
        → (if t then Some 0 else option_map suc (pair_index rest old site)) ≡ Some k → k < suc (length rest)
    by_test true later k e = let same : 0 ≡ k = ap (λ o. unwrap_or o k) e in omega (arith, same)
    by_test false later k e = by_index (pair_index rest old site) later k e

-- a world, with an origin
pub record GoodChained (P : ℕ → Type 0) (c : Chained) : Type 0 where
  pub id : P c.id
  pub world : GoodWorld P c.world

module _ (P : ℕ → Type 0) (setting : Setting) (given : GoodSetting P setting) where
  pub chain_good : (old site : ℕ) (w : World) → GoodWorld P w → P old → GoodChained P (chain setting old site w)
  chain_good old site w g o = chosen (GoodChained P) (keeps_old setting w old) (record { id = old; world = w }) made
      (λ e. record { id = o; world = g }) (λ e. by_index (pair_index w.pairs old site) refl (few e))
    where
      made : Chained
      made = elim (pair_index w.pairs old site) [
        | Some k ↦ record { id = setting.roots + 1 + k; world = w }
        | None ↦ record { id = setting.roots + 1 + length w.pairs; world = record w { pairs = w.pairs ++ (old, site) ∷ [] } }
      ]

      few : keeps_old setting w old ≡ false → length w.pairs < 1048576
      few e = leb-false 1048576 (length w.pairs) (or_parts (eqb (length (trail setting w old)) 0 || ltb depth_limit (length (trail setting w old))) (leb 1048576 (length w.pairs)) e).1

      by_index : (q : Option ℕ) → pair_index w.pairs old site ≡ q → length w.pairs < 1048576 → GoodChained P (elim q [
        | Some k ↦ record { id = setting.roots + 1 + k; world = w }
        | None ↦ record { id = setting.roots + 1 + length w.pairs; world = record w { pairs = w.pairs ++ (old, site) ∷ [] } }
      ])
      by_index (Some k) e l = record { id = given.chained k (omega (arith, pair_found w.pairs old site k e, g.pairs)); world = g }
      by_index None e l = record { id = given.chained (length w.pairs) (omega (arith, l)); world = with_pairs P w g (w.pairs ++ (old, site) ∷ []) (omega (arith, l, length-append w.pairs ((old, site) ∷ []))) }

  pub poison_good : (a from to origin : ℕ) (w : World) → GoodWorld P w → P origin → GoodWorld P (poison a from to origin w)
  poison_good a from to origin w g o =
      let p = (a + from) % 2 ^ 64 in let n = to - from in
      either (GoodWorld P) (ltb from to && is_good w p n) (set_cells p n origin (set_shadow p n (λ k. 255) w)) w
      (set_cells_good P p n origin (set_shadow p n (λ k. 255) w) (set_shadow_good P p n (λ k. 255) w g (λ k. omega arith)) o) g

  pub unpoison_good : (a n : ℕ) (w : World) → GoodWorld P w → GoodWorld P (unpoison a n w)
  unpoison_good a n w g = either (GoodWorld P) (is_good w a n) (set_shadow a n (λ k. 0) w) w (set_shadow_good P a n (λ k. 0) w g (λ k. omega arith)) g

  pub copy_planes_good : (to from n : ℕ) (w : World) → GoodWorld P w → GoodWorld P (copy_planes to from n w)
  copy_planes_good to from n w g = either (GoodWorld P) (is_good w to n && is_good w from n) (copy_shadow to from n w) w (copy_shadow_good P to from n w g) g

  pub fill_planes_good : (a n mask origin site : ℕ) (w : World) → GoodWorld P w → P origin → GoodWorld P (fill_planes setting a n mask origin site w)
  fill_planes_good a n mask origin site w g o =
      let chained = chain setting origin site w in
      let good = chain_good origin site w g o in
      let marked = set_cells a n chained.id (set_shadow a n (λ k. mask % 256) chained.world) in
      either (GoodWorld P) (not (is_good w a n)) w (if eqb (mask % 256) 0 || eqb n 0 then set_shadow a n (λ k. 0) w else marked) g
      (either (GoodWorld P) (eqb (mask % 256) 0 || eqb n 0) (set_shadow a n (λ k. 0) w) marked
      (set_shadow_good P a n (λ k. 0) w g (λ k. omega arith))
      (set_cells_good P a n chained.id (set_shadow a n (λ k. mask % 256) chained.world)
      (set_shadow_good P a n (λ k. mask % 256) chained.world good.world (λ k. mod_below mask 256 (omega arith))) good.id))

  mark_cells_good : (n a mask origin : ℕ) (w : World) → GoodWorld P w → P origin → GoodWorld P (mark_cells n a mask origin w)
  mark_cells_good zero a mask origin w g o = g
  mark_cells_good (suc n) a mask origin w g o =
      mark_cells_good n (a + 1) (mask / 256) origin
      (if eqb (mask % 256) 0 || not (is_good w a 1) then w else record w { origins = with_cell w.origins a origin })
      (either (GoodWorld P) (eqb (mask % 256) 0 || not (is_good w a 1)) w (record w { origins = with_cell w.origins a origin }) g
      (with_origins P w g (with_cell w.origins a origin) (cell_keeps P w.origins a origin g.origins o))) o

  pub store_origin_good : (a mask origin site : ℕ) (w : World) → GoodWorld P w → P origin → GoodWorld P (store_origin setting a mask origin site w)
  store_origin_good a mask origin site w g o =
      let chained = chain setting origin site w in
      let good = chain_good origin site w g o in
      either (GoodWorld P) (eqb mask 0) w (mark_cells 8 a mask chained.id chained.world) g (mark_cells_good 8 a mask chained.id chained.world good.world good.id)

  pub thread_result_good : (a id answer site : ℕ) (w : World) → GoodWorld P w → GoodWorld P (thread_result setting a id answer site w)
  thread_result_good a id answer site w g =
      let mask = w.answer_masks id in
      either (GoodWorld P) (eqb answer 0 && not (eqb a 0) && is_good w a 8 && has_ended (thread_at id w.threads))
      (store_origin setting a mask (w.answer_origins id) site (set_shadow a 8 (byte_of mask) w)) w
      (store_origin_good a mask (w.answer_origins id) site (set_shadow a 8 (byte_of mask) w) (set_shadow_good P a 8 (byte_of mask) w g (byte_of-lt mask)) (g.answers id)) g
