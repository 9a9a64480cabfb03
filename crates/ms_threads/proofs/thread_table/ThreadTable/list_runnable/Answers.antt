use Rattle.std.proofs.Common.{◌≡◌, ◌<◌, ◌+◌, ℕ, List, length, get_or, ap, sym, ◌∙◌, arith}
use Rattle.ms_threads.proofs.Numbered.{one, one_few, rest, none_left, counted_on, listed_on, ahead_on, test_of, all_of}
use Rattle.ms_threads.proofs.thread_table.ThreadTable.list_runnable.Goals as goal

pub loop-k-init : goal.loop-k-init
loop-k-init c = record {
  total = omega arith;
  few = omega arith;
  listed = λ d lt. absurd (omega (arith, lt));
  ahead = λ d. ap (λ (n : ℕ). get_or (rest (test_of c.args.self.now) 0 (length c.args.self.now.parked.items)) n 0) (let e : d ≡ 0 + d = omega arith in e);
}

pub loop-k-preserved : goal.loop-k-preserved
loop-k-preserved c =
    let g = c.args.self.now in
    let l = c.loop-k.invariant in
    let within : c.loop-k.k < length g.parked.items = omega arith in
    let room : c.loop-k.count < length c.loop-k.ready = omega arith in
    let e : c.one_if-one.result ≡ one (test_of g c.loop-k.k) = c.one_if-one.ensures ∙ ap one c.is_runnable.ensures in
    record {
      total = omega (arith, l.total, counted_on (test_of g) c.loop-k.k (length g.parked.items) within, e);
      few = omega (arith, l.few, one_few (test_of g c.loop-k.k), e);
      listed = λ d lt. listed_on (test_of g) c.loop-k.k (length g.parked.items) c.loop-k.count c.loop-k.ready within room l.listed l.ahead d (omega (arith, lt, e));
      ahead = λ d. ahead_on (test_of g) c.loop-k.k (length g.parked.items) c.loop-k.count within l.ahead (c.loop-k.count + c.one_if-one.result) (omega (arith, e)) d;
    }

pub returns : goal.returns
returns c =
    let g = c.args.self.now in
    let last : c.loop-k.k ≡ length g.parked.items = omega arith in
    let none : length (rest (test_of g) c.loop-k.k (length g.parked.items)) ≡ 0 = ap (λ (j : ℕ). length (rest (test_of g) j (length g.parked.items))) last ∙ none_left (test_of g) (length g.parked.items) in
    let all = ap length (all_of g c.requires.counted) in
    record {
      count = omega (arith, c.loop-k.invariant.total, none, all);
      few = omega (arith, c.loop-k.invariant.few, last);
      listed = λ d lt. c.loop-k.invariant.listed d lt ∙ ap (λ (xs : List ℕ). get_or xs d 0) (sym (all_of g c.requires.counted));
    }
