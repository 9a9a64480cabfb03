use Rattle.std.proofs.Common.{◌≡◌, ◌∙◌, ◌+◌, ◌++◌, ◌∷◌, [], ℕ, List, ap, arith, sym, subst, IsTrue, append_assoc}
use Rattle.ms_alloc.specs.Allocations.{IsLaidOut, is_good as is_live}
use Rattle.ms_bits.specs.Maps.{bytes_at}
use Rattle.ms_planes.specs.Memory.{Memory}
use Rattle.ms_host.proofs.Liveness.{part-live}
use Rattle.ms_host.specs.State.{WorldState}
use Rattle.ms_host.specs.Shows.{Shows}
use Rattle.ms_host.proofs.StringSteps.{fits-word, bytes-more}
use Rattle.ms_host.proofs.worlds.World.print_range.Goals as goal

pub overflow_add-addr : goal.overflow_add-addr
overflow_add-addr c = omega (arith, fits-word c.args.self.now.planes.table c.args.addr c.args.n c.loop-k.k (subst (λ (h : WorldState). IsLaidOut h.planes.table) c.self.view_is c.law_laid_out.ensures) c.requires c.loop-k-test.true)

pub byte-byte-requires : goal.byte-byte-requires
byte-byte-requires c =
    subst (λ (m : Memory). IsTrue (is_live (c.args.addr + c.loop-k.k) 1 m.table)) (sym c.loop-k.invariant.planes)
    (part-live c.args.self.now.planes.table c.args.addr c.args.n c.loop-k.k c.requires c.loop-k-test.true)

pub loop-k-preserved : goal.loop-k-preserved
loop-k-preserved c = record {
  printed = λ beside world shows.
      let before = c.loop-k.invariant.printed beside world shows in
      subst (λ (l : List ℕ). Shows c.print_byte.new.self beside (record world { output = l }))
      (ap (λ (b : ℕ). (world.output ++ bytes_at world.bytes c.args.addr c.loop-k.k) ++ b ∷ []) (c.byte-byte.ensures beside (record world { output = world.output ++ bytes_at world.bytes c.args.addr c.loop-k.k }) before)
      ∙ append_assoc world.output (bytes_at world.bytes c.args.addr c.loop-k.k) (world.bytes (c.args.addr + c.loop-k.k) ∷ [])
      ∙ ap (λ (l : List ℕ). world.output ++ l) (sym (bytes-more world.bytes c.args.addr c.loop-k.k)))
      (c.in_ok-print_byte.ensures.printed beside (record world { output = world.output ++ bytes_at world.bytes c.args.addr c.loop-k.k }) before);
  planes = c.print_byte.ensures.planes ∙ c.loop-k.invariant.planes;
  keeps = record { input = c.print_byte.ensures.keeps.input ∙ c.loop-k.invariant.keeps.input; fill = c.print_byte.ensures.keeps.fill ∙ c.loop-k.invariant.keeps.fill; slots = c.print_byte.ensures.keeps.slots ∙ c.loop-k.invariant.keeps.slots };
  made = c.print_byte.ensures.made ∙ c.loop-k.invariant.made;
}

pub returns-clause-printed : goal.returns-clause-printed
returns-clause-printed c = λ beside world shows.
    let done : c.loop-k.k ≡ c.args.n = omega (arith, c.loop-k-test.false, c.loop-k.auto.k-end) in
    subst (λ (n : ℕ). Shows c.loop-k.self beside (record world { output = world.output ++ bytes_at world.bytes c.args.addr n })) done (c.loop-k.invariant.printed beside world shows)
