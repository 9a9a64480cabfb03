use Rattle.std.proofs.Common.{◌≡◌, ℕ, List, get_or, min, sym, ap, subst, ◌∙◌, arith}
use Rattle.ms_ir.specs.declared.calls.External.{External}
use Rattle.ms_ir.specs.declared.calls.External.TheVariants as external
use Rattle.ms_ir.specs.Areas.{Heap}
use Rattle.ms_ir.specs.Instructions.{operands}
use Rattle.ms_runs.specs.Memory.{fits, is_good}
use Rattle.ms_trail_moves.specs.Sources.{sources}
use Rattle.ms_trail_moves.specs.Written.{heap_place}
use Rattle.ms_trail_bytes.specs.Shading.{Facts}
use Rattle.ms_trail.proofs.Outsides.{word_read, mask_read, malloc_done, started_done, realloc_done, memcpy_done, memmove_done, llvm_memcpy_done, llvm_memmove_done, memset_done, llvm_memset_done, read_done, default_done, finish}
use Rattle.ms_trail.proofs.externals.shade_memory.Goals as goal
use Rattle.std.proofs.lemmas.Result.{on_ok_weaker}

pub own_root-root-requires : goal.own_root-root-requires
own_root-root-requires c = c.requires.roots

pub shade_moved-requires-clause-low : goal.shade_moved-requires-clause-low
shade_moved-requires-clause-low c = λ some. let at : c.word-a.result ≡ get_or c.args.call.now.words.items 0 0 = c.word-a.ensures ∙ ap (λ (ws : List ℕ). get_or ws 0 0) c.as_slice-words.ensures.value in omega (arith, at, c.requires.low some)

pub returns-in-Malloc-clause-shaded : goal.returns-in-Malloc-clause-shaded
returns-in-Malloc-clause-shaded c = λ beside meant before ps moves words masks old facts shows whole is.
    let call = c.args.call.now in
    let row = c.args.row in
    let ss = sources c.args.number (operands row.inst.now.op) row.roots in
    let event = c.args.stamp.event in
    let site = c.args.stamp.site in
    let root = c.own_root-root.result in
    let w = c.shade_unset.new.world in
    let log = c.shade_unset.new.log in
    let a = word_read ps c.as_slice-words.result.now 0 c.word-a.result (c.as_slice-words.ensures.value ∙ words) c.word-a.ensures in
    let b = word_read ps c.as_slice-words.result.now 1 c.word-b.result (c.as_slice-words.ensures.value ∙ words) c.word-b.ensures in
    let n = word_read ps c.as_slice-words.result.now 2 c.word-n.result (c.as_slice-words.ensures.value ∙ words) c.word-n.ensures in
    let mask = mask_read ps c.as_slice-masks.result.now 1 c.word-mask.result (c.as_slice-masks.ensures.value ∙ masks) c.word-mask.ensures in
    let known = subst (λ (e : External). Facts e ps before call.given meant) c.in-Malloc.is facts in
    on_ok_weaker c.shade_unset.result
    (λ h. finish beside event site root _ ps ss before call.given meant moves w log call.external external.Malloc c.own_root-root.ensures c.in-Malloc.is
    (malloc_done beside event site root ps ss before call.given meant moves w log c.word-a.result a known h))
    (c.shade_unset.ensures.unset beside meant moves shows whole is)

pub returns-in-Realloc-clause-shaded : goal.returns-in-Realloc-clause-shaded
returns-in-Realloc-clause-shaded c = λ beside meant before ps moves words masks old facts shows whole is.
    let call = c.args.call.now in
    let row = c.args.row in
    let ss = sources c.args.number (operands row.inst.now.op) row.roots in
    let event = c.args.stamp.event in
    let site = c.args.stamp.site in
    let root = c.own_root-root.result in
    let w = c.shade_moved.new.world in
    let log = c.shade_moved.new.log in
    let a = word_read ps c.as_slice-words.result.now 0 c.word-a.result (c.as_slice-words.ensures.value ∙ words) c.word-a.ensures in
    let b = word_read ps c.as_slice-words.result.now 1 c.word-b.result (c.as_slice-words.ensures.value ∙ words) c.word-b.ensures in
    let n = word_read ps c.as_slice-words.result.now 2 c.word-n.result (c.as_slice-words.ensures.value ∙ words) c.word-n.ensures in
    let mask = mask_read ps c.as_slice-masks.result.now 1 c.word-mask.result (c.as_slice-masks.ensures.value ∙ masks) c.word-mask.ensures in
    let known = subst (λ (e : External). Facts e ps before call.given meant) c.in-Realloc.is facts in
    on_ok_weaker c.shade_moved.result
    (λ h. finish beside event site root _ ps ss before call.given meant moves w log call.external external.Realloc c.own_root-root.ensures c.in-Realloc.is
    (realloc_done beside event site root ps ss before call.given meant moves w log c.word-a.result c.word-b.result call.old a b old known.0 h))
    (c.shade_moved.ensures.moved beside meant before moves (known.0 ∙ ap (λ k. heap_place k before) (sym b)) (λ f. (λ j. is_good meant call.given (min (old j) (b j))) ∙ known.1 (ap (λ k. fits Heap k before) (sym b) ∙ f)) shows whole is)

pub returns-in-Memcpy-clause-shaded : goal.returns-in-Memcpy-clause-shaded
returns-in-Memcpy-clause-shaded c = λ beside meant before ps moves words masks old facts shows whole is.
    let call = c.args.call.now in
    let row = c.args.row in
    let ss = sources c.args.number (operands row.inst.now.op) row.roots in
    let event = c.args.stamp.event in
    let site = c.args.stamp.site in
    let root = c.own_root-root.result in
    let w = c.shade_copy.new.world in
    let log = c.shade_copy.new.log in
    let a = word_read ps c.as_slice-words.result.now 0 c.word-a.result (c.as_slice-words.ensures.value ∙ words) c.word-a.ensures in
    let b = word_read ps c.as_slice-words.result.now 1 c.word-b.result (c.as_slice-words.ensures.value ∙ words) c.word-b.ensures in
    let n = word_read ps c.as_slice-words.result.now 2 c.word-n.result (c.as_slice-words.ensures.value ∙ words) c.word-n.ensures in
    let mask = mask_read ps c.as_slice-masks.result.now 1 c.word-mask.result (c.as_slice-masks.ensures.value ∙ masks) c.word-mask.ensures in
    let known = subst (λ (e : External). Facts e ps before call.given meant) c.in-Memcpy.is facts in
    on_ok_weaker c.shade_copy.result
    (λ h. finish beside event site root _ ps ss before call.given meant moves w log call.external external.Memcpy c.own_root-root.ensures c.in-Memcpy.is
    (memcpy_done beside event site root ps ss before call.given meant moves w log c.word-a.result c.word-b.result c.word-n.result a b n h))
    (c.shade_copy.ensures.copied beside meant moves shows whole ((λ j. is_good meant (a j) (n j)) ∙ known.0) ((λ j. is_good meant (b j) (n j)) ∙ known.1) is)

pub returns-in-Memmove-clause-shaded : goal.returns-in-Memmove-clause-shaded
returns-in-Memmove-clause-shaded c = λ beside meant before ps moves words masks old facts shows whole is.
    let call = c.args.call.now in
    let row = c.args.row in
    let ss = sources c.args.number (operands row.inst.now.op) row.roots in
    let event = c.args.stamp.event in
    let site = c.args.stamp.site in
    let root = c.own_root-root.result in
    let w = c.shade_copy-in-Memmove.new.world in
    let log = c.shade_copy-in-Memmove.new.log in
    let a = word_read ps c.as_slice-words.result.now 0 c.word-a.result (c.as_slice-words.ensures.value ∙ words) c.word-a.ensures in
    let b = word_read ps c.as_slice-words.result.now 1 c.word-b.result (c.as_slice-words.ensures.value ∙ words) c.word-b.ensures in
    let n = word_read ps c.as_slice-words.result.now 2 c.word-n.result (c.as_slice-words.ensures.value ∙ words) c.word-n.ensures in
    let mask = mask_read ps c.as_slice-masks.result.now 1 c.word-mask.result (c.as_slice-masks.ensures.value ∙ masks) c.word-mask.ensures in
    let known = subst (λ (e : External). Facts e ps before call.given meant) c.in-Memmove.is facts in
    on_ok_weaker c.shade_copy-in-Memmove.result
    (λ h. finish beside event site root _ ps ss before call.given meant moves w log call.external external.Memmove c.own_root-root.ensures c.in-Memmove.is
    (memmove_done beside event site root ps ss before call.given meant moves w log c.word-a.result c.word-b.result c.word-n.result a b n h))
    (c.shade_copy-in-Memmove.ensures.copied beside meant moves shows whole ((λ j. is_good meant (a j) (n j)) ∙ known.0) ((λ j. is_good meant (b j) (n j)) ∙ known.1) is)

pub returns-in-LlvmMemcpy-clause-shaded : goal.returns-in-LlvmMemcpy-clause-shaded
returns-in-LlvmMemcpy-clause-shaded c = λ beside meant before ps moves words masks old facts shows whole is.
    let call = c.args.call.now in
    let row = c.args.row in
    let ss = sources c.args.number (operands row.inst.now.op) row.roots in
    let event = c.args.stamp.event in
    let site = c.args.stamp.site in
    let root = c.own_root-root.result in
    let w = c.shade_copy-in-LlvmMemcpy.new.world in
    let log = c.shade_copy-in-LlvmMemcpy.new.log in
    let a = word_read ps c.as_slice-words.result.now 0 c.word-a.result (c.as_slice-words.ensures.value ∙ words) c.word-a.ensures in
    let b = word_read ps c.as_slice-words.result.now 1 c.word-b.result (c.as_slice-words.ensures.value ∙ words) c.word-b.ensures in
    let n = word_read ps c.as_slice-words.result.now 2 c.word-n.result (c.as_slice-words.ensures.value ∙ words) c.word-n.ensures in
    let mask = mask_read ps c.as_slice-masks.result.now 1 c.word-mask.result (c.as_slice-masks.ensures.value ∙ masks) c.word-mask.ensures in
    let known = subst (λ (e : External). Facts e ps before call.given meant) c.in-LlvmMemcpy.is facts in
    on_ok_weaker c.shade_copy-in-LlvmMemcpy.result
    (λ h. finish beside event site root _ ps ss before call.given meant moves w log call.external external.LlvmMemcpy c.own_root-root.ensures c.in-LlvmMemcpy.is
    (llvm_memcpy_done beside event site root ps ss before call.given meant moves w log c.word-a.result c.word-b.result c.word-n.result a b n h))
    (c.shade_copy-in-LlvmMemcpy.ensures.copied beside meant moves shows whole ((λ j. is_good meant (a j) (n j)) ∙ known.0) ((λ j. is_good meant (b j) (n j)) ∙ known.1) is)

pub returns-in-LlvmMemmove-clause-shaded : goal.returns-in-LlvmMemmove-clause-shaded
returns-in-LlvmMemmove-clause-shaded c = λ beside meant before ps moves words masks old facts shows whole is.
    let call = c.args.call.now in
    let row = c.args.row in
    let ss = sources c.args.number (operands row.inst.now.op) row.roots in
    let event = c.args.stamp.event in
    let site = c.args.stamp.site in
    let root = c.own_root-root.result in
    let w = c.shade_copy-in-LlvmMemmove.new.world in
    let log = c.shade_copy-in-LlvmMemmove.new.log in
    let a = word_read ps c.as_slice-words.result.now 0 c.word-a.result (c.as_slice-words.ensures.value ∙ words) c.word-a.ensures in
    let b = word_read ps c.as_slice-words.result.now 1 c.word-b.result (c.as_slice-words.ensures.value ∙ words) c.word-b.ensures in
    let n = word_read ps c.as_slice-words.result.now 2 c.word-n.result (c.as_slice-words.ensures.value ∙ words) c.word-n.ensures in
    let mask = mask_read ps c.as_slice-masks.result.now 1 c.word-mask.result (c.as_slice-masks.ensures.value ∙ masks) c.word-mask.ensures in
    let known = subst (λ (e : External). Facts e ps before call.given meant) c.in-LlvmMemmove.is facts in
    on_ok_weaker c.shade_copy-in-LlvmMemmove.result
    (λ h. finish beside event site root _ ps ss before call.given meant moves w log call.external external.LlvmMemmove c.own_root-root.ensures c.in-LlvmMemmove.is
    (llvm_memmove_done beside event site root ps ss before call.given meant moves w log c.word-a.result c.word-b.result c.word-n.result a b n h))
    (c.shade_copy-in-LlvmMemmove.ensures.copied beside meant moves shows whole ((λ j. is_good meant (a j) (n j)) ∙ known.0) ((λ j. is_good meant (b j) (n j)) ∙ known.1) is)

pub returns-in-Memset-clause-shaded : goal.returns-in-Memset-clause-shaded
returns-in-Memset-clause-shaded c = λ beside meant before ps moves words masks old facts shows whole is.
    let call = c.args.call.now in
    let row = c.args.row in
    let ss = sources c.args.number (operands row.inst.now.op) row.roots in
    let event = c.args.stamp.event in
    let site = c.args.stamp.site in
    let root = c.own_root-root.result in
    let w = c.shade_bytes.new.world in
    let log = c.shade_bytes.new.log in
    let a = word_read ps c.as_slice-words.result.now 0 c.word-a.result (c.as_slice-words.ensures.value ∙ words) c.word-a.ensures in
    let b = word_read ps c.as_slice-words.result.now 1 c.word-b.result (c.as_slice-words.ensures.value ∙ words) c.word-b.ensures in
    let n = word_read ps c.as_slice-words.result.now 2 c.word-n.result (c.as_slice-words.ensures.value ∙ words) c.word-n.ensures in
    let mask = mask_read ps c.as_slice-masks.result.now 1 c.word-mask.result (c.as_slice-masks.ensures.value ∙ masks) c.word-mask.ensures in
    let known = subst (λ (e : External). Facts e ps before call.given meant) c.in-Memset.is facts in
    on_ok_weaker c.shade_bytes.result
    (λ h. finish beside event site root _ ps ss before call.given meant moves w log call.external external.Memset c.own_root-root.ensures c.in-Memset.is
    (memset_done beside event site root ps ss before call.given meant moves w log c.word-a.result c.word-n.result c.word-mask.result a n mask h))
    (c.shade_bytes.ensures.set beside meant moves shows whole ((λ j. is_good meant (a j) (n j)) ∙ known) is)

pub returns-in-LlvmMemset-clause-shaded : goal.returns-in-LlvmMemset-clause-shaded
returns-in-LlvmMemset-clause-shaded c = λ beside meant before ps moves words masks old facts shows whole is.
    let call = c.args.call.now in
    let row = c.args.row in
    let ss = sources c.args.number (operands row.inst.now.op) row.roots in
    let event = c.args.stamp.event in
    let site = c.args.stamp.site in
    let root = c.own_root-root.result in
    let w = c.shade_bytes-in-LlvmMemset.new.world in
    let log = c.shade_bytes-in-LlvmMemset.new.log in
    let a = word_read ps c.as_slice-words.result.now 0 c.word-a.result (c.as_slice-words.ensures.value ∙ words) c.word-a.ensures in
    let b = word_read ps c.as_slice-words.result.now 1 c.word-b.result (c.as_slice-words.ensures.value ∙ words) c.word-b.ensures in
    let n = word_read ps c.as_slice-words.result.now 2 c.word-n.result (c.as_slice-words.ensures.value ∙ words) c.word-n.ensures in
    let mask = mask_read ps c.as_slice-masks.result.now 1 c.word-mask.result (c.as_slice-masks.ensures.value ∙ masks) c.word-mask.ensures in
    let known = subst (λ (e : External). Facts e ps before call.given meant) c.in-LlvmMemset.is facts in
    on_ok_weaker c.shade_bytes-in-LlvmMemset.result
    (λ h. finish beside event site root _ ps ss before call.given meant moves w log call.external external.LlvmMemset c.own_root-root.ensures c.in-LlvmMemset.is
    (llvm_memset_done beside event site root ps ss before call.given meant moves w log c.word-a.result c.word-n.result c.word-mask.result a n mask h))
    (c.shade_bytes-in-LlvmMemset.ensures.set beside meant moves shows whole ((λ j. is_good meant (a j) (n j)) ∙ known) is)

pub returns-in-LifetimeStart-clause-shaded : goal.returns-in-LifetimeStart-clause-shaded
returns-in-LifetimeStart-clause-shaded c = λ beside meant before ps moves words masks old facts shows whole is.
    let call = c.args.call.now in
    let row = c.args.row in
    let ss = sources c.args.number (operands row.inst.now.op) row.roots in
    let event = c.args.stamp.event in
    let site = c.args.stamp.site in
    let root = c.own_root-root.result in
    let w = c.shade_unset-in-LifetimeStart.new.world in
    let log = c.shade_unset-in-LifetimeStart.new.log in
    let a = word_read ps c.as_slice-words.result.now 0 c.word-a.result (c.as_slice-words.ensures.value ∙ words) c.word-a.ensures in
    let b = word_read ps c.as_slice-words.result.now 1 c.word-b.result (c.as_slice-words.ensures.value ∙ words) c.word-b.ensures in
    let n = word_read ps c.as_slice-words.result.now 2 c.word-n.result (c.as_slice-words.ensures.value ∙ words) c.word-n.ensures in
    let mask = mask_read ps c.as_slice-masks.result.now 1 c.word-mask.result (c.as_slice-masks.ensures.value ∙ masks) c.word-mask.ensures in
    let known = subst (λ (e : External). Facts e ps before call.given meant) c.in-LifetimeStart.is facts in
    on_ok_weaker c.shade_unset-in-LifetimeStart.result
    (λ h. finish beside event site root _ ps ss before call.given meant moves w log call.external external.LifetimeStart c.own_root-root.ensures c.in-LifetimeStart.is
    (started_done beside event site root ps ss before call.given meant moves w log c.word-b.result c.word-a.result a b h))
    (c.shade_unset-in-LifetimeStart.ensures.unset beside meant moves shows whole is)

pub returns-in-Read-clause-shaded : goal.returns-in-Read-clause-shaded
returns-in-Read-clause-shaded c = λ beside meant before ps moves words masks old facts shows whole is.
    let call = c.args.call.now in
    let row = c.args.row in
    let b = word_read ps c.as_slice-words.result.now 1 c.word-b.result (c.as_slice-words.ensures.value ∙ words) c.word-b.ensures in
    finish beside c.args.stamp.event c.args.stamp.site c.own_root-root.result _ ps (sources c.args.number (operands row.inst.now.op) row.roots) before call.given meant moves c.unpoison.new.self c.args.log.now call.external external.Read c.own_root-root.ensures
    c.in-Read.is
    (read_done beside c.args.stamp.event c.args.stamp.site c.own_root-root.result ps (sources c.args.number (operands row.inst.now.op) row.roots) before call.given meant moves c.unpoison.new.self c.args.log.now c.word-b.result b
    (c.unpoison.ensures.cleaned beside meant shows) is)

pub returns-in_default-clause-shaded : goal.returns-in_default-clause-shaded
returns-in_default-clause-shaded c = λ beside meant before ps moves words masks old facts shows whole is.
    let call = c.args.call.now in
    let row = c.args.row in
    default_done beside c.args.stamp.event c.args.stamp.site _ ps (sources c.args.number (operands row.inst.now.op) row.roots) before call.given meant moves c.args.world.now c.args.log.now call.external c.in_default.not-Malloc c.in_default.not-Realloc
    c.in_default.not-Memcpy c.in_default.not-Memmove c.in_default.not-LlvmMemcpy c.in_default.not-LlvmMemmove c.in_default.not-Memset c.in_default.not-LlvmMemset c.in_default.not-Read c.in_default.not-LifetimeStart c.requires.alone shows is
