-- `into_memory` forgets the items.
use Rattle.std.proofs.Common.{◌≡◌, ℕ, List, [], ◌∷◌, ◌++◌, length, refl, sym, ap, ◌∙◌, w64}
use mir.Syntax.{Fn}
use mir.Val.{Val, vint}
use base.Logic.{SProp, emp, never, fst∗, id⊢}
use prog.Wp.{WpFn}
use contract.Monad.{fact, fact_i}
use contract.Running.{tables}
use types.Logic.{sem}
use types.Kit.{‵, raw, ◌⊛◌, prop, ◌$◌, ◌∵◌, !, qed, by, move, keep, drop, use0, use1, split, regoal, rewrite, fsplit, fsplit3, fjoin}
use types.Part.{whole, sub, agg}
use types.Run.{stop, fld, of_opd, no_more, and_then, returns, enter}
use types.ByLocal.{alloc_all, pass_all, free_all, look_at, get, get_in, sets}
use denote.RattleType.{owns}
use denote.RawPtr.{Ptr, block_ptr, null_ptr, room_for, in_a_block}
use denote.Signature.{types_at}
use denote.Steps.{nothing, heard}
use denote.Triple.Entry.{alive}
use denote.Triple.Walked.{Stays, stay_dropped, walk_of, Goes-dropped}
use Rattle.core.proofs.alloc.Calls.{Goes-blank}
use Rattle.std.proofs.raw_atomic.Walks.{proved_at, leaves}
use Rattle.ms_raw.proofs.Walks.{slot_at}
use Rattle.ms_raw.proofs.Values.{sized_val, sized_told, sized_own, sized_made}
use Rattle.ms_raw.proofs.Rooms.{bytes_back}
use Rattle.ms_raw.specs.Ownership.{words, IsSize, bytes_own, spare_bytes}
use Rattle.ms_raw.specs.contracts.memory.Memory as memory
use Rattle.ms_raw.specs.contracts.bytes.RawBytes.into_memory.{ended, clauses}
use Rattle.ms_raw.specs.contracts.bytes.RawBytes.into_memory.Key.{name as #self}
use Rattle.ms_raw.proofs.bytes.RawBytes.into_memory.Statement.{statement}
use Rattle.ms_raw.proofs.bytes.RawBytes.into_memory.Code as compiled

pub into_memory_spec : {M : Type 1} → statement M
into_memory_spec 𝓤 𝓛 𝓜 𝓡 wired =
    let H = 𝓛.H in
    let c = clauses 𝓛 𝓜.mem 𝓡.returns in
    let fn : Fn = compiled.function in
    let stays : Stays ended.signature.params ended.kept = (stay_dropped (slot_at 0 ended.signature.params) ended.kept.0, (stay_dropped (slot_at 1 ended.signature.params) ended.kept.1.0, tt)) in
    let C = (tables 𝓤 H 𝓜 𝓡 𝓡.env).C in
    let Λ = (tables 𝓤 H 𝓜 𝓡 𝓡.env).Λ in
    proved_at 𝓛 ended stays c 𝓜 𝓡 (Goes-blank 𝓛 0 (slot_at 0 ended.signature.params) ended.kept.0 (λ κs x f. tt), (Goes-dropped 𝓛 0 (slot_at 1 ended.signature.params) ended.kept.1.0 (λ κs x f. refl), tt)) #self fn (compiled.unfolded 𝓤 H 𝓜 𝓡 wired) (λ z are.
    let Post : Val → SProp 𝓤 = (walk_of 𝓛 ended stays c).post z in
    let a = z.0.3 in
    let vss = z.0.4 in
    let x = a.0 in
    let s = a.1.0 in
    let n = x.len in
    let xs = x.items in
    let told = sized_told x.at n vss.0 are.0.0 in
    let Asked : Type 0 = (s ≡ x.size) × IsSize s in
    qed 𝓛 ((raw (alive 𝓛 ended.signature z.0.0 z.0.1) ⊛ ‵ (owns (types_at ended.signature.params z.0.0) a vss)) ∷ raw (fact 𝓤 Asked) ∷ []) ∵
    move ! (1 ∷ []) $ heard ! Asked (λ asked. split ! $ move ! (1 ∷ []) $ fsplit3 ! $ fsplit ! $ drop ! $
    in_a_block ! x.at (λ p. bytes_own p n x.size xs) (fst∗ 𝓤 (never 𝓤) (sem 𝓛 (spare_bytes null_ptr n x.size (length xs)))) (λ b o at. keep ! (0 ∷ 3 ∷ []) $
    regoal ! (λ (us : List Val). prop (WpFn 𝓤 H C Λ fn us Post)) (λ i. (told.0 ∙ ap (λ (p : Ptr). sized_val p n ∷ []) at) i ++ (are.1.0.0 i ++ [])) refl $
    enter ! C Λ fn (sized_val (block_ptr b o) n ∷ vint w64 s ∷ []) Post $
    alloc_all ! (λ l. pass_all ! refl ((tt, (tt, (record { fits = told.1 }, tt))), ((tt, record { fits = are.1.0.1 }), tt)) $
    sets ! (of_opd ! (get_in ! (fld ! refl (stop !)) (sub ! 0 refl (whole !)))) refl (tt, tt) $
    sets ! (agg ! (and_then ! (get ! refl) (and_then ! (get ! refl) (no_more !)))) refl (tt, (tt, (record { fits = are.1.0.1 }, tt))) $
    returns ! (look_at ! 0 refl) $ free_all ! refl $
    let p : Ptr = block_ptr b o in let r : (memory.the_row).Denot = record { at = p; size = s; fits = asked.1 } in
    use1 𝓛 (raw (H.room (words x.size) b o)) (bytes_back 𝓛 b o n x.size xs x.all) $ rewrite ! 0 (λ (k : ℕ). raw (H.room (words k) b o)) (sym asked.0) refl $
    use1 𝓛 (‵ (room_for (words s) p)) (id⊢ 𝓤 _) $
    use0 𝓛 (‵ (sized_own p s (sized_val p s ∷ []))) (sized_made 𝓛 p s are.1.0.1) $ fjoin ! $
    use0 𝓛 (raw (fact 𝓤 ((p ≡ x.at) × (s ≡ s)))) (fact_i 𝓤 ((p ≡ x.at) × (s ≡ s)) (emp 𝓤) (sym at, refl)) $ nothing ! $ nothing ! $ fjoin ! $ nothing ! $ fjoin ! $ move ! (3 ∷ 0 ∷ 2 ∷ 1 ∷ []) $
    by ! (leaves 𝓛 ended stays c z (sized_val p s) (r) (tt, (tt, tt)) (tt, (tt, tt)))))))
