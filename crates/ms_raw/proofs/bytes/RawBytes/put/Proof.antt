-- `put` stores through the pointer: a walk of its MIR by hand.
use Rattle.ms_raw.proofs.Steps.{◌≤◌, subst, fst∗, never, sem, null_ptr, ℕ, ◌+◌, ◌<◌, List, [], ◌∷◌, length, get_or, set, length-set, refl, sym, ap, ◌∙◌, w8, w64, proved, full_share, ftrue, fsep, feq, fat, flft, ty_int, named, Val, vunit, vint, fact, tables, ‵, raw, ◌⊛◌, at_ret, ◌$◌, ◌∵◌, !, qed, done, move, keep, use1, use2, split, join, fsplit, fsplit3, fjoin, feq_i, feq_l, rewrite, suffices, frame, group, enter, of_opd, unit_lit, bin, load, store, stop, fld, assigns_last, first, blocks, exec, returns, alloc_all, pass_all, free_all, look_at, get, through, sets, env, owns, Array, u8, usize, yes, row, others, takes, puts, place_byte, nth, shows, cell_at, part_at, shares, uint_in, uint_out, uint_vals, uint_Tells, Ptr, block_ptr, lies_at, in_a_block, bytes_apart, bytes_whole, MutRef, mut_vals, mut_Tells, plain, nothing, opens, closes, heard, peeks, Stays, walk_of, says, stay_dropped, Goes-dropped, stay_ref, Goes-ref, ends_at, whole, sub, look_in}
use Rattle.ms_raw.specs.Ownership.{bytes_own, spare_bytes}
use Rattle.ms_raw.specs.contracts.bytes.RawBytes.put as f
use Rattle.ms_raw.proofs.bytes.RawBytes.put.Statement.{statement}
use Rattle.ms_raw.proofs.bytes.RawBytes.put.Code as code
use Rattle.ms_raw.specs.contracts.bytes.RawBytes.{the_row as R}
use Rattle.ms_raw.proofs.bytes.RawBytes.TheLaws.{lowers}

abbrev stayed : Stays f.ended.signature.params f.ended.kept
stayed = (stay_ref (0 ∷ []) tt (plain (λ _. R)), (stay_dropped (plain (λ _. usize)) yes, (stay_dropped (plain (λ _. u8)) yes, tt)))

pub put_spec : {M : Type 1} → statement M
put_spec 𝓤 𝓛 𝓜 𝓡 wired =
    let c = f.clauses 𝓛 𝓜.mem 𝓡.returns in let W = walk_of 𝓛 f.ended stayed c in let 𝓣 = tables 𝓤 𝓛.H 𝓜 𝓡 𝓡.env in
    proved 𝓛 f.ended stayed c 𝓜 𝓡 (Goes-ref 𝓛 1 0 tt (plain (λ _. R)), (Goes-dropped 𝓛 1 (plain (λ _. usize)) yes (λ κs x w. refl), (Goes-dropped 𝓛 1 (plain (λ _. u8)) yes (λ κs x w. refl), tt)))
    f.Key.name code.function (code.unfolded 𝓤 𝓛.H 𝓜 𝓡 wired)
    (λ κs. (mut_vals, (uint_vals w64, (uint_vals w8, tt)))) (λ κs. (mut_Tells (named 0) κs.0 R, (uint_Tells w64, (uint_Tells w8, tt)))) (λ κs qs bounds a _ are.
    let b = a.0.ref_ptr.0 in let o = a.0.ref_ptr.1 in let h = a.0.now in let i = a.1.0 in let x = a.1.1.0 in
    let xs = h.items in let ys = set h.items i x in let n = length h.items in let old = get_or h.items i 0 in
    let words : List Val × (List Val × (List Val × Unit {0})) = (mut_vals a.0, (uint_vals w64 i, (uint_vals w8 x, tt))) in
    let y : W.Ghost = ((κs, qs, bounds, a, words), tt) in
    let new : R.Denot = record { at = h.at; len = h.len; items = ys; size = h.size; all = subst (λ (k : ℕ). k ≤ h.len) (sym (length-set h.items i x)) h.all; small = h.small } in
    qed 𝓛 (((‵ (flft κs.0 qs.0) ⊛ ‵ ftrue) ⊛ ‵ (owns (MutRef (named 0) κs.0 R ∷ usize ∷ u8 ∷ []) a words)) ∷ raw (fact 𝓤 (i < length h.items)) ∷ []) ∵
    move ! (1 ∷ []) $ heard ! (i < length h.items) (λ inside. split ! $ split ! $ move ! (2 ∷ []) $ fsplit ! $ keep ! (0 ∷ 2 ∷ []) $
    enter ! _ _ _ _ _ $ alloc_all ! (λ l. pass_all ! refl ((tt, tt), ((tt, record { fits = are.1.0.1 }), ((tt, record { fits = are.1.1.0.1 }), tt))) $
    fsplit3 ! $ move ! (1 ∷ 2 ∷ 3 ∷ []) $ opens ! tt R b o (λ us.
    move ! (1 ∷ []) $ peeks ! R _ (shows 𝓛 R) h us (λ is. fsplit ! $ move ! (1 ∷ []) $
    in_a_block ! h.at (λ p. bytes_own p h.len h.size xs) (fst∗ 𝓤 (never 𝓤) (sem 𝓛 (spare_bytes null_ptr h.len h.size n))) (λ b' o' e. fsplit ! $
    use1 𝓛 (‵ (fsep (feq ℕ (length xs) n) (row u8 full_share xs b' o'))) (bytes_apart 𝓛 full_share n xs b' o') $ fsplit ! $ feq_l ! (λ count.
    use1 𝓛 (‵ (part_at u8 full_share old b' (nth 1 o' i)) ⊛ ‵ (others (shares u8) full_share xs i b' o')) (takes (shares u8) full_share 𝓛 xs i 0 b' o' inside) $ split ! $
    rewrite ! 0 (λ (k : ℕ). ‵ (part_at u8 full_share old b' k)) (place_byte o' i) refl $
    use1 𝓛 (‵ (fat full_share (ty_int w8) b' (i + o') (vint w8 old))) (uint_out 𝓛 full_share w8 old b' (i + o')) $
    let word = lowers.val_is h us is ∙ ap (λ (p : Ptr). lowers.lowered (record h { at = p }) ∷ []) e in
    let Cell = λ (ws : List Val). ‵ (cell_at full_share R.mir ws b o) in
    rewrite ! 4 Cell word refl $
    -- [the byte; the other bytes; the spare; what the fields own; the struct's cell; the open borrow, in three entries]
    first ! $ blocks ! $
    sets ! (of_opd ! (load ! (through ! refl (fld ! refl (stop !))) (look_in ! 4 (sub ! 0 refl (whole !))))) refl (tt, tt) $
    sets ! (bin ! (get ! refl) (get ! refl) tt) refl (tt, tt) $
    assigns_last ! (of_opd ! (get ! refl)) (through ! refl (stop !)) (store ! 0 refl (tt, record { fits = are.1.1.0.1 })) $
    exec ! 𝓣.C 𝓣.Λ (env code.Mir.locals l) code.Mir.t-2 (at_ret _ (W.post y)) $
    sets ! (of_opd ! (unit_lit !)) refl (tt, tt) $
    use1 𝓛 (‵ (part_at u8 full_share x b' (i + o'))) (uint_in 𝓛 full_share w8 x b' (i + o')) $
    rewrite ! 0 (λ (k : ℕ). ‵ (part_at u8 full_share x b' k)) (sym (place_byte o' i)) refl $
    use2 𝓛 (‵ (row u8 full_share ys b' o')) (puts (shares u8) full_share 𝓛 xs i x b' o' inside) $
    feq_i ! ℕ (length ys) (length ys) refl $ fjoin ! $
    use1 𝓛 (‵ (lies_at (Array u8 (length ys)) full_share (block_ptr b' o') ys)) (bytes_whole 𝓛 full_share (length ys) ys b' o') $
    rewrite ! 1 (λ (k : ℕ). ‵ (spare_bytes (block_ptr b' o') h.len h.size k)) (sym (length-set h.items i x)) refl $ fjoin ! $
    rewrite ! 0 (λ (p : Ptr). ‵ (bytes_own p h.len h.size ys)) (sym e) refl $ rewrite ! 2 Cell (sym word) refl $
    move ! (1 ∷ []) $ fjoin ! $ move ! (1 ∷ []) $ closes ! tt R new us b o $
    returns ! (look_at ! 0 refl) $ free_all ! refl $
    move ! (3 ∷ []) $
    suffices ! _ (ends_at 𝓛 f.ended stayed c y vunit tt (new, (tt, (tt, tt))) (tt, (tt, (tt, tt)))) $ says ! (refl, refl, refl, refl) $
    group ! 3 $ nothing ! $ nothing ! $ join ! $ nothing ! $ join ! $ move ! (1 ∷ 0 ∷ []) $ join ! $ nothing ! $ move ! (2 ∷ 0 ∷ []) $ join ! $ frame ! $ frame ! $
    feq_i ! _ (vunit ∷ []) _ refl $ done !)))))))
