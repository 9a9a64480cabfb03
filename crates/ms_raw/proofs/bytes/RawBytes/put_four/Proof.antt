-- `put_four` stores through the pointer, which is read once: a walk of its MIR by hand.
use Rattle.ms_raw.proofs.Steps.{◌≡◌, ◌≤◌, arith, fst∗, never, sem, null_ptr, ℕ, ◌+◌, ◌<◌, List, [], ◌∷◌, length, get_or, set, length-set, refl, sym, ap, ◌∙◌, w8, w64, proved, full_share, ftrue, fsep, feq, fat, flft, ty_int, named, Val, vunit, vint, fact, tables, ‵, raw, ◌⊛◌, at_ret, ◌$◌, ◌∵◌, !, qed, done, move, keep, use1, use2, split, join, fsplit, fsplit3, fjoin, feq_i, feq_l, rewrite, suffices, frame, group, enter, of_opd, unit_lit, lit, bin, load, store, stop, fld, assigns, assigns_last, first, blocks, exec, returns, alloc_all, pass_all, free_all, look_at, get, through, sets, env, owns, Array, u8, usize, yes, row, others, takes, puts, place_byte, nth, shows, cell_at, part_at, shares, uint_in, uint_out, uint_vals, uint_Tells, Ptr, block_ptr, lies_at, in_a_block, bytes_apart, bytes_whole, MutRef, mut_vals, mut_Tells, plain, nothing, opens, closes, heard, peeks, Stays, walk_of, says, stay_dropped, Goes-dropped, stay_ref, Goes-ref, ends_at, whole, sub, look_in}
use Rattle.ms_raw.specs.Ownership.{bytes_own, spare_bytes}
use Rattle.ms_raw.specs.contracts.bytes.RawBytes.put_four as f
use Rattle.ms_raw.proofs.bytes.RawBytes.put_four.Statement.{statement}
use Rattle.ms_raw.proofs.bytes.RawBytes.put_four.Code as code
use Rattle.ms_raw.specs.contracts.bytes.RawBytes.{the_row as R}
use Rattle.ms_raw.proofs.bytes.RawBytes.TheLaws.{lowers}

abbrev stayed : Stays f.ended.signature.params f.ended.kept
stayed = (stay_ref (0 ∷ []) tt (plain (λ _. R)), (stay_dropped (plain (λ _. usize)) yes, (stay_dropped (plain (λ _. u8)) yes, (stay_dropped (plain (λ _. u8)) yes, (stay_dropped (plain (λ _. u8)) yes, (stay_dropped (plain (λ _. u8)) yes, tt))))))

pub put_four_spec : {M : Type 1} → statement M
put_four_spec 𝓤 𝓛 𝓜 𝓡 wired =
    let c = f.clauses 𝓛 𝓜.mem 𝓡.returns in let W = walk_of 𝓛 f.ended stayed c in let 𝓣 = tables 𝓤 𝓛.H 𝓜 𝓡 𝓡.env in
    proved 𝓛 f.ended stayed c 𝓜 𝓡 (Goes-ref 𝓛 1 0 tt (plain (λ _. R)), (Goes-dropped 𝓛 1 (plain (λ _. usize)) yes (λ κs x w. refl), (Goes-dropped 𝓛 1 (plain (λ _. u8)) yes (λ κs x w. refl), (Goes-dropped 𝓛 1 (plain (λ _. u8)) yes (λ κs x w. refl), (Goes-dropped 𝓛 1 (plain (λ _. u8)) yes (λ κs x w. refl), (Goes-dropped 𝓛 1 (plain (λ _. u8)) yes (λ κs x w. refl), tt))))))
    f.Key.name code.function (code.unfolded 𝓤 𝓛.H 𝓜 𝓡 wired)
    (λ κs. (mut_vals, (uint_vals w64, (uint_vals w8, (uint_vals w8, (uint_vals w8, (uint_vals w8, tt))))))) (λ κs. (mut_Tells (named 0) κs.0 R, (uint_Tells w64, (uint_Tells w8, (uint_Tells w8, (uint_Tells w8, (uint_Tells w8, tt))))))) (λ κs qs bounds a _ are.
    let b = a.0.ref_ptr.0 in let o = a.0.ref_ptr.1 in let h = a.0.now in let i = a.1.0 in
    let x0 = a.1.1.0 in let x1 = a.1.1.1.0 in let x2 = a.1.1.1.1.0 in let x3 = a.1.1.1.1.1.0 in
    let xs = h.items in let xs1 = set h.items i x0 in let xs2 = set xs1 (i + 1) x1 in let xs3 = set xs2 (i + 2) x2 in let ys = set xs3 (i + 3) x3 in let n = length h.items in
    let words : List Val × (List Val × (List Val × (List Val × (List Val × (List Val × Unit {0}))))) = (mut_vals a.0, (uint_vals w64 i, (uint_vals w8 x0, (uint_vals w8 x1, (uint_vals w8 x2, (uint_vals w8 x3, tt)))))) in
    let y : W.Ghost = ((κs, qs, bounds, a, words), tt) in
    qed 𝓛 (((‵ (flft κs.0 qs.0) ⊛ ‵ ftrue) ⊛ ‵ (owns (MutRef (named 0) κs.0 R ∷ usize ∷ u8 ∷ u8 ∷ u8 ∷ u8 ∷ []) a words)) ∷ raw (fact 𝓤 (i + 3 < length h.items)) ∷ []) ∵
    move ! (1 ∷ []) $ heard ! (i + 3 < length h.items) (λ asked.
    let len1 : length xs1 ≡ n = length-set h.items i x0 in let len2 : length xs2 ≡ n = length-set xs1 (i + 1) x1 ∙ len1 in
    let len3 : length xs3 ≡ n = length-set xs2 (i + 2) x2 ∙ len2 in let len4 : length ys ≡ n = length-set xs3 (i + 3) x3 ∙ len3 in
    let in0 : i < length xs = omega (arith, asked) in let in1 : i + 1 < length xs1 = omega (arith, asked, len1) in
    let in2 : i + 2 < length xs2 = omega (arith, asked, len2) in let in3 : i + 3 < length xs3 = omega (arith, asked, len3) in
    let all4 : length ys ≤ h.len = omega (arith, len4, h.all) in
    let new : R.Denot = record { at = h.at; len = h.len; items = ys; size = h.size; all = all4; small = h.small } in
    split ! $ split ! $ move ! (2 ∷ []) $ fsplit ! $ keep ! (0 ∷ 2 ∷ []) $
    enter ! _ _ _ _ _ $ alloc_all ! (λ l. pass_all ! refl ((tt, tt), ((tt, record { fits = are.1.0.1 }), ((tt, record { fits = are.1.1.0.1 }), ((tt, record { fits = are.1.1.1.0.1 }), ((tt, record { fits = are.1.1.1.1.0.1 }), ((tt, record { fits = are.1.1.1.1.1.0.1 }), tt)))))) $
    fsplit3 ! $ move ! (1 ∷ 2 ∷ 3 ∷ []) $ opens ! tt R b o (λ us.
    move ! (1 ∷ []) $ peeks ! R _ (shows 𝓛 R) h us (λ is. fsplit ! $ move ! (1 ∷ []) $
    in_a_block ! h.at (λ p. bytes_own p h.len h.size xs) (fst∗ 𝓤 (never 𝓤) (sem 𝓛 (spare_bytes null_ptr h.len h.size n))) (λ b' o' e. fsplit ! $
    use1 𝓛 (‵ (fsep (feq ℕ (length xs) n) (row u8 full_share xs b' o'))) (bytes_apart 𝓛 full_share n xs b' o') $ fsplit ! $ feq_l ! (λ count.
    let at1 : nth 1 o' (i + 1) ≡ 1 + (i + o') = place_byte o' (i + 1) ∙ (let q : i + 1 + o' ≡ 1 + (i + o') = omega arith in q) in
    let at2 : nth 1 o' (i + 2) ≡ 2 + (i + o') = place_byte o' (i + 2) ∙ (let q : i + 2 + o' ≡ 2 + (i + o') = omega arith in q) in
    let at3 : nth 1 o' (i + 3) ≡ 3 + (i + o') = place_byte o' (i + 3) ∙ (let q : i + 3 + o' ≡ 3 + (i + o') = omega arith in q) in
    let word = lowers.val_is h us is ∙ ap (λ (p : Ptr). lowers.lowered (record h { at = p }) ∷ []) e in
    let Cell = λ (ws : List Val). ‵ (cell_at full_share R.mir ws b o) in
    rewrite ! 3 Cell word refl $
    -- [the bytes; the spare; what the fields own; the struct's cell; the open borrow, in three entries]
    first ! $ blocks ! $
    sets ! (of_opd ! (load ! (through ! refl (fld ! refl (stop !))) (look_in ! 3 (sub ! 0 refl (whole !))))) refl (tt, tt) $
    sets ! (bin ! (get ! refl) (get ! refl) tt) refl (tt, tt) $
    use1 𝓛 (‵ (part_at u8 full_share (get_or xs i 0) b' (nth 1 o' i)) ⊛ ‵ (others (shares u8) full_share xs i b' o')) (takes (shares u8) full_share 𝓛 xs i 0 b' o' in0) $ split ! $
    rewrite ! 0 (λ (k : ℕ). ‵ (part_at u8 full_share (get_or xs i 0) b' k)) (place_byte o' i) refl $
    use1 𝓛 (‵ (fat full_share (ty_int w8) b' (i + o') (vint w8 (get_or xs i 0)))) (uint_out 𝓛 full_share w8 (get_or xs i 0) b' (i + o')) $
    assigns ! (of_opd ! (get ! refl)) (through ! refl (stop !)) (store ! 0 refl (tt, record { fits = are.1.1.0.1 })) $
    use1 𝓛 (‵ (part_at u8 full_share x0 b' (i + o'))) (uint_in 𝓛 full_share w8 x0 b' (i + o')) $
    rewrite ! 0 (λ (k : ℕ). ‵ (part_at u8 full_share x0 b' k)) (sym (place_byte o' i)) refl $
    use2 𝓛 (‵ (row u8 full_share xs1 b' o')) (puts (shares u8) full_share 𝓛 xs i x0 b' o' in0) $
    sets ! (bin ! (get ! refl) (lit ! tt) tt) refl (tt, tt) $
    use1 𝓛 (‵ (part_at u8 full_share (get_or xs1 (i + 1) 0) b' (nth 1 o' (i + 1))) ⊛ ‵ (others (shares u8) full_share xs1 (i + 1) b' o')) (takes (shares u8) full_share 𝓛 xs1 (i + 1) 0 b' o' in1) $ split ! $
    rewrite ! 0 (λ (k : ℕ). ‵ (part_at u8 full_share (get_or xs1 (i + 1) 0) b' k)) at1 refl $
    use1 𝓛 (‵ (fat full_share (ty_int w8) b' (1 + (i + o')) (vint w8 (get_or xs1 (i + 1) 0)))) (uint_out 𝓛 full_share w8 (get_or xs1 (i + 1) 0) b' (1 + (i + o'))) $
    assigns ! (of_opd ! (get ! refl)) (through ! refl (stop !)) (store ! 0 refl (tt, record { fits = are.1.1.1.0.1 })) $
    use1 𝓛 (‵ (part_at u8 full_share x1 b' (1 + (i + o')))) (uint_in 𝓛 full_share w8 x1 b' (1 + (i + o'))) $
    rewrite ! 0 (λ (k : ℕ). ‵ (part_at u8 full_share x1 b' k)) (sym at1) refl $
    use2 𝓛 (‵ (row u8 full_share xs2 b' o')) (puts (shares u8) full_share 𝓛 xs1 (i + 1) x1 b' o' in1) $
    sets ! (bin ! (get ! refl) (lit ! tt) tt) refl (tt, tt) $
    use1 𝓛 (‵ (part_at u8 full_share (get_or xs2 (i + 2) 0) b' (nth 1 o' (i + 2))) ⊛ ‵ (others (shares u8) full_share xs2 (i + 2) b' o')) (takes (shares u8) full_share 𝓛 xs2 (i + 2) 0 b' o' in2) $ split ! $
    rewrite ! 0 (λ (k : ℕ). ‵ (part_at u8 full_share (get_or xs2 (i + 2) 0) b' k)) at2 refl $
    use1 𝓛 (‵ (fat full_share (ty_int w8) b' (2 + (i + o')) (vint w8 (get_or xs2 (i + 2) 0)))) (uint_out 𝓛 full_share w8 (get_or xs2 (i + 2) 0) b' (2 + (i + o'))) $
    assigns ! (of_opd ! (get ! refl)) (through ! refl (stop !)) (store ! 0 refl (tt, record { fits = are.1.1.1.1.0.1 })) $
    use1 𝓛 (‵ (part_at u8 full_share x2 b' (2 + (i + o')))) (uint_in 𝓛 full_share w8 x2 b' (2 + (i + o'))) $
    rewrite ! 0 (λ (k : ℕ). ‵ (part_at u8 full_share x2 b' k)) (sym at2) refl $
    use2 𝓛 (‵ (row u8 full_share xs3 b' o')) (puts (shares u8) full_share 𝓛 xs2 (i + 2) x2 b' o' in2) $
    sets ! (bin ! (get ! refl) (lit ! tt) tt) refl (tt, tt) $
    use1 𝓛 (‵ (part_at u8 full_share (get_or xs3 (i + 3) 0) b' (nth 1 o' (i + 3))) ⊛ ‵ (others (shares u8) full_share xs3 (i + 3) b' o')) (takes (shares u8) full_share 𝓛 xs3 (i + 3) 0 b' o' in3) $ split ! $
    rewrite ! 0 (λ (k : ℕ). ‵ (part_at u8 full_share (get_or xs3 (i + 3) 0) b' k)) at3 refl $
    use1 𝓛 (‵ (fat full_share (ty_int w8) b' (3 + (i + o')) (vint w8 (get_or xs3 (i + 3) 0)))) (uint_out 𝓛 full_share w8 (get_or xs3 (i + 3) 0) b' (3 + (i + o'))) $
    assigns_last ! (of_opd ! (get ! refl)) (through ! refl (stop !)) (store ! 0 refl (tt, record { fits = are.1.1.1.1.1.0.1 })) $
    exec ! 𝓣.C 𝓣.Λ (env code.Mir.locals l) code.Mir.t-2 (at_ret _ (W.post y)) $
    sets ! (of_opd ! (unit_lit !)) refl (tt, tt) $
    use1 𝓛 (‵ (part_at u8 full_share x3 b' (3 + (i + o')))) (uint_in 𝓛 full_share w8 x3 b' (3 + (i + o'))) $
    rewrite ! 0 (λ (k : ℕ). ‵ (part_at u8 full_share x3 b' k)) (sym at3) refl $
    use2 𝓛 (‵ (row u8 full_share ys b' o')) (puts (shares u8) full_share 𝓛 xs3 (i + 3) x3 b' o' in3) $
    feq_i ! ℕ (length ys) (length ys) refl $ fjoin ! $
    use1 𝓛 (‵ (lies_at (Array u8 (length ys)) full_share (block_ptr b' o') ys)) (bytes_whole 𝓛 full_share (length ys) ys b' o') $
    rewrite ! 1 (λ (k : ℕ). ‵ (spare_bytes (block_ptr b' o') h.len h.size k)) (sym len4) refl $ fjoin ! $
    rewrite ! 0 (λ (p : Ptr). ‵ (bytes_own p h.len h.size ys)) (sym e) refl $ rewrite ! 2 Cell (sym word) refl $
    move ! (1 ∷ []) $ fjoin ! $ move ! (1 ∷ []) $ closes ! tt R new us b o $
    returns ! (look_at ! 0 refl) $ free_all ! refl $
    move ! (3 ∷ []) $
    suffices ! _ (ends_at 𝓛 f.ended stayed c y vunit tt (new, (tt, (tt, (tt, (tt, (tt, tt)))))) (tt, (tt, (tt, (tt, (tt, (tt, tt))))))) $ says ! (refl, refl, refl, refl) $
    group ! 3 $ nothing ! $ nothing ! $ join ! $ nothing ! $ join ! $ nothing ! $ join ! $ nothing ! $ join ! $ nothing ! $ join ! $ move ! (1 ∷ 0 ∷ []) $ join ! $ nothing ! $ move ! (2 ∷ 0 ∷ []) $ join ! $ frame ! $ frame ! $
    feq_i ! _ (vunit ∷ []) _ refl $ done !)))))))
