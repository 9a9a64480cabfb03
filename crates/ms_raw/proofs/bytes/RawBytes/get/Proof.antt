-- `get` reads through the pointer: a walk of its MIR by hand.
use Rattle.ms_raw.proofs.Steps.{ℕ, ◌+◌, ◌<◌, List, [], ◌∷◌, length, get_or, refl, sym, w8, w64, proved, id⊢, fst∗, never, ent, sep, Ura, Logic, sem, Lft, ftrue, fsep, fat, fhide, flft, ty_int, named, Val, vint, fact, tables, ‵, raw, ◌⊛◌, at_ret, ◌$◌, ◌∵◌, !, qed, done, move, keep, drop, use1, use2, split, join, fsplit, fjoin, rewrite, suffices, enter, of_opd, bin, load, look, stop, fld, sets_last, first, blocks, exec, returns, well_typed, alloc_all, pass_all, free_all, look_at, get, through, sets, env, owns, Array, u8, usize, RefOf, yes, row, others, takes, puts_back, place_byte, looks_slice, shuts_slice, nth, part_at, shares, shared_of, hidden_shr, uint_Copied, uint_Makes, uint_in, uint_out, uint_vals, uint_Tells, RawPtr, block_of, count_of, null_ptr, in_block, in_a_block, ShrRef, shr_vals, shr_Tells, plain, elements_shared, unhide, nothing, owned, heard, lent_at, lent_out, Struct, shape, Stays, walk_of, says, stay_dropped, Goes-dropped, ends_at}
use Rattle.core.proofs.slots.Lent.{pointer_in, pointer_out}
use Rattle.ms_raw.specs.contracts.bytes.RawBytes.get as f
use Rattle.ms_raw.proofs.bytes.RawBytes.get.Statement.{statement}
use Rattle.ms_raw.proofs.bytes.RawBytes.get.Code as code
use Rattle.ms_raw.specs.contracts.bytes.RawBytes as C
use Rattle.ms_raw.specs.contracts.bytes.RawBytes.{the_row as R}

abbrev stayed : Stays f.ended.signature.params f.ended.kept
stayed = (stay_dropped (RefOf (0 ∷ []) tt (plain (λ _. R)) (λ _. tt)) yes, (stay_dropped (plain (λ _. usize)) yes, tt))

shown : {M : Type 1} {𝓤 : Ura M} (𝓛 : Logic 𝓤) (κ : Lft) (d : R.Denot) (b o : ℕ) → ent 𝓤 (sem 𝓛 (hidden_shr R κ d b o)) (sep 𝓤 (sem 𝓛 (hidden_shr RawPtr κ d.at b (o + 0))) (sem 𝓛 (lent_at (Array u8 (length d.items)) d.at d.items κ)))
shown 𝓛 κ d b o = qed 𝓛 (‵ (hidden_shr R κ d b o) ∷ []) ∵
    use1 𝓛 (‵ (hidden_shr (Struct (shape C.the_type)) κ (d.at, (d.len, tt)) b o) ⊛ ‵ (fhide (C.the_lent d d.at κ))) (lent_out 𝓛 C.struct C.the_codes C.the_heap C.the_lent κ d b o) $ split ! $
    unhide ! $ fsplit ! $ fsplit ! $ keep ! (0 ∷ 3 ∷ []) $ done !

pub get_spec : {M : Type 1} → statement M
get_spec 𝓤 𝓛 𝓜 𝓡 wired =
    let c = f.clauses 𝓛 𝓜.mem 𝓡.returns in let W = walk_of 𝓛 f.ended stayed c in let 𝓣 = tables 𝓤 𝓛.H 𝓜 𝓡 𝓡.env in
    proved 𝓛 f.ended stayed c 𝓜 𝓡 (Goes-dropped 𝓛 1 (RefOf (0 ∷ []) tt (plain (λ _. R)) (λ _. tt)) yes (λ κs x w. refl), (Goes-dropped 𝓛 1 (plain (λ _. usize)) yes (λ κs x w. refl), tt))
    f.Key.name code.function (code.unfolded 𝓤 𝓛.H 𝓜 𝓡 wired)
    (λ κs. (shr_vals, (uint_vals w64, tt))) (λ κs. (shr_Tells (named 0) κs.0 R, (uint_Tells w64, tt))) (λ κs qs bounds a _ are.
    let b = a.0.ref_ptr.0 in let o = a.0.ref_ptr.1 in let h = a.0.now in let i = a.1.0 in
    let xs = h.items in let n = length h.items in let x = get_or h.items i 0 in
    let words : List Val × (List Val × Unit {0}) = (shr_vals a.0, (uint_vals w64 i, tt)) in
    let y : W.Ghost = ((κs, qs, bounds, a, words), tt) in
    qed 𝓛 (((‵ (flft κs.0 qs.0) ⊛ ‵ ftrue) ⊛ ‵ (owns (ShrRef (named 0) κs.0 R ∷ usize ∷ []) a words)) ∷ raw (fact 𝓤 (i < length h.items)) ∷ []) ∵
    move ! (1 ∷ []) $ heard ! (i < length h.items) (λ inside. split ! $ split ! $ move ! (2 ∷ []) $ fsplit ! $ fsplit ! $ drop ! $
    use1 𝓛 (‵ (hidden_shr RawPtr κs.0 h.at b (o + 0)) ⊛ ‵ (lent_at (Array u8 n) h.at xs κs.0)) (shown 𝓛 κs.0 h b o) $ split ! $ move ! (1 ∷ []) $
    in_a_block ! h.at (λ p. fsep (in_block p ftrue) (shared_of (Array u8 n) xs (block_of p) (count_of p) κs.0)) (fst∗ 𝓤 (never 𝓤) (sem 𝓛 (shared_of (Array u8 n) xs (block_of null_ptr) (count_of null_ptr) κs.0))) (λ b' o' e.
    fsplit ! $ drop ! $ fsplit ! $ drop ! $ use1 𝓛 (‵ (fhide (elements_shared u8 xs b' o' κs.0))) (id⊢ 𝓤 _) $ keep ! (1 ∷ 3 ∷ 0 ∷ []) $
    -- [the pointer's field; the token; the bytes, lent]
    enter ! _ _ _ _ _ $ alloc_all ! (λ l. pass_all ! refl ((tt, tt), ((tt, record { fits = are.1.0.1 }), tt)) $
    first ! $ blocks ! $ pointer_in ! tt h.at b' o' e b (o + 0) (λ q'.
    sets ! (of_opd ! (load ! (through ! refl (fld ! refl (stop !))) (look ! 0 refl))) refl (tt, tt) $
    pointer_out ! tt h.at b' o' e b (o + 0) $
    sets ! (bin ! (get ! refl) (get ! refl) tt) refl (tt, tt) $
    move ! (1 ∷ 0 ∷ []) $ looks_slice ! tt u8 (uint_Copied 𝓛 w8) xs b' o' (λ q''.
    use1 𝓛 (‵ (part_at u8 q'' x b' (nth 1 o' i)) ⊛ ‵ (others (shares u8) q'' xs i b' o')) (takes (shares u8) q'' 𝓛 xs i 0 b' o' inside) $ split ! $
    rewrite ! 0 (λ (k : ℕ). ‵ (part_at u8 q'' x b' k)) (place_byte o' i) refl $
    use1 𝓛 (‵ (fat q'' (ty_int w8) b' (i + o') (vint w8 x))) (uint_out 𝓛 q'' w8 x b' (i + o')) $ well_typed ! (λ good.
    sets_last ! (of_opd ! (load ! (through ! refl (stop !)) (look ! 0 refl))) refl good $
    exec ! 𝓣.C 𝓣.Λ (env code.Mir.locals l) code.Mir.t-2 (at_ret _ (W.post y)) $
    sets ! (of_opd ! (get ! refl)) refl good $
    use1 𝓛 (‵ (part_at u8 q'' x b' (i + o'))) (uint_in 𝓛 q'' w8 x b' (i + o')) $
    rewrite ! 0 (λ (k : ℕ). ‵ (part_at u8 q'' x b' k)) (sym (place_byte o' i)) refl $
    use2 𝓛 (‵ (row u8 q'' xs b' o')) (puts_back (shares u8) q'' 𝓛 xs i 0 b' o' inside) $
    shuts_slice ! tt u8 q'' xs b' o' $
    returns ! (look_at ! 0 refl) $ free_all ! refl $ keep ! (0 ∷ []) $
    suffices ! _ (ends_at 𝓛 f.ended stayed c y (vint w8 x) x (tt, (tt, tt)) (tt, (tt, tt))) $ says ! refl $
    owned ! u8 _ (uint_Makes 𝓛 w8) x _ (refl, good.1.fits) $ nothing ! $ nothing ! $ fjoin ! $ nothing ! $ fjoin ! $ nothing ! $ move ! (3 ∷ 0 ∷ []) $ join ! $ done !)))))))
