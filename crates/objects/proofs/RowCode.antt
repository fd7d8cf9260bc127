-- What the code of a row does to its array is what the definitions say of the entries kept in it.
use Rattle.std.proofs.Common.{◌≡◌, Ok, Err, Some, None, ℕ, ◌+◌, ◌-◌, ◌<◌, ◌≤◌, Bool, true, false, ltb, List, [], ◌∷◌, ◌++◌, length, get_or, take, drop, set, replicate, sym, ap, ◌∙◌, inl, inr, arith, ap₂, append_assoc, add-one, length-append, length-drop, length-take, lt-ltb, eq-eqb, le-leb, slice_get}
use Rattle.std.specs.List.{between, remove}
use Rattle.std.specs.Option.{ok_or}
use Rattle.std.proofs.lemmas.List.{take-take, take_more_set, drop-replicate, length-take-le, take_all, take_at, drop-drop}
use Rattle.std.proofs.lemmas.Slice.{between_is, between_to_end}
use Rattle.std.proofs.lemmas.Bool.{cond-true, cond-false}
use borrow.Rule.Slice.PartMut.{put_mid}
use Rattle.objects.specs.declared.answer.Denied.{Denied}
use Rattle.objects.specs.declared.answer.Denied.TheVariants.{Empty}
use Rattle.objects.specs.declared.row.Row.{Row}
use Rattle.objects.specs.Rows.{First, Rest, clip, answer_to_put, with_put, pictured, zeros, is_picture, read}
use Rattle.objects.specs.Held.{held}
use Rattle.objects.specs.Places.{Place, OneAt}
use Rattle.objects.specs.Deeds.{sound}

module _ (row : Row) where
  abbrev pub kept : List ℕ
  kept = take row.count row.items

  counted : length kept ≡ row.count
  counted = let few = row.few in let wide = row.wide in length-take-le row.count row.items (omega arith)

  whole : take 32 kept ≡ kept
  whole = let few = row.few in take_all 32 kept (simp counted few)

  counted-whole : row.count ≡ length (held row).items
  counted-whole = sym (ap length whole ∙ counted)

  below : row.count < 32 → ltb (length (held row).items) 32 ≡ true
  below room = lt-ltb (length (held row).items) 32 (omega (arith, counted-whole))

  pub put_answers : row.count < 32 → Ok (row.count + 1) ≡ answer_to_put (held row)
  put_answers room = ap (λ (k : ℕ). Ok (k + 1)) counted-whole ∙ sym (cond-true _ _ _ (below room))

  pub put_leaves : (v : ℕ) → row.count < 32 → clip (take (row.count + 1) (set row.items row.count v)) ≡ with_put (held row) v
  put_leaves v room =
      let wide = row.wide in
      ap clip (take_more_set row.items row.count v (omega arith) ∙ ap (λ (ys : List ℕ). ys ++ (v ∷ [])) (sym whole)) ∙ sym (cond-true _ _ _ (below room))

  -- an end whose place among the entries is i
  module _ {place : Place} {first : First} {rest : Rest} (one : OneAt place first rest) (i : ℕ) (at : i ≡ place row.count) where
    at_place : place (length (held row).items) ≡ i
    at_place = ap place (sym counted-whole) ∙ sym at

    pub looked : first (held row).items ≡ ok_or (slice_get kept i) Empty
    looked =
        one.entry (held row).items
        ∙ ap (λ (j : ℕ). ok_or (slice_get (held row).items j) Empty) at_place
        ∙ ap (λ (ys : List ℕ). ok_or (slice_get ys i) Empty) whole

    pub none_out : (d : Denied) → first (held row).items ≡ Err d → held row ≡ clip (rest (held row).items)
    none_out d e =
        elim ((sound one).entry (held row).items) [
          | inl none ↦ ap clip (sym (none.1 ∙ whole))
          | inr some ↦ (let f = some.1 in cc)
        ]

    -- the array from i as far as the count, and past it
    abbrev pub mid : List ℕ
    mid = take (row.count - i) (drop i row.items)

    abbrev past : List ℕ
    past = drop (row.count - i) (drop i row.items)

    removed : rest (held row).items ≡ remove kept i
    removed =
        one.others (held row).items
        ∙ ap (λ (j : ℕ). remove (held row).items j) at_place
        ∙ ap (λ (zs : List ℕ). remove zs i) whole

    turned : i < row.count → take (row.count - 1) (take i row.items ++ ((drop 1 mid ++ take 1 mid) ++ past)) ≡ remove kept i
    turned h =
        let few = row.few in let wide = row.wide in
        ap (take (row.count - 1)) (ap (λ zs. take i row.items ++ zs) (append_assoc (drop 1 mid) (take 1 mid) past) ∙ sym (append_assoc (take i row.items) (drop 1 mid) (take 1 mid ++ past)))
        ∙ take_at (take i row.items ++ drop 1 mid) (take 1 mid ++ past) (row.count - 1) (simp (length-append, length-take, length-drop) (omega arith))
        ∙ ap₂ ◌++◌ (sym (take-take i row.count row.items (omega arith))) (ap (drop 1) (between_is row.items i row.count) ∙ drop-drop 1 i kept ∙ ap (λ (k : ℕ). drop k kept) (add-one i))

    pub one_out : i < row.count → (ys : List ℕ) → ys ≡ drop 1 mid ++ take 1 mid → clip (take (row.count - 1) (put_mid i (row.count - i) row.items ys)) ≡ clip (rest (held row).items)
    one_out h ys e = ap clip (ap (λ zs. take (row.count - 1) (take i row.items ++ (zs ++ past))) e ∙ turned h ∙ sym removed)

  pub pictured_made : (ys : List ℕ) → ys ≡ kept → row.count ∷ (ys ++ drop ((row.count + 1) - 1) (replicate 39 0)) ≡ pictured (held row).items
  pictured_made ys e =
      let l = counted in let w = whole in
      let a : (row.count + 1) - 1 ≡ row.count = omega arith in
      simp (e, a, w, l, drop-replicate)

-- 40 words whose count is at most 32
module _ (ws : List ℕ) (long : length ws ≡ 40) (low : get_or ws 0 0 ≤ 32) where
  by_zeros : (z : Bool) → z ≡ zeros (between (get_or ws 0 0 + 1) 40 ws) → is_picture ws ≡ z
  by_zeros z e =
      cond-true _ _ _ (eq-eqb (length ws) 40 long)
      ∙ cond-true _ _ _ (le-leb (get_or ws 0 0) 32 low)
      ∙ sym (e ∙ ap zeros (between_to_end ws (get_or ws 0 0 + 1) 40 (omega arith)))

  pub no_picture : false ≡ zeros (between (get_or ws 0 0 + 1) 40 ws) → None ≡ read ws
  no_picture e = sym (cond-false _ _ _ (by_zeros false e))

  -- the entries that are named lie among the 32 words after the count
  pub picture_read : true ≡ zeros (between (get_or ws 0 0 + 1) 40 ws) → (ys : List ℕ) → ys ≡ between 1 33 ws → Some (clip (take (get_or ws 0 0) ys)) ≡ read ws
  picture_read e ys f =
      ap (λ (xs : List ℕ). Some (clip xs)) (ap (take (get_or ws 0 0)) f ∙ take-take (get_or ws 0 0) 32 (drop 1 ws) low)
      ∙ sym (cond-true _ _ _ (by_zeros true e))
