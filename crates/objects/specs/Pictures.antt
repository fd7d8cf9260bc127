-- A picture has 40 words and reads as its entries, and words that read as entries are their picture.
use Rattle.std.specs.Prelude.{◌≡◌, ℕ, zero, suc, ◌+◌, ◌-◌, ◌≤◌, true, false, List, [], ◌∷◌, ◌++◌, length, take, drop, replicate, Some, None, ◌==◌, nat_le, slice_index, refl}
use Rattle.std.proofs.Common.{sym, ap, ◌∙◌, inl, inr, add-one, arith, length-drop, length-append, take-append-drop}
use mathlib.Core.HLevel.{is_prop→PathP}
use Rattle.std.proofs.Math.Bridge.{le_prop}
use borrow.Author.Tests.{eq-eqb, le-leb, eqb-true, leb-true, clash}
use Rattle.std.proofs.lemmas.List.{take_all, take_at, drop_at, length-take-le, length-replicate}
use Rattle.std.proofs.lemmas.Bool.{cond-true, cond-false, cases_Bool}
use Rattle.objects.specs.Rows.{Entries, clip, pictured, zeros, is_picture, named, read}

same_entries : (s t : Entries) → s.items ≡ t.items → s ≡ t
same_entries s t p = λ i. record { items = p i; few = is_prop→PathP (λ j. length (p j) ≤ 32) (λ j. le_prop) s.few t.few i }

clip-whole : (s : Entries) → clip s.items ≡ s
clip-whole s = same_entries (clip s.items) s (take_all 32 s.items s.few)

zeros_made : (n : ℕ) → zeros (replicate n 0) ≡ true
zeros_made zero = refl
zeros_made (suc n) = zeros_made n

zeros_are : (xs : List ℕ) → zeros xs ≡ true → xs ≡ replicate (length xs) 0
zeros_are [] h = refl
zeros_are (x ∷ xs) h =
    elim (cases_Bool (x == 0)) [
      | inl e ↦ (let t : zeros xs ≡ true = rw e at h in
          let a : x ≡ 0 = eqb-true x 0 e in
          let b : xs ≡ replicate (length xs) 0 = zeros_are xs t in
          cc)
      | inr e ↦ (let f : false ≡ true = rw e at h in absurd (clash f))
    ]

module _ (s : Entries) where
  past_entries : drop (length s.items + 1) (pictured s.items) ≡ replicate (39 - length s.items) 0
  past_entries = rw add-one (drop_at s.items (replicate (39 - length s.items) 0) (length s.items) refl)

  pub pictured-long : length (pictured s.items) ≡ 40
  pictured-long = let h = s.few in simp (length-append, length-replicate) (omega arith)

  pictured_is : is_picture (pictured s.items) ≡ true
  pictured_is =
      cond-true _ _ _ (eq-eqb (length (pictured s.items)) 40 pictured-long)
      ∙ cond-true _ _ _ (le-leb (length s.items) 32 s.few)
      ∙ ap zeros past_entries ∙ zeros_made (39 - length s.items)

  pub reads-back : read (pictured s.items) ≡ Some s
  reads-back =
      cond-true _ _ _ pictured_is
      ∙ ap (λ (xs : List ℕ). Some (clip xs)) (take_at s.items (replicate (39 - length s.items) 0) (length s.items) refl)
      ∙ ap Some (clip-whole s)

-- words that pass the test are the picture of the entries that they name
passed : (ws : List ℕ) → is_picture ws ≡ true → (ws ≡ pictured (named ws)) × (length (named ws) ≤ 32)
passed ws h =
    elim (cases_Bool (length ws == 40)) [
      | inr e ↦ absurd (clash (sym (cond-false _ _ _ e) ∙ h))
      | inl e ↦ (let h₁ = sym (cond-true _ _ _ e) ∙ h in
          elim (cases_Bool (nat_le (slice_index ws 0) 32)) [
            | inr d ↦ absurd (clash (sym (cond-false _ _ _ d) ∙ h₁))
            | inl d ↦ made ws (eqb-true (length ws) 40 e) (leb-true (slice_index ws 0) 32 d) (sym (cond-true _ _ _ d) ∙ h₁)
          ])
    ]
  where
    made : (ws : List ℕ) → length ws ≡ 40 → slice_index ws 0 ≤ 32 → zeros (drop (slice_index ws 0 + 1) ws) ≡ true → (ws ≡ pictured (named ws)) × (length (named ws) ≤ 32)
    made [] l b z = absurd (omega arith)
    made (w ∷ ws) l b z =
        let n : length ws ≡ 39 = omega arith in
        let k : length (take w ws) ≡ w = length-take-le w ws (omega arith) in
        let z' : zeros (drop w ws) ≡ true = rw add-one at z in
        let m : length (drop w ws) ≡ 39 - length (take w ws) = simp (length-drop, k, n) in
        let t : drop w ws ≡ replicate (39 - length (take w ws)) 0 = zeros_are (drop w ws) z' ∙ ap (λ (j : ℕ). replicate j 0) m in
        let p : take w ws ++ drop w ws ≡ ws = take-append-drop w ws in
        let q : take w ws ++ replicate (39 - length (take w ws)) 0 ≡ ws = ap (λ (r : List ℕ). take w ws ++ r) (sym t) ∙ p in
        (sym (ap (λ (r : List ℕ). length (take w ws) ∷ r) q ∙ ap (λ (v : ℕ). v ∷ ws) k), omega arith)

pub only_pictures : (ws : List ℕ) (s : Entries) → read ws ≡ Some s → ws ≡ pictured s.items
only_pictures ws s h =
    elim (cases_Bool (is_picture ws)) [
      | inl e ↦ (let p = passed ws e in
          let a : Some (clip (named ws)) ≡ Some s = sym (cond-true _ _ _ e) ∙ h in
          let b : clip (named ws) ≡ s = cc in
          p.0 ∙ ap pictured (sym (take_all 32 (named ws) p.1) ∙ ap (λ (t : Entries). t.items) b))
      | inr e ↦ (let a : None ≡ Some s = sym (cond-false _ _ _ e) ∙ h in
          absurd (grind arith))
    ]
