-- A freshly formatted store explains the empty order.
use Rattle.std.proofs.Common.{◌≡◌, ℕ, ◌+◌, ◌-◌, ◌*◌, ◌<◌, ◌≤◌, List, [], ◌++◌, length, get_or, take, drop, replicate, sym, refl, ap, ◌∙◌, subst, inr, arith, length-drop, take-take, get_or-append-add}
use mathlib.Core.List.Memᴰ
use lib.ListN.{get_or-replicate, length-replicate, get_or-append}
use lib.Seq.{take-append-le, drop-append-le, drop-append-add}
use Rattle.std.proofs.lemmas.List.{drop-take}
use Rattle.memory.specs.Model.{line}
use Rattle.memory.proofs.Lines.{line_first}
use Rattle.objects.specs.Model.{ObjectModel, Lawful}
use Rattle.machine.specs.Layout.{record_line, contents, format_words}
use Rattle.machine.specs.Run.{Store as Depot, Formatted}
use Rattle.machine.proofs.Invariant.{Done, Inv}
use Rattle.machine.proofs.Format.{format_steady}

module _ (X : ObjectModel) (law : Lawful X) where
  -- the lines that a format wrote
  line_of_take : (l k : ℕ) (image : List ℕ) → 8 * l + 8 ≤ k → line l image ≡ line l (take k image)
  line_of_take l k image b =
      let e : k ≡ 8 * l + (k - 8 * l) = omega arith in
      let f : drop (8 * l) (take (8 * l + (k - 8 * l)) image) ≡ take (k - 8 * l) (drop (8 * l) image) = drop-take (8 * l) (k - 8 * l) image in
      let g : take 8 (take (k - 8 * l) (drop (8 * l) image)) ≡ line l image = take-take 8 (k - 8 * l) (drop (8 * l) image) (omega arith) in
      sym (ap (λ (z : ℕ). line l (take z image)) e ∙ ap (take 8) f ∙ g)

  format_head : (n : ℕ) → line 0 (format_words X.kind (X.picture X.fresh) n) ≡ contents X.kind n
  format_head n = refl

  format_worker : (n w : ℕ) → w < n → get_or (format_words X.kind (X.picture X.fresh) n) (8 * (record_line n 0 + w)) 0 ≡ 0
  format_worker n w b =
      let tail : List ℕ = X.picture X.fresh ++ replicate (8 * (n + 5)) 0 in
      let e : 8 * (record_line n 0 + w) ≡ 8 + (8 + 8 * w) = omega arith in
      let f : get_or (contents X.kind n ++ (replicate 8 0 ++ (replicate (8 * n) 0 ++ tail))) (8 + (8 + 8 * w)) 0 ≡ get_or (replicate 8 0 ++ (replicate (8 * n) 0 ++ tail)) (8 + 8 * w) 0 =
      get_or-append-add (contents X.kind n) (replicate 8 0 ++ (replicate (8 * n) 0 ++ tail)) (8 + 8 * w) 0 in
      let g : get_or (replicate 8 0 ++ (replicate (8 * n) 0 ++ tail)) (8 + 8 * w) 0 ≡ get_or (replicate (8 * n) 0 ++ tail) (8 * w) 0 =
      get_or-append-add (replicate 8 0) (replicate (8 * n) 0 ++ tail) (8 * w) 0 in
      let i : get_or (replicate (8 * n) 0 ++ tail) (8 * w) 0 ≡ get_or (replicate (8 * n) 0) (8 * w) 0 =
      get_or-append (replicate (8 * n) 0) tail 0 (8 * w) (rw (length-replicate {A = ℕ} (8 * n) 0) (omega arith)) in
      ap (λ (z : ℕ). get_or (format_words X.kind (X.picture X.fresh) n) z 0) e ∙ f ∙ g ∙ i ∙ get_or-replicate (8 * n) (8 * w) 0 0 (omega arith)

  format_object : (n j : ℕ) → j < 5 → line (record_line n 0 + n + j) (format_words X.kind (X.picture X.fresh) n) ≡ line j (X.picture X.fresh)
  format_object n j b =
      let pic : List ℕ = X.picture X.fresh in
      let tail : List ℕ = pic ++ replicate (8 * (n + 5)) 0 in
      let wid : length pic ≡ 40 = law.long X.fresh in
      let e : 8 * (record_line n 0 + n + j) ≡ 8 + (8 + (8 * n + 8 * j)) = omega arith in
      let f : drop (8 + (8 + (8 * n + 8 * j))) (contents X.kind n ++ (replicate 8 0 ++ (replicate (8 * n) 0 ++ tail))) ≡ drop (8 + (8 * n + 8 * j)) (replicate 8 0 ++ (replicate (8 * n) 0 ++ tail)) =
      drop-append-add (contents X.kind n) (replicate 8 0 ++ (replicate (8 * n) 0 ++ tail)) (8 + (8 * n + 8 * j)) in
      let g : drop (8 + (8 * n + 8 * j)) (replicate 8 0 ++ (replicate (8 * n) 0 ++ tail)) ≡ drop (8 * n + 8 * j) (replicate (8 * n) 0 ++ tail) =
      drop-append-add (replicate 8 0) (replicate (8 * n) 0 ++ tail) (8 * n + 8 * j) in
      let i : drop (8 * n + 8 * j) (replicate (8 * n) 0 ++ tail) ≡ drop (8 * j) tail =
      subst (λ (z : ℕ). drop (z + 8 * j) (replicate (8 * n) 0 ++ tail) ≡ drop (8 * j) tail) (length-replicate (8 * n) 0) (drop-append-add (replicate (8 * n) 0) tail (8 * j)) in
      let k : drop (8 * j) tail ≡ drop (8 * j) pic ++ replicate (8 * (n + 5)) 0 = drop-append-le (8 * j) pic (replicate (8 * (n + 5)) 0) (omega arith) in
      let m : take 8 (drop (8 * j) pic ++ replicate (8 * (n + 5)) 0) ≡ line j pic =
      take-append-le 8 (drop (8 * j) pic) (replicate (8 * (n + 5)) 0) (rw (length-drop (8 * j) pic) (omega arith)) in
      ap (λ (z : ℕ). take 8 (drop z (format_words X.kind (X.picture X.fresh) n))) e ∙ ap (take 8) (f ∙ g ∙ i ∙ k) ∙ m

  pub begins : (s : Depot X) → Formatted X s → Inv X [] s []
  begins s f =
      let n = f.n in
      let m = s.memory in
      let z = format_steady X.kind (X.picture X.fresh) n f.before m (law.long X.fresh) f.some f.most f.formed f.room f.reached in
      let at : (l : ℕ) → 8 * l + 8 ≤ 8 * (2 * n + 12) → line l m.current ≡ line l (format_words X.kind (X.picture X.fresh) n) = λ l b. line_of_take l (8 * (2 * n + 12)) m.current b ∙ ap (line l) z.1 in
      record {
        told = record {
          turns = λ w. tt;
          answers = λ e g k. absurd (Memᴰ.not-nil k);
          ahead = λ w t q k. absurd (Memᴰ.not-nil k);
          done = λ w t d. absurd (none_done w t d);
        };
        store = inr (record {
          n = n;
          s = 0;
          table = f.down;
          run = refl;
          rests = record {
            head = at 0 (omega arith) ∙ format_head n;
            shows = record {
              workers = λ w b. record {
                count = ap (λ (ws : List ℕ). get_or ws 0 0) (at (record_line n 0 + w) (omega arith)) ∙ sym (line_first (record_line n 0 + w) (format_words X.kind (X.picture X.fresh) n)) ∙ format_worker n w b;
                last = λ c. absurd (omega arith);
              };
              object = λ j b. at (record_line n 0 + n + j) (omega arith) ∙ format_object n j b;
            };
            steady = z.0;
          };
        });
      }
    where
      none_done : (w t : ℕ) → Done w t [] → ⊥
      none_done w t d = elim d [ ]
