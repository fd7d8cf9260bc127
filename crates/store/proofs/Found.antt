-- What a start finds, question by question.
use Rattle.std.proofs.Common.{◌≡◌, ℕ, ◌+◌, ◌*◌, ◌<◌, ◌≤◌, Bool, true, cond, Some, None, Ok, Err, Option, Result, List, length, is_some, sym, refl, ap, ◌∙◌, inl, inr, arith}
use Rattle.std.specs.Prelude.{nat_lt, nat_eq, slice_index}
use Rattle.std.specs.Option.{option_map}
use Rattle.std.proofs.lemmas.Bool.{cases_Bool, ltb-true, cond-true, cond-false, eq-eqb, eqb-true}
use Rattle.memory.specs.Model.{MemoryModel}
use Rattle.objects.specs.Model.{ObjectModel}
use Rattle.machine.specs.declared.refusal.Refusal.{Refusal}
use Rattle.machine.specs.declared.refusal.Refusal.TheVariants.{NoPicture}
use Rattle.machine.specs.Layout.{lines_used, object_at, object_words}
use Rattle.machine.specs.Machine.{words_from}
use Rattle.machine.specs.Calls.{workers_found, found_for, then_found, found}
use Rattle.machine.proofs.Words.{words_take}
use Rattle.store.specs.declared.index.Index.{Index}
use Rattle.store.specs.declared.index.Index.TheVariants.{Zero, One}
use Rattle.store.specs.Indices.{index_word, index_of}

-- a word that is an index
below_two : (i : Index) → nat_lt (index_word i) 2 ≡ true
below_two Zero = refl
below_two One = refl

abbrev word_found : Result Index Refusal → ℕ
word_found (Ok i) = index_word i
word_found (Err k) = 2

few : (i : Index) → index_word i < 2
few i = ltb-true (index_word i) 2 (below_two i)

index_is : (w : ℕ) (i : Index) → index_of w ≡ Ok i → w ≡ index_word i
index_is w i e =
    elim (cases_Bool (nat_eq w 0)) [
      | inl z ↦ eqb-true w 0 z ∙ ap word_found (sym (cond-true _ _ _ z) ∙ e)
      | inr z ↦ elim (cases_Bool (nat_eq w 1)) [
        | inl o ↦ eqb-true w 1 o ∙ ap word_found (sym (cond-false _ _ _ z ∙ cond-true _ _ _ o) ∙ e)
        | inr o ↦ (let q : 2 ≡ index_word i = ap word_found (sym (cond-false _ _ _ z ∙ cond-false _ _ _ o) ∙ e) in absurd (omega (arith, few i)))
      ]
    ]

pub some_mapped : {A B : Type 0} (f : A → B) (o : Option A) → is_some o ≡ is_some (option_map f o)
some_mapped f (Some x) = refl
some_mapped f None = refl

module _ (X : ObjectModel) (m : MemoryModel) where
  pub found_from : (r s : Result ℕ Refusal) → r ≡ workers_found m → r ≡ s → found X m ≡ then_found X m s
  found_from r s e p = ap (then_found X m) (sym e ∙ p)

  found_picture : (n : ℕ) (i : Index) (b : Bool) → nat_eq (slice_index m.current 1) X.kind ≡ true → slice_index m.current 8 ≡ index_word i
      → object_at n (index_word i) + 40 ≤ length m.current → is_some (X.reads (words_from m.current (object_at n (index_word i)) 40)) ≡ b
      → found_for X m n ≡ cond b (Ok (n, index_word i)) (Err NoPicture)
  found_picture n i b k e room p =
      cond-true _ _ _ k ∙ cond-true _ _ _ (ap (λ (w : ℕ). nat_lt w 2) e ∙ below_two i)
      ∙ ap (λ (w : ℕ). cond (is_some (X.reads (object_words m.current n w))) (Ok (n, w)) (Err NoPicture)) e
      ∙ ap (λ (c : Bool). cond c (Ok (n, index_word i)) (Err NoPicture)) (ap (λ ws. is_some (X.reads ws)) (sym (words_take 40 (object_at n (index_word i)) m.current room)) ∙ p)

  -- the same, from what the code read
  pub found_read : {r : Result ℕ Refusal} {q : Result Index Refusal} {n at w₁ kind : ℕ} {i : Index} {ws : List ℕ} {b : Bool}
      → r ≡ workers_found m → r ≡ Ok n → 8 * lines_used n ≤ length m.current
      → w₁ ≡ slice_index m.current 1 → w₁ ≡ kind → kind ≡ X.kind
      → q ≡ index_of (slice_index m.current 8) → q ≡ Ok i
      → at ≡ object_at n (index_word i) → at + 40 ≤ 8 * lines_used n → ws ≡ words_from m.current at 40
      → is_some (X.reads ws) ≡ b → found X m ≡ cond b (Ok (n, index_word i)) (Err NoPicture)
  found_read {n = n} {at = at} {i = i} {b = b} first is-ok room word₁ same kind asked is-index place inside read test =
      found_from _ _ first is-ok
      ∙ found_picture n i b (eq-eqb (slice_index m.current 1) X.kind (sym word₁ ∙ same ∙ kind))
      (index_is (slice_index m.current 8) i (sym asked ∙ is-index))
      (omega (arith, place, inside, room))
      (ap (λ ws. is_some (X.reads ws)) (ap (λ (a : ℕ). words_from m.current a 40) (sym place) ∙ sym read) ∙ test)
