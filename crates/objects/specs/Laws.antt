-- What a queue and a stack promise of every run of operations, told by what went in and what came out.
use Rattle.std.specs.Prelude.{◌≡◌, ℕ, cond, List, [], ◌∷◌, ◌++◌, Ok, Err, ◌==◌}
use Rattle.objects.specs.Answers.{Answer}
use Rattle.objects.specs.Model.{ObjectModel}
use Rattle.objects.specs.Rows.{First, Rest, clip, oldest, newest, but_oldest, but_newest, row_model}

pub record Operation : Type 0 where
  pub op : ℕ
  pub arg : ℕ

-- an operation and what it answered
pub record Event : Type 0 where
  pub operation : Operation
  pub answer : Answer

-- the state after a run, which is a list of operations, and the events on the way
abbrev pub after_run : (X : ObjectModel) → X.State → List Operation → X.State
after_run X s [] = s
after_run X s (o ∷ os) = after_run X (X.next s o.op o.arg) os

abbrev pub events : (X : ObjectModel) → X.State → List Operation → List Event
events X s [] = []
events X s (o ∷ os) = record { operation = o; answer = X.answer s o.op o.arg } ∷ events X (X.next s o.op o.arg) os

-- what an event does: a done operation 1 puts its argument in, a done operation 2 gives its value out
pub data Deed : Type 0 where
  puts : ℕ → Deed
  gives : ℕ → Deed
  neither : Deed

abbrev pub deed_when : Operation → Answer → Deed
deed_when o (Ok value) = cond (o.op == 1) (puts o.arg) (cond (o.op == 2) (gives value) neither)
deed_when o (Err denied) = neither

abbrev pub deed_of : Event → Deed
deed_of e = deed_when e.operation e.answer

abbrev pub word_in : Deed → List ℕ
word_in (puts x) = x ∷ []
word_in (gives x) = []
word_in neither = []

abbrev pub word_out : Deed → List ℕ
word_out (puts x) = []
word_out (gives x) = x ∷ []
word_out neither = []

-- the words that events put in, and those that they give out, in their order
abbrev pub put_in : List Event → List ℕ
put_in [] = []
put_in (e ∷ es) = word_in (deed_of e) ++ put_in es

abbrev pub given_out : List Event → List ℕ
given_out [] = []
given_out (e ∷ es) = word_out (deed_of e) ++ given_out es

-- what the events of a run have to do with the words that are left after it
abbrev pub Promise : Type 1
Promise = List Event → List ℕ → Type 0

-- the promise holds of every run of a fresh object with this end
abbrev pub Keeps : ℕ → First → Rest → Promise → Type 0
Keeps kind first rest promise = (run : List Operation) → promise (events (row_model kind first rest) (clip []) run) (after_run (row_model kind first rest) (clip []) run).items

-- what was put in is what was given out, in the same order, and then what is left, oldest first
abbrev pub InOrder : Promise
InOrder es left = put_in es ≡ given_out es ++ left

-- a queue gives its words out in the order in which they were put in
abbrev pub QueueLaw : Type 0
QueueLaw = Keeps 1 oldest but_oldest InOrder

-- events that leave nothing behind: each word given out is the latest that was put in and not yet given out
pub data Balanced : List Event → Type 0 where
  nothing : Balanced []
  idle : (e : Event) → deed_of e ≡ neither → Balanced (e ∷ [])
  one_after_another : {es fs : List Event} → Balanced es → Balanced fs → Balanced (es ++ fs)
  put_and_given : (x : ℕ) (p g : Event) {es : List Event} → deed_of p ≡ puts x → Balanced es → deed_of g ≡ gives x → Balanced (p ∷ (es ++ (g ∷ [])))

-- events that leave these words behind, the latest last: between the puts of those words all is balanced
pub data Leaves : List Event → List ℕ → Type 0 where
  balanced : {es : List Event} → Balanced es → Leaves es []
  then_put : {es fs : List Event} {xs : List ℕ} (x : ℕ) (p : Event) → Leaves es xs → deed_of p ≡ puts x → Balanced fs → Leaves (es ++ (p ∷ fs)) (xs ++ (x ∷ []))

-- a stack gives out the latest word that is still in, and what is left, top last, is what its events leave behind
abbrev pub StackLaw : Type 0
StackLaw = Keeps 2 newest but_newest Leaves
