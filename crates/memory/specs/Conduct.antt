-- How one kind of memory module behaves: its states, and where each call takes it.
use Rattle.std.specs.Prelude.{◌≡◌, true, cond, List, [], ◌∷◌}
use Rattle.memory.specs.Model.{MemoryModel, Adds}
use Rattle.memory.specs.Post.{CutTo}
use Rattle.memory.specs.Calls.{Call, accepts, effect}

pub record Conduct : Type 1 where
  pub State : Type 0
  pub model : State → MemoryModel
  pub does : Call → State → State
  pub loses : State → State

-- the promise of every memory module: an accepted call does what the rules say, and only allowed arrivals are added, at a cut before the loss
pub record Keeps (C : Conduct) : Type 0 where
  pub adds : (c : Call) (s : C.State) → accepts c (C.model s) ≡ true → Adds (effect c (C.model s)) (C.model (C.does c s))
  pub cuts : (s : C.State) → CutTo (C.model s) (C.model (C.loses s))

module _ (C : Conduct) where
  -- a refused call changes nothing
  abbrev pub after_call : Call → C.State → C.State
  after_call c s = cond (accepts c (C.model s)) (C.does c s) s

  abbrev pub after_calls : List Call → C.State → C.State
  after_calls [] s = s
  after_calls (c ∷ cs) s = after_calls cs (after_call c s)
