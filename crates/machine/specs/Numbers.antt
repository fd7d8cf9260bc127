-- The number of each answer of a step; the number, the layer and the text of each refusal.
use Rattle.std.specs.Prelude.{ℕ, List, ◌++◌, codes, decimal}
use Rattle.memory.specs.declared.refusal.Refusal.TheVariants.{Outside, NotAllowed}
use Rattle.machine.specs.declared.steps.StepAnswer.{StepAnswer}
use Rattle.machine.specs.declared.steps.StepAnswer.TheVariants.{TookLock, Watches, LineLoaded, Served, LineKept, LineStored, LineAsked, RecordFenced, IndexFlipped, IndexAsked, IndexSynced, LockLeft, AnswerFound, GoesAgain}
use Rattle.machine.specs.declared.refusal.Layer.{Layer}
use Rattle.machine.specs.declared.refusal.Layer.TheVariants.{Store, Module}
use Rattle.machine.specs.declared.refusal.Refusal.{Refusal}
use Rattle.machine.specs.declared.refusal.Refusal.TheVariants.{NotUp, NotDown, NoWorker, PlaceTaken, TurnsUsedUp, NotWaiting, OtherTurn, NotAnswered, TurnOutOfRange, OtherRequest, PlaceNotFree, TurnNotNext, WorkerCount, TooFewLines, WrongContents, WrongKind, WrongIndex, NoPicture, InMemory, LoadedNoPicture}

abbrev pub step_number : StepAnswer → ℕ
step_number TookLock = 1
step_number Watches = 2
step_number LineLoaded = 3
step_number Served = 4
step_number LineKept = 5
step_number LineStored = 6
step_number LineAsked = 7
step_number RecordFenced = 8
step_number IndexFlipped = 9
step_number IndexAsked = 10
step_number IndexSynced = 11
step_number LockLeft = 12
step_number AnswerFound = 13
step_number GoesAgain = 14

-- the question's number, and the layer that asks it
abbrev pub question : Refusal → ℕ × Layer
question NotUp = (1, Store)
question NotDown = (2, Store)
question NoWorker = (3, Store)
question PlaceTaken = (4, Store)
question TurnsUsedUp = (5, Store)
question NotWaiting = (6, Store)
question OtherTurn = (7, Store)
question NotAnswered = (8, Store)
question TurnOutOfRange = (9, Store)
question OtherRequest = (10, Store)
question PlaceNotFree = (11, Store)
question TurnNotNext = (12, Store)
question WorkerCount = (13, Store)
question TooFewLines = (14, Store)
question WrongContents = (15, Store)
question WrongKind = (16, Store)
question WrongIndex = (17, Store)
question NoPicture = (18, Store)
question (InMemory Outside) = (19, Module)
question (InMemory NotAllowed) = (20, Module)
question LoadedNoPicture = (21, Store)

abbrev pub refusal_number : Refusal → ℕ
refusal_number r = (question r).0

abbrev pub refusal_layer : Refusal → Layer
refusal_layer r = (question r).1

abbrev pub layer_name : Layer → List ℕ
layer_name Store = codes "store"
layer_name Module = codes "module"

-- how a refusal reads, by its number and layer
abbrev pub refused_words : ℕ → Layer → List ℕ
refused_words n l = codes "refused " ++ (decimal n ++ (codes " " ++ layer_name l))

abbrev pub refusal_text : Refusal → List ℕ
refusal_text r = refused_words (refusal_number r) (refusal_layer r)
