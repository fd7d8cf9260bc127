-- The numbers of workers that a store can have.
use Rattle.std.specs.Prelude.{◌≡◌, ℕ, cond, ◌&&◌, Ok, Err, Result, nat_le}
use Rattle.machine.specs.declared.refusal.Refusal.{Refusal}
use Rattle.machine.specs.declared.refusal.Refusal.TheVariants.{WorkerCount}

abbrev pub workers_of : ℕ → Result ℕ Refusal
workers_of n = cond (nat_le 1 n && nat_le n 8) (Ok n) (Err WorkerCount)

abbrev pub WorkersOf : ℕ → Result ℕ Refusal → Type 0
WorkersOf n r = r ≡ workers_of n
