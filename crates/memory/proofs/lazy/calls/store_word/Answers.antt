-- A word that is stored is in the caller's words when the loan ends, and a refused one changes nothing.
use Rattle.std.proofs.Common.{ap, ◌∙◌, rules}
use Rattle.memory.specs.Model.{MemoryModel}
use Rattle.memory.specs.Post.{stores}
use Rattle.memory.proofs.Stored.{stored_back}
use Rattle.memory.proofs.lazy.calls.store_word.Goals as goal

pub returns-clause-after : goal.returns-clause-after
returns-clause-after c =
    let e = c.store.ensures.moved.lent ∙ c.new-module.ensures.lent in
    let k = ap (λ (n : MemoryModel). n.kept) (c.store.ensures.moved.after ∙ ap (stores c.args.word c.args.value) c.new-module.ensures.after) in
    search (rules, stored_back)
