use Rattle.std.proofs.Common.{is_some, sym, ap, ◌∙◌}
use Rattle.std.proofs.lemmas.Result.{err_from_is_err_and, IfOk-at_ok}
use Rattle.store.proofs.Found.{found_from, found_read, some_mapped}
use Rattle.store.proofs.store.Store.found.Goals as goal

pub returns-in_err-workers : goal.returns-in_err-workers
returns-in_err-workers g c =
    let p = err_from_is_err_and c.from_residual.result c.from_residual.ensures.1 in
    let m = g.M.Memory.conduct.model (g.M.Memory.meaning c.args.self.now.memory) in
    rw (p.1, p.2) (sym (found_from g.O.Object.model m c.workers_there.result _ c.workers_there.ensures.value c.in_err-workers.was))

pub returns-then-is_none : goal.returns-then-is_none
returns-then-is_none g c =
    sym (found_read g.O.Object.model (g.M.Memory.conduct.model (g.M.Memory.meaning c.args.self.now.memory)) c.workers_there.ensures.value c.in_ok-workers.was
    (IfOk-at_ok _ c.in_ok-workers.was c.workers_there.ensures.room) c.word.ensures c.if-word-kind.false c.kind.ensures c.index_there.ensures c.in_ok-settled.was
    c.object_at.ensures.value c.object_at.ensures.within c.words-picture.ensures
    (ap is_some (sym c.from_picture.ensures) ∙ sym (some_mapped g.O.Object.state c.from_picture.result) ∙ c.if-is_none.ensures))

pub returns : goal.returns
returns g c =
    sym (found_read g.O.Object.model (g.M.Memory.conduct.model (g.M.Memory.meaning c.args.self.now.memory)) c.workers_there.ensures.value c.in_ok-workers.was
    (IfOk-at_ok _ c.in_ok-workers.was c.workers_there.ensures.room) c.word.ensures c.if-word-kind.false c.kind.ensures c.index_there.ensures c.in_ok-settled.was
    c.object_at.ensures.value c.object_at.ensures.within c.words-picture.ensures
    (ap is_some (sym c.from_picture.ensures) ∙ sym (some_mapped g.O.Object.state c.from_picture.result) ∙ c.if-is_none.ensures))
