-- What a `?` hands on: the refusal, as it is.
use Rattle.std.proofs.Common.{◌≡◌, Result, ap, ◌∙◌}
use Rattle.std.specs.Result.{IsErrAnd}
use Rattle.std.proofs.lemmas.Result.{err_from_is_err_and}
use Rattle.words.specs.Outcome.{told, refuse}
use Rattle.words.specs.declared.refusal.Refusal.{Refusal}

pub told_exit : {A : Type 0} (r : Result A Refusal) (e : Refusal) → IsErrAnd r (λ y. y ≡ e) → told r ≡ refuse e
told_exit r e h = let p = err_from_is_err_and r h in ap told p.1 ∙ ap refuse p.2
